use mathlib.Core.Path.{◌≡◌, refl, ap, ◌∙◌}
use Prim.Native.Nat.{ℕ, suc, ◌+◌, ◌-◌, ◌≤◌, ◌<◌}
use mathlib.Core.List.{List}
use native.Mathlib.Omega.{arith}
use lib.ListN.{length, get_or, replicate}
use borrow.Author.Tests.{lt-ltb, le-ltb}
use Rattle.table.specs.Format.{threads_of, table_of, bodies_from, code_at, argument_at}
use Rattle.canonical.specs.Code.NumberWalk.{cut16}
use Rattle.canonical.specs.Code.NumberWalk.{Numbered, numbered, sizes_down, number_body, number_thread, numbers_up}
use Rattle.canonical.specs.Code.NumbersOf.{numbers_of}
use Rattle.canonical.proofs.NumberWalk.{body_new_length, sizes_length}
use Rattle.canonical.proofs.numbers.numbers_in.Invariants.{Inv}
use Rattle.canonical.proofs.numbers.numbers_in.Goals as goal

begin : (s : List ℕ) (n : ℕ) (actions sizes : List ℕ) → n ≡ threads_of s → n ≤ 1024 → actions ≡ bodies_from s n → sizes ≡ sizes_down cut16 (table_of s) n (replicate 1024 0) → Inv s n actions sizes (replicate 1024 0) 0
begin s n actions sizes c f p e =
    let q : n - 0 ≡ n = omega arith in
    record { roomy = record { counted = c; few = f; part = p }; filled = e; within = omega arith; sized = refl; same = rw q }

too_many : (s : List ℕ) (n : ℕ) → n ≡ threads_of s → 1024 < n → replicate 1024 0 ≡ numbers_of s
unfolding numbers_of
too_many s n e h = rw (lt-ltb 1024 (threads_of s) (omega arith))

module _ (s : List ℕ) (n : ℕ) (actions sizes new : List ℕ) (t : ℕ) (v : Inv s n actions sizes new t) where
  sizes_sized : length sizes ≡ 1024
  sizes_sized = ap length v.filled ∙ sizes_length cut16 (table_of s) n (replicate 1024 0)

  again : t < n → (first count start : ℕ) → first ≡ (table_of s).first t → count ≡ (table_of s).count t → start ≡ suc (get_or new t 0) → (new₁ : List ℕ) (next : ℕ)
      → numbered new₁ next ≡ number_body cut16 (code_at actions) (argument_at actions) sizes first count (numbered new start) → Inv s n actions sizes new₁ (t + 1)
  unfolding numbers_up table_of
  again h first count start a b d new₁ next w =
      let z : numbered new₁ next ≡ number_body cut16 (table_of s).code (table_of s).argument sizes ((table_of s).first t) ((table_of s).count t) (numbered new (suc (get_or new t 0))) = w ∙ rw (a, b, d, v.roomy.part, v.roomy.counted) in
      let e : new₁ ≡ number_thread cut16 (table_of s) sizes t new = ap (λ (y : Numbered). y.new) z in
      let q : n - t ≡ suc (n - (t + 1)) = omega arith in
      let p : t + 1 ≡ suc t = omega arith in
      let y : numbers_up cut16 (table_of s) sizes (suc t) (n - (t + 1)) (number_thread cut16 (table_of s) sizes t new) ≡ numbers_up cut16 (table_of s) sizes 0 n (replicate 1024 0) = rw q at v.same in
      record {
        roomy = v.roomy;
        filled = v.filled;
        within = omega arith;
        sized = ap (λ (y : Numbered). length y.new) w ∙ body_new_length cut16 (code_at actions) (argument_at actions) sizes count first (numbered new start) ∙ v.sized;
        same = ap (λ (x : List ℕ). numbers_up cut16 (table_of s) sizes (t + 1) (n - (t + 1)) x) e ∙ ap (λ (j : ℕ). numbers_up cut16 (table_of s) sizes j (n - (t + 1)) (number_thread cut16 (table_of s) sizes t new)) p ∙ y;
      }

  done : n ≤ t → new ≡ numbers_of s
  unfolding numbers_of numbers_up table_of
  done h =
      let q : n - t ≡ 0 = omega arith in
      let w : new ≡ numbers_up cut16 (table_of s) sizes 0 n (replicate 1024 0) = rw q at v.same in
      let x : numbers_up cut16 (table_of s) sizes 0 n (replicate 1024 0) ≡ numbers_up cut16 (table_of s) (sizes_down cut16 (table_of s) (threads_of s) (replicate 1024 0)) 0 (threads_of s) (replicate 1024 0) =
      ap (λ (l : List ℕ). numbers_up cut16 (table_of s) l 0 n (replicate 1024 0)) v.filled
      ∙ ap (λ (k : ℕ). numbers_up cut16 (table_of s) (sizes_down cut16 (table_of s) k (replicate 1024 0)) 0 k (replicate 1024 0)) v.roomy.counted in
      rw (le-ltb 1024 (threads_of s) (omega (arith, v.roomy))) (w ∙ x)

pub returns-then-n-gt1024 : goal.returns-then-n-gt1024
returns-then-n-gt1024 c = too_many c.args.table.now c.threads-n.result c.threads-n.ensures.value c.if-n-gt1024.true

pub fill_sizes-requires : goal.fill_sizes-requires
fill_sizes-requires c = record { counted = c.threads-n.ensures.value; few = c.if-n-gt1024.false; part = c.bodies-actions.ensures }

pub loop-t-init : goal.loop-t-init
loop-t-init c =
    begin c.args.table.now c.threads-n.result c.bodies-actions.result.now _ c.threads-n.ensures.value c.if-n-gt1024.false c.bodies-actions.ensures c.fill_sizes.ensures

pub number_at-start-requires : goal.number_at-start-requires
number_at-start-requires c = c.loop-t.invariant.sized

pub overflow_add-start : goal.overflow_add-start
overflow_add-start c = omega (arith, c.number_at-start.ensures.small)

pub number_walk-requires : goal.number_walk-requires
number_walk-requires c =
    (sizes_sized c.args.table.now c.threads-n.result c.bodies-actions.result.now _ c.loop-t.new c.loop-t.t c.loop-t.invariant, c.loop-t.invariant.sized, omega (arith, c.number_at-start.ensures.small), record { first_small = c.first.ensures.small; count_small = c.count.ensures.small })

pub loop-t-preserved : goal.loop-t-preserved
loop-t-preserved c =
    again c.args.table.now c.threads-n.result c.bodies-actions.result.now _ c.loop-t.new c.loop-t.t c.loop-t.invariant c.loop-t-test.true
    c.first.result c.count.result (1 + c.number_at-start.result) c.first.ensures.value c.count.ensures.value (omega (arith, c.number_at-start.ensures.value)) _ c.number_walk.result c.number_walk.ensures

pub returns : goal.returns
returns c =
    done c.args.table.now c.threads-n.result c.bodies-actions.result.now _ c.loop-t.new c.loop-t.t c.loop-t.invariant c.loop-t-test.false
