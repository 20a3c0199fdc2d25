use mathlib.Core.Path.{◌≡◌, refl, ap, ◌∙◌}
use Prim.Native.Nat.{ℕ, suc, ◌+◌, ◌-◌, ◌≤◌}
use mathlib.Core.List.{List}
use native.Mathlib.Omega.{arith}
use lib.ListN.{length, set, replicate, length-set}
use Rattle.table.specs.Sum.{Read}
use Rattle.table.specs.Format.{table_of, code_at, argument_at}
use Rattle.canonical.specs.Code.NumberWalk.{cut16}
use Rattle.canonical.specs.Code.NumberWalk.{forked_sizes, sizes_down}
use Rattle.canonical.specs.Code.NumbersOf.{Roomy}
use Rattle.canonical.proofs.numbers.fill_sizes.Invariants.{Inv}
use Rattle.canonical.proofs.numbers.fill_sizes.Goals as goal

begin : (s : List ℕ) (n : ℕ) (actions : List ℕ) → Roomy s n actions → Inv s n actions (replicate 1024 0) n
begin s n actions r = record { roomy = r; within = omega arith; sized = refl; same = refl }

module _ (s : List ℕ) (n : ℕ) (actions sizes : List ℕ) (t : ℕ) (v : Inv s n actions sizes t) where
  again : (u : ℕ) → suc u ≡ t → (first count : ℕ) → first ≡ (table_of s).first u → count ≡ (table_of s).count u → (total : ℕ)
      → Read (forked_sizes (code_at actions) (argument_at actions) sizes first count) 4294967296 total
      → (sizes₁ : List ℕ) → sizes₁ ≡ set sizes u (cut16 (1 + total)) → Inv s n actions sizes₁ u
  unfolding sizes_down table_of
  again u p first count a b total w sizes₁ d =
      let z : total ≡ forked_sizes (table_of s).code (table_of s).argument sizes ((table_of s).first u) ((table_of s).count u) = w.value ∙ rw (a, b, v.roomy.part, v.roomy.counted) in
      let y : 1 + total ≡ suc (forked_sizes (table_of s).code (table_of s).argument sizes ((table_of s).first u) ((table_of s).count u)) = omega (arith, z) in
      let e : sizes₁ ≡ set sizes u (cut16 (suc (forked_sizes (table_of s).code (table_of s).argument sizes ((table_of s).first u) ((table_of s).count u)))) = d ∙ ap (λ (x : ℕ). set sizes u (cut16 x)) y in
      record {
        roomy = v.roomy;
        within = omega (arith, v.within);
        sized = ap length d ∙ length-set sizes u (cut16 (1 + total)) ∙ v.sized;
        same = ap (sizes_down cut16 (table_of s) u) e ∙ rw (← p) at v.same;
      }

  done : t ≤ 0 → sizes ≡ sizes_down cut16 (table_of s) n (replicate 1024 0)
  unfolding sizes_down
  done h = let z : t ≡ 0 = omega arith in rw z at v.same

pub loop-t-init : goal.loop-t-init
loop-t-init c = begin c.args.table.now c.args.n c.args.actions.now c.requires

pub forked_sizes-total-requires : goal.forked_sizes-total-requires
forked_sizes-total-requires c = (c.loop-t.invariant.sized, record { first_small = c.first.ensures.small; count_small = c.count.ensures.small })

pub overflow_add-total : goal.overflow_add-total
overflow_add-total c = omega (arith, c.forked_sizes-total.ensures.small)

pub put_number-requires : goal.put_number-requires
put_number-requires c = c.loop-t.invariant.sized

pub loop-t-preserved : goal.loop-t-preserved
loop-t-preserved c =
    let d = c.args in
    again d.table.now d.n d.actions.now c.loop-t.sizes c.loop-t.t c.loop-t.invariant (c.loop-t.t - 1) (omega arith)
    c.first.result c.count.result c.first.ensures.value c.count.ensures.value
    c.forked_sizes-total.result c.forked_sizes-total.ensures _ c.put_number.ensures

pub returns : goal.returns
returns c =
    let d = c.args in
    done d.table.now d.n d.actions.now c.loop-t.sizes c.loop-t.t c.loop-t.invariant c.loop-t-test.false
