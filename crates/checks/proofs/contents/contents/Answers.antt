use Rattle.std.specs.Prelude.{Err, Ok}
use mathlib.Core.Path.{◌≡◌, refl, sym, ap, ◌∙◌}
use Prim.Native.Nat.{ℕ, ◌+◌, ◌<◌, ◌≤◌}
use mathlib.Core.List.{List}
use mathlib.Core.Bool.{true, false, not, ◌||◌}
use native.Mathlib.Numerals.{add-one}
use native.Mathlib.Omega.{arith}
use borrow.Author.Tests.{eq-eqb, ne_eqb}
use lib.Dec.{eqb}
use Rattle.table.specs.Sum.{sum_to}
use Rattle.table.specs.Format.{table_of, threads_of, actions_of}
use Rattle.table.specs.Pass.{try_at, try_from, try_pass, or_else, refusal}
use Rattle.table.specs.Checks.{counts_below, entry_wrong, total_wrong, entries_pass, total_pass}
use Rattle.table.specs.Code.Steps.{Headed}
use Rattle.table.proofs.Sizes.{sizes}
use Rattle.table.proofs.Trying.{try_from_next, try_from_here, try_from_last, try_from_all}
use Rattle.checks.proofs.contents.contents.Invariants.{Inv}
use Rattle.checks.proofs.contents.contents.Goals as goal

start : {s : List ℕ} {n m : ℕ} → Headed s n m → Inv s n m 0 0
unfolding table_of try_pass sum_to
start h =
    record {
      sizes = sizes h;
      headed = h;
      within = omega arith;
      counted = refl;
      small = omega arith;
      remains = rw h.threads (try_from_all _ _);
    }

module _ {s : List ℕ} {n m sum t first count : ℕ} (i : Inv s n m sum t) (h : t < n) (e : first ≡ (table_of s).first t) (d : count ≡ (table_of s).count t) where
  again : (not (eqb first sum) || eqb count 0) ≡ false → count < 65536 → Inv s n m (sum + count) (t + 1)
  unfolding table_of try_at entry_wrong sum_to
  again w b =
      record {
        sizes = i.sizes;
        headed = i.headed;
        within = omega arith;
        counted = rw add-one (cc);
        small = omega (arith, i.small);
        remains = sym (try_from_next _ t n h (simp (← e, ← d, ← i.counted, w))) ∙ i.remains;
      }

  stops : (not (eqb first sum) || eqb count 0) ≡ true → Err (refusal 4 t) ≡ or_else (try_pass (entries_pass (table_of s))) (try_pass (total_pass (table_of s)))
  unfolding table_of try_at entry_wrong
  stops w = rw (← i.remains, try_from_here (entries_pass (table_of s)).checks t n h (refusal 4 t) (simp (← e, ← d, ← i.counted, w)))

module _ {s : List ℕ} {n m sum t : ℕ} (i : Inv s n m sum t) (h : n ≤ t) where
  at_end_lem : t ≡ n
  at_end_lem = omega arith

  none : try_pass (entries_pass (table_of s)) ≡ Ok tt
  none = sym i.remains ∙ try_from_last _ t n at_end_lem

  unequal : (sum ≡ m → ⊥) → Err (refusal 4 n) ≡ or_else (try_pass (entries_pass (table_of s))) (try_pass (total_pass (table_of s)))
  unfolding table_of try_pass try_from try_at total_wrong
  unequal w =
      let k : counts_below (table_of s) (threads_of s) ≡ actions_of s → ⊥ = λ q. w (cc at_end_lem) in
      rw none (simp (ne_eqb _ _ k, i.headed.threads))

  equal : sum ≡ m → (Ok tt) ≡ or_else (try_pass (entries_pass (table_of s))) (try_pass (total_pass (table_of s)))
  unfolding table_of try_pass try_from try_at total_wrong
  equal w =
      let k : counts_below (table_of s) (threads_of s) ≡ actions_of s = cc at_end_lem in
      rw none (simp (eq-eqb _ _ k))

pub loop-t-init : goal.loop-t-init
loop-t-init c = start c.requires

pub returns-then-entry_wrong : goal.returns-then-entry_wrong
returns-then-entry_wrong c =
    ap Err c.new.ensures
    ∙ stops c.loop-t.invariant c.loop-t-test.true c.first-first.ensures.value c.count-count.ensures.value
    (sym c.entry_wrong.ensures ∙ c.if-entry_wrong.true)

pub overflow_add-sum : goal.overflow_add-sum
overflow_add-sum c = omega arith

pub loop-t-preserved : goal.loop-t-preserved
loop-t-preserved c =
    again c.loop-t.invariant c.loop-t-test.true c.first-first.ensures.value c.count-count.ensures.value
    (sym c.entry_wrong.ensures ∙ c.if-entry_wrong.false)
    c.count-count.ensures.small

pub returns-then-sum-m : goal.returns-then-sum-m
returns-then-sum-m c =
    ap Err c.new-then-sum-m.ensures ∙ unequal c.loop-t.invariant c.loop-t-test.false c.if-sum-m.true

pub returns : goal.returns
returns c =
    equal c.loop-t.invariant c.loop-t-test.false c.if-sum-m.false
