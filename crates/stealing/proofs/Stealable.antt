-- Whether a stolen thread's first action fits, by its kind and from numbers that stand there before the steal.
use mathlib.Core.Path.{◌≡◌, refl, sym, ◌∙◌}
use Prim.Native.Nat.{ℕ, ◌+◌, ◌<◌}
use native.Mathlib.Omega.{arith}
use mathlib.Core.Bool.{Bool, true, false, not, ◌&&◌, ◌||◌}
use borrow.Author.Tests.{lt-ltb, le-leb, ltb-false}
use lib.Dec.{ltb, leb, eqb}
use lib.ListN.{get_or, set}
use Rattle.table.specs.Sum.{pick}
use Rattle.table.specs.Format.{Table, kind_of}
use Rattle.table.specs.declared.kinds.Kind.{Kind}
use Rattle.table.specs.declared.kinds.Kind.TheVariants.{End as end, Work as work, Alloc as alloc, Free as free, Fork as fork, Join as join, Unknown as unknown}
use Rattle.schedule.specs.Machine.{drawn, ready, held, ended}
use Rattle.array_machine.specs.Arrays.{Arrays, with_statuses}
use Rattle.array_machine.specs.Turn.{Outcome, next_fits, amount_fits, act_on, act_in}
use Rattle.run_memory.specs.Memory.{Memory, moved_in}
use Rattle.stealing.specs.Code.{thief, stolen_on}
use Rattle.stealing.proofs.Fits.{steal_fits}
use Rattle.stealing.proofs.Steals.{same_ended}

picked : (q : Bool) (o v : Outcome) → o.fits ≡ true → v.fits ≡ false → (pick q o v).fits ≡ q
picked true o v e f = e
picked false o v e f = f

-- no alloc is beyond the whole quota: a larger one draws nothing (N6)
within : (K x : ℕ) → leb (drawn K x) K ≡ true
within K x = go (ltb K x) refl
  where
    go : (q : Bool) → ltb K x ≡ q → leb (pick q 0 x) K ≡ true
    go true e = le-leb 0 K (omega arith)
    go false e = le-leb x K (omega (arith, ltb-false K x e))

module _ (T : Table) (b : ℕ) (M : Memory) (l : b < 1024) (r : get_or M.arrays.status b 0 ≡ ready) {a : ℕ} (q : a ≡ get_or M.arrays.next b 0)
    {k : ℕ} (i : k ≡ T.code a) {h : Kind} (g : h ≡ kind_of k) {x : ℕ} (j : x ≡ T.argument a) where
  abbrev K : ℕ
  K = get_or M.settings 1 0

  abbrev A : Arrays
  A = with_statuses (set M.arrays.status b held) M.arrays

  abbrev there : Kind → Outcome
  there y = act_on y T K M.parents b a x A (moved_in M).totals (thief b M)

  at_kind : (y : Kind) → h ≡ y → (stolen_on T b M).fits ≡ (there y).fits
  unfolding act_in
  at_kind y e = steal_fits T K M.parents b M.arrays (moved_in M).totals (thief b M) ∙ rw (lt-ltb b 1024 l, ← q, ← i, ← j, ← g, e)

  pub work_fits : {f : Bool} → h ≡ work → f ≡ next_fits a → f ≡ (stolen_on T b M).fits
  unfolding act_on
  work_fits e d = d ∙ sym (at_kind work e ∙ picked (next_fits a) _ _ refl refl)

  pub alloc_fits : {f : Bool} {own all : ℕ} → h ≡ alloc → own ≡ get_or M.arrays.amounts b 0 → all ≡ (moved_in M).totals.held → f ≡ (next_fits a && (amount_fits (all + x) && amount_fits (own + x)))
      → f ≡ (stolen_on T b M).fits
  unfolding act_on
  alloc_fits e u v d = d ∙ (λ n. next_fits a && (amount_fits (v n + x) && amount_fits (u n + x))) ∙ sym (at_kind alloc e ∙ rw (within K x) (picked (next_fits a && (amount_fits ((moved_in M).totals.held + x) && amount_fits (get_or M.arrays.amounts b 0 + x))) _ _ refl refl))

  pub free_fits : {f : Bool} {own all : ℕ} → h ≡ free → own ≡ get_or M.arrays.amounts b 0 → all ≡ (moved_in M).totals.held → f ≡ (next_fits a && (leb x all && leb x own)) → f ≡ (stolen_on T b M).fits
  unfolding act_on
  free_fits e u v d = d ∙ (λ n. next_fits a && (leb x (v n) && leb x (u n))) ∙ sym (at_kind free e ∙ picked (next_fits a && (leb x (moved_in M).totals.held && leb x (get_or M.arrays.amounts b 0))) _ _ refl refl)

  pub fork_fits : {f : Bool} → h ≡ fork → f ≡ (next_fits a && ltb x 1024) → f ≡ (stolen_on T b M).fits
  unfolding act_on
  fork_fits e d = d ∙ sym (at_kind fork e ∙ picked (next_fits a && ltb x 1024) _ _ refl refl)

  abbrev joins : Bool
  joins = next_fits a && amount_fits (get_or M.arrays.amounts b 0 + get_or M.arrays.amounts x 0)

  pub join_fits : {f : Bool} {own : ℕ} → h ≡ join → own ≡ get_or M.arrays.amounts b 0
      → f ≡ (ltb x 1024 && (not (eqb (get_or M.arrays.status x 0) ended) || (next_fits a && amount_fits (own + get_or M.arrays.amounts x 0)))) → f ≡ (stolen_on T b M).fits
  unfolding act_on
  join_fits e y d = d ∙ (λ n. ltb x 1024 && (not (eqb (get_or M.arrays.status x 0) ended) || (next_fits a && amount_fits (y n + get_or M.arrays.amounts x 0)))) ∙ go (ltb x 1024) refl (eqb (get_or M.arrays.status x 0) ended) refl ∙ sym (at_kind join e)
    where
      go : (p : Bool) → ltb x 1024 ≡ p → (q : Bool) → eqb (get_or M.arrays.status x 0) ended ≡ q → (ltb x 1024 && (not (eqb (get_or M.arrays.status x 0) ended) || joins)) ≡ (there join).fits
      go true u true v = rw (u, same_ended M.arrays.status b r x, v) (sym (picked joins _ _ refl refl))
      go true u false v = rw (u, same_ended M.arrays.status b r x, v)
      go false u q v = rw u

  pub end_fits : h ≡ end → true ≡ (stolen_on T b M).fits
  unfolding act_on
  end_fits e = sym (at_kind end e)

  pub unknown_fits : h ≡ unknown → true ≡ (stolen_on T b M).fits
  unfolding act_on
  unknown_fits e = sym (at_kind unknown e)
