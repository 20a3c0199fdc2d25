-- `soundness::blank::blank_in` meets its contract: the tests are the clauses, in their order.
use mathlib.Core.Path.{◌≡◌, ◌∙◌, sym}
use Prim.Native.Nat.{ℕ}
use mathlib.Core.List.{List}
use mathlib.Core.Bool.{Bool, ◌&&◌, and_assoc}
use borrow.Author.Tests.{eq-eqb, ne_eqb}
use lib.ListN.{length, get_or, replicate}
use lib.Dec.{eqb}
use Rattle.schedule.specs.declared.Worker.{Worker}
use Rattle.schedule.specs.Machine.{nobody}
use Rattle.schedule.specs.Links.{Links}
use Rattle.order.specs.Words.{all_below, same_list}
use Rattle.schedule.specs.Turn.{is_nobody}
use Rattle.soundness.specs.Code.Checks.{zero_arrays}
use Rattle.soundness.specs.Tested.{blank_on}
use Rattle.soundness.proofs.Chains.{cut, pass}
use Rattle.soundness.proofs.blank.blank_in.Goals as goal

regroup : (p q a b c d e f g h t : Bool)
    → (p && (q && ((a && (b && (c && (d && e)))) && (f && ((g && h) && t))))) ≡ (p && (q && (a && (b && (c && (d && (e && (f && (g && (h && t))))))))))
regroup p q a b c d e f g h t = simp and_assoc

module _ (p K : ℕ) (next status amounts : List ℕ) (k : Links) (workers : List Worker) (set amount highest turns : ℕ) where
  abbrev free : Bool
  free = eqb (length workers) 16 && all_below (λ w. is_nobody (get_or workers w nobody)) 16

  abbrev uncounted : Bool
  uncounted = eqb set 0 && (eqb amount 0 && (eqb highest 0 && eqb turns 0))

  -- the clauses as the code groups them
  grouped : {r : Bool} → r ≡ (eqb p 0 && (eqb K 0 && (zero_arrays next status amounts k.left k.right && (eqb k.head 0 && (free && uncounted)))))
      → r ≡ blank_on p K next status amounts k workers set amount highest turns
  unfolding blank_on
  grouped e =
      e
      ∙ regroup (eqb p 0) (eqb K 0) (same_list next (replicate 1024 0)) (same_list status (replicate 1024 0)) (same_list amounts (replicate 1024 0))
      (same_list k.left (replicate 1024 0)) (same_list k.right (replicate 1024 0)) (eqb k.head 0) (eqb (length workers) 16)
      (all_below (λ w. is_nobody (get_or workers w nobody)) 16) uncounted

pub returns-then-p-ne0 : goal.returns-then-p-ne0
returns-then-p-ne0 c = grouped _ _ _ _ _ _ _ _ _ _ _ (cut _ (ne_eqb _ 0 c.if-p-ne0.true))

pub returns-then-quota-ne0 : goal.returns-then-quota-ne0
returns-then-quota-ne0 c = grouped _ _ _ _ _ _ _ _ _ _ _ (pass (eq-eqb _ 0 c.if-p-ne0.false) (cut _ (ne_eqb _ 0 c.if-quota-ne0.true)))

pub returns-then-not-zero_arrays : goal.returns-then-not-zero_arrays
returns-then-not-zero_arrays c =
    grouped _ _ _ _ _ _ _ _ _ _ _
    (pass (eq-eqb _ 0 c.if-p-ne0.false) (pass (eq-eqb _ 0 c.if-quota-ne0.false) (cut _ (sym c.zero_arrays.ensures ∙ c.if-not-zero_arrays.true))))

pub returns-then-leftmost-ne0 : goal.returns-then-leftmost-ne0
returns-then-leftmost-ne0 c =
    grouped _ _ _ _ _ _ _ _ _ _ _
    (pass (eq-eqb _ 0 c.if-p-ne0.false)
    (pass (eq-eqb _ 0 c.if-quota-ne0.false) (pass (sym c.zero_arrays.ensures ∙ c.if-not-zero_arrays.false) (cut _ (ne_eqb _ 0 c.if-leftmost-ne0.true)))))

pub returns-then-not-all_free : goal.returns-then-not-all_free
returns-then-not-all_free c =
    grouped _ _ _ _ _ _ _ _ _ _ _
    (pass (eq-eqb _ 0 c.if-p-ne0.false)
    (pass (eq-eqb _ 0 c.if-quota-ne0.false)
    (pass (sym c.zero_arrays.ensures ∙ c.if-not-zero_arrays.false) (pass (eq-eqb _ 0 c.if-leftmost-ne0.false) (cut _ (sym c.all_free.ensures ∙ c.if-not-all_free.true))))))

pub returns : goal.returns
returns c =
    grouped _ _ _ _ _ _ _ _ _ _ _
    (pass (eq-eqb _ 0 c.if-p-ne0.false)
    (pass (eq-eqb _ 0 c.if-quota-ne0.false)
    (pass (sym c.zero_arrays.ensures ∙ c.if-not-zero_arrays.false) (pass (eq-eqb _ 0 c.if-leftmost-ne0.false) (pass (sym c.all_free.ensures ∙ c.if-not-all_free.false) c.zero_totals.ensures)))))
