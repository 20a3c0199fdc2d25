-- `soundness::listed::list_follows` meets its contract: where all threads of the list are below n, the marks are the threads in the list.
use mathlib.Core.Path.{◌≡◌, sym, ◌∙◌, ap}
use Prim.Native.Nat.{ℕ}
use mathlib.Core.List.{List}
use mathlib.Core.Bool.{Bool, true, false, not, ◌&&◌, and-false, and-true}
use borrow.Author.Tests.{not-true, not-false}
use lib.Dec.{ltb}
use lib.ListN.{get_or, take}
use Rattle.schedule.specs.Sound.{live_in, list_follows}
use Rattle.order.specs.Words.{all_below, all_in, member, agree}
use Rattle.order.proofs.Every.{all_cong}
use Rattle.soundness.proofs.listed.list_follows.Goals as goal

abbrev follows : List ℕ → List ℕ → ℕ → Bool
follows status l = list_follows status l

abbrev below : ℕ → List ℕ → Bool
below n l = all_in (λ t. ltb t n) l

module _ (n : ℕ) (status l : List ℕ) (r : Bool) (e : r ≡ below n l) where
  beyond : not r ≡ true → false ≡ (all_below (follows status l) n && below n l)
  beyond k =
      let z : below n l ≡ false = sym e ∙ not-true r k in
      rw z (sym (and-false (all_below (follows status l) n)))

  within : not r ≡ false → (marks : List Bool) → (r ≡ true → (t : ℕ) → get_or marks t false ≡ member t l)
      → all_below (λ t. agree (get_or marks t false) (live_in status t)) n ≡ (all_below (follows status l) n && below n l)
  unfolding list_follows live_in
  within k marks h =
      let z : below n l ≡ true = sym e ∙ not-false r k in
      rw z (all_cong _ (follows status l) n (λ t p. rw (h (not-false r k) t)) ∙ sym (and-true (all_below (follows status l) n)))

pub returns-then-not-mark_listed : goal.returns-then-not-mark_listed
returns-then-not-mark_listed c =
    let a = c.args in
    beyond _ a.status.now (take a.len a.list.now) _ c.mark_listed.ensures.value (ap not c.if-not-mark_listed.true)

pub returns : goal.returns
returns c =
    let a = c.args in
    c.marks_right.ensures
    ∙ within _ a.status.now (take a.len a.list.now) _ c.mark_listed.ensures.value (ap not c.if-not-mark_listed.false) c.mark_listed.new.marks
    c.mark_listed.ensures.false_after
