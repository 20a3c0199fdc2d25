-- One action more done, and the others as before: what a sound state says of what is done stays, and the amounts move by the action's.
use mathlib.Core.Path.{◌≡◌, sym, ◌∙◌}
use Prim.Native.Nat.{ℕ, suc, ◌+◌, ◌<◌}
use mathlib.Core.List.{Memᴰ}
use mathlib.Core.Bool.{false}
use native.Mathlib.Decide.{ℕ_discrete}
use native.Mathlib.Omega.{arith}
use lib.Dec.{eqb}
use borrow.Author.Tests.{eqb-false, ne_eqb}
use Rattle.table.specs.Format.{Table, kind}
use Rattle.table.specs.declared.kinds.Kind.TheVariants.{Fork as fork}
use Rattle.table.specs.Checks.{owner, alloc_of, free_of}
use Rattle.table.specs.Level.{fork_below, depends_on}
use Rattle.table.proofs.Sums.{sum_to_one}
use Rattle.table.proofs.Nesting.{fork_found, fork_exists}
use Rattle.schedule.specs.Machine.{State, ended, next_of, status_of}
use Rattle.schedule.specs.Sound.{is_done, of_done, sum_done}
use Rattle.order.proofs.Lawful.{Lawful}
use Rattle.order.proofs.Words.{ltb_next}
use Rattle.schedule.proofs.Sound.Facts.{Done, Facts}
use Rattle.schedule.proofs.Sound.Done.{undone, done_low, done_live, done_alike}

-- action a is done, and of the others the same ones as before
pub record Does (T : Table) (a : ℕ) (st st' : State) : Type 0 where
  pub not_yet : is_done T st a ≡ false
  pub now : Done T st' a
  pub same : (d : ℕ) → (d ≡ a → ⊥) → is_done T st' d ≡ is_done T st d

-- a thread that has not ended does its next action a and stands at the action after it
pub over_does : (T : Table) (st st' : State) (t a : ℕ) → owner T a ≡ t → next_of st t ≡ a → (status_of st t ≡ ended → ⊥)
    → ((u : ℕ) → eqb (status_of st' u) ended ≡ eqb (status_of st u) ended) → next_of st' t ≡ suc a → ((u : ℕ) → (u ≡ t → ⊥) → next_of st' u ≡ next_of st u) → Does T a st st'
over_does T st st' t a own next live ends over beside =
    record {
      not_yet = undone T st a (rw (own, next) (omega arith)) (rw own live);
      now = done_low T st' a (rw (own, over) (omega arith));
      same = λ d n. same d n (ℕ_discrete (owner T d) t);
    }
  where
    same : (d : ℕ) → (d ≡ a → ⊥) → Dec (owner T d ≡ t) → is_done T st' d ≡ is_done T st d
    same d n (yes o) =
        done_live T st' d (rw o (eqb-false (status_of st' t) ended (ends t ∙ ne_eqb (status_of st t) ended live)))
        ∙ rw (o, over, next) (ltb_next d a n)
        ∙ sym (done_live T st d (rw o live))
    same d n (no o) = done_alike T st d st' (beside (owner T d) o) (ends (owner T d))

module _ (T : Table) (l : Lawful T) (p K : ℕ) (st : State) (f : Facts T p K st) (a : ℕ) (within : a < T.actions) (st' : State) (x : Does T a st st') where
  pub does_ordered : ((d : ℕ) → Memᴰ d (depends_on T a) → Done T st d)
      → (v d : ℕ) → v < T.actions → Done T st' v → Memᴰ d (depends_on T v) → Done T st' d
  does_ordered before v d h q m = go (ℕ_discrete v a)
    where
      kept : Done T st d → Done T st' d
      kept e = at (ℕ_discrete d a)
        where
          at : Dec (d ≡ a) → Done T st' d
          at (yes i) = rw i x.now
          at (no i) = x.same d i ∙ e

      go : Dec (v ≡ a) → Done T st' d
      go (yes i) = kept (before d (rw i at m))
      go (no i) = kept (f.ordered v d h (sym (x.same v i) ∙ q) m)

  -- what is done comes to so much more
  does_sum : (own : ℕ → ℕ) → sum_done T st' own ≡ sum_done T st own + own a
  does_sum own =
      let before : of_done T st own a ≡ 0 = rw x.not_yet in
      let now : of_done T st' own a ≡ own a = rw x.now in
      omega (arith, sum_to_one (of_done T st' own) (of_done T st own) a T.actions within (λ d h n. rw (x.same d n)))

  pub does_amount : st'.held + free_of T a ≡ st.held + alloc_of T a → st'.held + sum_done T st' (free_of T) ≡ sum_done T st' (alloc_of T)
  does_amount e = omega (arith, does_sum (free_of T), does_sum (alloc_of T), f.amount)

  -- the fork of a thread that a does not fork is done as before
  pub does_fork : (u : ℕ) → 0 < u → u < T.threads → (kind T a ≡ fork → T.argument a ≡ u → ⊥)
      → is_done T st' (fork_below T T.actions u) ≡ is_done T st (fork_below T T.actions u)
  does_fork u pos h n = go (fork_exists T l.contents l.bodies l.nesting l.forking u pos h)
    where
      go : (z : ℕ) × (z < T.actions) × (kind T z ≡ fork) × (T.argument z ≡ u)
          → is_done T st' (fork_below T T.actions u) ≡ is_done T st (fork_below T T.actions u)
      go (z, i, k, e) =
          let y : fork_below T T.actions u ≡ z = rw (← e) (fork_found T l.contents l.bodies l.nesting z i k) in
          rw y (x.same z (λ q. n (rw q at k) (rw q at e)))
