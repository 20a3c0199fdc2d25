-- `soundness::bodies::thread_in_order` meets its contract. The invariant: the thread is born, and its actions below a are in order.
use mathlib.Core.Path.{◌≡◌, sym, ◌∙◌}
use Prim.Native.Nat.{ℕ, ◌+◌, ◌≤◌, ◌<◌}
use mathlib.Core.List.{List}
use mathlib.Core.Bool.{Bool, true, false, not}
use native.Mathlib.Decide.{ℕ_discrete, dec_lt}
use native.Mathlib.Omega.{arith}
use borrow.Author.Tests.{not-true, not-false}
use Rattle.table.specs.Format.{table_of}
use Rattle.schedule.specs.Sound.{in_order}
use Rattle.order.proofs.Lawful.{Lawful}
use Rattle.soundness.specs.Code.Checks.{Accepted, done_to, unborn_in, join_done, body_in_order}
use Rattle.soundness.proofs.Lookups.{Body, accepted_lawful, thread_below}
use Rattle.soundness.proofs.Done.{undone_in_order, born_in_order, body_passes, body_fails}
use Rattle.soundness.proofs.bodies.thread_in_order.Given as goal

pub record Inv (s : List ℕ) (n t : ℕ) (next status : List ℕ) (stop a : ℕ) : Type 0 where
  pub accepted : Accepted s n
  pub thread : t < n
  pub born : unborn_in (table_of s) next status t ≡ false
  pub stops : stop ≡ done_to next status t
  pub within : stop ≤ (table_of s).first t + (table_of s).count t
  pub room : Body (table_of s) t
  pub from : (table_of s).first t ≤ a
  pub ordered : (x : ℕ) → (table_of s).first t ≤ x → x < a → in_order (table_of s) next status x ≡ true

module _ (s : List ℕ) (n t : ℕ) (next status : List ℕ) (stop a : ℕ) (i : Inv s n t next status stop a) where
  l : Lawful (table_of s)
  l = accepted_lawful i.accepted

  below : t < (table_of s).threads
  below = thread_below i.accepted i.thread

  pub asked : a < stop → Accepted s n × (a < (table_of s).actions)
  asked h = (i.accepted, omega (arith, i.within, i.room.within))

  -- the test at a
  here : a < stop → (r : Bool) → r ≡ join_done (table_of s) next status a → in_order (table_of s) next status a ≡ r
  here h r e =
      born_in_order (table_of s) l next status t below i.born a i.from (omega (arith, i.within)) (omega (arith, i.stops)) ∙ sym e

  pub stopped : a < stop → (r : Bool) → r ≡ join_done (table_of s) next status a → not r ≡ true → false ≡ body_in_order (table_of s) next status t
  stopped h r e d =
      sym (body_fails (table_of s) l next status t below a i.from (omega (arith, i.within)) (here h r e ∙ not-true r d))

  pub again : a < stop → (r : Bool) → r ≡ join_done (table_of s) next status a → not r ≡ false → Inv s n t next status stop (a + 1)
  again h r e d =
      record {
        accepted = i.accepted;
        thread = i.thread;
        born = i.born;
        stops = i.stops;
        within = i.within;
        room = i.room;
        from = omega (arith, i.from);
        ordered = more;
      }
    where
      more : (x : ℕ) → (table_of s).first t ≤ x → x < a + 1 → in_order (table_of s) next status x ≡ true
      more x j k = go (ℕ_discrete x a)
        where
          go : Dec (x ≡ a) → in_order (table_of s) next status x ≡ true
          go (yes q) = rw q (here h r e ∙ not-false r d)
          go (no q) = let w : x ≡ a → ⊥ = q in i.ordered x j (omega (arith, w))

  pub all : stop ≤ a → true ≡ body_in_order (table_of s) next status t
  all h = sym (body_passes (table_of s) l next status t below at)
    where
      at : (x : ℕ) → (table_of s).first t ≤ x → x < (table_of s).first t + (table_of s).count t → in_order (table_of s) next status x ≡ true
      at x j k = go (dec_lt x a)
        where
          go : Dec (x < a) → in_order (table_of s) next status x ≡ true
          go (yes q) = i.ordered x j q
          go (no q) = undone_in_order (table_of s) l next status t below x j k (omega (arith, i.stops))

abbrev pub invariant-loop-a : goal.invariant-loop-a
invariant-loop-a l = Inv l.table l.n l.t l.next l.status l.stop l.a
