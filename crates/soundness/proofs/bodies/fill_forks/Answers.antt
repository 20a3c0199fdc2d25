use mathlib.Core.Path.{◌≡◌, refl, sym, ◌∙◌}
use Prim.Native.Nat.{ℕ, ◌+◌, ◌≤◌, ◌<◌}
use mathlib.Core.List.{List}
use native.Mathlib.Numerals.{add-one}
use native.Mathlib.Omega.{arith}
use lib.ListN.{replicate}
use Rattle.table.specs.Sum.{sum_to}
use Rattle.table.specs.Format.{table_of}
use Rattle.table.specs.Checks.{owner}
use Rattle.table.proofs.Bodies.{first_is, counts_all, owner_is}
use Rattle.soundness.specs.Tested.{parents_in}
use Rattle.soundness.specs.Code.Checks.{Accepted, Forks, Noted}
use Rattle.soundness.proofs.Lookups.{Body, accepted_lawful, thread_below, accepted_body}
use Rattle.soundness.proofs.Noting.{noted_none, noted_forks, noted_parents}
use Rattle.soundness.proofs.bodies.fill_forks.Invariants.{Inv, Inv2}
use Rattle.soundness.proofs.bodies.fill_forks.Goals as goal

module _ (s : List ℕ) (n : ℕ) (forks parents : List ℕ) where
  start : Accepted s n → forks ≡ replicate 1024 0 → parents ≡ replicate 1024 0 → Inv s n forks parents 0 0
  unfolding sum_to
  start k e d =
      record { accepted = k; within = omega arith; begins = refl; noted = noted_none (table_of s) (accepted_lawful k) forks parents e d }

  module _ (a t : ℕ) (i : Inv s n forks parents a t) where
    -- thread t begins at a
    begun : (h : t < n) → ((table_of s).first t ≡ a) × Body (table_of s) t
    begun h =
        (first_is (table_of s) i.accepted.rules.contents t (thread_below i.accepted h) ∙ sym i.begins, accepted_body i.accepted h)

    enter : t < n → (count : ℕ) → count ≡ (table_of s).count t → Inv2 s n t (a + count) forks parents a
    enter h count e =
        let b = begun h in
        record {
          accepted = i.accepted;
          thread = h;
          from = omega arith;
          upto = omega arith;
          stops = omega arith;
          room = b.1;
          noted = i.noted;
        }

    all : n ≤ t → a ≡ (table_of s).actions
    all h =
        let e : t ≡ (table_of s).threads = omega (arith, i.within, i.accepted.threads) in
        i.begins ∙ rw e (counts_all (table_of s) i.accepted.rules.contents)

    ends : n ≤ t → Forks (table_of s) forks × (parents ≡ parents_in (table_of s))
    ends h =
        let o : Noted (table_of s) forks parents (table_of s).actions = rw (all h) at i.noted in
        (noted_forks (table_of s) (accepted_lawful i.accepted) forks parents o, noted_parents (table_of s) (accepted_lawful i.accepted) forks parents o)

  module _ (t stop a : ℕ) (i : Inv2 s n t stop forks parents a) where
    asked : a < stop → Accepted s n × ((a < (table_of s).actions) × ((owner (table_of s) a ≡ t) × Noted (table_of s) forks parents a))
    asked h = (
      i.accepted,
      (
        omega (arith, i.stops, i.room.within),
        (owner_is (table_of s) i.accepted.rules.contents t a (thread_below i.accepted i.thread) i.from (omega (arith, i.stops)), i.noted),
      ),
    )

    again : a < stop → (forks' parents' : List ℕ) → Noted (table_of s) forks' parents' (a + 1) → Inv2 s n t stop forks' parents' (a + 1)
    again h forks' parents' o =
        record {
          accepted = i.accepted;
          thread = i.thread;
          from = omega (arith, i.from);
          upto = omega arith;
          stops = i.stops;
          room = i.room;
          noted = o;
        }

    leave : stop ≤ a → Inv s n forks parents stop (t + 1)
    unfolding sum_to
    leave h =
        let e : a ≡ stop = omega (arith, i.upto) in
        record {
          accepted = i.accepted;
          within = omega (arith, i.thread);
          begins = rw add-one (omega (arith, i.stops, first_is (table_of s) i.accepted.rules.contents t (thread_below i.accepted i.thread)));
          noted = rw e at i.noted;
        }

pub loop-t-init : goal.loop-t-init
loop-t-init c =
    start c.args.table.now _ c.args.forks.now c.args.parents.now c.requires.accepted c.requires.forks_value.0 c.requires.forks_value.1

pub overflow_add-stop : goal.overflow_add-stop
overflow_add-stop c = omega (arith, begun _ _ _ _ _ _ c.loop-t.invariant c.loop-t-test.true, c.count.ensures.small)

pub loop-a-init : goal.loop-a-init
loop-a-init c = enter _ _ _ _ _ _ c.loop-t.invariant c.loop-t-test.true _ c.count.ensures.value

pub note_fork-requires : goal.note_fork-requires
note_fork-requires c = let both = asked _ _ _ _ _ _ _ c.loop-a.invariant c.loop-a-test.true in record { accepted = both.0; a_bound = both.1.0; a_value = both.1.1.0; noted = both.1.1.1 }

pub loop-a-preserved : goal.loop-a-preserved
loop-a-preserved c =
    again _ _ _ _ _ _ _ c.loop-a.invariant c.loop-a-test.true _ _ c.note_fork.ensures

pub loop-t-preserved : goal.loop-t-preserved
loop-t-preserved c = leave _ _ _ _ _ _ _ c.loop-a.invariant c.loop-a-test.false

pub returns : goal.returns
returns c = let both = ends _ _ _ _ _ _ c.loop-t.invariant c.loop-t-test.false in record { forks = both.0; parents_after = both.1 }
