use mathlib.Core.Path.{◌≡◌, sym, ◌∙◌}
use Prim.Native.Nat.{ℕ, ◌+◌, ◌-◌, ◌≤◌, ◌<◌}
use mathlib.Core.List.{List}
use native.Mathlib.Decide.{ℕ_discrete}
use native.Mathlib.Omega.{arith}
use borrow.Author.Tests.{eq-eqb, ne_eqb, lt-leb}
use lib.ListN.{get_or}
use lib.Dec.{eqb, leb}
use Rattle.table.specs.Format.{table_of}
use Rattle.table.specs.Checks.{end_of, counts_below, alloc_of, free_of}
use Rattle.table.specs.Rules.{ContentRules}
use Rattle.table.proofs.Bodies.{first_is, body_within}
use Rattle.schedule.specs.Sound.{sum_done_in, held_right}
use Rattle.soundness.specs.Code.Checks.{Accepted, Placed, done_to}
use Rattle.soundness.specs.Code.Adding.{Adds, Added}
use Rattle.soundness.specs.declared.amounts.Sums.{Sums}
use Rattle.soundness.proofs.Lookups.{thread_below, accepted_body, placed}
use Rattle.soundness.proofs.DoneSums.{Undone, undone_low, undone_high, counted_first, counted_next, counted_last}
use Rattle.soundness.proofs.amounts.held_right.Invariants.{Inv}
use Rattle.soundness.proofs.amounts.held_right.Goals as goal

start : (s : List ℕ) (n : ℕ) (next status : List ℕ) (held : ℕ) → Accepted s n → Placed s n next
    → Inv s n next status held (record { allocs = 0; frees = 0 }) 0
start s n next status held k p =
    record {
      accepted = k;
      placed = p;
      within = omega arith;
      drawn = counted_first (table_of s) k.rules.contents _ _ _;
      given = counted_first (table_of s) k.rules.contents _ _ _;
    }

module _ (s : List ℕ) (n : ℕ) (next status : List ℕ) (held : ℕ) (sums : Sums) (t : ℕ) (i : Inv s n next status held sums t) where
  rules : ContentRules (table_of s)
  rules = i.accepted.rules.contents

  module _ (h : t < n) where
    thread : t < (table_of s).threads
    thread = thread_below i.accepted h

    in_body : ((table_of s).first t ≤ get_or next t 0) × (get_or next t 0 ≤ end_of (table_of s) t)
    in_body = placed i.accepted h next i.placed

    module _ (stop : ℕ) (e : stop ≡ done_to next status t) where
      undone : Undone (table_of s) next status t stop
      undone = record { thread = thread; low = in_body.0; high = in_body.1; value = e }

      adds : Adds s n t stop sums
      adds =
          let first : (table_of s).first t ≡ counts_below (table_of s) t = first_is (table_of s) rules t thread in
          record {
            accepted = i.accepted;
            thread = h;
            from = undone_low (table_of s) rules _ _ t stop undone;
            within = omega (arith, undone_high (table_of s) rules _ _ t stop undone, body_within (table_of s) rules t thread);
            few_allocs = rw first i.drawn.small;
            few_frees = rw first i.given.small;
          }

      again : (r : Sums) → Added (alloc_of (table_of s)) ((table_of s).first t) stop sums.allocs r.allocs
          → Added (free_of (table_of s)) ((table_of s).first t) stop sums.frees r.frees → Inv s n next status held r (t + 1)
      again r a f =
          record {
            accepted = i.accepted;
            placed = i.placed;
            within = omega arith;
            drawn = counted_next (table_of s) rules _ _ t stop undone _ _ _ i.drawn a;
            given = counted_next (table_of s) rules _ _ t stop undone _ _ _ i.given f;
          }

  module _ (h : n ≤ t) where
    allocs_done : sums.allocs ≡ sum_done_in (table_of s) next status (alloc_of (table_of s))
    allocs_done = counted_last (table_of s) rules _ _ _ t _ (omega (arith, i.accepted.threads)) i.drawn

    frees_done : sums.frees ≡ sum_done_in (table_of s) next status (free_of (table_of s))
    frees_done = counted_last (table_of s) rules _ _ _ t _ (omega (arith, i.accepted.threads)) i.given

    equal : sums.frees ≤ sums.allocs → eqb held (sums.allocs - sums.frees) ≡ held_right (table_of s) next status held
    unfolding held_right
    equal k = rw (← allocs_done, ← frees_done) (go (ℕ_discrete held (sums.allocs - sums.frees)))
      where
        go : Dec (held ≡ sums.allocs - sums.frees) → eqb held (sums.allocs - sums.frees) ≡ eqb (held + sums.frees) sums.allocs
        go (yes e) = eq-eqb _ _ e ∙ sym (eq-eqb (held + sums.frees) sums.allocs (omega arith))
        go (no d) = ne_eqb _ _ d ∙ sym (ne_eqb (held + sums.frees) sums.allocs (λ q. d (omega arith)))

    more : sums.allocs < sums.frees → leb sums.frees sums.allocs ≡ held_right (table_of s) next status held
    unfolding held_right
    more k = rw (← allocs_done, ← frees_done, lt-leb sums.frees sums.allocs k, ne_eqb (held + sums.frees) sums.allocs (λ q. omega arith))

pub loop-t-init : goal.loop-t-init
loop-t-init c = start c.args.table.now _ c.args.next.now c.args.status.now _ c.requires.accepted c.requires.placed

pub done_to-stop-requires : goal.done_to-stop-requires
done_to-stop-requires c = (accepted_body c.loop-t.invariant.accepted c.loop-t-test.true).few

pub thread_sums-sums-requires : goal.thread_sums-sums-requires
thread_sums-sums-requires c = adds _ _ _ _ _ _ _ c.loop-t.invariant c.loop-t-test.true _ c.done_to-stop.ensures

pub loop-t-preserved : goal.loop-t-preserved
loop-t-preserved c =
    again _ _ _ _ _ _ _ c.loop-t.invariant c.loop-t-test.true _ c.done_to-stop.ensures _ c.thread_sums-sums.ensures.added c.thread_sums-sums.ensures.added_2

pub returns-then-frees-allocs : goal.returns-then-frees-allocs
returns-then-frees-allocs c = equal _ _ _ _ _ _ _ c.loop-t.invariant c.loop-t-test.false c.if-frees-allocs.true

pub returns-else-frees-allocs : goal.returns-else-frees-allocs
returns-else-frees-allocs c = more _ _ _ _ _ _ _ c.loop-t.invariant c.loop-t-test.false c.if-frees-allocs.false
