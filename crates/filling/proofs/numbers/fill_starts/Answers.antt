use mathlib.Core.Path.{◌≡◌}
use Prim.Native.Nat.{ℕ, ◌+◌, ◌≤◌, ◌<◌}
use mathlib.Core.List.{List}
use mathlib.Core.Bool.{true}
use native.Mathlib.Omega.{arith}
use lib.ListN.{length, set}
use Rattle.table.specs.Sum.{pick, Read}
use Rattle.table.specs.Format.{is, Table, table_of, actions_of, kind}
use Rattle.table.specs.declared.kinds.Kind.TheVariants.{Fork as fork}
use Rattle.filling.specs.Filled.{big, dummies}
use Rattle.filling.specs.Code.Steps.{Ready, Sums, RootsTo, Starts, At}
use Rattle.filling.proofs.Numbering.{starts_root, at_first, child_in, big_root, starts_next, sized_next}
use Rattle.filling.proofs.numbers.fill_starts.Invariants.{Inv}
use Rattle.filling.proofs.numbers.fill_starts.Goals as goal

start : (s : List ℕ) (n K m : ℕ) (sums starts : List ℕ) → Ready s n K → Sums (table_of s) K sums 0 → length starts ≡ 1024 → Read (actions_of s) 65536 m → Inv s n K m sums (set starts 0 n) 0 n 0
unfolding table_of
start s n K m sums starts r v e q =
    record {
      ready = r;
      all = q.value;
      within = omega arith;
      sums_right = v;
      roots_right = λ x h. absurd (omega arith);
      starts_right = starts_root s n K r starts e;
      place = λ h. at_first s n K r;
    }

module _ (s : List ℕ) (n K m : ℕ) (sums starts : List ℕ) (thread root a : ℕ) (i : Inv s n K m sums starts thread root a) (h : a < m) where
  abbrev T : Table
  T = table_of s

  inside : a < T.actions
  inside = omega (arith, i.all)

  here : At T K a thread root
  here = i.place inside

  asks_start : kind T a ≡ fork → T.argument a < 1024
  asks_start k = (child_in s n K i.ready a inside k).2

  asks_size : big T K a ≡ true → root < 1024
  asks_size k = omega (arith, here.root_is, (big_root s n K i.ready a inside k).1, i.ready.few_threads)

  module _ (starts' sums' : List ℕ) (p : starts' ≡ pick (is fork (kind T a)) (set starts (T.argument a) root) starts) (q : sums' ≡ pick (big T K a) (set sums root (dummies T K a)) sums) where
    starts_after : Starts T K (a + 1) starts'
    starts_after = starts_next s n K i.ready a inside starts i.starts_right root starts' here.root_is p

    sums_after : Sums T K sums' 0 × RootsTo T K (a + 1) sums'
    sums_after = sized_next s n K i.ready a inside sums i.sums_right i.roots_right root sums' here.root_is q

    again : (thread' root' : ℕ) → (a + 1 < T.actions → At T K (a + 1) thread' root') → Inv s n K m sums' starts' thread' root' (a + 1)
    again thread' root' w =
        record {
          ready = i.ready;
          all = i.all;
          within = omega arith;
          sums_right = sums_after.0;
          roots_right = sums_after.1;
          starts_right = starts_after;
          place = w;
        }

done : (s : List ℕ) (n K m : ℕ) (sums starts : List ℕ) (thread root a : ℕ) → Inv s n K m sums starts thread root a → m ≤ a
    → Sums (table_of s) K sums 0 × (RootsTo (table_of s) K (table_of s).actions sums × Starts (table_of s) K (table_of s).actions starts)
done s n K m sums starts thread root a i h =
    let e : a ≡ (table_of s).actions = omega (arith, i.within, i.all) in
    (i.sums_right, (rw e at i.roots_right, rw e at i.starts_right))

pub loop-a-init : goal.loop-a-init
loop-a-init c =
    start c.args.table.now _ _ _ c.args.sums.now c.args.starts.now c.requires.ready c.requires.sums c.requires.starts_len c.actions-m.ensures

pub note_start-requires : goal.note_start-requires
note_start-requires c = let i = c.loop-a.invariant in record { n_value = i.ready.threads; a_bound = asks_start _ _ _ _ _ _ _ _ _ i c.loop-a-test.true }

pub note_size-requires : goal.note_size-requires
note_size-requires c = let i = c.loop-a.invariant in record { n_value = i.ready.threads; quota_bound = omega (arith, i.ready.few); root_bound = asks_size _ _ _ _ _ _ _ _ _ i c.loop-a-test.true }

pub place_after-place-requires : goal.place_after-place-requires
place_after-place-requires c = let i = c.loop-a.invariant in
    let h = c.loop-a-test.true in record { ready = i.ready; a_bound = inside _ _ _ _ _ _ _ _ _ i h; at = here _ _ _ _ _ _ _ _ _ i h; sums = (sums_after _ _ _ _ _ _ _ _ _ i h _ _ c.note_start.ensures c.note_size.ensures).0; starts = starts_after _ _ _ _ _ _ _ _ _ i h _ _ c.note_start.ensures c.note_size.ensures }

pub loop-a-preserved : goal.loop-a-preserved
loop-a-preserved c =
    again _ _ _ _ _ _ _ _ _ c.loop-a.invariant c.loop-a-test.true _ _ c.note_start.ensures c.note_size.ensures _ _ c.place_after-place.ensures

pub returns : goal.returns
returns c = let both = done _ _ _ _ _ _ _ _ _ c.loop-a.invariant c.loop-a-test.false in record { sums_2 = both.0; roots_to = both.1.0; starts = both.1.1 }
