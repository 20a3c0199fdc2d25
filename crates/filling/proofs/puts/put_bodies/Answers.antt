use mathlib.Core.Path.{◌≡◌}
use Prim.Native.Nat.{ℕ, ◌+◌, ◌-◌, ◌≤◌, ◌<◌}
use mathlib.Core.List.{List, [], ◌∷◌, ◌++◌}
use native.Mathlib.Omega.{arith}
use lib.ListN.{length}
use Rattle.text.specs.Text.{buffer_at}
use Rattle.text.specs.Puts.{put_all}
use Rattle.rows.proofs.Rest.{rest_all, rest_rows}
use Rattle.table.specs.Sum.{Read}
use Rattle.table.specs.Format.{table_of, actions_of}
use Rattle.table.specs.Written.{action_at, action_rows}
use Rattle.filling.specs.Filled.{in_front, filled_from}
use Rattle.filling.specs.Code.Steps.{Ready, Sums, Starts, At}
use Rattle.filling.proofs.Numbering.{at_first}
use Rattle.filling.proofs.FilledRows.{left_from, left_none}
use Rattle.filling.proofs.puts.put_bodies.Invariants.{Inv}
use Rattle.filling.proofs.puts.put_bodies.Goals as goal

start : (s : List ℕ) (n K : ℕ) (sums starts : List ℕ) (m : ℕ) (out : List ℕ) (at : ℕ) → Ready s n K → Sums (table_of s) K sums 0 → Starts (table_of s) K (table_of s).actions starts → Read (actions_of s) 65536 m
    → Inv s n K sums starts m out at out at 0 n 0
unfolding table_of
start s n K sums starts m out at r v w q =
    let z : (table_of s).actions - 0 ≡ (table_of s).actions = omega arith in
    record {
      ready = r;
      all = q.value;
      within = omega arith;
      sums_right = v;
      starts_right = w;
      place = λ h. at_first s n K r;
      left = rw z (rest_all out at (action_rows (filled_from (table_of s) K 0 (table_of s).actions)));
    }

module _ (s : List ℕ) (n K : ℕ) (sums starts : List ℕ) (m : ℕ) (out₀ : List ℕ) (at₀ : ℕ) (out : List ℕ) (at thread root a : ℕ) (i : Inv s n K sums starts m out₀ at₀ out at thread root a) where
  module _ (h : a < m) where
    inside : a < (table_of s).actions
    inside = omega (arith, i.all)

    here : At (table_of s) K a thread root
    here = i.place inside

    starts_here : Starts (table_of s) K (a + 1) starts
    starts_here = record { size = i.starts_right.size; root = i.starts_right.root; forked = λ x p k. i.starts_right.forked x (omega (arith, inside)) k }

    again : (out' : List ℕ) (at' thread' root' : ℕ) → length out' ≡ length out
        → buffer_at out' at' ≡ put_all (buffer_at out at) (action_rows (in_front (table_of s) K a ++ (action_at (table_of s) a ∷ [])))
        → (a + 1 < (table_of s).actions → At (table_of s) K (a + 1) thread' root') → Inv s n K sums starts m out₀ at₀ out' at' thread' root' (a + 1)
    again out' at' thread' root' e p w =
        record {
          ready = i.ready;
          all = i.all;
          within = omega arith;
          sums_right = i.sums_right;
          starts_right = i.starts_right;
          place = w;
          left = rest_rows (action_rows (in_front (table_of s) K a ++ (action_at (table_of s) a ∷ []))) (rw (left_from s n K i.ready a inside) at i.left) e p;
        }

  ends : m ≤ a → buffer_at out at ≡ put_all (buffer_at out₀ at₀) (action_rows (filled_from (table_of s) K 0 (table_of s).actions))
  ends h = rw (left_none s n K i.ready a (omega (arith, i.within, i.all))) at i.left.same

pub loop-a-init : goal.loop-a-init
loop-a-init c =
    start c.args.table.now _ _ c.args.sums.now c.args.starts.now _ c.args.out.now _ c.requires.ready c.requires.sums c.requires.starts c.actions-m.ensures

pub put_step-at-requires : goal.put_step-at-requires
put_step-at-requires c = let i = c.loop-a.invariant in
    let h = c.loop-a-test.true in record { ready = i.ready; a_bound = inside _ _ _ _ _ _ _ _ _ _ _ _ _ i h; root_value = (here _ _ _ _ _ _ _ _ _ _ _ _ _ i h).root_is }

pub place_after-place-requires : goal.place_after-place-requires
place_after-place-requires c = let i = c.loop-a.invariant in
    let h = c.loop-a-test.true in record { ready = i.ready; a_bound = inside _ _ _ _ _ _ _ _ _ _ _ _ _ i h; at = here _ _ _ _ _ _ _ _ _ _ _ _ _ i h; sums = i.sums_right; starts = starts_here _ _ _ _ _ _ _ _ _ _ _ _ _ i h }

pub loop-a-preserved : goal.loop-a-preserved
loop-a-preserved c = again _ _ _ _ _ _ _ _ _ _ _ _ _ c.loop-a.invariant c.loop-a-test.true _ _ _ _ (omega (arith, c.out-1.given)) c.put_step-at.ensures c.place_after-place.ensures

pub shape_of-out : goal.shape_of-out
shape_of-out c = omega (arith, c.loop-a.invariant.left.long)

pub returns : goal.returns
returns c = ends _ _ _ _ _ _ _ _ _ _ _ _ _ c.loop-a.invariant c.loop-a-test.false
