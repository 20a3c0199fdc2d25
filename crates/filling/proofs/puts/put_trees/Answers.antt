use mathlib.Core.Path.{◌≡◌}
use Prim.Native.Nat.{ℕ, ◌+◌, ◌-◌, ◌≤◌, ◌<◌}
use mathlib.Core.List.{List, flatten}
use native.Mathlib.Omega.{arith}
use lib.ListN.{length, get_or}
use Rattle.text.specs.Text.{buffer_at}
use Rattle.text.specs.Puts.{put_all}
use Rattle.rows.proofs.Rest.{rest_all, rest_rows}
use Rattle.table.specs.Format.{table_of}
use Rattle.table.specs.Serial.{serial_order}
use Rattle.table.specs.Written.{action_rows}
use Rattle.filling.specs.Filled.{trees_along, threads_to}
use Rattle.filling.specs.TreeSizes.{tree_body}
use Rattle.filling.specs.Code.Steps.{Ready, Sizes, size_at}
use Rattle.filling.proofs.Numbering.{size_small}
use Rattle.filling.proofs.FilledRows.{trees_from, trees_none}
use Rattle.filling.proofs.puts.put_trees.Invariants.{Inv}
use Rattle.filling.proofs.puts.put_trees.Goals as goal

module _ (s : List ℕ) (n K total : ℕ) (sums out₀ : List ℕ) (at₀ : ℕ) (out : List ℕ) (at c : ℕ) (i : Inv s n K total sums out₀ at₀ out at c) where
  few : total ≤ 1024
  few = omega (arith, i.all, i.ready.few_threads)

  module _ (h : c < total) where
    own : (table_of s).threads ≤ c
    own = omega (arith, i.ready.threads, i.low)

    high : c < threads_to (table_of s) K (table_of s).actions
    high = omega (arith, i.all)

    size : get_or sums c 0 ≡ size_at (table_of s) K c
    size = i.sizes c own high

    asks : (c < 1024) × (get_or sums c 0 < 1024)
    asks = (omega (arith, few), omega (arith, size, size_small s n K i.ready c own high))

    again : (out' : List ℕ) (at' : ℕ) → length out' ≡ length out → buffer_at out' at' ≡ put_all (buffer_at out at) (action_rows (tree_body c (get_or sums c 0))) → Inv s n K total sums out₀ at₀ out' at' (c + 1)
    again out' at' e p =
        record {
          ready = i.ready;
          all = i.all;
          sizes = i.sizes;
          low = omega (arith, i.low);
          high = omega arith;
          left = rest_rows (action_rows (tree_body c (size_at (table_of s) K c))) (rw (trees_from s n K i.ready c own high) at i.left) e (rw size at p);
        }

  ends : total ≤ c → buffer_at out at ≡ put_all (buffer_at out₀ at₀) (action_rows (flatten (trees_along (table_of s) K (table_of s).threads (serial_order (table_of s)))))
  ends h = rw (trees_none s n K i.ready c (omega (arith, i.high, i.all))) at i.left.same

start : (s : List ℕ) (n K total : ℕ) (sums out : List ℕ) (at : ℕ) → Ready s n K → total ≡ threads_to (table_of s) K (table_of s).actions → Sizes (table_of s) K sums → Inv s n K total sums out at out at n
start s n K total sums out at r e z =
    let y : n - (table_of s).threads ≡ 0 = omega (arith, r.threads) in
    record {
      ready = r;
      all = e;
      sizes = z;
      low = omega arith;
      high = omega (arith, r.threads);
      left = rw y (rest_all out at (action_rows (flatten (trees_along (table_of s) K (table_of s).threads (serial_order (table_of s))))));
    }

pub loop-c-init : goal.loop-c-init
loop-c-init c =
    start c.args.table.now _ _ _ c.args.sums.now c.args.out.now _ c.requires.ready c.requires.total_value c.requires.sizes

pub offset_bounds-sums-c : goal.offset_bounds-sums-c
offset_bounds-sums-c c = let i = c.loop-c.invariant in omega (arith, few _ _ _ _ _ _ _ _ _ _ i, c.loop-c-test.true)

pub bounds-sums-c : goal.bounds-sums-c
bounds-sums-c c = (asks _ _ _ _ _ _ _ _ _ _ c.loop-c.invariant c.loop-c-test.true).0

pub put_tree-at-requires : goal.put_tree-at-requires
put_tree-at-requires c = asks _ _ _ _ _ _ _ _ _ _ c.loop-c.invariant c.loop-c-test.true

pub loop-c-preserved : goal.loop-c-preserved
loop-c-preserved c = again _ _ _ _ _ _ _ _ _ _ c.loop-c.invariant c.loop-c-test.true _ _ (omega (arith, c.out-1.given)) c.put_tree-at.ensures

pub shape_of-out : goal.shape_of-out
shape_of-out c = omega (arith, c.loop-c.invariant.left.long)

pub returns : goal.returns
returns c = ends _ _ _ _ _ _ _ _ _ _ c.loop-c.invariant c.loop-c-test.false
