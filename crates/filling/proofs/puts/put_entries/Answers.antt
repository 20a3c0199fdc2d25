use mathlib.Core.Path.{◌≡◌}
use Prim.Native.Nat.{ℕ, ◌+◌, ◌≤◌, ◌<◌}
use mathlib.Core.List.{List, []}
use native.Mathlib.Omega.{arith}
use lib.ListN.{length, get_or}
use Rattle.text.specs.Text.{buffer_at, placed}
use Rattle.text.specs.Puts.{put_all}
use Rattle.rows.specs.Rows.{cut_pair}
use Rattle.rows.proofs.Rest.{rest_all, rest_row}
use Rattle.table.specs.Sum.{Read}
use Rattle.table.specs.Format.{table_of}
use Rattle.table.specs.Written.{entry_rows}
use Rattle.filling.specs.Filled.{filled_bodies, threads_to}
use Rattle.filling.specs.Code.Steps.{Ready, Sizes}
use Rattle.filling.proofs.FilledRows.{count_actions, entries_from, entries_none, entries_length}
use Rattle.filling.proofs.puts.put_entries.Invariants.{Inv}
use Rattle.filling.proofs.puts.put_entries.Goals as goal

module _ (s : List ℕ) (n K total : ℕ) (sums out₀ : List ℕ) (at₀ : ℕ) (out : List ℕ) (at first c : ℕ) (i : Inv s n K total sums out₀ at₀ out at first c) where
  small : first ≤ 8192
  small = omega (arith, i.counted, i.ready.few_actions)

  few : total ≤ 1024
  few = omega (arith, i.all, i.ready.few_threads)

  module _ (h : c < total) where
    high : c < threads_to (table_of s) K (table_of s).actions
    high = omega (arith, i.all)

    asks : Ready s n K × ((c < threads_to (table_of s) K (table_of s).actions) × Sizes (table_of s) K sums)
    asks = (i.ready, (high, i.sizes))

    again : (d : ℕ) (out' : List ℕ) (at' : ℕ) → Read (length (get_or (filled_bodies (table_of s) K) c [])) 65536 d → length out' ≡ length out → buffer_at out' at' ≡ placed out at (cut_pair first d)
        → Inv s n K total sums out₀ at₀ out' at' (first + d) (c + 1)
    again d out' at' q e p =
        record {
          ready = i.ready;
          all = i.all;
          sizes = i.sizes;
          high = omega arith;
          counted = omega (arith, i.counted, q.value, entries_length s n K i.ready c high);
          left = rest_row (rw (entries_from s n K i.ready c first d high (omega (arith, small)) q.value q.small) at i.left) e p;
        }

  ends : total ≤ c → buffer_at out at ≡ put_all (buffer_at out₀ at₀) (entry_rows 0 (filled_bodies (table_of s) K))
  ends h = rw (entries_none s n K i.ready c first (omega (arith, i.high, i.all))) at i.left.same

start : (s : List ℕ) (n K total : ℕ) (sums out : List ℕ) (at : ℕ) → Ready s n K → total ≡ threads_to (table_of s) K (table_of s).actions → Sizes (table_of s) K sums → Inv s n K total sums out at out at 0 0
start s n K total sums out at r e z =
    record {
      ready = r;
      all = e;
      sizes = z;
      high = omega arith;
      counted = omega (arith, count_actions s n K r);
      left = rest_all out at (entry_rows 0 (filled_bodies (table_of s) K));
    }

pub loop-c-init : goal.loop-c-init
loop-c-init c =
    start c.args.table.now _ _ _ c.args.sums.now c.args.out.now _ c.requires.ready c.requires.total_value c.requires.sizes

pub count_of-count-requires : goal.count_of-count-requires
count_of-count-requires c = let both = asks _ _ _ _ _ _ _ _ _ _ _ c.loop-c.invariant c.loop-c-test.true in record { ready = both.0; c_bound = both.1.0; sizes = both.1.1 }

pub overflow_add-first : goal.overflow_add-first
overflow_add-first c =
    omega (arith, small _ _ _ _ _ _ _ _ _ _ _ c.loop-c.invariant, c.count_of-count.ensures.small)

pub loop-c-preserved : goal.loop-c-preserved
loop-c-preserved c =
    again _ _ _ _ _ _ _ _ _ _ _ c.loop-c.invariant c.loop-c-test.true _ _ _ c.count_of-count.ensures (omega (arith, c.out-1.given)) c.put_pair-at.ensures

pub shape_of-out : goal.shape_of-out
shape_of-out c = omega (arith, c.loop-c.invariant.left.long)

pub returns : goal.returns
returns c = ends _ _ _ _ _ _ _ _ _ _ _ c.loop-c.invariant c.loop-c-test.false
