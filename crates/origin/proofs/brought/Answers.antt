use mathlib.Core.Path.{◌≡◌}
use Prim.Native.Nat.{ℕ, suc, ◌+◌, ◌-◌, ◌*◌, ◌/◌, ◌≤◌, ◌<◌}
use mathlib.Core.List.{List}
use native.Mathlib.Numerals.{add-one}
use native.Mathlib.Omega.{arith}
use lib.Dec.{ltb}
use Rattle.table.specs.Sum.{pick, sum_to, Read}
use Rattle.table.specs.Format.{table_of}
use Rattle.table.specs.Checks.{alloc_of}
use Rattle.filling.specs.Filled.{big, dummies, new_threads}
use Rattle.origin.specs.Origin.{bigs_to}
use Rattle.origin.proofs.brought.Invariants.{Inv}
use Rattle.origin.proofs.brought.Goals as goal

start : (s : List ℕ) (K n k : ℕ) → n ≡ (table_of s).threads → (1 ≤ K) × (K < 16777216) → k ≤ 65536 → Inv s K n k 0 0 0
unfolding sum_to
start s K n k e h j =
    record { is_threads = e; some = h; few = j; within = omega arith; now_bigs = omega arith; few_bigs = omega arith; now_threads = omega arith; few_threads = omega arith }

module _ (s : List ℕ) (K n k bigs threads a x y z : ℕ) (i : Inv s K n k bigs threads a) (h : a < k) (e : x ≡ alloc_of (table_of s) a)
    (ey : Read (pick (ltb K x) 1 0) 2 y) (ez : Read (pick (ltb K x) (2 * ((x + K - 1) / K) - 1) 0) 67108864 z) where
  bigs_next : bigs + y ≡ bigs_to (table_of s) K (suc a)
  unfolding sum_to big
  bigs_next = omega (arith, i.now_bigs, rw e at ey.value)

  threads_next : threads + z ≡ sum_to (new_threads (table_of s) K) (suc a)
  unfolding sum_to new_threads big dummies
  threads_next = omega (arith, i.now_threads, rw e at ez.value)

  again : Inv s K n k (bigs + y) (threads + z) (a + 1)
  again =
      record {
        is_threads = i.is_threads;
        some = i.some;
        few = i.few;
        within = omega arith;
        now_bigs = rw add-one bigs_next;
        few_bigs = omega (arith, i.few_bigs, ey.small);
        now_threads = rw add-one threads_next;
        few_threads = omega (arith, i.few_threads, ez.small);
      }

module _ (s : List ℕ) (K n k bigs threads a : ℕ) (i : Inv s K n k bigs threads a) (h : k ≤ a) where
  last : a ≡ k
  last = omega (arith, i.within)

  done : Read (bigs_to (table_of s) K k) 65537 bigs × (threads ≡ sum_to (new_threads (table_of s) K) k)
  done = (record { value = rw last at i.now_bigs; small = omega (arith, i.few_bigs, i.few, last) }, rw last at i.now_threads)

pub loop-a-init : goal.loop-a-init
loop-a-init c = start c.args.table.now _ _ _ c.requires.n_value c.requires.le_quota c.requires.k_bound

pub amount-x-requires : goal.amount-x-requires
amount-x-requires c = c.loop-a.invariant.is_threads

pub overflow_add-bigs : goal.overflow_add-bigs
overflow_add-bigs c = let i = c.loop-a.invariant in omega (arith, c.above-bigs.ensures.small, i.few_bigs, i.within, i.few)

pub new_threads-threads-requires : goal.new_threads-threads-requires
new_threads-threads-requires c = record { x_bound = c.amount-x.ensures.small; le_quota = c.loop-a.invariant.some }

pub overflow_add-threads : goal.overflow_add-threads
overflow_add-threads c = let i = c.loop-a.invariant in omega (arith, c.new_threads-threads.ensures.small, i.few_threads, i.within, i.few)

pub loop-a-preserved : goal.loop-a-preserved
loop-a-preserved c =
    again _ _ _ _ _ _ _ _ _ _ c.loop-a.invariant c.loop-a-test.true c.amount-x.ensures.value c.above-bigs.ensures c.new_threads-threads.ensures

pub returns : goal.returns
returns c = let both = done _ _ _ _ _ _ _ c.loop-a.invariant c.loop-a-test.false in record { read = both.0; threads_value = both.1 }
