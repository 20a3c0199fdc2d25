use Rattle.std.specs.Prelude.{Err, Ok}
use mathlib.Core.Path.{◌≡◌, refl, sym, ap, ◌∙◌}
use Prim.Native.Nat.{ℕ, suc, ◌+◌, ◌-◌, ◌*◌, ◌/◌, ◌≤◌, ◌<◌}
use mathlib.Core.List.{List}
use mathlib.Core.Bool.{Bool, true, false, ◌&&◌, ◌||◌}
use native.Mathlib.Numerals.{add-one}
use native.Mathlib.Omega.{arith}
use lib.Dec.{ltb}
use borrow.Author.Tests.{ltb-false}
use Rattle.table.specs.Sum.{pick, sum_to, Read}
use Rattle.table.specs.Format.{Table, threads_of, actions_of, table_of}
use Rattle.table.specs.Checks.{alloc_of}
use Rattle.table.specs.Pass.{refusal, try_at, try_pass}
use Rattle.table.proofs.Tests.{or_neither}
use Rattle.table.proofs.Trying.{try_from_next, try_from_here, try_from_last, try_from_all}
use Rattle.filling.specs.Filled.{big, dummies, new_threads, new_actions, threads_to, actions_to, overfull, fill_pass}
use Rattle.filling.specs.Filling.{total_of}
use Rattle.filling.proofs.count.count.Invariants.{Inv, checks}
use Rattle.filling.proofs.count.count.Goals as goal

module _ (s : List ℕ) (K n m threads actions a x y z : ℕ) (i : Inv s K n m threads actions a) (e : x ≡ alloc_of (table_of s) a)
    (ey : y ≡ pick (ltb K x) (2 * ((x + K - 1) / K) - 1) 0) (ez : z ≡ pick (ltb K x) (7 * ((x + K - 1) / K) - 3) 0) where
  abbrev T : Table
  T = table_of s

  threads_next : threads + y ≡ threads_to T K (suc a)
  unfolding sum_to new_threads big dummies
  threads_next = omega (arith, i.now_threads, rw e at ey)

  actions_next : actions + z ≡ actions_to T K (suc a)
  unfolding sum_to new_actions big dummies
  actions_next = omega (arith, i.now_actions, rw e at ez)

  full_is : overfull T K a ≡ (ltb K x && (ltb 1024 (threads + y) || ltb 8192 (actions + z)))
  unfolding overfull big
  full_is = rw (← threads_next, ← actions_next, ← e)

  module _ (h : a < m) where
    stops : (ltb K x && (ltb 1024 (threads + y) || ltb 8192 (actions + z))) ≡ true
        → Err (refusal 44 a) ≡ total_of T K
    unfolding try_at
    stops w =
        let t : try_pass (fill_pass T K) ≡ Err (refusal 44 a) = sym i.remains ∙ try_from_here (checks T K) a m h (refusal 44 a) (rw (full_is ∙ w)) in
        rw t

    again : (ltb K x && (ltb 1024 (threads + y) || ltb 8192 (actions + z))) ≡ false → Inv s K n m (threads + y) (actions + z) (a + 1)
    unfolding try_at
    again w =
        let (p, q) = limits (ltb K x) refl w in
        record {
          is_threads = i.is_threads;
          is_actions = i.is_actions;
          within = omega arith;
          small = i.small;
          now_threads = rw add-one threads_next;
          now_actions = rw add-one actions_next;
          threads_small = p;
          actions_small = q;
          remains = sym (try_from_next (checks T K) a m h (rw (full_is ∙ w))) ∙ i.remains;
        }
      where
        limits : (q : Bool) → ltb K x ≡ q → (q && (ltb 1024 (threads + y) || ltb 8192 (actions + z))) ≡ false → (threads + y < 65536) × (actions + z < 65536)
        limits true r v =
            let (p, q) = or_neither (ltb 1024 (threads + y)) (ltb 8192 (actions + z)) v in
            (omega (arith, ltb-false 1024 (threads + y) p), omega (arith, ltb-false 8192 (actions + z) q))
        limits false r v =
            let u : y ≡ 0 = rw r at ey in
            let w : z ≡ 0 = rw r at ez in
            (omega (arith, i.threads_small), omega (arith, i.actions_small))

start : (s : List ℕ) (K n m : ℕ) → Read (threads_of s) 65536 n → Read (actions_of s) 65536 m → Inv s K n m n m 0
unfolding table_of sum_to try_pass
start s K n m r q =
    record {
      is_threads = r.value;
      is_actions = q.value;
      within = omega arith;
      small = q.small;
      now_threads = omega (arith, r.value);
      now_actions = omega (arith, q.value);
      threads_small = r.small;
      actions_small = q.small;
      remains = rw (try_from_all (checks (table_of s) K) m, q.value);
    }

done : (s : List ℕ) (K n m threads actions a : ℕ) → Inv s K n m threads actions a → m ≤ a
    → Ok (record { threads = threads; actions = actions }) ≡ total_of (table_of s) K
done s K n m threads actions a i h =
    let t : try_pass (fill_pass (table_of s) K) ≡ (Ok tt) = sym i.remains ∙ try_from_last (checks (table_of s) K) a m (omega (arith, i.within)) in
    let e : a ≡ (table_of s).actions = omega (arith, i.within, i.is_actions) in
    let n : threads ≡ threads_to (table_of s) K (table_of s).actions = rw e at i.now_threads in
    let m : actions ≡ actions_to (table_of s) K (table_of s).actions = rw e at i.now_actions in
    rw (t, n, m)

pub loop-a-init : goal.loop-a-init
loop-a-init c = start _ _ _ _ c.threads-n.ensures c.actions-m.ensures

pub amount-x-requires : goal.amount-x-requires
amount-x-requires c = c.loop-a.invariant.is_threads

pub new_threads-threads-requires : goal.new_threads-threads-requires
new_threads-threads-requires c = record { x_bound = c.amount-x.ensures.small; quota_bound = omega arith }

pub overflow_add-threads : goal.overflow_add-threads
overflow_add-threads c = omega (arith, c.new_threads-threads.ensures.small, c.loop-a.invariant.threads_small)

pub new_actions-actions-requires : goal.new_actions-actions-requires
new_actions-actions-requires c = record { x_bound = c.amount-x.ensures.small; quota_bound = omega arith }

pub overflow_add-actions : goal.overflow_add-actions
overflow_add-actions c = omega (arith, c.new_actions-actions.ensures.small, c.loop-a.invariant.actions_small)

pub overflow_cast-a : goal.overflow_cast-a
overflow_cast-a c = omega (arith, c.loop-a-test.true, c.loop-a.invariant.small)

pub returns-then-is_full : goal.returns-then-is_full
returns-then-is_full c =
    ap Err c.new.ensures ∙ stops _ _ _ _ _ _ _ _ _ _ c.loop-a.invariant c.amount-x.ensures.value c.new_threads-threads.ensures.value c.new_actions-actions.ensures.value
    c.loop-a-test.true (sym c.is_full.ensures ∙ c.if-is_full.true)

pub loop-a-preserved : goal.loop-a-preserved
loop-a-preserved c =
    again _ _ _ _ _ _ _ _ _ _ c.loop-a.invariant c.amount-x.ensures.value c.new_threads-threads.ensures.value c.new_actions-actions.ensures.value
    c.loop-a-test.true (sym c.is_full.ensures ∙ c.if-is_full.false)

pub returns : goal.returns
returns c = done _ _ _ _ _ _ _ c.loop-a.invariant c.loop-a-test.false
