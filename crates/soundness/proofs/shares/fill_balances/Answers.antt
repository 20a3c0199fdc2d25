use mathlib.Core.Path.{◌≡◌}
use Prim.Native.Nat.{ℕ, ◌+◌, ◌-◌, ◌≤◌, ◌<◌}
use mathlib.Core.List.{List}
use mathlib.Core.Bool.{true}
use native.Mathlib.Omega.{arith}
use lib.ListN.{get_or, set, replicate}
use Rattle.table.specs.Format.{table_of}
use Rattle.table.proofs.Walks.{argument_small}
use Rattle.soundness.specs.Code.Checks.{Accepted, done_to, threads_sound}
use Rattle.soundness.specs.Code.Balancing.{Balances, Balancing, Balanced}
use Rattle.soundness.proofs.Lookups.{few_threads}
use Rattle.soundness.proofs.Balancing.{balances_none, balancing, balances_next}
use Rattle.soundness.proofs.shares.fill_balances.Invariants.{Inv}
use Rattle.soundness.proofs.shares.fill_balances.Goals as goal

start : (s : List ℕ) (n : ℕ) (next status balances : List ℕ) → Accepted s n → threads_sound (table_of s) n next status ≡ true → ((i : ℕ) → get_or s i 0 < 256)
    → balances ≡ replicate 1024 0 → Inv s n next status balances n
start s n next status balances k e b z =
    record { accepted = k; sound = e; bytes = b; few = few_threads k; within = omega arith; filled = balances_none k next status balances z }

module _ (s : List ℕ) (n : ℕ) (next status balances : List ℕ) (t : ℕ) (i : Inv s n next status balances t) where
  whole : t ≤ 0 → Balances (table_of s) next status balances 0
  whole h =
      let e : t ≡ 0 = omega arith in
      rw e at i.filled

  module _ (h : 0 < t) (stop : ℕ) (d : stop ≡ done_to next status (t - 1)) where
    above : Balances (table_of s) next status balances (t - 1 + 1)
    above =
        let e : t - 1 + 1 ≡ t = omega arith in
        rw e i.filled

    asks : Balancing s n (t - 1) stop balances
    asks = balancing next status i.accepted i.sound (t - 1) (omega (arith, i.within)) stop d balances above (argument_small s i.bytes)

    again : (sum : ℕ) → Balanced s (t - 1) stop stop sum → Inv s n next status (set balances (t - 1) sum) (t - 1)
    again sum v =
        record {
          accepted = i.accepted;
          sound = i.sound;
          bytes = i.bytes;
          few = i.few;
          within = omega (arith, i.within);
          filled = balances_next next status i.accepted i.sound (t - 1) (omega (arith, i.within)) stop d balances above sum v;
        }

pub loop-t-init : goal.loop-t-init
loop-t-init c =
    start c.args.table.now _ c.args.next.now c.args.status.now c.args.balances.now c.requires.accepted c.requires.status_value
    (λ i. omega (arith, c.type_inv.table i)) c.requires.balances_value

pub done_to-stop-requires : goal.done_to-stop-requires
done_to-stop-requires c = omega (arith, c.loop-t.invariant.few, c.loop-t.invariant.within, c.loop-t-test.true)

pub thread_balance-sum-requires : goal.thread_balance-sum-requires
thread_balance-sum-requires c =
    asks _ _ _ _ _ _ c.loop-t.invariant c.loop-t-test.true _ c.done_to-stop.ensures

pub offset_bounds-balances-t : goal.offset_bounds-balances-t
offset_bounds-balances-t c = omega (arith, c.loop-t.invariant.few, c.loop-t.invariant.within, c.loop-t-test.true)

pub bounds-balances-t : goal.bounds-balances-t
bounds-balances-t c = omega (arith, c.loop-t.invariant.few, c.loop-t.invariant.within, c.loop-t-test.true)

pub loop-t-preserved : goal.loop-t-preserved
loop-t-preserved c =
    again _ _ _ _ _ _ c.loop-t.invariant c.loop-t-test.true _ c.done_to-stop.ensures _ c.thread_balance-sum.ensures

pub returns : goal.returns
returns c = whole _ _ _ _ _ _ c.loop-t.invariant c.loop-t-test.false
