-- `soundness::holders::worker_right` meets its contract: each way out is the test with its first parts known.
use mathlib.Core.Path.{◌≡◌}
use Prim.Native.Nat.{ℕ, ◌≤◌, ◌<◌}
use mathlib.Core.Bool.{Bool, true, false, ◌&&◌}
use borrow.Author.Tests.{lt-ltb, le-ltb, eq-eqb, ne_eqb}
use lib.Dec.{ltb, leb, eqb}
use Rattle.table.specs.Sum.{pick}
use Rattle.schedule.specs.declared.Worker.{Worker}
use Rattle.soundness.proofs.holders.worker_right.Goals as goal

module _ (n p K w : ℕ) (x : Worker) where
  abbrev right : Bool
  right = pick x.holds (ltb w p && (ltb x.thread n && leb x.quota K)) (eqb x.thread 0 && eqb x.quota 0)

  quota_left : x.holds ≡ true → w < p → x.thread < n → leb x.quota K ≡ right
  quota_left h a b = rw (h, lt-ltb w p a, lt-ltb x.thread n b)

  no_thread_lem : x.holds ≡ true → w < p → n ≤ x.thread → ltb x.thread n ≡ right
  no_thread_lem h a b = rw (h, lt-ltb w p a, le-ltb x.thread n b)

  no_worker_lem : x.holds ≡ true → p ≤ w → ltb w p ≡ right
  no_worker_lem h a = rw (h, le-ltb w p a)

  no_quota_lem : x.holds ≡ false → x.thread ≡ 0 → eqb x.quota 0 ≡ right
  no_quota_lem h a = rw (h, eq-eqb x.thread 0 a)

  some_thread : x.holds ≡ false → (x.thread ≡ 0 → ⊥) → eqb x.thread 0 ≡ right
  some_thread h a = rw (h, ne_eqb x.thread 0 a)

pub returns-then-t-n : goal.returns-then-t-n
returns-then-t-n c =
    quota_left _ _ _ _ c.args.x c.if-x.true c.if-w-p.true c.if-t-n.true

pub returns-else-t-n : goal.returns-else-t-n
returns-else-t-n c =
    no_thread_lem _ _ c.args.quota _ c.args.x c.if-x.true c.if-w-p.true c.if-t-n.false

pub returns-else-w-p : goal.returns-else-w-p
returns-else-w-p c =
    no_worker_lem c.args.n _ c.args.quota _ c.args.x c.if-x.true c.if-w-p.false

pub returns-then-t-eq0 : goal.returns-then-t-eq0
returns-then-t-eq0 c =
    let a = c.args in
    no_quota_lem a.n a.p a.quota a.w a.x c.if-x.false c.if-t-eq0.true

pub returns-else-t-eq0 : goal.returns-else-t-eq0
returns-else-t-eq0 c =
    let a = c.args in
    some_thread a.n a.p a.quota a.w a.x c.if-x.false c.if-t-eq0.false
