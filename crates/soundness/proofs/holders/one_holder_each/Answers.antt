use mathlib.Core.Path.{◌≡◌, refl, sym, ◌∙◌}
use Prim.Native.Nat.{ℕ, ◌+◌, ◌≤◌, ◌<◌}
use mathlib.Core.List.{List}
use mathlib.Core.Bool.{true, false, ◌&&◌}
use native.Mathlib.Decide.{ℕ_discrete}
use native.Mathlib.Numerals.{add-one}
use native.Mathlib.Omega.{arith}
use borrow.Author.Tests.{eq-eqb, ne_eqb}
use lib.Dec.{eqb}
use lib.ListN.{length, get_or, set, replicate, length-set, length-replicate}
use lib.Seq.{get_or-set_same, get_or-set_other}
use Rattle.table.specs.Sum.{pick, sum_to}
use Rattle.schedule.specs.declared.Worker.{Worker}
use Rattle.schedule.specs.Machine.{nobody}
use Rattle.schedule.specs.Sound.{holds_thread, one_holder}
use Rattle.order.specs.Words.{all_below}
use Rattle.order.proofs.CountBelow.{count_bound}
use Rattle.order.proofs.Lists.{get_d_alike}
use Rattle.soundness.specs.Code.Checks.{holders_wanted}
use Rattle.order.proofs.Every.{all_cong}
use Rattle.soundness.proofs.holders.one_holder_each.Invariants.{Inv, holders}
use Rattle.soundness.proofs.holders.one_holder_each.Goals.{then-x+then-t-lt1024, then-x+else-t-lt1024, else-x}
use Rattle.soundness.proofs.holders.one_holder_each.Goals as goal

-- one more at place u
more_at : (counts : List ℕ) (u t : ℕ) → u < length counts → Dec (t ≡ u) → get_or (set counts u (get_or counts u 0 + 1)) t 0 ≡ get_or counts t 0 + pick (eqb u t) 1 0
more_at counts u t h (yes d) = rw (d, get_or-set_same counts u (get_or counts u 0 + 1) 0 h, eq-eqb u u refl)
more_at counts u t h (no d) = rw (get_or-set_other counts u t (get_or counts u 0 + 1) 0 d, ne_eqb u t (λ q. d (sym q))) (omega arith)

holders_next : (workers : List Worker) (t w : ℕ) (x : Worker) → get_or workers w nobody ≡ x
    → holders workers t (w + 1) ≡ holders workers t w + pick (x.holds && eqb x.thread t) 1 0
unfolding holds_thread sum_to
holders_next workers t w x e = rw (add-one, e)

start : (n : ℕ) (workers : List Worker) (counts : List ℕ) → n ≤ 1024 → counts ≡ replicate 1024 0 → Inv n workers counts 0
unfolding sum_to
start n workers counts h e =
    record { small = h; within = omega arith; room = rw e (length-replicate {A = ℕ} 1024 0); counted = λ t l. rw e (get_d_alike 1024 t 0) }

module _ (n : ℕ) (workers : List Worker) (counts : List ℕ) (w : ℕ) (i : Inv n workers counts w) (h : w < 16) where
  abbrev here : Worker
  here = get_or workers w nobody

  few : (t : ℕ) → t < 1024 → get_or counts t 0 ≤ 16
  few t l = omega (arith, i.counted t l, count_bound (holds_thread workers t) w)

  -- where the worker holds no thread below 1,024, nothing is counted
  same : ((t : ℕ) → t < 1024 → (here.holds && eqb here.thread t) ≡ false) → Inv n workers counts (w + 1)
  same e =
      record {
        small = i.small;
        within = omega arith;
        room = i.room;
        counted = λ t l. i.counted t l ∙ sym (rw (holders_next workers t w here refl, e t l) (omega arith));
      }

  idle : here.holds ≡ false → Inv n workers counts (w + 1)
  idle e = same (λ t l. rw e)

  beyond : here.holds ≡ true → 1024 ≤ here.thread → Inv n workers counts (w + 1)
  beyond e k = same (λ t l. rw (e, ne_eqb here.thread t (λ q. absurd (omega (arith, q)))))

  one : here.holds ≡ true → here.thread < 1024 → Inv n workers (set counts here.thread (get_or counts here.thread 0 + 1)) (w + 1)
  one e k =
      record {
        small = i.small;
        within = omega arith;
        room = simp length-set i.room;
        counted = λ t l.
            more_at counts here.thread t (omega (arith, i.room)) (ℕ_discrete t here.thread)
            ∙ rw (holders_next workers t w here refl, e, i.counted t l);
      }

wanted : (n : ℕ) (status : List ℕ) (workers : List Worker) (counts : List ℕ) (w : ℕ) → Inv n workers counts w → 16 ≤ w
    → all_below (λ t. eqb (get_or counts t 0) (holders_wanted (get_or status t 0))) n ≡ all_below (one_holder status workers) n
unfolding one_holder holds_thread
wanted n status workers counts w i h =
    let z : w ≡ 16 = omega (arith, i.within) in
    all_cong _ (one_holder status workers) n (λ t l. rw (i.counted t (omega (arith, i.small)), z))

pub loop-x-init : goal.loop-x-init
loop-x-init c = start _ c.args.workers _ c.requires refl

pub bounds-counts-t : goal.bounds-counts-t
bounds-counts-t c = c.if-t-lt1024.true

pub overflow_add-counts : goal.overflow_add-counts
overflow_add-counts c =
    omega (arith, few _ c.args.workers _ _ c.loop-x.invariant c.loop-x-test.true _ c.if-t-lt1024.true)

pub bounds-counts-t-then-t-lt1024 : goal.bounds-counts-t-then-t-lt1024
bounds-counts-t-then-t-lt1024 c = c.if-t-lt1024.true

pub loop-x-preserved : goal.loop-x-preserved
loop-x-preserved c =
    elim c.if-x.branch [
      | then-x+then-t-lt1024 w ↦ rw w.counts-is (one _ c.args.workers _ _ c.loop-x.invariant c.loop-x-test.true w.if-x.true w.if-t-lt1024.true)
      | then-x+else-t-lt1024 w ↦ rw w.counts-is (beyond _ c.args.workers _ _ c.loop-x.invariant c.loop-x-test.true w.if-x.true w.if-t-lt1024.false)
      | else-x w ↦ rw w.counts-is (idle _ c.args.workers _ _ c.loop-x.invariant c.loop-x-test.true w.if-x.false)
    ]

pub counts_right-requires : goal.counts_right-requires
counts_right-requires c = c.requires

pub returns : goal.returns
returns c =
    c.counts_right.ensures ∙ wanted _ c.args.status.now c.args.workers _ _ c.loop-x.invariant c.loop-x-test.false
