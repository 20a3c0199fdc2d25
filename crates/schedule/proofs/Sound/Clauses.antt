-- The clauses of a sound state: of each test, the statement that it tests.
use mathlib.Core.Path.{◌≡◌, refl}
use mathlib.Core.Logic.Iff
use mathlib.Core.Logic.{◌↔◌}
use Prim.Native.Nat.{ℕ, ◌+◌, ◌≤◌, ◌<◌}
use mathlib.Core.List.{List, Memᴰ}
use mathlib.Core.Bool.{Bool, true, false}
use lib.ListN.{get_or}
use lib.Dec.{eqb}
use borrow.Author.Tests.{eqb-true, eqb-false}
use Rattle.table.specs.Sum.{pick}
use Rattle.table.specs.Format.{Table, kind}
use Rattle.table.specs.declared.kinds.Kind.TheVariants.{Join as join}
use Rattle.table.specs.Checks.{end_of, alloc_of, free_of}
use Rattle.table.specs.Level.{fork_below, depends_on}
use Rattle.table.proofs.Tests.{is_true, same_is}
use Rattle.schedule.specs.declared.Worker.{Worker}
use Rattle.schedule.specs.Machine.{unborn, held, waiting, ended, nobody}
use Rattle.schedule.specs.Sound.{done_in, live_in, sum_done_in}
use Rattle.order.specs.Words.{count_below}
use Rattle.order.specs.Order.{number_of}
use Rattle.schedule.specs.Sound.{next_in_body, in_order, status_follows, list_follows, in_serial_order, waits_at_join, holds_thread, one_holder, worker_right, held_right, unused}
use Rattle.schedule.specs.Turn.{is_nobody}
use Rattle.order.proofs.Words.{not_exactly, leb_exactly, ltb_exactly, eqb_exactly, not_eqb_exactly, and_of, implies_of, agree_of, pick_of, all_in_exactly, member_exactly, rises_exactly, Ascends, One, count_below_one, count_below_none}

-- ---- the threads

pub next_in_body_exactly : (T : Table) (next : List ℕ) (t : ℕ) → (next_in_body T next t ≡ true) ↔ ((T.first t ≤ get_or next t 0) × (get_or next t 0 ≤ end_of T t))
unfolding next_in_body
next_in_body_exactly T next t = and_of (leb_exactly _ _) (leb_exactly _ _)

pub in_serial_order_exactly : (T : Table) (next list : List ℕ) → (in_serial_order T next list ≡ true) ↔ Ascends (λ t. number_of T (get_or next t 0)) list
unfolding in_serial_order
in_serial_order_exactly T next list = rises_exactly (λ t. number_of T (get_or next t 0)) list

module _ (T : Table) (next status : List ℕ) where
  pub in_order_exactly :
      (a : ℕ) → (in_order T next status a ≡ true)
      ↔ (done_in T next status a ≡ true → (d : ℕ) → Memᴰ d (depends_on T a) → done_in T next status d ≡ true)
  unfolding in_order
  in_order_exactly a = implies_of Iff.rfl (all_in_exactly (done_in T next status) (depends_on T a))

  pub status_follows_exactly :
      (t : ℕ) → (status_follows T next status t ≡ true)
      ↔ (((get_or status t 0 ≡ unborn) ↔ ((0 < t) × (done_in T next status (fork_below T T.actions t) ≡ false)))
      × ((get_or status t 0 ≡ ended → get_or next t 0 ≡ end_of T t) × (get_or status t 0 ≤ ended)))
  unfolding status_follows
  status_follows_exactly t =
      and_of (agree_of (eqb_exactly _ _) (and_of (ltb_exactly _ _) (not_exactly _)))
      (and_of (implies_of (eqb_exactly _ _) (eqb_exactly _ _)) (leb_exactly _ _))

  pub waits_at_join_exactly :
      (t : ℕ) → (waits_at_join T next status t ≡ true)
      ↔ (get_or status t 0 ≡ waiting → (kind T (get_or next t 0) ≡ join) × (get_or status (T.argument (get_or next t 0)) 0 ≡ ended → ⊥))
  unfolding waits_at_join
  waits_at_join_exactly t =
      implies_of (eqb_exactly _ _)
      (and_of (is_true join (kind T (get_or next t 0)), same_is join (kind T (get_or next t 0))) (not_eqb_exactly _ _))

  pub held_right_exactly :
      (amount : ℕ) → (held_right T next status amount ≡ true)
      ↔ (amount + sum_done_in T next status (free_of T) ≡ sum_done_in T next status (alloc_of T))
  unfolding held_right
  held_right_exactly amount = eqb_exactly _ _

pub list_follows_exactly :
    (status list : List ℕ) (t : ℕ) → (list_follows status list t ≡ true)
    ↔ (Memᴰ t list ↔ ((get_or status t 0 ≡ unborn → ⊥) × (get_or status t 0 ≡ ended → ⊥)))
unfolding list_follows live_in
list_follows_exactly status list t = agree_of (member_exactly t list) (and_of (not_eqb_exactly _ _) (not_eqb_exactly _ _))

pub unused_exactly : (next status : List ℕ) (t : ℕ) → (unused next status t ≡ true) ↔ ((get_or status t 0 ≡ unborn) × (get_or next t 0 ≡ 0))
unfolding unused
unused_exactly next status t = and_of (eqb_exactly _ _) (eqb_exactly _ _)

-- ---- the workers

pub nobody_by_fields : (x : Worker) → x.holds ≡ false → x.thread ≡ 0 → x.quota ≡ 0 → x ≡ nobody
nobody_by_fields x a b c = λ i. record { holds = a i; thread = b i; quota = c i }

pub nobody_exactly : (x : Worker) → (is_nobody x ≡ true) ↔ (x ≡ nobody)
nobody_exactly x =
    Iff.trans (and_of (not_exactly x.holds) (and_of (eqb_exactly x.thread 0) (eqb_exactly x.quota 0)))
    ((λ h. nobody_by_fields x h.0 h.1.0 h.1.1), (λ e. (cc, (cc, cc))))

pub holds_thread_exactly : (workers : List Worker) (t w : ℕ) → (holds_thread workers t w ≡ true) ↔ (((get_or workers w nobody).holds ≡ true) × ((get_or workers w nobody).thread ≡ t))
unfolding holds_thread
holds_thread_exactly workers t w = and_of Iff.rfl (eqb_exactly _ _)

-- a held thread has one worker, any other has none
module _ (status : List ℕ) (workers : List Worker) (t : ℕ) where
  pub one_holder_exactly :
      (one_holder status workers t ≡ true)
      ↔ ((get_or status t 0 ≡ held → One (holds_thread workers t) 16) × ((get_or status t 0 ≡ held → ⊥) → (w : ℕ) → w < 16 → holds_thread workers t w ≡ false))
  unfolding one_holder
  one_holder_exactly = Iff.trans (eqb_exactly _ _) (go (eqb (get_or status t 0) held) refl)
    where
      f : ℕ → Bool
      f = holds_thread workers t

      go : (s : Bool) → eqb (get_or status t 0) held ≡ s
          → (count_below f 16 ≡ pick s 1 0) ↔ ((get_or status t 0 ≡ held → One f 16) × ((get_or status t 0 ≡ held → ⊥) → (w : ℕ) → w < 16 → f w ≡ false))
      go true q =
          let h : get_or status t 0 ≡ held = eqb-true _ _ q in
          ((λ e. ((λ k. (count_below_one f 16).0 e), (λ k. absurd (k h)))), (λ p. (count_below_one f 16).1 (p.0 h)))
      go false q =
          let h : get_or status t 0 ≡ held → ⊥ = eqb-false _ _ q in
          ((λ e. ((λ k. absurd (h k)), (λ k. (count_below_none f 16).0 e))), (λ p. (count_below_none f 16).1 (p.1 h)))

pub worker_right_exactly :
    (n p K : ℕ) (workers : List Worker) (w : ℕ) → (worker_right n p K workers w ≡ true)
    ↔ (((get_or workers w nobody).holds ≡ true → (w < p) × (((get_or workers w nobody).thread < n) × ((get_or workers w nobody).quota ≤ K)))
    × ((get_or workers w nobody).holds ≡ false → get_or workers w nobody ≡ nobody))
unfolding worker_right
worker_right_exactly n p K workers w =
    let x : Worker = get_or workers w nobody in
    Iff.trans
    (pick_of x.holds (and_of (ltb_exactly w p) (and_of (ltb_exactly x.thread n) (leb_exactly x.quota K)))
    (and_of (eqb_exactly x.thread 0) (eqb_exactly x.quota 0)))
    ((λ h. (h.0, (λ e. nobody_by_fields x e (h.1 e).0 (h.1 e).1))), (λ h. (h.0, (λ e. let z : x ≡ nobody = h.1 e in (cc, cc)))))
