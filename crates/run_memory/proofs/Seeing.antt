-- What a preview shows of an action, by the action's kind and by what the tests before it say; and that it is the same before the thread is taken as after.
use mathlib.Core.Path.{◌≡◌, refl, ◌∙◌}
use Prim.Native.Nat.{ℕ, ◌+◌, ◌-◌, ◌≤◌, ◌<◌, max}
use mathlib.Core.List.{List}
use mathlib.Core.Bool.{Bool, true, false, ◌&&◌}
use borrow.Author.Tests.{le-leb, lt-leb, lt-ltb, le-ltb, eq-eqb, ne_eqb}
use lib.Dec.{leb, ltb, eqb}
use lib.ListN.{get_or}
use Rattle.table.specs.Sum.{pick}
use Rattle.table.specs.Format.{Table}
use Rattle.table.specs.declared.kinds.Kind.{Kind}
use Rattle.table.specs.declared.kinds.Kind.TheVariants.{End as end, Work as work, Alloc as alloc, Free as free, Fork as fork, Join as join, Unknown as unknown}
use Rattle.schedule.specs.declared.Worker.{Worker}
use Rattle.schedule.specs.declared.Reply.TheVariants.{Idle, Done, Quota, Wait}
use Rattle.schedule.specs.Machine.{drawn, ended}
use Rattle.array_machine.specs.declared.Totals.{Totals}
use Rattle.array_machine.specs.Arrays.{Arrays, amount_in, with_statuses}
use Rattle.array_machine.specs.Turn.{Outcome, unfit, next_fits, amount_fits, act_on}
use Rattle.std.specs.Prelude.{Option}
use Rattle.run_memory.specs.declared.preview.Seen.{Seen}
use Rattle.run_memory.specs.Memory.{Memory}
use Rattle.run_memory.specs.Blocks.{Bytes, Words, Numbers, Sums, gathered}
use Rattle.run_memory.specs.Code.Seen.{seeing, unseen, seen_of, seen_in}

-- ---- by kind

-- where a test decides whether all fits
seen_if : (b : Bool) (o : Outcome) (A : Arrays) (totals : Totals) (worker : Worker) → pick b (seen_of o) unseen ≡ seen_of (pick b o (unfit A totals worker))
seen_if true o A totals worker = refl
seen_if false o A totals worker = refl

module _ (B : Bytes) (W : Words) (N : Numbers) (S : Sums) (T : Table) (t a x quota : ℕ) where
  abbrev M : Memory
  M = gathered B W N S

  -- memory held stays as it is
  abbrev pub same : Option Seen
  same = seeing (Done t a) S.held S.highest quota

  abbrev pub released : Option Seen
  released = seeing (Done t a) S.held S.highest 0

  pub end_seen : released ≡ seen_in end T t a x quota M
  unfolding act_on
  end_seen = refl

  pub unknown_seen : seeing Idle S.held S.highest quota ≡ seen_in unknown T t a x quota M
  unfolding act_on
  unknown_seen = refl

  pub work_seen : {f : Bool} → f ≡ next_fits a → pick f same unseen ≡ seen_in work T t a x quota M
  unfolding act_on
  work_seen d = rw d (seen_if (next_fits a) _ _ _ _)

  pub fork_seen : {f : Bool} → f ≡ (next_fits a && ltb x 1024) → pick f released unseen ≡ seen_in fork T t a x quota M
  unfolding act_on
  fork_seen d = rw d (seen_if (next_fits a && ltb x 1024) _ _ _ _)

  pub alloc_beyond : {y : ℕ} → y ≡ drawn N.quota x → quota < y → seeing (Quota t x) S.held S.highest 0 ≡ seen_in alloc T t a x quota M
  unfolding act_on
  alloc_beyond r h =
      let d : quota < drawn N.quota x = rw r at h in
      rw (lt-leb (drawn N.quota x) quota d)

  module _ {f : Bool} {own all : ℕ} (o : own ≡ get_or S.amounts t 0) (l : all ≡ S.held) where
    module _ {y : ℕ} (r : y ≡ drawn N.quota x) (h : y ≤ quota) (d : f ≡ (next_fits a && (amount_fits (all + x) && amount_fits (own + x)))) where
      within : leb (drawn N.quota x) quota ≡ true
      within = let p : drawn N.quota x ≤ quota = rw r at h in le-leb (drawn N.quota x) quota p

      fitting : f ≡ (next_fits a && (amount_fits (S.held + x) && amount_fits (get_or S.amounts t 0 + x)))
      fitting = d ∙ (λ i. next_fits a && (amount_fits (l i + x) && amount_fits (o i + x)))

      pub alloc_unfit : f ≡ false → unseen ≡ seen_in alloc T t a x quota M
      unfolding act_on
      alloc_unfit e = rw (within, ← fitting, e)

      pub alloc_done : f ≡ true → seeing (Done t a) (all + x) (max S.highest (all + x)) (quota - y) ≡ seen_in alloc T t a x quota M
      unfolding act_on
      alloc_done e = rw (l, r, within, ← fitting, e)

    module _ (d : f ≡ (next_fits a && (leb x all && leb x own))) where
      enough : f ≡ (next_fits a && (leb x S.held && leb x (get_or S.amounts t 0)))
      enough = d ∙ (λ i. next_fits a && (leb x (l i) && leb x (o i)))

      pub free_unfit : f ≡ false → unseen ≡ seen_in free T t a x quota M
      unfolding act_on
      free_unfit e = rw (← enough, e)

      pub free_done : f ≡ true → seeing (Done t a) (all - x) (max S.highest (all - x)) quota ≡ seen_in free T t a x quota M
      unfolding act_on
      free_done e = rw (l, ← enough, e)

  pub join_outside : 1024 ≤ x → unseen ≡ seen_in join T t a x quota M
  unfolding act_on
  join_outside h = rw (le-ltb x 1024 h)

  module _ (h : x < 1024) where
    pub join_waits : (get_or B.status x 0 ≡ ended → ⊥) → seeing (Wait t x) S.held S.highest 0 ≡ seen_in join T t a x quota M
    unfolding act_on
    join_waits i = rw (lt-ltb x 1024 h, ne_eqb (get_or B.status x 0) ended i)

    pub join_seen : {f : Bool} {own child : ℕ} → get_or B.status x 0 ≡ ended → own ≡ get_or S.amounts t 0 → child ≡ get_or S.amounts x 0
        → f ≡ (next_fits a && amount_fits (own + child)) → pick f same unseen ≡ seen_in join T t a x quota M
    unfolding act_on
    join_seen i o k d =
        rw (lt-ltb x 1024 h, eq-eqb (get_or B.status x 0) ended i, d, o, k) (seen_if (next_fits a && amount_fits (get_or S.amounts t 0 + get_or S.amounts x 0)) _ _ _ _)

-- ---- a turn takes its thread first, and a join looks at its child's status after that

alike : (b : Bool) (o v p q : Outcome) → seen_of o ≡ seen_of p → seen_of v ≡ seen_of q → seen_of (pick b o v) ≡ seen_of (pick b p q)
alike true o v p q e d = e
alike false o v p q e d = d

module _ (T : Table) (K : ℕ) (parents : List ℕ) (A : Arrays) (totals : Totals) (worker : Worker) (status : List ℕ) (t a x : ℕ)
    (s : eqb (get_or status x 0) ended ≡ eqb (get_or A.status x 0) ended) where
  pub before_taken : (k : Kind) → seen_of (act_on k T K parents t a x (with_statuses status A) totals worker) ≡ seen_of (act_on k T K parents t a x A totals worker)
  unfolding act_on
  before_taken end = refl
  before_taken work = alike (next_fits a) _ _ _ _ refl refl
  before_taken alloc =
      alike (leb (drawn K x) worker.quota) _ _ _ _
      (alike (next_fits a && (amount_fits (totals.held + x) && amount_fits (amount_in A t + x))) _ _ _ _ refl refl) refl
  before_taken free = alike (next_fits a && (leb x totals.held && leb x (amount_in A t))) _ _ _ _ refl refl
  before_taken fork = alike (next_fits a && ltb x 1024) _ _ _ _ refl refl
  before_taken join =
      rw s
      (alike (ltb x 1024) _ _ _ _
      (alike (eqb (get_or A.status x 0) ended) _ _ _ _ (alike (next_fits a && amount_fits (amount_in A t + amount_in A x)) _ _ _ _ refl refl) refl) refl)
  before_taken unknown = refl
