-- The worked cases hold of turns as they are defined, each with its test of the whole record.
use Rattle.std.specs.Prelude.{Err, Ok, Result, ⊤}
use Rattle.table.specs.declared.Refusal.{Refusal}
use mathlib.Core.Path.{◌≡◌, refl, ap, ◌∙◌}
use Prim.Native.Nat.{ℕ, suc, ◌+◌, ◌-◌, ◌^◌, ◌≤◌, ◌<◌}
use native.Mathlib.Omega.{arith}
use mathlib.Core.List.{List, [], ◌∷◌, map}
use mathlib.Core.Bool.{Bool, true, ◌&&◌}
use lib.ListN.{length}
use lib.Dec.{ltb, leb, eqb}
use Rattle.table.specs.Sum.{pick}
use Rattle.table.specs.Format.{Table}
use Rattle.table.specs.declared.kinds.Kind.{Kind}
use Rattle.table.specs.declared.kinds.Kind.TheVariants.{End as end, Work as work, Alloc as alloc, Free as free, Fork as fork, Join as join, Unknown as unknown}
use Rattle.table.specs.Pass.{try_at}
use Rattle.schedule.specs.declared.Run.{Run}
use Rattle.schedule.specs.Machine.{State, drawn, ended, status_of, worker_of, parent_of, waits_for, woken, Stepped, act_by, act, leftmost, taken, turn_free, turn_of}
use Rattle.schedule.specs.Record.{table_in, state_of}
use Rattle.schedule.specs.Begin.{start_state, begin}
use Rattle.schedule.specs.Sound.{Steady, Sound}
use Rattle.schedule.specs.Turn.{unsound, turn_checks, step_run, passed_in, turned_as, turned}
use Rattle.schedule.specs.Runs.{moved}
use Rattle.schedule.specs.Listing.{Listing, turns_by}
use Rattle.schedule.specs.declared.Turned.{Turned}
use Rattle.schedule.specs.Answers.{Values, turning_values}
use Rattle.schedule.specs.Cases.{never, begin_then, ran_by, sound_checks, turned_sound, Case, cases, own_cases, Worked, worked}
use Rattle.schedule.specs.TurnCases.{TurnCase, said_after, begin_saying, said_by, turn_cases, own_turns, Says, said_worked}
use Rattle.schedule.specs.Rule.{RowCase, measured_by, row_cases, own_rows, Measured, rows_worked}
use Rattle.order.proofs.Words.{and_exactly, ltb_exactly}
use Rattle.schedule.proofs.Preservation.Turns.{either}
use Rattle.schedule.proofs.Sound.Tests.{sound_exactly}
use Rattle.schedule.proofs.Runs.Histories.{begin_sound, turn_steady, start_state_lem}

-- a sound record's turn is refused by 30 and 31 alone
pub sound_checks_lem : (r : Run) (w : ℕ) → Sound r → try_at (turn_checks r w) 0 ≡ try_at (sound_checks r w) 0
unfolding turn_checks try_at unsound
sound_checks_lem r w h = rw ((sound_exactly r).1 h)

pub turned_sound_lem : (r : Run) (w : ℕ) → Sound r → turned r w ≡ turned_sound r w
unfolding turned
turned_sound_lem r w h = rw (sound_checks_lem r w h)

-- ---- "Every turn counts as one."

-- the same where either is picked
picked : {A : Type 0} (f : A → ℕ) (n : ℕ) (q : Bool) (x y : A) → f x ≡ n → f y ≡ n → f (pick q x y) ≡ n
picked f n q x y g h = either (λ z. f z ≡ n) q x y (λ e. g) (λ e. h)

module _ (T : Table) where
  act_turns : (k : Kind) (K w t a x : ℕ) (st : State) → (act_by k T K w t a x st).state.turns ≡ st.turns
  unfolding act_by woken
  act_turns end K w t a x st = picked (λ (s : State). s.turns) st.turns (waits_for T _ (parent_of T t) t) _ _ refl refl
  act_turns work K w t a x st = refl
  act_turns alloc K w t a x st = picked (λ (s : Stepped). s.state.turns) st.turns (leb (drawn K x) (worker_of st w).quota) _ _ refl refl
  act_turns free K w t a x st = refl
  act_turns fork K w t a x st = refl
  act_turns join K w t a x st = picked (λ (s : Stepped). s.state.turns) st.turns (eqb (status_of st x) ended) _ _ refl refl
  act_turns unknown K w t a x st = refl

  holder_turns : (K w : ℕ) (st : State) → (act T K w st).state.turns ≡ st.turns
  unfolding act
  holder_turns K w st = act_turns _ K w _ _ _ st

  pub turn_turns : (K w : ℕ) (st : State) → (turn_of T K w st).state.turns ≡ suc st.turns
  unfolding turn_of turn_free taken
  turn_turns K w st =
      ap suc (picked (λ (s : Stepped). s.state.turns) st.turns (worker_of st w).holds _ _ (holder_turns K w st)
      (picked (λ (s : Stepped). s.state.turns) st.turns (eqb (leftmost st.status st.list) (length st.list)) _ _ refl (holder_turns K w _)))

pub moved_turns : (r : Run) (w : ℕ) → (moved r w).turns ≡ suc r.turns
unfolding step_run
moved_turns r w = turn_turns (table_in r) r.quota w (state_of r)

pub turned_turns : (r : Run) (w : ℕ) → (turned r w).run.turns ≤ suc r.turns
unfolding turned step_run
turned_turns r w = go (try_at (turn_checks r w) 0)
  where
    go : (f : Result ⊤ Refusal) → (turned_as f r (passed_in r w) (step_run r w)).run.turns ≤ suc r.turns
    go (Ok _) = omega (arith, turn_turns (table_in r) r.quota w (state_of r))
    go (Err x) = omega arith

-- ---- the runs

-- an accepted beginning's record is sound, with no turn taken
pub begun_fresh : (s : List ℕ) (p K : ℕ) → (begin s p K).answer ≡ Ok tt → Steady (begin s p K).run × ((begin s p K).run.turns ≡ 0)
unfolding start_state
begun_fresh s p K e =
    let r : Run = (begin s p K).run in
    let b : begin s p K ≡ record { answer = Ok tt; run = r } = λ i. record { answer = e i; run = r } in
    ((begin_sound s p K r b).steady, ap (λ (st : State). st.turns) (start_state_lem s p K r b).3)

module _ (stop : Run → Bool) where
  -- turns from a sound record, as long as turns taken stays within 2^64 − 1
  turns_sound : (order : List ℕ) (r : Run) → Steady r → r.turns + length order ≤ 2 ^ 64 - 1 → turns_by stop turned r order ≡ turns_by stop turned_sound r order
  turns_sound [] r h k = refl
  turns_sound (w ∷ order) r h k =
      let e : turned r w ≡ turned_sound r w = turned_sound_lem r w (record { steady = h; turns = omega arith }) in
      let ih = turns_sound order (turned r w).run (turn_steady r w h) (omega (arith, turned_turns r w)) in
      rw (ih, e)

  -- the same for the turns of an accepted beginning
  pub begun_turned : (s : List ℕ) (p K : ℕ) (order : List ℕ) → length order < 2 ^ 64 → (begin s p K).answer ≡ Ok tt
      → turns_by stop turned (begin s p K).run order ≡ turns_by stop turned_sound (begin s p K).run order
  begun_turned s p K order k e = let f = begun_fresh s p K e in turns_sound order (begin s p K).run f.0 (omega (arith, f.1))

  -- what the cases compute is what a beginning and turns say
  pub ran_turned : (s : List ℕ) (p K : ℕ) (order : List ℕ) → length order < 2 ^ 64 → ran_by stop turned s p K order ≡ ran_by stop turned_sound s p K order
  ran_turned s p K order k = go (begin s p K).answer refl
    where
      go : (a : Result ⊤ Refusal) → (begin s p K).answer ≡ a
          → begin_then a (turns_by stop turned (begin s p K).run order) ≡ begin_then a (turns_by stop turned_sound (begin s p K).run order)
      go (Ok _) e = begun_turned s p K order k e
      go (Err x) e = refl

-- what a single turn says after an order's turns
said_sound : (order : List ℕ) (w : ℕ) (r : Run) → Steady r → r.turns + length order < 2 ^ 64 - 1 → said_after turned r order w ≡ said_after turned_sound r order w
said_sound [] w r h k = ap (λ (x : Turned). turning_values x.answer) (turned_sound_lem r w (record { steady = h; turns = omega arith }))
said_sound (v ∷ order) w r h k =
    let e : turned r v ≡ turned_sound r v = turned_sound_lem r v (record { steady = h; turns = omega arith }) in
    let ih = said_sound order w (turned r v).run (turn_steady r v h) (omega (arith, turned_turns r v)) in
    rw (ih, e)

said_same : (c : TurnCase) → length (c.worker ∷ c.order) < 2 ^ 64 → said_by turned c ≡ said_by turned_sound c
said_same c k = go (begin c.bytes c.workers c.quota).answer refl
  where
    after : (Run → ℕ → Turned) → Values
    after turn = said_after turn (begin c.bytes c.workers c.quota).run c.order c.worker

    go : (a : Result ⊤ Refusal) → (begin c.bytes c.workers c.quota).answer ≡ a → begin_saying a (after turned) ≡ begin_saying a (after turned_sound)
    go (Ok _) e = let f = begun_fresh c.bytes c.workers c.quota e in said_sound c.order c.worker _ f.0 (omega (arith, f.1))
    go (Err x) e = refl

-- ---- the tables of cases

module _ {A : Type 0} (order : A → List ℕ) where
  short : List A → Bool
  short [] = true
  short (c ∷ l) = ltb (length (order c)) (2 ^ 64) && short l

  all_same : {B : Type 0} (f g : A → B) → ((c : A) → length (order c) < 2 ^ 64 → f c ≡ g c) → (l : List A) → short l ≡ true → map f l ≡ map g l
  unfolding short
  all_same f g same [] h = refl
  all_same f g same (c ∷ l) h =
      let q : (ltb (length (order c)) (2 ^ 64) ≡ true) × (short l ≡ true) = (and_exactly (ltb (length (order c)) (2 ^ 64)) (short l)).0 h in
      cc (same c ((ltb_exactly (length (order c)) (2 ^ 64)).0 q.0), all_same f g same l q.1)

all_worked : (l : List Case) → short (λ (c : Case). c.order) l ≡ true → Worked turned_sound l → Worked turned l
all_worked l k w = all_same (λ (c : Case). c.order) _ _ (λ c k. ran_turned never c.bytes c.workers c.quota c.order k) l k ∙ w

-- every row's beginning and turns have the row's listing
pub worked_turned : Worked turned cases × Worked turned own_cases
unfolding short cases own_cases
worked_turned = (all_worked cases refl worked.0, all_worked own_cases refl worked.1)

all_said : (l : List TurnCase) → short (λ (c : TurnCase). c.worker ∷ c.order) l ≡ true → Says turned_sound l → Says turned l
all_said l k w = all_same (λ (c : TurnCase). c.worker ∷ c.order) _ _ said_same l k ∙ w

-- every row's single turn says what the row says
pub said_turned : Says turned turn_cases × Says turned own_turns
unfolding short turn_cases own_turns
said_turned = (all_said turn_cases refl said_worked.0, all_said own_turns refl said_worked.1)

all_measured : (l : List RowCase) → short (λ (c : RowCase). c.order) l ≡ true → Measured turned_sound l → Measured turned l
all_measured l k w =
    all_same (λ (c : RowCase). c.order) (measured_by turned) (measured_by turned_sound) (λ c k.
    ap (λ (x : Listing).
    record {
      serial = (measured_by turned c).serial;
      depth = (measured_by turned c).depth;
      limit = (measured_by turned c).limit;
      peak = (measured_by turned c).peak;
      last = x.last;
      keeps = (measured_by turned c).keeps;
    }) (ran_turned never c.bytes c.workers c.quota c.order k)) l k
    ∙ w

-- and every row against the limit has the row's measures
pub rows_turned : Measured turned row_cases × Measured turned own_rows
unfolding short row_cases own_rows
rows_turned = (all_measured row_cases refl rows_worked.0, all_measured own_rows refl rows_worked.1)
