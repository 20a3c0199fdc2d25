-- The limits for paced calls by value. A history is a beginning of a run, one of a pace, and paced turns, lists and rounds, each on the record and the pace that the last one left, of which nothing is
-- known but what the functions' own `ensures` say. `moves_history_is`: record, pace and row are those of the definitions. `moves_exist`: every list of calls has one. `moves_code_limit`: so the limits
-- with b hold of them, with no hypothesis on the row.
use Rattle.std.specs.Prelude.{Ok}
use mathlib.Core.Path.{◌≡◌, refl, sym, ap, ap₂, subst, ◌∙◌}
use Prim.Native.Nat.{ℕ}
use mathlib.Core.List.{List, [], ◌∷◌, ◌++◌}
use contract.Lifetimes.{Lfts}
use denote.Ref.{Bor}
use denote.Triple.Clauses.{AtExit}
use borrow.Fn.Kinds.{ended_of}
use lib.ListN.{take}
use Rattle.table.specs.Format.{table_of}
use Rattle.filling.specs.Filled.{filled_out}
use Rattle.schedule.specs.declared.Run.{Run}
use Rattle.schedule.specs.declared.Begun.{Begun}
use Rattle.schedule.specs.Begin.{begin}
use Rattle.schedule.specs.Calls.{Call, turn, over_list, in_rounds, turns_in, turn_row}
use Rattle.claims.proofs.ByValue.{BeginSays, begin_is, begin_says}
use Rattle.claims.proofs.LentSays.{lent_of}
use Rattle.pacing.specs.declared.Pace.{Pace}
use Rattle.pacing.specs.declared.PaceBegun.{PaceBegun}
use Rattle.pacing.specs.declared.PacedTurned.{PacedTurned}
use Rattle.pacing.specs.declared.PacedRan.{PacedRan}
use Rattle.pacing.specs.Pacing.{begin_pace, paced_turned, paced_list_run, paced_rounds_run}
use Rattle.pacing.specs.PacedValues.{Beside, beside}
use Rattle.pacing.proofs.PacedAnswers.{begun_answers, turned_answers, list_answers, rounds_answers}
use Rattle.paced_claims.specs.PacedMoves.{after_turn, after_run, paced_move, rounds_row, move_row, paced_moves, moves_row}
use Rattle.paced_claims.proofs.Keeping.{PacedWithin}
use Rattle.paced_claims.proofs.MovesLimit.{moves_limit}
use Rattle.pacing.proofs.begin_pace.Kinds as pace_kinds
use Rattle.pacing.proofs.begin_pace.Reads as pace_promise
use Rattle.pacing.proofs.paced_turn.Kinds as turn_kinds
use Rattle.pacing.proofs.paced_turn.Reads as turn_promise
use Rattle.pacing.proofs.run_paced_list.Kinds as list_kinds
use Rattle.pacing.proofs.run_paced_list.Reads as list_promise
use Rattle.pacing.proofs.run_paced_rounds.Kinds as rounds_kinds
use Rattle.pacing.proofs.run_paced_rounds.Reads as rounds_promise

-- ---- what the promises say

-- `pacing::begin_pace(p, b)` answered d
pub record PaceSays (p b : ℕ) (d : PaceBegun) : Type 0 where
  pub exit : AtExit (ended_of 0 pace_kinds.ps pace_kinds.r) tt
  pub promised : pace_promise.Learnt tt (p, (b, tt)) d exit

-- `pacing::paced_turn(r, P, w)` answered d
pub record TurnSays (r : Run) (P : Pace) (w : ℕ) (d : PacedTurned) : Type 0 where
  pub exit : AtExit (ended_of 0 turn_kinds.ps turn_kinds.r) tt
  pub promised : turn_promise.Learnt tt (r, (P, (w, tt))) d exit

-- `pacing::run_paced_list(r, P, l)` answered d
pub record ListSays (r : Run) (P : Pace) (l : List ℕ) (d : PacedRan) : Type 0 where
  pub lifetimes : Lfts 1
  pub order : Bor (List ℕ)
  pub lent : order.now ≡ l
  pub exit : AtExit (ended_of 1 list_kinds.ps list_kinds.r) lifetimes
  pub promised : list_promise.Learnt lifetimes (r, (P, (order, tt))) d exit

-- `pacing::run_paced_rounds(r, P, limit)` answered d
pub record RoundsSays (r : Run) (P : Pace) (limit : ℕ) (d : PacedRan) : Type 0 where
  pub exit : AtExit (ended_of 0 rounds_kinds.ps rounds_kinds.r) tt
  pub promised : rounds_promise.Learnt tt (r, (P, (limit, tt))) d exit

-- ---- a history

-- one call on a record r and a pace P: the workers whose turns were taken, as the answer has it, and what it left
pub data Moved (r : Run) (P : Pace) : Call → List ℕ → Beside → Type 0 where
  by_turn_lem : (w : ℕ) (d : PacedTurned) → TurnSays r P w d → Moved r P (turn w) (turn_row d.answer w) (after_turn d)
  by_list_lem : (l : List ℕ) (d : PacedRan) → ListSays r P l d → Moved r P (over_list l) (take (turns_in d.report) l) (after_run d)
  by_rounds_lem : (limit : ℕ) (d : PacedRan) → RoundsSays r P limit d → Moved r P (in_rounds limit) (rounds_row (turns_in d.report) P) (after_run d)

-- calls one after the other, the rows laid end to end, and what they leave
pub data MovesHistory : Run → Pace → List Call → List ℕ → Beside → Type 0 where
  none : {r : Run} {P : Pace} → MovesHistory r P [] [] (beside r P)
  next : {r : Run} {P : Pace} {c : Call} {row : List ℕ} {z : Beside} {calls : List Call} {rest : List ℕ} {y : Beside} → Moved r P c row z
      → MovesHistory z.run z.pace calls rest y → MovesHistory r P (c ∷ calls) (row ++ rest) y

moved_is : {r : Run} {P : Pace} {c : Call} {row : List ℕ} {z : Beside} → Moved r P c row z → (row ≡ move_row c r P) × (z ≡ paced_move c r P)
unfolding paced_move move_row
moved_is (by_turn_lem w d h) = let e = h.promised.0 in (ap (λ (x : PacedTurned). turn_row x.answer w) e, ap after_turn e)
moved_is {r} {P} (by_list_lem l d h) = let e = h.promised.0 ∙ ap (paced_list_run r P) h.lent in (ap (λ (x : PacedRan). take (turns_in x.report) l) e, ap after_run e)
moved_is {r} {P} (by_rounds_lem limit d h) = let e = h.promised.0 in (ap (λ (x : PacedRan). rounds_row (turns_in x.report) P) e, ap after_run e)

pub moves_history_is : {r : Run} {P : Pace} {calls : List Call} {row : List ℕ} {y : Beside} → MovesHistory r P calls row y → (y ≡ paced_moves calls r P) × (row ≡ moves_row calls r P)
unfolding paced_moves moves_row
moves_history_is none = (refl, refl)
moves_history_is (next {r} {P} {c} {row} {z} {calls} {rest} {y} h t) =
    let a = moved_is h in
    let b = moves_history_is t in (
      b.0 ∙ ap (λ (x : Beside). paced_moves calls x.run x.pace) a.1,
      ap₂ ◌++◌ a.0 (b.1 ∙ ap (λ (x : Beside). moves_row calls x.run x.pace) a.1),
    )

-- ---- a history exists

pub pace_says : (p b : ℕ) → PaceSays p b (begin_pace p b)
pace_says p b = record { exit = (p, (b, tt)); promised = begun_answers p b refl }

moved : (r : Run) (P : Pace) (c : Call) → Moved r P c (move_row c r P) (paced_move c r P)
unfolding paced_move move_row
moved r P (turn w) = by_turn_lem w (paced_turned r P w) (record { exit = (r, (P, (w, tt))); promised = turned_answers r P w refl })
moved r P (over_list l) =
    by_list_lem l (paced_list_run r P l) (record { lifetimes = ([], tt); order = lent_of l; lent = refl; exit = (r, (P, (lent_of l, tt))); promised = list_answers r P l refl })
moved r P (in_rounds limit) = by_rounds_lem limit (paced_rounds_run r P limit) (record { exit = (r, (P, (limit, tt))); promised = rounds_answers r P limit refl })

moves_history_exists : (calls : List Call) (r : Run) (P : Pace) → MovesHistory r P calls (moves_row calls r P) (paced_moves calls r P)
unfolding paced_moves moves_row
moves_history_exists [] r P = none
moves_history_exists (c ∷ calls) r P = let z : Beside = paced_move c r P in next (moved r P c) (moves_history_exists calls z.run z.pace)

-- from any beginnings on, refused or not
pub moves_exist : (s : List ℕ) (p K b : ℕ) (calls : List Call)
    → BeginSays s p K (begin s p K) × (PaceSays p b (begin_pace p b)
    × MovesHistory (begin s p K).run (begin_pace p b).pace calls (moves_row calls (begin s p K).run (begin_pace p b).pace) (paced_moves calls (begin s p K).run (begin_pace p b).pace))
moves_exist s p K b calls = (begin_says s p K, (pace_says p b, moves_history_exists calls (begin s p K).run (begin_pace p b).pace))

-- ---- the limits

-- `asyncdf::begin` and `pacing::begin_pace` began a run and a pace, for the same p, and any paced calls followed, refused ones included
pub moves_code_limit : {s : List ℕ} {p K b : ℕ} {x : Begun} {q : PaceBegun} → BeginSays s p K x → x.answer ≡ Ok tt → PaceSays p b q → q.answer ≡ Ok tt
    → {calls : List Call} {row : List ℕ} {y : Beside} → MovesHistory x.run q.pace calls row y → PacedWithin (table_of (filled_out s K)) p K b row y.run y.pace.numbers
moves_code_limit {s} {p} {K} {b} {x} {q} h e g f {calls} {row} {y} t =
    let T = table_of (filled_out s K) in
    let k : q ≡ begin_pace p b = g.promised.0 in
    let begun : begin s p K ≡ record { answer = Ok tt; run = x.run } = sym (begin_is h) ∙ (λ i. record { answer = e i; run = x.run }) in
    let c = moves_limit s p K b x.run begun (ap (λ (z : PaceBegun). z.answer) (sym k) ∙ f) calls in
    let d = moves_history_is t in
    let m : y ≡ paced_moves calls x.run (begin_pace p b).pace = d.0 ∙ ap (λ (z : PaceBegun). paced_moves calls x.run z.pace) k in
    let r : row ≡ moves_row calls x.run (begin_pace p b).pace = d.1 ∙ ap (λ (z : PaceBegun). moves_row calls x.run z.pace) k in
    subst (λ (v : Beside). PacedWithin T p K b row v.run v.pace.numbers) (sym m) (
    subst (λ (v : List ℕ). PacedWithin T p K b v (paced_moves calls x.run (begin_pace p b).pace).run (paced_moves calls x.run (begin_pace p b).pace).pace.numbers) (sym r) c
    )
