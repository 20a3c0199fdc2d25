-- What document 01's reviewer tries, and why none of it is the machine: laws of every run, and the first two turns of E.
use Rattle.std.specs.Prelude.{Ok, Result}
use Rattle.table.specs.declared.Refusal.{Refusal}
use Rattle.schedule.specs.declared.Taken.{Taken}
use Rattle.schedule.specs.Turn.{taken_turn}
use mathlib.Core.Path.{◌≡◌, refl, sym, ap, subst, ◌∙◌}
use Prim.Native.Nat.{ℕ, zero, suc, ◌+◌, ◌-◌, ◌^◌, ◌%◌, ◌<◌}
use native.Mathlib.Omega.{arith}
use mathlib.Core.List.{List}
use mathlib.Core.Bool.{Bool, true, false}
use lib.ListN.{length, get_or}
use lib.Dec.{eqb}
use Rattle.table.specs.Sum.{pick, sum_to, any_below}
use Rattle.table.specs.Format.{code_of, kind_of, is, table_of}
use Rattle.table.specs.Pass.{refusal, try_at, try_from, try_pass, first_found}
use Rattle.table.specs.Checks.{entry_wrong, total_wrong, owner_below, kind_unknown, argument_wrong, end_misplaced, forked_below, forked_before}
use Rattle.table.specs.Checks.{open_before, join_not_latest, end_with_open, never_forked, alloc_of, free_of, whole_within, balance, balance_below0, passes}
use Rattle.table.specs.Level.{fork_below}
use Rattle.table.specs.Cases.{E}
use Rattle.table.proofs.Tests.{no_way}
use Rattle.table.proofs.Passes.{passes_rules}
use Rattle.schedule.specs.declared.Run.{Run}
use Rattle.schedule.specs.declared.Ran.{Ran}
use Rattle.schedule.specs.declared.Report.TheVariants.{Finished, Spent, Refused}
use Rattle.schedule.specs.declared.Reply.TheVariants.{Idle, Done}
use Rattle.schedule.specs.declared.Turned.{Turned}
use Rattle.schedule.specs.Machine.{left_of, without, waits_for, woken, act_by, act, leftmost, taken, turn_free, turn_of, passed_by}
use Rattle.schedule.specs.Record.{set_of}
use Rattle.schedule.specs.Begin.{setting_passes, start_state, start_run, begin}
use Rattle.filling.specs.Filled.{big, filled_out, overfull}
use Rattle.order.specs.Firsts.{firsts}
use Rattle.schedule.specs.Links.{walk, right_in}
use Rattle.schedule.specs.Turn.{unsound, root_ended, no_worker, step_run, turned, passed_in}
use Rattle.schedule.specs.Runs.{ran, moved, drive, list_run, rounds_run}
use Rattle.schedule.specs.Sound.{Steady, Sound}
use Rattle.schedule.specs.Calls.{turns_in}
use Rattle.schedule.specs.Memory.{limit}
use Rattle.schedule.specs.Rule.{keeps}
use Rattle.schedule.specs.RowList.{after_row}
use Rattle.schedule.specs.BigCases.{wide, order_wide, wide_worked}
use Rattle.schedule.specs.Answers.{turning_values}
use Rattle.schedule.specs.Cases.{turned_sound}
use Rattle.order.proofs.Words.{not_both}
use Rattle.schedule.proofs.Runs.Histories.{start_steady, begin_sound, turn_steady}
use Rattle.schedule.proofs.CaseLaws.{turned_sound_lem, moved_turns}

-- ---- "A run in rounds that says spent with turns left"

-- a run that says spent has taken every turn that it was given
spends : (who : ℕ → ℕ) (k i : ℕ) (r : Run) (j : ℕ) → (drive who k i r).report ≡ Spent j → j ≡ i + k
unfolding drive
spends who zero i r j e = go (root_ended r) e
  where
    go : (b : Bool) → pick b (Finished i) (Spent i) ≡ Spent j → j ≡ i + 0
    go true x = no_way cc
    go false x = let z : i ≡ j = ap turns_in x in omega (arith, z)
spends who (suc k) i r j e = go (root_ended r) (eqb r.turns (2 ^ 64 - 1)) (no_worker r (who i)) e (spends who k (suc i) (moved r (who i)) j)
  where
    rest : Ran
    rest = drive who k (suc i) (moved r (who i))

    go : (b c d : Bool) → (pick b (ran (Finished i) r) (pick c (ran (Refused i (refusal 32 0)) r) (pick d (ran (Refused i (refusal 30 0)) r) rest))).report ≡ Spent j
        → (rest.report ≡ Spent j → j ≡ suc i + k) → j ≡ i + suc k
    go true c d x ih = no_way cc
    go false true d x ih = no_way cc
    go false false true x ih = no_way cc
    go false false false x ih = omega (arith, ih x)

pub rounds_spent_all : (r : Run) (limit j : ℕ) → (rounds_run r limit).report ≡ Spent j → j ≡ limit
unfolding rounds_run
rounds_spent_all r limit j e = go (unsound r) (eqb r.workers 0) e
  where
    whole : Ran
    whole = drive (λ i. i % r.workers) limit 0 r

    go : (b c : Bool) → (pick b (ran (Refused 0 (refusal 32 0)) r) (pick c (ran (Refused 0 (refusal 30 0)) r) whole)).report ≡ Spent j → j ≡ limit
    go true c x = no_way cc
    go false true x = no_way cc
    go false false x = omega (arith, spends (λ i. i % r.workers) limit 0 r j x)

pub list_spent_all : (r : Run) (l : List ℕ) (j : ℕ) → (list_run r l).report ≡ Spent j → j ≡ length l
unfolding list_run
list_spent_all r l j e = go (unsound r) e
  where
    whole : Ran
    whole = drive (λ i. get_or l i 0) (length l) 0 r

    go : (b : Bool) → (pick b (ran (Refused 0 (refusal 32 0)) r) whole).report ≡ Spent j → j ≡ length l
    go true x = no_way cc
    go false x = omega (arith, spends (λ i. get_or l i 0) (length l) 0 r j x)

-- ---- "one with invented turn numbers"

-- the turns that a run reports are those by which the record's turns taken have grown
counts : (who : ℕ → ℕ) (k i : ℕ) (r : Run) → i + (drive who k i r).run.turns ≡ turns_in (drive who k i r).report + r.turns
unfolding drive
counts who zero i r = go (root_ended r)
  where
    go : (b : Bool) → i + r.turns ≡ turns_in (pick b (Finished i) (Spent i)) + r.turns
    go true = refl
    go false = refl
counts who (suc k) i r = go (root_ended r) (eqb r.turns (2 ^ 64 - 1)) (no_worker r (who i)) (counts who k (suc i) (moved r (who i)))
  where
    rest : Ran
    rest = drive who k (suc i) (moved r (who i))

    whole : Bool → Bool → Bool → Ran
    whole b c d = pick b (ran (Finished i) r) (pick c (ran (Refused i (refusal 32 0)) r) (pick d (ran (Refused i (refusal 30 0)) r) rest))

    go : (b c d : Bool) → suc i + rest.run.turns ≡ turns_in rest.report + (moved r (who i)).turns → i + (whole b c d).run.turns ≡ turns_in (whole b c d).report + r.turns
    go true c d h = refl
    go false true d h = refl
    go false false true h = refl
    go false false false h = omega (arith, h, moved_turns r (who i))

pub rounds_counted : (r : Run) (limit : ℕ) → (rounds_run r limit).run.turns ≡ turns_in (rounds_run r limit).report + r.turns
unfolding rounds_run
rounds_counted r limit = go (unsound r) (eqb r.workers 0)
  where
    whole : Ran
    whole = drive (λ i. i % r.workers) limit 0 r

    all : Bool → Bool → Ran
    all b c = pick b (ran (Refused 0 (refusal 32 0)) r) (pick c (ran (Refused 0 (refusal 30 0)) r) whole)

    go : (b c : Bool) → (all b c).run.turns ≡ turns_in (all b c).report + r.turns
    go true c = omega arith
    go false true = omega arith
    go false false = omega (arith, counts (λ i. i % r.workers) limit 0 r)

pub list_counted : (r : Run) (l : List ℕ) → (list_run r l).run.turns ≡ turns_in (list_run r l).report + r.turns
unfolding list_run
list_counted r l = go (unsound r)
  where
    whole : Ran
    whole = drive (λ i. get_or l i 0) (length l) 0 r

    all : Bool → Ran
    all b = pick b (ran (Refused 0 (refusal 32 0)) r) whole

    go : (b : Bool) → (all b).run.turns ≡ turns_in (all b).report + r.turns
    go true = omega arith
    go false = omega (arith, counts (λ i. get_or l i 0) (length l) 0 r)

-- ---- the memory limit "for a sound record made up by hand" (N6)

-- the record that a beginning would give if the table were run as it is: it is sound, and after five turns that keep the rule with b 1 it holds more than the limit
abbrev handmade : Run
handmade = start_run wide 2 1

handmade_passes : (first_found (passes wide) ≡ Ok tt) × (first_found (setting_passes 2 1) ≡ Ok tt) × (handmade.turns ≡ 0)
unfolding wide sum_to any_below code_of kind_of is table_of try_at try_from try_pass first_found entry_wrong total_wrong owner_below kind_unknown argument_wrong end_misplaced forked_below forked_before open_before join_not_latest end_with_open never_forked alloc_of free_of whole_within balance balance_below0 passes set_of firsts start_state start_run
handmade_passes = (refl, refl, refl)

handmade_held : (after_row handmade order_wide).held ≡ 200
unfolding wide sum_to any_below code_of kind_of is table_of owner_below fork_below left_of without waits_for woken act_by act leftmost taken turn_free turn_of set_of firsts walk right_in start_state start_run step_run after_row
handmade_held = refl

pub by_hand_beyond : Sound handmade × (keeps 1 order_wide ≡ true) × (limit (table_of wide) 2 1 1 < (after_row handmade order_wide).held)
by_hand_beyond =
    let (p, q, t) = handmade_passes in (
      record { steady = start_steady wide 2 1 ((passes_rules wide).0 p) q; turns = omega (arith, t) },
      wide_worked.2,
      omega (arith, wide_worked.1, handmade_held),
    )

-- ---- "finishes all jobs on turn one", "always idle", "repeating a reply", "leaving the record alone": not E's first two turns, with p 2 and K 6

abbrev begun_e : Run
begun_e = (begin E 2 6).run

-- what the turns say and leave, computed; of a sound record check 32 does not apply
record Seen (turn : Run → ℕ → Turned) : Type 0 where
  first : (turn begun_e 0).answer ≡ taken_turn (Done 0 0) 0
  second : (turn (turn begun_e 0).run 1).answer ≡ taken_turn (Done 1 5) 0
  unended : root_ended (turn begun_e 0).run ≡ false
  counted : (turn begun_e 0).run.turns ≡ 1

begins_e : ((begin E 2 6).answer ≡ Ok tt) × (begun_e.turns ≡ 0)
unfolding sum_to any_below code_of kind_of is table_of try_at try_from try_pass first_found entry_wrong total_wrong owner_below kind_unknown argument_wrong end_misplaced forked_below forked_before open_before join_not_latest end_with_open never_forked alloc_of free_of whole_within balance balance_below0 passes set_of big overfull filled_out firsts walk right_in start_state start_run begin
begins_e = (refl, refl)

seen : Seen turned_sound
unfolding sum_to any_below code_of kind_of is table_of try_at try_from try_pass first_found entry_wrong total_wrong owner_below kind_unknown argument_wrong end_misplaced forked_below forked_before open_before join_not_latest end_with_open never_forked alloc_of free_of whole_within balance balance_below0 passes fork_below left_of without waits_for woken act_by act leftmost taken turn_free turn_of set_of big overfull filled_out firsts walk right_in start_state start_run begin root_ended no_worker step_run passed_by passed_in
seen = record { first = refl; second = refl; unended = refl; counted = refl }

-- the same of the turns as they are defined
seen_turned : Seen turned
seen_turned =
    let s : Sound begun_e = begin_sound E 2 6 begun_e (λ i. record { answer = begins_e.0 i; run = begun_e }) in
    let a : turned begun_e 0 ≡ turned_sound begun_e 0 = turned_sound_lem begun_e 0 s in
    let n : (turned_sound begun_e 0).run.turns < 2 ^ 64 - 1 = omega (arith, seen.counted) in
    let t : Sound (turned_sound begun_e 0).run = record { steady = subst (λ (x : Turned). Steady x.run) a (turn_steady begun_e 0 s.steady); turns = n } in
    let b : turned (turned_sound begun_e 0).run 1 ≡ turned_sound (turned_sound begun_e 0).run 1 = turned_sound_lem _ 1 t in
    record {
      first = ap (λ (x : Turned). x.answer) a ∙ seen.first;
      second = ap (λ (x : Turned). (turned x.run 1).answer) a ∙ ap (λ (x : Turned). x.answer) b ∙ seen.second;
      unended = ap (λ (x : Turned). root_ended x.run) a ∙ seen.unended;
      counted = ap (λ (x : Turned). x.run.turns) a ∙ seen.counted;
    }

pub all_at_once_wrong : root_ended (turned begun_e 0).run ≡ true → ⊥
all_at_once_wrong e = not_both _ e seen_turned.unended

pub always_idle_wrong : (turned (turned begun_e 0).run 1).answer ≡ taken_turn Idle 0 → ⊥
always_idle_wrong e = let z = ap (λ (x : Result Taken Refusal). (turning_values x).value) (sym seen_turned.second ∙ e) in omega (arith, z)

pub repeated_wrong : (turned (turned begun_e 0).run 1).answer ≡ (turned begun_e 0).answer → ⊥
repeated_wrong e = let z = ap (λ (x : Result Taken Refusal). (turning_values x).value) (sym seen_turned.second ∙ e ∙ seen_turned.first) in omega (arith, z)

pub left_alone_wrong : (turned begun_e 0).run ≡ begun_e → ⊥
left_alone_wrong e = omega (arith, ap (λ (r : Run). r.turns) e, seen_turned.counted, begins_e.1)
