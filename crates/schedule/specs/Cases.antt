-- Document 01's worked cases on runs that bear a star, and rows of our own, as two tables with one theorem over both, computed on the definitions.
use Rattle.std.specs.Prelude.{◌≡◌, refl, ℕ, Bool, false, replicate, Err, Ok, Result, ⊤}
use Rattle.table.specs.declared.Refusal.{Refusal}
use mathlib.Core.List.{List, [], ◌∷◌, ◌++◌, map, flatten}
use Rattle.table.specs.Sum.{sum_to, any_below}
use Rattle.table.specs.Format.{code_of, kind_of, is, table_of}
use Rattle.table.specs.declared.kinds.Kind.TheVariants.{End as end, Work as work, Alloc as alloc, Free as free, Fork as fork, Join as join}
use Rattle.table.specs.Pass.{Check, try_at, try_from, try_pass, first_found}
use Rattle.table.specs.Checks.{entry_wrong, total_wrong, owner_below, kind_unknown, argument_wrong, end_misplaced, forked_below, forked_before}
use Rattle.table.specs.Checks.{open_before, join_not_latest, end_with_open, never_forked, alloc_of, free_of, whole_within, balance, balance_below0, passes}
use Rattle.table.specs.Serial.{serial_within}
use Rattle.table.specs.Level.{fork_below}
use Rattle.table.specs.Written.{entry_rows, action_rows, table_rows}
use Rattle.table.specs.Written.{written as written_table}
use Rattle.table.specs.Cases.{written, E, least, two_allocs}
use Rattle.table.specs.Cases.{act as action}
use Rattle.schedule.specs.declared.Run.{Run}
use Rattle.schedule.specs.declared.Turned.{Turned}
use Rattle.schedule.specs.Machine.{left_of, without, waits_for, woken, act_by, act, leftmost, taken, turn_free, turn_of}
use Rattle.schedule.specs.Record.{set_of}
use Rattle.schedule.specs.Begin.{start_state, start_run, begin}
use Rattle.filling.specs.Filled.{big, dummies, new_threads, new_actions, tree_of, sum_before, root_of, filled_from, old_bodies, trees_along, filled_bodies, filled_out, overfull}
use Rattle.order.specs.Firsts.{firsts}
use Rattle.schedule.specs.Links.{walk, right_in}
use Rattle.schedule.specs.Turn.{root_ended, no_worker, step_run, passed_in, turned_as}
use Rattle.schedule.specs.Listing.{idle, did, quota, wait, Line, line, Last, done, not_done, refused, Listing, listing, turns_by}

-- ---- runs from a beginning

abbrev pub begin_then : Result ⊤ Refusal → Listing → Listing
begin_then (Ok _) rest = rest
begin_then (Err x) rest = listing [] (refused x.number x.place)

-- a beginning and then turns
abbrev pub ran_by : (Run → Bool) → (Run → ℕ → Turned) → List ℕ → ℕ → ℕ → List ℕ → Listing
ran_by stop turn s p K order = begin_then (begin s p K).answer (turns_by stop turn (begin s p K).run order)

-- single turns go on at the root's end, and get 31 there
abbrev pub never : Run → Bool
never r = false

-- The checks of a turn on a sound record: 32 does not apply. To test at each turn the whole of a record, with its 36,868 bytes and 1,024 threads, takes seconds to compute. But a
-- beginning's record is sound and turns keep it so (`begin_sound` and `turn_steady`, proofs/Runs/Histories), hence `ran_by never turned_sound`, which the rows compute, is
-- `ran_by never turned` (`ran_turned`, proofs/CaseLaws).
abbrev pub sound_checks : Run → ℕ → List Check
sound_checks r w = record { number = 30; applies = λ i. no_worker r w } ∷ record { number = 31; applies = λ i. root_ended r } ∷ []

abbrev pub turned_sound : Run → ℕ → Turned
turned_sound r w = turned_as (try_at (sound_checks r w) 0) r (passed_in r w) (step_run r w)

-- ---- the rows

pub record Case : Type 0 where
  pub bytes : List ℕ
  pub workers : ℕ
  pub quota : ℕ
  pub order : List ℕ
  pub listing : Listing

-- the table's bytes, p, K, the order of workers, the lines and the last
abbrev pub runs : List ℕ → ℕ → ℕ → List ℕ → List Line → Last → Case
runs s p K order l x = record { bytes = s; workers = p; quota = K; order = order; listing = listing l x }

-- "For p 2, K 6, the order 0, 1 given seven times, and table E below it prints"
abbrev pub order_e : List ℕ
order_e = 0 ∷ 1 ∷ 0 ∷ 1 ∷ 0 ∷ 1 ∷ 0 ∷ 1 ∷ 0 ∷ 1 ∷ 0 ∷ 1 ∷ 0 ∷ 1 ∷ []

abbrev pub lines_e : List Line
lines_e =
    line 1 0 (did 0 0 fork) 0
    ∷ line 2 1 (did 1 5 alloc) 6
    ∷ line 3 0 (did 0 1 fork) 6
    ∷ line 4 1 (did 1 6 work) 6
    ∷ line 5 0 (did 2 9 alloc) 12
    ∷ line 6 1 (did 1 7 free) 6
    ∷ line 7 0 (did 2 10 free) 0
    ∷ line 8 1 (did 1 8 end) 0
    ∷ line 9 0 (did 2 11 end) 0
    ∷ line 10 1 (did 0 2 join) 0
    ∷ line 11 0 idle 0
    ∷ line 12 1 (did 0 3 join) 0
    ∷ line 13 0 idle 0
    ∷ line 14 1 (did 0 4 end) 0
    ∷ []

-- "E with K 5 is accepted" (N6), p 2, the order 0, 1 until it is done: thread 3 forks 4 and 5 in front of the alloc of thread 1, thread 6 forks 7 and 8 in front of that of thread 2
abbrev pub order_filled : List ℕ
order_filled = order_e ++ order_e ++ order_e ++ (0 ∷ 1 ∷ [])

abbrev pub lines_filled : List Line
lines_filled =
    line 1 0 (did 0 0 fork) 0
    ∷ line 2 1 (did 1 5 fork) 0
    ∷ line 3 0 (did 3 16 fork) 0
    ∷ line 4 1 (did 4 21 work) 0
    ∷ line 5 0 (did 3 17 fork) 0
    ∷ line 6 1 (did 4 22 end) 0
    ∷ line 7 0 (did 5 23 work) 0
    ∷ line 8 1 (wait 3 18) 0
    ∷ line 9 0 (did 5 24 end) 0
    ∷ line 10 1 (did 3 18 join) 0
    ∷ line 11 0 (wait 1 6) 0
    ∷ line 12 1 (did 3 19 join) 0
    ∷ line 13 0 (did 0 1 fork) 0
    ∷ line 14 1 (did 3 20 end) 0
    ∷ line 15 0 (did 1 6 join) 0
    ∷ line 16 1 (did 2 11 fork) 0
    ∷ line 17 0 (did 1 7 alloc) 6
    ∷ line 18 1 (did 6 25 fork) 6
    ∷ line 19 0 (did 1 8 work) 6
    ∷ line 20 1 (did 7 30 work) 6
    ∷ line 21 0 (did 1 9 free) 0
    ∷ line 22 1 (did 7 31 end) 0
    ∷ line 23 0 (did 1 10 end) 0
    ∷ line 24 1 (did 6 26 fork) 0
    ∷ line 25 0 (did 8 32 work) 0
    ∷ line 26 1 (wait 6 27) 0
    ∷ line 27 0 (did 8 33 end) 0
    ∷ line 28 1 (did 6 27 join) 0
    ∷ line 29 0 (wait 2 12) 0
    ∷ line 30 1 (did 6 28 join) 0
    ∷ line 31 0 (wait 0 2) 0
    ∷ line 32 1 (did 6 29 end) 0
    ∷ line 33 0 (did 2 12 join) 0
    ∷ line 34 1 idle 0
    ∷ line 35 0 (did 2 13 alloc) 6
    ∷ line 36 1 idle 6
    ∷ line 37 0 (did 2 14 free) 0
    ∷ line 38 1 idle 0
    ∷ line 39 0 (did 2 15 end) 0
    ∷ line 40 1 (did 0 2 join) 0
    ∷ line 41 0 idle 0
    ∷ line 42 1 (did 0 3 join) 0
    ∷ line 43 0 idle 0
    ∷ line 44 1 (did 0 4 end) 0
    ∷ []

-- "E with p 1, K 6"
abbrev pub lines_alone : List Line
lines_alone =
    line 1 0 (did 0 0 fork) 0
    ∷ line 2 0 (did 1 5 alloc) 6
    ∷ line 3 0 (did 1 6 work) 6
    ∷ line 4 0 (did 1 7 free) 0
    ∷ line 5 0 (did 1 8 end) 0
    ∷ line 6 0 (did 0 1 fork) 0
    ∷ line 7 0 (did 2 9 alloc) 6
    ∷ line 8 0 (did 2 10 free) 0
    ∷ line 9 0 (did 2 11 end) 0
    ∷ line 10 0 (did 0 2 join) 0
    ∷ line 11 0 (did 0 3 join) 0
    ∷ line 12 0 (did 0 4 end) 0
    ∷ []

-- "E, p 2, order 0 1 0 1 1 1 1 0", its first seven turns
abbrev pub order_wait : List ℕ
order_wait = 0 ∷ 1 ∷ 0 ∷ 1 ∷ 1 ∷ 1 ∷ 1 ∷ []

abbrev pub lines_wait : List Line
lines_wait =
    line 1 0 (did 0 0 fork) 0
    ∷ line 2 1 (did 1 5 alloc) 6
    ∷ line 3 0 (did 0 1 fork) 6
    ∷ line 4 1 (did 1 6 work) 6
    ∷ line 5 1 (did 1 7 free) 0
    ∷ line 6 1 (did 1 8 end) 0
    ∷ line 7 1 (did 2 9 alloc) 6
    ∷ []

-- ours: worker 0 takes thread 2 to its end and then thread 0 up to its join of thread 1, which is action 3
abbrev pub order_later : List ℕ
order_later = 0 ∷ 1 ∷ 0 ∷ 0 ∷ 0 ∷ 0 ∷ 0 ∷ []

abbrev pub lines_later : List Line
lines_later =
    line 1 0 (did 0 0 fork) 0
    ∷ line 2 1 (did 1 5 alloc) 6
    ∷ line 3 0 (did 0 1 fork) 6
    ∷ line 4 0 (did 2 9 alloc) 12
    ∷ line 5 0 (did 2 10 free) 6
    ∷ line 6 0 (did 2 11 end) 6
    ∷ line 7 0 (did 0 2 join) 6
    ∷ []

-- "E with p 3, K 6, order 0 1 0 2 0 1 1 1 ends thread 1 while thread 0 goes on waiting for thread 2"
abbrev pub order_other : List ℕ
order_other = 0 ∷ 1 ∷ 0 ∷ 2 ∷ 0 ∷ 1 ∷ 1 ∷ 1 ∷ []

abbrev pub lines_other : List Line
lines_other =
    line 1 0 (did 0 0 fork) 0
    ∷ line 2 1 (did 1 5 alloc) 6
    ∷ line 3 0 (did 0 1 fork) 6
    ∷ line 4 2 (did 2 9 alloc) 12
    ∷ line 5 0 (wait 0 2) 12
    ∷ line 6 1 (did 1 6 work) 12
    ∷ line 7 1 (did 1 7 free) 6
    ∷ line 8 1 (did 1 8 end) 6
    ∷ []

-- ours, alloc 4, free 4, alloc 4, end: "free a: held falls by a, the quota doesn't rise"
unfoldable pub freed : List ℕ
unfolding code_of
freed = written ((action alloc 4 ∷ action free 4 ∷ action alloc 4 ∷ action end 0 ∷ []) ∷ [])

-- the rows that bear a star
unfoldable pub cases : List Case
unfolding code_of
cases =
    runs E 2 6 order_e lines_e (done 14 12)
    -- "A turn after `done`: 31"
    ∷ runs E 2 6 (order_e ++ (0 ∷ [])) lines_e (refused 31 0)
    -- "With K 5: 22 at action 5"; since N6 "Number 22 no longer occurs, and E with K 5 is accepted"
    ∷ runs E 2 5 order_filled lines_filled (done 44 6)
    ∷ runs E 1 6 (replicate 12 0) lines_alone (done 12 6)
    -- "Bytes 01 00 01 00 00 00 01 00 00 00 00 00: .. one turn"
    ∷ runs least 1 1 (0 ∷ []) (line 1 0 (did 0 0 end) 0 ∷ []) (done 1 0)
    -- "One thread alloc 4, alloc 4, end, K 6, p 1: the second turn says quota; 4 turns, 8 held .. K 8: 3 turns"
    ∷ runs two_allocs 1 6 (replicate 4 0) (line 1 0 (did 0 0 alloc) 4 ∷ line 2 0 (quota 0 1) 4 ∷ line 3 0 (did 0 1 alloc) 8 ∷ line 4 0 (did 0 2 end) 8 ∷ []) (done 4 8)
    ∷ runs two_allocs 1 8 (replicate 3 0) (line 1 0 (did 0 0 alloc) 4 ∷ line 2 0 (did 0 1 alloc) 8 ∷ line 3 0 (did 0 2 end) 8 ∷ []) (done 3 8)
    -- "the last turn says wait. Worker 2 instead: 30"
    ∷ runs E 2 6 (order_wait ++ (0 ∷ [])) (lines_wait ++ (line 8 0 (wait 0 2) 6 ∷ [])) (not_done 8 6)
    ∷ runs E 2 6 (order_wait ++ (2 ∷ [])) lines_wait (refused 30 0)
    ∷ []

-- our own, with no star: what document 01's wrong turnings would change, and a wait at a join whose child and action have different numbers
unfoldable pub own_cases : List Case
unfolding code_of
own_cases =
    -- "ends thread 1 while thread 0 goes on waiting for thread 2": in a turn more, worker 0 finds nothing ready
    runs E 3 6 order_other lines_other (not_done 8 12)
    ∷ runs E 3 6 (order_other ++ (0 ∷ [])) (lines_other ++ (line 9 0 idle 6 ∷ [])) (not_done 9 12)
    -- the third turn says quota
    ∷ runs freed 1 6 (replicate 5 0) (line 1 0 (did 0 0 alloc) 4 ∷ line 2 0 (did 0 1 free) 0 ∷ line 3 0 (quota 0 2) 0 ∷ line 4 0 (did 0 2 alloc) 4 ∷ line 5 0 (did 0 3 end) 4 ∷ []) (done 5 4)
    -- thread 0 waits for child 1 at action 3
    ∷ runs E 2 6 (order_later ++ (0 ∷ [])) (lines_later ++ (line 8 0 (wait 0 3) 6 ∷ [])) (not_done 8 12)
    ∷ []

-- every row's run has the row's listing
abbrev pub Worked : (Run → ℕ → Turned) → List Case → Type 0
Worked turn l = map (λ (c : Case). ran_by never turn c.bytes c.workers c.quota c.order) l ≡ map (λ (c : Case). c.listing) l

pub worked : Worked turned_sound cases × Worked turned_sound own_cases
unfolding cases own_cases freed sum_to any_below code_of kind_of is table_of try_at try_from try_pass first_found entry_wrong total_wrong owner_below kind_unknown argument_wrong end_misplaced forked_below forked_before open_before join_not_latest end_with_open never_forked alloc_of free_of whole_within balance balance_below0 passes fork_below left_of without waits_for woken act_by act leftmost taken turn_free turn_of set_of entry_rows action_rows table_rows written_table flatten serial_within big dummies new_threads new_actions tree_of sum_before root_of filled_from old_bodies trees_along filled_bodies filled_out overfull firsts walk right_in start_state start_run begin root_ended no_worker step_run
worked = (refl, refl)
