-- `run_memory::preview::foresee` meets its contract: each way out is one of the definition's.
use mathlib.Core.Path.{◌≡◌, refl, sym, ◌∙◌}
use Prim.Native.Nat.{ℕ, ◌-◌, ◌<◌}
use mathlib.Core.List.{List}
use mathlib.Core.Bool.{true}
use native.Mathlib.Omega.{arith}
use lib.ListN.{length}
use Rattle.table.specs.Format.{table_of}
use Rattle.schedule.specs.Links.{seek}
use Rattle.run_memory.specs.Memory.{moved_in}
use Rattle.run_memory.specs.Blocks.{words_in, memory_of, part}
use Rattle.run_memory.proofs.Parts.{part_length}
use Rattle.run_memory.proofs.Takes.{asked_room, thread_there, thread_gone, own_thread, sought_thread, taken_ready, codes, arguments, without_room, no_thread_lem, passed_as, passes}
use Rattle.run_memory.proofs.Foreseeing.{no_worker_lem, refuses, is_idle, is_unfit, goes}
use Rattle.run_memory.proofs.preview.foresee.Goals as goal

pub returns-then-places-w : goal.returns-then-places-w
returns-then-places-w c =
    let M = memory_of c.args.bytes.now c.args.words.now c.args.numbers.now c.args.sums.now in
    no_worker_lem c.args.table.now c.args.w M (omega arith)

pub returns-then-not-room_for : goal.returns-then-not-room_for
returns-then-not-room_for c =
    let M = memory_of c.args.bytes.now c.args.words.now c.args.numbers.now c.args.sums.now in
    refuses c.args.table.now c.args.w M (without_room c.args.table.now c.args.w M c.if-not-room_for.true (asked_room c.args.w c.total_at-turns.ensures c.head_at.ensures c.holds_at-holds.ensures c.room_for.ensures))

pub returns-then-holds : goal.returns-then-holds
returns-then-holds c =
    let M = memory_of c.args.bytes.now c.args.words.now c.args.numbers.now c.args.sums.now in
    refuses c.args.table.now c.args.w M
    (no_thread_lem c.args.table.now c.args.w M c.if-not-room_for.false (asked_room c.args.w c.total_at-turns.ensures c.head_at.ensures c.holds_at-holds.ensures c.room_for.ensures) (sym c.holds_at-holds.ensures ∙ c.if-holds.true)
    (own_thread _ c.if-holds.true c.holds_at-holds.ensures refl (thread_gone _ c.thread_for.ensures c.in_default.is)))

pub returns-in_default : goal.returns-in_default
returns-in_default c =
    let M = memory_of c.args.bytes.now c.args.words.now c.args.numbers.now c.args.sums.now in
    c.idle.ensures ∙ is_idle c.args.table.now c.args.w M c.if-not-room_for.false (asked_room c.args.w c.total_at-turns.ensures c.head_at.ensures c.holds_at-holds.ensures c.room_for.ensures) (sym c.holds_at-holds.ensures ∙ c.if-holds.false)
    (sought_thread _ c.if-holds.false c.holds_at-holds.ensures refl (thread_gone _ c.thread_for.ensures c.in_default.is))

pub returns-in_default-see_action : goal.returns-in_default-see_action
returns-in_default-see_action c =
    let M = memory_of c.args.bytes.now c.args.words.now c.args.numbers.now c.args.sums.now in
    is_unfit c.args.table.now c.args.w M c.if-not-room_for.false (asked_room c.args.w c.total_at-turns.ensures c.head_at.ensures c.holds_at-holds.ensures c.room_for.ensures) c.in-Some.t (thread_there _ c.thread_for.ensures c.in-Some.is).0 (thread_there _ c.thread_for.ensures c.in-Some.is).1
    (taken_ready _ _ _ _ (thread_there _ c.thread_for.ensures c.in-Some.is).0 (thread_there _ c.thread_for.ensures c.in-Some.is).1) c.row_at-a.ensures c.quota_left-quota.ensures (c.see_action.ensures (table_of c.args.table.now) (words_in c.args.words.now) (codes c.args.table.now c.bodies-actions.ensures c.threads.ensures.value) (arguments c.args.table.now c.bodies-actions.ensures c.threads.ensures.value)) c.in_default-see_action.is

-- the worker has its place among the quotas
placed : (l : List ℕ) {w : ℕ} → length l ≡ 18 → w < length l - 2 → w < length (part 2 16 l)
placed l e h =
    let n : length (part 2 16 l) ≡ 16 = part_length 2 16 l (omega (arith, e)) in
    omega (arith, e, h, n)

pub returns : goal.returns
returns c =
    let M = memory_of c.args.bytes.now c.args.words.now c.args.numbers.now c.args.sums.now in
    goes c.args.table.now c.args.w M c.if-not-room_for.false (asked_room c.args.w c.total_at-turns.ensures c.head_at.ensures c.holds_at-holds.ensures c.room_for.ensures) c.in-Some.t (thread_there _ c.thread_for.ensures c.in-Some.is).0 (thread_there _ c.thread_for.ensures c.in-Some.is).1
    (taken_ready _ _ _ _ (thread_there _ c.thread_for.ensures c.in-Some.is).0 (thread_there _ c.thread_for.ensures c.in-Some.is).1) c.row_at-a.ensures c.quota_left-quota.ensures (c.see_action.ensures (table_of c.args.table.now) (words_in c.args.words.now) (codes c.args.table.now c.bodies-actions.ensures c.threads.ensures.value) (arguments c.args.table.now c.bodies-actions.ensures c.threads.ensures.value)) c.in-Some-see_action.is
    (passed_as true (seek 1024 M.arrays.status M.arrays.right (moved_in M).totals.leftmost) c.holds_at-holds.ensures c.passed_along-passed.ensures
    ∙ passes M c.args.w true c.in-Some.t (thread_there _ c.thread_for.ensures c.in-Some.is).0 (thread_there _ c.thread_for.ensures c.in-Some.is).1)
    (placed c.args.numbers.now (omega arith) c.if-places-w.false)
