-- `run_memory::take` meets its contract: each way out is one of the definition's.
use mathlib.Core.Path.{◌≡◌, refl, sym, ap, subst, ◌∙◌}
use Prim.Native.Nat.{ℕ, ◌+◌, ◌^◌, ◌<◌}
use mathlib.Core.List.{List}
use Rattle.table.specs.Format.{Table, table_of, kind}
use Rattle.schedule.specs.declared.Reply.TheVariants.{Idle}
use Rattle.schedule.specs.Links.{seek}
use Rattle.array_machine.proofs.Leaves.{fits64}
use Rattle.run_memory.specs.Memory.{Memory, moved_in, told}
use Rattle.run_memory.specs.Blocks.{bytes_in, words_in, numbers_in, sums_in, gathered, memory_of}
use Rattle.run_memory.specs.Places.{totalled}
use Rattle.run_memory.specs.Code.Acts.{Gone, acted}
use Rattle.run_memory.proofs.Takes.{counted, heads_out, room, asked_room, thread_there, thread_gone, own_thread, sought_thread, taken_ready, codes, arguments, without_room, no_thread_lem, idles, goes_unfit, goes, passes_idle, passed_as, passes}
use Rattle.run_memory.proofs.take.Goals as goal

-- the memory with one turn more
one_more : (b w n l k : List ℕ) {x y : ℕ} → x ≡ y → sums_in k ≡ totalled 2 (x + 1) (sums_in l) → memory_of b w n k ≡ counted (y + 1) (heads_out (memory_of b w n l))
one_more b w n l k e d =
    ap (gathered (bytes_in b) (words_in w) (numbers_in n)) d ∙ ap (λ (z : ℕ). gathered (bytes_in b) (words_in w) (numbers_in n) (totalled 2 (z + 1) (sums_in l))) e

pub returns-then-not-room_for-clause-sums_after : goal.returns-then-not-room_for-clause-sums_after
returns-then-not-room_for-clause-sums_after c =
    without_room c.args.table.now c.args.w (memory_of c.args.bytes.now c.args.words.now c.args.numbers.now c.args.sums.now) c.if-not-room_for.true
    (asked_room c.args.w c.total_at-turns.ensures c.head_at.ensures c.holds_at-holds.ensures c.room_for.ensures)

pub returns-then-holds-clause-sums_after : goal.returns-then-holds-clause-sums_after
returns-then-holds-clause-sums_after c =
    no_thread_lem c.args.table.now c.args.w (memory_of c.args.bytes.now c.args.words.now c.args.numbers.now c.args.sums.now) c.if-not-room_for.false
    (asked_room c.args.w c.total_at-turns.ensures c.head_at.ensures c.holds_at-holds.ensures c.room_for.ensures)
    (sym c.holds_at-holds.ensures ∙ c.if-holds.true) (own_thread _ c.if-holds.true c.holds_at-holds.ensures refl (thread_gone _ c.thread_for.ensures c.in_default.is))

pub overflow_add-turns : goal.overflow_add-turns
overflow_add-turns c =
    fits64 (subst (λ (x : ℕ). x + 1 < 2 ^ 64) (sym c.total_at-turns.ensures) (room _ _ c.args.w _ c.if-not-room_for.false (asked_room c.args.w c.total_at-turns.ensures c.head_at.ensures c.holds_at-holds.ensures c.room_for.ensures)).0)

pub returns-in_default-clause-sums_after : goal.returns-in_default-clause-sums_after
returns-in_default-clause-sums_after c =
    let l = sought_thread _ c.if-holds.false c.holds_at-holds.ensures refl (thread_gone _ c.thread_for.ensures c.in_default.is) in
    ap (told 0 Idle) (one_more c.args.bytes.now c.args.words.now c.args.numbers.now c.args.sums.now c.put_total.new.sums c.total_at-turns.ensures c.put_total.ensures)
    ∙ idles c.args.table.now c.args.w (memory_of c.args.bytes.now c.args.words.now c.args.numbers.now c.args.sums.now) c.if-not-room_for.false
    (asked_room c.args.w c.total_at-turns.ensures c.head_at.ensures c.holds_at-holds.ensures c.room_for.ensures)
    (sym c.holds_at-holds.ensures ∙ c.if-holds.false) l

pub returns-in_default-clause-passed_value : goal.returns-in_default-clause-passed_value
returns-in_default-clause-passed_value c =
    passes_idle (memory_of c.args.bytes.now c.args.words.now c.args.numbers.now c.args.sums.now) c.args.w c.args.counting (sought_thread _ c.if-holds.false c.holds_at-holds.ensures refl (thread_gone _ c.thread_for.ensures c.in_default.is))

pub go_on-requires : goal.go_on-requires
go_on-requires c =
    let r = room _ _ c.args.w _ c.if-not-room_for.false
    (asked_room c.args.w c.total_at-turns.ensures c.head_at.ensures c.holds_at-holds.ensures c.room_for.ensures) in
    let t = (thread_there _ c.thread_for.ensures c.in-Some.is) in
    record {
      few = r.1.0;
      thread = t.1;
      action = c.row_at-a.ensures;
      room = r.1.1;
      taken = taken_ready _ _ _ _ t.0 t.1;
    }

at_action : (T : Table) (w t : ℕ) (M : Memory) {a b : ℕ} {g : Gone} → a ≡ b → g ≡ acted (kind T a) T w t a (T.argument a) M → g ≡ acted (kind T b) T w t b (T.argument b) M
at_action T w t M e q = q ∙ ap (λ (x : ℕ). acted (kind T x) T w t x (T.argument x) M) e

pub returns-in_default-go_on-clause-sums_after : goal.returns-in_default-go_on-clause-sums_after
returns-in_default-go_on-clause-sums_after c =
    let M = memory_of c.args.bytes.now c.args.words.now c.args.numbers.now c.args.sums.now in
    let s = c.args.table.now in
    let n = c.threads.ensures.value in
    let t = (thread_there _ c.thread_for.ensures c.in-Some.is) in
    let q = at_action (table_of s) c.args.w c.in-Some.t M c.row_at-a.ensures (c.go_on.ensures (table_of s) (codes s c.bodies-actions.ensures n) (arguments s c.bodies-actions.ensures n)) in
    goes_unfit s c.args.w M c.if-not-room_for.false
    (asked_room c.args.w c.total_at-turns.ensures c.head_at.ensures c.holds_at-holds.ensures c.room_for.ensures)
    c.in-Some.t t.0 t.1 _ _ q c.in_default-go_on.is

pub overflow_add-turns-2 : goal.overflow_add-turns-2
overflow_add-turns-2 c =
    fits64 (subst (λ (x : ℕ). x + 1 < 2 ^ 64) (sym c.total_at-turns.ensures) (room _ _ c.args.w _ c.if-not-room_for.false (asked_room c.args.w c.total_at-turns.ensures c.head_at.ensures c.holds_at-holds.ensures c.room_for.ensures)).0)

pub returns-clause-sums_after : goal.returns-clause-sums_after
returns-clause-sums_after c =
    let M = memory_of c.args.bytes.now c.args.words.now c.args.numbers.now c.args.sums.now in
    let s = c.args.table.now in
    let n = c.threads.ensures.value in
    let t = (thread_there _ c.thread_for.ensures c.in-Some.is) in
    let q = at_action (table_of s) c.args.w c.in-Some.t M c.row_at-a.ensures (c.go_on.ensures (table_of s) (codes s c.bodies-actions.ensures n) (arguments s c.bodies-actions.ensures n)) in
    ap (told 0 _) (one_more c.go_on.new.bytes c.go_on.new.words c.go_on.new.numbers c.go_on.new.sums c.put_total-2.new.sums c.total_at-turns.ensures c.put_total-2.ensures)
    ∙ goes s c.args.w M c.if-not-room_for.false
    (asked_room c.args.w c.total_at-turns.ensures c.head_at.ensures c.holds_at-holds.ensures c.room_for.ensures)
    c.in-Some.t t.0 t.1 _ _ q _ c.in-Some-go_on.is

pub returns-clause-passed_value : goal.returns-clause-passed_value
returns-clause-passed_value c =
    let M = memory_of c.args.bytes.now c.args.words.now c.args.numbers.now c.args.sums.now in
    let t = (thread_there _ c.thread_for.ensures c.in-Some.is) in
    passed_as c.args.counting (seek 1024 M.arrays.status M.arrays.right (moved_in M).totals.leftmost) c.holds_at-holds.ensures c.passed_along-passed.ensures ∙ passes M c.args.w c.args.counting c.in-Some.t t.0 t.1
