-- On memory in which a record of DFDeques stands, a turn is DFDeques': what is told, read as a turn of the record, is the record's turn, and the record after it stands in the memory left.
use Rattle.std.specs.Prelude.{Err, Ok}
use mathlib.Core.Path.{◌≡◌, refl, sym, ap, subst, ◌∙◌}
use Prim.Native.Nat.{ℕ, suc, ◌-◌, ◌^◌, ◌≤◌, ◌<◌}
use native.Mathlib.Omega.{arith}
use mathlib.Core.List.{List}
use mathlib.Core.Bool.{Bool, true, false, not, ◌&&◌}
use borrow.Author.Tests.{ltb-true, lt-ltb, eqb-true, eqb-false, ne_eqb}
use lib.Dec.{ltb, eqb}
use lib.ListN.{length, get_or, set, length-set}
use Rattle.table.specs.Sum.{pick}
use Rattle.table.specs.Format.{table_of}
use Rattle.table.specs.Rules.{Rules}
use Rattle.table.specs.Pass.{refusal, try_at}
use Rattle.schedule.specs.declared.Worker.{Worker}
use Rattle.schedule.specs.declared.Reply.TheVariants.{Idle}
use Rattle.schedule.specs.Machine.{State, ended, nobody}
use Rattle.schedule.specs.Links.{Links, LinkedAs, laid}
use Rattle.schedule.specs.Record.{max_bytes, bytes_of, set_of, blank}
use Rattle.schedule.specs.Turn.{root_ended, no_worker}
use Rattle.order.proofs.Lists.{filled_front}
use Rattle.schedule.proofs.Linked.Links.{laid_linked, linked_laid}
use Rattle.array_machine.specs.Arrays.{arrays, links_of, second_of}
use Rattle.array_machine.specs.Turn.{Outcome}
use Rattle.array_machine.specs.Counted.{Left, busy_after, counting}
use Rattle.array_machine.specs.Packed.{packed_of}
use Rattle.array_machine.proofs.Packed.{has_room, first_of}
use Rattle.array_machine.proofs.Busy.{Bit, set_bit, set_busy}
use Rattle.run_memory.specs.Memory.{Memory, worker_in, moved_in, memory_after, Told, told, turn_left}
use Rattle.run_memory.specs.Stands.{workers_in, settled, run_in}
use Rattle.run_memory.proofs.Refines.{sixteen, own_worker, truths_set, workers_after}
use Rattle.deques.specs.declared.DequeRun.{DequeRun}
use Rattle.deques.specs.declared.DequeTurned.{DequeTurned}
use Rattle.deques.specs.Deques.{DequeStep, over, deque_turn}
use Rattle.deques.specs.Lines.{lines_of, bottoms_of, thread_of}
use Rattle.deques.specs.DequeRecord.{deques_in, deques_of, lines_for, bottoms_for, deque_stored, blank_deques}
use Rattle.deques.specs.DequeSound.{SteadyDeques, deque_sound, is_blank_deques}
use Rattle.deques.specs.DequeTurn.{unsound_deques, no_choice, deque_checks, step_deques, deque_turned}
use Rattle.deques.specs.DequeRuns.{pair, deque_moved}
use Rattle.deques.proofs.DequeTurns.{Kept}
use Rattle.deques.proofs.DequeStores.{steady_fits, steady_kept, moved_steady}
use Rattle.deques.proofs.DequeTests.{deque_sound_exactly, blank_deques_exactly}
use Rattle.stealing.specs.Stealing.{deque_on, deque_turn_on}
use Rattle.stealing.specs.StealingMemory.{deque_hindrance, deque_taken_in, deque_turn_in, deque_run_in, DequesStand}
use Rattle.stealing.proofs.Room.{state_at}
use Rattle.stealing.proofs.Acts.{LaidOut, Follows}
use Rattle.stealing.proofs.Refines.{turn_follows}

-- ---- 32 on a record that is sound but for its turns

pub deques_full : (r : DequeRun) → SteadyDeques r → r.run.turns ≡ 2 ^ 64 - 1 → unsound_deques r ≡ true
unfolding unsound_deques blank_deques blank
deques_full r h e = go (deque_sound r) refl (is_blank_deques r) refl
  where
    blank_turns : is_blank_deques r ≡ true → r.run.workers ≡ 0
    blank_turns j = ap (λ (x : DequeRun). x.run.workers) ((blank_deques_exactly r).0 j)

    go : (s : Bool) → deque_sound r ≡ s → (b : Bool) → is_blank_deques r ≡ b → not (deque_sound r) && not (is_blank_deques r) ≡ true
    go true i b j = absurd (omega (arith, ((deque_sound_exactly r).0 i).turns, e))
    go false i true j = absurd (omega (arith, blank_turns j, (steady_fits r h).some_worker))
    go false i false j = rw (i, j)

pub deques_room : (r : DequeRun) → SteadyDeques r → r.run.turns < 2 ^ 64 → (r.run.turns ≡ 2 ^ 64 - 1 → ⊥) → unsound_deques r ≡ false
unfolding unsound_deques
deques_room r h k e = rw ((deque_sound_exactly r).1 (record { steady = h; turns = omega (arith, k, e) }))

-- ---- a turn

-- what is told of a turn, read as a turn of the record
abbrev pub deque_turned_by : List ℕ → Told → DequeTurned
deque_turned_by s t = record { answer = pick (eqb t.number 0) (Ok t.reply) (Err (refusal t.number 0)); run = deque_run_in s t.memory }

pub record TurnsDeques (s : List ℕ) (r : DequeRun) (w c : ℕ) (t : Told) : Type 0 where
  pub as_turned : deque_turned_by s t ≡ deque_turned r w c
  pub stands : DequesStand s t.memory

-- of a turn that is taken
pub record MovesDeques (s : List ℕ) (r : DequeRun) (w c : ℕ) (t : Told) : Type 0 where
  pub number : t.number ≡ 0
  pub reply : t.reply ≡ (step_deques r w c).reply
  pub record_after : deque_run_in s t.memory ≡ deque_moved r (pair w c)
  pub stands : DequesStand s t.memory

module _ (s : List ℕ) (M : Memory) (h : DequesStand s M) (w c : ℕ) where
  abbrev r : DequeRun
  r = deque_run_in s M

  abbrev p : ℕ
  p = get_or M.settings 0 0

  abbrev K : ℕ
  K = get_or M.settings 1 0

  bytes : bytes_of (run_in s M) ≡ s
  bytes = filled_front max_bytes s

  rules : Rules s
  rules = subst (λ (z : List ℕ). Rules z) bytes h.steady.table

  kept : Kept (table_of s) p K (over (state_at M.arrays (moved_in M).totals (workers_in M) (moved_in M).turns) (deques_in r))
  kept = subst (λ (z : List ℕ). Kept (table_of z) p K (deques_of r)) bytes (steady_kept r h.steady)

  laid_here : LaidOut M.arrays (moved_in M).totals (thread_of (workers_in M)) (deques_in r)
  laid_here =
      record {
        lines = subst (λ (k : Links). LinkedAs k (lines_for (deques_of r))) (sym h.steady.lines) (laid_linked (lines_for (deques_of r)));
        bottoms = subst (λ (k : Links). LinkedAs k (bottoms_for (deques_of r))) (sym h.steady.bottoms) (laid_linked (bottoms_for (deques_of r)));
      }

  few : p ≤ 16
  few = (steady_fits r h.steady).few_workers

  module _ (room : (moved_in M).turns ≡ 2 ^ 64 - 1 → ⊥) (b : w < get_or M.settings 0 0) (i : c < get_or M.settings 0 0) where
    w16 : w < 16
    w16 = omega (arith, few, b)

    abbrev O : Outcome
    O = deque_on (table_of s) K M.parents c M.arrays (moved_in M).totals (worker_in M w)

    abbrev step : DequeStep
    step = step_deques r w c

    abbrev N : List Worker
    N = set (workers_in M) w O.worker

    follows : Follows w (workers_in M) (suc (moved_in M).turns) O (deque_turn (table_of s) K w c (deques_of r))
    follows =
        subst (λ (v : Worker). Follows w (workers_in M) (suc (moved_in M).turns) (deque_on (table_of s) K M.parents c M.arrays (moved_in M).totals v) (deque_turn (table_of s) K w c (deques_of r))) (own_worker M w w16)
        (turn_follows s rules p K h.steady.settings M.parents h.parent w b M.arrays (moved_in M).totals (workers_in M) (moved_in M).turns (deques_in r) kept laid_here c (omega (arith, few, i)))

    F : Follows w (workers_in M) (suc (moved_in M).turns) O (step_deques r w c)
    unfolding step_deques
    F = subst (λ (z : List ℕ). Follows w (workers_in M) (suc (moved_in M).turns) O (deque_turn (table_of z) K w c (deques_of r))) (sym bytes) follows

    sixteen_here : length (workers_in M) ≡ 16
    sixteen_here = sixteen M

    bit : Bit (moved_in M).busy (worker_in M w).holds w
    bit =
        subst (λ (x : Worker). Bit (moved_in M).busy x.holds w) (own_worker M w w16)
        (subst (λ (x : ℕ). Bit x (get_or (workers_in M) w nobody).holds w) (sym h.steady.set) (set_bit (workers_in M) w sixteen_here w16))

    abbrev z : Left
    z = counting w (moved_in M) (worker_in M w) O

    counted_so : deque_turn_on (table_of s) K M.parents w c M.arrays (moved_in M) (worker_in M w) ≡ z
    unfolding deque_turn_on
    counted_so = first_of _ _ _ _ (has_room (moved_in M).turns (moved_in M).busy w (worker_in M w).holds (omega (arith, h.turns_fit, room)) w16 bit.room) F.fits

    -- ---- the record after it

    lines_laid : links_of O.arrays O.totals ≡ laid (lines_of (thread_of N) step.after.deques)
    lines_laid = linked_laid (links_of O.arrays O.totals) (lines_of (thread_of N) step.after.deques) F.laid.lines

    bottoms_laid : second_of O.arrays O.totals ≡ laid (bottoms_of (thread_of N) step.after.deques)
    bottoms_laid = linked_laid (second_of O.arrays O.totals) (bottoms_of (thread_of N) step.after.deques) F.laid.bottoms

    busy_after_lem : z.moved.busy ≡ set_of N
    busy_after_lem =
        (λ j. busy_after (h.steady.set j) (sym (own_worker M w w16) j).holds O.worker.holds w)
        ∙ sym (set_busy (workers_in M) w O.worker (omega (arith, sixteen_here, w16)))

    abbrev there : State
    there = state_at O.arrays O.totals N (suc (moved_in M).turns)

    packed : record { run = packed_of (settled s M) O.arrays N z.moved; under = O.arrays.under; over = O.arrays.over; first = O.totals.first }
        ≡ deque_stored (run_in s M) (over there step.after.deques)
    packed = λ j.
        record {
          run =
              packed_of (settled s M) (arrays O.arrays.next O.arrays.status O.arrays.amounts (lines_laid j).left (lines_laid j).right O.arrays.under O.arrays.over) N
              (record {
                busy = busy_after_lem j;
                totals = record { leftmost = (lines_laid j).head; first = O.totals.first; held = O.totals.held; highest = O.totals.highest };
                turns = suc (moved_in M).turns;
              });
          under = (bottoms_laid j).left;
          over = (bottoms_laid j).right;
          first = (bottoms_laid j).head;
        }

    after : deque_run_in s (memory_after M w z) ≡ deque_moved r (pair w c)
    after =
        ap (λ (l : List Worker). record { run = packed_of (settled s M) O.arrays l z.moved; under = O.arrays.under; over = O.arrays.over; first = O.totals.first })
        (workers_after M w z w16 h.holds_size h.threads_size h.quotas_size)
        ∙ packed
        ∙ ap (λ (t : State). deque_stored (run_in s M) (over t step.after.deques)) (sym F.state)

    stands_after : DequesStand s (memory_after M w z)
    stands_after =
        record {
          steady = subst (λ (x : DequeRun). SteadyDeques x) (sym after) (moved_steady r h.steady (pair w c) b);
          parent = h.parent;
          truth_values = truths_set M.holds w z.worker.holds (omega (arith, w16, h.holds_size)) h.truth_values;
          holds_size = length-set M.holds w (pick z.worker.holds 1 0) ∙ h.holds_size;
          threads_size = length-set M.threads w z.worker.thread ∙ h.threads_size;
          quotas_size = length-set M.quotas w z.worker.quota ∙ h.quotas_size;
          turns_fit = omega (arith, h.turns_fit, room);
        }

    taken_told : deque_taken_in s w c M ≡ told 0 O.reply (memory_after M w z)
    unfolding turn_left
    taken_told = ap (λ (y : Left). turn_left M w y) counted_so

    told_so : deque_hindrance (moved_in M).turns (get_or M.settings 0 0) w c (get_or M.arrays.status 0 0) ≡ 0 → deque_turn_in s w c M ≡ told 0 O.reply (memory_after M w z)
    unfolding deque_turn_in
    told_so e = rw e taken_told

    turned_taken : root_ended (run_in s M) ≡ false → record { answer = Ok O.reply; run = deque_run_in s (memory_after M w z) } ≡ deque_turned r w c
    unfolding deque_turned deque_checks try_at no_worker no_choice
    turned_taken o =
        (λ j. record { answer = Ok (F.reply j); run = after j })
        ∙ rw (deques_room r h.steady h.turns_fit room, lt-ltb w p b, o, lt-ltb c p i)

  -- ---- refusals of the record

  abbrev refused_as : ℕ → DequeTurned
  refused_as k = record { answer = Err (refusal k 0); run = r }

  refuses_32 : unsound_deques r ≡ true → refused_as 32 ≡ deque_turned r w c
  unfolding deque_turned deque_checks try_at
  refuses_32 e = rw e

  refuses_30 : unsound_deques r ≡ false → ltb w p ≡ false → refused_as 30 ≡ deque_turned r w c
  unfolding deque_turned deque_checks try_at no_worker
  refuses_30 e f = rw (e, f)

  refuses_31 : unsound_deques r ≡ false → ltb w p ≡ true → eqb (get_or M.arrays.status 0 0) ended ≡ true → refused_as 31 ≡ deque_turned r w c
  unfolding deque_turned deque_checks try_at no_worker root_ended
  refuses_31 e f g = rw (e, f, g)

  refuses_49 : unsound_deques r ≡ false → ltb w p ≡ true → eqb (get_or M.arrays.status 0 0) ended ≡ false → ltb c p ≡ false → refused_as 49 ≡ deque_turned r w c
  unfolding deque_turned deque_checks try_at no_worker no_choice root_ended
  refuses_49 e f g k = rw (e, f, g, k)

  root_open : eqb (get_or M.arrays.status 0 0) ended ≡ false → root_ended (run_in s M) ≡ false
  unfolding root_ended
  root_open e = e

  hindered_so : (k : ℕ) → deque_hindrance (moved_in M).turns (get_or M.settings 0 0) w c (get_or M.arrays.status 0 0) ≡ suc k → deque_turn_in s w c M ≡ told (suc k) Idle M
  unfolding deque_turn_in
  hindered_so k e = rw (e, ne_eqb (suc k) 0 (λ d. omega (arith, d)))

  -- a turn that is taken, as a run takes it
  pub deque_taken : eqb (moved_in M).turns (2 ^ 64 - 1) ≡ false → ltb w (get_or M.settings 0 0) ≡ true → eqb (get_or M.arrays.status 0 0) ended ≡ false → ltb c (get_or M.settings 0 0) ≡ true
      → MovesDeques s r w c (deque_turn_in s w c M)
  unfolding deque_hindrance
  deque_taken x y q v =
      let room = eqb-false _ _ x in
      let b = ltb-true _ _ y in
      let i = ltb-true _ _ v in
      subst (λ (t : Told). MovesDeques s r w c t) (sym (told_so room b i (rw (x, y, q, v))))
      (record { number = refl; reply = (F room b i).reply; record_after = after room b i; stands = stands_after room b i })

  -- every turn, refused or taken, is the record's
  pub deque_turn_refines : TurnsDeques s r w c (deque_turn_in s w c M)
  unfolding deque_hindrance
  deque_turn_refines = go (eqb (moved_in M).turns (2 ^ 64 - 1)) refl (ltb w (get_or M.settings 0 0)) refl (eqb (get_or M.arrays.status 0 0) ended) refl (ltb c (get_or M.settings 0 0)) refl
    where
      stop : (k : ℕ) → deque_hindrance (moved_in M).turns (get_or M.settings 0 0) w c (get_or M.arrays.status 0 0) ≡ suc k
          → record { answer = Err (refusal (suc k) 0); run = r } ≡ deque_turned r w c → TurnsDeques s r w c (deque_turn_in s w c M)
      stop k e d =
          subst (λ (t : Told). TurnsDeques s r w c t) (sym (hindered_so k e))
          (record { as_turned = rw (ne_eqb (suc k) 0 (λ y. omega (arith, y))) d; stands = h })

      go : (x : Bool) → eqb (moved_in M).turns (2 ^ 64 - 1) ≡ x → (y : Bool) → ltb w (get_or M.settings 0 0) ≡ y → (q : Bool) → eqb (get_or M.arrays.status 0 0) ended ≡ q
          → (v : Bool) → ltb c (get_or M.settings 0 0) ≡ v → TurnsDeques s r w c (deque_turn_in s w c M)
      go true x y f q g v k = stop 31 (rw x) (refuses_32 (deques_full r h.steady (eqb-true _ _ x)))
      go false x false f q g v k = stop 29 (rw (x, f)) (refuses_30 (deques_room r h.steady h.turns_fit (eqb-false _ _ x)) f)
      go false x true f true g v k = stop 30 (rw (x, f, g)) (refuses_31 (deques_room r h.steady h.turns_fit (eqb-false _ _ x)) f g)
      go false x true f false g false k = stop 48 (rw (x, f, g, k)) (refuses_49 (deques_room r h.steady h.turns_fit (eqb-false _ _ x)) f g k)
      go false x true f false g true k =
          let room = eqb-false _ _ x in
          let b = ltb-true _ _ f in
          let i = ltb-true _ _ k in
          subst (λ (t : Told). TurnsDeques s r w c t) (sym (told_so room b i (rw (x, f, g, k))))
          (record { as_turned = turned_taken room b i (root_open g); stands = stands_after room b i })
