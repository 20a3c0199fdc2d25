-- On memory in which a record stands, a turn is document 01's: number, row and record are those of the record's turn, and the record after it stands in the memory left.
use Rattle.std.specs.Prelude.{Err, Result}
use Rattle.table.specs.declared.Refusal.{Refusal}
use Rattle.schedule.specs.declared.Taken.{Taken}
use Rattle.schedule.specs.Turn.{taken_turn}
use mathlib.Core.Path.{◌≡◌, refl, sym, ap, subst, ◌∙◌}
use Prim.Native.Nat.{ℕ, zero, suc, ◌+◌, ◌-◌, ◌^◌, ◌<◌}
use native.Mathlib.Omega.{arith}
use native.Mathlib.Decide.{ℕ_discrete}
use mathlib.Core.List.{List}
use mathlib.Core.Bool.{Bool, true, false, not}
use borrow.Author.Tests.{ltb-true, ltb-false, eqb-true, eqb-false, ne_eqb}
use lib.Dec.{ltb, eqb}
use lib.ListN.{length, get_or, set, length-set}
use lib.Seq.{get_or-set_same, get_or-set_other, ext_get_or}
use Rattle.table.specs.Sum.{pick}
use Rattle.table.specs.Pass.{refusal}
use Rattle.table.specs.Format.{table_of}
use Rattle.schedule.specs.declared.Worker.{Worker}
use Rattle.schedule.specs.declared.Run.{Run}
use Rattle.schedule.specs.declared.Reply.{Reply}
use Rattle.schedule.specs.declared.Reply.TheVariants.{Idle, Done, Quota, Wait}
use Rattle.schedule.specs.declared.Turned.{Turned}
use Rattle.schedule.specs.Machine.{ended, nobody}
use Rattle.schedule.specs.Links.{no_thread, Sought, seek}
use Rattle.schedule.specs.Record.{max_bytes, bytes_of, table_in, list_in, state_of}
use Rattle.schedule.specs.Sound.{Steady}
use Rattle.schedule.specs.Turn.{root_ended, step_run, passed_in, turned}
use Rattle.schedule.specs.Runs.{moved}
use Rattle.schedule.specs.Answers.{turning_values}
use Rattle.schedule.specs.Values.{turn_values}
use Rattle.order.proofs.Lists.{filled_front}
use Rattle.order.proofs.Words.{all_below_exactly}
use Rattle.schedule.proofs.Linked.ActiveMoves.{list_once, list_small}
use Rattle.schedule.proofs.Linked.Links.{seek_walk}
use Rattle.schedule.proofs.Linked.Searches.{second_finds}
use Rattle.schedule.proofs.Stores.{steady_lawful, steady_fits, steady_facts, moved_steady}
use Rattle.schedule.proofs.Runs.Values.{turn_values_lem}
use Rattle.array_machine.specs.Counted.{Left, turn_on, passed_along}
use Rattle.array_machine.specs.Packed.{packed_of}
use Rattle.array_machine.proofs.Reading.{own_table}
use Rattle.array_machine.proofs.Packed.{Carries, Goes, turn_goes}
use Rattle.array_machine.proofs.Answers.{steady_full, steady_room, refused_as, turned_unsound, turned_none, turned_over, turned_taken, root_over, root_open, passed_along_lem}
use Rattle.run_memory.specs.Memory.{Memory, worker_from, worker_in, moved_in, memory_after, reply_row, no_row, Answer, hindrance, Told, told, turn_left, turn_in, passed_over, lent_turn}
use Rattle.run_memory.specs.Stands.{truths, workers_from, workers_in, settled, run_in, Stands, values_row}

-- ---- the workers

module _ (holds threads quotas : List ℕ) where
  pub workers_length : (w n : ℕ) → length (workers_from holds threads quotas w n) ≡ n
  unfolding workers_from
  workers_length w zero = refl
  workers_length w (suc n) = ap suc (workers_length (suc w) n)

  pub workers_at : (w n i : ℕ) → i < n → get_or (workers_from holds threads quotas w n) i nobody ≡ worker_from holds threads quotas (w + i)
  unfolding workers_from
  workers_at w zero i h = absurd (omega (arith, h))
  workers_at w (suc n) zero h = let e : w + 0 ≡ w = omega arith in rw e
  workers_at w (suc n) (suc i) h = let e : w + suc i ≡ suc w + i = omega arith in rw e (workers_at (suc w) n i (omega (arith, h)))

pub sixteen : (M : Memory) → length (workers_in M) ≡ 16
sixteen M = workers_length M.holds M.threads M.quotas 0 16

pub own_worker : (M : Memory) (w : ℕ) → w < 16 → get_or (workers_in M) w nobody ≡ worker_in M w
own_worker M w h = let e : 0 + w ≡ w = omega arith in workers_at M.holds M.threads M.quotas 0 16 w h ∙ ap (worker_in M) e

pub as_number : (b : Bool) → not (eqb (pick b 1 0) 0) ≡ b
as_number true = refl
as_number false = refl

pub truth_small : (b : Bool) → ltb (pick b 1 0) 2 ≡ true
truth_small true = refl
truth_small false = refl

pub truths_set : (holds : List ℕ) (w : ℕ) (b : Bool) → w < length holds → truths holds ≡ true → truths (set holds w (pick b 1 0)) ≡ true
unfolding truths
truths_set holds w b h e = (all_below_exactly _ 16).1 (λ i l. go i l (ℕ_discrete i w))
  where
    go : (i : ℕ) → i < 16 → Dec (i ≡ w) → ltb (get_or (set holds w (pick b 1 0)) i 0) 2 ≡ true
    go i l (yes q) = rw (q, get_or-set_same holds w (pick b 1 0) 0 h) (truth_small b)
    go i l (no d) = rw (get_or-set_other holds w i (pick b 1 0) 0 d) ((all_below_exactly (λ j. ltb (get_or holds j 0) 2) 16).0 e i l)

module _ (M : Memory) (w : ℕ) (z : Left) (h : w < 16) (a : length M.holds ≡ 16) (b : length M.threads ≡ 16) (c : length M.quotas ≡ 16) where
  abbrev M' : Memory
  M' = memory_after M w z

  new_worker : worker_in M' w ≡ z.worker
  new_worker =
      let e : not (eqb (get_or M'.holds w 0) 0) ≡ z.worker.holds = rw (get_or-set_same M.holds w (pick z.worker.holds 1 0) 0 (omega (arith, h, a))) (as_number z.worker.holds) in
      let t : get_or M'.threads w 0 ≡ z.worker.thread = get_or-set_same M.threads w z.worker.thread 0 (omega (arith, h, b)) in
      let q : get_or M'.quotas w 0 ≡ z.worker.quota = get_or-set_same M.quotas w z.worker.quota 0 (omega (arith, h, c)) in
      λ i. record { holds = e i; thread = t i; quota = q i }

  same_worker : (v : ℕ) → (v ≡ w → ⊥) → worker_in M' v ≡ worker_in M v
  same_worker v d =
      let e : get_or M'.holds v 0 ≡ get_or M.holds v 0 = get_or-set_other M.holds w v (pick z.worker.holds 1 0) 0 d in
      let t : get_or M'.threads v 0 ≡ get_or M.threads v 0 = get_or-set_other M.threads w v z.worker.thread 0 d in
      let q : get_or M'.quotas v 0 ≡ get_or M.quotas v 0 = get_or-set_other M.quotas w v z.worker.quota 0 d in
      λ i. record { holds = not (eqb (e i) 0); thread = t i; quota = q i }

  pub workers_after : workers_in (memory_after M w z) ≡ set (workers_in M) w z.worker
  workers_after =
      ext_get_or nobody (workers_in M') (set (workers_in M) w z.worker) (sixteen M' ∙ sym (length-set (workers_in M) w z.worker ∙ sixteen M)) at
    where
      at : (i : ℕ) → i < length (workers_in M') → get_or (workers_in M') i nobody ≡ get_or (set (workers_in M) w z.worker) i nobody
      at i l = go (ℕ_discrete i w)
        where
          few : i < 16
          few = omega (arith, l, sixteen M')

          go : Dec (i ≡ w) → get_or (workers_in M') i nobody ≡ get_or (set (workers_in M) w z.worker) i nobody
          go (yes e) =
              rw e (own_worker M' w h ∙ new_worker ∙ sym (get_or-set_same (workers_in M) w z.worker nobody (omega (arith, h, sixteen M))))
          go (no d) = own_worker M' i few ∙ same_worker i d ∙ sym (own_worker M i few) ∙ sym (get_or-set_other (workers_in M) w i z.worker nobody d)

-- ---- the turn

-- the paper's values of a turn that is taken
taken_number : (x : Reply) (k : ℕ) → 0 ≡ (turning_values (taken_turn x k)).number
taken_number Idle k = refl
taken_number (Done t a) k = refl
taken_number (Quota t y) k = refl
taken_number (Wait t c) k = refl

taken_row_lem : (x : Reply) (k : ℕ) → reply_row x k ≡ values_row (turning_values (taken_turn x k))
taken_row_lem Idle k = refl
taken_row_lem (Done t a) k = refl
taken_row_lem (Quota t y) k = refl
taken_row_lem (Wait t c) k = refl

-- what is told of a turn and of the threads that it passes over, read as a turn of the record
abbrev pub turned_by : List ℕ → Told → ℕ → Turned
turned_by s t passed = record { answer = pick (eqb t.number 0) (taken_turn t.reply passed) (Err (refusal t.number 0)); run = run_in s t.memory }

-- its number and its row
module _ (t : Told) (k : ℕ) where
  abbrev answered : Bool → Result Taken Refusal
  answered b = pick b (taken_turn t.reply k) (Err (refusal t.number 0))

  said_number_lem : t.number ≡ (turning_values (answered (eqb t.number 0))).number
  said_number_lem = go (eqb t.number 0) refl
    where
      go : (b : Bool) → eqb t.number 0 ≡ b → t.number ≡ (turning_values (answered b)).number
      go true e = eqb-true _ _ e ∙ taken_number t.reply k
      go false e = refl

  said_row : pick (eqb t.number 0) (reply_row t.reply k) no_row ≡ values_row (turning_values (answered (eqb t.number 0)))
  said_row = go (eqb t.number 0)
    where
      go : (b : Bool) → pick b (reply_row t.reply k) no_row ≡ values_row (turning_values (answered b))
      go true = taken_row_lem t.reply k
      go false = refl

-- what is said of an answer: it is the turn of the record, and the record after it stands
pub record Turns (s : List ℕ) (M : Memory) (w : ℕ) (a : Answer) : Type 0 where
  pub number : a.number ≡ (turn_values (run_in s M) w).number
  pub row : a.row ≡ values_row (turn_values (run_in s M) w)
  pub record_after : run_in s a.memory ≡ (turned (run_in s M) w).run
  pub stands : Stands s a.memory

-- the searches along the two lists find the same thread
searches_agree : (s : List ℕ) (M : Memory) → Stands s M
    → (seek 1024 M.arrays.status M.arrays.over (moved_in M).totals.first).thread ≡ (seek 1024 M.arrays.status M.arrays.right (moved_in M).totals.leftmost).thread
searches_agree s M h =
    let r : Run = run_in s M in
    let once = list_once (table_in r) (steady_lawful r h.steady) r.workers r.quota (state_of r) (steady_facts r h.steady) in
    let small = list_small (table_in r) (steady_lawful r h.steady) r.workers r.quota (state_of r) (steady_facts r h.steady) in
    second_finds M.arrays.under M.arrays.over (moved_in M).totals.first M.arrays.status (list_in r) h.second once small
    ∙ sym (ap (λ (x : Sought). x.thread) (seek_walk 1024 M.arrays.status M.arrays.right (moved_in M).totals.leftmost))

-- so that where the first finds none, the second need not be made
one_search : (holds : Bool) (y : Sought) (t : ℕ) → t ≡ y.thread → pick (ltb t no_thread) (passed_along holds y) 0 ≡ passed_along holds y
unfolding passed_along
one_search holds y t e = go holds (ltb y.thread no_thread) refl
  where
    go : (b q : Bool) → ltb y.thread no_thread ≡ q → pick (ltb t no_thread) (pick b 0 (pick (ltb y.thread no_thread) y.passed 0)) 0 ≡ pick b 0 (pick (ltb y.thread no_thread) y.passed 0)
    go true true f = rw (e, f)
    go true false f = rw (e, f)
    go false true f = rw (e, f)
    go false false f = rw (e, f)

-- of a turn that is taken: the record after it stands
pub record Moves (s : List ℕ) (M : Memory) (w : ℕ) : Type 0 where
  pub number : (turn_in s w M).number ≡ 0
  pub reply : (turn_in s w M).reply ≡ (step_run (run_in s M) w).reply
  pub record_after : run_in s (turn_in s w M).memory ≡ moved (run_in s M) w
  pub stands : Stands s (turn_in s w M).memory
  pub settings : (turn_in s w M).memory.settings ≡ M.settings
  pub count : (moved_in (turn_in s w M).memory).turns ≡ (moved_in M).turns + 1

module _ (s : List ℕ) (M : Memory) (h : Stands s M) (w : ℕ) where
  abbrev r : Run
  r = run_in s M

  bytes : bytes_of (settled s M) ≡ s
  bytes = filled_front max_bytes s

  carries : Carries (settled s M) M.parents M.arrays (workers_in M) (moved_in M)
  carries = record { steady = h.steady; parent = rw bytes h.parent; second = h.second }

  module _ (room : (moved_in M).turns ≡ 2 ^ 64 - 1 → ⊥) (b : w < get_or M.settings 0 0) (o : root_ended r ≡ false) where
    few : w < 16
    few = omega (arith, b, (steady_fits r h.steady).few_workers)

    abbrev z : Left
    z = turn_on (table_of s) (get_or M.settings 1 0) M.parents w M.arrays (moved_in M) (worker_in M w)

    abbrev along : ℕ
    along = passed_over M w

    goes : Goes (settled s M) M.arrays (workers_in M) (moved_in M) w z
    goes =
        turn_goes carries b (table_in (settled s M)).threads refl (omega (arith, h.turns_fit, room))
        (rw (own_table (bytes_of (settled s M)) (table_in (settled s M)).threads refl, bytes, own_worker M w few))

    after : run_in s (memory_after M w z) ≡ moved r w
    after =
        ap (λ (l : List Worker). packed_of (settled s M) z.arrays l z.moved) (workers_after M w z few h.holds_size h.threads_size h.quotas_size)
        ∙ sym goes.record_after

    taken_turned : record { answer = taken_turn z.reply along; run = run_in s (memory_after M w z) } ≡ turned r w
    taken_turned =
        let u = steady_room r h.steady h.turns_fit room in
        let p : along ≡ passed_in r w =
        one_search (worker_in M w).holds (seek 1024 M.arrays.status M.arrays.right (moved_in M).totals.leftmost) _ (searches_agree s M h)
        ∙ passed_along_lem r w h.steady (ap (λ (x : Worker). passed_along x.holds (seek 1024 M.arrays.status M.arrays.right (moved_in M).totals.leftmost)) (sym (own_worker M w few))) in
        (λ i. record { answer = taken_turn (sym goes.reply i) (p i); run = after i }) ∙ turned_taken r w u b o

    stands_so : Stands s (memory_after M w z)
    stands_so =
        record {
          steady = subst (λ (x : Run). Steady x) (sym after) (moved_steady r h.steady w b);
          parent = h.parent;
          second = goes.second;
          truth_values = truths_set M.holds w z.worker.holds (omega (arith, few, h.holds_size)) h.truth_values;
          holds_size = length-set M.holds w (pick z.worker.holds 1 0) ∙ h.holds_size;
          threads_size = length-set M.threads w z.worker.thread ∙ h.threads_size;
          quotas_size = length-set M.quotas w z.worker.quota ∙ h.quotas_size;
          turns_fit = omega (arith, goes.count, h.turns_fit, room);
        }

    told_so : (eqb (moved_in M).turns (2 ^ 64 - 1) ≡ false) → (ltb w (get_or M.settings 0 0) ≡ true) → (eqb (get_or M.arrays.status 0 0) ended ≡ false)
        → turn_in s w M ≡ told 0 z.reply (memory_after M w z)
    unfolding turn_in turn_left hindrance
    told_so x y q = rw (x, y, q, goes.fits)

  hindered_so : (k : ℕ) → hindrance (moved_in M).turns (get_or M.settings 0 0) w (get_or M.arrays.status 0 0) ≡ suc k → turn_in s w M ≡ told (suc k) Idle M
  unfolding turn_in
  hindered_so k e = rw (e, ne_eqb (suc k) 0 (λ d. omega (arith, d)))

  -- a turn that is taken, as a run takes it
  pub taken_so : (eqb (moved_in M).turns (2 ^ 64 - 1) ≡ false) → (ltb w (get_or M.settings 0 0) ≡ true) → (eqb (get_or M.arrays.status 0 0) ended ≡ false) → Moves s M w
  taken_so x y q =
      let room = eqb-false _ _ x in
      let b = ltb-true _ _ y in
      let o = root_open r (eqb-false _ _ q) in
      let e = told_so room b o x y q in
      record {
        number = ap (λ (t : Told). t.number) e;
        reply = ap (λ (t : Told). t.reply) e ∙ sym (goes room b o).reply;
        record_after = ap (λ (t : Told). run_in s t.memory) e ∙ after room b o;
        stands = subst (λ (t : Told). Stands s t.memory) (sym e) (stands_so room b o);
        settings = ap (λ (t : Told). t.memory.settings) e;
        count = ap (λ (t : Told). (moved_in t.memory).turns) e ∙ (goes room b o).count;
      }

  -- a turn that answers 0 is taken
  pub moves_so : (turn_in s w M).number ≡ 0 → Moves s M w
  unfolding hindrance
  moves_so n = go (eqb (moved_in M).turns (2 ^ 64 - 1)) refl (ltb w (get_or M.settings 0 0)) refl (eqb (get_or M.arrays.status 0 0) ended) refl
    where
      never : (k : ℕ) → hindrance (moved_in M).turns (get_or M.settings 0 0) w (get_or M.arrays.status 0 0) ≡ suc k → Moves s M w
      never k e = absurd (let d : suc k ≡ 0 = sym (ap (λ (t : Told). t.number) (hindered_so k e)) ∙ n in omega (arith, d))

      go : (x : Bool) → eqb (moved_in M).turns (2 ^ 64 - 1) ≡ x → (y : Bool) → ltb w (get_or M.settings 0 0) ≡ y → (q : Bool) → eqb (get_or M.arrays.status 0 0) ended ≡ q → Moves s M w
      go true x y e q f = never 31 (rw x)
      go false x false e q f = never 29 (rw (x, e))
      go false x true e true f = never 30 (rw (x, e, f))
      go false x true e false f = taken_so x e f

  -- ---- the law of refinement

  record Said (t : Told) : Type 0 where
    as_turned : turned_by s t (passed_over M w) ≡ turned r w
    stands : Stands s t.memory

  told_refines : Said (turn_in s w M)
  unfolding hindrance
  told_refines = go (eqb (moved_in M).turns (2 ^ 64 - 1)) refl (ltb w (get_or M.settings 0 0)) refl (eqb (get_or M.arrays.status 0 0) ended) refl
    where
      stop : (k : ℕ) → hindrance (moved_in M).turns (get_or M.settings 0 0) w (get_or M.arrays.status 0 0) ≡ suc k → refused_as (suc k) r ≡ turned r w → Said (turn_in s w M)
      stop k e d =
          subst (λ (t : Told). Said t) (sym (hindered_so k e))
          (record { as_turned = rw (ne_eqb (suc k) 0 (λ z. omega (arith, z))) d; stands = h })

      go : (x : Bool) → eqb (moved_in M).turns (2 ^ 64 - 1) ≡ x → (y : Bool) → ltb w (get_or M.settings 0 0) ≡ y → (q : Bool) → eqb (get_or M.arrays.status 0 0) ended ≡ q
          → Said (turn_in s w M)
      go true x y e q f = stop 31 (rw x) (turned_unsound r w (steady_full r h.steady (eqb-true _ _ x)))
      go false x false e q f = stop 29 (rw (x, e)) (turned_none r w (steady_room r h.steady h.turns_fit (eqb-false _ _ x)) (ltb-false _ _ e))
      go false x true e true f =
          stop 30 (rw (x, e, f)) (turned_over r w (steady_room r h.steady h.turns_fit (eqb-false _ _ x)) (ltb-true _ _ e) (root_over r (eqb-true _ _ f)))
      go false x true e false f =
          let room = eqb-false _ _ x in
          let b = ltb-true _ _ e in
          let o = root_open r (eqb-false _ _ f) in
          subst (λ (t : Told). Said t) (sym (told_so room b o x e f)) (record { as_turned = taken_turned room b o; stands = stands_so room b o })

  -- as a whole: what is told, read as a turn of the record
  pub turn_turned : turned_by s (turn_in s w M) (passed_over M w) ≡ turned r w
  turn_turned = told_refines.as_turned

  -- and as C is answered
  pub turn_refines : Turns s M w (lent_turn s w M)
  unfolding lent_turn
  turn_refines =
      let t : Told = turn_in s w M in
      let e = turn_turned in
      let v = turn_values_lem r w in
      record {
        number = said_number_lem t (passed_over M w) ∙ ap (λ (x : Turned). (turning_values x.answer).number) e ∙ ap (λ x. x.number) v;
        row = said_row t (passed_over M w) ∙ ap (λ (x : Turned). values_row (turning_values x.answer)) e ∙ ap values_row v;
        record_after = ap (λ (x : Turned). x.run) e;
        stands = told_refines.stands;
      }
