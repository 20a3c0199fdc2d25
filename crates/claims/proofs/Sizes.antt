-- A turn, a run and an opening leave memory whose rows have the lengths that they had, and a beginning leaves such memory.
use Rattle.std.specs.Prelude.{Err, Ok, Result, ⊤}
use Rattle.table.specs.declared.Refusal.{Refusal}
use mathlib.Core.Path.{◌≡◌, refl, subst, ◌∙◌}
use Prim.Native.Nat.{ℕ, zero, suc, ◌+◌, ◌-◌, ◌^◌, ◌≤◌}
use native.Mathlib.Omega.{arith}
use mathlib.Core.List.{List, []}
use mathlib.Core.Bool.{Bool, true, false, ◌&&◌}
use lib.Dec.{leb, ltb, eqb}
use lib.ListN.{length, get_or, set, replicate, length-set, length-replicate}
use Rattle.table.specs.Sum.{pick}
use Rattle.table.specs.Format.{Table, kind, table_of}
use Rattle.table.specs.declared.kinds.Kind.{Kind}
use Rattle.table.specs.declared.kinds.Kind.TheVariants.{End as end, Work as work, Alloc as alloc, Free as free, Fork as fork, Join as join, Unknown as unknown}
use Rattle.schedule.specs.declared.Worker.{Worker}
use Rattle.schedule.specs.declared.Reply.TheVariants.{Idle, Done, Quota, Wait}
use Rattle.schedule.specs.Machine.{drawn, parent_of, ready, held, waiting, ended, nobody}
use Rattle.order.specs.Firsts.{firsts}
use Rattle.schedule.specs.Links.{no_thread, Links, link_left, unlink, seek}
use Rattle.table.specs.Checks.{max_threads}
use Rattle.schedule.specs.Record.{max_bytes}
use Rattle.order.specs.Words.{filled}
use Rattle.schedule.specs.Sound.{Steady}
use Rattle.schedule.specs.Calls.{Call, turn, over_list, in_rounds}
use Rattle.schedule.specs.Runs.{worker_at}
use Rattle.order.proofs.Lists.{filled_front, filled_length, firsts_length}
use Rattle.schedule.proofs.Stores.{steady_lawful}
use Rattle.filling.specs.Filled.{filled_out}
use Rattle.soundness.specs.Tested.{parents_in, begin_filling}
use Rattle.array_machine.specs.declared.Totals.{Totals}
use Rattle.array_machine.specs.declared.Moved.{Moved}
use Rattle.array_machine.specs.Arrays.{Arrays, links_of, second_of, action_in, amount_in, with_statuses, with_amounts, advanced_in, relinked, headed, holding}
use Rattle.array_machine.specs.Turn.{Outcome, moved, unfit, next_fits, amount_fits, waits_in, act_on, act_in, Seat, seat, seat_of, seat_in, step_from, step_on}
use Rattle.array_machine.specs.Counted.{Left, counting, unmoved, room_for, turn_on}
use Rattle.run_memory.specs.Memory.{Memory, worker_in, moved_in, memory_after, hindrance, Told, told, turn_left, turn_in, lent_turn}
use Rattle.run_memory.specs.Stands.{run_in}
use Rattle.run_memory.specs.Runs.{Stopped, over_in, drive_in, list_run_in, rounds_run_in}
use Rattle.wivakkol.specs.Lent.{lent_list, lent_rounds, start_memory, blank_memory, lent_begun_as, lent_begin}
use Rattle.wivakkol.specs.Opened.{sound_in, blank_in, opened_in, opened_as, lent_open}
use Rattle.claims.specs.LentCalls.{LentCall, moving, opening, lent_move, lent_call}
use Rattle.wivakkol.proofs.Opens.{open_stands}
use Rattle.claims.proofs.LentLimit.{start_stands}
use Rattle.claims.proofs.Shaped.{Full, Sized, Shaped}

full_pick : (b : Bool) (l m : List ℕ) → Full l → Full m → Full (pick b l m)
full_pick true l m h k = h
full_pick false l m h k = k

-- ---- links

abbrev pub Long : Links → Type 0
Long k = Full k.left × Full k.right

pub enters_long : (c t : ℕ) (k : Links) → Long k → Long (link_left c t k)
unfolding link_left
enters_long c t k h = (simp length-set h.0, simp length-set h.1)

pub leaves_long : (t : ℕ) (k : Links) → Long k → Long (unlink t k)
unfolding unlink
leaves_long t k h = (simp length-set h.0, simp length-set h.1)

pub pick_long : (b : Bool) (k m : Links) → Long k → Long m → Long (pick b k m)
pick_long true k m h j = h
pick_long false k m h j = j

-- ---- a turn

module _ {A : Arrays} (h : Sized A) where
  pub with_statuses_lem : {l : List ℕ} → Full l → Sized (with_statuses l A)
  with_statuses_lem e = record { next = h.next; status = e; amounts = h.amounts; left = h.left; right = h.right; under = h.under; over = h.over }

  with_amounts_lem : {l : List ℕ} → Full l → Sized (with_amounts l A)
  with_amounts_lem e = record { next = h.next; status = h.status; amounts = e; left = h.left; right = h.right; under = h.under; over = h.over }

  pub advances : (t : ℕ) → Sized (advanced_in t A)
  advances t =
      record { next = simp length-set h.next; status = h.status; amounts = h.amounts; left = h.left; right = h.right; under = h.under; over = h.over }

  pub with_links : (list second : Links) → Long list → Long second → Sized (relinked list second A)
  with_links list second e d = record { next = h.next; status = h.status; amounts = h.amounts; left = e.0; right = e.1; under = d.0; over = d.1 }

pub chosen : (b : Bool) (x y : Outcome) → Sized x.arrays → Sized y.arrays → Sized (pick b x y).arrays
chosen true x y h k = h
chosen false x y h k = k

module _ (T : Table) (K : ℕ) (parents : List ℕ) (t a x : ℕ) (A : Arrays) (totals : Totals) (worker : Worker) (h : Sized A) where
  abbrev on : Arrays
  on = advanced_in t A

  abbrev stays : Outcome
  stays = unfit A totals worker

  pub act_sized : (k : Kind) → Sized (act_on k T K parents t a x A totals worker).arrays
  unfolding act_on
  act_sized end =
      let u : ℕ = get_or parents t 0 in
      let status : List ℕ = set A.status t ended in
      let wakes : Bool = waits_in T A.next status u t in
      let with_parent : Links = pick wakes (link_left u t (second_of A totals)) (second_of A totals) in
      let statuses : List ℕ = pick wakes (set status u ready) status in
      let e : Full statuses = full_pick wakes (set status u ready) status (simp length-set h.status) (simp length-set h.status) in
      let d : Long with_parent = pick_long wakes (link_left u t (second_of A totals)) (second_of A totals) (enters_long u t (second_of A totals) (h.under, h.over)) (h.under, h.over) in
      with_links (with_statuses_lem h e) (unlink t (links_of A totals)) (unlink t with_parent) (leaves_long t (links_of A totals) (h.left, h.right)) (leaves_long t with_parent d)
  act_sized work = chosen (next_fits a) (moved (Done t a) on totals worker) stays (advances h t) h
  act_sized alloc =
      let rises : List ℕ = set A.amounts t (amount_in A t + x) in
      let e : Full rises = simp length-set h.amounts in
      let f : Full (set A.status t ready) = simp length-set h.status in
      let done : Outcome = moved (Done t a) (with_amounts rises on) (holding (totals.held + x) totals) (record { holds = true; thread = t; quota = worker.quota - drawn K x }) in
      let fits : Bool = next_fits a && (amount_fits (totals.held + x) && amount_fits (amount_in A t + x)) in
      chosen (leb (drawn K x) worker.quota) (pick fits done stays) (moved (Quota t x) (with_statuses (set A.status t ready) A) totals nobody)
      (chosen fits done stays (with_amounts_lem (advances h t) e) h) (with_statuses_lem h f)
  act_sized free =
      let falls : List ℕ = set A.amounts t (amount_in A t - x) in
      let e : Full falls = simp length-set h.amounts in
      chosen (next_fits a && (leb x totals.held && leb x (amount_in A t))) (moved (Done t a) (with_amounts falls on) (holding (totals.held - x) totals) worker) stays
      (with_amounts_lem (advances h t) e) h
  act_sized fork =
      let list : Links = link_left x t (links_of A totals) in
      let second : Links = link_left x t (second_of A totals) in
      let statuses : List ℕ = set (set A.status t ready) x ready in
      let e : Full statuses = simp length-set h.status in
      chosen (next_fits a && ltb x max_threads) (moved (Done t a) (relinked list second (with_statuses statuses on)) (headed list second totals) nobody) stays
      (with_links (with_statuses_lem (advances h t) e) list second (enters_long x t (links_of A totals) (h.left, h.right)) (enters_long x t (second_of A totals) (h.under, h.over))) h
  act_sized join =
      let second : Links = unlink t (second_of A totals) in
      let shared : List ℕ = set (set A.amounts t (amount_in A t + amount_in A x)) x 0 in
      let e : Full shared = simp length-set h.amounts in
      let f : Full (set A.status t waiting) = simp length-set h.status in
      let joins : Outcome = moved (Done t a) (with_amounts shared on) totals worker in
      let waits : Outcome =
      moved (Wait t x) (relinked (links_of A totals) second (with_statuses (set A.status t waiting) A)) (headed (links_of A totals) second totals) nobody in
      let fits : Bool = next_fits a && amount_fits (amount_in A t + amount_in A x) in
      let over : Bool = eqb (get_or A.status x 0) ended in
      chosen (ltb x max_threads) (pick over (pick fits joins stays) waits) stays
      (chosen over (pick fits joins stays) waits (chosen fits joins stays (with_amounts_lem (advances h t) e) h)
      (with_links (with_statuses_lem h f) (links_of A totals) second (h.left, h.right) (leaves_long t (second_of A totals) (h.under, h.over)))) h
  act_sized unknown = h

seat_full : (K t : ℕ) (status : List ℕ) (worker : Worker) → Full status → Full (seat_of K status t worker).status
unfolding seat_of
seat_full K t status worker h = go worker.holds (ltb t no_thread)
  where
    go : (b c : Bool) → Full (pick b (seat status worker) (pick c (seat (set status t held) (record { holds = true; thread = t; quota = K })) (seat status worker))).status
    go true c = h
    go false true = simp length-set h
    go false false = h

module _ (T : Table) (K : ℕ) (parents : List ℕ) (A : Arrays) (h : Sized A) where
  step_sized : (totals : Totals) (worker : Worker) → Sized (step_on T K parents A totals worker).arrays
  unfolding step_on step_from act_in
  step_sized totals worker =
      let y : Seat = seat_in K A totals worker in
      let B : Arrays = with_statuses y.status A in
      let t : ℕ = y.worker.thread in
      let a : ℕ = action_in B t in
      let seated : Sized B = with_statuses_lem h (seat_full K (seek max_threads A.status A.over totals.first).thread A.status worker h.status) in
      let acts : Outcome = act_on (kind T a) T K parents t a (T.argument a) B totals y.worker in
      let there : Outcome = pick (ltb t max_threads) acts (unfit B totals y.worker) in
      let none : Outcome = unfit A totals worker in
      chosen y.worker.holds (pick there.fits there none) (moved Idle A totals worker)
      (chosen there.fits there none
      (chosen (ltb t max_threads) acts (unfit B totals y.worker) (act_sized T K parents t a (T.argument a) B totals y.worker seated (kind T a)) seated) h) h

  turn_sized : (w : ℕ) (m : Moved) (worker : Worker) → Sized (turn_on T K parents w A m worker).arrays
  unfolding turn_on
  turn_sized w m worker = go (room_for m.turns m.busy worker.holds w && (step_on T K parents A m.totals worker).fits)
    where
      go : (b : Bool) → Sized (pick b (counting w m worker (step_on T K parents A m.totals worker)) (unmoved A m worker)).arrays
      go true = step_sized m.totals worker
      go false = h

-- ---- the calls

-- what is left of a turn, whatever its kind
pub left_shaped : (M : Memory) (w : ℕ) → Shaped M → (z : Left) → Sized z.arrays → Shaped (turn_left M w z).memory
unfolding turn_left
left_shaped M w h z k = go z.fits
  where
    go : (b : Bool) → Shaped (pick b (told 0 z.reply (memory_after M w z)) (told 32 Idle M)).memory
    go true =
        record {
          settings = h.settings;
          parents = h.parents;
          arrays = k;
          holds = length-set M.holds w (pick z.worker.holds 1 0) ∙ h.holds;
          threads = length-set M.threads w z.worker.thread ∙ h.threads;
          quotas = length-set M.quotas w z.worker.quota ∙ h.quotas;
          heads = refl;
          totals = refl;
        }
    go false = h

pub told_shaped : (b : Bool) (x y : Told) → Shaped x.memory → Shaped y.memory → Shaped (pick b x y).memory
told_shaped true x y h k = h
told_shaped false x y h k = k

turn_shaped : (s : List ℕ) (w : ℕ) (M : Memory) → Shaped M → Shaped (turn_in s w M).memory
unfolding turn_in
turn_shaped s w M h =
    told_shaped (eqb (hindrance (moved_in M).turns (get_or M.settings 0 0) w (get_or M.arrays.status 0 0)) 0) _ _
    (left_shaped M w h _ (turn_sized (table_of s) (get_or M.settings 1 0) M.parents M.arrays h.arrays w (moved_in M) (worker_in M w))) h

pub either : (b : Bool) (x y : Stopped) → Shaped x.memory → Shaped y.memory → Shaped (pick b x y).memory
either true x y h k = h
either false x y h k = k

drive_shaped : (s : List ℕ) (who : ℕ → ℕ) (k i : ℕ) (M : Memory) → Shaped M → Shaped (drive_in s who k i M).memory
unfolding drive_in
drive_shaped s who zero i M h = h
drive_shaped s who (suc k) i M h =
    either (over_in M) _ _ h
    (either (eqb (turn_in s (who i) M).number 0) _ _ (drive_shaped s who k (suc i) (turn_in s (who i) M).memory (turn_shaped s (who i) M h)) h)

move_shaped : (s : List ℕ) (c : Call) (M : Memory) → Shaped M → Shaped (lent_move s c M).memory
unfolding lent_move lent_turn lent_list lent_rounds list_run_in rounds_run_in
move_shaped s (turn w) M h = turn_shaped s w M h
move_shaped s (over_list l) M h = either (eqb (moved_in M).turns (2 ^ 64 - 1)) _ _ h (drive_shaped s (worker_at l false (get_or M.settings 0 0)) (length l) 0 M h)
move_shaped s (in_rounds limit) M h =
    either (eqb (moved_in M).turns (2 ^ 64 - 1)) _ _ h
    (either (eqb (get_or M.settings 0 0) 0) _ _ h (drive_shaped s (worker_at [] true (get_or M.settings 0 0)) limit 0 M h))

-- ---- beginnings and openings

-- a table that is accepted has at most as many threads as a row has numbers
few_so : (s : List ℕ) (M : Memory) → Steady (run_in s M) → (table_of s).threads ≤ 1024
few_so s M h = subst (λ (x : List ℕ). (table_of x).threads ≤ 1024) (filled_front max_bytes s) (steady_lawful (run_in s M) h).few_threads

full_firsts : (f : ℕ → ℕ) (n : ℕ) → n ≤ 1024 → Full (filled max_threads (firsts f 0 n))
full_firsts f n h = filled_length max_threads (firsts f 0 n) (omega (arith, h, firsts_length f 0 n))

pub full_parents : (T : Table) → T.threads ≤ 1024 → Full (parents_in T)
unfolding parents_in
full_parents T h = full_firsts (parent_of T) T.threads h

pub same : (x : ℕ) → Full (replicate 1024 x)
same x = length-replicate {A = ℕ} 1024 x

pub open_shaped : (s : List ℕ) (M : Memory) → Shaped M → Shaped (lent_open s M).memory
unfolding lent_open
open_shaped s M h = go (sound_in s M) refl (blank_in M)
  where
    go : (a : Bool) → sound_in s M ≡ a → (b : Bool) → Shaped (opened_as a b s M).memory
    go true e b =
        let k = open_stands s M h.holds h.threads h.quotas e in
        record {
          settings = h.settings;
          parents = full_parents (table_of s) (few_so s (opened_in s M) k.steady);
          arrays =
              record {
                next = h.arrays.next;
                status = h.arrays.status;
                amounts = h.arrays.amounts;
                left = h.arrays.left;
                right = h.arrays.right;
                under = k.second.left_size;
                over = k.second.right_size;
              };
          holds = h.holds;
          threads = h.threads;
          quotas = h.quotas;
          heads = refl;
          totals = h.totals;
        }
    go false e true =
        record {
          settings = h.settings;
          parents = same 0;
          arrays =
              record {
                next = h.arrays.next;
                status = h.arrays.status;
                amounts = h.arrays.amounts;
                left = h.arrays.left;
                right = h.arrays.right;
                under = same 0;
                over = same 0;
              };
          holds = h.holds;
          threads = h.threads;
          quotas = h.quotas;
          heads = refl;
          totals = h.totals;
        }
    go false e false = h

pub call_shaped : (s : List ℕ) (c : LentCall) (M : Memory) → Shaped M → Shaped (lent_call s c M).memory
unfolding lent_call
call_shaped s (moving c) M h = move_shaped s c M h
call_shaped s opening M h = open_shaped s M h

blank_shaped : Shaped blank_memory
blank_shaped =
    record {
      settings = refl;
      parents = same 0;
      arrays = record { next = same 0; status = same 0; amounts = same 0; left = same 0; right = same 0; under = same 0; over = same 0 };
      holds = refl;
      threads = refl;
      quotas = refl;
      heads = refl;
      totals = refl;
    }

pub begin_shaped : (s : List ℕ) (p K room : ℕ) → Shaped (lent_begin s p K room).memory
unfolding lent_begin
begin_shaped s p K room = go (begin_filling s p K).found refl (ltb room (begin_filling s p K).bytes) refl
  where
    go : (f : Result ⊤ Refusal) → (begin_filling s p K).found ≡ f → (b : Bool) → ltb room (begin_filling s p K).bytes ≡ b
        → Shaped (lent_begun_as f b (begin_filling s p K).bytes (start_memory (filled_out s K) p K)).memory
    go (Err x) e b c = blank_shaped
    go (Ok _) e true c = blank_shaped
    go (Ok _) e false c =
        let begun : (lent_begin s p K room).number ≡ 0 = rw (e, c) in
        let few = few_so (filled_out s K) (start_memory (filled_out s K) p K) (start_stands s p K room begun).steady in
        record {
          settings = refl;
          parents = full_parents (table_of (filled_out s K)) few;
          arrays =
              record {
                next = full_firsts (table_of (filled_out s K)).first (table_of (filled_out s K)).threads few;
                status = simp length-set (same 0);
                amounts = same 0;
                left = same 1024;
                right = same 1024;
                under = same 1024;
                over = same 1024;
              };
          holds = refl;
          threads = refl;
          quotas = refl;
          heads = refl;
          totals = refl;
        }
