-- A turn, a run and an opening of DFDeques leave memory whose rows have the lengths that they had.
use mathlib.Core.Path.{◌≡◌, refl, subst}
use Prim.Native.Nat.{ℕ, zero, suc, ◌-◌, ◌^◌, ◌/◌, ◌≤◌}
use mathlib.Core.List.{List}
use mathlib.Core.Bool.{Bool, true, false, not, ◌&&◌, ◌||◌}
use lib.Dec.{ltb, eqb}
use lib.ListN.{length, get_or, set, length-set}
use Rattle.table.specs.Sum.{pick}
use Rattle.table.specs.Format.{Table, kind, table_of}
use Rattle.table.specs.declared.kinds.Kind.{Kind}
use Rattle.table.specs.declared.kinds.Kind.TheVariants.{End as end, Work as work, Alloc as alloc, Free as free, Fork as fork, Join as join, Unknown as unknown}
use Rattle.table.specs.Checks.{max_threads}
use Rattle.schedule.specs.declared.Worker.{Worker}
use Rattle.schedule.specs.declared.Reply.{Reply}
use Rattle.schedule.specs.declared.Reply.TheVariants.{Idle, Done, Wait}
use Rattle.schedule.specs.Machine.{ready, held, waiting, ended}
use Rattle.schedule.specs.Links.{no_thread, Links, link_left, unlink}
use Rattle.schedule.specs.Record.{max_bytes, max_workers}
use Rattle.order.proofs.Lists.{filled_front}
use Rattle.array_machine.specs.declared.Totals.{Totals}
use Rattle.array_machine.specs.declared.Moved.{Moved}
use Rattle.array_machine.specs.Arrays.{Arrays, links_of, second_of, action_in}
use Rattle.array_machine.specs.Turn.{Outcome, moved, unfit, next_fits, waits_in, act_on}
use Rattle.array_machine.specs.Counted.{counting, unmoved, room_for}
use Rattle.run_memory.specs.Memory.{Memory, worker_in, moved_in}
use Rattle.run_memory.specs.Runs.{over_in}
use Rattle.deques.specs.Lines.{linked_in}
use Rattle.deques.specs.DequeRuns.{Pair, pair_at}
use Rattle.deques.specs.DequeCalls.{DequeCall, turn, over_pairs}
use Rattle.deques.proofs.DequeStores.{steady_lawful}
use Rattle.dequetest.specs.DequeTested.{open_parents}
use Rattle.stealing.specs.Stealing.{along_by, leaves_on, wakes_on, forks_on, deque_by, deque_in, robbed_links, robbed_arrays, robbed_totals, steal_on, deque_on, deque_turn_on}
use Rattle.stealing.specs.StealingMemory.{deque_hindrance, deque_turn_in, deque_drive_in, deque_list_in, deque_run_in}
use Rattle.wivakkol_deques.specs.DequeLent.{lent_deque_turn, lent_deque_list, deque_sound_in, deque_blank_in, deques_opened, lent_deque_open}
use Rattle.wivakkol_deques.proofs.DequeOpens.{deque_sound_in_lem}
use Rattle.claims.proofs.Shaped.{Full, Sized, Shaped}
use Rattle.claims.proofs.Sizes.{Long, enters_long, leaves_long, pick_long, with_statuses_lem, advances, with_links, chosen, act_sized, left_shaped, told_shaped, either, full_parents, same}
use Rattle.deque_claims.specs.LentDequeCalls.{LentDequeCall, moving, opening, lent_deque_move, lent_deque_call}

-- ---- a turn

module _ (A : Arrays) (totals : Totals) (worker : Worker) (h : Sized A) where
  abbrev stays : Outcome
  stays = unfit A totals worker

  lines_long : Long (links_of A totals)
  lines_long = (h.left, h.right)

  bottoms_long : Long (second_of A totals)
  bottoms_long = (h.under, h.over)

  leaves_sized : (reply : Reply) (t y : ℕ) → Sized (leaves_on reply t y A totals worker).arrays
  unfolding leaves_on
  leaves_sized reply t y =
      let r : ℕ = get_or A.right t 0 in
      let list : Links = unlink t (links_of A totals) in
      let second : Links = unlink t (second_of A totals) in
      let e : Full (set A.status t y) = simp length-set h.status in
      let d : Full (set (set A.status t y) r held) = simp length-set h.status in
      chosen (linked_in (second_of A totals) t || not (ltb r max_threads)) _ _
      (with_links (with_statuses_lem h e) list second (leaves_long t (links_of A totals) lines_long) (leaves_long t (second_of A totals) bottoms_long))
      (with_links (with_statuses_lem h d) list (second_of A totals) (leaves_long t (links_of A totals) lines_long) bottoms_long)

  wakes_sized : (reply : Reply) (t u : ℕ) → Sized (wakes_on reply t u A totals worker).arrays
  unfolding wakes_on
  wakes_sized reply t u =
      let list : Links = unlink t (link_left u t (links_of A totals)) in
      let woken : Links = unlink t (link_left u t (second_of A totals)) in
      let second : Links = pick (linked_in (second_of A totals) t) woken (second_of A totals) in
      let e : Full (set (set A.status t ended) u held) = simp length-set h.status in
      with_links (with_statuses_lem h e) list second (leaves_long t (link_left u t (links_of A totals)) (enters_long u t (links_of A totals) lines_long))
      (pick_long (linked_in (second_of A totals) t) woken (second_of A totals) (leaves_long t (link_left u t (second_of A totals)) (enters_long u t (second_of A totals) bottoms_long)) bottoms_long)

  forks_sized : (t a x : ℕ) → Sized (forks_on t a x A totals worker).arrays
  unfolding forks_on
  forks_sized t a x =
      let list : Links = link_left x t (links_of A totals) in
      let e : Full (set (set A.status t ready) x held) = simp length-set h.status in
      chosen (next_fits a && ltb x max_threads) _ stays
      (with_links (with_statuses_lem (advances h t) e) list (second_of A totals) (enters_long x t (links_of A totals) lines_long) bottoms_long) h

  module _ (T : Table) (K : ℕ) (parents : List ℕ) where
    by_sized : (k : Kind) (t a x : ℕ) → Sized (deque_by k T K parents t a x A totals worker).arrays
    unfolding deque_by
    by_sized end t a x =
        let u : ℕ = get_or parents t 0 in
        chosen (waits_in T A.next (set A.status t ended) u t) _ _ (wakes_sized (Done t a) t u) (leaves_sized (Done t a) t ended)
    by_sized work t a x = act_sized T K parents t a x A totals worker h work
    by_sized alloc t a x = act_sized T K parents t a x A totals worker h alloc
    by_sized free t a x = act_sized T K parents t a x A totals worker h free
    by_sized fork t a x = forks_sized t a x
    by_sized join t a x =
        let done : Outcome = act_on join T K parents t a x A totals worker in
        let waits : Outcome = leaves_on (Wait t x) t waiting A totals worker in
        chosen (ltb x max_threads) (pick (eqb (get_or A.status x 0) ended) done waits) stays
        (chosen (eqb (get_or A.status x 0) ended) done waits (act_sized T K parents t a x A totals worker h join) (leaves_sized (Wait t x) t waiting)) h
    by_sized unknown t a x = act_sized T K parents t a x A totals worker h unknown

    in_sized : Sized (deque_in T K parents A totals worker).arrays
    unfolding deque_in
    in_sized =
        let t : ℕ = worker.thread in
        let a : ℕ = action_in A t in
        chosen (ltb t max_threads) _ stays (by_sized (kind T a) t a (T.argument a)) h

module _ (T : Table) (K : ℕ) (parents : List ℕ) (A : Arrays) (h : Sized A) where
  robbed_sized : (b : ℕ) (totals : Totals) → Sized (robbed_arrays b A totals)
  unfolding robbed_links
  robbed_sized b totals =
      let x : ℕ = get_or A.left b 0 in
      let e : Full (set A.status b held) = simp length-set h.status in
      with_links (with_statuses_lem h e) (links_of A totals) (robbed_links b A totals) (h.left, h.right)
      (pick_long (ltb x no_thread && not (linked_in (second_of A totals) x)) (link_left x b (second_of A totals)) (second_of A totals) (enters_long x b (second_of A totals) (h.under, h.over)) (h.under, h.over))

  steal_sized : (c : ℕ) (totals : Totals) (worker : Worker) → Sized (steal_on T K parents c A totals worker).arrays
  unfolding steal_on
  steal_sized c totals worker =
      let b : ℕ = along_by c A.over totals.first in
      let acts : Outcome = deque_in T K parents (robbed_arrays b A totals) (robbed_totals b A totals) (record { holds = true; thread = b; quota = K }) in
      let there : Outcome = pick acts.fits acts (unfit A totals worker) in
      let found : Bool = ltb b no_thread && eqb (get_or A.status b 0) ready in
      chosen (ltb c max_workers) (pick found there (moved Idle A totals worker)) (unfit A totals worker)
      (chosen found there (moved Idle A totals worker)
      (chosen acts.fits acts (unfit A totals worker) (in_sized (robbed_arrays b A totals) (robbed_totals b A totals) (record { holds = true; thread = b; quota = K }) (robbed_sized b totals) T K parents) h) h) h

  deque_sized : (c : ℕ) (totals : Totals) (worker : Worker) → Sized (deque_on T K parents c A totals worker).arrays
  unfolding deque_on
  deque_sized c totals worker = chosen worker.holds _ _ (in_sized A totals worker h T K parents) (steal_sized c totals worker)

  turn_sized : (w c : ℕ) (m : Moved) (worker : Worker) → Sized (deque_turn_on T K parents w c A m worker).arrays
  unfolding deque_turn_on
  turn_sized w c m worker = go (room_for m.turns m.busy worker.holds w && (deque_on T K parents c A m.totals worker).fits)
    where
      go : (b : Bool) → Sized (pick b (counting w m worker (deque_on T K parents c A m.totals worker)) (unmoved A m worker)).arrays
      go true = deque_sized c m.totals worker
      go false = h

-- ---- the calls

turn_shaped : (s : List ℕ) (w c : ℕ) (M : Memory) → Shaped M → Shaped (deque_turn_in s w c M).memory
unfolding deque_turn_in
turn_shaped s w c M h =
    told_shaped (eqb (deque_hindrance (moved_in M).turns (get_or M.settings 0 0) w c (get_or M.arrays.status 0 0)) 0) _ _
    (left_shaped M w h _ (turn_sized (table_of s) (get_or M.settings 1 0) M.parents M.arrays h.arrays w c (moved_in M) (worker_in M w))) h

drive_shaped : (s : List ℕ) (who : ℕ → Pair) (k i : ℕ) (M : Memory) → Shaped M → Shaped (deque_drive_in s who k i M).memory
unfolding deque_drive_in
drive_shaped s who zero i M h = h
drive_shaped s who (suc k) i M h =
    let M' : Memory = (deque_turn_in s (who i).worker (who i).choice M).memory in
    either (over_in M) _ _ h
    (either (eqb (deque_turn_in s (who i).worker (who i).choice M).number 0) _ _ (drive_shaped s who k (suc i) M' (turn_shaped s (who i).worker (who i).choice M h)) h)

move_shaped : (s : List ℕ) (c : DequeCall) (M : Memory) → Shaped M → Shaped (lent_deque_move s c M).memory
unfolding lent_deque_move lent_deque_turn lent_deque_list deque_list_in
move_shaped s (turn w c) M h = turn_shaped s w c M h
move_shaped s (over_pairs l) M h = either (eqb (moved_in M).turns (2 ^ 64 - 1)) _ _ h (drive_shaped s (pair_at l) (length l / 2) 0 M h)

open_shaped : (s : List ℕ) (M : Memory) → Shaped M → Shaped (lent_deque_open s M).memory
unfolding lent_deque_open open_parents
open_shaped s M h = go (deque_sound_in s M) refl (deque_blank_in M)
  where
    filled : {parents : List ℕ} → Full parents → Shaped (record { settings = M.settings; parents = parents; arrays = M.arrays; holds = M.holds; threads = M.threads; quotas = M.quotas; heads = M.heads; totals = M.totals })
    filled e = record { settings = h.settings; parents = e; arrays = h.arrays; holds = h.holds; threads = h.threads; quotas = h.quotas; heads = h.heads; totals = h.totals }

    go : (a : Bool) → deque_sound_in s M ≡ a → (b : Bool) → Shaped (deques_opened a b s M).memory
    go true e b =
        filled (full_parents (table_of s) (subst (λ (x : List ℕ). (table_of x).threads ≤ 1024) (filled_front max_bytes s) (steady_lawful (deque_run_in s M) (deque_sound_in_lem s M e).steady).few_threads))
    go false e true = filled (same 0)
    go false e false = h

pub deque_call_shaped : (s : List ℕ) (c : LentDequeCall) (M : Memory) → Shaped M → Shaped (lent_deque_call s c M).memory
unfolding lent_deque_call
deque_call_shaped s (moving c) M h = move_shaped s c M h
deque_call_shaped s opening M h = open_shaped s M h
