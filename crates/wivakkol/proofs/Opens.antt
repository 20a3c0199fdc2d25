-- Opening a run: the record that stands in the memory is as it was, and where it is sound, what is filled beside it is what the turns look up.
use mathlib.Core.Path.{◌≡◌, refl, sym, ap, subst, ◌∙◌}
use Prim.Native.Nat.{ℕ, min, ◌≤◌, ◌<◌}
use native.Mathlib.Omega.{arith}
use native.Mathlib.Decide.{dec_lt}
use native.Mathlib.Nat.{min-eq_left, min-eq_right}
use mathlib.Core.Logic.{◌↔◌, ◌⊎◌, inl, inr, ⊎_elim, by_cases}
use mathlib.Core.List.{List, [], ◌∷◌}
use mathlib.Core.Bool.{Bool, true, false, not, ◌&&◌}
use borrow.Author.Tests.{le-ltb, eq-eqb, ne_eqb, eqb-true}
use lib.Dec.{eqb}
use lib.ListN.{length, get_or, replicate}
use Rattle.table.specs.Sum.{pick}
use Rattle.table.specs.Format.{Table, table_of}
use Rattle.table.specs.Pass.{first_found}
use Rattle.table.specs.Checks.{passes}
use Rattle.schedule.specs.declared.Worker.{Worker}
use Rattle.schedule.specs.declared.Run.{Run}
use Rattle.schedule.specs.Links.{no_thread, Links, LinkedAs}
use Rattle.schedule.specs.Actives.{no_links, filled_from}
use Rattle.schedule.specs.Record.{max_bytes, max_workers, blank, bytes_of, table_in, links_in, list_in, state_of}
use Rattle.order.specs.Words.{filled, all_below, is_nothing, same_list}
use Rattle.schedule.specs.Begin.{setting_passes}
use Rattle.schedule.specs.Sound.{Steady, Sound, common_sound, sound}
use Rattle.schedule.specs.Turn.{is_blank, unsound}
use Rattle.schedule.proofs.Linked.ActiveMoves.{list_once, list_small}
use Rattle.schedule.proofs.Linked.Fills.{fill_linked}
use Rattle.schedule.proofs.Linked.Links.{laid_linked}
use Rattle.order.proofs.Lists.{filled_front}
use Rattle.schedule.proofs.Stores.{steady_lawful, steady_fits, steady_facts}
use Rattle.schedule.proofs.Sound.Tests.{sound_exactly}
use Rattle.order.proofs.Words.{same_list_exactly}
use Rattle.soundness.specs.Tested.{parents_in, parents_if, sound_on, blank_on}
use Rattle.soundness.proofs.Chains.{last, first_of, never}
use Rattle.soundness.proofs.Noting.{parents_right}
use Rattle.soundness.proofs.Passed.{no_workers as blank_of}
use Rattle.soundness.proofs.OnParts.{sound_is, blank_is}
use Rattle.array_machine.specs.Arrays.{links_of}
use Rattle.schedule.specs.Answers.{nothing}
use Rattle.run_memory.specs.Memory.{Memory, moved_in, no_row, run_row, answer, hindrance, turn_in, lent_turn}
use Rattle.run_memory.specs.Runs.{rounds_run_in}
use Rattle.wivakkol.specs.Lent.{lent_rounds, blank_memory}
use Rattle.run_memory.specs.Stands.{truths, workers_from, workers_in, run_in, Stands}
use Rattle.wivakkol.specs.Opened.{sound_in, blank_in, beside, opened_in, blanked_in, opened_as, lent_open}
use Rattle.wivakkol.specs.declared.standing.Standing.{Standing}
use Rattle.wivakkol.specs.declared.standing.Standing.TheVariants.{Sound as sound_record, Blank, Neither}
use Rattle.wivakkol.specs.Code.Standing.{standing_of, standing, is_sound}
use Rattle.wivakkol.proofs.Begins.{too_many}

-- ---- the record

both : {a b : Bool} → a ≡ true → b ≡ true → (a && b) ≡ true
both e d = rw (e, d)

module _ (s : List ℕ) (M : Memory) where
  -- what stands beside the record is no part of it
  pub beside_record : (parents : List ℕ) (k : Links) → run_in s (beside parents k M) ≡ run_in s M
  beside_record parents k = refl

  -- whatever the call answers
  pub open_record : run_in s (lent_open s M).memory ≡ run_in s M
  unfolding lent_open
  open_record = go (sound_in s M) (blank_in M)
    where
      go : (a b : Bool) → run_in s (opened_as a b s M).memory ≡ run_in s M
      go true b = refl
      go false true = refl
      go false false = refl

  bytes : bytes_of (run_in s M) ≡ s
  bytes = filled_front max_bytes s

  truths_in : sound_in s M ≡ true → truths M.holds ≡ true
  unfolding sound_in
  truths_in e = first_of (truths M.holds) _ e

  -- the test is that of the record
  pub sound_same : truths M.holds ≡ true → sound_in s M ≡ sound (run_in s M)
  unfolding sound_in
  sound_same h =
      let r : Run = run_in s M in
      let size = eq-eqb (length (bytes_of r)) r.length (ap length bytes) in
      let rest = (same_list_exactly r.table (filled max_bytes (bytes_of r))).1 (ap (filled max_bytes) (sym bytes)) in
      rw h
      (ap (λ (t : List ℕ). sound_on t r.workers r.quota r.next r.status r.amounts (links_in r) r.worker r.busy r.held r.highest r.turns) (sym bytes)
      ∙ last _ refl (both size rest) ∙ sym (sound_is r))

  pub sound_in_lem : sound_in s M ≡ true → Sound (run_in s M)
  sound_in_lem e = (sound_exactly (run_in s M)).0 (sym (sound_same (truths_in e)) ∙ e)

  -- ---- what is filled

  module _ (holds_size : length M.holds ≡ max_workers) (threads_size : length M.threads ≡ max_workers) (quotas_size : length M.quotas ≡ max_workers) where
    -- from a sound record on, however it came into the memory, each turn is document 01's (`turn_refines`, crates/run_memory/proofs/Refines)
    pub open_stands : sound_in s M ≡ true → Stands s (opened_in s M)
    open_stands e =
        let r : Run = run_in s M in
        let h : Steady r = (sound_in_lem e).steady in
        let linked : LinkedAs (links_in r) (list_in r) = subst (λ (k : Links). LinkedAs k (list_in r)) (sym h.links) (laid_linked (list_in r)) in
        let once = list_once (table_in r) (steady_lawful r h) r.workers r.quota (state_of r) (steady_facts r h) in
        let small = list_small (table_in r) (steady_lawful r h) r.workers r.quota (state_of r) (steady_facts r h) in
        record {
          steady = h;
          parent = parents_right (table_of s) refl;
          second = fill_linked r.left r.right r.leftmost (list_in r) r.status linked once small;
          truth_values = truths_in e;
          holds_size = holds_size;
          threads_size = threads_size;
          quotas_size = quotas_size;
          turns_fit = omega (arith, (sound_in_lem e).turns);
        }

-- a run that stands has a worker, and the blank record has none
pub stands_worked : (s : List ℕ) (M : Memory) → Stands s M → blank_in M ≡ false
unfolding blank_in blank_on
stands_worked s M h = rw (ne_eqb (get_or M.settings 0 0) 0 (λ e. omega (arith, e, (steady_fits (run_in s M) h.steady).some_worker)))

-- where the memory has not the blank record, nor has it beside a table
unblank : (s : List ℕ) (M : Memory) → blank_in M ≡ false → is_blank (run_in s M) ≡ false
unfolding blank_in
unblank s M e = blank_is (run_in s M) ∙ off (same_list (run_in s M).table (replicate max_bytes 0)) (eqb (length s) 0) e
  where
    off : (a b : Bool) {c : Bool} → c ≡ false → (a && (b && c)) ≡ false
    off true true e = e
    off true false e = refl
    off false b e = refl

-- so check 32 of the memory is that of the record
pub tested_same : (s : List ℕ) (M : Memory) → truths M.holds ≡ true → blank_in M ≡ false → not (sound_in s M) ≡ unsound (run_in s M)
unfolding unsound
tested_same s M h e = rw (unblank s M e, sound_same s M h) (last (not (sound (run_in s M))) refl refl)

pub stands_unsound : (s : List ℕ) (M : Memory) → Stands s M → not (sound_in s M) ≡ unsound (run_in s M)
stands_unsound s M h = tested_same s M h.truth_values (stands_worked s M h)

-- and opening it is refused exactly where the record is
pub open_refines : (s : List ℕ) (M : Memory) → Stands s M → (lent_open s M).number ≡ pick (unsound (run_in s M)) 32 0
unfolding lent_open
open_refines s M h = rw (← (stands_unsound s M h), stands_worked s M h) (go (sound_in s M))
  where
    go : (b : Bool) → (opened_as b false s M).number ≡ pick (not b) 32 0
    go true = refl
    go false = refl

-- what opening answers: 0 exactly where a sound record, its truth values written as 0 and 1, or the blank one stands in the memory
pub open_exactly : (s : List ℕ) (M : Memory) → ((lent_open s M).number ≡ 0) ↔ (((truths M.holds ≡ true) × Sound (run_in s M)) ⊎ (blank_in M ≡ true))
unfolding lent_open
open_exactly s M = go (sound_in s M) refl (blank_in M) refl
  where
    go : (a : Bool) → sound_in s M ≡ a → (b : Bool) → blank_in M ≡ b → ((opened_as a b s M).number ≡ 0) ↔ (((truths M.holds ≡ true) × Sound (run_in s M)) ⊎ (b ≡ true))
    go true e b f = ((λ z. inl (truths_in s M e, sound_in_lem s M e)), (λ x. refl))
    go false e true f = ((λ z. inr refl), (λ x. refl))
    go false e false f = (
      (λ z. absurd (omega (arith, z))),
      (λ x.
          ⊎_elim
          (λ (h : (truths M.holds ≡ true) × Sound (run_in s M)). never (sym e ∙ sound_same s M h.0 ∙ (sound_exactly (run_in s M)).1 h.1))
          (λ (h : false ≡ true). never h)
          x),
    )

-- ---- the blank record

-- the memory of a beginning that was refused has the blank record, with the zeros of a table of no bytes
pub blank_record : run_in [] blank_memory ≡ blank
unfolding blank workers_from
blank_record = refl

pub blank_passes : blank_in blank_memory ≡ true
unfolding blank_in blank_on workers_from all_below
blank_passes = rw ((same_list_exactly (replicate 1024 0) (replicate 1024 0)).1 refl)

module _ (s : List ℕ) (M : Memory) (h : blank_in M ≡ true) where
  pub no_workers : get_or M.settings 0 0 ≡ 0
  unfolding blank_in blank_on
  no_workers = eqb-true (get_or M.settings 0 0) 0 (first_of _ _ h)

  pub blank_passed : unsound (run_in [] M) ≡ false
  unfolding unsound blank_in
  blank_passed = go (sound (run_in [] M)) (blank_is (run_in [] M) ∙ rw ((same_list_exactly (replicate max_bytes 0) (replicate max_bytes 0)).1 refl) h)
    where
      go : (b : Bool) → is_blank (run_in [] M) ≡ true → (not b && not (is_blank (run_in [] M))) ≡ false
      go true e = refl
      go false e = rw e

  no_turns : (moved_in M).turns ≡ 0
  unfolding blank
  no_turns = ap (λ (r : Run). r.turns) (blank_of (run_in [] M) blank_passed no_workers)

  blank_unsound : sound_in s M ≡ false
  blank_unsound = go (sound_in s M) refl
    where
      go : (a : Bool) → sound_in s M ≡ a → a ≡ false
      go true e = absurd (omega (arith, no_workers, (steady_fits (run_in s M) (sound_in_lem s M e).steady).some_worker))
      go false e = refl

  -- it is opened with zeros beside it, whatever the table
  pub open_blank : lent_open s M ≡ answer 0 (0 ∷ []) (blanked_in M)
  unfolding lent_open
  open_blank = rw (blank_unsound, h)

  -- "any turn or run in rounds on it gets 30"
  pub blank_turn : (w : ℕ) → lent_turn s w M ≡ answer 30 no_row M
  unfolding lent_turn turn_in hindrance
  blank_turn w = rw (no_turns, no_workers, le-ltb w 0 (omega arith))

  pub blank_rounds : (limit : ℕ) → lent_rounds s limit M ≡ answer 30 (run_row nothing 0) M
  unfolding lent_rounds rounds_run_in
  blank_rounds limit = rw (no_turns, no_workers)

-- a run that stands, opened anew: it stands, whatever the call answers
pub opens_stands : (s : List ℕ) (M : Memory) → Stands s M → Stands s (lent_open s M).memory
unfolding lent_open
opens_stands s M h = go (sound_in s M) refl (blank_in M) refl
  where
    go : (a : Bool) → sound_in s M ≡ a → (b : Bool) → blank_in M ≡ b
        → Stands s (opened_as a b s M).memory
    go true e b f = open_stands s M h.holds_size h.threads_size h.quotas_size e
    go false e true f = never (sym (stands_worked s M h) ∙ f)
    go false e false f = h

-- ---- the test, as the code asks it: more workers than there may be are tested as 17 are

refused_parts : (a b c d : Bool) → b ≡ false → ((a && (b && c)) && d) ≡ false
refused_parts true b c d e = rw e
refused_parts false b c d e = refl

module _ (s : List ℕ) (K : ℕ) (next status amounts : List ℕ) (k : Links) (workers : List Worker) (set amount highest turns : ℕ) where
  too_many_tested : (p : ℕ) → 17 ≤ p → sound_on s p K next status amounts k workers set amount highest turns ≡ false
  unfolding sound_on common_sound
  too_many_tested p h = refused_parts (is_nothing (first_found (passes s))) (is_nothing (first_found (setting_passes p K))) _ _ (rw (too_many s K p h))

  sound_handed : (p : ℕ) → sound_on s (min p 17) K next status amounts k workers set amount highest turns ≡ sound_on s p K next status amounts k workers set amount highest turns
  sound_handed p =
      by_cases (dec_lt p 17)
      (λ (h : p < 17). let e : min p 17 ≡ p = min-eq_left (omega arith) in ap (λ (w : ℕ). sound_on s w K next status amounts k workers set amount highest turns) e)
      (λ (h : p < 17 → ⊥). let l : 17 ≤ p = omega arith in rw (min-eq_right l) (too_many_tested 17 (omega arith) ∙ sym (too_many_tested p l)))

  blank_handed : (p : ℕ) → blank_on (min p 17) K next status amounts k workers set amount highest turns ≡ blank_on p K next status amounts k workers set amount highest turns
  unfolding blank_on
  blank_handed p =
      by_cases (dec_lt p 17)
      (λ (h : p < 17). let e : min p 17 ≡ p = min-eq_left (omega arith) in rw e)
      (λ (h : p < 17 → ⊥). let l : 17 ≤ p = omega arith in rw (min-eq_right l, ne_eqb p 0 (λ e. omega (arith, e, l))))

-- what is found in the parts, and the workers' truth values
module _ (s : List ℕ) (M : Memory) {p : ℕ} {workers : List Worker} (h : p ≡ min (get_or M.settings 0 0) 17) (w : workers ≡ workers_in M) {t : Bool} (f : t ≡ truths M.holds) where
  pub tests_standing : {n : Standing}
      → n ≡ standing_of
      (t && sound_on s p (get_or M.settings 1 0) M.arrays.next M.arrays.status M.arrays.amounts (links_of M.arrays (moved_in M).totals) workers (get_or M.heads 2 0)
      (get_or M.totals 0 0) (get_or M.totals 1 0) (get_or M.totals 2 0))
      (blank_on p (get_or M.settings 1 0) M.arrays.next M.arrays.status M.arrays.amounts (links_of M.arrays (moved_in M).totals) workers (get_or M.heads 2 0)
      (get_or M.totals 0 0) (get_or M.totals 1 0) (get_or M.totals 2 0))
      → n ≡ standing s M
  unfolding standing sound_in blank_in
  tests_standing e =
      let p_sound = sound_handed s (get_or M.settings 1 0) M.arrays.next M.arrays.status M.arrays.amounts (links_of M.arrays (moved_in M).totals) (workers_in M) (get_or M.heads 2 0)
      (get_or M.totals 0 0) (get_or M.totals 1 0) (get_or M.totals 2 0) (get_or M.settings 0 0) in
      let p_blank = blank_handed s (get_or M.settings 1 0) M.arrays.next M.arrays.status M.arrays.amounts (links_of M.arrays (moved_in M).totals) (workers_in M) (get_or M.heads 2 0)
      (get_or M.totals 0 0) (get_or M.totals 1 0) (get_or M.totals 2 0) (get_or M.settings 0 0) in
      e ∙ rw (f, h, w) (λ i. standing_of (truths M.holds && p_sound i) (p_blank i))

-- ---- the call's three answers

pub none_seen : (T : Table) (n : Standing) {parents : List ℕ} → parents ≡ parents_if (is_sound n) T → is_sound n ≡ false → parents ≡ replicate 1024 0
none_seen T n e h = e ∙ ap (λ (b : Bool). parents_if b T) h

module _ (s : List ℕ) (M : Memory) {n : Standing} (e : n ≡ standing s M) where
  sound_found : n ≡ sound_record → sound_in s M ≡ true
  unfolding standing
  sound_found h = go (sound_in s M) (blank_in M) (sym e ∙ h)
    where
      go : (a b : Bool) → standing_of a b ≡ sound_record → a ≡ true
      go true b h = refl
      go false true h = cc
      go false false h = cc

  blank_found : n ≡ Blank → (sound_in s M ≡ false) × (blank_in M ≡ true)
  unfolding standing
  blank_found h = go (sound_in s M) (blank_in M) (sym e ∙ h)
    where
      go : (a b : Bool) → standing_of a b ≡ Blank → (a ≡ false) × (b ≡ true)
      go true b h = (cc, cc)
      go false true h = (refl, refl)
      go false false h = (cc, cc)

  neither_found : n ≡ Neither → (sound_in s M ≡ false) × (blank_in M ≡ false)
  unfolding standing
  neither_found h = go (sound_in s M) (blank_in M) (sym e ∙ h)
    where
      go : (a b : Bool) → standing_of a b ≡ Neither → (a ≡ false) × (b ≡ false)
      go true b h = (cc, cc)
      go false true h = (cc, cc)
      go false false h = (refl, refl)

  pub opens_sound : n ≡ sound_record → {parents : List ℕ} → parents ≡ parents_if (is_sound n) (table_of s) → {k : Links}
      → k ≡ filled_from 1024 M.arrays.status M.arrays.right (get_or M.heads 0 0) no_thread no_links → answer 0 (0 ∷ []) (beside parents k M) ≡ lent_open s M
  unfolding lent_open
  opens_sound h {parents} p {k} q =
      let p' : parents ≡ parents_in (table_of s) = p ∙ ap (λ (m : Standing). parents_if (is_sound m) (table_of s)) h in
      rw (sound_found h) (λ i. answer 0 (0 ∷ []) (beside (p' i) (q i) M))

  pub opens_blank : n ≡ Blank → answer 0 (0 ∷ []) (blanked_in M) ≡ lent_open s M
  unfolding lent_open
  opens_blank h = rw ((blank_found h).0, (blank_found h).1)

  pub opens_refused : n ≡ Neither → answer 32 (0 ∷ []) M ≡ lent_open s M
  unfolding lent_open
  opens_refused h = rw ((neither_found h).0, (neither_found h).1)
