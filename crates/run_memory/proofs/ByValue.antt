-- A call by value packs the record into the blocks, makes the call there and reads the record back: what it answers is the record's own turn or run.
use mathlib.Core.Path.{◌≡◌, refl, ap, ◌∙◌}
use Prim.Native.Nat.{ℕ, zero, suc, ◌-◌, ◌^◌, ◌<◌}
use native.Mathlib.Omega.{arith}
use mathlib.Core.List.{List, [], ◌∷◌}
use mathlib.Core.Bool.{Bool, true, false}
use borrow.Author.Tests.{ne_eqb, le-ltb}
use lib.Dec.{eqb}
use lib.ListN.{length, get_or}
use Rattle.table.specs.Sum.{pick}
use Rattle.table.specs.Format.{table_of}
use Rattle.schedule.specs.declared.Run.{Run}
use Rattle.schedule.specs.declared.Ran.{Ran}
use Rattle.schedule.specs.declared.Reply.TheVariants.{Idle}
use Rattle.schedule.specs.Record.{bytes_of, table_in}
use Rattle.schedule.specs.Sound.{Steady}
use Rattle.schedule.specs.Parents.{Parents}
use Rattle.schedule.specs.Turn.{turned}
use Rattle.schedule.specs.Runs.{ran, list_run, rounds_run, worker_at}
use Rattle.array_machine.specs.Counted.{Left, turn_on}
use Rattle.run_memory.specs.Memory.{Memory, worker_in, moved_in, memory_after, hindrance, Told, told, turn_left, turn_in, passed_over}
use Rattle.run_memory.specs.Stands.{run_in, Stands}
use Rattle.run_memory.specs.Packing.{memory_for, record_of}
use Rattle.run_memory.specs.Runs.{Stopped, stopped, over_in, drive_in, list_run_in, rounds_run_in, report_of}
use Rattle.run_memory.proofs.Refines.{turned_by, turn_turned}
use Rattle.run_memory.proofs.RunsRefine.{Runs, list_refines, rounds_refines}
use Rattle.run_memory.proofs.Packed.{read_back, packed_record, packed_stands}

-- ---- p and K stay as they are, whatever the memory holds

pub turn_settings : (s : List ℕ) (w : ℕ) (M : Memory) → (turn_in s w M).memory.settings ≡ M.settings
unfolding turn_in turn_left
turn_settings s w M =
    go (eqb (hindrance (moved_in M).turns (get_or M.settings 0 0) w (get_or M.arrays.status 0 0)) 0)
    (turn_on (table_of s) (get_or M.settings 1 0) M.parents w M.arrays (moved_in M) (worker_in M w)).fits
    (hindrance (moved_in M).turns (get_or M.settings 0 0) w (get_or M.arrays.status 0 0))
    (turn_on (table_of s) (get_or M.settings 1 0) M.parents w M.arrays (moved_in M) (worker_in M w))
  where
    go : (b c : Bool) (n : ℕ) (z : Left) → (pick b (pick c (told 0 z.reply (memory_after M w z)) (told 32 Idle M)) (told n Idle M)).memory.settings ≡ M.settings
    go true true n z = refl
    go true false n z = refl
    go false c n z = refl

either : (b : Bool) (x y : Stopped) {l : List ℕ} → x.memory.settings ≡ l → y.memory.settings ≡ l → (pick b x y).memory.settings ≡ l
either true x y e f = e
either false x y e f = f

drive_settings : (s : List ℕ) (who : ℕ → ℕ) (k i : ℕ) (M : Memory) → (drive_in s who k i M).memory.settings ≡ M.settings
unfolding drive_in
drive_settings s who zero i M = refl
drive_settings s who (suc k) i M =
    either (over_in M) _ _ refl
    (either (eqb (turn_in s (who i) M).number 0) _ _ (drive_settings s who k (suc i) (turn_in s (who i) M).memory ∙ turn_settings s (who i) M) refl)

list_settings : (s l : List ℕ) (M : Memory) → (list_run_in s l M).memory.settings ≡ M.settings
unfolding list_run_in
list_settings s l M = either (eqb (moved_in M).turns (2 ^ 64 - 1)) _ _ refl (drive_settings s (worker_at l false (get_or M.settings 0 0)) (length l) 0 M)

rounds_settings : (s : List ℕ) (limit : ℕ) (M : Memory) → (rounds_run_in s limit M).memory.settings ≡ M.settings
unfolding rounds_run_in
rounds_settings s limit M =
    either (eqb (moved_in M).turns (2 ^ 64 - 1)) _ _ refl
    (either (eqb (get_or M.settings 0 0) 0) _ _ refl (drive_settings s (worker_at [] true (get_or M.settings 0 0)) limit 0 M))

-- ---- a record that is sound but for its turns taken

module _ {run : Run} (h : Steady run) (parents : List ℕ) {M : Memory} (e : M ≡ memory_for run parents) (a : Parents (table_in run) parents) (g : run.turns < 2 ^ 64) where
  abbrev s : List ℕ
  s = bytes_of run

  standing : Stands s M
  standing = packed_stands h parents e a g

  back : (M' : Memory) → M'.settings ≡ M.settings → record_of run M' ≡ run_in s M'
  back M' f = read_back h M' (f ∙ ap (λ (x : Memory). x.settings) e)

  pub turn_value : (w : ℕ) {t : Told} → t ≡ turn_in s w M → turned_by s t (passed_over M w) ≡ turned run w
  turn_value w f =
      ap (λ (x : Told). turned_by s x (passed_over M w)) f ∙ turn_turned s M standing w ∙ ap (λ (r : Run). turned r w) (packed_record h parents e)

  pub turn_record : (w : ℕ) {t : Told} → t ≡ turn_in s w M → record_of run t.memory ≡ run_in s t.memory
  turn_record w {t} f = back t.memory (ap (λ (x : Told). x.memory.settings) f ∙ turn_settings s w M)

  run_value : (x : Run → Ran) (d : Stopped) → d.memory.settings ≡ M.settings → Runs s d (x (run_in s M)) → ran (report_of d.number d.finished d.turns) (record_of run d.memory) ≡ x run
  run_value x d f v = ap (ran _) (back d.memory f) ∙ v.by_value ∙ ap x (packed_record h parents e)

  pub list_value : (l : List ℕ) {d : Stopped} → d ≡ list_run_in s l M → ran (report_of d.number d.finished d.turns) (record_of run d.memory) ≡ list_run run l
  list_value l f = rw f (run_value (λ r. list_run r l) (list_run_in s l M) (list_settings s l M) (list_refines s M standing l))

  pub rounds_value : (limit : ℕ) {d : Stopped} → d ≡ rounds_run_in s limit M → ran (report_of d.number d.finished d.turns) (record_of run d.memory) ≡ rounds_run run limit
  rounds_value limit f = rw f (run_value (λ r. rounds_run r limit) (rounds_run_in s limit M) (rounds_settings s limit M) (rounds_refines s M standing limit))

-- ---- a run of no workers, as the blank record is, whatever stands beside it

module _ (s : List ℕ) (M : Memory) (n : get_or M.settings 0 0 ≡ 0) (k : (moved_in M).turns ≡ 2 ^ 64 - 1 → ⊥) where
  pub no_turn : (w : ℕ) → turn_in s w M ≡ told 30 Idle M
  unfolding turn_in hindrance
  no_turn w = rw (ne_eqb (moved_in M).turns (2 ^ 64 - 1) k, n, le-ltb w 0 (omega arith))

  pub no_list : over_in M ≡ false → (l : List ℕ) → list_run_in s l M ≡ pick (eqb (length l) 0) (stopped 0 false 0 M) (stopped 30 false 0 M)
  unfolding list_run_in drive_in
  no_list o [] = rw (ne_eqb (moved_in M).turns (2 ^ 64 - 1) k, o)
  no_list o (w ∷ l) = rw (ne_eqb (moved_in M).turns (2 ^ 64 - 1) k, o, no_turn (worker_at (w ∷ l) false (get_or M.settings 0 0) 0), ne_eqb (length (w ∷ l)) 0 (λ z. omega (arith, z)))

  pub no_rounds : (limit : ℕ) → rounds_run_in s limit M ≡ stopped 30 false 0 M
  unfolding rounds_run_in
  no_rounds limit = rw (ne_eqb (moved_in M).turns (2 ^ 64 - 1) k, n)
