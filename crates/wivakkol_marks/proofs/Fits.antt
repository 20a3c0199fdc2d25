-- Check 32 on the blocks of a run, and what an opening fills beside the record, from what is read off the blocks.
use mathlib.Core.Path.{◌≡◌, refl, ap, ◌∙◌}
use Prim.Native.Nat.{ℕ, min}
use mathlib.Core.List.{List}
use mathlib.Core.Bool.{Bool, true, false, not, ◌&&◌, ◌||◌}
use lib.ListN.{replicate}
use Rattle.table.specs.Format.{table_of}
use Rattle.schedule.specs.declared.Worker.{Worker}
use Rattle.schedule.specs.Links.{no_thread, Links}
use Rattle.schedule.specs.Actives.{no_links, filled_from}
use Rattle.soundness.specs.Tested.{parents_if, sound_on, blank_on}
use Rattle.run_memory.specs.Memory.{Memory, Answer}
use Rattle.run_memory.specs.Blocks.{bytes_in, words_in, numbers_in, sums_in, Words, gathered, memory_of}
use Rattle.run_memory.specs.Places.{head_at, setting_at, total_at, headed, laid_row}
use Rattle.run_memory.specs.Stands.{truths, workers_from}
use Rattle.wivakkol.specs.Opened.{sound_in, blank_in, lent_open}
use denote.Enum.Bare.{sameb}
use Rattle.wivakkol.specs.contracts.standing.Standing.{the_type}
use Rattle.wivakkol.specs.declared.standing.Standing.{Standing}
use Rattle.wivakkol.specs.declared.standing.Standing.TheVariants.{Sound as sound_record, Blank, Neither}
use Rattle.wivakkol.specs.Code.Standing.{standing_of, standing, is_sound}
use Rattle.wivakkol.proofs.Opens.{tests_standing, none_seen, opens_sound, opens_blank, opens_refused}
use Rattle.wivakkol_marks.specs.LentMarks.{fit_in}
use Rattle.wivakkol_marks.specs.Code.LaidOut.{LaidOut}

-- the numbers that are handed to the test
pub record ReadOff (bytes words numbers sums : List ℕ) (p K head : ℕ) (ws : List Worker) (set amount peak count : ℕ) : Type 0 where
  pub workers : p ≡ min (setting_at 0 (numbers_in numbers)) 17
  pub quota : K ≡ setting_at 1 (numbers_in numbers)
  pub leftmost : head ≡ head_at 0 (words_in words)
  pub records : ws ≡ workers_from (bytes_in bytes).holds (words_in words).threads (numbers_in numbers).quotas 0 16
  pub busy : set ≡ head_at 2 (words_in words)
  pub held : amount ≡ total_at 0 (sums_in sums)
  pub highest : peak ≡ total_at 1 (sums_in sums)
  pub turns : count ≡ total_at 2 (sums_in sums)

module _ (s : List ℕ) {bytes words numbers sums next status amounts left right : List ℕ} (l : LaidOut bytes words sums next status amounts left right)
    {p K head : ℕ} {ws : List Worker} {set amount peak count : ℕ} (o : ReadOff bytes words numbers sums p K head ws set amount peak count) where
  abbrev M : Memory
  M = memory_of bytes words numbers sums

  links_laid : ◌≡◌ {A = Links} (record { left = left; right = right; head = head }) (record { left = (words_in words).rows 2; right = (words_in words).rows 3; head = head_at 0 (words_in words) })
  links_laid = λ i. record { left = l.left i; right = l.right i; head = o.leftmost i }

  pub standing_read : {n : Standing} {t : Bool}
      → n ≡ standing_of (t && sound_on s p K next status amounts (record { left = left; right = right; head = head }) ws set amount peak count)
      (blank_on p K next status amounts (record { left = left; right = right; head = head }) ws set amount peak count)
      → t ≡ truths (bytes_in bytes).holds → n ≡ standing s M
  standing_read {n} {t} e f =
      tests_standing s M o.workers o.records f
      (e
      ∙ (λ i. standing_of (t && sound_on s p (o.quota i) (l.next i) (l.status i) (l.amount i) (links_laid i) ws (o.busy i) (o.held i) (o.highest i) (o.turns i))
      (blank_on p (o.quota i) (l.next i) (l.status i) (l.amount i) (links_laid i) ws (o.busy i) (o.held i) (o.highest i) (o.turns i))))

pub fit_found : (s : List ℕ) (M : Memory) {n : Standing} → n ≡ standing s M → not (sameb the_type n Neither) ≡ fit_in s M
unfolding standing fit_in
fit_found s M e = rw e (go (sound_in s M) (blank_in M))
  where
    go : (a b : Bool) → not (sameb the_type (standing_of a b) Neither) ≡ (a || b)
    go true b = refl
    go false true = refl
    go false false = refl

-- ---- what is filled

module _ (W : Words) (parents under over : List ℕ) (first : ℕ) where
  pub laid_beside : {A B C D : Words} → A ≡ laid_row 0 parents W → B ≡ laid_row 4 under A → C ≡ laid_row 5 over B → D ≡ headed 1 first C
      → D ≡ headed 1 first (laid_row 5 over (laid_row 4 under (laid_row 0 parents W)))
  laid_beside a b c d =
      d ∙ ap (λ (X : Words). headed 1 first X) (c ∙ ap (λ (X : Words). laid_row 5 over X) (b ∙ ap (λ (X : Words). laid_row 4 under X) a))

module _ (s bytes words numbers sums : List ℕ) {n : Standing} (e : n ≡ standing s (memory_of bytes words numbers sums)) where
  abbrev opened : Memory
  opened = (lent_open s (memory_of bytes words numbers sums)).memory

  besides : {X Y : Words} → X ≡ Y → gathered (bytes_in bytes) X (numbers_in numbers) (sums_in sums) ≡ gathered (bytes_in bytes) Y (numbers_in numbers) (sums_in sums)
  besides q = ap (λ (Z : Words). gathered (bytes_in bytes) Z (numbers_in numbers) (sums_in sums)) q

  pub reopens_sound : n ≡ sound_record → {parents under over : List ℕ} {first : ℕ} {X : Words}
      → X ≡ headed 1 first (laid_row 5 over (laid_row 4 under (laid_row 0 parents (words_in words)))) → parents ≡ parents_if (is_sound n) (table_of s)
      → {next status amounts left right : List ℕ} → LaidOut bytes words sums next status amounts left right → {head : ℕ} → head ≡ head_at 0 (words_in words)
      → ◌≡◌ {A = Links} (record { left = under; right = over; head = first }) (filled_from 1024 status right head no_thread no_links)
      → gathered (bytes_in bytes) X (numbers_in numbers) (sums_in sums) ≡ opened
  reopens_sound h {parents} {under} {over} {first} q p l d f =
      besides q
      ∙ ap (λ (a : Answer). a.memory)
      (opens_sound s (memory_of bytes words numbers sums) e h p {k = record { left = under; right = over; head = first }}
      (f ∙ (λ i. filled_from 1024 (l.status i) (l.right i) (d i) no_thread no_links)))

  pub reopens_blank : n ≡ Blank → {parents under over : List ℕ} {X : Words}
      → X ≡ headed 1 0 (laid_row 5 over (laid_row 4 under (laid_row 0 parents (words_in words)))) → parents ≡ parents_if (is_sound n) (table_of s)
      → under ≡ replicate 1024 0 → over ≡ replicate 1024 0 → gathered (bytes_in bytes) X (numbers_in numbers) (sums_in sums) ≡ opened
  reopens_blank h q p u o =
      let z = none_seen (table_of s) n p (ap is_sound h) in
      besides (q ∙ (λ i. headed 1 0 (laid_row 5 (o i) (laid_row 4 (u i) (laid_row 0 (z i) (words_in words))))))
      ∙ ap (λ (a : Answer). a.memory) (opens_blank s (memory_of bytes words numbers sums) e h)

  pub reopens_none : n ≡ Neither → memory_of bytes words numbers sums ≡ opened
  reopens_none h = ap (λ (a : Answer). a.memory) (opens_refused s (memory_of bytes words numbers sums) e h)
