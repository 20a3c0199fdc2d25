-- The copies of a record's numbers, one after the other, lay its memory.
use mathlib.Core.Path.{◌≡◌, ap, ◌∙◌}
use Prim.Native.Nat.{ℕ}
use mathlib.Core.List.{List}
use Rattle.schedule.specs.declared.Run.{Run}
use Rattle.schedule.specs.Links.{Links}
use Rattle.array_machine.specs.Arrays.{links}
use Rattle.run_memory.specs.Blocks.{Bytes, Words, Numbers, Sums, gathered}
use Rattle.run_memory.specs.Places.{headed, set_to, totalled, laid_row, statuses, amounts_are, worker_bytes, worker_words, worker_numbers}
use Rattle.run_memory.specs.Packing.{second_for, memory_for}
use Rattle.run_memory.specs.Code.Laid.{rows_laid, laid_words, laid_sums}

module _ (run : Run) where
  -- six rows, then three heads
  pub words_laid : (parents : List ℕ) {under over : List ℕ} {first : ℕ} (W₀ : Words) {W₁ W₂ W₃ W₄ W₅ W₆ W₇ W₈ W₉ : Words} → links under over first ≡ second_for run
      → W₁ ≡ laid_row 0 parents W₀ → W₂ ≡ laid_row 1 run.next W₁ → W₃ ≡ laid_row 2 run.left W₂ → W₄ ≡ laid_row 3 run.right W₃ → W₅ ≡ laid_row 4 under W₄ → W₆ ≡ laid_row 5 over W₅
      → W₇ ≡ headed 0 run.leftmost W₆ → W₈ ≡ headed 1 first W₇ → W₉ ≡ headed 2 run.busy W₈
      → W₉ ≡ laid_words run parents W₀
  words_laid parents W₀ second a b c d e f g h k = rw (k, h, g, f, e, d, c, b, a) (ap (λ (l : Links). rows_laid run parents l W₀) second)

  -- the amounts, then three totals
  pub sums_laid : (S₀ : Sums) {S₁ S₂ S₃ S₄ : Sums} → S₁ ≡ amounts_are run.amounts S₀ → S₂ ≡ totalled 0 run.held S₁ → S₃ ≡ totalled 1 run.highest S₂
      → S₄ ≡ totalled 2 run.turns S₃ → S₄ ≡ laid_sums run S₀
  sums_laid S₀ a b c d = rw (d, c, b, a)

  bytes_laid : (B₀ : Bytes) {B₁ B₂ : Bytes} → B₁ ≡ statuses run.status B₀ → B₂ ≡ worker_bytes run.worker B₁ → B₂ ≡ worker_bytes run.worker (statuses run.status B₀)
  bytes_laid B₀ a b = rw (b, a)

  numbers_laid : (N₀ : Numbers) {N₁ N₂ N₃ : Numbers} → N₁ ≡ set_to 0 run.workers N₀ → N₂ ≡ set_to 1 run.quota N₁ → N₃ ≡ worker_numbers run.worker N₂
      → N₃ ≡ worker_numbers run.worker (set_to 1 run.quota (set_to 0 run.workers N₀))
  numbers_laid N₀ a b c = rw (c, b, a)

  pub memory_laid : (parents : List ℕ) (B₀ : Bytes) {B₁ B₂ : Bytes} (W₀ : Words) {W₁ W₂ : Words} (N₀ : Numbers) {N₁ N₂ N₃ : Numbers} (S₀ : Sums) {S₁ : Sums}
      → W₁ ≡ laid_words run parents W₀ → S₁ ≡ laid_sums run S₀ → B₁ ≡ statuses run.status B₀ → N₁ ≡ set_to 0 run.workers N₀ → N₂ ≡ set_to 1 run.quota N₁
      → B₂ ≡ worker_bytes run.worker B₁ → W₂ ≡ worker_words run.worker W₁ → N₃ ≡ worker_numbers run.worker N₂
      → gathered B₂ W₂ N₃ S₁ ≡ memory_for run parents
  memory_laid parents B₀ W₀ N₀ S₀ w s b m n b' w' n' =
      let eb = bytes_laid B₀ b b' in
      let ew = w' ∙ ap (λ (W : Words). worker_words run.worker W) w in
      let en = numbers_laid N₀ m n n' in
      λ i. gathered (eb i) (ew i) (en i) (s i)
