-- A record's rows, heads and sums, written into the blocks one after the other.
use Rattle.std.specs.Prelude.{ℕ, List}
use Rattle.schedule.specs.declared.Run.{Run}
use Rattle.schedule.specs.Links.{Links}
use Rattle.run_memory.specs.Blocks.{Words, Sums}
use Rattle.run_memory.specs.Places.{headed, totalled, laid_row, amounts_are}
use Rattle.run_memory.specs.Packing.{second_for}

abbrev pub rows_laid : Run → List ℕ → Links → Words → Words
rows_laid run parents second W =
    headed 2 run.busy (headed 1 second.head (headed 0 run.leftmost
    (laid_row 5 second.right (laid_row 4 second.left (laid_row 3 run.right (laid_row 2 run.left (laid_row 1 run.next (laid_row 0 parents W))))))))

abbrev pub laid_words : Run → List ℕ → Words → Words
laid_words run parents W = rows_laid run parents (second_for run) W

abbrev pub laid_sums : Run → Sums → Sums
laid_sums run S = totalled 2 run.turns (totalled 1 run.highest (totalled 0 run.held (amounts_are run.amounts S)))
