-- Lines worked out: the blank record's, and one with a thread that fills its cell, a worker with none and no worker.
use Rattle.std.specs.Prelude.{◌≡◌, refl}
use mathlib.Core.List.{[], ◌∷◌, flatten}
use Rattle.text.specs.Text.{ascii, decimal, digits_of}
use Rattle.schedule.specs.Record.{blank}
use Rattle.chart.specs.Chart.{thread, none, absent, cells_from, right_texts, cell_texts, cells_texts, line_texts, line_text, line_of, read_back, cells_in, cell_in, number_from}
use Rattle.chart.specs.Chart.{figures}

touching : line_text (record { turns = 999999; cells = thread 1023 ∷ none ∷ absent ∷ []; held = 12 }) ≡ ascii "9999991023   .                12\n"
unfolding line_texts cells_texts cell_texts right_texts flatten decimal digits_of
touching = refl

-- the blank record shows 0, sixteen blank cells and 0
blank_read : read_back (line_of blank) ≡ figures blank
unfolding blank cells_from line_texts cells_texts cell_texts right_texts flatten decimal digits_of read_back cells_in cell_in number_from
blank_read = refl
