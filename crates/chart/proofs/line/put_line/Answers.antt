-- `chart::line::put_line` meets its contract: the texts of a line in their order.
use mathlib.Core.List.{[], ◌∷◌, ◌++◌}
use Rattle.text.specs.Text.{newline, buffer_at}
use Rattle.chart.specs.Chart.{cells_from, right_texts, cells_texts, line_texts}
use Rattle.chart.proofs.Putting.{put_more}
use Rattle.chart.proofs.line.put_line.Goals as goal

pub returns : goal.returns
unfolding line_texts
returns c =
    let a = c.args in
    let last = right_texts 14 a.held in
    let cells = cells_texts (cells_from a.p 0 a.workers) in
    put_more (buffer_at a.out.now a.at) (right_texts 6 a.turns) (cells ++ (last ++ (newline ∷ []))) c.put_right-at.ensures
    (put_more _ cells (last ++ (newline ∷ [])) c.put_cells-at.ensures (put_more _ last (newline ∷ []) c.put_right-at-2.ensures c.put_word.ensures))
