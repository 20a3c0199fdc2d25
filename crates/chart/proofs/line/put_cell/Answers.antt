-- `chart::line::put_cell` meets its contract: blank from worker p on, else the thread or a full stop.
use mathlib.Core.Path.{◌≡◌}
use Prim.Native.Nat.{ℕ, ◌≤◌, ◌<◌}
use mathlib.Core.List.{[], ◌∷◌}
use mathlib.Core.Bool.{true, false}
use borrow.Author.Tests.{lt-ltb, le-ltb}
use Rattle.schedule.specs.declared.Worker.{Worker}
use Rattle.chart.specs.Chart.{cell_of, right_texts, none_word, absent_word, cell_texts}
use Rattle.chart.proofs.line.put_cell.Goals as goal

module _ (p w : ℕ) (x : Worker) where
  no_worker_lem : p ≤ w → cell_texts (cell_of p w x) ≡ absent_word ∷ []
  unfolding cell_texts
  no_worker_lem h = rw (le-ltb w p h)

  holding : w < p → x.holds ≡ true → cell_texts (cell_of p w x) ≡ right_texts 4 x.thread
  unfolding cell_texts
  holding h e = rw (lt-ltb w p h, e)

  free : w < p → x.holds ≡ false → cell_texts (cell_of p w x) ≡ none_word ∷ []
  unfolding cell_texts
  free h e = rw (lt-ltb w p h, e)

pub returns-then-p-w : goal.returns-then-p-w
returns-then-p-w c =
    let a = c.args in
    rw (no_worker_lem a.p a.w a.worker c.if-p-w.true) c.put_word.ensures

pub returns-then-worker : goal.returns-then-worker
returns-then-worker c =
    let a = c.args in
    rw (holding a.p a.w a.worker c.if-p-w.false c.if-worker.true) c.put_right.ensures

pub returns-else-worker : goal.returns-else-worker
returns-else-worker c =
    let a = c.args in
    rw (free a.p a.w a.worker c.if-p-w.false c.if-worker.false) c.put_word-else-worker.ensures
