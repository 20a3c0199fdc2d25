-- `chart::line::put_cells` meets its contract. The invariant: whoever puts the cells from worker w on puts all of them.
use Prim.Native.Nat.{ℕ, ◌-◌, ◌≤◌}
use mathlib.Core.Path.{◌≡◌}
use mathlib.Core.List.{List}
use lib.ListN.{length, drop}
use Rattle.text.specs.Text.{buffer_at}
use Rattle.text.specs.Puts.{put_all}
use Rattle.schedule.specs.declared.Worker.{Worker}
use Rattle.chart.specs.Chart.{cells_from, cells_texts}
use Rattle.chart.proofs.line.put_cells.Given as goal

-- the cells of workers from w on
abbrev pub cells_after : ℕ → List Worker → ℕ → List (List ℕ)
cells_after p workers w = cells_texts (cells_from p w (drop w workers))

pub record Inv (p : ℕ) (workers : List Worker) (out₀ : List ℕ) (at₀ : ℕ) (out : List ℕ) (at w : ℕ) : Type 0 where
  pub within : w ≤ 16
  pub long : length out ≡ length out₀
  pub rest : put_all (buffer_at out at) (cells_after p workers w) ≡ put_all (buffer_at out₀ at₀) (cells_texts (cells_from p 0 workers))

abbrev pub invariant-loop-w : goal.invariant-loop-w
invariant-loop-w l = Inv l.p l.worker-items l.initial.out l.initial.at l.out l.at l.w
