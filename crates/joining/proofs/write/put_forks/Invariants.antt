-- `joining::write::put_forks` meets its contract. The invariant is OverParts'.
use Rattle.joining.specs.Answers.{parts_of}
use Rattle.joining.specs.Code.Rows.{starts_over, fork_rows, threads_over}
use Rattle.joining.proofs.OverParts.{Inv}
use Rattle.joining.proofs.write.put_forks.Given as goal

abbrev pub invariant-loop-i : goal.invariant-loop-i
invariant-loop-i l = Inv (λ o ps. fork_rows (starts_over o ps)) threads_over l.initial.out l.initial.at 1 (parts_of l.lengths l.tables) l.out l.at l.root l.i
