-- `stealing::bottoms::bottom_at` meets its contract. The invariant: the bottom at the place is the one as many places on from here as are left.
use Rattle.run_memory.specs.Blocks.{words_in}
use Rattle.stealing.proofs.Along.{Passed}
use Rattle.stealing.proofs.bottoms.bottom_at.Given as goal

abbrev pub invariant-loop-i : goal.invariant-loop-i
invariant-loop-i l = Passed ((words_in l.words).rows 5) (words_in l.words).first l.c l.b l.i
