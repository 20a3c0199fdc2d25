-- `assembly::assemble_in` meets its contract: the answer of the working part, and cleared working memory.
use mathlib.Core.Path.{refl}
use Rattle.assembly.proofs.assemble_in.Goals as goal

pub returns : goal.returns
returns c = record { value = c.assemble_on-answer.ensures.value; out_after = c.assemble_on-answer.ensures.out_after; rises_after = (refl, refl, refl, refl) }
