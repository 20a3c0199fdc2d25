-- `assembly::assemble` meets its contract: its buffer has room for every table.
use native.Mathlib.Omega.{arith}
use Rattle.assembly.proofs.Rooms.{answered_whole, never_short}
use borrow.Author.Rules.{rules}
use Rattle.assembly.proofs.assemble.Goals as goal

pub returns-in-Ok : goal.returns-in-Ok
returns-in-Ok c = let both = answered_whole _ _ (search rules) _ _ _ c.in-Ok.is c.assemble_on-answer.ensures.value c.assemble_on-answer.ensures.out_after in record { value = both.0; out_after = both.1 }

pub returns-in-Err : goal.returns-in-Err
returns-in-Err c = let a = c.args in absurd (let z = never_short a.text.now a.out.now (search rules) _ _ c.in-Err.is c.assemble_on-answer.ensures.value in omega (arith, z))
