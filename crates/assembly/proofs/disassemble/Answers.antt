-- `assembly::disassemble` meets its contract: its buffer has room for every text.
use native.Mathlib.Omega.{arith}
use Rattle.assembly.proofs.Rooms.{told_whole, text_never_short}
use borrow.Author.Rules.{rules}
use Rattle.assembly.proofs.disassemble.Goals as goal

pub returns-in-Ok : goal.returns-in-Ok
returns-in-Ok c = let both = told_whole _ _ (search rules) _ _ _ c.in-Ok.is c.disassemble_in-answer.ensures.value c.disassemble_in-answer.ensures.out_after in record { value = both.0; out_after = both.1 }

pub returns-in-Err : goal.returns-in-Err
returns-in-Err c = let a = c.args in absurd (let z = text_never_short a.bytes.now a.out.now (search rules) _ _ c.in-Err.is c.disassemble_in-answer.ensures.value in omega (arith, z))
