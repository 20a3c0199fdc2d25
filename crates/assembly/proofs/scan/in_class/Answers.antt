-- `assembly::scan::in_class` meets its contract, class by class.
use borrow.Author.Tests.{eq-eqb, ne_eqb}
use Rattle.assembly.proofs.scan.in_class.Goals as goal

pub returns-in-Line : goal.returns-in-Line
returns-in-Line c = rw c.in-Line.is

pub returns-in-Plain : goal.returns-in-Plain
returns-in-Plain c = rw c.in-Plain.is

pub returns-then-b-eq32 : goal.returns-then-b-eq32
returns-then-b-eq32 c = rw (c.in-Blank.is, eq-eqb _ _ c.if-b-eq32.true)

pub returns-else-b-eq32 : goal.returns-else-b-eq32
returns-else-b-eq32 c = rw (c.in-Blank.is, ne_eqb _ _ c.if-b-eq32.false)

pub returns-then-b-ne32 : goal.returns-then-b-ne32
returns-then-b-ne32 c = rw (c.in-Word.is, ne_eqb _ _ c.if-b-ne32.true)

pub returns-else-b-ne32 : goal.returns-else-b-ne32
returns-else-b-ne32 c = rw (c.in-Word.is, eq-eqb _ _ c.if-b-ne32.false)

pub returns-in-Shown : goal.returns-in-Shown
returns-in-Shown c = rw c.in-Shown.is
