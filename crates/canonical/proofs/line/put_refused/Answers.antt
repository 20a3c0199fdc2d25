-- `canonical::line::put_refused` meets its contract: the refusal's texts.
use native.Mathlib.Omega.{arith}
use Rattle.text.specs.Text.{ascii}
use Rattle.text.proofs.Told.{refused_told}
use Rattle.canonical.specs.Lines.{compared_line}
use Rattle.canonical.proofs.line.put_refused.Goals as goal

pub returns : goal.returns
unfolding compared_line
returns c = let d = c.args in let both = refused_told d.out.now (omega arith) _ (omega arith) (omega arith) (ascii " table ") (omega arith) _ (omega arith) _ _ c.put_refused_of.ensures in record { value = both.0; out_after = both.1 }
