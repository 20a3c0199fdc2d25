-- `text::put_number` meets its contract: what `io::decimal` spells is the number in decimal.
use mathlib.Core.Path.{ap, ◌∙◌}
use Rattle.text.specs.Text.{placed}
use Rattle.text.proofs.Decimal.{decimal_spelled}
use Rattle.text.proofs.put_number.Goals as goal

pub returns : goal.returns
returns c =
    let d = c.decimal-k.ensures in
    let a = c.args in
    c.put_word.ensures ∙ ap (placed a.out.now a.at) (d.digits ∙ decimal_spelled _ a.n d.len)
