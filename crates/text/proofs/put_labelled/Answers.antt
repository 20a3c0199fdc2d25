-- `text::put_labelled` meets its contract: the number goes where the word left off.
use mathlib.Core.Path.{ap, ◌∙◌}
use Rattle.text.specs.Text.{Buffer, placed_next, decimal}
use Rattle.text.proofs.put_labelled.Goals as goal

pub returns : goal.returns
returns c =
    let a = c.args in
    c.put_number.ensures ∙ ap (λ (b : Buffer). placed_next b (decimal a.n)) c.put_word-after.ensures
