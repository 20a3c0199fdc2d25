-- `pace::note` meets its contract: 30, or the turn is counted.
use mathlib.Core.Path.{sym, ap, ◌∙◌}
use native.Mathlib.Omega.{arith}
use Rattle.pace.specs.Pace.{paced}
use Rattle.pace.proofs.Steps.{note_30, note_0}
use borrow.Author.Rules.{rules}
use Rattle.pace.proofs.note.Goals as goal

pub returns-then-pace-w : goal.returns-then-pace-w
returns-then-pace-w c = let d = c.args in sym (note_30 d.pace.now d.w (omega arith))

pub returns : goal.returns
returns c =
    let d = c.args in
    ap (paced 0) c.took.ensures ∙ sym (note_0 d.pace.now d.w (omega arith))
