-- `wivakkol_turn::actions::wivakkol_kind` meets its contract.
use mathlib.Core.Path.{◌∙◌}
use Rattle.table.specs.Format.{table_of}
use Rattle.table.proofs.Parts.{code_from}
use Rattle.wivakkol_turn.specs.Actions.{kind_code}
use Rattle.wivakkol_turn.proofs.Numbered.{no_action_lem, an_action, threads_read}
use Rattle.wivakkol_turn.proofs.actions.wivakkol_kind.Goals as goal

pub returns-then-actions-a : goal.returns-then-actions-a
unfolding kind_code
returns-then-actions-a c =
    let d = c.args in
    no_action_lem d.table.now d.a c.actions.ensures c.if-actions-a.true ((table_of d.table.now).code d.a) 255

pub returns : goal.returns
unfolding kind_code
returns c =
    let d = c.args in
    let s = d.table.now in
    c.code.ensures
    ∙ code_from s _ (threads_read s c.threads.ensures) d.a
    ∙ an_action s d.a c.actions.ensures c.if-actions-a.false ((table_of s).code d.a) 255
