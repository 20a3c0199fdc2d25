-- `most::counts::turns_at` meets its contract.
use mathlib.Core.Path.{ap, ◌∙◌}
use native.Mathlib.Omega.{arith}
use Rattle.table.specs.Format.{kind_of, table_of}
use Rattle.table.proofs.Parts.{code_from}
use Rattle.most.proofs.TurnCounts.{at_alloc, at_join, at_other}
use Rattle.most.proofs.counts.turns_at.Goals as goal

pub returns-in-Alloc : goal.returns-in-Alloc
returns-in-Alloc c =
    let e = c.kind.ensures ∙ ap kind_of (code_from c.args.table.now _ c.requires c.args.a) in
    record { value = at_alloc (table_of c.args.table.now) _ _ e c.in-Alloc.is; small = omega arith }

pub returns-in-Join : goal.returns-in-Join
returns-in-Join c =
    let e = c.kind.ensures ∙ ap kind_of (code_from c.args.table.now _ c.requires c.args.a) in
    record { value = at_join (table_of c.args.table.now) _ _ e c.in-Join.is; small = omega arith }

pub returns-in_default : goal.returns-in_default
returns-in_default c =
    let e = c.kind.ensures ∙ ap kind_of (code_from c.args.table.now _ c.requires c.args.a) in
    record { value = at_other (table_of c.args.table.now) _ _ e c.in_default.not-Alloc c.in_default.not-Join; small = omega arith }
