-- `peak_walk::answer` meets its contract: the table's own checks, then the load's.
use Rattle.std.specs.Prelude.{Ok, Err}
use Rattle.std.proofs.Common.{◌≡◌, sym, ap, ◌∙◌, rules}
use Rattle.std.proofs.lemmas.Result.{err_from_is_err_and}
use Rattle.table.specs.Pass.{first_found}
use Rattle.table.specs.Checks.{passes}
use Rattle.peak_walk.proofs.Answers.{refused, too_high, given, accepted, right_start}
use Rattle.peak_walk.proofs.answer.Goals.{In_ok-check_in}
use Rattle.peak_walk.proofs.answer.Goals as goal

-- the table keeps the rules
silent : (c : In_ok-check_in) → first_found (passes c.args.table.now) ≡ Ok tt
silent c = sym c.check_in.ensures.value ∙ c.in_ok-check_in.was

pub returns-in_err-check_in : goal.returns-in_err-check_in
returns-in_err-check_in c =
    let (y, e, q) = err_from_is_err_and _ c.from_residual.ensures.1 in
    e ∙ (ap Err q ∙ refused _ _ _ (sym c.check_in.ensures.value ∙ c.in_err-check_in.was))

pub returns-then-load-gt16 : goal.returns-then-load-gt16
returns-then-load-gt16 c = ap Err c.new.ensures ∙ too_high _ _ _ (silent (goal.at.returns-then-load-gt16 c).In_ok-check_in) c.if-load-gt16.true

pub peak_of-requires : goal.peak_of-requires
peak_of-requires c = let a = accepted _ _ (silent (goal.at.peak_of-requires c).In_ok-check_in) c.threads-n.ensures.value in record { accepted = (a, c.if-load-gt16.false); right = right_start _ _ a _ }

pub returns : goal.returns
returns c = given _ _ _ (silent (goal.at.returns c).In_ok-check_in) c.if-load-gt16.false c.peak_of.ensures
