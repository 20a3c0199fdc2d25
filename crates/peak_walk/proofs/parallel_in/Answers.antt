-- `peak_walk::parallel_in` meets its contract: the table's own checks first.
use Rattle.std.specs.Prelude.{Ok, Err}
use Rattle.std.proofs.Common.{◌≡◌, sym, ap, refl, ◌∙◌}
use Rattle.std.proofs.lemmas.Result.{err_from_is_err_and}
use Rattle.table.specs.Pass.{first_found}
use Rattle.table.specs.Checks.{passes}
use Rattle.peak_walk.proofs.Answers.{parallel_refused, parallel_given, accepted}
use Rattle.peak_walk.proofs.PassedDown.{bests_start}
use Rattle.peak_walk.proofs.parallel_in.Goals.{In_ok-check_in}
use Rattle.peak_walk.proofs.parallel_in.Goals as goal

-- the table keeps the rules
silent : (c : In_ok-check_in) → first_found (passes c.args.table.now) ≡ Ok tt
silent c = sym c.check_in.ensures.value ∙ c.in_ok-check_in.was

pub returns-in_err-check_in : goal.returns-in_err-check_in
returns-in_err-check_in c =
    let (y, e, q) = err_from_is_err_and _ c.from_residual.ensures.1 in
    record { value = e ∙ (ap Err q ∙ parallel_refused _ (sym c.check_in.ensures.value ∙ c.in_err-check_in.was)); rises_after = c.check_in.ensures.rises_after }

pub best_of-peak-requires : goal.best_of-peak-requires
best_of-peak-requires c = let a = accepted _ _ (silent (goal.at.best_of-peak-requires c).In_ok-check_in) c.threads.ensures.value in record { accepted = a; bests = bests_start _ _ a c.check_in.ensures.rises_after.0 c.check_in.ensures.rises_after.1 }

pub returns : goal.returns
returns c = record { value = parallel_given _ (silent (goal.at.returns c).In_ok-check_in) c.best_of-peak.ensures; rises_after = (refl, refl) }
