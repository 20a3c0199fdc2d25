-- `deque_limit::limit::choice_answer` meets its contract: 49 where c is out of its range; else the checks of a beginning, and the numbers of the table as given or of the filled-out one at the start of
-- the buffer.
use Rattle.std.specs.Prelude.{Err}
use mathlib.Core.Path.{refl, sym, ap, ◌∙◌}
use Rattle.std.proofs.lemmas.Result.{err_from_is_err_and}
use lib.Seq.{length-take-le}
use Rattle.soundness.proofs.Fillings.{answer_refused, answer_accepted, given_rules, front_within}
use Rattle.deque_limit.proofs.ChoiceAnswers.{answer_wide, answer_found, asked, answer_given, answer_none, front_rules, answer_filled}
use borrow.Author.Rules.{rules}
use Rattle.deque_limit.proofs.limit.choice_answer.Goals as goal

pub returns-then-outside : goal.returns-then-outside
returns-then-outside c = let a = c.args in let both = answer_wide a.table.now a.p a.quota a.c a.filled.now (sym c.outside.ensures ∙ c.if-outside.true) c.wide_fault.ensures.value in record { value = both.0; filled_after = both.1 }

pub returns-in_err-k : goal.returns-in_err-k
returns-in_err-k c =
    let a = c.args in
    let (y, e, q) = err_from_is_err_and _ c.from_residual.ensures.1 in
    let d = answer_refused a.table.now a.p a.quota (sym c.in_err-k.was ∙ c.begin_fault.ensures.value) in
    let both = answer_found a.table.now a.p a.quota a.c a.filled.now (sym c.outside.ensures ∙ c.if-outside.false) _ refl d in
    record { value = e ∙ (ap Err q ∙ both.0); filled_after = both.1 }

pub numbers_for-requires : goal.numbers_for-requires
numbers_for-requires c =
    let a = c.args in
    let e = answer_accepted a.table.now a.p a.quota (sym c.in_ok-k.was ∙ c.begin_fault.ensures.value) in
    (given_rules a.table.now a.p a.quota a.filled.now _ e refl, asked a.table.now a.p a.quota a.c a.filled.now (sym c.outside.ensures ∙ c.if-outside.false) _ e refl)

pub returns-then-k-eq0 : goal.returns-then-k-eq0
returns-then-k-eq0 c = let a = c.args in
    let e = answer_accepted a.table.now a.p a.quota (sym c.in_ok-k.was ∙ c.begin_fault.ensures.value) in
    let both = answer_given a.table.now a.p a.quota a.c a.filled.now (sym c.outside.ensures ∙ c.if-outside.false) _ e refl c.if-k-eq0.true c.numbers_for.ensures in record { value = both.0; filled_after = both.1 }

pub returns-then-filled-k : goal.returns-then-filled-k
returns-then-filled-k c = let a = c.args in
    let e = answer_accepted a.table.now a.p a.quota (sym c.in_ok-k.was ∙ c.begin_fault.ensures.value) in
    let both = answer_none a.table.now a.p a.quota a.c a.filled.now (sym c.outside.ensures ∙ c.if-outside.false) _ e refl c.if-k-eq0.false c.if-filled-k.true in record { value = ap Err c.new.ensures ∙ both.0; filled_after = both.1 }

pub slice_bounds-numbers_for-end : goal.slice_bounds-numbers_for-end
slice_bounds-numbers_for-end c =
    let a = c.args in
    let e = answer_accepted a.table.now a.p a.quota (sym c.in_ok-k.was ∙ c.begin_fault.ensures.value) in
    front_within a.table.now a.p a.quota a.filled.now _ e refl c.if-k-eq0.false c.if-filled-k.false _ c.fill_in.ensures.out_after

pub slice_bounds-numbers_for-end-2 : goal.slice_bounds-numbers_for-end-2
slice_bounds-numbers_for-end-2 c =
    let a = c.args in
    let e = answer_accepted a.table.now a.p a.quota (sym c.in_ok-k.was ∙ c.begin_fault.ensures.value) in
    sym (length-take-le _ _ (front_within a.table.now a.p a.quota a.filled.now _ e refl c.if-k-eq0.false c.if-filled-k.false _ c.fill_in.ensures.out_after))

pub numbers_for-requires-2 : goal.numbers_for-requires-2
numbers_for-requires-2 c =
    let a = c.args in
    let e = answer_accepted a.table.now a.p a.quota (sym c.in_ok-k.was ∙ c.begin_fault.ensures.value) in
    (front_rules a.table.now a.p a.quota a.c a.filled.now (sym c.outside.ensures ∙ c.if-outside.false) _ e refl c.if-k-eq0.false c.if-filled-k.false c.fill_in.ensures.out_after, asked a.table.now a.p a.quota a.c a.filled.now (sym c.outside.ensures ∙ c.if-outside.false) _ e refl)

pub returns : goal.returns
returns c = let a = c.args in
    let e = answer_accepted a.table.now a.p a.quota (sym c.in_ok-k.was ∙ c.begin_fault.ensures.value) in
    let both = answer_filled a.table.now a.p a.quota a.c a.filled.now (sym c.outside.ensures ∙ c.if-outside.false) _ e refl c.if-k-eq0.false c.if-filled-k.false c.fill_in.ensures.out_after c.numbers_for-2.ensures in record { value = both.0; filled_after = both.1 }
