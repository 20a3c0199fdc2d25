-- `soundness::accept_in` meets its contract: nothing is written where a check applies or the room is too little; else the two arrays are of the table as given where nothing is above the
-- quota, and of the filled-out table at the start of the buffer where something is. The checks leave the working memory cleared.
use mathlib.Core.Path.{refl, sym, ap, subst, ◌∙◌}
use Prim.Native.Nat.{ℕ}
use mathlib.Core.List.{List}
use mathlib.Core.Bool.{true}
use lib.Seq.{length-take-le}
use Rattle.table.specs.Format.{table_of}
use Rattle.table.specs.Rules.{Rules}
use Rattle.soundness.specs.Tested.{parents_if, next_if}
use Rattle.std.proofs.lemmas.Result.{err_from_is_err_and}
use Rattle.soundness.proofs.Fillings.{answer_refused, answer_accepted, fills_nothing, given_rules, runs, fills_given, fills_none, front_is_lem, front_within, fills_whole}
use Rattle.soundness.proofs.accept_in.Goals as goal

-- the promises one after the other
said : {A B C D E : Type 0} → A → E → B × (C × D) → A × (B × (C × (D × E)))
said e k f = (e, (f.0, (f.1.0, (f.1.1, k))))

pub returns-in_err-k : goal.returns-in_err-k
returns-in_err-k c =
    let a = c.args in
    let p = err_from_is_err_and c.from_residual.result c.from_residual.ensures.1 in
    let e = sym c.in_err-k.was ∙ c.begin_fault.ensures.value in
    let f = fills_nothing a.table.now a.p a.quota a.filled.now _ refl _ (answer_refused a.table.now a.p a.quota e) in
    record { value = rw (p.1, p.2) e; filled_after = f.0; next_after = f.1.0; parents_after = f.1.1; rises_after = c.begin_fault.ensures.rises_after }

pub fill_start-requires : goal.fill_start-requires
fill_start-requires c = let a = c.args in record { rules = given_rules a.table.now a.p a.quota a.filled.now _ (answer_accepted a.table.now a.p a.quota (sym c.in_ok-k.was ∙ c.begin_fault.ensures.value)) refl; next_value = (refl, refl) }

pub returns-then-k-eq0 : goal.returns-then-k-eq0
returns-then-k-eq0 c = let a = c.args in
    let v = sym c.in_ok-k.was ∙ c.begin_fault.ensures.value in
    let e = answer_accepted a.table.now a.p a.quota v in
    let both = said (rw c.if-k-eq0.true at v) c.begin_fault.ensures.rises_after
    (fills_given a.table.now a.p a.quota a.filled.now _ e refl c.if-k-eq0.true _ _ c.fill_start.ensures.next_after c.fill_start.ensures.parents_after) in record { value = both.0; filled_after = both.1.0; next_after = both.1.1.0; parents_after = both.1.1.1.0; rises_after = both.1.1.1.1 }

pub returns-then-filled-k : goal.returns-then-filled-k
returns-then-filled-k c = let a = c.args in
    let v = sym c.in_ok-k.was ∙ c.begin_fault.ensures.value in
    let e = answer_accepted a.table.now a.p a.quota v in
    let both = said v c.begin_fault.ensures.rises_after (fills_none a.table.now a.p a.quota a.filled.now _ e refl c.if-k-eq0.false c.if-filled-k.true) in record { value = both.0; filled_after = both.1.0; next_after = both.1.1.0; parents_after = both.1.1.1.0; rises_after = both.1.1.1.1 }

pub slice_bounds-fill_start-end : goal.slice_bounds-fill_start-end
slice_bounds-fill_start-end c =
    let a = c.args in
    front_within a.table.now a.p a.quota a.filled.now _ (answer_accepted a.table.now a.p a.quota (sym c.in_ok-k.was ∙ c.begin_fault.ensures.value)) refl c.if-k-eq0.false c.if-filled-k.false _ c.fill_in.ensures.out_after

pub slice_bounds-fill_start-end-2 : goal.slice_bounds-fill_start-end-2
slice_bounds-fill_start-end-2 c =
    let a = c.args in
    sym
    (length-take-le _ _
    (front_within a.table.now a.p a.quota a.filled.now _ (answer_accepted a.table.now a.p a.quota (sym c.in_ok-k.was ∙ c.begin_fault.ensures.value)) refl c.if-k-eq0.false c.if-filled-k.false _ c.fill_in.ensures.out_after))

pub fill_start-requires-2 : goal.fill_start-requires-2
fill_start-requires-2 c = let a = c.args in
    let e = (answer_accepted a.table.now a.p a.quota (sym c.in_ok-k.was ∙ c.begin_fault.ensures.value)) in record {
      rules = subst Rules
          (sym (front_is_lem a.table.now a.p a.quota a.filled.now _ e refl c.if-k-eq0.false c.if-filled-k.false _ c.fill_in.ensures.out_after))
          (runs a.table.now a.p a.quota a.filled.now _ e refl).rules;
      next_value = (refl, refl);
    }

pub returns : goal.returns
returns c = let a = c.args in
    let e = (answer_accepted a.table.now a.p a.quota (sym c.in_ok-k.was ∙ c.begin_fault.ensures.value)) in
    let there = front_is_lem a.table.now a.p a.quota a.filled.now _ e refl c.if-k-eq0.false c.if-filled-k.false _ c.fill_in.ensures.out_after in let both = said (sym c.in_ok-k.was ∙ c.begin_fault.ensures.value) c.fill_in.ensures.rises_after
    (fills_whole a.table.now a.p a.quota a.filled.now _ e refl c.if-k-eq0.false c.if-filled-k.false _ _ _ c.fill_in.ensures.out_after
    (c.fill_start-2.ensures.next_after ∙ ap (λ (l : List ℕ). next_if true (table_of l)) there)
    (c.fill_start-2.ensures.parents_after ∙ ap (λ (l : List ℕ). parents_if true (table_of l)) there)) in record { value = both.0; filled_after = both.1.0; next_after = both.1.1.0; parents_after = both.1.1.1.0; rises_after = both.1.1.1.1 }
