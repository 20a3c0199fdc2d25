-- `checks::shape` meets its contract: each pass is the next where those before it found nothing.
use Rattle.std.specs.Prelude.{Err, Ok, Result, ⊤}
use mathlib.Core.Path.{◌≡◌, sym, ◌∙◌}
use Prim.Native.Nat.{ℕ}
use mathlib.Core.List.{List}
use Rattle.table.specs.Format.{Table, table_of}
use Rattle.table.specs.Pass.{try_pass, first_found, or_else}
use Rattle.table.specs.Checks.{entries_pass, total_pass, first_pass, second_pass, forked_pass, shape_passes}
use Rattle.table.specs.Code.Steps.{Headed, Laid, Formed}
use Rattle.table.specs.declared.Refusal.{Refusal}
use Rattle.table.proofs.Trying.{or_else_nothing, or_else_assoc, or_else_last}
use Rattle.table.proofs.Passes.{content_rules, body_rules}
use Rattle.std.proofs.lemmas.Result.{err_from_is_err_and}
use Rattle.checks.proofs.shape.Goals as goal

abbrev contents_found : Table → Result ⊤ Refusal
contents_found T = or_else (try_pass (entries_pass T)) (try_pass (total_pass T))

abbrev nesting_found : Table → Result ⊤ Refusal
nesting_found T = or_else (try_pass (second_pass T)) (try_pass (forked_pass T))

-- the passes in three steps, as the code takes them
grouped : (T : Table) → first_found (shape_passes T) ≡ or_else (contents_found T) (or_else (try_pass (first_pass T)) (nesting_found T))
unfolding first_found
grouped T = rw (or_else_last, or_else_assoc)

module _ {s : List ℕ} {n m : ℕ} (h : Headed s n m) where
  in_contents : {r : Refusal} → contents_found (table_of s) ≡ Err r → Err r ≡ first_found (shape_passes (table_of s))
  in_contents e = rw (grouped (table_of s), e)

  module _ (e : contents_found (table_of s) ≡ Ok tt) where
    laid : Laid s n m
    laid = record { headed = h; contents = (content_rules (table_of s)).0 ((or_else_nothing _ _).0 e) }

    in_first : {r : Refusal} → try_pass (first_pass (table_of s)) ≡ Err r → Err r ≡ first_found (shape_passes (table_of s))
    in_first d = rw (grouped (table_of s), e, d)

    module _ (d : try_pass (first_pass (table_of s)) ≡ Ok tt) where
      formed : Formed s n m
      formed = record { laid = laid; bodies = (body_rules (table_of s)).0 d }

      in_nesting : nesting_found (table_of s) ≡ first_found (shape_passes (table_of s))
      in_nesting = rw (grouped (table_of s), e, d)

pub returns-in_err-contents : goal.returns-in_err-contents
returns-in_err-contents c =
    let p = err_from_is_err_and c.from_residual.result c.from_residual.ensures.1 in
    let e = sym c.contents.ensures ∙ c.in_err-contents.was in
    rw (p.1, p.2) (in_contents c.requires e)

pub first_pass-requires : goal.first_pass-requires
first_pass-requires c = laid c.requires (sym c.contents.ensures ∙ c.in_ok-contents.was)

pub returns-in_err-first_pass : goal.returns-in_err-first_pass
returns-in_err-first_pass c =
    let p = err_from_is_err_and c.from_residual-in_err-first_pass.result c.from_residual-in_err-first_pass.ensures.1 in
    rw (p.1, p.2)
    (in_first c.requires (sym c.contents.ensures ∙ c.in_ok-contents.was) (sym c.first_pass.ensures ∙ c.in_err-first_pass.was))

pub nesting-requires : goal.nesting-requires
nesting-requires c =
    formed c.requires (sym c.contents.ensures ∙ c.in_ok-contents.was)
    (sym c.first_pass.ensures ∙ c.in_ok-first_pass.was)

pub returns : goal.returns
returns c =
    c.nesting.ensures
    ∙ in_nesting c.requires (sym c.contents.ensures ∙ c.in_ok-contents.was)
    (sym c.first_pass.ensures ∙ c.in_ok-first_pass.was)
