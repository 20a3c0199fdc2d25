-- `checks::nest::nesting` meets its contract: where the second pass finds nothing, the marks that it leaves are the threads forked, so that the threads without one are
-- those of check 11.
use Rattle.std.specs.Prelude.{Ok}
use mathlib.Core.Path.{◌≡◌, sym, ◌∙◌}
use Prim.Native.Nat.{ℕ, pred}
use mathlib.Core.List.{List, [], ◌∷◌}
use mathlib.Core.Bool.{Bool, false}
use native.Mathlib.Omega.{arith}
use lib.ListN.{get_or}
use Rattle.table.specs.Format.{table_of}
use Rattle.table.specs.Pass.{try_from, try_pass, or_else}
use Rattle.table.specs.Checks.{forked_below, never_forked, second_pass, forked_pass}
use Rattle.table.specs.Code.Steps.{Formed}
use Rattle.checks.specs.Code.Steps.{unmarked}
use Rattle.table.proofs.Sizes.{sizes}
use Rattle.std.proofs.lemmas.Result.{err_from_is_err_and}
use Rattle.checks.proofs.nest.nesting.Goals as goal

forked_found : (s : List ℕ) (n m : ℕ) → Formed s n m → (forked : List Bool) → ((t : ℕ) → get_or forked t false ≡ forked_below (table_of s) m t)
    → try_from (unmarked forked ∷ []) 1 (pred n) ≡ try_pass (forked_pass (table_of s))
unfolding table_of try_pass never_forked
forked_found s n m h forked w = simp (w, h.laid.headed.threads, h.laid.headed.actions)

module _ (s : List ℕ) where
  passed : (n m : ℕ) → Formed s n m → (forked : List Bool) → try_pass (second_pass (table_of s)) ≡ Ok tt
      → ((t : ℕ) → get_or forked t false ≡ forked_below (table_of s) m t)
      → try_from (unmarked forked ∷ []) 1 (pred n) ≡ or_else (try_pass (second_pass (table_of s))) (try_pass (forked_pass (table_of s)))
  passed n m h forked e w = rw e (forked_found s n m h forked w)

pub returns-in_err-second_pass : goal.returns-in_err-second_pass
returns-in_err-second_pass c =
    let p = err_from_is_err_and c.from_residual.result c.from_residual.ensures.1 in
    let e = sym c.second_pass.ensures.value ∙ c.in_err-second_pass.was in
    rw (p.1, p.2, e)

pub never_forked-requires : goal.never_forked-requires
never_forked-requires c = omega (arith, sizes c.requires.laid.headed)

pub returns : goal.returns
returns c =
    let e = c.in_ok-second_pass.was in
    c.never_forked.ensures
    ∙ passed c.args.table.now _ _ c.requires
    c.second_pass.new.forked (sym c.second_pass.ensures.value ∙ e) (c.second_pass.ensures.false_after e)
