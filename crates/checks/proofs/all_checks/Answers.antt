-- `checks::all_checks` meets its contract: the head, the passes between and the balances, each the next where the one before found nothing.
use Rattle.std.specs.Prelude.{Err, Ok}
use mathlib.Core.Path.{◌≡◌, sym, ◌∙◌}
use Prim.Native.Nat.{ℕ}
use mathlib.Core.List.{List}
use Rattle.table.specs.Format.{table_of}
use Rattle.table.specs.Pass.{try_pass, first_found}
use Rattle.table.specs.Checks.{head_pass, balance_pass, passes, shape_passes}
use Rattle.table.specs.Code.Steps.{Headed, Nested}
use Rattle.table.specs.declared.Refusal.{Refusal}
use Rattle.table.proofs.Trying.{or_else_last}
use Rattle.table.proofs.Passes.{first_found_nothing, first_found_append, head_rules, content_rules, body_rules, nest_rules, fork_rules}
use Rattle.checks.proofs.all_checks.Goals.{After-actions-m}
use Rattle.std.proofs.lemmas.Result.{err_from_is_err_and}
use Rattle.checks.proofs.all_checks.Goals as goal

in_head : (s : List ℕ) {r : Refusal} → try_pass (head_pass s) ≡ Err r → Err r ≡ first_found (passes s)
unfolding passes first_found
in_head s e = rw e

module _ {s : List ℕ} {n m : ℕ} (h : Headed s n m) where
  head_passed : try_pass (head_pass s) ≡ Ok tt
  head_passed = (head_rules s).1 h.head

  in_shape : {r : Refusal} → first_found (shape_passes (table_of s)) ≡ Err r → Err r ≡ first_found (passes s)
  unfolding passes first_found
  in_shape e = rw (head_passed, first_found_append (shape_passes (table_of s)), e)

  module _ (e : first_found (shape_passes (table_of s)) ≡ Ok tt) where
    nested : Nested s n m
    nested =
        let t = (first_found_nothing (shape_passes (table_of s))).0 e in
        record {
          formed = record {
            laid = record { headed = h; contents = (content_rules (table_of s)).0 (t.0, t.1.0) };
            bodies = (body_rules (table_of s)).0 t.1.1.0;
          };
          nesting = (nest_rules (table_of s)).0 t.1.1.1.0;
          forking = (fork_rules (table_of s)).0 t.1.1.1.1.0;
        }

    in_balances : try_pass (balance_pass (table_of s)) ≡ first_found (passes s)
    unfolding passes first_found
    in_balances = rw (head_passed, first_found_append (shape_passes (table_of s)), e, or_else_last)

-- the head has passed
reached : (c : After-actions-m) → Headed c.args.table.now c.threads-n.result c.actions-m.result
reached c = record { head = (head_rules _).0 (sym c.head.ensures ∙ c.in_ok-head.was); threads = c.threads-n.ensures.value; actions = c.actions-m.ensures.value }

pub returns-in_err-head : goal.returns-in_err-head
returns-in_err-head c =
    let p = err_from_is_err_and c.from_residual.result c.from_residual.ensures.1 in
    rw (p.1, p.2) (in_head _ (sym c.head.ensures ∙ c.in_err-head.was))

pub shape-requires : goal.shape-requires
shape-requires c = reached (goal.at.shape-requires c).After-actions-m

pub returns-in_err-shape : goal.returns-in_err-shape
returns-in_err-shape c =
    let p = err_from_is_err_and c.from_residual-in_err-shape.result c.from_residual-in_err-shape.ensures.1 in
    rw (p.1, p.2) (in_shape (reached (goal.at.returns-in_err-shape c).After-actions-m) (sym c.shape.ensures ∙ c.in_err-shape.was))

pub balances-requires : goal.balances-requires
balances-requires c =
    nested (reached (goal.at.balances-requires c).After-actions-m) (sym c.shape.ensures ∙ c.in_ok-shape.was)

pub returns : goal.returns
returns c =
    c.balances.ensures ∙ in_balances (reached (goal.at.returns c).After-actions-m) (sym c.shape.ensures ∙ c.in_ok-shape.was)
