-- `soundness::common::common_parts` meets its contract: the table's own checks come first, then each thread's parent is noted and the common part tested.
use Rattle.std.specs.Prelude.{Err, Ok, Result, ⊤}
use mathlib.Core.Path.{◌≡◌, refl, sym, ◌∙◌}
use Prim.Native.Nat.{ℕ}
use mathlib.Core.List.{List}
use mathlib.Core.Bool.{false}
use lib.ListN.{replicate}
use Rattle.table.specs.Format.{table_of, threads_of}
use Rattle.table.specs.Pass.{first_found}
use Rattle.table.specs.Checks.{passes}
use Rattle.table.specs.Rules.{Rules}
use Rattle.table.specs.declared.Refusal.{Refusal}
use Rattle.table.proofs.Passes.{passes_rules}
use Rattle.schedule.specs.declared.Worker.{Worker}
use Rattle.schedule.specs.Sound.{common_sound}
use Rattle.order.specs.Words.{is_nothing}
use Rattle.soundness.specs.Code.Checks.{Accepted}
use Rattle.soundness.specs.Tested.{parents_in, parents_if}
use Rattle.soundness.proofs.Chains.{found_nothing, found_some}
use Rattle.soundness.proofs.Noting.{parents_right}
use Rattle.soundness.proofs.common.common_parts.Goals.{Else-is_err}
use Rattle.soundness.proofs.common.common_parts.Goals as goal

module _ (s : List ℕ) where
  not_sound : (p K : ℕ) (next status amounts : List ℕ) (workers : List Worker) (set amount highest : ℕ) {x : Refusal} → first_found (passes s) ≡ Err x
      → false ≡ common_sound s p K next status amounts workers set amount highest
  unfolding common_sound
  not_sound p K next status amounts workers set amount highest h = rw h

  no_parents : {x : Refusal} → first_found (passes s) ≡ Err x → replicate 1024 0 ≡ parents_if (is_nothing (first_found (passes s))) (table_of s)
  no_parents h = rw h

  its_parents : {l : List ℕ} → Rules s → l ≡ parents_in (table_of s) → l ≡ parents_if (is_nothing (first_found (passes s))) (table_of s)
  its_parents k e = e ∙ rw ((passes_rules s).1 k)

known : {s : List ℕ} {n : ℕ} {x : Result ⊤ Refusal} → x ≡ first_found (passes s) → x ≡ Ok tt → n ≡ threads_of s → Accepted s n
unfolding table_of
known {s} f d e = record { rules = (passes_rules s).0 (sym f ∙ d); threads = e }

accepts : (c : Else-is_err) → c.check_in.result ≡ Ok tt
accepts c = found_nothing _ c.is_err.ensures.value c.if-is_err.false

pub returns-then-is_err : goal.returns-then-is_err
returns-then-is_err c = let e = sym c.check_in.ensures.value ∙ (found_some _ c.is_err.ensures.value c.if-is_err.true).1 in record { value = not_sound _ _ _ _ _ _ _ _ _ _ e; parents_after = no_parents _ e; falls_after = c.check_in.ensures.rises_after.1 }

pub fill_forks-requires : goal.fill_forks-requires
fill_forks-requires c = record { accepted = known c.check_in.ensures.value (accepts (goal.at.fill_forks-requires c).Else-is_err) c.threads-n.ensures.value; forks_value = (refl, refl) }

pub common_holds-requires : goal.common_holds-requires
common_holds-requires c = record { accepted = known c.check_in.ensures.value (accepts (goal.at.common_holds-requires c).Else-is_err) c.threads-n.ensures.value; forks = c.fill_forks.ensures.forks; parents = parents_right _ c.fill_forks.ensures.parents_after }

pub returns : goal.returns
returns c = record { value = c.common_holds.ensures; parents_after = its_parents _ (known {s = c.args.table.now} c.check_in.ensures.value (accepts (goal.at.returns c).Else-is_err) c.threads-n.ensures.value).rules c.fill_forks.ensures.parents_after; falls_after = c.check_in.ensures.rises_after.1 }
