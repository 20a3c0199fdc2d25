-- A table that no check refuses keeps every rule, and its facts are small.
use Rattle.std.specs.Prelude.{Err, Ok, Result, ⊤}
use Rattle.facts.specs.declared.Weighed.{Weighed}
use mathlib.Core.Path.{◌≡◌, refl, ap, ◌∙◌}
use Prim.Native.Nat.{ℕ, ◌≤◌, ◌<◌}
use mathlib.Core.List.{List}
use native.Mathlib.Omega.{arith}
use Rattle.table.specs.Sum.{sum_over}
use Rattle.table.specs.Format.{threads_of, actions_of, table_of}
use Rattle.table.specs.Pass.{first_found}
use Rattle.table.specs.Checks.{alloc_of, free_of, whole, passes}
use Rattle.table.specs.Rules.{Rules}
use Rattle.table.specs.Serial.{serial_order, held_after, S1}
use Rattle.table.specs.Level.{D}
use Rattle.table.specs.Nested.{N}
use Rattle.table.specs.Load.{facts_of, answer, loaded, table_values, values_of}
use Rattle.table.specs.declared.Facts.{Facts}
use Rattle.table.specs.declared.Refusal.{Refusal}
use Rattle.table.proofs.Sizes.{Sizes, sizes}
use Rattle.table.proofs.Passes.{passes_rules}
use Rattle.table.proofs.Amounts.{whole_serial}
use Rattle.table.proofs.Bodies.{end_within}
use Rattle.table.proofs.Levels.{level_bound}
use Rattle.table.proofs.NestedThreads.{nested_few}
use Rattle.table.proofs.Values.{table_values_lem}
use Rattle.facts.specs.Code.Steps.{Kept}
use Rattle.facts.specs.Weigh.{left_of, weigh, weighed_by, weighing}
use Rattle.facts.proofs.EndLevels.{by_rules, in_threads, few_threads, few_actions}

kept_by : {s : List ℕ} {n m : ℕ} → Rules s → n ≡ threads_of s → m ≡ actions_of s → Kept s n m
kept_by r e d =
    record {
      nested = record {
        formed = record {
          laid = record { headed = record { head = r.head; threads = e; actions = d }; contents = r.contents };
          bodies = r.bodies;
        };
        nesting = r.nesting;
        forking = r.forking;
      };
      balances = r.balances;
    }

pub kept : (s : List ℕ) {n m : ℕ} → first_found (passes s) ≡ Ok tt → n ≡ threads_of s → m ≡ actions_of s → Kept s n m
kept s e = kept_by ((passes_rules s).0 e)

module _ {s : List ℕ} {n m : ℕ} (k : Kept s n m) where
  pub small : Sizes s n m
  small = sizes k.nested.formed.laid.headed

  pub shallow : D (table_of s) ≤ 8192
  unfolding D
  shallow =
      let l : 0 < n = omega (arith, small) in
      omega (arith, by_rules k.nested level_bound _ (end_within (table_of s) k.nested.formed.laid.contents 0 (in_threads k.nested l)), few_actions k.nested)

  pub few_levels : N (table_of s) ≤ 1024
  few_levels = omega (arith, nested_few (table_of s), few_threads k.nested)

  -- the final balance is what the serial run holds at its end
  pub left_serial : left_of (table_of s) ≡ held_after (table_of s) (serial_order (table_of s))
  unfolding held_after
  left_serial =
      let l : 0 < (table_of s).threads = in_threads k.nested (omega (arith, small)) in
      let w : (own : ℕ → ℕ) → whole (table_of s) own 0 ≡ sum_over own (serial_order (table_of s)) =
      λ own. whole_serial (table_of s) k.nested.formed.laid.contents k.nested.formed.bodies k.nested.nesting own 0 l in
      rw (w (alloc_of (table_of s)), w (free_of (table_of s)))

  pub facts_are : {peak depth nested : ℕ} → peak ≡ S1 (table_of s) → depth ≡ D (table_of s) → nested ≡ N (table_of s)
      → ◌≡◌ {A = Facts} (record { threads = n; actions = m; peak = peak; depth = depth; nested = nested }) (facts_of (table_of s))
  unfolding table_of facts_of
  facts_are p d l = rw (p, d, l, k.nested.formed.laid.headed.threads, k.nested.formed.laid.headed.actions)

-- ---- the answers

abbrev pub unweigh : Result Weighed Refusal → Result Facts Refusal
unweigh (Ok w) = Ok w.facts
unweigh (Err r) = Err r

module _ (s : List ℕ) where
  pub refused : {r : Refusal} → first_found (passes s) ≡ Err r → Err r ≡ loaded s
  unfolding loaded
  refused e = rw e

  pub accepted : {f : Facts} → first_found (passes s) ≡ Ok tt → f ≡ facts_of (table_of s) → Ok f ≡ loaded s
  unfolding loaded
  accepted e f = rw (e, f)

  pub weighed_not : {r : Refusal} → first_found (passes s) ≡ Err r → Err r ≡ weighing s
  unfolding weighing
  weighed_not e = rw e

  pub weighed_is : {f : Facts} {left : ℕ} → first_found (passes s) ≡ Ok tt → f ≡ facts_of (table_of s) → left ≡ left_of (table_of s)
      → Ok (record { facts = f; left = left }) ≡ weighing s
  unfolding weighing
  weighed_is e f l = rw (e, f, l)

  -- loading's answer is that of weighing without what is left
  pub unweigh_is : unweigh (weighing s) ≡ loaded s
  unfolding weighing loaded
  unweigh_is = go (first_found (passes s))
    where
      go : (found : Result ⊤ Refusal) → unweigh (weighed_by found (weigh (table_of s))) ≡ answer found (facts_of (table_of s))
      go (Ok _) = refl
      go (Err r) = refl

  -- and its values
  pub answered : {x : Result Facts Refusal} → x ≡ loaded s → (x ≡ loaded s) × (values_of x ≡ table_values s)
  answered e = (e, ap values_of e ∙ table_values_lem s)
