-- The answer, check by check, and that its values are those that the checks give.
use Rattle.std.specs.Prelude.{Err, Ok, Result, ⊤}
use mathlib.Core.Path.{◌≡◌, refl, sym, ap, ◌∙◌}
use Prim.Native.Nat.{ℕ, ◌+◌, ◌-◌, ◌*◌, ◌≤◌}
use mathlib.Core.List.{List, [], ◌∷◌}
use mathlib.Core.Bool.{true, false}
use Rattle.table.specs.Format.{Table, table_of}
use Rattle.table.specs.Checks.{outside, passes}
use Rattle.table.specs.Pass.{or_else, refusal, try_at, try_from, try_pass, first_found}
use Rattle.table.specs.Rules.{Rules}
use Rattle.table.specs.declared.Refusal.{Refusal}
use Rattle.table.proofs.Sizes.{inside}
use Rattle.table.proofs.Tests.{no_way}
use Rattle.table.proofs.Trying.{or_else_last}
use Rattle.table.proofs.Passes.{first_found_append}
use Rattle.order.specs.Turns.{turns_of}
use Rattle.filling.specs.declared.Total.{Total}
use Rattle.filling.specs.Filled.{threads_to, actions_to, fill_pass}
use Rattle.filling.specs.Filling.{total_as, total_of}
use Rattle.schedule.specs.Record.{max_workers}
use Rattle.schedule.specs.Begin.{max_quota, setting_passes, begin_passes}
use Rattle.most.specs.Most.{limit_of, most_as, most_found, most_of, most_values_of, most_values_with, most_values_for}
use Rattle.most.specs.Code.Steps.{Counted, own_most}
use Rattle.most.proofs.TurnCounts.{counted, turns_filled}

-- ---- the table's own checks first

module _ (s : List ℕ) (p K : ℕ) where
  found_own : most_found s p K ≡ or_else (first_found (passes s)) (first_found (begin_passes (table_of s) p K))
  found_own = first_found_append (passes s) (begin_passes (table_of s) p K)

  pub refused_own : (r : Refusal) → first_found (passes s) ≡ Err r → Err r ≡ most_of s p K
  unfolding most_of
  refused_own r e = rw (found_own, e)

  pub own_whole : first_found (passes s) ≡ Ok tt → own_most s p K ≡ most_of s p K
  unfolding most_of own_most
  own_whole e = rw (found_own, e)

  values_found : (f : Result ⊤ Refusal) (L : ℕ) → most_values_of (most_as f L) ≡ most_values_with f L
  values_found (Ok _) L = refl
  values_found (Err r) L = refl

  pub values_are : {x : Result ℕ Refusal} → x ≡ most_of s p K → (x ≡ most_of s p K) × (most_values_of x ≡ most_values_for s p K)
  unfolding most_of most_values_for
  values_are e = (e, ap most_values_of e ∙ values_found (most_found s p K) (limit_of s p K))

-- ---- check by check

module _ (s : List ℕ) (p K : ℕ) where
  abbrev T : Table
  T = table_of s

  found_begin : first_found (begin_passes T p K) ≡ or_else (first_found (setting_passes p K)) (or_else (try_pass (fill_pass T K)) (Ok tt))
  unfolding first_found
  found_begin = first_found_append (setting_passes p K) (fill_pass T K ∷ [])

  pub many_workers : outside 1 max_workers p ≡ true → Err (refusal 20 0) ≡ own_most s p K
  unfolding own_most first_found try_pass try_from try_at
  many_workers h = rw h

  module _ (h : outside 1 max_workers p ≡ false) where
    pub wide_quota : outside 1 max_quota K ≡ true → Err (refusal 21 0) ≡ own_most s p K
    unfolding own_most first_found try_pass try_from try_at
    wide_quota k = rw (h, k)

    module _ (k : outside 1 max_quota K ≡ false) where
      settings_silent : first_found (setting_passes p K) ≡ Ok tt
      unfolding first_found try_pass try_from try_at
      settings_silent = rw (h, k)

      found_full : first_found (begin_passes T p K) ≡ try_pass (fill_pass T K)
      found_full = found_begin ∙ rw (settings_silent, or_else_last (try_pass (fill_pass T K)))

      -- the answer of the count
      module _ (a : Result Total Refusal) (e : a ≡ total_of T K) where
        found_by : (f : Result ⊤ Refusal) {r : Refusal} → Err r ≡ total_as T K f → f ≡ Err r
        found_by (Ok _) h = no_way (cc)
        found_by (Err x) h = cc

        silent_by : (f : Result ⊤ Refusal) {t : Total} → Ok t ≡ total_as T K f → (f ≡ Ok tt) × (t ≡ record { threads = threads_to T K T.actions; actions = actions_to T K T.actions })
        silent_by (Ok _) h = (refl, cc)
        silent_by (Err x) h = no_way (cc)

        pub too_full : {r : Refusal} → a ≡ Err r → Err r ≡ own_most s p K
        unfolding own_most
        too_full q = rw (found_full, found_by (try_pass (fill_pass T K)) (sym q ∙ e))

        module _ {t : Total} (q : a ≡ Ok t) where
          silent : try_pass (fill_pass T K) ≡ Ok tt
          silent = (silent_by (try_pass (fill_pass T K)) (sym q ∙ e)).0

          threads_are : t.threads ≡ threads_to T K T.actions
          threads_are = ap (λ (x : Total). x.threads) (silent_by (try_pass (fill_pass T K)) (sym q ∙ e)).1

          actions_are : t.actions ≡ actions_to T K T.actions
          actions_are = ap (λ (x : Total). x.actions) (silent_by (try_pass (fill_pass T K)) (sym q ∙ e)).1

          module _ (rules : Rules s) where
            some : 1 ≤ K
            some = (inside 1 max_quota K k).0

            pub count_ready : Counted T t.threads t.actions
            count_ready = counted s K rules some silent threads_are actions_are

            pub at_most : (x : ℕ) → x ≡ turns_of T + (t.threads - T.threads) + (t.actions - T.actions) → Ok (p * x) ≡ own_most s p K
            unfolding own_most limit_of
            at_most x d = rw (found_full, silent, ← turns_filled s K rules some silent threads_are actions_are, ← d)
