-- `soundness::common::common_holds` meets its contract: the tests are the clauses, in their order.
use Rattle.std.specs.Prelude.{Err, Ok, Result, ⊤}
use mathlib.Core.Path.{◌≡◌, refl, sym, ◌∙◌}
use Prim.Native.Nat.{ℕ}
use mathlib.Core.List.{List}
use mathlib.Core.Bool.{Bool, true, false, ◌&&◌, ◌||◌, and_assoc}
use borrow.Author.Tests.{eq-eqb, le-leb, lt-leb}
use lib.ListN.{length}
use lib.Dec.{ltb, leb, eqb}
use Rattle.table.specs.Format.{Table, table_of}
use Rattle.table.specs.Pass.{first_found}
use Rattle.table.specs.declared.Refusal.{Refusal}
use Rattle.table.proofs.Passes.{passes_rules}
use Rattle.schedule.specs.declared.Worker.{Worker}
use Rattle.schedule.specs.Record.{set_of}
use Rattle.schedule.specs.Begin.{setting_passes}
use Rattle.schedule.specs.Sound.{next_in_body, in_order, status_follows, waits_at_join, unused, one_holder, worker_right, held_right, shares_in, common, common_sound}
use Rattle.order.specs.Words.{all_below, same_list}
use Rattle.soundness.specs.Code.Checks.{Accepted, threads_sound, holders_sound}
use Rattle.soundness.proofs.Lookups.{few_threads}
use Rattle.soundness.proofs.Chains.{cut, stop, pass, skip, first_of, found_nothing, found_some}
use borrow.Author.Rules.{rules}
use Rattle.soundness.proofs.common.common_holds.Goals.{Else-is_err}
use Rattle.soundness.proofs.common.common_holds.Goals as goal

regroup : (x y z a b c d e f g h m i j : Bool)
    → (x && (y && (z && ((a && (b && (c && (d && e)))) && ((f && g) && (h && (m && (i && j))))))))
    ≡ ((x && (y && (z && (a && (b && (c && (d && (e && (f && (g && (h && (m && i)))))))))))) && j)
regroup x y z a b c d e f g h m i j = simp and_assoc

module _ (s : List ℕ) (n p K : ℕ) (next status amounts : List ℕ) (workers : List Worker) (set amount highest : ℕ) (k : Accepted s n) where
  abbrev T : Table
  T = table_of s

  -- the tests past 20 and 21
  abbrev tests : Bool
  tests =
      threads_sound (table_of s) n next status
      && (holders_sound n p K status workers
      && (held_right (table_of s) next status amount && (same_list amounts (shares_in (table_of s) next status) && (leb amount highest && eqb set (set_of workers)))))

  no_settings : {x : Refusal} → first_found (setting_passes p K) ≡ Err x → false ≡ common_sound s p K next status amounts workers set amount highest
  unfolding common_sound
  no_settings h = rw ((passes_rules s).1 k.rules, h) refl

  -- and with the sizes
  abbrev sized_tests : Bool
  sized_tests = eqb (length next) 1024 && (eqb (length status) 1024 && (eqb (length workers) 16 && tests))

  in_parts : n ≡ (table_of s).threads → sized_tests ≡ (common (table_of s) p K next status amounts workers amount highest && eqb set (set_of workers))
  unfolding common
  in_parts d =
      rw d
      (regroup (eqb (length next) 1024) (eqb (length status) 1024) (eqb (length workers) 16)
      (all_below (next_in_body T next) T.threads) (all_below (in_order T next status) T.actions) (all_below (status_follows T next status) T.threads)
      (all_below (waits_at_join T next status) T.threads) (all_below (λ t. ltb t T.threads || unused next status t) 1024)
      (all_below (one_holder status workers) T.threads) (all_below (worker_right T.threads p K workers) 16) (held_right T next status amount) (same_list amounts (shares_in T next status)) (leb amount highest)
      (eqb set (set_of workers)))

  module _ (h : first_found (setting_passes p K) ≡ Ok tt) where
    begins : sized_tests ≡ common_sound s p K next status amounts workers set amount highest
    unfolding common_sound
    begins = rw ((passes_rules s).1 k.rules, h) (in_parts k.threads)

    -- threads that are not sound are none of any size
    no_threads : threads_sound (table_of s) n next status ≡ false → false ≡ common_sound s p K next status amounts workers set amount highest
    no_threads e = skip (eqb (length next) 1024) (skip (eqb (length status) 1024) (skip (eqb (length workers) 16) (cut _ e))) ∙ begins

    sized : length next ≡ 1024 → length status ≡ 1024 → length workers ≡ 16
        → {r : Bool} → r ≡ tests → r ≡ common_sound s p K next status amounts workers set amount highest
    sized a b c e = pass (eq-eqb (length next) 1024 a) (pass (eq-eqb (length status) 1024 b) (pass (eq-eqb (length workers) 16 c) e)) ∙ begins

-- past the settings, over threads that are sound
module _ (s : List ℕ) (n p K : ℕ) (next status amounts : List ℕ) (workers : List Worker) (set amount highest : ℕ) (k : Accepted s n)
    {x : Result ⊤ Refusal} (f : x ≡ first_found (setting_passes p K)) (d : x ≡ Ok tt) (w : length workers ≡ 16)
    {b : Bool} (t : b ≡ threads_sound (table_of s) n next status) (u : b ≡ true) (z : b ≡ true → (length next ≡ 1024) × (length status ≡ 1024)) where
  past_threads : {r : Bool}
      → r ≡ (holders_sound n p K status workers
      && (held_right (table_of s) next status amount && (same_list amounts (shares_in (table_of s) next status) && (leb amount highest && eqb set (set_of workers)))))
      → r ≡ common_sound s p K next status amounts workers set amount highest
  past_threads e = sized s n p K next status amounts workers set amount highest k (sym f ∙ d) (z u).0 (z u).1 w (pass (sym t ∙ u) e)

  module _ {g : Bool} (h : g ≡ holders_sound n p K status workers) (i : g ≡ true) where
    past_holders : {r : Bool}
        → r ≡ (held_right (table_of s) next status amount && (same_list amounts (shares_in (table_of s) next status) && (leb amount highest && eqb set (set_of workers))))
        → r ≡ common_sound s p K next status amounts workers set amount highest
    past_holders e = past_threads (pass (sym h ∙ i) e)

    module _ {j : Bool} (l : j ≡ held_right (table_of s) next status amount) (m : j ≡ true) where
      past_held : {r : Bool} → r ≡ (same_list amounts (shares_in (table_of s) next status) && (leb amount highest && eqb set (set_of workers)))
          → r ≡ common_sound s p K next status amounts workers set amount highest
      past_held e = past_holders (pass (sym l ∙ m) e)

      past_amounts : {q : Bool} → q ≡ same_list amounts (shares_in (table_of s) next status) → q ≡ true → {r : Bool} → r ≡ (leb amount highest && eqb set (set_of workers))
          → r ≡ common_sound s p K next status amounts workers set amount highest
      past_amounts o v e = past_held (pass (sym o ∙ v) e)

-- past 20 and 21
settled : (c : Else-is_err) → c.settings_fault.result ≡ Ok tt
settled c = found_nothing _ c.is_err.ensures.value c.if-is_err.false

pub returns-then-is_err : goal.returns-then-is_err
returns-then-is_err c = no_settings _ _ _ _ _ _ _ _ _ _ _ c.requires.accepted (sym c.settings_fault.ensures ∙ (found_some _ c.is_err.ensures.value c.if-is_err.true).1)

pub returns-then-not-threads_sound : goal.returns-then-not-threads_sound
returns-then-not-threads_sound c = no_threads _ _ _ _ _ _ _ _ _ _ _ c.requires.accepted (sym c.settings_fault.ensures ∙ (settled (goal.at.returns-then-not-threads_sound c).Else-is_err)) (sym c.threads_sound.ensures.value ∙ c.if-not-threads_sound.true)

pub holders_sound-requires : goal.holders_sound-requires
holders_sound-requires c = few_threads c.requires.accepted

pub returns-then-not-holders_sound : goal.returns-then-not-holders_sound
returns-then-not-holders_sound c = past_threads _ _ _ _ _ _ _ _ _ _ _ c.requires.accepted c.settings_fault.ensures (settled (goal.at.returns-then-not-holders_sound c).Else-is_err) (search rules) c.threads_sound.ensures.value c.if-not-threads_sound.false c.threads_sound.ensures.next_len (cut _ (sym c.holders_sound.ensures ∙ c.if-not-holders_sound.true))

pub held_right-requires : goal.held_right-requires
held_right-requires c = record { accepted = c.requires.accepted; placed = first_of _ _ (sym c.threads_sound.ensures.value ∙ c.if-not-threads_sound.false) }

pub returns-then-not-held_right : goal.returns-then-not-held_right
returns-then-not-held_right c = past_holders _ _ _ _ _ _ _ _ _ _ _ c.requires.accepted c.settings_fault.ensures (settled (goal.at.returns-then-not-held_right c).Else-is_err) (search rules) c.threads_sound.ensures.value c.if-not-threads_sound.false c.threads_sound.ensures.next_len c.holders_sound.ensures c.if-not-holders_sound.false (cut _ (sym c.held_right.ensures ∙ c.if-not-held_right.true))

pub amounts_right-requires : goal.amounts_right-requires
amounts_right-requires c = record { accepted = c.requires.accepted; status_value = sym c.threads_sound.ensures.value ∙ c.if-not-threads_sound.false }

pub returns-then-not-amounts_right : goal.returns-then-not-amounts_right
returns-then-not-amounts_right c = past_held _ _ _ _ _ _ _ _ _ _ _ c.requires.accepted c.settings_fault.ensures (settled (goal.at.returns-then-not-amounts_right c).Else-is_err) (search rules) c.threads_sound.ensures.value c.if-not-threads_sound.false c.threads_sound.ensures.next_len c.holders_sound.ensures c.if-not-holders_sound.false c.held_right.ensures c.if-not-held_right.false (cut _ (sym c.amounts_right.ensures ∙ c.if-not-amounts_right.true))

pub returns-then-held-highest : goal.returns-then-held-highest
returns-then-held-highest c = past_amounts _ _ _ _ _ _ _ _ _ _ _ c.requires.accepted c.settings_fault.ensures (settled (goal.at.returns-then-held-highest c).Else-is_err) (search rules) c.threads_sound.ensures.value c.if-not-threads_sound.false c.threads_sound.ensures.next_len c.holders_sound.ensures c.if-not-holders_sound.false c.held_right.ensures c.if-not-held_right.false c.amounts_right.ensures c.if-not-amounts_right.false (pass (le-leb _ _ c.if-held-highest.true) c.busy_right.ensures)

pub returns-else-held-highest : goal.returns-else-held-highest
returns-else-held-highest c = past_amounts _ _ _ _ _ _ _ _ _ _ _ c.requires.accepted c.settings_fault.ensures (settled (goal.at.returns-else-held-highest c).Else-is_err) (search rules) c.threads_sound.ensures.value c.if-not-threads_sound.false c.threads_sound.ensures.next_len c.holders_sound.ensures c.if-not-holders_sound.false c.held_right.ensures c.if-not-held_right.false c.amounts_right.ensures c.if-not-amounts_right.false (stop _ _ (lt-leb _ _ c.if-held-highest.false))
