-- What `dequelimit` prints is a limit: where every choice of a row of turns is below c, no memory that the limits of DFDeques bound is above `choice_limit`; with choices 0 none is above
-- `near_limit`.
use Rattle.std.specs.Prelude.{Err, Ok, Result, ⊤}
use Rattle.table.specs.declared.Refusal.{Refusal}
use mathlib.Core.Path.{◌≡◌, refl, ap, subst}
use Prim.Native.Nat.{ℕ, ◌+◌, ◌-◌, ◌*◌, ◌≤◌, ◌<◌, min}
use native.Mathlib.Omega.{arith}
use mathlib.Core.List.{List}
use mathlib.Core.Bool.{Bool, true, false}
use lib.Dec.{eqb}
use borrow.Author.Tests.{ltb-false, eqb-true}
use Rattle.table.specs.Sum.{pick, any_below}
use Rattle.table.specs.Format.{Table, table_of}
use Rattle.table.specs.Pass.{first_found}
use Rattle.table.specs.Checks.{alloc_of}
use Rattle.table.specs.Nested.{N}
use Rattle.table.specs.Serial.{S1}
use Rattle.table.proofs.Tests.{no_way}
use Rattle.order.proofs.Lawful.{Within}
use Rattle.filling.specs.Filled.{big, filled_out}
use Rattle.filling.proofs.FilledTable.{any_false}
use Rattle.peaks.specs.Peak.{peak_at}
use Rattle.deques.specs.DequeRuns.{Pair}
use Rattle.deques.specs.declared.DequeRun.{DequeRun}
use Rattle.deques.specs.DequeBegin.{deque_begin}
use Rattle.deques.specs.DequeCalls.{DequeCall, after_deque_calls, pairs_of_calls}
use Rattle.deque_bounds.proofs.HeldLimits.{Choices, HeldLimits}
use Rattle.deque_bounds.proofs.CallLimits.{DequeLimit, deque_limit_lem}
use Rattle.deque_limit.specs.declared.Bounds.{Bounds}
use Rattle.deque_limit.specs.ChoiceLimit.{near_limit, choice_limit, bounds_of, choice_passes, choices_as, choice_limits}

module _ (T : Table) (p K : ℕ) (row : List Pair) (x : ℕ) (l : HeldLimits T p K row x) where
  pub near_limits : Choices 1 row → x ≤ near_limit T K
  unfolding near_limit big
  near_limits h = go (any_below (big T K) T.actions) refl
    where
      go : (q : Bool) → any_below (big T K) T.actions ≡ q → x ≤ pick q (peak_at T 0 1) (min (peak_at T 0 1) (S1 T + K * (N T - 1)))
      go true e = l.choices 1 h
      go false e =
          let small : Within T K = λ a w. ltb-false K (alloc_of T a) (any_false (big T K) T.actions e a w) in
          omega (arith, l.choices 1 h, l.near small h)

  pub choice_limits_lem : (c : ℕ) → Choices c row → x ≤ choice_limit T K c
  unfolding choice_limit
  choice_limits_lem c h = go (eqb c 1) refl
    where
      go : (q : Bool) → eqb c 1 ≡ q → x ≤ pick q (near_limit T K) (peak_at T 0 c)
      go true e = near_limits (subst (λ (k : ℕ). Choices k row) (eqb-true c 1 e) h)
      go false e = l.choices c h

-- ---- over lists of calls

given_is : (f : Result ⊤ Refusal) (y x : Bounds) → choices_as f y ≡ Ok x → y ≡ x
given_is (Ok _) y x e = cc
given_is (Err r) y x e = no_way (cc)

module _ (s : List ℕ) (p K c : ℕ) (x : Bounds) (e : choice_limits s p K c ≡ Ok x) where
  said : bounds_of (table_of (filled_out s K)) K c ≡ x
  unfolding choice_limits
  said = given_is (first_found (choice_passes s p K c)) (bounds_of (table_of (filled_out s K)) K c) x e

  -- a record and the row of turns that led to it
  module _ (r : DequeRun) (row : List Pair) (l : DequeLimit (table_of (filled_out s K)) p K r row) where
    -- where every choice is below c, neither what is held nor the highest so far is above the first number printed
    pub answer_holds : Choices c row → (r.run.held ≤ x.memory) × (r.run.highest ≤ x.memory)
    unfolding bounds_of
    answer_holds h =
        let d : choice_limit (table_of (filled_out s K)) K c ≡ x.memory = ap (λ (y : Bounds). y.memory) said in
        (rw (← d) (choice_limits_lem (table_of (filled_out s K)) p K row r.run.held l.held c h), rw (← d) (choice_limits_lem (table_of (filled_out s K)) p K row r.run.highest l.highest c h))

    -- and where every choice is 0, above the second
    pub near_holds : Choices 1 row → (r.run.held ≤ x.near) × (r.run.highest ≤ x.near)
    unfolding bounds_of
    near_holds h =
        let d : near_limit (table_of (filled_out s K)) K ≡ x.near = ap (λ (y : Bounds). y.near) said in
        (rw (← d) (near_limits (table_of (filled_out s K)) p K row r.run.held l.held h), rw (← d) (near_limits (table_of (filled_out s K)) p K row r.run.highest l.highest h))

  -- for every list of calls from the record of the beginning
  pub calls_hold : (r : DequeRun) → deque_begin s p K ≡ record { answer = Ok tt; run = r } → (calls : List DequeCall) → Choices c (pairs_of_calls calls r)
      → ((after_deque_calls calls r).run.held ≤ x.memory) × ((after_deque_calls calls r).run.highest ≤ x.memory)
  calls_hold r b calls h = answer_holds (after_deque_calls calls r) (pairs_of_calls calls r) (deque_limit_lem s p K r b calls) h

  pub calls_near : (r : DequeRun) → deque_begin s p K ≡ record { answer = Ok tt; run = r } → (calls : List DequeCall) → Choices 1 (pairs_of_calls calls r)
      → ((after_deque_calls calls r).run.held ≤ x.near) × ((after_deque_calls calls r).run.highest ≤ x.near)
  calls_near r b calls h = near_holds (after_deque_calls calls r) (pairs_of_calls calls r) (deque_limit_lem s p K r b calls) h
