-- A well-formed text's counts are the numbers of its threads and of its actions.
use Prim.Native.Nat.{ℕ, suc, ◌+◌, ◌≤◌}
use native.Mathlib.Omega.{arith}
use mathlib.Core.Path.{◌≡◌, refl, ap}
use mathlib.Core.List.{List, [], ◌∷◌}
use mathlib.Core.Bool.{Bool, true, false}
use lib.Dec.{eqb}
use Rattle.assembly.specs.Assembly.{counted_by, onward, checked_from, is_thread, is_action, how_many}
use Rattle.assembly.specs.declared.Expected.{Expected}
use Rattle.assembly.specs.declared.Said.{Said}
use Rattle.assembly.specs.declared.Said.TheVariants.{Nothing, Thread, Action, Expects}
use Rattle.std.specs.Prelude.{Err, Ok, Result}
use Rattle.assembly.specs.declared.check.Counts.{Counts}
use Rattle.assembly.specs.Assembly.{counts_of, fault_at}

pub same_counts : {E : Type 0} {n m a b : ℕ} → ◌≡◌ {A = Result Counts E} (Ok (counts_of n m)) (Ok (counts_of a b)) → (n ≡ a) × (m ≡ b)
same_counts {n = n} {m = m} {a = a} {b = b} q =
    let e : counts_of n m ≡ counts_of a b = cc in
    (ap (λ (c : Counts). c.threads) e, ap (λ (c : Counts). c.actions) e)

pub checked_nil : (line n m : ℕ) → checked_from line n m [] ≡ Ok (counts_of n m)
unfolding checked_from
checked_nil line n m = refl

-- a line more
pub checked_next : (line n m : ℕ) (x : Said) (l : List Said) → checked_from line n m (x ∷ l) ≡ onward (counted_by x n m) line (λ (a b : ℕ). checked_from (suc line) a b l)
unfolding checked_from
checked_next line n m x l = refl

pub record Totals (n m a b : ℕ) (l : List Said) : Type 0 where
  pub threads : a ≡ n + how_many is_thread l
  pub actions : b ≡ m + how_many is_action l

pub no_fault : (line : ℕ) {e : Expected} {a b : ℕ} → Err (fault_at line e) ≡ Ok (counts_of a b) → ⊥
no_fault line q = let z : ◌≡◌ {A = ℕ} 0 1 = cc in omega arith

pub totals : (l : List Said) (line n m a b : ℕ) → checked_from line n m l ≡ Ok (counts_of a b) → Totals n m a b l
unfolding checked_from how_many
totals [] line n m a b q =
    let p = same_counts q in
    record { threads = omega (arith, p.0); actions = omega (arith, p.1) }
totals (Nothing ∷ l) line n m a b q = let r = totals l (suc line) n m a b q in record { threads = r.threads; actions = r.actions }
totals (Thread t ∷ l) line n m a b q = go (eqb t n) refl (totals l (suc line) (n + 1) m a b)
  where
    go : (u : Bool) → eqb t n ≡ u → (checked_from (suc line) (n + 1) m l ≡ Ok (counts_of a b) → Totals (n + 1) m a b l) → Totals n m a b (Thread t ∷ l)
    go true e ih = let r = ih (rw e at q) in record { threads = omega (arith, r.threads); actions = r.actions }
    go false e ih = absurd (no_fault line (rw e at q))
totals (Action k x ∷ l) line n m a b q = go (eqb n 0) refl (totals l (suc line) n (m + 1) a b)
  where
    go : (u : Bool) → eqb n 0 ≡ u → (checked_from (suc line) n (m + 1) l ≡ Ok (counts_of a b) → Totals n (m + 1) a b l) → Totals n m a b (Action k x ∷ l)
    go true e ih = absurd (no_fault line (rw e at q))
    go false e ih = let r = ih (rw e at q) in record { threads = r.threads; actions = omega (arith, r.actions) }
totals (Expects e ∷ l) line n m a b q = absurd (no_fault line q)

no_stop : {e : Expected} {a b : ℕ} → Err e ≡ Ok (counts_of a b) → ⊥
no_stop q = let z : ◌≡◌ {A = ℕ} 0 1 = cc in omega arith

-- a line adds at most one to each count
pub counted_more : (x : Said) (n m a b : ℕ) → counted_by x n m ≡ Ok (counts_of a b) → (a ≤ n + 1) × (b ≤ m + 1)
counted_more Nothing n m a b q =
    let p = same_counts q in
    (omega (arith, p.0, p.1), omega (arith, p.0, p.1))
counted_more (Thread t) n m a b q = go (eqb t n) refl
  where
    go : (u : Bool) → eqb t n ≡ u → (a ≤ n + 1) × (b ≤ m + 1)
    go true e =
        let r : Ok (counts_of (n + 1) m) ≡ Ok (counts_of a b) = rw e at q in
        let p = same_counts r in
        (omega (arith, p.0, p.1), omega (arith, p.0, p.1))
    go false e = absurd (no_stop (rw e at q))
counted_more (Action k x) n m a b q = go (eqb n 0) refl
  where
    go : (u : Bool) → eqb n 0 ≡ u → (a ≤ n + 1) × (b ≤ m + 1)
    go true e = absurd (no_stop (rw e at q))
    go false e =
        let r : Ok (counts_of n (m + 1)) ≡ Ok (counts_of a b) = rw e at q in
        let p = same_counts r in
        (omega (arith, p.0, p.1), omega (arith, p.0, p.1))
counted_more (Expects e) n m a b q = absurd (no_stop q)
