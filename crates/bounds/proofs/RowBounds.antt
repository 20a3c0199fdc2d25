-- From draws to bounds: an amount that in every sound state is at most a base and what is spent beyond the first action not done. After a row that keeps the rule with b it is at most the
-- base and the budgets of b·(p − 1)·(D − 1) batches. Memory held and the threads in the list are two instances.
use mathlib.Core.Path.{◌≡◌, refl}
use Prim.Native.Nat.{ℕ, zero, suc, ◌+◌, ◌-◌, ◌*◌, ◌≤◌, ◌<◌}
use native.Mathlib.Omega.{arith}
use native.Mathlib.Decide.{ℕ_discrete}
use native.Mathlib.Nat.{mul-suc, mul-zero, mul-le-mul_left}
use mathlib.Core.List.Memᴰ
use mathlib.Core.List.{List, [], ◌∷◌}
use mathlib.Core.Bool.{false}
use Rattle.table.specs.Format.{Table}
use Rattle.table.specs.Level.{level, D}
use Rattle.schedule.specs.Machine.{State, ended, next_of, status_of}
use Rattle.schedule.specs.Begin.{start_state}
use Rattle.schedule.specs.Sound.{is_done}
use Rattle.schedule.specs.Memory.{row_state, Keeps}
use Rattle.order.proofs.Lawful.{Lawful}
use Rattle.schedule.proofs.Sound.Facts.{Facts}
use Rattle.schedule.proofs.Sound.Done.{next_below}
use Rattle.schedule.proofs.Preservation.Starts.{start_facts}
use Rattle.schedule.proofs.Runs.Rows.{row_facts}
use Rattle.schedule.proofs.Bounds.Beyond.{batches, Enabled}
use Rattle.bounds.proofs.Batches.{batches_few, batches_none}
use Rattle.order.proofs.Depth.{level_depth}
use Rattle.schedule.proofs.Sound.Leftmost.{leftmost_enabled, leftmost_undone}
use Rattle.bounds.proofs.Draws.{spent_beyond}
use Rattle.order.proofs.Lists.{Below}

-- what n batches of a budget draw, with n + B ≤ B·v and v ≤ d
draws_bound : (budget n B v d : ℕ) → n + B ≤ B * v → v ≤ d → budget * n ≤ budget * (B * (d - 1))
draws_bound budget n B v zero h i =
    let e : v ≡ 0 = omega arith in
    mul-le-mul_left budget (omega (arith, rw (e, mul-zero) at h))
draws_bound budget n B v (suc d) h i =
    let e : suc d - 1 ≡ d = omega arith in
    rw e (mul-le-mul_left budget (omega (arith, mul-le-mul_left B i, mul-suc B d)))

-- a sound state whose root has not ended has a leftmost thread
unended_listed : (T : Table) (l : Lawful T) (p K : ℕ) (st : State) (f : Facts T p K st) → (status_of st 0 ≡ ended → ⊥)
    → (t : ℕ) × (others : List ℕ) × (st.list ≡ t ∷ others) × (t < T.threads)
unended_listed T l p K st f n = go st.list refl
  where
    go : (k : List ℕ) → st.list ≡ k → (t : ℕ) × (others : List ℕ) × (st.list ≡ t ∷ others) × (t < T.threads)
    go [] e = absurd (Memᴰ.not-nil (rw e at (f.live_listed 0 l.some_thread f.root_born n)))
    go (t ∷ others) e = (t, others, e, f.list_below t (rw e (Memᴰ.head refl)))

-- In a sound state, the amount is at most the base once the root has ended. While it has not, the leftmost thread's next action is the first that is not done, and the amount is at most
-- the base and what the actions done beyond it cost.
pub record Covered (T : Table) (p K : ℕ) (amount : State → ℕ) (base : ℕ) (cost : ℕ → ℕ) : Type 0 where
  pub at_end_lem : (st : State) → Facts T p K st → status_of st 0 ≡ ended → amount st ≤ base
  pub before : (st : State) → Facts T p K st → (t : ℕ) (others : List ℕ) → st.list ≡ t ∷ others → t < T.threads → amount st ≤ base + spent_beyond T cost st (next_of st t)

-- the actions done beyond an action that is not done cost at most a budget for each batch begun beyond it
abbrev pub Draws : Table → ℕ → ℕ → (ℕ → ℕ) → ℕ → Type 0
Draws T p K cost budget =
    (row : List ℕ) → Below p row → (v : ℕ) → v < T.actions → is_done T (row_state T K (start_state T) row) v ≡ false
    → spent_beyond T cost (row_state T K (start_state T) row) v ≤ budget * batches T K (start_state T) row v

module _ (T : Table) (l : Lawful T) (p K : ℕ) (some : 1 ≤ p) (few : p ≤ 16) (amount : State → ℕ) (base : ℕ) (cost : ℕ → ℕ) (budget : ℕ)
    (covered : Covered T p K amount base cost) (draws : Draws T p K cost budget) where
  module _ (row : List ℕ) (h : Below p row) where
    abbrev after : State
    after = row_state T K (start_state T) row

    facts : Facts T p K after
    facts = row_facts T l p K few (start_state T) (start_facts T l p K) row h

    -- at most the base, and what the batches begun beyond an enabled action may draw
    row_drawn : (status_of after 0 ≡ ended → ⊥) → (t : ℕ) × Enabled T after t × (amount after ≤ base + budget * batches T K (start_state T) row (next_of after t))
    row_drawn n =
        let (t, others, e, i) = unended_listed T l p K after facts n in (
          t,
          leftmost_enabled T l p K after facts t others e,
          omega (
            arith,
            covered.before after facts t others e i,
            draws row h (next_of after t) (next_below T l p K after facts t i) (leftmost_undone T l p K after facts t others e),
          ),
        )

    pub row_within : (b : ℕ) → Keeps b row → amount after ≤ base + budget * (b * (p - 1) * (D T - 1))
    row_within b r = go (ℕ_discrete (status_of after 0) ended)
      where
        go : Dec (status_of after 0 ≡ ended) → amount after ≤ base + budget * (b * (p - 1) * (D T - 1))
        go (yes e) = omega (arith, covered.at_end_lem after facts e)
        go (no n) =
            let (t, e, i) = row_drawn n in
            let v : ℕ = next_of after t in
            let j : level T v ≤ D T = level_depth T l.contents l.bodies l.nesting l.forking v (next_below T l p K after facts t e.below) in
            omega (arith, i, draws_bound budget (batches T K (start_state T) row v) (b * (p - 1)) (level T v) (D T) (batches_few T l p K some few b row h r t e) j)

    pub row_serial : p ≡ 1 → amount after ≤ base
    row_serial e = go (ℕ_discrete (status_of after 0) ended)
      where
        go : Dec (status_of after 0 ≡ ended) → amount after ≤ base
        go (yes i) = covered.at_end_lem after facts i
        go (no n) =
            let (t, q, i) = row_drawn n in
            omega (arith, rw (batches_none T l p K some few e row h t q, mul-zero) at i)
