-- The two numbers of an accepted table, from its facts and its peaks.
use mathlib.Core.Path.{◌≡◌, refl, ap}
use Prim.Native.Nat.{ℕ, ◌+◌, ◌-◌, ◌*◌, ◌≤◌, ◌<◌, min}
use native.Mathlib.Omega.{arith}
use mathlib.Core.List.{List}
use mathlib.Core.Bool.{Bool, true, false}
use borrow.Author.Tests.{ltb-true, ltb-false, ne_eqb}
use Rattle.table.specs.Sum.{any_below}
use Rattle.table.specs.Format.{Table, table_of}
use Rattle.table.specs.Checks.{alloc_of}
use Rattle.table.specs.Nested.{N}
use Rattle.table.specs.Load.{facts_of}
use Rattle.table.specs.declared.Facts.{Facts}
use Rattle.table.proofs.Nesting.{any_below_true}
use Rattle.table.proofs.NestedThreads.{nest_root, nest_most}
use Rattle.order.proofs.Lawful.{Lawful, lawful}
use Rattle.filling.specs.Filled.{big}
use Rattle.filling.proofs.FilledTable.{any_false}
use Rattle.peaks.specs.Peak.{peak_at}
use Rattle.quota.specs.Quota.{least_quota}
use Rattle.quota.specs.Code.Steps.{Accepted}
use Rattle.quota.proofs.Least.{least_exactly}
use Rattle.quota.proofs.Checks.{peak_is}
use Rattle.useful_limit.proofs.Gathered.{serial_small}
use Rattle.deque_limit.specs.declared.Bounds.{Bounds}
use Rattle.deque_limit.specs.ChoiceLimit.{near_limit, choice_limit, bounds_of}
use Rattle.deque_limit.specs.Asked.{Small}

-- ---- some alloc is above K exactly where K is below the least quota

module _ (T : Table) (K : ℕ) where
  pub some_big : 1 ≤ K → K < least_quota T → any_below (big T K) T.actions ≡ true
  unfolding big
  some_big some h = go (any_below (big T K) T.actions) refl
    where
      go : (q : Bool) → any_below (big T K) T.actions ≡ q → q ≡ true
      go true e = refl
      go false e =
          absurd (omega (arith, h, (least_exactly T K).1 (some, λ a w. ltb-false K (alloc_of T a) (any_false (big T K) T.actions e a w))))

  pub none_big : least_quota T ≤ K → any_below (big T K) T.actions ≡ false
  unfolding big
  none_big h = go (any_below (big T K) T.actions) refl
    where
      go : (q : Bool) → any_below (big T K) T.actions ≡ q → q ≡ false
      go true e =
          let (a, w, p) = any_below_true (big T K) T.actions e in
          absurd (omega (arith, ltb-true K (alloc_of T a) p, ((least_exactly T K).0 h).1 a w))
      go false e = refl

-- ---- the numbers

module _ {s : List ℕ} {f : Facts} (a : Accepted s f) where
  nested_is : f.nested ≡ N (table_of s)
  unfolding facts_of
  nested_is = ap (λ (x : Facts). x.nested) a.facts

  nested_some : 1 ≤ N (table_of s)
  nested_some =
      let l : Lawful (table_of s) = lawful s a.rules in
      omega (arith, nest_root (table_of s) l.contents l.bodies l.nesting l.forking l.some_thread, nest_most (table_of s) 0 l.some_thread)

  pub small : {K : ℕ} → K ≤ 16777215 → Small f.peak K f.nested
  small h =
      record { low = omega (arith, peak_is a, serial_small s a.rules); few_quota = h; some_level = omega (arith, nested_is, nested_some) }

  module _ (K : ℕ) {x : ℕ} (e : x ≡ peak_at (table_of s) 0 1) where
    pub near_big : 1 ≤ K → {y : ℕ} → y ≡ least_quota (table_of s) → K < y → x ≡ near_limit (table_of s) K
    unfolding near_limit
    near_big some d h = rw (some_big (table_of s) K some (omega (arith, d, h))) e

    pub near_least : {y z w : ℕ} → y ≡ least_quota (table_of s) → y ≤ K → z ≡ f.peak + K * (f.nested - 1) → w ≡ min x z → w ≡ near_limit (table_of s) K
    unfolding near_limit
    near_least d h g i = rw (none_big (table_of s) K (omega (arith, d, h)), i, g, e, peak_is a, nested_is)

module _ (T : Table) (K : ℕ) {x : ℕ} (e : x ≡ near_limit T K) where
  pub bounds_one : {c : ℕ} → c ≡ 1 → ◌≡◌ {A = Bounds} (record { memory = x; near = x }) (bounds_of T K c)
  unfolding bounds_of choice_limit
  bounds_one h = rw (h, e)

  pub bounds_more : {c y : ℕ} → (c ≡ 1 → ⊥) → y ≡ peak_at T 0 c → ◌≡◌ {A = Bounds} (record { memory = y; near = x }) (bounds_of T K c)
  unfolding bounds_of choice_limit
  bounds_more {c} h d = rw (ne_eqb c 1 h, e, d)
