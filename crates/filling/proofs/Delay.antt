-- Delayed allocs, between the filled-out table and the memory limit: serial order is groups end to end, each an action that costs at least what it allocates, or an alloc with a fork and a join in front of threads whose actions cost as much. For any cost of an action; the memory limit uses `drawn_cost`.
use mathlib.Core.Path.{◌≡◌}
use Prim.Native.Nat.{ℕ, suc, ◌≤◌, ◌<◌}
use mathlib.Core.List.{List, [], ◌∷◌, ◌++◌, Memᴰ}
use mathlib.Core.Bool.{Bool, ◌&&◌}
use mathlib.Core.Logic.{◌⊎◌}
use lib.Dec.{eqb}
use Rattle.table.specs.Sum.{pick, sum_over}
use Rattle.table.specs.Format.{is, Table, kind}
use Rattle.table.specs.declared.kinds.Kind.TheVariants.{Work as work, Fork as fork, Join as join}
use Rattle.table.specs.Checks.{owner, alloc_of}
use Rattle.table.specs.Serial.{serial_order}
use Rattle.order.specs.Order.{number_of}
use Rattle.filling.specs.Filled.{drawn}

-- thread t has the body work, end
unfoldable pub is_leaf : Table → ℕ → Bool
is_leaf T t = eqb (T.count t) 2 && is work (kind T (T.first t))

-- what an action costs: at the work of such a body the whole quota, else what it draws
unfoldable pub drawn_cost : Table → ℕ → ℕ → ℕ
drawn_cost T K a = pick (is_leaf T (owner T a) && eqb a (T.first (owner T a))) K (drawn K (alloc_of T a))

-- an alloc with a fork y and its join in front, and the actions of the tree forked there
pub record Delay (T : Table) (cost : ℕ → ℕ) (y : ℕ) (g : List ℕ) : Type 0 where
  pub inside : suc (suc y) < T.actions
  pub forks : kind T y ≡ fork
  pub joins : kind T (suc y) ≡ join
  pub child : T.argument (suc y) ≡ T.argument y
  pub members : (a : ℕ) → Memᴰ a g
      → (a < T.actions) × ((a ≡ y) ⊎ (((number_of T y < number_of T a) × (number_of T a < number_of T (suc y))) ⊎ ((a ≡ suc y) ⊎ (a ≡ suc (suc y)))))
  pub alone : (a : ℕ) → Memᴰ a g → (a ≡ suc (suc y) → ⊥) → alloc_of T a ≡ 0
  pub covered : sum_over (alloc_of T) g ≤ sum_over cost g

pub data Group (T : Table) (cost : ℕ → ℕ) (g : List ℕ) : Type 0 where
  plain : (a : ℕ) → g ≡ a ∷ [] → alloc_of T a ≤ cost a → Group T cost g
  delayed : (y : ℕ) → Delay T cost y g → Group T cost g

-- groups one after the other
pub data Groups (T : Table) (cost : ℕ → ℕ) : List ℕ → Type 0 where
  no_group : Groups T cost []
  group : (g l : List ℕ) → Group T cost g → Groups T cost l → Groups T cost (g ++ l)

abbrev pub Delayed : Table → (ℕ → ℕ) → Type 0
Delayed T cost = Groups T cost (serial_order T)
