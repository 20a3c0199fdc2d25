-- What the checks' inner functions promise: one step of a pass, and the walk over one body.
use Rattle.std.specs.Prelude.{◌≡◌, ℕ, zero, suc, ◌+◌, ◌≤◌, ◌<◌, List, ◌∷◌, Bool, true, false, not, length, get_or, set, drop, ltb, Err, Ok, Result, None, Some, Option, ⊤}
use Rattle.table.specs.declared.Refusal.{Refusal}
use Rattle.table.specs.Sum.{pick, sum_to}
use Rattle.table.specs.Format.{is, Table}
use Rattle.table.specs.declared.kinds.Kind.{Kind}
use Rattle.table.specs.declared.kinds.Kind.TheVariants.{End as end, Work as work, Alloc as alloc, Free as free, Fork as fork, Join as join, Unknown as unknown}
use Rattle.table.specs.Pass.{Check, refusal}
use Rattle.table.specs.Checks.{argument_fits, differ, is_latest, is_empty, tail}
use Rattle.table.specs.Code.Steps.{amount_at}
use Rattle.checks.specs.declared.balance.Balance.{Balance}

-- ---- one action in the first pass: the number of the check that applies, if one does

unfoldable pub form_at : Kind → ℕ → ℕ → ℕ → Bool → Option ℕ
form_at k own n x last =
    pick (is unknown k) (Some 5) (pick (not (argument_fits k own n x)) (Some 6) (pick (differ (is end k) last) (Some 7) None))

-- the walk over the bodies has come to action a of the actions, in thread own whose body ends at stop; at the end of that body, or inside it
pub record Reached (T : Table) (own stop a : ℕ) : Type 0 where
  pub within : a < T.actions
  pub thread : own < T.threads
  pub from : T.first own ≤ a
  pub upto : a ≤ stop
  pub stops : stop ≡ T.first own + T.count own

pub record Holding (T : Table) (own stop a : ℕ) : Type 0 where
  pub thread : own < T.threads
  pub from : T.first own ≤ a
  pub upto : a < stop
  pub stops : stop ≡ T.first own + T.count own

-- what a number says at a place
abbrev pub found_at : Option ℕ → ℕ → Result ⊤ Refusal
found_at None place = Ok tt
found_at (Some k) place = Err (refusal k place)

-- ---- one action in the second pass: the number of the check that applies, if one does, the children then open, the threads then forked

pub record Nesting : Type 0 where
  pub number : Option ℕ
  pub stack : List ℕ
  pub forked : List Bool

abbrev pub nest : Option ℕ → List ℕ → List Bool → Nesting
nest number stack forked = record { number = number; stack = stack; forked = forked }

unfoldable pub nest_at : Kind → ℕ → List ℕ → List Bool → Nesting
nest_at end x stack forked = nest (pick (is_empty stack) None (Some 9)) stack forked
nest_at work x stack forked = nest None stack forked
nest_at alloc x stack forked = nest None stack forked
nest_at free x stack forked = nest None stack forked
nest_at fork x stack forked =
    pick (get_or forked x false) (nest (Some 8) stack forked) (nest None (x ∷ stack) (set forked x true))
nest_at join x stack forked = pick (is_latest x stack) (nest None (tail stack) forked) (nest (Some 9) stack forked)
nest_at unknown x stack forked = nest None stack forked

-- what an action may find: room for one more open child, and a child's number below 1,024
pub record NestReady (k : Kind) (x top : ℕ) (stack : List ℕ) (forked : List Bool) : Type 0 where
  pub stacked : length stack ≡ 1024
  pub marked : length forked ≡ 1024
  pub within : top ≤ 1024
  pub forks : k ≡ fork → x < 1024
  pub room : k ≡ fork → get_or forked x false ≡ false → 0 < top

-- an answer's check, and where the stack begins after it
abbrev pub broken : Result ℕ ℕ → Option ℕ
broken (Ok top) = None
broken (Err number) = Some number

abbrev pub top_after : ℕ → Result ℕ ℕ → ℕ
top_after top (Ok after) = after
top_after top (Err number) = top

-- what it leaves
pub record NestDone (k : Kind) (x top : ℕ) (stack : List ℕ) (forked : List Bool) (number : Option ℕ) (top' : ℕ) (stack' : List ℕ) (forked' : List Bool) : Type 0 where
  pub stacked : length stack' ≡ 1024
  pub within : top' ≤ 1024
  pub done : nest number (drop top' stack') forked' ≡ nest_at k x (drop top stack) forked

-- check 11 by the marks
abbrev pub unmarked : List Bool → Check
unmarked forked = record { number = 11; applies = λ t. not (get_or forked t false) }

-- ---- the walk over one body l

-- the least number below k that passes a test, if one does
abbrev pub first_next : Option ℕ → Bool → ℕ → Option ℕ
first_next None passes k = pick passes (Some k) None
first_next (Some i) passes k = Some i

unfoldable pub first_that : (ℕ → Bool) → ℕ → Option ℕ
first_that f zero = None
first_that f (suc k) = first_next (first_that f k) (f k) k

-- after action i the body has given back more than it drew
unfoldable pub overdrawn : List ℕ → List ℕ → List ℕ → ℕ → Bool
overdrawn l rises falls i = ltb (sum_to (amount_at alloc join l rises) (suc i)) (sum_to (amount_at free join l falls) (suc i))

-- what a body of count actions draws and gives back, and its first action after which it is overdrawn
unfoldable pub balance_of : List ℕ → List ℕ → List ℕ → ℕ → Balance
balance_of l rises falls count =
    record {
      rise = sum_to (amount_at alloc join l rises) count;
      fall = sum_to (amount_at free join l falls) count;
      below = first_that (overdrawn l rises falls) count;
    }
