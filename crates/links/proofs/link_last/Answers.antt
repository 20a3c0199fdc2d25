-- `links::link_last` meets its contract: its three writes are those of `link_last`.
use mathlib.Core.Path.{◌≡◌}
use Prim.Native.Nat.{ℕ, ◌≤◌, ◌<◌}
use mathlib.Core.List.{List}
use lib.ListN.{set}
use borrow.Author.Tests.{lt-ltb, le-ltb}
use Rattle.schedule.specs.Links.{Links, no_thread, link_last}
use Rattle.links.proofs.link_last.Goals as goal

module _ (left right : List ℕ) (leftmost c y : ℕ) (left₁ right₁ right₂ : List ℕ) (a : left₁ ≡ set left c y) (b : right₁ ≡ set right y c) (d : right₂ ≡ set right₁ c no_thread) where
  abbrev Linked : ℕ → Type 0
  Linked r = ◌≡◌ {A = Links} (record { left = left₁; right = right₂; head = r }) (link_last c y (record { left = left; right = right; head = leftmost }))

  inner : y < no_thread → Linked leftmost
  unfolding link_last
  inner h = rw (a, d, b, lt-ltb y no_thread h)

  first : no_thread ≤ y → Linked c
  unfolding link_last
  first h = rw (a, d, b, le-ltb y no_thread h)

pub returns-then-y-lt-NO_THREAD : goal.returns-then-y-lt-NO_THREAD
returns-then-y-lt-NO_THREAD c =
    inner _ _ _ _ _ _ _ _ c.put.ensures c.put-2.ensures c.put-3.ensures c.if-y-lt-NO_THREAD.true

pub returns-else-y-lt-NO_THREAD : goal.returns-else-y-lt-NO_THREAD
returns-else-y-lt-NO_THREAD c =
    first _ _ _ _ _ _ _ _ c.put.ensures c.put-2.ensures c.put-3.ensures c.if-y-lt-NO_THREAD.false
