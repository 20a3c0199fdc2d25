-- The clauses on the deques as one walk along the lines, with no deque in it: of a record that keeps what any kind of run keeps it is the same test (`stand_exactly`, proofs/DequeWalks).
use Rattle.std.specs.Prelude.{ℕ, List, [], ◌∷◌, Bool, true, not, ◌&&◌, ◌||◌, get_or, eqb}
use Rattle.table.specs.Sum.{pick}
use Rattle.schedule.specs.Machine.{ready}
use Rattle.schedule.specs.Links.{Links, list_of, laid}
use Rattle.schedule.specs.Record.{table_in, links_in}
use Rattle.schedule.specs.Sound.{same_links}
use Rattle.order.specs.Words.{all_below, member, agree}
use Rattle.deques.specs.declared.DequeRun.{DequeRun}
use Rattle.deques.specs.DequeRecord.{bottoms_in}
use Rattle.deques.specs.DequeSound.{record_sound}
use Rattle.deques.specs.Lines.{is_held, linked_in}

abbrev pub is_ready : List ℕ → ℕ → Bool
is_ready status t = eqb (get_or status t 0) ready

-- no thread stands twice
unfoldable pub once_in : List ℕ → Bool
once_in [] = true
once_in (t ∷ l) = not (member t l) && once_in l

-- a held thread stands only first in a line, any other is ready, and the last is a bottom; `first`: here a line begins
unfoldable pub in_lines : (ℕ → Bool) → List ℕ → Bool → List ℕ → Bool
in_lines isBottom status first [] = first
in_lines isBottom status first (t ∷ l) = pick (is_held status t) first (is_ready status t) && in_lines isBottom status (isBottom t) l

-- the bottoms of a row, in its order
unfoldable pub bottoms_along : (ℕ → Bool) → List ℕ → List ℕ
bottoms_along isBottom [] = []
bottoms_along isBottom (t ∷ l) = pick (isBottom t) (t ∷ bottoms_along isBottom l) (bottoms_along isBottom l)

unfoldable pub deques_stand : ℕ → List ℕ → Links → Links → Bool
deques_stand n status lines bottoms =
    once_in (list_of lines)
    && (in_lines (linked_in bottoms) status true (list_of lines)
    && (all_below (λ t. agree (member t (list_of lines)) (is_ready status t || is_held status t)) n
    && (same_links lines (laid (list_of lines))
    && same_links bottoms (laid (bottoms_along (linked_in bottoms) (list_of lines))))))

-- a sound record by this test (`deque_tested_is`, proofs/DequeWalks)
unfoldable pub deque_tested : DequeRun → Bool
deque_tested r = record_sound r && deques_stand (table_in r.run).threads r.run.status (links_in r.run) (bottoms_in r)
