-- The arrays that are lent to a turn, and the links that stand in them.
use Rattle.std.specs.Prelude.{ℕ, suc, max, List, get_or, set}
use Rattle.table.specs.Format.{Table, actions_of, first_of, count_of, bodies_from, code_at, argument_at}
use Rattle.schedule.specs.Links.{Links, list_of}
use Rattle.array_machine.specs.declared.Totals.{Totals}

-- of each thread its next action, its status, its amount, its neighbours in the list (left, right) and those in the second list (under, over)
pub record Arrays : Type 0 where
  pub next : List ℕ
  pub status : List ℕ
  pub amounts : List ℕ
  pub left : List ℕ
  pub right : List ℕ
  pub under : List ℕ
  pub over : List ℕ

abbrev pub arrays : List ℕ → List ℕ → List ℕ → List ℕ → List ℕ → List ℕ → List ℕ → Arrays
arrays next status amounts left right under over =
    record { next = next; status = status; amounts = amounts; left = left; right = right; under = under; over = over }

abbrev pub links : List ℕ → List ℕ → ℕ → Links
links left right head = record { left = left; right = right; head = head }

-- the links of the list, and of the second list
abbrev pub links_of : Arrays → Totals → Links
links_of A totals = links A.left A.right totals.leftmost

abbrev pub second_of : Arrays → Totals → Links
second_of A totals = links A.under A.over totals.first

-- the list that stands in them
abbrev pub listed_in : Arrays → Totals → List ℕ
listed_in A totals = list_of (links_of A totals)

-- the action at which thread t is, and the amount that it holds
abbrev pub action_in : Arrays → ℕ → ℕ
action_in A t = get_or A.next t 0

abbrev pub amount_in : Arrays → ℕ → ℕ
amount_in A t = get_or A.amounts t 0

-- ---- the small moves

abbrev pub with_statuses : List ℕ → Arrays → Arrays
with_statuses status A = arrays A.next status A.amounts A.left A.right A.under A.over

abbrev pub with_amounts : List ℕ → Arrays → Arrays
with_amounts amounts A = arrays A.next A.status amounts A.left A.right A.under A.over

-- the thread's next action is done
abbrev pub advanced_in : ℕ → Arrays → Arrays
advanced_in t A = arrays (set A.next t (suc (action_in A t))) A.status A.amounts A.left A.right A.under A.over

-- the links given are those of the list and of the second list
abbrev pub relinked : Links → Links → Arrays → Arrays
relinked list second A = arrays A.next A.status A.amounts list.left list.right second.left second.right

abbrev pub headed : Links → Links → Totals → Totals
headed list second totals = record { leftmost = list.head; first = second.head; held = totals.held; highest = totals.highest }

-- "memory held, its highest so far"
abbrev pub holding : ℕ → Totals → Totals
holding h totals = record { leftmost = totals.leftmost; first = totals.first; held = h; highest = max totals.highest h }

-- ---- the table

-- bytes read as a table of n threads: for n as they say, `table_of` (`own_table`, proofs/Reading)
unfoldable pub table_from : List ℕ → ℕ → Table
table_from s n =
    record { threads = n; actions = actions_of s; first = first_of s; count = count_of s; code = code_at (bodies_from s n); argument = argument_at (bodies_from s n) }
