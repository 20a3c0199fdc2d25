-- What the code's inner functions require and promise.
use Rattle.std.specs.Prelude.{ℕ, ◌≤◌, ◌<◌, ◌≡◌, List, ◌∷◌, Bool, true, false, length, drop, Option, Some}
use Rattle.table.specs.Sum.{sum_to}
use Rattle.table.specs.Format.{threads_of, actions_of, table_of}
use Rattle.assembly.specs.Words.{no_number}
use Rattle.assembly.specs.Upto.{number_in}
use Rattle.assembly.specs.Said.{saids}
use Rattle.assembly.specs.Assembly.{is_thread, is_action, body_count, longest_text, checked}
use Rattle.assembly.specs.Unseen.{after_lines}
use Rattle.assembly.specs.declared.Said.{Said}
use Rattle.assembly.specs.declared.line.Line.{Line}
use Rattle.std.specs.Prelude.{Ok}
use Rattle.assembly.specs.Assembly.{counts_of}

-- a word's number, and its bound
pub record Numbered (most : ℕ) (w : List ℕ) (r : Option ℕ) : Type 0 where
  pub value : r ≡ number_in most w
  pub small : (x : ℕ) → r ≡ Some x → x ≤ most

-- the line that begins at a position, and where the next one begins
pub record Reads (s : List ℕ) (at : ℕ) (r : Line) : Type 0 where
  pub later : at < r.next
  pub within : r.next ≤ length s
  pub says : saids (drop at s) ≡ r.said ∷ saids (drop r.next s)

-- counts that one line more does not overflow
pub record Countable (n m : ℕ) : Type 0 where
  pub threads : n ≤ longest_text
  pub actions : m ≤ longest_text

-- a thread's line, or an action's
abbrev pub of_sort : Bool → Said → Bool
of_sort true x = is_thread x
of_sort false x = is_action x

pub record CountsBody (s : List ℕ) (at r : ℕ) : Type 0 where
  pub value : r ≡ body_count (saids (drop at s))
  pub small : r ≤ length s

-- a well-formed text's counts
pub record Sized (s : List ℕ) (n m : ℕ) : Type 0 where
  pub short : length s ≤ longest_text
  pub counts : checked (saids s) ≡ Ok (counts_of n m)

-- a word and a number that make a line of at most 15 bytes
pub record Operand (w : List ℕ) (x : ℕ) : Type 0 where
  pub short : length w ≤ 6
  pub small : x < no_number

-- where a text goes on after its first k lines
pub record After (s : List ℕ) (k r : ℕ) : Type 0 where
  pub rest : drop r s ≡ after_lines k s
  pub within : r ≤ length s

-- the sizes of an accepted table
pub record Listable (s : List ℕ) : Type 0 where
  pub threads : threads_of s ≤ 1024
  pub actions : actions_of s ≤ 8192
  pub counts : sum_to (table_of s).count (threads_of s) ≡ actions_of s
