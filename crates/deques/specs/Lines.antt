-- The deques as two lists of threads, and read back from them. Lines: deque by deque from the left, the owner's thread, then the deque's threads from the top to the bottom. Bottoms: the
-- last thread of each line.
use Rattle.std.specs.Prelude.{ℕ, suc, List, [], ◌∷◌, ◌++◌, map, Bool, ◌&&◌, ◌||◌, get_or, ltb, eqb}
use Rattle.table.specs.Sum.{pick}
use Rattle.schedule.specs.declared.Worker.{Worker}
use Rattle.schedule.specs.Machine.{held, nobody}
use Rattle.schedule.specs.Links.{no_thread, Links, list_of}
use Rattle.deques.specs.Deques.{Deque, deque, unowned, bottom}

-- ---- laid out; `thread` gives the thread that each worker holds

abbrev pub line : (ℕ → ℕ) → Deque → List ℕ
line thread d = pick (ltb d.owner unowned) (thread d.owner ∷ d.threads) d.threads

unfoldable pub lines_of : (ℕ → ℕ) → List Deque → List ℕ
lines_of thread [] = []
lines_of thread (d ∷ ds) = line thread d ++ lines_of thread ds

unfoldable pub bottoms_of : (ℕ → ℕ) → List Deque → List ℕ
bottoms_of thread [] = []
bottoms_of thread (d ∷ ds) = bottom (line thread d) ∷ bottoms_of thread ds

abbrev pub thread_of : List Worker → ℕ → ℕ
thread_of workers w = (get_or workers w nobody).thread

-- ---- read back

-- t comes first in the first
abbrev pub prepend : ℕ → List (List ℕ) → List (List ℕ)
prepend t [] = (t ∷ []) ∷ []
prepend t (k ∷ ks) = (t ∷ k) ∷ ks

-- cut after each that passes
unfoldable pub cut_after : (ℕ → Bool) → List ℕ → List (List ℕ)
cut_after f [] = []
cut_after f (t ∷ l) = pick (f t) ((t ∷ []) ∷ cut_after f l) (prepend t (cut_after f l))

-- the deque of a line: a first thread that is held is its owner's
abbrev pub deque_of : (ℕ → Bool) → (ℕ → ℕ) → List ℕ → Deque
deque_of is_held holder [] = deque unowned []
deque_of is_held holder (t ∷ l) = pick (is_held t) (deque (holder t) l) (deque unowned (t ∷ l))

-- the worker that holds thread t, the number of workers where none does
unfoldable pub holder_of : ℕ → List Worker → ℕ
holder_of t [] = 0
holder_of t (x ∷ l) = pick (x.holds && eqb x.thread t) 0 (suc (holder_of t l))

abbrev pub is_held : List ℕ → ℕ → Bool
is_held status t = eqb (get_or status t 0) held

-- thread t is in the list that the links describe
unfoldable pub linked_in : Links → ℕ → Bool
linked_in k t = ltb (get_or k.left t 0) no_thread || eqb k.head t

-- the deques of two lists in links, for any numbers whatever
unfoldable pub deques_from : Links → Links → List ℕ → List Worker → List Deque
deques_from lines bottoms status workers =
    map (deque_of (is_held status) (λ t. holder_of t workers)) (cut_after (linked_in bottoms) (list_of lines))
