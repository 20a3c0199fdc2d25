-- Marks to come back to (N11), in lent memory, whatever it holds: setting one, going back to one, clearing them.
use Rattle.std.specs.Prelude.{◌≡◌, ℕ, zero, suc, ◌*◌, List, [], ◌∷◌, Bool, not, ◌&&◌, ◌||◌, get_or, set, replicate, ltb, eqb}
use Rattle.table.specs.Sum.{pick}
use Rattle.order.specs.Words.{all_below}
use Rattle.run_memory.specs.Memory.{Memory, memory}
use Rattle.run_memory.specs.Blocks.{part, memory_of}
use Rattle.run_memory.specs.Places.{of_workers}
use Rattle.run_memory.specs.Stands.{workers_in}
use Rattle.wivakkol.specs.Lent.{blank_memory}
use Rattle.wivakkol.specs.Opened.{sound_in, blank_in, lent_open}

-- "A run has eight marks, 0 to 7": of each whether it is set, 0 if not, and the memory of a run; what an unset mark has there is not looked at
pub record Marks : Type 0 where
  pub set : List ℕ
  pub kept : List Memory

abbrev pub marks : List ℕ → List Memory → Marks
marks set kept = record { set = set; kept = kept }

-- mark i in the lent blocks, one for each width of numbers: the i-th stretch of each is the block of a run
abbrev pub memory_at : List ℕ → List ℕ → List ℕ → List ℕ → ℕ → Memory
memory_at bytes words numbers sums i =
    memory_of (part (1040 * i) 1040 bytes) (part (6163 * i) 6163 words) (part (18 * i) 18 numbers) (part (1027 * i) 1027 sums)

-- n values of a function, from i on
unfoldable pub row_from : {A : Type 0} → (ℕ → A) → ℕ → ℕ → List A
row_from f i zero = []
row_from f i (suc n) = f i ∷ row_from f (suc i) n

abbrev pub marks_of : List ℕ → List ℕ → List ℕ → List ℕ → List ℕ → Marks
marks_of set bytes words numbers sums = marks set (row_from (memory_at bytes words numbers sums) 0 8)

-- a mark's memory as it is read: of a worker that holds a thread, the number that says so may be any but 0
abbrev pub mended : Memory → Memory
mended M =
    memory M.settings M.parents M.arrays (of_workers (λ x. pick x.holds 1 0) (workers_in M)) (of_workers (λ x. x.thread) (workers_in M)) (of_workers (λ x. x.quota) (workers_in M))
    M.heads M.totals

abbrev pub is_set_in : Marks → ℕ → Bool
is_set_in K i = not (eqb (get_or K.set i 0) 0)

abbrev pub mark_in : Marks → ℕ → Memory
mark_in K i = mended (get_or K.kept i blank_memory)

-- 32 does not apply to the record that stands in the memory: it is sound, or the blank one, as opening it tests
unfoldable pub fit_in : List ℕ → Memory → Bool
fit_in s M = sound_in s M || blank_in M

-- "32 looks at the run and at every set mark"
unfoldable pub fit_marks : List ℕ → Marks → Bool
fit_marks s K = all_below (λ i. not (is_set_in K i) || fit_in s (mark_in K i)) 8

unfoldable pub fit_marked : List ℕ → Memory → Marks → Bool
fit_marked s M K = fit_in s M && fit_marks s K

-- "45 mark above 7; 46 mark not set, on going back only; both after 32, in this order"; 0 where none applies
unfoldable pub mark_fault : List ℕ → Memory → Marks → ℕ → ℕ
mark_fault s M K i = pick (fit_marked s M K) (pick (ltb i 8) 0 45) 32

unfoldable pub back_fault : List ℕ → Memory → Marks → ℕ → ℕ
back_fault s M K i = pick (fit_marked s M K) (pick (ltb i 8) (pick (is_set_in K i) 0 46) 45) 32

-- a call's number and the marks after it
pub record Setting : Type 0 where
  pub number : ℕ
  pub marks : Marks

abbrev pub setting : ℕ → Marks → Setting
setting number K = record { number = number; marks = K }

-- "Setting one stores the run as it is"; "Setting again replaces". Refused: the marks as they were
unfoldable pub lent_mark : List ℕ → ℕ → Memory → Marks → Setting
lent_mark s i M K =
    let n : ℕ = mark_fault s M K i in
    pick (eqb n 0) (setting 0 (marks (set K.set i 1) (set K.kept i M))) (setting n K)

-- a call's number and the run's memory after it
pub record Going : Type 0 where
  pub number : ℕ
  pub memory : Memory

abbrev pub going : ℕ → Memory → Going
going number M = record { number = number; memory = M }

-- "going back restores exactly that run, turns and peak too", and opens it: each thread's parent and the second list are made anew. Refused: the run as it was
unfoldable pub lent_back : List ℕ → ℕ → Memory → Marks → Going
lent_back s i M K =
    let n : ℕ = back_fault s M K i in
    pick (eqb n 0) (going 0 (lent_open s (mark_in K i)).memory) (going n M)

-- "none set at the beginning"
abbrev pub lent_unmark : Marks → Marks
lent_unmark K = marks (replicate 8 0) K.kept

-- the working memory after a call that tests: a run's four blocks, the parts of it that are tested, and what the test works in
abbrev pub Cleared : List ℕ → List ℕ → List ℕ → List ℕ → List ℕ → List ℕ → List ℕ → List ℕ → List ℕ → List ℕ → List ℕ → List ℕ → List ℕ → List ℕ → Type 0
Cleared bytes words numbers sums next status amounts left right rises falls forks seen list =
    (bytes ≡ replicate 1040 0) × (words ≡ replicate 6163 0) × (numbers ≡ replicate 18 0) × (sums ≡ replicate 1027 0) × (next ≡ replicate 1024 0) × (status ≡ replicate 1024 0)
    × (amounts ≡ replicate 1024 0) × (left ≡ replicate 1024 0) × (right ≡ replicate 1024 0) × (rises ≡ replicate 1024 0) × (falls ≡ replicate 1024 0) × (forks ≡ replicate 1024 0)
    × (seen ≡ replicate 1024 0) × (list ≡ replicate 1024 0)
