-- Words of tests, and of lists of numbers: all, any, how many, the place of an element, a list that rises, two that are the same, one that is filled up.
use Rattle.std.specs.Prelude.{ℕ, zero, suc, ◌-◌, List, [], ◌∷◌, ◌++◌, Bool, true, false, not, ◌&&◌, ◌||◌, length, replicate, ltb, eqb, Err, Ok, Result, ⊤}
use Rattle.table.specs.declared.Refusal.{Refusal}
use Rattle.table.specs.Sum.{pick, sum_to}

-- every number below k passes
unfoldable pub all_below : (ℕ → Bool) → ℕ → Bool
all_below f zero = true
all_below f (suc k) = all_below f k && f k

-- every element passes
unfoldable pub all_in : (ℕ → Bool) → List ℕ → Bool
all_in f [] = true
all_in f (x ∷ l) = f x && all_in f l

unfoldable pub member : ℕ → List ℕ → Bool
member x [] = false
member x (y ∷ l) = eqb x y || member x l

-- how many numbers below k pass
abbrev pub count_below : (ℕ → Bool) → ℕ → ℕ
count_below f k = sum_to (λ i. pick (f i) 1 0) k

-- two truth values that are the same
abbrev pub agree : Bool → Bool → Bool
agree true b = b
agree false b = not b

-- the place of an element in a list, the list's length where it is not there
unfoldable pub place_in : ℕ → List ℕ → ℕ
place_in x [] = 0
place_in x (y ∷ l) = pick (eqb x y) 0 (suc (place_in x l))

-- f rises along a list
abbrev pub rises_from : (ℕ → ℕ) → ℕ → List ℕ → Bool
rises_from f x [] = true
rises_from f x (y ∷ l) = ltb (f x) (f y) && rises_from f y l

unfoldable pub rises : (ℕ → ℕ) → List ℕ → Bool
rises f [] = true
rises f (x ∷ l) = rises_from f x l

abbrev pub is_nothing : Result ⊤ Refusal → Bool
is_nothing (Ok _) = true
is_nothing (Err x) = false

unfoldable pub same_list : List ℕ → List ℕ → Bool
same_list [] [] = true
same_list [] (y ∷ l) = false
same_list (x ∷ k) [] = false
same_list (x ∷ k) (y ∷ l) = eqb x y && same_list k l

-- a list filled up with 0 to a size: "Table bytes past its length .. are 0"
abbrev pub filled : ℕ → List ℕ → List ℕ
filled size l = l ++ replicate (size - length l) 0
