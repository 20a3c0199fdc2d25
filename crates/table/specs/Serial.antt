-- Serial order and the serial peak S1 (document 01, "Serial order, peak, depth").
use Rattle.std.specs.Prelude.{ℕ, zero, suc, ◌-◌, List, [], ◌∷◌, ◌++◌, map}
use Rattle.table.specs.Sum.{sum_over, greatest}
use Rattle.table.specs.Format.{Table, kind}
use Rattle.table.specs.declared.kinds.Kind.{Kind}
use Rattle.table.specs.declared.kinds.Kind.TheVariants.{End as end, Work as work, Alloc as alloc, Free as free, Fork as fork, Join as join, Unknown as unknown}
use Rattle.table.specs.Checks.{alloc_of, free_of}

-- The actions from an action of the kind given to its thread's end: "a forked child runs to its end, its own children included, before the thread
-- that forked it goes on". Each step goes to a higher action, so the count of actions is fuel enough; the laws `serial_end`, `serial_fork` and
-- `serial_step` (proofs/Serial) are the same sentence without it.
unfoldable pub serial_within : ℕ → Table → ℕ → Kind → List ℕ
serial_within zero T a k = []
serial_within (suc f) T a end = a ∷ []
serial_within (suc f) T a work = a ∷ serial_within f T (suc a) (kind T (suc a))
serial_within (suc f) T a alloc = a ∷ serial_within f T (suc a) (kind T (suc a))
serial_within (suc f) T a free = a ∷ serial_within f T (suc a) (kind T (suc a))
serial_within (suc f) T a fork =
    a
    ∷ serial_within f T (T.first (T.argument a)) (kind T (T.first (T.argument a)))
    ++ serial_within f T (suc a) (kind T (suc a))
serial_within (suc f) T a join = a ∷ serial_within f T (suc a) (kind T (suc a))
serial_within (suc f) T a unknown = a ∷ serial_within f T (suc a) (kind T (suc a))

abbrev pub serial : Table → ℕ → List ℕ
serial T a = serial_within T.actions T a (kind T a)

-- the serial order of the whole table: from the root's first action
abbrev pub serial_order : Table → List ℕ
serial_order T = serial T (T.first 0)

-- the front parts of a list, "the empty one included"
unfoldable pub fronts : List ℕ → List (List ℕ)
fronts [] = [] ∷ []
fronts (x ∷ l) = [] ∷ map (x ∷◌) (fronts l)

-- the "amount held": what the allocs drew less what the frees gave back. No front part of an accepted table's serial order frees more than it drew
-- (`serial_held`, proofs/Peaks), and the empty one holds 0, so a difference cut off at 0 is the amount.
unfoldable pub held_after : Table → List ℕ → ℕ
held_after T l = sum_over (alloc_of T) l - sum_over (free_of T) l

unfoldable pub peak_of : Table → List ℕ → ℕ
peak_of T l = greatest (held_after T) (fronts l)

-- "S1 is the highest amount held after any prefix of that order, the empty one included."
unfoldable pub S1 : Table → ℕ
S1 T = peak_of T (serial_order T)
