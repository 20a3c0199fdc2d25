-- Several tables as one, on their bodies: "a new thread 0 forks each part's root in the order given, joins them in reverse, and ends; the parts' threads follow part by part".
use Rattle.std.specs.Prelude.{ℕ, zero, suc, ◌+◌, ◌*◌, max, List, [], ◌∷◌, ◌++◌, map, length}
use Rattle.table.specs.Format.{Table}
use Rattle.table.specs.Written.{Action, body_in}
use Rattle.parts.specs.Copies.{renamed_action}

-- the bodies of k threads from t on
unfoldable pub bodies_from : Table → ℕ → ℕ → List (List Action)
bodies_from T t zero = []
bodies_from T t (suc k) = body_in T t ∷ bodies_from T (suc t) k

abbrev pub bodies_in : Table → List (List Action)
bodies_in T = bodies_from T 0 T.threads

-- the numbers that the parts' roots get: the first is o, and each part takes as many as it has threads
unfoldable pub offsets : ℕ → List (List (List Action)) → List ℕ
offsets o [] = []
offsets o (bs ∷ bss) = o ∷ offsets (o + length bs) bss

-- "forks each part's root in the order given"
unfoldable pub forks : List ℕ → List Action
forks [] = []
forks (o ∷ os) = record { code = 4; argument = o } ∷ forks os

-- "joins them in reverse"
unfoldable pub joins_back : List ℕ → List Action
joins_back [] = []
joins_back (o ∷ os) = joins_back os ++ (record { code = 5; argument = o } ∷ [])

-- "and ends"
abbrev pub root_body : List ℕ → List Action
root_body os = forks os ++ (joins_back os ++ (record { code = 0; argument = 0 } ∷ []))

-- "the parts' threads follow part by part"
unfoldable pub part_bodies : ℕ → List (List (List Action)) → List (List Action)
part_bodies o [] = []
part_bodies o (bs ∷ bss) = map (map (renamed_action (λ x. o + x))) bs ++ part_bodies (o + length bs) bss

unfoldable pub joined_bodies : List (List (List Action)) → List (List Action)
joined_bodies bss = root_body (offsets 1 bss) ∷ part_bodies 1 bss

-- the greatest of 2i + d, i from its first on
unfoldable pub deepest : ℕ → List ℕ → ℕ
deepest i [] = 0
deepest i (d ∷ l) = max (2 * i + d) (deepest (suc i) l)
