-- The canonical form of a table: "the form in which threads are numbered by the serial order of their forks, the root staying 0".
use Rattle.std.specs.Prelude.{ℕ, List, [], ◌∷◌, map}
use Rattle.table.specs.Sum.{pick}
use Rattle.table.specs.Format.{is, Table, kind, table_of}
use Rattle.table.specs.declared.kinds.Kind.TheVariants.{Fork as fork}
use Rattle.table.specs.Serial.{serial_order}
use Rattle.order.specs.Words.{place_in}
use Rattle.table.specs.Written.{Action, body_in, written}
use Rattle.parts.specs.Copies.{renamed_action}

-- the threads that the forks among some actions name
unfoldable pub forks_in : Table → List ℕ → List ℕ
forks_in T [] = []
forks_in T (a ∷ l) = pick (is fork (kind T a)) (T.argument a ∷ forks_in T l) (forks_in T l)

-- "threads are numbered by the serial order of their forks, the root staying 0"
unfoldable pub thread_order : Table → List ℕ
thread_order T = 0 ∷ forks_in T (serial_order T)

abbrev pub new_number : Table → ℕ → ℕ
new_number T t = place_in t (thread_order T)

unfoldable pub canonical_bodies : Table → List (List Action)
canonical_bodies T = map (λ (t : ℕ). map (renamed_action (new_number T)) (body_in T t)) (thread_order T)

unfoldable pub canonical : List ℕ → List ℕ
canonical s = written (canonical_bodies (table_of s))
