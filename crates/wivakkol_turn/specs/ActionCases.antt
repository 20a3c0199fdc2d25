-- The actions of E by number, computed on the definitions: 0 forks thread 1, 5 draws 6, 6 works, 11 is the last end, 12 is none.
use Rattle.std.specs.Prelude.{◌≡◌, refl, ℕ, List, [], ◌∷◌, map}
use Rattle.table.specs.Format.{code_of, table_of}
use Rattle.table.specs.Cases.{E}
use Rattle.wivakkol_turn.specs.Actions.{kind_code, argument_of}

pub e_kinds : map (kind_code E) (0 ∷ 5 ∷ 6 ∷ 11 ∷ 12 ∷ []) ≡ 4 ∷ 2 ∷ 1 ∷ 0 ∷ 255 ∷ []
unfolding code_of table_of kind_code
e_kinds = refl

pub e_arguments : map (argument_of E) (0 ∷ 5 ∷ 6 ∷ 11 ∷ 12 ∷ []) ≡ 1 ∷ 6 ∷ 0 ∷ 0 ∷ 0 ∷ []
unfolding code_of table_of argument_of
e_arguments = refl
