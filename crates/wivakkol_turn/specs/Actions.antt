-- What a caller asks of an action by its number: "Bodies, m actions of 4 bytes: kind (8 bits), argument (24 bits)". What is no action of the table has a kind
-- that no table has, and the argument 0.
use Rattle.std.specs.Prelude.{ℕ, List, ltb}
use Rattle.table.specs.Sum.{pick}
use Rattle.table.specs.Format.{actions_of, table_of}

abbrev pub no_kind : ℕ
no_kind = 255

unfoldable pub kind_code : List ℕ → ℕ → ℕ
kind_code s a = pick (ltb a (actions_of s)) ((table_of s).code a) no_kind

unfoldable pub argument_of : List ℕ → ℕ → ℕ
argument_of s a = pick (ltb a (actions_of s)) ((table_of s).argument a) 0
