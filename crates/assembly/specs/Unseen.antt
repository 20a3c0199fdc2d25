-- A line of a text by its number, and bytes in it that an editor may not show.
use Rattle.std.specs.Prelude.{ℕ, zero, suc, ◌-◌, ◌≡◌, refl, List, [], ◌∷◌, ◌++◌, ltb, length, take, drop}
use Rattle.table.specs.Sum.{pick}
use Rattle.text.specs.Text.{ascii}
use Rattle.assembly.specs.Words.{span_of, in_class, uncommented, same}
use Rattle.assembly.specs.declared.unseen.Unseen.{Unseen}
use Rattle.assembly.specs.declared.unseen.Unseen.TheVariants.{Nothing, Return, Mark}
use Rattle.assembly.specs.declared.scan.Class.TheVariants.{Line, Shown}

-- a text after its first line
abbrev pub after_line : List ℕ → List ℕ
after_line s = drop (suc (span_of (in_class Line) s)) s

-- after its first k lines
unfoldable pub after_lines : ℕ → List ℕ → List ℕ
after_lines zero s = s
after_lines (suc k) s = after_line (after_lines k s)

-- its first line
abbrev pub first_line : List ℕ → List ℕ
first_line s = take (span_of (in_class Line) s) s

-- a byte order mark at a line's start, or a carriage return before its comment
unfoldable pub unseen_in : List ℕ → Unseen
unseen_in l =
    pick (same (take 3 l) (239 ∷ 187 ∷ 191 ∷ [])) Mark
    (pick (ltb (span_of (in_class Shown) (uncommented l)) (length (uncommented l))) Return Nothing)

-- in the line with a number, counted from 1
abbrev pub unseen_at : List ℕ → ℕ → Unseen
unseen_at s line = unseen_in (first_line (after_lines (line - 1) s))

return_example : unseen_at (ascii "thread 0\nend" ++ (13 ∷ [])) 2 ≡ Return
unfolding span_of same after_lines unseen_in
return_example = refl

comment_example : unseen_at (ascii "alloc # six" ++ (13 ∷ [])) 1 ≡ Nothing
unfolding span_of same after_lines unseen_in
comment_example = refl

mark_example : unseen_at (239 ∷ 187 ∷ 191 ∷ ascii "thread 0\n") 1 ≡ Mark
unfolding span_of same after_lines unseen_in
mark_example = refl
