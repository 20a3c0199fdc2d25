-- `soundness::sound::links_sound` meets its contract: the row's front is the list that the links are read as.
use mathlib.Core.Path.{◌≡◌, ap, ◌∙◌}
use Prim.Native.Nat.{ℕ}
use mathlib.Core.List.{List, ◌++◌}
use mathlib.Core.Bool.{Bool, true, false, not}
use lib.ListN.{length, take, drop, replicate}
use Rattle.table.specs.Format.{Table}
use Rattle.schedule.specs.Links.{Links, walk, laid}
use Rattle.schedule.specs.Sound.{listed, same_links}
use Rattle.soundness.specs.Code.Checks.{links_sound}
use Rattle.soundness.proofs.Chains.{off, on, cut, pass}
use Rattle.soundness.proofs.Reading.{row_fits, row_size, row_front}
use Rattle.soundness.proofs.sound.links_sound.Goals as goal

module _ (T : Table) (next status left right : List ℕ) (t : ℕ) where
  abbrev given : Links
  given = record { left = left; right = right; head = t }

  abbrev there : List ℕ
  there = walk 1024 right t

  abbrev whole : Bool
  whole = links_sound T next status given

  module _ {len : ℕ} {row : List ℕ} (e : len ≡ length there) (h : row ≡ there ++ drop len (replicate 1024 0)) {b : Bool} (d : b ≡ listed T next status (take len row)) where
    in_list : b ≡ listed T next status there
    in_list = d ∙ ap (listed T next status) (row_front right t e h)

    not_listed : not b ≡ true → false ≡ whole
    not_listed n = cut (same_links given (laid there)) (off in_list n)

    by_links : not b ≡ false → {r : Bool} → r ≡ same_links given (laid (take len row)) → r ≡ whole
    by_links n f = pass (on in_list n) (f ∙ ap (λ (l : List ℕ). same_links given (laid l)) (row_front right t e h))

pub list_sound-requires : goal.list_sound-requires
list_sound-requires c = let right = c.args.right.now in
    let t = c.args.leftmost in record { accepted = c.requires.accepted; placed = c.requires.placed; len_bound = (row_fits right t c.read_row-len.ensures.value c.read_row-len.ensures.row_after, row_size right t c.read_row-len.ensures.value c.read_row-len.ensures.row_after) }

pub returns-then-not-list_sound : goal.returns-then-not-list_sound
returns-then-not-list_sound c =
    not_listed _ _ _ c.args.left.now c.args.right.now c.args.leftmost c.read_row-len.ensures.value c.read_row-len.ensures.row_after c.list_sound.ensures (ap not c.if-not-list_sound.true)

pub returns : goal.returns
returns c =
    by_links _ _ _ c.args.left.now c.args.right.now c.args.leftmost c.read_row-len.ensures.value c.read_row-len.ensures.row_after c.list_sound.ensures (ap not c.if-not-list_sound.false) c.describe.ensures
