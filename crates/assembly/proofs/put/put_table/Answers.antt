-- `assembly::put::put_table` meets its contract: the head, the entries and the actions, one after another.
use Prim.Native.Nat.{ℕ}
use mathlib.Core.Path.{◌≡◌, sym, ap, ◌∙◌}
use mathlib.Core.List.{List, ◌∷◌, ◌++◌, foldl-append}
use Rattle.text.specs.Text.{Buffer, buffer_at, placed, placed_next}
use Rattle.text.specs.Puts.{put_all}
use Rattle.assembly.specs.Said.{saids}
use Rattle.assembly.specs.Assembly.{pair_row, entries_from, actions_in}
use Rattle.assembly.proofs.put.put_table.Goals as goal

all : (s o p q : List ℕ) (j k r : ℕ) (row : List ℕ) (es bs : List (List ℕ)) → buffer_at o j ≡ placed s 0 row → buffer_at p k ≡ put_all (buffer_at o j) es → buffer_at q r ≡ put_all (buffer_at p k) bs
    → buffer_at q r ≡ put_all (buffer_at s 0) (row ∷ es ++ bs)
all s o p q j k r row es bs a b c =
    c
    ∙ ap (λ (z : Buffer). put_all z bs) b
    ∙ ap (λ (z : Buffer). put_all (put_all z es) bs) a
    ∙ sym (foldl-append placed_next (placed s 0 row) es bs)

pub put_entries-at-requires : goal.put_entries-at-requires
put_entries-at-requires c = c.requires

pub returns : goal.returns
returns c = let a = c.args in let l = saids a.text.now in all _ _ _ _ _ _ _ (pair_row a.n a.m) (entries_from 0 l) (actions_in l) c.put_pair-at.ensures c.put_entries-at.ensures c.put_actions.ensures
