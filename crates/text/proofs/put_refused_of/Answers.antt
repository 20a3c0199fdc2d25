-- `text::put_refused_of` meets its contract: its texts one after another.
use Prim.Native.Nat.{ℕ}
use mathlib.Core.Path.{◌≡◌}
use mathlib.Core.List.{List}
use Rattle.table.specs.declared.Refusal.{Refusal}
use Rattle.text.specs.Text.{decimal, refused_word, space, newline, refused_of, buffer_at, placed, placed_next}
use Rattle.text.specs.Puts.{put_all}
use Rattle.text.proofs.put_refused_of.Goals as goal

told : (s label : List ℕ) (q : Refusal) (i : ℕ) (o₁ o₂ o₃ o : List ℕ) (r₁ r₂ r₃ r : ℕ)
    → buffer_at o₁ r₁ ≡ placed_next (placed s 0 refused_word) (decimal q.number)
    → buffer_at o₂ r₂ ≡ placed_next (placed o₁ r₁ space) (decimal q.place)
    → buffer_at o₃ r₃ ≡ placed_next (placed o₂ r₂ label) (decimal i)
    → buffer_at o r ≡ placed o₃ r₃ newline
    → buffer_at o r ≡ put_all (buffer_at s 0) (refused_of q label i)
told s label q i o₁ o₂ o₃ o r₁ r₂ r₃ r e₁ e₂ e₃ e = rw (← e₁, ← e₂, ← e₃) e

pub returns : goal.returns
returns c =
    let d = c.args in
    told d.out.now d.label.now d.refusal d.index _ _ _ _ _ _ _ _ c.put_labelled-at.ensures c.put_labelled-at-2.ensures c.put_labelled-at-3.ensures c.put_word.ensures
