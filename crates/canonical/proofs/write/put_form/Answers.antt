-- `canonical::write::put_form` meets its contract: head, entries and bodies one after another.
use mathlib.Core.Path.{◌≡◌, sym, ap, ◌∙◌}
use Prim.Native.Nat.{ℕ}
use mathlib.Core.List.{List, foldl-append}
use lib.ListN.{take}
use lib.Seq.{length-take-le}
use Rattle.table.specs.Format.{threads_of, actions_of}
use Rattle.text.specs.Text.{Buffer, buffer_at, placed, placed_next}
use Rattle.text.specs.Puts.{put_all}
use Rattle.rows.specs.Rows.{cut_pair, ordered_entries, ordered_rows, named_by}
use Rattle.canonical.specs.Code.Rows.{form_rows}
use Rattle.canonical.proofs.write.put_form.Goals as goal

all_put : (s names ts out : List ℕ) (n m : ℕ) → n ≡ threads_of s → m ≡ actions_of s → (o₁ o₂ o₃ : List ℕ) (k₁ k₂ k₃ : ℕ) → buffer_at o₁ k₁ ≡ placed out 0 (cut_pair n m)
    → buffer_at o₂ k₂ ≡ put_all (buffer_at o₁ k₁) (ordered_entries s 0 ts) → buffer_at o₃ k₃ ≡ put_all (buffer_at o₂ k₂) (ordered_rows s (named_by names) ts)
    → buffer_at o₃ k₃ ≡ put_all (buffer_at out 0) (form_rows s (named_by names) ts)
unfolding form_rows
all_put s names ts out n m e f o₁ o₂ o₃ k₁ k₂ k₃ p q r =
    let es : List (List ℕ) = ordered_entries s 0 ts in
    let rs : List (List ℕ) = ordered_rows s (named_by names) ts in
    let h : buffer_at o₁ k₁ ≡ placed out 0 (cut_pair (threads_of s) (actions_of s)) = p ∙ rw (e, f) in
    r
    ∙ ap (λ (b : Buffer). put_all b rs) q
    ∙ ap (λ (b : Buffer). put_all (put_all b es) rs) h
    ∙ sym (foldl-append placed_next (placed out 0 (cut_pair (threads_of s) (actions_of s))) es rs)

pub slice_bounds-threads_in-end : goal.slice_bounds-threads_in-end
slice_bounds-threads_in-end c = sym (length-take-le _ _ c.requires)

pub returns : goal.returns
returns c =
    let d = c.args in
    all_put d.table.now d.names.now (take d.n d.order.now) d.out.now c.threads.result c.actions.result c.threads.ensures.value c.actions.ensures.value _ _ _ _ _ _
    c.put_pair-at.ensures c.put_ordered-at.ensures c.put_bodies.ensures
