-- `joining::write::put_joined` meets its contract: the rows one after another.
use mathlib.Core.Path.{◌≡◌, sym, ap, ◌∙◌}
use Prim.Native.Nat.{ℕ, suc, ◌+◌, ◌*◌}
use mathlib.Core.List.{List, [], ◌∷◌, ◌++◌, append_assoc, foldl-append}
use native.Mathlib.Omega.{arith}
use lib.ListN.{length}
use Rattle.table.specs.Format.{code_of}
use Rattle.text.specs.Text.{Buffer, buffer_at, placed, placed_next}
use Rattle.text.specs.Puts.{put_all}
use Rattle.rows.specs.Rows.{cut_pair, cut_action}
use Rattle.joining.specs.Answers.{parts_of}
use Rattle.joining.specs.Code.Rows.{starts_over, entries_over, moved_over, fork_rows, join_rows, threads_over, actions_over, joined_rows}
use Rattle.joining.proofs.Splits.{parts_length}
use Rattle.joining.proofs.write.put_joined.Goals as goal

-- rows, and more of them after
more : (b : Buffer) (xs ys : List (List ℕ)) (o p : List ℕ) (k j : ℕ) → buffer_at o k ≡ put_all b xs → buffer_at p j ≡ put_all (buffer_at o k) ys → buffer_at p j ≡ put_all b (xs ++ ys)
more b xs ys o p k j e f = f ∙ ap (λ (c : Buffer). put_all c ys) e ∙ sym (foldl-append placed_next b xs ys)

same : (h r e : List ℕ) (es fs js ms : List (List ℕ)) → (((((h ∷ r ∷ []) ++ es) ++ fs) ++ js) ++ (e ∷ [])) ++ ms ≡ h ∷ r ∷ (es ++ ((fs ++ (js ++ (e ∷ []))) ++ ms))
same h r e es fs js ms = simp append_assoc

put_all_lem : (b : Buffer) (h r e : List ℕ) (es fs js ms : List (List ℕ)) (o₁ o₂ o₃ o₄ o₅ o₆ o₇ : List ℕ) (k₁ k₂ k₃ k₄ k₅ k₆ k₇ : ℕ)
    → buffer_at o₁ k₁ ≡ placed_next b h → buffer_at o₂ k₂ ≡ placed o₁ k₁ r → buffer_at o₃ k₃ ≡ put_all (buffer_at o₂ k₂) es → buffer_at o₄ k₄ ≡ put_all (buffer_at o₃ k₃) fs
    → buffer_at o₅ k₅ ≡ put_all (buffer_at o₄ k₄) js → buffer_at o₆ k₆ ≡ placed o₅ k₅ e → buffer_at o₇ k₇ ≡ put_all (buffer_at o₆ k₆) ms
    → buffer_at o₇ k₇ ≡ put_all b (h ∷ r ∷ (es ++ ((fs ++ (js ++ (e ∷ []))) ++ ms)))
put_all_lem b h r e es fs js ms o₁ o₂ o₃ o₄ o₅ o₆ o₇ k₁ k₂ k₃ k₄ k₅ k₆ k₇ p₁ p₂ p₃ p₄ p₅ p₆ p₇ =
    let two : List (List ℕ) = h ∷ r ∷ [] in
    let q₂ : buffer_at o₂ k₂ ≡ put_all b two = more b (h ∷ []) (r ∷ []) o₁ o₂ k₁ k₂ p₁ p₂ in
    let q₃ : buffer_at o₃ k₃ ≡ put_all b (two ++ es) = more b two es o₂ o₃ k₂ k₃ q₂ p₃ in
    let q₄ : buffer_at o₄ k₄ ≡ put_all b ((two ++ es) ++ fs) = more b (two ++ es) fs o₃ o₄ k₃ k₄ q₃ p₄ in
    let q₅ : buffer_at o₅ k₅ ≡ put_all b (((two ++ es) ++ fs) ++ js) = more b ((two ++ es) ++ fs) js o₄ o₅ k₄ k₅ q₄ p₅ in
    let q₆ : buffer_at o₆ k₆ ≡ put_all b ((((two ++ es) ++ fs) ++ js) ++ (e ∷ [])) = more b (((two ++ es) ++ fs) ++ js) (e ∷ []) o₅ o₆ k₅ k₆ q₅ p₆ in
    let q₇ : buffer_at o₇ k₇ ≡ put_all b (((((two ++ es) ++ fs) ++ js) ++ (e ∷ [])) ++ ms) = more b ((((two ++ es) ++ fs) ++ js) ++ (e ∷ [])) ms o₆ o₇ k₆ k₇ q₆ p₇ in
    q₇ ∙ ap (put_all b) (same h r e es fs js ms)

joined_put : (ps : List (List ℕ)) (n m q k : ℕ) → n ≡ suc (threads_over ps) → m ≡ suc (2 * k) + actions_over ps → q ≡ suc (2 * k) → k ≡ length ps → (out o₁ o₂ o₃ o₄ o₅ o₆ o₇ : List ℕ) (k₁ k₂ k₃ k₄ k₅ k₆ k₇ : ℕ)
    → buffer_at o₁ k₁ ≡ placed out 0 (cut_pair n m) → buffer_at o₂ k₂ ≡ placed o₁ k₁ (cut_pair 0 q) → buffer_at o₃ k₃ ≡ put_all (buffer_at o₂ k₂) (entries_over (suc (2 * k)) ps)
    → buffer_at o₄ k₄ ≡ put_all (buffer_at o₃ k₃) (fork_rows (starts_over 1 ps)) → buffer_at o₅ k₅ ≡ put_all (buffer_at o₄ k₄) (join_rows (starts_over 1 ps)) → buffer_at o₆ k₆ ≡ placed o₅ k₅ (cut_action 0 0)
    → buffer_at o₇ k₇ ≡ put_all (buffer_at o₆ k₆) (moved_over 1 ps) → buffer_at o₇ k₇ ≡ put_all (buffer_at out 0) (joined_rows ps)
unfolding joined_rows
joined_put ps n m q k e f g l out o₁ o₂ o₃ o₄ o₅ o₆ o₇ k₁ k₂ k₃ k₄ k₅ k₆ k₇ p₁ p₂ p₃ p₄ p₅ p₆ p₇ =
    rw (← l, ← f, ← e, ← g)
    (put_all_lem (buffer_at out 0) (cut_pair n m) (cut_pair 0 q) (cut_action 0 0) (entries_over q ps) (fork_rows (starts_over 1 ps)) (join_rows (starts_over 1 ps)) (moved_over 1 ps) o₁ o₂ o₃ o₄ o₅ o₆ o₇ k₁ k₂ k₃ k₄ k₅ k₆ k₇ p₁ p₂
    (p₃ ∙ ap (λ (j : ℕ). put_all (buffer_at o₂ k₂) (entries_over j ps)) (sym g)) p₄ p₅ p₆ p₇)

pub returns : goal.returns
unfolding code_of
returns c =
    let d = c.args in
    joined_put (parts_of d.lengths.now d.tables.now) d.n d.m (2 * length d.lengths.now + 1) (length d.lengths.now) c.requires.1 c.requires.2 (omega arith) (sym (parts_length d.lengths.now d.tables.now))
    d.out.now _ _ _ _ _ _ _ _ _ _ _ _ _ _ c.put_pair-at.ensures c.put_pair-at-2.ensures c.put_part_entries-at.ensures c.put_forks-at.ensures c.put_joins-at.ensures (rw c.code.ensures at c.put_action-at.ensures) c.put_part_actions.ensures
