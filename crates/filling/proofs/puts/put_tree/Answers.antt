-- `filling::puts::put_tree` meets its contract.
use mathlib.Core.Path.{◌≡◌, refl, ap, ◌∙◌}
use Prim.Native.Nat.{ℕ, ◌+◌, ◌*◌, ◌/◌, ◌≤◌, ◌<◌}
use mathlib.Core.List.{List}
use Rattle.table.specs.Format.{code_of}
use Rattle.text.specs.Text.{Buffer, buffer_at, placed, placed_next}
use Rattle.text.specs.Puts.{put_all}
use Rattle.rows.specs.Rows.{cut_action}
use Rattle.table.specs.Written.{action_rows}
use Rattle.filling.specs.TreeSizes.{tree_body}
use Rattle.filling.proofs.FilledRows.{tree_one_rows, tree_more_rows}
use Rattle.filling.proofs.puts.put_tree.Goals as goal

one : (c d : ℕ) → d ≤ 1 → (o o' q : List ℕ) (at r j : ℕ) → buffer_at o' r ≡ placed o at (cut_action 1 0) → buffer_at q j ≡ placed o' r (cut_action 0 0)
    → buffer_at q j ≡ put_all (buffer_at o at) (action_rows (tree_body c d))
one c d h o o' q at r j u v = rw (tree_one_rows c d h) (v ∙ ap (λ (b : Buffer). placed_next b (cut_action 0 0)) u)

more : (c d : ℕ) → 1 < d → (c < 1024) × (d < 1024) → (o o1 o2 o3 o4 q : List ℕ) (at r1 r2 r3 r4 j : ℕ)
    → buffer_at o1 r1 ≡ placed o at (cut_action 4 (c + 1)) → buffer_at o2 r2 ≡ placed o1 r1 (cut_action 4 (c + 2 * ((d + 1) / 2))) → buffer_at o3 r3 ≡ placed o2 r2 (cut_action 5 (c + 2 * ((d + 1) / 2)))
    → buffer_at o4 r4 ≡ placed o3 r3 (cut_action 5 (c + 1)) → buffer_at q j ≡ placed o4 r4 (cut_action 0 0)
    → buffer_at q j ≡ put_all (buffer_at o at) (action_rows (tree_body c d))
more c d h p o o1 o2 o3 o4 q at r1 r2 r3 r4 j e1 e2 e3 e4 e5 =
    let y : ℕ = c + 2 * ((d + 1) / 2) in
    rw (tree_more_rows c d (c + 1) y h p.0 p.1 refl refl)
    (e5 ∙ ap (λ (b : Buffer). placed_next b (cut_action 0 0))
    (e4 ∙ ap (λ (b : Buffer). placed_next b (cut_action 5 (c + 1)))
    (e3 ∙ ap (λ (b : Buffer). placed_next b (cut_action 5 y)) (e2 ∙ ap (λ (b : Buffer). placed_next b (cut_action 4 y)) e1))))

pub returns-then-d-le1 : goal.returns-then-d-le1
unfolding code_of
returns-then-d-le1 c = one _ _ c.if-d-le1.true c.args.out.now _ _ _ _ _ c.put_kind-after.ensures c.put_kind.ensures

pub returns : goal.returns
unfolding code_of
returns c =
    more c.args.c c.args.d c.if-d-le1.false c.requires c.args.out.now _ _ _ _ _ _ _ _ _ _ _ c.put_kind-at.ensures c.put_kind-at-2.ensures c.put_kind-at-3.ensures c.put_kind-at-4.ensures c.put_kind-2.ensures
