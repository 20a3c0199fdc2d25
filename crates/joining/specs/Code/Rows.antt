-- The rows that several tables are joined by, from their bytes.
use Rattle.std.specs.Prelude.{ℕ, suc, ◌+◌, ◌*◌, List, [], ◌∷◌, ◌++◌, length}
use Rattle.table.specs.Format.{threads_of, actions_of, bodies_of}
use Rattle.rows.specs.Rows.{cut_pair, cut_action, renamed_rows, moved_by, shifted_entries}

-- where the parts' threads begin
unfoldable pub starts_over : ℕ → List (List ℕ) → List ℕ
starts_over o [] = []
starts_over o (s ∷ ps) = o ∷ starts_over (o + threads_of s) ps

-- their entries, where o actions stand before
unfoldable pub entries_over : ℕ → List (List ℕ) → List (List ℕ)
entries_over o [] = []
entries_over o (s ∷ ps) = shifted_entries s o 0 (threads_of s) ++ entries_over (o + actions_of s) ps

-- their actions, where o threads stand before
unfoldable pub moved_over : ℕ → List (List ℕ) → List (List ℕ)
moved_over o [] = []
moved_over o (s ∷ ps) = renamed_rows (bodies_of s) (moved_by o) 0 (actions_of s) ++ moved_over (o + threads_of s) ps

unfoldable pub fork_rows : List ℕ → List (List ℕ)
fork_rows [] = []
fork_rows (o ∷ os) = cut_action 4 o ∷ fork_rows os

unfoldable pub join_rows : List ℕ → List (List ℕ)
join_rows [] = []
join_rows (o ∷ os) = join_rows os ++ (cut_action 5 o ∷ [])

unfoldable pub threads_over : List (List ℕ) → ℕ
threads_over [] = 0
threads_over (s ∷ ps) = threads_of s + threads_over ps

unfoldable pub actions_over : List (List ℕ) → ℕ
actions_over [] = 0
actions_over (s ∷ ps) = actions_of s + actions_over ps

-- head, entries, root, bodies
unfoldable pub joined_rows : List (List ℕ) → List (List ℕ)
joined_rows ps =
    cut_pair (suc (threads_over ps)) (suc (2 * length ps) + actions_over ps)
    ∷ cut_pair 0 (suc (2 * length ps))
    ∷ (entries_over (suc (2 * length ps)) ps ++ ((fork_rows (starts_over 1 ps) ++ (join_rows (starts_over 1 ps) ++ (cut_action 0 0 ∷ []))) ++ moved_over 1 ps))
