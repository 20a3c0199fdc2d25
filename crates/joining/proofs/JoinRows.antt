-- The rows that code puts, from the parts' bytes, are those of the joined table.
use mathlib.Core.Path.{◌≡◌, refl, sym, ap, ◌∙◌}
use Prim.Native.Nat.{ℕ, suc, ◌+◌, ◌*◌, ◌≤◌, ◌<◌}
use mathlib.Core.List.{List, [], ◌∷◌, ◌++◌, map, flatten}
use native.Mathlib.Omega.{arith}
use lib.ListN.{length, length-append}
use Rattle.table.specs.Sum.{sum_to}
use Rattle.table.specs.Format.{Table, threads_of, actions_of, bodies_of, table_of}
use Rattle.table.specs.Written.{Action, pair_row, action_row, entry_rows, action_rows, table_rows, written}
use Rattle.table.proofs.ReadBack.{argument_short}
use Rattle.parts.specs.Copies.{renamed_action}
use Rattle.parts.specs.Kept.{Keeps}
use Rattle.parts.specs.Joined.{bodies_in, offsets, forks, joins_back, root_body, part_bodies, joined_bodies}
use Rattle.parts.proofs.Built.{flatten_append, map_length}
use Rattle.parts.proofs.Short.{renamed_short}
use Rattle.parts.proofs.PartsPlaced.{threads_before}
use Rattle.parts.proofs.JoinBodies.{root_length, offsets_length, joined_threads, joined_actions}
use Rattle.parts.proofs.BodiesIn.{bodied_in, actions_in_lem}
use Rattle.rows.specs.Rows.{cut_pair, cut_action, renamed_rows, moved_by, shifted_entries}
use Rattle.rows.proofs.Whole.{pair_whole, action_whole, rows_append, flat_map, part_rows, entries_written}
use Rattle.joining.specs.Joining.{joined_bytes}
use Rattle.joining.specs.Code.Rows.{starts_over, entries_over, moved_over, fork_rows, join_rows, threads_over, actions_over, joined_rows}
use Rattle.joining.proofs.JoinedWhole.{bodies_over, over_length}

rows_entries : (l r : List (List Action)) (k : ℕ) → entry_rows k (l ++ r) ≡ entry_rows k l ++ entry_rows (k + length (flatten l)) r
unfolding entry_rows flatten
rows_entries [] r k = let z : k + 0 ≡ k = omega arith in rw z
rows_entries (b ∷ l) r k =
    let z : k + length (b ++ flatten l) ≡ k + length b + length (flatten l) = omega (arith, length-append b (flatten l)) in
    rw z (ap (λ (q : List (List ℕ)). pair_row k (length b) ∷ q) (rows_entries l r (k + length b)))

-- parts that all keep the rules
unfoldable pub AllFit : List (List ℕ) → Type 0
AllFit [] = Unit {0}
AllFit (s ∷ ps) = Keeps (table_of s) × AllFit ps

moved_over_lem : (ps : List (List ℕ)) (o : ℕ) → AllFit ps → o + threads_over ps ≤ 65536 → moved_over o ps ≡ action_rows (flatten (part_bodies o (bodies_over ps)))
unfolding moved_over part_bodies AllFit threads_over table_of action_rows flatten
moved_over_lem [] o p h = refl
moved_over_lem (s ∷ ps) o p h =
    let T : Table = table_of s in
    let r = p.0 in
    let n : length (bodies_in (table_of s)) ≡ threads_of s = (bodied_in (table_of s)).size in
    let e : renamed_rows (bodies_of s) (moved_by o) 0 (actions_of s) ≡ action_rows (flatten (map (map (renamed_action (moved_by o))) (bodies_in (table_of s)))) =
    part_rows s (moved_by o) r.contents (renamed_short (table_of s) r.contents r.bodies (argument_short s) (moved_by o) (λ u q. omega arith)) in
    let ih : moved_over (o + threads_of s) ps ≡ action_rows (flatten (part_bodies (o + length (bodies_in (table_of s))) (bodies_over ps))) = rw n (moved_over_lem ps (o + threads_of s) p.1 (omega arith)) in
    rw (e, ih)
    (sym (ap action_rows (flatten_append (map (map (renamed_action (moved_by o))) (bodies_in (table_of s))) (part_bodies (o + length (bodies_in (table_of s))) (bodies_over ps)))
    ∙ rows_append (flatten (map (map (renamed_action (moved_by o))) (bodies_in (table_of s)))) (flatten (part_bodies (o + length (bodies_in (table_of s))) (bodies_over ps)))))

entries_over_lem : (ps : List (List ℕ)) (k o : ℕ) → AllFit ps → k + actions_over ps < 65536 → entries_over k ps ≡ entry_rows k (part_bodies o (bodies_over ps))
unfolding entries_over part_bodies AllFit actions_over table_of entry_rows sum_to
entries_over_lem [] k o p h = refl
entries_over_lem (s ∷ ps) k o p h =
    let r = p.0 in
    let g : Action → Action = renamed_action (moved_by o) in
    let z : k + 0 ≡ k = omega arith in
    let t : 0 + threads_of s ≡ threads_of s = omega arith in
    let e : shifted_entries s k 0 (threads_of s) ≡ entry_rows k (map (map (renamed_action (moved_by o))) (bodies_in (table_of s))) =
    rw z at (entries_written s (renamed_action (moved_by o)) r.contents k (omega arith) (threads_of s) 0 (omega (arith, t))) in
    let m : length (flatten (map (map (renamed_action (moved_by o))) (bodies_in (table_of s)))) ≡ actions_of s =
    ap length (flat_map (renamed_action (moved_by o)) (bodies_in (table_of s))) ∙ map_length (renamed_action (moved_by o)) (flatten (bodies_in (table_of s))) ∙ actions_in_lem (table_of s) r.contents in
    let ih : entries_over (k + actions_of s) ps ≡ entry_rows (k + length (flatten (map (map (renamed_action (moved_by o))) (bodies_in (table_of s))))) (part_bodies (o + length (bodies_in (table_of s))) (bodies_over ps)) =
    rw m (entries_over_lem ps (k + actions_of s) (o + length (bodies_in (table_of s))) p.1 (omega arith)) in
    rw (e, ih) (sym (rows_entries (map (map (renamed_action (moved_by o))) (bodies_in (table_of s))) (part_bodies (o + length (bodies_in (table_of s))) (bodies_over ps)) k))

starts_are : (ps : List (List ℕ)) (o : ℕ) → offsets o (bodies_over ps) ≡ starts_over o ps
unfolding offsets starts_over table_of
starts_are [] o = refl
starts_are (s ∷ ps) o =
    let n : length (bodies_in (table_of s)) ≡ threads_of s = (bodied_in (table_of s)).size in
    rw n (ap (λ (l : List ℕ). o ∷ l) (starts_are ps (o + threads_of s)))

fork_rows_lem : (ps : List (List ℕ)) (o : ℕ) → o + threads_over ps ≤ 65536 → fork_rows (starts_over o ps) ≡ action_rows (forks (starts_over o ps))
unfolding fork_rows starts_over threads_over forks action_rows
fork_rows_lem [] o h = refl
fork_rows_lem (s ∷ ps) o h = rw (action_whole (record { code = 4; argument = o }) (omega arith), fork_rows_lem ps (o + threads_of s) (omega arith))

join_rows_lem : (ps : List (List ℕ)) (o : ℕ) → o + threads_over ps ≤ 65536 → join_rows (starts_over o ps) ≡ action_rows (joins_back (starts_over o ps))
unfolding join_rows starts_over threads_over joins_back action_rows
join_rows_lem [] o h = refl
join_rows_lem (s ∷ ps) o h =
    rw (action_whole (record { code = 5; argument = o }) (omega arith), join_rows_lem ps (o + threads_of s) (omega arith))
    (sym (rows_append (joins_back (starts_over (o + threads_of s) ps)) (record { code = 5; argument = o } ∷ [])))

root_rows : (ps : List (List ℕ)) → 1 + threads_over ps ≤ 65536
    → fork_rows (starts_over 1 ps) ++ (join_rows (starts_over 1 ps) ++ (cut_action 0 0 ∷ [])) ≡ action_rows (root_body (offsets 1 (bodies_over ps)))
unfolding action_rows
root_rows ps h =
    let e : action_row (record { code = 0; argument = 0 }) ≡ cut_action 0 0 = refl in
    rw (
      starts_are ps 1,
      fork_rows_lem ps 1 h,
      join_rows_lem ps 1 h,
      rows_append (forks (starts_over 1 ps)) (joins_back (starts_over 1 ps) ++ (record { code = 0; argument = 0 } ∷ [])),
      rows_append (joins_back (starts_over 1 ps)) (record { code = 0; argument = 0 } ∷ []),
    )

threads_before_lem : (ps : List (List ℕ)) → threads_before (length (bodies_over ps)) (bodies_over ps) ≡ threads_over ps
unfolding threads_before threads_over table_of
threads_before_lem [] = refl
threads_before_lem (s ∷ ps) =
    let n : length (bodies_in (table_of s)) ≡ threads_of s = (bodied_in (table_of s)).size in
    omega (arith, n, threads_before_lem ps)

actions_before : (ps : List (List ℕ)) → AllFit ps → Rattle.parts.proofs.JoinBodies.actions_over (bodies_over ps) ≡ actions_over ps
unfolding Rattle.parts.proofs.JoinBodies.actions_over actions_over AllFit table_of
actions_before [] p = refl
actions_before (s ∷ ps) p =
    let m : length (flatten (bodies_in (table_of s))) ≡ actions_of s = actions_in_lem (table_of s) p.0.contents in
    omega (arith, m, actions_before ps p.1)

-- what code puts, row by row, are the rows of the joined table
module _ (ps : List (List ℕ)) (fit : AllFit ps) (few : suc (threads_over ps) ≤ 1024) (few_actions : suc (2 * length ps) + actions_over ps ≤ 8192) where
  pub joined_size_lem : length (joined_bodies (bodies_over ps)) ≡ suc (threads_over ps)
  joined_size_lem = joined_threads (bodies_over ps) ∙ ap suc (threads_before_lem ps)

  pub joined_count : length (flatten (joined_bodies (bodies_over ps))) ≡ suc (2 * length ps) + actions_over ps
  joined_count = omega (arith, joined_actions (bodies_over ps), actions_before ps fit, over_length ps)

  root_size : length (root_body (offsets 1 (bodies_over ps))) ≡ suc (2 * length ps)
  root_size = omega (arith, root_length (offsets 1 (bodies_over ps)), offsets_length 1 (bodies_over ps), over_length ps)

  head_row : cut_pair (suc (threads_over ps)) (suc (2 * length ps) + actions_over ps) ≡ pair_row (length (joined_bodies (bodies_over ps))) (length (flatten (joined_bodies (bodies_over ps))))
  head_row = rw (joined_size_lem, joined_count) (pair_whole (suc (threads_over ps)) (suc (2 * length ps) + actions_over ps) (omega arith) (omega arith))

  entry_rows_lem : cut_pair 0 (suc (2 * length ps)) ∷ entries_over (suc (2 * length ps)) ps ≡ entry_rows 0 (joined_bodies (bodies_over ps))
  unfolding joined_bodies entry_rows
  entry_rows_lem =
      let z : 0 + suc (2 * length ps) ≡ suc (2 * length ps) = omega arith in
      rw (root_size, z, pair_whole 0 (suc (2 * length ps)) (omega arith) (omega arith), entries_over_lem ps (suc (2 * length ps)) 1 fit (omega arith))

  body_rows : (fork_rows (starts_over 1 ps) ++ (join_rows (starts_over 1 ps) ++ (cut_action 0 0 ∷ []))) ++ moved_over 1 ps ≡ action_rows (flatten (joined_bodies (bodies_over ps)))
  unfolding joined_bodies flatten
  body_rows =
      rw (root_rows ps (omega arith), moved_over_lem ps 1 fit (omega arith)) (sym (rows_append (root_body (offsets 1 (bodies_over ps))) (flatten (part_bodies 1 (bodies_over ps)))))

  pub joined_rows_lem : joined_rows ps ≡ table_rows (joined_bodies (bodies_over ps))
  unfolding table_rows joined_rows
  joined_rows_lem = rw (head_row, body_rows, ← entry_rows_lem)

  pub joined_bytes_lem : flatten (joined_rows ps) ≡ joined_bytes ps
  unfolding joined_bytes written
  joined_bytes_lem = ap flatten joined_rows_lem
