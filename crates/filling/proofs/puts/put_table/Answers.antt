-- `filling::puts::put_table` meets its contract.
use mathlib.Core.Path.{◌≡◌}
use Prim.Native.Nat.{ℕ}
use mathlib.Core.List.{List, [], ◌∷◌, ◌++◌, flatten}
use Rattle.text.specs.Text.{buffer_at, placed}
use Rattle.text.specs.Puts.{put_all}
use Rattle.rows.specs.Rows.{cut_pair}
use Rattle.table.specs.Format.{Table, table_of}
use Rattle.table.specs.Serial.{serial_order}
use Rattle.table.specs.Written.{Action, entry_rows, action_rows, table_rows}
use Rattle.filling.specs.Filled.{filled_from, trees_along, filled_bodies, threads_to, actions_to}
use Rattle.filling.specs.Code.Steps.{Ready}
use Rattle.filling.proofs.FilledRows.{put_rows, whole_rows}
use Rattle.filling.proofs.puts.put_table.Goals as goal

whole : (s : List ℕ) (n K total actions : ℕ) → Ready s n K → total ≡ threads_to (table_of s) K (table_of s).actions → actions ≡ actions_to (table_of s) K (table_of s).actions
    → (o o1 o2 o3 q : List ℕ) (r1 r2 r3 j : ℕ) → buffer_at o1 r1 ≡ placed o 0 (cut_pair total actions) → buffer_at o2 r2 ≡ put_all (buffer_at o1 r1) (entry_rows 0 (filled_bodies (table_of s) K))
    → buffer_at o3 r3 ≡ put_all (buffer_at o2 r2) (action_rows (filled_from (table_of s) K 0 (table_of s).actions))
    → buffer_at q j ≡ put_all (buffer_at o3 r3) (action_rows (flatten (trees_along (table_of s) K (table_of s).threads (serial_order (table_of s)))))
    → buffer_at q j ≡ put_all (buffer_at o 0) (table_rows (filled_bodies (table_of s) K))
whole s n K total actions r e f o o1 o2 o3 q r1 r2 r3 j e1 e2 e3 e4 =
    let T : Table = table_of s in
    let trees : List (List Action) = trees_along T K T.threads (serial_order T) in
    let g : buffer_at o1 r1 ≡ placed o 0 (cut_pair (threads_to T K T.actions) (actions_to T K T.actions)) = rw (e, f) at e1 in
    let b3 : buffer_at q j ≡ put_all (buffer_at o2 r2) (action_rows (filled_from T K 0 T.actions) ++ action_rows (flatten trees)) = put_rows o2 o3 q r2 r3 j (action_rows (filled_from T K 0 T.actions)) (action_rows (flatten trees)) e3 e4 in
    let b2 = put_rows o1 o2 q r1 r2 j (entry_rows 0 (filled_bodies T K)) (action_rows (filled_from T K 0 T.actions) ++ action_rows (flatten trees)) e2 b3 in
    rw (← whole_rows s n K r) (put_rows o o1 q 0 r1 j (cut_pair (threads_to T K T.actions) (actions_to T K T.actions) ∷ []) (entry_rows 0 (filled_bodies T K) ++ (action_rows (filled_from T K 0 T.actions) ++ action_rows (flatten trees))) g b2)

pub returns : goal.returns
returns c =
    whole c.args.table.now _ _ _ _ c.requires.ready c.requires.total_value c.requires.actions_value c.args.out.now _ _ _ _ _ _ _ _ c.put_pair-at.ensures c.put_entries-at.ensures c.put_bodies-at.ensures c.put_trees.ensures
