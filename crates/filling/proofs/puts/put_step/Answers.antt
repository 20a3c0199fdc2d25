-- `filling::puts::put_step` meets its contract.
use mathlib.Core.Path.{◌≡◌}
use Prim.Native.Nat.{ℕ, ◌<◌}
use mathlib.Core.List.{List, [], ◌∷◌, ◌++◌}
use Rattle.text.specs.Text.{buffer_at, placed}
use Rattle.text.specs.Puts.{put_all}
use Rattle.rows.specs.Rows.{cut_action}
use Rattle.table.specs.Format.{table_of}
use Rattle.table.specs.Checks.{alloc_of}
use Rattle.table.specs.Written.{action_at, action_rows}
use Rattle.filling.specs.Filled.{root_of, in_front}
use Rattle.filling.specs.Code.Steps.{Ready, front_rows}
use Rattle.filling.proofs.Reading.{code_read, argument_read}
use Rattle.filling.proofs.FilledRows.{put_rows, step_rows}
use Rattle.filling.proofs.puts.put_step.Goals as goal

module _ (s : List ℕ) (n K a root : ℕ) (p : Ready s n K × ((a < (table_of s).actions) × (root ≡ root_of (table_of s) K a))) where
  step : (x k y : ℕ) → x ≡ alloc_of (table_of s) a → k ≡ (table_of s).code a → y ≡ (table_of s).argument a → (o o' q : List ℕ) (at r j : ℕ)
      → buffer_at o' r ≡ put_all (buffer_at o at) (front_rows K x root) → buffer_at q j ≡ placed o' r (cut_action k y)
      → buffer_at q j ≡ put_all (buffer_at o at) (action_rows (in_front (table_of s) K a ++ (action_at (table_of s) a ∷ [])))
  step x k y e f g o o' q at r j u v = rw (step_rows s n K p.0 a x root k y p.1.0 e p.1.1 f g) (put_rows o o' q at r j (front_rows K x root) (cut_action k y ∷ []) u v)

pub returns : goal.returns
returns c =
    let s = c.args.table.now in
    step s _ _ _ _ (c.requires.ready, (c.requires.a_bound, c.requires.root_value)) _ _ _ c.amount.ensures.value (code_read s c.requires.ready.threads _ c.code.ensures) (argument_read s c.requires.ready.threads _ c.argument.ensures).value c.args.out.now _ _ _ _ _
    c.put_front-after.ensures c.put_action.ensures
