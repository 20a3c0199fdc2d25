-- `rows::put_moved` meets its contract: a table's actions are all that its head says.
use mathlib.Core.Path.{◌≡◌, ap, ◌∙◌}
use Prim.Native.Nat.{ℕ}
use mathlib.Core.List.{List}
use Rattle.table.specs.Format.{threads_of, actions_of, bodies_from, bodies_of}
use Rattle.text.specs.Text.{buffer_at}
use Rattle.text.specs.Puts.{put_all}
use Rattle.rows.specs.Rows.{renamed_rows, moved_by}
use Rattle.rows.proofs.put_moved.Goals as goal

all_are : (s l : List ℕ) (n m v o : ℕ) → n ≡ threads_of s → l ≡ bodies_from s n → m ≡ actions_of s → v ≡ o → renamed_rows l (moved_by v) 0 m ≡ renamed_rows (bodies_of s) (moved_by o) 0 (actions_of s)
all_are s l n m v o p q u w = rw (q, p, u, w)

pub returns : goal.returns
returns c =
    let d = c.args in
    c.put_actions.ensures
    ∙ ap (put_all (buffer_at d.out.now d.at))
    (all_are d.table.now _ c.threads.result c.actions.result c.wide.result d.o c.threads.ensures.value c.bodies-list.ensures c.actions.ensures.value c.wide.ensures.value)
