-- `rows::put_named` meets its contract: a thread's body begins at its first action and has its count.
use mathlib.Core.Path.{◌≡◌, ap, ◌∙◌}
use Prim.Native.Nat.{ℕ}
use mathlib.Core.List.{List}
use Rattle.table.specs.Format.{threads_of, bodies_from, bodies_of, first_of, count_of, table_of}
use Rattle.text.specs.Text.{buffer_at}
use Rattle.text.specs.Puts.{put_all}
use Rattle.rows.specs.Rows.{renamed_rows, named_by}
use Rattle.rows.proofs.put_named.Goals as goal

body_is : (s l names : List ℕ) (t n f c : ℕ) → n ≡ threads_of s → l ≡ bodies_from s n → f ≡ (table_of s).first t → c ≡ (table_of s).count t
    → renamed_rows l (named_by names) f c ≡ renamed_rows (bodies_of s) (named_by names) (first_of s t) (count_of s t)
unfolding table_of
body_is s l names t n f c p q u v = rw (q, p, u, v)

pub returns : goal.returns
returns c =
    let d = c.args in
    c.put_body.ensures
    ∙ ap (put_all (buffer_at d.out.now d.at))
    (body_is d.table.now _ d.names.now d.t c.threads.result c.first.result c.count.result c.threads.ensures.value c.bodies-actions.ensures c.first.ensures.value
    c.count.ensures.value)
