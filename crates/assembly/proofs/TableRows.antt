-- A table's rows are four bytes each: how long they are in all, and what stands in the buffer after they are put.
use Prim.Native.Nat.{ℕ, ◌+◌, ◌*◌, ◌≤◌}
use native.Mathlib.Omega.{arith}
use mathlib.Core.Path.{◌≡◌, refl, ap, ◌∙◌}
use mathlib.Core.List.{List, [], ◌∷◌, ◌++◌, flatten}
use mathlib.Core.Bool.{false}
use lib.ListN.{length, drop, length-append}
use Rattle.table.specs.Checks.{outside, max_threads, max_actions}
use Rattle.table.proofs.Tests.{or_neither}
use Rattle.table.proofs.Sizes.{inside}
use Rattle.text.specs.Text.{buffer_at}
use Rattle.text.specs.Puts.{put_all}
use Rattle.text.proofs.Putting.{flatten_append, puts_whole}
use Rattle.assembly.specs.Assembly.{is_thread, is_action, how_many, entries_from, actions_in, table_rows, table_bytes, over, sizes_outside}
use Rattle.assembly.specs.declared.Said.{Said}
use Rattle.assembly.specs.declared.Said.TheVariants.{Nothing, Thread, Action, Expects}

pub entries_length : (l : List Said) (a : ℕ) → length (flatten (entries_from a l)) ≡ 4 * how_many is_thread l
unfolding entries_from how_many flatten
entries_length [] a = refl
entries_length (Nothing ∷ l) a = entries_length l a
entries_length (Thread t ∷ l) a = omega (arith, entries_length l a)
entries_length (Action k x ∷ l) a = entries_length l (a + 1)
entries_length (Expects e ∷ l) a = entries_length l a

pub actions_length : (l : List Said) → length (flatten (actions_in l)) ≡ 4 * how_many is_action l
unfolding actions_in how_many flatten
actions_length [] = refl
actions_length (Nothing ∷ l) = actions_length l
actions_length (Thread t ∷ l) = actions_length l
actions_length (Action k x ∷ l) = omega (arith, actions_length l)
actions_length (Expects e ∷ l) = actions_length l

pub table_length : (l : List Said) → length (table_bytes l) ≡ 4 + 4 * how_many is_thread l + 4 * how_many is_action l
unfolding table_bytes flatten
table_length l =
    rw (flatten_append (entries_from 0 l) (actions_in l), length-append (flatten (entries_from 0 l)) (flatten (actions_in l)))
    (omega (arith, entries_length l 0, actions_length l))

-- the rows, put at the start of a buffer that they fit
pub table_put : (l : List Said) (s o : List ℕ) (n m k : ℕ) → n ≡ how_many is_thread l → m ≡ how_many is_action l → 4 + 4 * n + 4 * m ≤ length s
    → buffer_at o k ≡ put_all (buffer_at s 0) (table_rows n m l) → (k ≡ length (table_bytes l)) × (o ≡ over (table_bytes l) s)
unfolding table_bytes
table_put l s o n m k e d h q =
    let b : length (table_bytes l) ≤ length s = omega (arith, table_length l, e, d) in
    let r = puts_whole {ts = table_rows (how_many is_thread l) (how_many is_action l) l} b (record { put = rw (e, d) at q; short = omega arith }) in
    (r.0, r.1 ∙ ap (λ (j : ℕ). table_bytes l ++ drop j s) r.0)

-- n and m in range
pub in_range : (n m : ℕ) → sizes_outside n m ≡ false → (n ≤ 1024) × (m ≤ 8192)
in_range n m e =
    let p = or_neither (outside 1 max_threads n) (outside 1 max_actions m) e in
    ((inside 1 max_threads n p.0).1, (inside 1 max_actions m p.1).1)
