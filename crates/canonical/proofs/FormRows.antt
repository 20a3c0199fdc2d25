-- The rows of the canonical form, from the table's bytes, the order of its threads and their new numbers.
use mathlib.Core.Path.{◌≡◌, refl, sym, ◌∙◌}
use Prim.Native.Nat.{ℕ, zero, suc, ◌+◌, ◌%◌, ◌≤◌, ◌<◌}
use mathlib.Core.List.{List, [], ◌∷◌, map, flatten, Memᴰ}
use native.Mathlib.Omega.{arith}
use lib.ListN.{length, length-append}
use Rattle.table.specs.Format.{kind, bodies_of, threads_of, actions_of, first_of, count_of, table_of}
use Rattle.table.specs.declared.kinds.Kind.{Kind}
use Rattle.table.specs.declared.kinds.Kind.TheVariants.{End as end, Work as work, Alloc as alloc, Free as free, Fork as fork, Join as join, Unknown as unknown}
use Rattle.table.specs.Written.{Action, pair_row, entry_rows, action_rows, table_rows, body_in}
use Rattle.table.proofs.Bodies.{body_within, fork_below_lem, join_below}
use Rattle.table.proofs.ReadBack.{argument_short}
use Rattle.order.proofs.Lawful.{Lawful}
use Rattle.parts.specs.Copies.{renamed, renamed_action}
use Rattle.parts.proofs.Built.{from_length, map_length}
use Rattle.parts.proofs.Short.{renamed_short}
use Rattle.rows.specs.Rows.{cut_pair, renamed_rows, ordered_entries, ordered_rows}
use Rattle.rows.proofs.Whole.{pair_whole, rows_append, rows_written}
use Rattle.canonical.specs.Canonical.{thread_order, new_number, canonical_bodies}
use Rattle.canonical.specs.Code.Rows.{form_rows}
use Rattle.canonical.proofs.Renaming.{order_below}
use Rattle.canonical.proofs.Order.{new_below}
use Rattle.canonical.proofs.FormRenames.{form, form_threads, form_renames, form_reads}
use Rattle.canonical.proofs.Canonical.{lawful_keeps, form_keeps, renamed_actions}

-- names that agree on threads put the same rows
pub rows_same : (s : List ℕ) (f g : ℕ → ℕ) → ((x : ℕ) → x < (table_of s).threads → f x ≡ g x) → (l : Lawful (table_of s)) (k a : ℕ) → a + k ≤ (table_of s).actions
    → renamed_rows (bodies_of s) f a k ≡ renamed_rows (bodies_of s) g a k
unfolding renamed_rows table_of
rows_same s f g e l zero a h = refl
rows_same s f g e l (suc k) a h =
    let z : renamed f (kind (table_of s) a) ((table_of s).argument a) ≡ renamed g (kind (table_of s) a) ((table_of s).argument a) = go (kind (table_of s) a) refl in
    rw (z, rows_same s f g e l k (suc a) (omega arith))
  where
    go : (j : Kind) → kind (table_of s) a ≡ j → renamed f j ((table_of s).argument a) ≡ renamed g j ((table_of s).argument a)
    go end q = refl
    go work q = refl
    go alloc q = refl
    go free q = refl
    go fork q = e ((table_of s).argument a) (fork_below_lem (table_of s) l.contents l.bodies a (omega arith) q)
    go join q = e ((table_of s).argument a) (join_below (table_of s) l.contents l.bodies a (omega arith) q)
    go unknown q = refl

module _ (s : List ℕ) (l : Lawful (table_of s)) where
  abbrev bodies : List ℕ → List (List Action)
  bodies ts = map (λ (t : ℕ). map (renamed_action (new_number (table_of s))) (body_in (table_of s) t)) ts

  body_size : (t : ℕ) → length (map (renamed_action (new_number (table_of s))) (body_in (table_of s) t)) ≡ (table_of s).count t
  body_size t = map_length (renamed_action (new_number (table_of s))) (body_in (table_of s) t) ∙ from_length (table_of s) ((table_of s).first t) ((table_of s).count t)

  entries_are : (ts : List ℕ) (k : ℕ) → k + length (flatten (bodies ts)) < 65536 → ordered_entries s k ts ≡ entry_rows k (bodies ts)
  unfolding ordered_entries entry_rows flatten table_of
  entries_are [] k h = refl
  entries_are (t ∷ ts) k h =
      let z : length (map (renamed_action (new_number (table_of s))) (body_in (table_of s) t)) ≡ count_of s t = body_size t in
      let n = length-append (map (renamed_action (new_number (table_of s))) (body_in (table_of s) t)) (flatten (bodies ts)) in
      let w : (k + count_of s t) % 65536 ≡ k + count_of s t = omega (arith, n, z) in
      rw (z, w, pair_whole k (count_of s t) (omega (arith, n)) (omega (arith, n, z)), entries_are ts (k + count_of s t) (omega (arith, n, z)))

  rows_are : (ts : List ℕ) → ((t : ℕ) → Memᴰ t ts → t < (table_of s).threads) → ordered_rows s (new_number (table_of s)) ts ≡ action_rows (flatten (bodies ts))
  unfolding ordered_rows action_rows flatten table_of
  rows_are [] h = refl
  rows_are (t ∷ ts) h =
      let b = body_within (table_of s) l.contents t (h t (Memᴰ.head refl)) in
      let e : renamed_rows (bodies_of s) (new_number (table_of s)) (first_of s t) (count_of s t) ≡ action_rows (map (renamed_action (new_number (table_of s))) (body_in (table_of s) t)) =
      rows_written s (new_number (table_of s)) ((table_of s).count t) ((table_of s).first t)
      (λ a p q. renamed_short (table_of s) l.contents l.bodies (argument_short s) (new_number (table_of s)) (λ u i. omega (arith, new_below (table_of s) l u i, l.few_threads)) a (omega (arith, b))) in
      rw (e, rows_are ts (λ u m. h u (Memᴰ.tail m))) (sym (rows_append (map (renamed_action (new_number (table_of s))) (body_in (table_of s) t)) (flatten (bodies ts))))

  pub form_size : length (canonical_bodies (table_of s)) ≡ (table_of s).threads
  form_size = sym (form_reads (table_of s) l (argument_short s)).threads ∙ form_threads (table_of s) l (argument_short s)

  pub form_count : length (flatten (canonical_bodies (table_of s))) ≡ (table_of s).actions
  form_count =
      sym (form_reads (table_of s) l (argument_short s)).actions
      ∙ renamed_actions (table_of s) (form (table_of s) l (argument_short s)) (lawful_keeps (table_of s) l) (form_keeps (table_of s) l (argument_short s)) (form_renames (table_of s) l (argument_short s))

  head_is : cut_pair (threads_of s) (actions_of s) ≡ pair_row (length (canonical_bodies (table_of s))) (length (flatten (canonical_bodies (table_of s))))
  unfolding table_of
  head_is = rw (form_size, form_count) (pair_whole (table_of s).threads (table_of s).actions (omega (arith, l.few_threads)) (omega (arith, l.few_actions)))

  entries_form : ordered_entries s 0 (thread_order (table_of s)) ≡ entry_rows 0 (canonical_bodies (table_of s))
  unfolding canonical_bodies
  entries_form = entries_are (thread_order (table_of s)) 0 (omega (arith, form_count, l.few_actions))

  rows_form : ordered_rows s (new_number (table_of s)) (thread_order (table_of s)) ≡ action_rows (flatten (canonical_bodies (table_of s)))
  unfolding canonical_bodies
  rows_form = rows_are (thread_order (table_of s)) (order_below (table_of s) l.contents l.bodies l.some_thread)

  -- what code puts, row by row, are the rows of the canonical form
  pub form_rows_lem : form_rows s (new_number (table_of s)) (thread_order (table_of s)) ≡ table_rows (canonical_bodies (table_of s))
  unfolding table_rows form_rows
  form_rows_lem = rw (head_is, entries_form, rows_form)
