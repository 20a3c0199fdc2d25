-- What code puts for an accepted table is its canonical form, at the start of a buffer that has room for every table.
use Rattle.std.specs.Prelude.{Err, Ok, Result, ⊤}
use Rattle.table.specs.declared.Refusal.{Refusal}
use mathlib.Core.Path.{◌≡◌, refl, sym, ap, ◌∙◌}
use Prim.Native.Nat.{ℕ, ◌≤◌, ◌<◌}
use mathlib.Core.List.{List, [], ◌∷◌, flatten, Memᴰ}
use native.Mathlib.Omega.{arith}
use lib.ListN.{length, take, drop, length-append}
use lib.Seq.{take_at}
use Rattle.table.specs.Format.{threads_of, first_of, count_of, table_of}
use Rattle.table.specs.Written.{table_rows, written}
use Rattle.table.specs.Load.{if_found}
use Rattle.table.proofs.Tests.{no_way}
use Rattle.table.proofs.Bodies.{body_within}
use Rattle.table.proofs.Passes.{passes_rules}
use Rattle.table.proofs.ReadBack.{bytes_length}
use Rattle.text.specs.Text.{buffer_at}
use Rattle.text.specs.Puts.{put_all}
use Rattle.text.proofs.Putting.{puts_whole}
use Rattle.order.proofs.Lawful.{Lawful, lawful}
use Rattle.rows.specs.Rows.{over, ordered_rows, named_by}
use Rattle.canonical.specs.Canonical.{thread_order, new_number, canonical_bodies, canonical}
use Rattle.canonical.specs.Answers.{found_in, formed_by, formed, formed_in}
use Rattle.canonical.specs.Code.NumbersOf.{numbers_of, order_of}
use Rattle.canonical.specs.Code.Rows.{Accepts, form_rows}
use Rattle.canonical.proofs.Renaming.{order_below}
use Rattle.canonical.proofs.NumbersOf.{numbers_of_lem}
use Rattle.canonical.proofs.FormRows.{rows_same, form_size, form_count, form_rows_lem}
use Rattle.canonical.proofs.Ordering.{ordered}

pub accepts_lawful : (s : List ℕ) → Accepts s → Lawful (table_of s)
accepts_lawful s a = lawful s ((passes_rules s).0 a)

module _ (s : List ℕ) (l : Lawful (table_of s)) where
  same_bodies : (f : ℕ → ℕ) → ((x : ℕ) → x < (table_of s).threads → f x ≡ new_number (table_of s) x) → (ts : List ℕ) → ((t : ℕ) → Memᴰ t ts → t < (table_of s).threads)
      → ordered_rows s f ts ≡ ordered_rows s (new_number (table_of s)) ts
  unfolding ordered_rows table_of
  same_bodies f e [] h = refl
  same_bodies f e (t ∷ ts) h =
      let b = body_within (table_of s) l.contents t (h t (Memᴰ.head refl)) in
      rw (rows_same s f (new_number (table_of s)) e l (count_of s t) (first_of s t) b, same_bodies f e ts (λ u m. h u (Memᴰ.tail m)))

  rows_are : form_rows s (named_by (numbers_of s)) (take (table_of s).threads (order_of (numbers_of s) (table_of s).threads)) ≡ table_rows (canonical_bodies (table_of s))
  unfolding form_rows
  rows_are =
      rw (
        ordered (table_of s) l (numbers_of s) (numbers_of_lem s l),
        same_bodies (named_by (numbers_of s)) (numbers_of_lem s l) (thread_order (table_of s)) (order_below (table_of s) l.contents l.bodies l.some_thread),
      )
      (form_rows_lem s l)

  -- the form has as many bytes as the table
  pub form_short : length (canonical s) ≤ 36868
  unfolding canonical
  form_short = omega (arith, bytes_length (canonical_bodies (table_of s)), form_size s l, form_count s l, l.few_threads, l.few_actions)

  abbrev rows : List (List ℕ)
  rows = form_rows s (named_by (numbers_of s)) (take (table_of s).threads (order_of (numbers_of s) (table_of s).threads))

  bytes_are : flatten rows ≡ canonical s
  unfolding canonical written
  bytes_are = ap flatten rows_are

  pub form_put : (n : ℕ) (names order out : List ℕ) → n ≡ threads_of s → names ≡ numbers_of s → order ≡ order_of names n → 36868 ≤ length out → (o : List ℕ) (k : ℕ)
      → buffer_at o k ≡ put_all (buffer_at out 0) (form_rows s (named_by names) (take n order)) → (k ≡ length (canonical s)) × (o ≡ over (canonical s) out)
  unfolding table_of
  form_put n names order out e f g room o k p =
      let q : buffer_at o k ≡ put_all (buffer_at out 0) rows = p ∙ rw (g, f, e) in
      let z = puts_whole {s = out} {o = o} {r = k} {ts = rows} {m = 36868} room (record { put = q; short = rw bytes_are form_short }) in
      let w : k ≡ length (canonical s) = rw bytes_are at z.0 in
      (w, rw (bytes_are, w) at z.1)

-- ---- what lies at a buffer's start

pub over_within : (front out o : List ℕ) (k : ℕ) → k ≡ length front → o ≡ over front out → k ≤ length o
over_within front out o k e p = omega (arith, ap length p, length-append front (drop (length front) out))

pub over_front : (front out o : List ℕ) (k : ℕ) → k ≡ length front → o ≡ over front out → take k o ≡ front
over_front front out o k e p = rw p (take_at front (drop (length front) out) k (sym e))

-- a form that is written lies within its buffer
pub formed_within : (s out o : List ℕ) (k : ℕ) → formed s ≡ Ok k → o ≡ formed_in s out → k ≤ length o
unfolding formed formed_in
formed_within s out o k e p = go (found_in s) e p
  where
    go : (f : Result ⊤ Refusal) → formed_by f (length (canonical s)) ≡ Ok k → o ≡ if_found f out (over (canonical s) out) → k ≤ length o
    go (Ok _) e p = let z : k ≡ length (canonical s) = cc in over_within (canonical s) out o k z p
    go (Err r) e p = absurd (no_way (cc))
