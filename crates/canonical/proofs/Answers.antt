-- The answers and the buffers by what the checks find; which tables are refused; the values without the answer.
use Rattle.std.specs.Prelude.{Err, Ok, Result, ⊤}
use mathlib.Core.Path.{◌≡◌, ap}
use Prim.Native.Nat.{ℕ}
use mathlib.Core.List.{List}
use mathlib.Core.Logic.{◌↔◌}
use lib.ListN.{length}
use Rattle.table.specs.Load.{loaded, facts_of}
use Rattle.table.specs.Format.{table_of}
use Rattle.table.specs.declared.Refusal.{Refusal}
use Rattle.rows.specs.Rows.{over}
use Rattle.canonical.specs.Canonical.{canonical}
use Rattle.std.specs.declared.cmp.Ordering.{Ordering}
use Rattle.canonical.specs.Order.{compare_tables}
use Rattle.canonical.specs.Answers.{found_in, formed, formed_in, form_values, form_values_of, compared, compared_in, compare_values, compare_values_of}
use Rattle.canonical.specs.declared.RefusedTable.{RefusedTable}

-- ---- the form

-- what the call answers, and what it leaves
pub record Forms (s out : List ℕ) (r : Result ℕ Refusal) (out' : List ℕ) : Type 0 where
  pub answer : r ≡ formed s
  pub values : form_values_of r ≡ form_values s
  pub left : out' ≡ formed_in s out

pub form_refused : (s out : List ℕ) (r : Refusal) → found_in s ≡ Err r → Forms s out (Err r) out
unfolding formed form_values formed_in
form_refused s out r e = record { answer = rw e; values = rw e; left = rw e }

pub form_written : (s out : List ℕ) → found_in s ≡ Ok tt → (k : ℕ) (o : List ℕ) → k ≡ length (canonical s) → o ≡ over (canonical s) out → Forms s out (Ok k) o
unfolding formed form_values formed_in
form_written s out e k o p q = record { answer = rw (e, p); values = rw (e, p); left = rw e q }

-- ---- two tables

pub record Compares (s u a b : List ℕ) (r : Result Ordering RefusedTable) (a' b' : List ℕ) : Type 0 where
  pub answer : r ≡ compared s u
  pub values : compare_values_of r ≡ compare_values s u
  pub left : a' ≡ compared_in s u (canonical s) a
  pub left' : b' ≡ compared_in s u (canonical u) b

module _ (s u a b : List ℕ) where
  pub compare_refused : (r : Refusal) → found_in s ≡ Err r → Compares s u a b (Err (record { table = 0; refusal = r })) a b
  unfolding compared compare_values compared_in
  compare_refused r e = record { answer = rw e; values = rw e; left = rw e; left' = rw e }

  pub compare_refused_second : (r : Refusal) → found_in s ≡ Ok tt → found_in u ≡ Err r → Compares s u a b (Err (record { table = 1; refusal = r })) a b
  unfolding compared compare_values compared_in
  compare_refused_second r e f = record { answer = rw (e, f); values = rw (e, f); left = rw (e, f); left' = rw (e, f) }

  pub compare_said : found_in s ≡ Ok tt → found_in u ≡ Ok tt → (r : Result Ordering RefusedTable) (a' b' : List ℕ) → r ≡ Ok (compare_tables s u) → a' ≡ over (canonical s) a → b' ≡ over (canonical u) b
      → Compares s u a b r a' b'
  unfolding compared compare_values compared_in
  compare_said e f r a' b' p q w = record { answer = rw (e, f) p; values = rw (e, f) (ap compare_values_of p); left = rw (e, f) q; left' = rw (e, f) w }

-- ---- exactly the refused tables are refused, with their own number and place

pub formed_exactly : (s : List ℕ) (r : Refusal) → (formed s ≡ Err r) ↔ (loaded s ≡ Err r)
unfolding formed loaded
formed_exactly s r = go (found_in s)
  where
    go : (f : Result ⊤ Refusal) → (Rattle.canonical.specs.Answers.formed_by f (length (canonical s)) ≡ Err r) ↔ (Rattle.table.specs.Load.answer f (facts_of (table_of s)) ≡ Err r)
    go (Ok _) = ((λ h. absurd (Rattle.table.proofs.Tests.no_way (cc))), (λ h. absurd (Rattle.table.proofs.Tests.no_way (cc))))
    go (Err q) = ((λ h. let e : q ≡ r = cc in ap Err e), (λ h. let e : q ≡ r = cc in ap Err e))
