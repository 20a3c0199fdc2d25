-- A body is a part of the action list: that it is there, and what its action i is in the whole.
use mathlib.Core.Path.{◌≡◌}
use Prim.Native.Nat.{ℕ, ◌+◌, ◌-◌, ◌*◌}
use mathlib.Core.List.{List}
use native.Mathlib.Nat.{mul-add, add_assoc}
use native.Mathlib.Omega.{arith}
use lib.ListN.{length, get_or, take, drop, length-drop}
use lib.Seq.{get_or-drop, take_all}
use Rattle.table.specs.Format.{kind_of, kind, code_at, argument_at, threads_of, first_of, bodies_from, bodies_of, body_of, table_of}
use Rattle.table.specs.Code.Steps.{Headed}
use Rattle.table.proofs.Sizes.{sizes}

-- the part from a place on is all that is left from there
pub rest_part : (l : List ℕ) (k : ℕ) → take (length l - k) (drop k l) ≡ drop k l
rest_part l k = take_all (length l - k) (drop k l) (omega (arith, length-drop k l))

-- the action list has m actions of 4 bytes
pub bodies_length : {s : List ℕ} {n m : ℕ} → Headed s n m → length (bodies_of s) ≡ 4 * m
bodies_length h = simp length-drop (omega (arith, h.threads, sizes h))

-- the actions of a table of n threads, and what they say
module _ (s : List ℕ) (n : ℕ) (e : n ≡ (table_of s).threads) where
  pub bodies_from_lem : bodies_from s n ≡ bodies_of s
  unfolding table_of
  bodies_from_lem = rw e

  pub code_from : (a : ℕ) → code_at (bodies_from s n) a ≡ (table_of s).code a
  unfolding table_of
  code_from a = rw e

  pub argument_from : (a : ℕ) → argument_at (bodies_from s n) a ≡ (table_of s).argument a
  unfolding table_of
  argument_from a = rw e

  -- a thread's body among them
  pub body_from : (t : ℕ) → drop (4 * (table_of s).first t) (bodies_from s n) ≡ body_of s t
  unfolding table_of
  body_from t = rw e

-- an action's code, read from the whole table
pub code_in_table : (s : List ℕ) (n a : ℕ) → n ≡ threads_of s → get_or s (4 + 4 * n + 4 * a) 0 ≡ (table_of s).code a
unfolding table_of
code_in_table s n a e = simp (get_or-drop, ← e)

pub code_part : (l : List ℕ) (f i : ℕ) → code_at (drop (4 * f) l) i ≡ code_at l (f + i)
code_part l f i = simp (get_or-drop, mul-add)

pub argument_part : (l : List ℕ) (f i : ℕ) → argument_at (drop (4 * f) l) i ≡ argument_at l (f + i)
argument_part l f i = simp (get_or-drop, mul-add, add_assoc)

-- action i of thread t's body
module _ (s : List ℕ) (t i : ℕ) where
  pub body_kind : kind_of (code_at (body_of s t) i) ≡ kind (table_of s) ((table_of s).first t + i)
  unfolding table_of
  body_kind = rw (code_part (bodies_of s) (first_of s t) i)

  pub body_argument : argument_at (body_of s t) i ≡ (table_of s).argument ((table_of s).first t + i)
  unfolding table_of
  body_argument = argument_part (bodies_of s) (first_of s t) i
