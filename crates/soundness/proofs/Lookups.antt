-- What an accepted table gives the lookups of the code: what is read of an action, where a body and a thread's next action lie.
use mathlib.Core.Path.{◌≡◌, ap, ◌∙◌}
use Prim.Native.Nat.{ℕ, ◌+◌, ◌≤◌, ◌<◌}
use mathlib.Core.List.{List}
use native.Mathlib.Omega.{arith}
use lib.ListN.{get_or}
use Rattle.table.specs.Format.{kind, kind_of, code_at, argument_at, bodies_from, Table, table_of}
use Rattle.table.specs.declared.kinds.Kind.{Kind}
use Rattle.table.specs.Checks.{end_of}
use Rattle.table.specs.Sum.{Read}
use Rattle.table.proofs.Parts.{code_from, argument_from}
use Rattle.table.proofs.Bodies.{count_pos, body_within, after_end}
use Rattle.order.proofs.Lawful.{Lawful, lawful}
use Rattle.order.proofs.Words.{all_below_exactly}
use Rattle.schedule.proofs.Sound.Clauses.{next_in_body_exactly}
use Rattle.soundness.specs.Code.Checks.{Accepted, Placed}

pub accepted_lawful : {s : List ℕ} {n : ℕ} → Accepted s n → Lawful (table_of s)
accepted_lawful {s} k = lawful s k.rules

pub few_threads : {s : List ℕ} {n : ℕ} → Accepted s n → n ≤ 1024
few_threads k = omega (arith, k.threads, (accepted_lawful k).few_threads)

-- what is read of action a
module _ {s : List ℕ} {n : ℕ} (k : Accepted s n) (a : ℕ) where
  pub code_read : {r : ℕ} → r ≡ code_at (bodies_from s n) a → r ≡ (table_of s).code a
  code_read e = e ∙ code_from s n k.threads a

  pub kind_read : {r : Kind} → r ≡ kind_of (code_at (bodies_from s n) a) → r ≡ kind (table_of s) a
  kind_read e = e ∙ ap kind_of (code_from s n k.threads a)

  pub argument_read : {r : ℕ} → Read (argument_at (bodies_from s n) a) 16777216 r → Read ((table_of s).argument a) 16777216 r
  argument_read e = record { value = e.value ∙ argument_from s n k.threads a; small = e.small }

-- ---- bodies

-- thread t is below 1,024; its body is not empty and ends within 8,192 actions
pub record Body (T : Table) (t : ℕ) : Type 0 where
  pub few : t < 1024
  pub some : 0 < T.count t
  pub ends : end_of T t + 1 ≡ T.first t + T.count t
  pub within : T.first t + T.count t ≤ T.actions
  pub small : T.actions ≤ 8192

pub body : {T : Table} {t : ℕ} → Lawful T → t < T.threads → Body T t
body {T} {t} l h =
    record {
      few = omega (arith, l.few_threads);
      some = count_pos T l.contents t h;
      ends = omega (arith, after_end T l.contents t h);
      within = body_within T l.contents t h;
      small = l.few_actions;
    }

module _ {s : List ℕ} {n t : ℕ} (k : Accepted s n) (h : t < n) where
  pub thread_below : t < (table_of s).threads
  thread_below = rw k.threads at h

  pub accepted_body : Body (table_of s) t
  accepted_body = body (accepted_lawful k) thread_below

  -- a thread's next action lies in its body
  pub placed : (next : List ℕ) → Placed s n next → ((table_of s).first t ≤ get_or next t 0) × (get_or next t 0 ≤ end_of (table_of s) t)
  placed next p = (next_in_body_exactly (table_of s) next t).0 ((all_below_exactly _ n).0 p t h)
