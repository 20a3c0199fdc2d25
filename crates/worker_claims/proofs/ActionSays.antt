-- What a worker that calls from C does is read from the row of its turn, and from `wivakkol_kind` and `wivakkol_argument` of the action that it names: what their promises say, and that the
-- effect so read is that of the turn's reply, whichever scheduler's it is.
use mathlib.Core.Path.{◌≡◌, refl, ap, ◌∙◌}
use Prim.Native.Nat.{ℕ, ◌<◌}
use native.Mathlib.Omega.{arith}
use mathlib.Core.List.{List, []}
use lib.ListN.{get_or}
use contract.Lifetimes.{Lfts}
use denote.Ref.{Bor}
use denote.Triple.Clauses.{AtExit}
use borrow.Fn.Kinds.{ended_of}
use Rattle.table.specs.Format.{Table, kind_of, table_of}
use Rattle.table.specs.declared.Refusal.{Refusal}
use Rattle.schedule.specs.declared.Reply.{Reply}
use Rattle.schedule.specs.declared.Reply.TheVariants.{Idle, Done, Quota, Wait}
use Rattle.schedule.specs.Answers.{reply_values, refusing, passing}
use Rattle.run_memory.specs.Memory.{Answer}
use Rattle.run_memory.specs.Stands.{values_row}
use Rattle.wivakkol_turn.specs.Actions.{kind_code, argument_of}
use Rattle.wivakkol_turn.proofs.Numbered.{own_kind, own_argument}
use Rattle.wivakkol_turn.proofs.actions.wivakkol_kind.Kinds as kind_kinds
use Rattle.wivakkol_turn.proofs.actions.wivakkol_kind.Reads as kind_promise
use Rattle.wivakkol_turn.proofs.actions.wivakkol_argument.Kinds as argument_kinds
use Rattle.wivakkol_turn.proofs.actions.wivakkol_argument.Reads as argument_promise
use Rattle.claims.proofs.LentSays.{lent_of}
use Rattle.workers.specs.Real.{Effect, nothing, effect_by, effect_of}

-- ---- what the promises say

-- `wivakkol_kind`, lent a table s, answered k to action a
pub record KindSays (s : List ℕ) (a k : ℕ) : Type 0 where
  pub lifetimes : Lfts 1
  pub table : Bor (List ℕ)
  pub lent : table.now ≡ s
  pub exit : AtExit (ended_of 1 kind_kinds.ps kind_kinds.r) lifetimes
  pub promised : kind_promise.Learnt lifetimes (table, (a, tt)) k exit

-- `wivakkol_argument`
pub record ArgumentSays (s : List ℕ) (a x : ℕ) : Type 0 where
  pub lifetimes : Lfts 1
  pub table : Bor (List ℕ)
  pub lent : table.now ≡ s
  pub exit : AtExit (ended_of 1 argument_kinds.ps argument_kinds.r) lifetimes
  pub promised : argument_promise.Learnt lifetimes (table, (a, tt)) x exit

pub kind_is : {s : List ℕ} {a k : ℕ} → KindSays s a k → k ≡ kind_code s a
kind_is {s} {a} h = h.promised ∙ ap (λ (u : List ℕ). kind_code u a) h.lent

pub argument_is : {s : List ℕ} {a x : ℕ} → ArgumentSays s a x → x ≡ argument_of s a
argument_is {s} {a} h = h.promised ∙ ap (λ (u : List ℕ). argument_of u a) h.lent

-- what the definitions answer keeps them
pub kind_says : (s : List ℕ) (a : ℕ) → KindSays s a (kind_code s a)
kind_says s a = record { lifetimes = ([], tt); table = lent_of s; lent = refl; exit = (lent_of s, (a, tt)); promised = refl }

pub argument_says : (s : List ℕ) (a : ℕ) → ArgumentSays s a (argument_of s a)
argument_says s a = record { lifetimes = ([], tt); table = lent_of s; lent = refl; exit = (lent_of s, (a, tt)); promised = refl }

-- ---- the row of a turn

-- what is said, where 2 is done, the thread and the action
abbrev pub said_in : Answer → ℕ
said_in a = get_or a.row 1 0

abbrev pub thread_in : Answer → ℕ
thread_in a = get_or a.row 2 0

abbrev pub action_in : Answer → ℕ
action_in a = get_or a.row 3 0

-- what the worker does where done is said
abbrev pub read_in : List ℕ → Answer → Effect
read_in u a = effect_by (kind_of (kind_code u (action_in a))) (thread_in a) (argument_of u (action_in a))

-- ---- it is that of the reply

-- a refused turn says nothing
pub refused_silent : (x : Refusal) (a : Answer) → a.row ≡ values_row (refusing x 0) → said_in a ≡ 2 → ⊥
refused_silent x a r q = let z : ◌≡◌ {A = ℕ} 0 2 = rw r at q in omega arith

own_effect : (u : List ℕ) (t a : ℕ) → a < (table_of u).actions → effect_by (kind_of (kind_code u a)) t (argument_of u a) ≡ effect_of (table_of u) (Done t a)
unfolding effect_of table_of
own_effect u t a b = rw (own_kind u a b, own_argument u a b)

pub done_read : (u : List ℕ) (x : Reply) (k : ℕ) (a : Answer) → a.row ≡ values_row (passing k (reply_values x)) → said_in a ≡ 2 → ((t d : ℕ) → x ≡ Done t d → d < (table_of u).actions)
    → read_in u a ≡ effect_of (table_of u) x
done_read u Idle k a r q there = let z : ◌≡◌ {A = ℕ} 1 2 = rw r at q in absurd (omega arith)
done_read u (Quota t y) k a r q there = let z : ◌≡◌ {A = ℕ} 3 2 = rw r at q in absurd (omega arith)
done_read u (Wait t c) k a r q there = let z : ◌≡◌ {A = ℕ} 4 2 = rw r at q in absurd (omega arith)
done_read u (Done t d) k a r q there = rw r (own_effect u t d (there t d refl))

pub other_nothing : (T : Table) (x : Reply) (k : ℕ) (a : Answer) → a.row ≡ values_row (passing k (reply_values x)) → (said_in a ≡ 2 → ⊥) → nothing ≡ effect_of T x
unfolding effect_of
other_nothing T Idle k a r n = refl
other_nothing T (Quota t y) k a r n = refl
other_nothing T (Wait t c) k a r n = refl
other_nothing T (Done t d) k a r n = absurd (n (ap (λ (l : List ℕ). get_or l 1 0) r))

-- no number of N7 is that it is 0
pub unpassed : (x : Reply) → reply_values x ≡ passing 0 (reply_values x)
unpassed Idle = refl
unpassed (Done t a) = refl
unpassed (Quota t x) = refl
unpassed (Wait t c) = refl
