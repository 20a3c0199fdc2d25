-- `run_memory::runs::ends_root` meets its contract: another thread than the root, or the root's action by its code.
use mathlib.Core.Path.{◌≡◌, ◌∙◌}
use Prim.Native.Nat.{ℕ}
use mathlib.Core.List.{List}
use mathlib.Core.Bool.{false}
use native.Mathlib.Omega.{arith}
use borrow.Author.Tests.{eq-eqb, ne_eqb}
use lib.Dec.{eqb}
use Rattle.table.specs.Format.{Table, threads_of, table_of, is, kind, kind_of, code_at, bodies_from}
use Rattle.table.specs.declared.kinds.Kind.TheVariants.{End as end}
use Rattle.table.proofs.Parts.{code_from}
use Rattle.table.proofs.Walks.{is_code}
use Rattle.run_memory.specs.Runs.{ends_root}
use Rattle.run_memory.proofs.runs.ends_root.Goals as goal

-- an action is an end by its code
end_code : (T : Table) (a k : ℕ) → k ≡ T.code a → is end (kind T a) ≡ eqb k 0
unfolding kind_of
end_code T a k e = rw e (is_code 0 (T.code a) (omega arith))

threads_in_lem : (s : List ℕ) {n : ℕ} → n ≡ threads_of s → n ≡ (table_of s).threads
unfolding table_of
threads_in_lem s e = e

other_thread : (T : Table) (t a : ℕ) → (t ≡ 0 → ⊥) → false ≡ ends_root T t a
unfolding ends_root
other_thread T t a d = rw (ne_eqb t 0 d)

by_code : (s : List ℕ) (t a : ℕ) {n k : ℕ} → t ≡ 0 → n ≡ threads_of s → k ≡ code_at (bodies_from s n) a → eqb k 0 ≡ ends_root (table_of s) t a
unfolding ends_root
by_code s t a {n} {k} z e f = rw (eq-eqb t 0 z, end_code (table_of s) a k (f ∙ code_from s n (threads_in_lem s e) a))

pub returns-then-thread-ne0 : goal.returns-then-thread-ne0
returns-then-thread-ne0 c = let d = c.args in other_thread _ d.thread d.action c.if-thread-ne0.true

pub returns : goal.returns
returns c =
    let d = c.args in
    by_code d.table.now d.thread d.action c.if-thread-ne0.false c.threads.ensures.value c.code.ensures
