-- `listing::turns::put_step` meets its contract: the action's kind and the thread's next action are read where the reply says, turns taken and memory held where they stand.
use mathlib.Core.Path.{◌≡◌, ap, subst, ◌∙◌}
use Prim.Native.Nat.{ℕ}
use mathlib.Core.List.{List}
use borrow.Author.Rules.{rules}
use lib.ListN.{get_or}
use Rattle.table.specs.Format.{threads_of, table_of, kind, kind_of, code_at, bodies_from}
use Rattle.table.specs.declared.kinds.Kind.{Kind}
use Rattle.table.proofs.Parts.{code_from}
use Rattle.schedule.specs.Listing.{Line, line, told_with}
use Rattle.lines.specs.Lines.{turn_texts}
use Rattle.text.specs.Puts.{Puts}
use Rattle.run_memory.specs.Blocks.{words_in}
use Rattle.listing.proofs.turns.put_step.Goals as goal

threads_in_lem : (s : List ℕ) {n : ℕ} → n ≡ threads_of s → n ≡ (table_of s).threads
unfolding table_of
threads_in_lem s e = e

-- the kind of the action read
kind_read : (s : List ℕ) {n a b : ℕ} {k : Kind} → n ≡ threads_of s → a ≡ b → k ≡ kind_of (code_at (bodies_from s n) a) → k ≡ kind (table_of s) b
kind_read s {n} {a} e d f = f ∙ ap kind_of (code_from s n (threads_in_lem s e) a ∙ ap (λ (i : ℕ). (table_of s).code i) d)

next_read : (l : List ℕ) {t u x : ℕ} → t ≡ u → x ≡ get_or l t 0 → x ≡ get_or l u 0
next_read l e f = f ∙ ap (λ (i : ℕ). get_or l i 0) e

same_line : {x y : Line} {s o : List ℕ} {at r : ℕ} → x ≡ y → Puts s at o r (turn_texts x) 64 → Puts s at o r (turn_texts y) 64
same_line {s = s} {o} {at} {r} e p = subst (λ (z : Line). Puts s at o r (turn_texts z) 64) e p

pub returns : goal.returns
returns c =
    let g = c.args in
    let e = kind_read g.table.now c.threads.ensures.value c.action_done.ensures c.kind-kind.ensures in
    let d = next_read ((words_in g.words.now).rows 1) c.thread_in.ensures c.row_at-next.ensures in
    same_line (λ i. line (c.total_at.ensures i) g.w (told_with g.reply (e i) (d i)) (c.total_at-held.ensures i)) c.put_turn.ensures
