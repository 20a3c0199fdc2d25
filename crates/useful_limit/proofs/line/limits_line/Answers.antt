-- `useful_limit::line::limits_line` meets its contract: each kind of answer has its line.
use Prim.Native.Nat.{ℕ, ◌≤◌}
use native.Mathlib.Omega.{arith}
use mathlib.Core.Path.{◌≡◌}
use mathlib.Core.List.{List, [], ◌∷◌, ◌++◌, append-nil, flatten}
use lib.ListN.{length, drop}
use Rattle.text.specs.Text.{buffer_at, placed}
use Rattle.text.specs.Puts.{Puts}
use Rattle.text.proofs.Placing.{line_put}
use borrow.Author.Rules.{rules}
use Rattle.useful_limit.proofs.line.limits_line.Goals as goal

-- one text at the start of a buffer that has the room for it
put_whole : (s o : List ℕ) (r : ℕ) (t : List ℕ) → 64 ≤ length s → Puts s 0 o r (t ∷ []) 64 → (r ≡ length t) × ((o ≡ t ++ drop r s) × (r ≤ 160))
unfolding flatten
put_whole s o r t h p =
    let i : length t ≤ 64 = rw (append-nil t) at p.short in
    let q = line_put s o r t [] (omega (arith, i)) p.put in
    (q.0, (q.1, omega (arith, q.0, i)))

pub returns-in-Ok : goal.returns-in-Ok
returns-in-Ok c =
    record {
      value = rw c.in-Ok.is c.numbers_line.ensures.value;
      out_after = rw c.in-Ok.is c.numbers_line.ensures.out_after;
      upper_bound = c.numbers_line.ensures.upper_bound;
    }

pub returns-in-Err : goal.returns-in-Err
returns-in-Err c =
    let e = put_whole c.args.out.now _ _ _ (omega (arith, c.put_answer-arg-1.given)) c.put_answer.ensures in
    record { value = rw c.in-Err.is e.0; out_after = rw c.in-Err.is e.1.0; upper_bound = e.1.1 }
