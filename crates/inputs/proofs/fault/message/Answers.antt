-- `inputs::fault::message` meets its contract: every message fits the buffer.
use native.Mathlib.Omega.{arith}
use Prim.Native.Nat.{ℕ, ◌≤◌}
use mathlib.Core.Path.{◌≡◌, refl, ap}
use mathlib.Core.List.{List, ◌++◌, flatten}
use lib.ListN.{length, drop, length-append}
use Rattle.io.specs.Counts.{IsPrefixLen}
use Rattle.text.proofs.Placing.{counts}
use Rattle.text.specs.Puts.{Puts}
use Rattle.text.proofs.Putting.{puts_whole}
use borrow.Author.Rules.{rules}
use Rattle.inputs.proofs.fault.message.Goals as goal

none : (o : List ℕ) → IsPrefixLen 0 o
none o = counts o 0 (omega arith)

told : (s o : List ℕ) (r : ℕ) (ts : List (List ℕ)) → 96 ≤ length s → Puts s 0 o r ts 96 → (r ≡ length (flatten ts)) × ((o ≡ flatten ts ++ drop r s) × IsPrefixLen r o)
told s o r ts h p =
    let q = puts_whole h p in
    (q.0, (q.1, counts o r (omega (arith, q.0, ap length q.1, length-append (flatten ts) (drop r s)))))

pub returns-in-Ok : goal.returns-in-Ok
returns-in-Ok c = record { value = rw c.in-Ok.is refl; out_after = rw c.in-Ok.is refl; prefix_len = none c.args.out.now }

pub returns-in-Malformed : goal.returns-in-Malformed
returns-in-Malformed c =
    let both = told _ _ _ _ (search rules) c.put_malformed.ensures in
    record { value = rw (c.in-Err.is, c.in-Malformed.is) both.0; out_after = rw (c.in-Err.is, c.in-Malformed.is) both.1.0; prefix_len = both.1.1 }

pub returns-in-NoTable : goal.returns-in-NoTable
returns-in-NoTable c =
    record { value = rw (c.in-Err.is, c.in-NoTable.is) c.message.ensures.value; out_after = rw (c.in-Err.is, c.in-NoTable.is) c.message.ensures.out_after; prefix_len = c.message.ensures.prefix_len }
