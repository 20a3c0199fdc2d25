-- `assembly::fault::message` meets its contract: every message fits the buffer.
use Prim.Native.Nat.{ℕ, ◌≤◌}
use native.Mathlib.Omega.{arith}
use mathlib.Core.Path.{◌≡◌, ap}
use mathlib.Core.List.{List, ◌++◌, flatten}
use lib.ListN.{length, drop, length-append}
use Rattle.io.specs.Counts.{IsPrefixLen}
use Rattle.text.proofs.Placing.{counts}
use Rattle.text.specs.Puts.{Puts}
use Rattle.text.proofs.Putting.{puts_whole}
use borrow.Author.Rules.{rules}
use Rattle.assembly.proofs.fault.message.Goals as goal

told : (s o : List ℕ) (r : ℕ) (ts : List (List ℕ)) → 96 ≤ length s → Puts s 0 o r ts 96 → (r ≡ length (flatten ts)) × ((o ≡ flatten ts ++ drop r s) × IsPrefixLen r o)
told s o r ts h p =
    let q = puts_whole h p in
    (q.0, (q.1, counts o r (omega (arith, q.0, ap length q.1, length-append (flatten ts) (drop r s)))))

pub returns : goal.returns
returns c = let both = told _ _ _ _ (search rules) c.put_message.ensures in record { value = both.0; out_after = both.1.0; prefix_len = both.1.1 }
