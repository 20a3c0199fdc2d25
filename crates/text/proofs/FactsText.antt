-- The facts of a table as text: how long it is at most.
use Prim.Native.Nat.{◌^◌, ◌≤◌, ◌<◌}
use native.Mathlib.Omega.{arith}
use lib.ListN.{length, length-append}
use Rattle.table.specs.declared.Facts.{Facts}
use Rattle.text.specs.Text.{facts_text}
use Rattle.text.proofs.Decimal.{decimal_length}

-- each fact fits its type
pub record Fits (f : Facts) : Type 0 where
  pub threads : f.threads < 2 ^ 16
  pub actions : f.actions < 2 ^ 16
  pub peak : f.peak < 2 ^ 64
  pub depth : f.depth < 2 ^ 16
  pub nested : f.nested < 2 ^ 16

pub facts_short : (f : Facts) → Fits f → length (facts_text f) ≤ 57
facts_short f h =
    simp length-append
    (omega (
      arith,
      decimal_length 4 f.threads (omega arith),
      decimal_length 4 f.actions (omega arith),
      decimal_length 19 f.peak (omega arith),
      decimal_length 4 f.depth (omega arith),
    ))
