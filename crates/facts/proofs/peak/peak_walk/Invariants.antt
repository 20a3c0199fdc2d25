-- `facts::peak::peak_walk` meets its contract. The invariant: the sums and the highest are those of the actions before i; what a sum is after an action is part of the whole sum, which is small.
use mathlib.Core.Path.{◌≡◌}
use Prim.Native.Nat.{ℕ, ◌≤◌}
use mathlib.Core.List.{List}
use Rattle.table.specs.Sum.{sum_to, greatest_to}
use Rattle.table.specs.declared.kinds.Kind.TheVariants.{Alloc as alloc, Free as free, Fork as fork}
use Rattle.table.specs.Code.Steps.{amount_at, WalkReady}
use Rattle.facts.specs.Code.Steps.{top_of, PeaksReady}
use Rattle.facts.proofs.peak.peak_walk.Given as goal

pub record Inv (l : List ℕ) (count : ℕ) (rises falls peaks : List ℕ) (rise fall peak i : ℕ) : Type 0 where
  pub ready : WalkReady fork l count rises falls
  pub low : PeaksReady l count rises falls peaks
  pub within : i ≤ count
  pub risen : rise ≡ sum_to (amount_at alloc fork l rises) i
  pub fallen : fall ≡ sum_to (amount_at free fork l falls) i
  pub highest : peak ≡ greatest_to (top_of l rises falls peaks) i

abbrev pub invariant-loop-i : goal.invariant-loop-i
invariant-loop-i l = Inv l.body l.count l.rises l.falls l.peaks l.rise l.fall l.peak l.i × (l.stop ≡ l.count)
