-- `facts::level::depth` meets its contract: the root begins at level 1, and no end level is known yet.
use mathlib.Core.Path.{sym}
use Prim.Native.Nat.{ℕ, ◌≤◌, ◌<◌}
use mathlib.Core.List.{List}
use native.Mathlib.Omega.{arith}
use lib.ListN.{replicate, length-replicate, get_or-replicate}
use Rattle.table.specs.Format.{Table}
use Rattle.table.specs.Level.{D}
use Rattle.table.specs.Code.Steps.{Nested}
use Rattle.facts.specs.Code.Steps.{Starts, EndLevels}
use Rattle.table.proofs.Sizes.{sizes}
use Rattle.table.proofs.Levels.{level_root}
use Rattle.facts.proofs.EndLevels.{by_rules, in_threads, few_threads}
use Rattle.facts.proofs.level.depth.Goals as goal

none_known : (T : Table) → T.threads ≤ 1024 → EndLevels T (replicate 1024 0)
none_known T few = record { size = simp length-replicate; right = λ d h k. absurd (k (get_or-replicate 1024 d 0 0 (omega arith))) }

root_starts : {s : List ℕ} {n m : ℕ} → Nested s n m → Starts s n m 0 1
root_starts {n = n} w =
    let h : 0 < n = omega (arith, sizes w.formed.laid.headed) in
    record { nested = w; thread = h; level = sym (by_rules w level_root (in_threads w h)) }

pub end_level-requires : goal.end_level-requires
end_level-requires c = let w = c.requires.nested in record { starts = root_starts w; end_levels = none_known _ (few_threads w) }

pub returns : goal.returns
unfolding D
returns c = c.end_level.ensures.level
