-- `stealing::count` meets its contract.
use mathlib.Core.Path.{ap, ◌∙◌}
use Prim.Native.Nat.{ℕ, ◌+◌}
use Rattle.run_memory.specs.Blocks.{sums_in}
use Rattle.run_memory.specs.Places.{totalled}
use Rattle.stealing.proofs.count.Goals as goal

pub returns : goal.returns
returns c =
    c.put_total.ensures ∙ ap (λ (n : ℕ). totalled 2 (n + 1) (sums_in c.args.sums.now)) c.total_at-turns.ensures
