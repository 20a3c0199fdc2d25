-- `run_memory::act::hold` meets its contract: the highest is that before, or the amount.
use mathlib.Core.Path.{ap, ◌∙◌}
use Prim.Native.Nat.{ℕ, max}
use Rattle.run_memory.specs.Places.{totalled}
use Rattle.run_memory.proofs.act.hold.Goals as goal

pub returns : goal.returns
returns c =
    let highest = c.max-highest.ensures ∙ ap (λ (x : ℕ). max x c.args.amount) c.total_at.ensures in
    c.put_total-2.ensures ∙ (λ i. totalled 1 (highest i) (c.put_total.ensures i))
