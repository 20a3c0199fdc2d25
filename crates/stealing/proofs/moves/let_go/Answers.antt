-- `stealing::moves::let_go` meets its contract.
use mathlib.Core.Path.{ap, ◌∙◌}
use Prim.Native.Nat.{ℕ}
use mathlib.Core.Bool.{true, false}
use Rattle.array_machine.specs.Counted.{busy_after}
use Rattle.run_memory.specs.Blocks.{words_in}
use Rattle.run_memory.specs.Places.{threaded, headed}
use Rattle.stealing.proofs.moves.let_go.Goals as goal

pub returns : goal.returns
returns c = record { bytes_after = c.put_holds.ensures; words_after = c.put_thread.ensures ∙ ap (threaded c.args.w 0) (c.put_head.ensures ∙ ap (λ (x : ℕ). headed 2 x (words_in c.args.words.now)) (c.without-busy.ensures ∙ ap (λ (x : ℕ). busy_after x true false c.args.w) c.head_at.ensures)); numbers_after = c.put_quota.ensures }
