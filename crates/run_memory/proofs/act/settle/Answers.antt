-- `run_memory::act::settle` meets its contract: the writes follow one another.
use mathlib.Core.Path.{sym, ap, subst, ◌∙◌}
use Prim.Native.Nat.{ℕ, ◌+◌, ◌^◌, ◌<◌}
use borrow.Author.Tests.{not-false}
use Rattle.array_machine.specs.Counted.{busy_after}
use Rattle.run_memory.specs.Blocks.{Words, bytes_in, words_in}
use Rattle.run_memory.specs.Places.{holding, threaded, headed}
use Rattle.run_memory.proofs.act.settle.Goals as goal

pub busy_after-busy-requires : goal.busy_after-busy-requires
busy_after-busy-requires c = (
  c.requires.0,
  λ e. subst (λ (x : ℕ). x + 2 ^ c.args.w < 65536) (sym c.head_at.ensures) (c.requires.1 (not-false _ (sym c.holds_at-before.ensures ∙ e))),
)

pub returns : goal.returns
returns c = let w = c.args.w in
    let z = c.args.after in record {
      bytes_after = c.put_holds.ensures ∙ ap (λ (x : ℕ). holding w x (bytes_in c.args.bytes.now)) c.as_number.ensures;
      words_after = c.put_thread.ensures
          ∙ ap (λ (W : Words). threaded w z.thread W)
          (c.put_head.ensures
          ∙ ap (λ (x : ℕ). headed 2 x (words_in c.args.words.now))
          (c.busy_after-busy.ensures ∙ (λ i. busy_after (c.head_at.ensures i) (c.holds_at-before.ensures i) z.holds w)));
      numbers_after = c.put_quota.ensures;
    }
