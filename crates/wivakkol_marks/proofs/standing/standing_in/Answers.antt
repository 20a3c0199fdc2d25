-- `wivakkol_marks::standing::standing_in` meets its contract: what the parts hold, read off the blocks.
use mathlib.Core.Path.{ap, ◌∙◌}
use Prim.Native.Nat.{ℕ, min}
use Rattle.wivakkol_marks.proofs.Fits.{standing_read}
use Rattle.wivakkol_marks.proofs.standing.standing_in.Goals as goal

pub returns : goal.returns
returns c =
    let e = c.standing_of.ensures in
    record {
      value = standing_read c.args.table.now c.lay_out.ensures
          (record {
            workers = c.workers.ensures ∙ ap (λ (n : ℕ). min n 17) c.setting_at.ensures;
            quota = c.setting_at-2.ensures;
            leftmost = c.head_at.ensures;
            records = c.workers_out-records.ensures;
            busy = c.head_at-2.ensures;
            held = c.total_at.ensures;
            highest = c.total_at-2.ensures;
            turns = c.total_at-3.ensures;
          })
          e.value c.written.ensures;
      seen_after = e.seen_after;
      forks_after = e.forks_after;
      laid_out = c.lay_out.ensures;
    }
