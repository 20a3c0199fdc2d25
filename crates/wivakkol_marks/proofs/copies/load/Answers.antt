-- `wivakkol_marks::copies::load` meets its contract: each block is the stretch of its width, and is mended.
use mathlib.Core.Path.{◌∙◌}
use Prim.Native.Nat.{◌+◌, ◌*◌}
use native.Mathlib.Omega.{arith}
use Rattle.std.specs.List.{between}
use Rattle.run_memory.proofs.Copied.{front_whole}
use Rattle.wivakkol_marks.proofs.Stretches.{stretch_out, loads}
use Rattle.wivakkol_marks.proofs.copies.load.Goals as goal

pub returns : goal.returns
returns c =
    let a = c.args in
    loads a.i a.markbytes.now a.markwords.now a.marknumbers.now a.marksums.now
    (c.copy_front.ensures ∙ front_whole a.bytes.now (between (1040 * a.i) (1040 * a.i + 1040) a.markbytes.now) (omega arith)
    ∙ stretch_out 1040 a.i a.markbytes.now)
    (c.copy_front-2.ensures ∙ front_whole a.words.now (between (6163 * a.i) (6163 * a.i + 6163) a.markwords.now) (omega arith)
    ∙ stretch_out 6163 a.i a.markwords.now)
    (c.copy_front-3.ensures ∙ front_whole a.numbers.now (between (18 * a.i) (18 * a.i + 18) a.marknumbers.now) (omega arith)
    ∙ stretch_out 18 a.i a.marknumbers.now)
    (c.copy_front-4.ensures ∙ front_whole a.sums.now (between (1027 * a.i) (1027 * a.i + 1027) a.marksums.now) (omega arith)
    ∙ stretch_out 1027 a.i a.marksums.now) c.mend.ensures
