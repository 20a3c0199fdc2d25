-- `wivakkol_marks::copies::store` meets its contract: each block is laid over the stretch of its width.
use mathlib.Core.Path.{◌∙◌}
use Prim.Native.Nat.{◌+◌, ◌*◌}
use native.Mathlib.Omega.{arith}
use Rattle.std.specs.List.{between}
use Rattle.std.proofs.lemmas.Slice.{put_mid-paste}
use Rattle.run_memory.proofs.Copied.{front_whole}
use Rattle.wivakkol_marks.proofs.Stretches.{stores}
use Rattle.wivakkol_marks.proofs.copies.store.Goals as goal

pub returns : goal.returns
returns c =
    let a = c.args in
    stores a.i c.requires a.bytes.now a.words.now a.numbers.now a.sums.now a.markbytes.now a.markwords.now a.marknumbers.now a.marksums.now
    (omega arith) (omega arith) (omega arith) (omega arith) (omega arith) (omega arith)
    (omega arith) (omega arith)
    (put_mid-paste _ _ _ _ a.bytes.now 1040 (c.copy_front.ensures ∙ front_whole (between (1040 * a.i) (1040 * a.i + 1040) a.markbytes.now) a.bytes.now (omega arith)) (omega arith) (omega arith))
    (put_mid-paste _ _ _ _ a.words.now 6163 (c.copy_front-2.ensures ∙ front_whole (between (6163 * a.i) (6163 * a.i + 6163) a.markwords.now) a.words.now (omega arith)) (omega arith) (omega arith))
    (put_mid-paste _ _ _ _ a.numbers.now 18 (c.copy_front-3.ensures ∙ front_whole (between (18 * a.i) (18 * a.i + 18) a.marknumbers.now) a.numbers.now (omega arith)) (omega arith) (omega arith))
    (put_mid-paste _ _ _ _ a.sums.now 1027 (c.copy_front-4.ensures ∙ front_whole (between (1027 * a.i) (1027 * a.i + 1027) a.marksums.now) a.sums.now (omega arith)) (omega arith) (omega arith))
