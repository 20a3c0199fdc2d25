-- `inputs::put::put_bytes` meets its contract: as many bytes as are asked for.
use native.Mathlib.Omega.{arith}
use mathlib.Core.Path.{sym}
use lib.Seq.{length-take-le}
use Rattle.inputs.proofs.put.put_bytes.Goals as goal

pub slice_bounds-put_word-end : goal.slice_bounds-put_word-end
slice_bounds-put_word-end c = sym (length-take-le c.args.width _ (omega (arith, c.requires)))
