-- `asyncdf::beginning::start` meets its contract: the two filled arrays are the definition's, and the other fields compute.
use mathlib.Core.Path.{refl}
use native.Mathlib.Omega.{arith}
use Rattle.array_machine.proofs.Starts.{is_start}
use Rattle.asyncdf.proofs.beginning.start.Goals as goal

pub copy-requires : goal.copy-requires
copy-requires c = (c.requires.bytes_len_bound, refl)

pub overflow_cast-result : goal.overflow_cast-result
overflow_cast-result c = omega (arith, c.requires.bytes_len_bound)

pub returns : goal.returns
returns c =
    is_start c.args.bytes.now c.args.p c.args.quota c.copy.ensures c.requires.next_value
