-- `inputs::put::put_board` meets its contract: p, b and M.
use native.Mathlib.Omega.{arith}
use Rattle.text.proofs.Putting.{puts_word, puts_more, puts_within}
use Rattle.inputs.specs.Input.{low_bytes, front_texts}
use Rattle.inputs.proofs.put.put_board.Goals as goal

pub returns : goal.returns
unfolding front_texts
returns c = puts_within (omega arith) (puts_more (puts_word (low_bytes 1 c.args.p) c.put_bytes-at.ensures) (puts_more (puts_word (low_bytes 4 c.args.b) c.put_bytes-at-2.ensures) (puts_word (low_bytes 8 c.args.memory) c.put_bytes.ensures)))
