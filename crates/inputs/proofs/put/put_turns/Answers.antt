-- `inputs::put::put_turns` meets its contract: p, K, the order's length and the order.
use native.Mathlib.Omega.{arith}
use lib.ListN.{length}
use Rattle.text.proofs.Putting.{puts_word, puts_more, puts_within}
use Rattle.inputs.specs.Input.{low_bytes, front_texts}
use Rattle.inputs.proofs.put.put_turns.Goals as goal

pub returns : goal.returns
unfolding front_texts
returns c = puts_within (omega arith) (puts_more (puts_word (low_bytes 1 c.args.p) c.put_bytes-at.ensures) (puts_more (puts_word (low_bytes 3 c.args.k) c.put_bytes-at-2.ensures) (puts_more (puts_word (low_bytes 2 (length c.args.order.now)) c.put_bytes-at-3.ensures) (puts_word c.args.order.now c.put_word.ensures))))
