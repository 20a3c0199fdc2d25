use mathlib.Core.Path.{refl}
use Rattle.order.proofs.Every.{from_none}
use Rattle.soundness.proofs.Filled.{is_zero, rest_more, rest_fails, rest_pass}
use Rattle.soundness.proofs.unused.bytes_rest.Goals as goal

pub loop-i-init : goal.loop-i-init
loop-i-init c = from_none _ (is_zero c.args.bytes.now)

pub returns-then-bytes-i-ne0 : goal.returns-then-bytes-i-ne0
returns-then-bytes-i-ne0 c =
    rest_fails c.args.bytes.now _ _ refl _ c.loop-i.invariant c.loop-i-test.true c.if-bytes-i-ne0.true

pub loop-i-preserved : goal.loop-i-preserved
loop-i-preserved c =
    rest_more c.args.bytes.now _ _ c.loop-i.invariant c.if-bytes-i-ne0.false

pub returns : goal.returns
returns c =
    rest_pass c.args.bytes.now _ _ refl _ c.loop-i.invariant c.loop-i-test.false
