-- `pace::start` meets its contract: each test in turn.
use mathlib.Core.Path.{sym}
use mathlib.Core.Logic.{inl, inr}
use native.Mathlib.Omega.{arith}
use Rattle.pace.proofs.Steps.{start_20, start_41, start_0}
use borrow.Author.Rules.{rules}
use Rattle.pace.proofs.start.Goals as goal

pub returns-then-p-eq0 : goal.returns-then-p-eq0
returns-then-p-eq0 c = let d = c.args in sym (start_20 d.p d.b d.pace.now (inl c.if-p-eq0.true))

pub returns-then-p-gt16 : goal.returns-then-p-gt16
returns-then-p-gt16 c = let d = c.args in sym (start_20 d.p d.b d.pace.now (inr c.if-p-gt16.true))

pub returns-then-b-eq0 : goal.returns-then-b-eq0
returns-then-b-eq0 c =
    let d = c.args in
    sym (start_41 d.p d.b d.pace.now c.if-p-eq0.false (omega arith) (inl c.if-b-eq0.true))

pub returns-then-b-gt65535 : goal.returns-then-b-gt65535
returns-then-b-gt65535 c =
    let d = c.args in
    sym (start_41 d.p d.b d.pace.now c.if-p-eq0.false (omega arith) (inr c.if-b-gt65535.true))

pub returns : goal.returns
returns c =
    let d = c.args in
    sym (start_0 d.p d.b d.pace.now c.if-p-eq0.false (omega arith) c.if-b-eq0.false (omega arith))
