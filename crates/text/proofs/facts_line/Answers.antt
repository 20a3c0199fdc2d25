-- `text::facts_line` meets its contract: each kind of answer has its line.
use mathlib.Core.Path.{ap}
use native.Mathlib.Omega.{arith}
use lib.ListN.{length, length-append}
use Rattle.io.specs.Counts.{IsPrefixLen}
use Rattle.text.proofs.Placing.{counts}
use Rattle.text.proofs.facts_line.Goals as goal

pub returns-in-Ok : goal.returns-in-Ok
returns-in-Ok c =
    let e = c.nested_line.ensures in
    let p : IsPrefixLen c.nested_line.result c.nested_line.new.out = counts c.nested_line.new.out c.nested_line.result (omega (arith, e.value, simp length-append at (ap length e.out_after))) in
    rw c.in-Ok.is record {
      value = e.value;
      out_after = e.out_after;
      prefix_len = p;
    }

pub returns-in-Err : goal.returns-in-Err
returns-in-Err c =
    let e = c.refused_line.ensures in
    let p : IsPrefixLen c.refused_line.result c.refused_line.new.out = counts c.refused_line.new.out c.refused_line.result (omega (arith, e.value, simp length-append at (ap length e.out_after))) in
    rw c.in-Err.is record {
      value = e.value;
      out_after = e.out_after;
      prefix_len = p;
    }
