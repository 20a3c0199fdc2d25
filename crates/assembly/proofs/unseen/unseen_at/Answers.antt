-- `assembly::unseen::unseen_at` meets its contract: the lines before it are passed, and the line ends at its newline.
use Prim.Native.Nat.{ℕ, ◌+◌, ◌-◌}
use native.Mathlib.Omega.{arith}
use mathlib.Core.Path.{◌≡◌, ap, ◌∙◌}
use mathlib.Core.List.{List}
use lib.ListN.{length, take, drop}
use Rattle.table.proofs.Parts.{rest_part}
use Rattle.assembly.specs.Words.{span_of, in_class, Spans}
use Rattle.assembly.specs.Unseen.{unseen_in, after_lines, first_line}
use Rattle.assembly.specs.Code.Steps.{After}
use Rattle.assembly.specs.declared.scan.Class.TheVariants.{Line}
use Rattle.assembly.proofs.unseen.unseen_at.Goals as goal

line_is : (s : List ℕ) (line k at r : ℕ) → k ≡ line - 1 → After s k at → Spans (in_class Line) (take (length s - at) (drop at s)) r → take (at + r - at) (drop at s) ≡ first_line (after_lines (line - 1) s)
line_is s line k at r e a d =
    let q : r ≡ span_of (in_class Line) (drop at s) = rw (rest_part s at) at d.value in
    let n : at + r - at ≡ r = omega arith in
    let x : drop at s ≡ after_lines (line - 1) s = a.rest ∙ ap (λ (j : ℕ). after_lines j s) e in
    rw (n, q) (ap first_line x)

pub returns : goal.returns
returns c = c.unseen_in.ensures ∙ ap unseen_in (line_is _ _ _ _ _ (omega (arith, c.saturating_sub.ensures)) c.after_lines-at.ensures c.span.ensures)
