-- `useful_limit::line::answer_to` meets its contract: what follows the thirteen bytes is the table.
use mathlib.Core.Path.{◌≡◌, ap, ◌∙◌}
use Prim.Native.Nat.{ℕ, ◌-◌, ◌≤◌, ◌<◌}
use mathlib.Core.List.{List}
use borrow.Author.Tests.{lt-ltb, le-ltb}
use lib.ListN.{length, take, drop}
use Rattle.table.specs.Pass.{refusal}
use Rattle.table.proofs.Parts.{rest_part}
use Rattle.std.specs.Prelude.{Err}
use Rattle.useful_limit.specs.Fit.{fitted}
use Rattle.quota.specs.Line.{workers_in, gap_in, memory_in}
use Rattle.useful_limit.specs.Line.{fitted_to}
use borrow.Author.Rules.{rules}
use Rattle.useful_limit.proofs.line.answer_to.Goals as goal

module _ (s : List ℕ) where
  short : length s < 13 → Err (refusal 33 0) ≡ fitted_to s
  unfolding fitted_to
  short h = rw (lt-ltb (length s) 13 h)

  whole : {p b M : ℕ} → 13 ≤ length s → p ≡ workers_in s → b ≡ gap_in s → M ≡ memory_in s → fitted (take (length s - 13) (drop 13 s)) p b M ≡ fitted_to s
  unfolding fitted_to
  whole h ep eb eM = rw (le-ltb (length s) 13 h, ep, eb, eM, rest_part s 13)

pub returns-then-input-lt13 : goal.returns-then-input-lt13
returns-then-input-lt13 c = ap Err c.new.ensures ∙ short _ c.if-input-lt13.true

pub returns : goal.returns
returns c =
    c.fit_whole.ensures
    ∙ whole _ c.if-input-lt13.false c.byte.ensures c.gap_in.ensures c.memory_in.ensures
