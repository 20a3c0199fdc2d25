-- `deque_limit::line::answer_to` meets its contract: what follows the eight bytes is the table.
use Rattle.std.specs.Prelude.{Err}
use mathlib.Core.Path.{◌≡◌, ap, ◌∙◌}
use Prim.Native.Nat.{ℕ, ◌-◌, ◌≤◌, ◌<◌}
use mathlib.Core.List.{List}
use borrow.Author.Tests.{lt-ltb, le-ltb}
use lib.ListN.{length, take, drop}
use Rattle.table.specs.Format.{u24_at, u32_at}
use Rattle.table.specs.Pass.{refusal}
use Rattle.table.proofs.Parts.{rest_part}
use Rattle.quota.specs.Line.{workers_in}
use Rattle.deque_limit.specs.ChoiceLimit.{choice_limits}
use Rattle.deque_limit.specs.Line.{choices_to}
use borrow.Author.Rules.{rules}
use Rattle.deque_limit.proofs.line.answer_to.Goals as goal

module _ (s : List ℕ) where
  short : length s < 8 → Err (refusal 33 0) ≡ choices_to s
  unfolding choices_to
  short h = rw (lt-ltb (length s) 8 h)

  whole : {p K c : ℕ} → 8 ≤ length s → p ≡ workers_in s → K ≡ u24_at s 1 → c ≡ u32_at s 4 → choice_limits (take (length s - 8) (drop 8 s)) p K c ≡ choices_to s
  unfolding choices_to
  whole h ep eK ec = rw (le-ltb (length s) 8 h, ep, eK, ec, rest_part s 8)

pub returns-then-input-lt8 : goal.returns-then-input-lt8
returns-then-input-lt8 c = ap Err c.new.ensures ∙ short _ c.if-input-lt8.true

pub returns : goal.returns
returns c = c.answer_whole.ensures ∙ whole _ c.if-input-lt8.false c.byte.ensures c.three_bytes.ensures c.four_bytes.ensures
