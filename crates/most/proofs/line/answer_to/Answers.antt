-- `most::line::answer_to` meets its contract: what follows the eight bytes is the table.
use Rattle.std.specs.Prelude.{Err}
use mathlib.Core.Path.{◌≡◌, ap, ◌∙◌}
use Prim.Native.Nat.{ℕ, ◌-◌, ◌≤◌, ◌<◌}
use mathlib.Core.List.{List}
use borrow.Author.Tests.{lt-ltb, le-ltb}
use lib.ListN.{length, take, drop}
use Rattle.table.specs.Pass.{refusal}
use Rattle.table.proofs.Parts.{rest_part}
use Rattle.most.specs.Most.{most_of}
use Rattle.most.specs.Line.{workers_in, quota_in, most_to}
use Rattle.most.proofs.line.answer_to.Goals as goal

module _ (s : List ℕ) where
  short : length s < 8 → Err (refusal 33 0) ≡ most_to s
  unfolding most_to
  short h = rw (lt-ltb (length s) 8 h)

  whole : {p K : ℕ} → 8 ≤ length s → p ≡ workers_in s → K ≡ quota_in s → most_of (take (length s - 8) (drop 8 s)) p K ≡ most_to s
  unfolding most_to
  whole h ep eK = rw (le-ltb (length s) 8 h, ep, eK, rest_part s 8)

pub returns-then-input-lt8 : goal.returns-then-input-lt8
returns-then-input-lt8 c = ap Err c.new.ensures ∙ short _ c.if-input-lt8.true

pub returns : goal.returns
returns c =
    c.most_turns.ensures.value
    ∙ whole _ c.if-input-lt8.false c.byte.ensures c.three_bytes.ensures
