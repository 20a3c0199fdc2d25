-- `assembly::word::keyword` meets its contract: the first name that is the word.
use mathlib.Core.Path.{sym, ◌∙◌}
use Rattle.assembly.specs.Said.{code_of_word}
use Rattle.assembly.proofs.word.keyword.Goals as goal

pub returns-then-same : goal.returns-then-same
unfolding code_of_word
returns-then-same c = rw (sym c.same.ensures ∙ c.if-same.true)

pub returns-then-same-2 : goal.returns-then-same-2
unfolding code_of_word
returns-then-same-2 c =
    rw (
      sym c.same.ensures ∙ c.if-same.false,
      sym c.same-2.ensures ∙ c.if-same-2.true,
    )

pub returns-then-same-3 : goal.returns-then-same-3
unfolding code_of_word
returns-then-same-3 c =
    rw (
      sym c.same.ensures ∙ c.if-same.false,
      sym c.same-2.ensures ∙ c.if-same-2.false,
      sym c.same-3.ensures ∙ c.if-same-3.true,
    )

pub returns-then-same-4 : goal.returns-then-same-4
unfolding code_of_word
returns-then-same-4 c =
    rw (
      sym c.same.ensures ∙ c.if-same.false,
      sym c.same-2.ensures ∙ c.if-same-2.false,
      sym c.same-3.ensures ∙ c.if-same-3.false,
      sym c.same-4.ensures ∙ c.if-same-4.true,
    )

pub returns-then-same-5 : goal.returns-then-same-5
unfolding code_of_word
returns-then-same-5 c =
    rw (
      sym c.same.ensures ∙ c.if-same.false,
      sym c.same-2.ensures ∙ c.if-same-2.false,
      sym c.same-3.ensures ∙ c.if-same-3.false,
      sym c.same-4.ensures ∙ c.if-same-4.false,
      sym c.same-5.ensures ∙ c.if-same-5.true,
    )

pub returns-then-same-6 : goal.returns-then-same-6
unfolding code_of_word
returns-then-same-6 c =
    rw (
      sym c.same.ensures ∙ c.if-same.false,
      sym c.same-2.ensures ∙ c.if-same-2.false,
      sym c.same-3.ensures ∙ c.if-same-3.false,
      sym c.same-4.ensures ∙ c.if-same-4.false,
      sym c.same-5.ensures ∙ c.if-same-5.false,
      sym c.same-6.ensures ∙ c.if-same-6.true,
    )

pub returns-then-same-7 : goal.returns-then-same-7
unfolding code_of_word
returns-then-same-7 c =
    rw (
      sym c.same.ensures ∙ c.if-same.false,
      sym c.same-2.ensures ∙ c.if-same-2.false,
      sym c.same-3.ensures ∙ c.if-same-3.false,
      sym c.same-4.ensures ∙ c.if-same-4.false,
      sym c.same-5.ensures ∙ c.if-same-5.false,
      sym c.same-6.ensures ∙ c.if-same-6.false,
      sym c.same-7.ensures ∙ c.if-same-7.true,
    )

pub returns : goal.returns
unfolding code_of_word
returns c =
    rw (
      sym c.same.ensures ∙ c.if-same.false,
      sym c.same-2.ensures ∙ c.if-same-2.false,
      sym c.same-3.ensures ∙ c.if-same-3.false,
      sym c.same-4.ensures ∙ c.if-same-4.false,
      sym c.same-5.ensures ∙ c.if-same-5.false,
      sym c.same-6.ensures ∙ c.if-same-6.false,
      sym c.same-7.ensures ∙ c.if-same-7.false,
    )
