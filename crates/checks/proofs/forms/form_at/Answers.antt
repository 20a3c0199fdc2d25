-- `checks::forms::form_at` meets its contract: its tests are the definition's, one after the other.
use mathlib.Core.Path.{◌≡◌, refl, sym, ◌∙◌}
use mathlib.Core.Bool.{Bool, true, false, not, beq}
use denote.Enum.Bare.{sameb}
use Rattle.table.specs.declared.kinds.Kind.{Kind}
use Rattle.table.specs.declared.kinds.Kind.TheVariants.{End as end, Work as work, Alloc as alloc, Free as free, Fork as fork, Join as join, Unknown as unknown}
use Rattle.table.specs.contracts.kinds.Kind.{the_type}
use Rattle.table.specs.Format.{code_of, is}
use Rattle.table.specs.Checks.{differ}
use Rattle.checks.specs.Code.Steps.{form_at}
use Rattle.checks.proofs.forms.form_at.Goals as goal

same_unknown : (k : Kind) → sameb the_type k unknown ≡ is unknown k
unfolding is code_of
same_unknown end = refl
same_unknown work = refl
same_unknown alloc = refl
same_unknown free = refl
same_unknown fork = refl
same_unknown join = refl
same_unknown unknown = refl

same_end : (k : Kind) → sameb the_type k end ≡ is end k
unfolding is code_of
same_end end = refl
same_end work = refl
same_end alloc = refl
same_end free = refl
same_end fork = refl
same_end join = refl
same_end unknown = refl

is_unknown : (k : Kind) {t u : Bool} → t ≡ sameb the_type k unknown → t ≡ u → is unknown k ≡ u
is_unknown k e f = sym (same_unknown k) ∙ sym e ∙ f

is_end : (k : Kind) {t : Bool} → t ≡ sameb the_type k end → is end k ≡ t
is_end k e = sym (same_end k) ∙ sym e

differs : (t u : Bool) → differ t u ≡ not (beq t u)
differs true true = refl
differs true false = refl
differs false true = refl
differs false false = refl

pub returns-then-eq : goal.returns-then-eq
unfolding form_at
returns-then-eq c = rw (is_unknown _ c.eq.ensures c.if-eq.true)

pub returns-then-not-argument_fits : goal.returns-then-not-argument_fits
unfolding form_at
returns-then-not-argument_fits c = rw (is_unknown _ c.eq.ensures c.if-eq.false, ← c.argument_fits.ensures, c.if-not-argument_fits.true)

pub returns-then-end-last : goal.returns-then-end-last
unfolding form_at
returns-then-end-last c =
    rw (is_unknown _ c.eq.ensures c.if-eq.false, ← c.argument_fits.ensures, c.if-not-argument_fits.false, is_end _ c.eq-end.ensures, differs c.eq-end.result c.args.last, c.if-end-last.true)

pub returns-else-end-last : goal.returns-else-end-last
unfolding form_at
returns-else-end-last c =
    rw (is_unknown _ c.eq.ensures c.if-eq.false, ← c.argument_fits.ensures, c.if-not-argument_fits.false, is_end _ c.eq-end.ensures, differs c.eq-end.result c.args.last, c.if-end-last.false)
