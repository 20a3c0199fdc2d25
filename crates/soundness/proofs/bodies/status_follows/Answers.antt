-- `soundness::bodies::status_follows` meets its contract: each way out is the definition's at the status found.
use mathlib.Core.Path.{◌≡◌, sym, ap, ◌∙◌}
use Prim.Native.Nat.{ℕ, ◌<◌}
use mathlib.Core.List.{List}
use mathlib.Core.Bool.{Bool, true, false, not, beq, and-true}
use native.Mathlib.Omega.{arith}
use borrow.Author.Tests.{ne_eqb, not-true, not-false}
use lib.Dec.{leb, eqb}
use lib.ListN.{get_or}
use Rattle.table.specs.Format.{table_of}
use Rattle.table.specs.Checks.{end_of}
use Rattle.table.specs.Rules.{Rules}
use Rattle.schedule.specs.Machine.{unborn, ended}
use Rattle.schedule.specs.Sound.{status_follows}
use Rattle.order.specs.Words.{agree}
use Rattle.order.proofs.Lawful.{lawful}
use Rattle.schedule.specs.Parents.{Parents}
use Rattle.soundness.specs.Code.Checks.{Forks, unborn_in, unborn_at}
use Rattle.soundness.proofs.Lookups.{body}
use Rattle.order.proofs.Every.{beq_agree}
use Rattle.soundness.proofs.Noting.{few, unborn_noted}
use Rattle.soundness.proofs.bodies.status_follows.Goals.{Start}
use Rattle.soundness.proofs.bodies.status_follows.Goals as goal

module _ (s : List ℕ) (t : ℕ) (forks parents next status : List ℕ) (l : Rules s) (h : t < (table_of s).threads) (f : Forks (table_of s) forks) (g : Parents (table_of s) parents) (r : Bool)
    (e : r ≡ unborn_at forks parents next status t) where
  agrees :
      beq (eqb (get_or status t 0) unborn) r
      ≡ agree (eqb (get_or status t 0) unborn) (unborn_in (table_of s) next status t)
  agrees = beq_agree (eqb (get_or status t 0) unborn) r ∙ ap (agree (eqb (get_or status t 0) unborn)) (e ∙ unborn_noted (table_of s) (lawful s l) forks parents f g t h next status)

  unlike : not (beq (eqb (get_or status t 0) unborn) r) ≡ true → false ≡ status_follows (table_of s) next status t
  unfolding status_follows
  unlike w = rw (sym agrees ∙ not-true _ w)

  module _ (w : not (beq (eqb (get_or status t 0) unborn) r) ≡ false) where
    not_ended : (get_or status t 0 ≡ ended → ⊥) → leb (get_or status t 0) 4 ≡ status_follows (table_of s) next status t
    unfolding status_follows
    not_ended d = rw (sym agrees ∙ not-false _ w, ne_eqb (get_or status t 0) ended d)

    at_end_lem : get_or status t 0 ≡ ended → (a end : ℕ) → a ≡ get_or next t 0 → end ≡ end_of (table_of s) t → eqb a end ≡ status_follows (table_of s) next status t
    unfolding status_follows
    at_end_lem d a end p q = rw (sym agrees ∙ not-false _ w, d, p, q) (sym (and-true _))

in_array : (c : Start) → c.args.t < 1024
in_array c = (body (lawful _ c.requires.rules) c.requires.t_bound).few

pub bounds-status-t : goal.bounds-status-t
bounds-status-t c = in_array (goal.at.bounds-status-t c).Start

pub is_unborn-unborn-requires : goal.is_unborn-unborn-requires
is_unborn-unborn-requires c =
    few _ (lawful _ c.requires.rules) _ _ c.requires.forks c.requires.parents _ c.requires.t_bound

pub returns-then-s-unborn : goal.returns-then-s-unborn
returns-then-s-unborn c =
    unlike c.args.table.now _ _ _ c.args.next.now c.args.status.now c.requires.rules c.requires.t_bound c.requires.forks c.requires.parents _ c.is_unborn-unborn.ensures c.if-s-unborn.true

pub returns-then-s-ne-ENDED : goal.returns-then-s-ne-ENDED
returns-then-s-ne-ENDED c =
    not_ended c.args.table.now _ _ _ c.args.next.now c.args.status.now c.requires.rules c.requires.t_bound c.requires.forks c.requires.parents _ c.is_unborn-unborn.ensures c.if-s-unborn.false
    c.if-s-ne-ENDED.true

pub offset_bounds-next-t : goal.offset_bounds-next-t
offset_bounds-next-t c = omega (arith, in_array (goal.at.offset_bounds-next-t c).Start)

pub bounds-next-t : goal.bounds-next-t
bounds-next-t c = in_array (goal.at.bounds-next-t c).Start

pub end_of-requires : goal.end_of-requires
end_of-requires c = record { rules = c.requires.rules; t_bound = c.requires.t_bound }

pub returns : goal.returns
returns c =
    at_end_lem c.args.table.now _ _ _ c.args.next.now c.args.status.now c.requires.rules c.requires.t_bound c.requires.forks c.requires.parents _ c.is_unborn-unborn.ensures
    c.if-s-unborn.false c.if-s-ne-ENDED.false _ _ c.wide.ensures.value c.end_of.ensures
