-- `soundness::sound::list_sound` meets its contract: the tests are the clauses, in their order.
use mathlib.Core.Path.{◌≡◌, ◌∙◌, sym}
use Prim.Native.Nat.{ℕ}
use mathlib.Core.List.{List}
use mathlib.Core.Bool.{Bool, ◌&&◌, and_assoc}
use lib.ListN.{take}
use lib.Dec.{ltb}
use Rattle.table.specs.Format.{Table}
use Rattle.schedule.specs.Sound.{list_follows, in_serial_order, listed}
use Rattle.order.specs.Words.{all_below, all_in}
use Rattle.soundness.proofs.Lookups.{few_threads}
use Rattle.soundness.proofs.Chains.{cut, pass, second_of}
use Rattle.soundness.proofs.sound.list_sound.Goals as goal

-- the two tests are the three clauses
both : (T : Table) (next status list : List ℕ) (n : ℕ) → n ≡ T.threads → {r : Bool}
    → r ≡ ((all_below (list_follows status list) n && all_in (λ t. ltb t n) list) && in_serial_order T next list) → r ≡ listed T next status list
unfolding listed
both T next status list n e h = h ∙ rw e (and_assoc (all_below (list_follows status list) T.threads) (all_in (λ t. ltb t T.threads) list) (in_serial_order T next list))

pub list_follows-requires : goal.list_follows-requires
list_follows-requires c = (few_threads c.requires.accepted, c.requires.len_bound.0, c.requires.len_bound.1)

pub returns-then-not-list_follows : goal.returns-then-not-list_follows
returns-then-not-list_follows c = both _ _ _ _ _ c.requires.accepted.threads (cut _ (sym c.list_follows.ensures ∙ c.if-not-list_follows.true))

pub in_serial_order-requires : goal.in_serial_order-requires
in_serial_order-requires c = record { accepted = c.requires.accepted; placed = c.requires.placed; len_bound = (c.requires.len_bound.0, c.requires.len_bound.1, second_of (all_below (list_follows c.args.status.now (take c.args.len c.args.list.now)) c.args.n) _ (sym c.list_follows.ensures ∙ c.if-not-list_follows.false)) }

pub returns : goal.returns
returns c =
    both _ _ _ _ _ c.requires.accepted.threads (pass (sym c.list_follows.ensures ∙ c.if-not-list_follows.false) c.in_serial_order.ensures)
