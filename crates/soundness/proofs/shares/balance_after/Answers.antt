-- `soundness::shares::balance_after` meets its contract: each kind of action moves the balance as the table's laws say.
use native.Mathlib.Omega.{arith}
use Rattle.soundness.proofs.Lookups.{kind_read, argument_read}
use Rattle.soundness.proofs.Balancing.{before_small, past_alloc, free_room, past_free, child_few, child_small, past_join, past_other}
use Rattle.soundness.proofs.shares.balance_after.Goals as goal

pub overflow_add-result : goal.overflow_add-result
overflow_add-result c =
    omega (
      arith,
      c.argument-x.ensures.small,
      before_small c.args.table.now _ _ _ _ _ c.args.balances.now c.requires.balancing c.requires.balanced.0 c.requires.balanced.1 _ _
          (kind_read c.requires.balancing.accepted _ c.kind.ensures) (argument_read c.requires.balancing.accepted _ c.argument-x.ensures).value,
    )

pub returns-in-Alloc : goal.returns-in-Alloc
returns-in-Alloc c =
    past_alloc c.args.table.now _ _ _ _ _ c.args.balances.now c.requires.balancing c.requires.balanced.0 c.requires.balanced.1 _ _
    (kind_read c.requires.balancing.accepted _ c.kind.ensures) (argument_read c.requires.balancing.accepted _ c.argument-x.ensures).value c.in-Alloc.is

pub overflow_sub-result : goal.overflow_sub-result
overflow_sub-result c =
    omega (
      arith,
      free_room c.args.table.now _ _ _ _ _ c.args.balances.now c.requires.balancing c.requires.balanced.0 c.requires.balanced.1 _ _
          (kind_read c.requires.balancing.accepted _ c.kind.ensures) (argument_read c.requires.balancing.accepted _ c.argument-x.ensures).value c.in-Free.is,
    )

pub returns-in-Free : goal.returns-in-Free
returns-in-Free c =
    past_free c.args.table.now _ _ _ _ _ c.args.balances.now c.requires.balancing c.requires.balanced.0 c.requires.balanced.1 _ _
    (kind_read c.requires.balancing.accepted _ c.kind.ensures) (argument_read c.requires.balancing.accepted _ c.argument-x.ensures).value c.in-Free.is

pub bounds-balances-x : goal.bounds-balances-x
bounds-balances-x c =
    child_few c.args.table.now _ _ _ _ _ c.args.balances.now c.requires.balancing c.requires.balanced.0 c.requires.balanced.1 _ _
    (kind_read c.requires.balancing.accepted _ c.kind.ensures) (argument_read c.requires.balancing.accepted _ c.argument-x.ensures).value c.in-Join.is

pub overflow_add-result-in-Join : goal.overflow_add-result-in-Join
overflow_add-result-in-Join c =
    omega (
      arith,
      before_small c.args.table.now _ _ _ _ _ c.args.balances.now c.requires.balancing c.requires.balanced.0 c.requires.balanced.1 _ _
          (kind_read c.requires.balancing.accepted _ c.kind.ensures) (argument_read c.requires.balancing.accepted _ c.argument-x.ensures).value,
      child_small c.args.table.now _ _ _ _ _ c.args.balances.now c.requires.balancing c.requires.balanced.0 c.requires.balanced.1 _ _
          (kind_read c.requires.balancing.accepted _ c.kind.ensures) (argument_read c.requires.balancing.accepted _ c.argument-x.ensures).value c.in-Join.is,
    )

pub returns-in-Join : goal.returns-in-Join
returns-in-Join c =
    past_join c.args.table.now _ _ _ _ _ c.args.balances.now c.requires.balancing c.requires.balanced.0 c.requires.balanced.1 _ _
    (kind_read c.requires.balancing.accepted _ c.kind.ensures) (argument_read c.requires.balancing.accepted _ c.argument-x.ensures).value c.in-Join.is

pub returns-in_default : goal.returns-in_default
returns-in_default c =
    past_other c.args.table.now _ _ _ _ _ c.args.balances.now c.requires.balancing c.requires.balanced.0 c.requires.balanced.1 _ _
    (kind_read c.requires.balancing.accepted _ c.kind.ensures) (argument_read c.requires.balancing.accepted _ c.argument-x.ensures).value c.in_default.not-Alloc c.in_default.not-Free c.in_default.not-Join
