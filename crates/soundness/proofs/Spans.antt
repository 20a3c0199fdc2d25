-- From an action that is not its thread's end to the next one: how many actions of serial order come with it, and how far the 1DF-number goes on.
use mathlib.Core.Path.{◌≡◌, sym, ◌∙◌}
use Prim.Native.Nat.{ℕ, suc, ◌+◌, ◌≤◌, ◌<◌}
use mathlib.Core.Bool.{false}
use native.Mathlib.Numerals.{add-one}
use native.Mathlib.Omega.{arith}
use lib.ListN.{length, length-append}
use Rattle.table.specs.Format.{is, Table, kind}
use Rattle.table.specs.declared.kinds.Kind.TheVariants.{End as end, Fork as fork}
use Rattle.table.specs.Checks.{owner, end_of}
use Rattle.table.specs.Serial.{serial}
use Rattle.table.proofs.Bodies.{after_end, first_within, end_within, end_kind, owner_is, owner_of_end, fork_above, fork_below_lem, next_within}
use Rattle.table.proofs.Serial.{serial_end, serial_fork, serial_step, serial_bound}
use Rattle.table.proofs.Rank.{rank_fork, no_end}
use Rattle.order.specs.Order.{number_of}
use Rattle.order.proofs.Lawful.{Lawful}
use Rattle.order.proofs.Numbers.{number_rank, number_step}
use Rattle.soundness.specs.Code.Order.{Inside}

-- ---- one action

module _ (T : Table) (l : Lawful T) (t a : ℕ) (i : Inside T t a) where
  pub inside_within : a < T.actions
  inside_within = omega (arith, end_within T l.contents t i.thread)

  pub inside_owner : owner T a ≡ t
  inside_owner =
      owner_is T l.contents t a i.thread i.from (omega (arith, after_end T l.contents t i.thread))

  pub inside_no_end : is end (kind T a) ≡ false
  inside_no_end =
      no_end T l.contents l.bodies a (end_of T t) i.upto (end_within T l.contents t i.thread)
      (inside_owner ∙ sym (owner_of_end T l.contents t i.thread))

  pub inside_fork : kind T a ≡ fork → (t < T.argument a) × (T.argument a < T.threads)
  inside_fork k =
      (rw inside_owner at (fork_above T l.contents l.bodies a inside_within k), fork_below_lem T l.contents l.bodies a inside_within k)

  pub span_step : is fork (kind T a) ≡ false → length (serial T a) ≡ 1 + length (serial T (a + 1))
  span_step k = rw (serial_step T l.contents l.bodies a inside_within inside_no_end k, add-one) (omega arith)

  pub span_fork : kind T a ≡ fork → length (serial T a) ≡ 1 + length (serial T (T.first (T.argument a))) + length (serial T (a + 1))
  span_fork k = rw (serial_fork T l.contents l.bodies a inside_within k, length-append, add-one) (omega arith)

  pub over_step : is fork (kind T a) ≡ false → number_of T (a + 1) ≡ number_of T a + 1
  over_step k = rw (add-one a) (omega (arith, number_step T l a inside_within inside_no_end k))

  pub over_fork : kind T a ≡ fork → number_of T (a + 1) ≡ number_of T a + 1 + length (serial T (T.first (T.argument a)))
  over_fork k =
      rw (add-one a, number_rank T l a inside_within, number_rank T l (suc a) (next_within T l.contents l.bodies a inside_within inside_no_end))
      (omega (arith, rank_fork T l.contents l.bodies l.nesting l.forking a inside_within k))

-- ---- lengths

module _ (T : Table) (l : Lawful T) where
  pub end_length : (t : ℕ) → t < T.threads → length (serial T (end_of T t)) ≡ 1
  end_length t h =
      rw (serial_end T l.contents l.bodies (end_of T t) (end_within T l.contents t h) (end_kind T l.contents l.bodies t h))

  pub length_small : (a : ℕ) → a < T.actions → length (serial T a) ≤ 8192
  length_small a h = omega (arith, serial_bound T l.contents l.bodies l.nesting a h, l.few_actions)

  pub child_small : (t a : ℕ) → Inside T t a → kind T a ≡ fork → length (serial T (T.first (T.argument a))) ≤ 8192
  child_small t a i k = length_small _ (first_within T l.contents _ (inside_fork T l t a i k).1)
