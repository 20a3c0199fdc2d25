-- m + A + J of a table, which is how many turns of a run aren't idle at most (N8).
use Rattle.std.specs.Prelude.{ℕ, ◌+◌}
use Rattle.table.specs.Format.{is, Table, kind}
use Rattle.table.specs.declared.kinds.Kind.{Kind}
use Rattle.table.specs.declared.kinds.Kind.TheVariants.{Alloc as alloc, Join as join}
use Rattle.order.specs.Words.{count_below}

-- how many actions are of this kind
abbrev pub of_kind : Table → Kind → ℕ
of_kind T k = count_below (λ a. is k (kind T a)) T.actions

-- "Let m be the number of actions, A of allocs and J of joins": m + A + J
unfoldable pub turns_of : Table → ℕ
turns_of T = T.actions + of_kind T alloc + of_kind T join
