-- What an accepted table keeps, in the form in which the laws of runs use it.
use mathlib.Core.Path.{refl}
use Prim.Native.Nat.{ℕ, ◌≤◌, ◌<◌}
use mathlib.Core.List.{List}
use Rattle.table.specs.Format.{Table, threads_of, actions_of, table_of}
use Rattle.table.specs.Checks.{alloc_of}
use Rattle.table.specs.Rules.{ContentRules, BodyRules, NestRules, ForkRules, BalanceRules, Rules}
use Rattle.table.proofs.Sizes.{Sizes, sizes}

pub record Lawful (T : Table) : Type 0 where
  pub contents : ContentRules T
  pub bodies : BodyRules T
  pub nesting : NestRules T
  pub forking : ForkRules T
  pub balances : BalanceRules T
  pub some_thread : 0 < T.threads
  pub few_threads : T.threads ≤ 1024
  pub few_actions : T.actions ≤ 8192

pub lawful : (s : List ℕ) → Rules s → Lawful (table_of s)
unfolding table_of
lawful s r =
    let z : Sizes s (threads_of s) (actions_of s) = sizes (record { head = r.head; threads = refl; actions = refl }) in
    record {
      contents = r.contents;
      bodies = r.bodies;
      nesting = r.nesting;
      forking = r.forking;
      balances = r.balances;
      some_thread = z.threads_low;
      few_threads = z.threads_high;
      few_actions = z.actions_high;
    }

-- no alloc is above the quota: what check 22 asked, before N6
abbrev pub Within : Table → ℕ → Type 0
Within T K = (a : ℕ) → a < T.actions → alloc_of T a ≤ K
