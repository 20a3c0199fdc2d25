-- What the two calls and their laws use of an accepted table.
use Rattle.std.specs.Prelude.{Ok}
use Prim.Native.Nat.{ℕ, ◌+◌, ◌*◌, ◌≤◌}
use mathlib.Core.Path.{◌≡◌, refl, ap, ◌∙◌}
use mathlib.Core.List.{List}
use lib.ListN.{length}
use Rattle.table.specs.Sum.{sum_to}
use Rattle.table.specs.Format.{threads_of, actions_of, table_of}
use Rattle.table.specs.Rules.{Rules}
use Rattle.table.specs.Load.{loaded}
use Rattle.table.specs.declared.Facts.{Facts}
use Rattle.table.proofs.Sizes.{sizes}
use Rattle.table.proofs.Bodies.{counts_all}
use Rattle.table.proofs.Passes.{accepted_exactly, accepted_facts}

pub record Shape (s : List ℕ) : Type 0 where
  pub rules : Rules s
  pub threads : threads_of s ≤ 1024
  pub some : 1 ≤ threads_of s
  pub actions : actions_of s ≤ 8192
  pub action : 1 ≤ actions_of s
  pub long : length s ≡ 4 + 4 * threads_of s + 4 * actions_of s
  pub counts : sum_to (table_of s).count (threads_of s) ≡ actions_of s

pub keeps_rules : (s : List ℕ) (f : Facts) → loaded s ≡ Ok f → Rules s
keeps_rules s f e = (accepted_exactly s).0 (e ∙ ap Ok (accepted_facts s f e))

pub shape : (s : List ℕ) (f : Facts) → loaded s ≡ Ok f → Shape s
unfolding table_of
shape s f e =
    let r = keeps_rules s f e in
    let z = sizes {s = s} {n = threads_of s} {m = actions_of s} (record { head = r.head; threads = refl; actions = refl }) in
    record {
      rules = r;
      threads = z.threads_high;
      some = z.threads_low;
      actions = z.actions_high;
      action = z.actions_low;
      long = z.total;
      counts = counts_all (table_of s) r.contents;
    }
