-- `soundness::beginning::fill_start` meets its contract.
use mathlib.Core.Path.{◌≡◌, refl, ap, ◌∙◌}
use Prim.Native.Nat.{ℕ}
use mathlib.Core.List.{List}
use Rattle.table.specs.Format.{threads_of, table_of}
use Rattle.table.specs.Rules.{Rules}
use Rattle.order.specs.Firsts.{firsts}
use Rattle.order.specs.Words.{filled}
use Rattle.soundness.specs.Code.Checks.{Accepted}
use Rattle.soundness.proofs.beginning.fill_start.Goals.{After-threads-n}
use Rattle.soundness.proofs.beginning.fill_start.Goals as goal

known : (s : List ℕ) (n : ℕ) → Rules s → n ≡ threads_of s → Accepted s n
unfolding table_of
known s n r e = record { rules = r; threads = e }

next_is : (s : List ℕ) (n : ℕ) (next : List ℕ) → Accepted s n → next ≡ filled 1024 (firsts (table_of s).first 0 n) → next ≡ filled 1024 (firsts (table_of s).first 0 (table_of s).threads)
next_is s n next a e = e ∙ ap (λ (k : ℕ). filled 1024 (firsts (table_of s).first 0 k)) a.threads

known_there : (c : After-threads-n) → Accepted c.args.table.now c.threads-n.result
known_there c = known _ _ c.requires.rules c.threads-n.ensures.value

pub fill_forks-requires : goal.fill_forks-requires
fill_forks-requires c = record { accepted = known_there (goal.at.fill_forks-requires c).After-threads-n; forks_value = (refl, c.requires.next_value.1) }

pub fill_next-requires : goal.fill_next-requires
fill_next-requires c = record { accepted = known_there (goal.at.fill_next-requires c).After-threads-n; next_value = c.requires.next_value.0 }

pub returns : goal.returns
returns c = record { next_after = next_is _ _ _ (known_there (goal.at.returns c).After-threads-n) c.fill_next.ensures; parents_after = c.fill_forks.ensures.parents_after }
