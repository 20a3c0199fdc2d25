-- `assembly::put::put_actions` meets its contract. The invariant: whoever puts the actions of the rest puts all of them.
use Prim.Native.Nat.{ℕ, ◌-◌}
use mathlib.Core.Path.{◌≡◌}
use mathlib.Core.List.{List}
use lib.ListN.{length, drop}
use Rattle.text.specs.Text.{buffer_at}
use Rattle.text.specs.Puts.{put_all}
use Rattle.assembly.specs.Said.{saids}
use Rattle.assembly.specs.Assembly.{actions_in}
use Rattle.assembly.proofs.put.put_actions.Given as goal

pub record Inv (out₀ : List ℕ) (at₀ : ℕ) (text out : List ℕ) (at from : ℕ) : Type 0 where
  pub long : length out ≡ length out₀
  pub rest : put_all (buffer_at out at) (actions_in (saids (drop from text))) ≡ put_all (buffer_at out₀ at₀) (actions_in (saids text))

abbrev pub invariant-loop-from : goal.invariant-loop-from
invariant-loop-from l = Inv l.initial.out l.initial.at l.text l.out l.at l.from

abbrev pub decreases-loop-from : goal.decreases-loop-from
decreases-loop-from l = length l.text - l.from
