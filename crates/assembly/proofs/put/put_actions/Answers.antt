use Prim.Native.Nat.{ℕ, ◌≤◌}
use native.Mathlib.Omega.{arith}
use mathlib.Core.Path.{◌≡◌, refl, sym, ap, ◌∙◌}
use mathlib.Core.List.{List, foldl-append}
use lib.ListN.{length, drop}
use Rattle.text.specs.Text.{Buffer, buffer_at, placed_next}
use Rattle.text.specs.Puts.{put_all}
use Rattle.assembly.specs.Said.{saids}
use Rattle.assembly.specs.Assembly.{action_rows, actions_in}
use Rattle.assembly.specs.Code.Steps.{Reads}
use Rattle.assembly.specs.declared.Said.{Said}
use Rattle.assembly.specs.declared.line.Line.{Line}
use Rattle.assembly.proofs.Lines.{said_none}
use borrow.Author.Rules.{rules}
use Rattle.assembly.proofs.put.put_actions.Invariants.{Inv}
use Rattle.assembly.proofs.put.put_actions.Goals as goal

module _ (out₀ : List ℕ) (at₀ : ℕ) (text out : List ℕ) (at from : ℕ) (v : Inv out₀ at₀ text out at from) where
  again : {r : Line} {o : List ℕ} {k : ℕ} → Reads text from r → length o ≡ length out → buffer_at o k ≡ put_all (buffer_at out at) (action_rows r.said) → Inv out₀ at₀ text o k r.next
  unfolding actions_in
  again {r} {o} {k} d l e =
      let tail : List Said = saids (drop r.next text) in
      record {
        long = l ∙ v.long;
        rest =
            ap (λ (z : Buffer). put_all z (actions_in tail)) e
            ∙ sym (foldl-append placed_next (buffer_at out at) (action_rows r.said) (actions_in tail))
            ∙ ap (λ (x : List Said). put_all (buffer_at out at) (actions_in x)) (sym d.says)
            ∙ v.rest;
      }

  ends : length text ≤ from → buffer_at out at ≡ put_all (buffer_at out₀ at₀) (actions_in (saids text))
  unfolding actions_in
  ends h = rw (said_none text from h) at v.rest

pub loop-from-init : goal.loop-from-init
loop-from-init c = record { long = refl; rest = refl }

pub read_line-read-requires : goal.read_line-read-requires
read_line-read-requires c = c.loop-from-test.true

pub loop-from-smaller : goal.loop-from-smaller
loop-from-smaller c = omega (arith, c.read_line-read.ensures.later, c.read_line-read.ensures.within)

pub loop-from-preserved : goal.loop-from-preserved
loop-from-preserved c = again _ _ _ _ _ _ c.loop-from.invariant c.read_line-read.ensures (search rules) c.put_row-at.ensures

pub shape_of-out : goal.shape_of-out
shape_of-out c = omega (arith, c.loop-from.invariant.long)

pub returns : goal.returns
returns c = ends _ _ _ _ _ _ c.loop-from.invariant c.loop-from-test.false
