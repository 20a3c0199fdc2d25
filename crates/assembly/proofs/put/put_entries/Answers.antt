use Prim.Native.Nat.{ℕ, ◌+◌, ◌≤◌}
use native.Mathlib.Omega.{arith}
use mathlib.Core.Path.{◌≡◌, refl, sym, ap, ◌∙◌}
use mathlib.Core.List.{List, foldl-append}
use lib.ListN.{length, drop}
use Rattle.text.specs.Text.{Buffer, buffer_at, placed_next}
use Rattle.text.specs.Puts.{put_all}
use Rattle.assembly.specs.Said.{saids}
use mathlib.Core.Bool.{Bool, true, false}
use Rattle.table.specs.Sum.{pick}
use Rattle.assembly.specs.Assembly.{is_action, entry_rows, actions_after, entries_from}
use Rattle.assembly.specs.Code.Steps.{Reads}
use Rattle.assembly.specs.declared.Said.{Said}
use Rattle.assembly.specs.declared.line.Line.{Line}
use Rattle.assembly.proofs.Lines.{said_none}
use borrow.Author.Rules.{rules}
use Rattle.assembly.proofs.put.put_entries.Invariants.{Inv}
use Rattle.assembly.proofs.put.put_entries.Goals as goal

one_more : (x : Said) (a : ℕ) → actions_after x a ≤ a + 1
one_more x a = go (is_action x)
  where
    go : (t : Bool) → pick t (a + 1) a ≤ a + 1
    go true = omega arith
    go false = omega arith

module _ (out₀ : List ℕ) (at₀ : ℕ) (text out : List ℕ) (at from a : ℕ) (v : Inv out₀ at₀ text out at from a) where
  again : {r : Line} {o : List ℕ} {k b : ℕ} → Reads text from r → length o ≡ length out → buffer_at o k ≡ put_all (buffer_at out at) (entry_rows r.said a (saids (drop r.next text)))
      → b ≡ actions_after r.said a → Inv out₀ at₀ text o k r.next b
  unfolding entries_from
  again {r} {o} {k} {b} d l e f =
      let tail : List Said = saids (drop r.next text) in
      let rows : List (List ℕ) = entry_rows r.said a tail in
      record {
        short = v.short;
        within = d.within;
        passed = omega (arith, v.passed, d.later, f, one_more r.said a);
        long = l ∙ v.long;
        rest =
            ap (λ (z : Buffer). put_all z (entries_from b tail)) e
            ∙ ap (λ (j : ℕ). put_all (put_all (buffer_at out at) rows) (entries_from j tail)) f
            ∙ sym (foldl-append placed_next (buffer_at out at) rows (entries_from (actions_after r.said a) tail))
            ∙ ap (λ (x : List Said). put_all (buffer_at out at) (entries_from a x)) (sym d.says)
            ∙ v.rest;
      }

  ends : length text ≤ from → buffer_at out at ≡ put_all (buffer_at out₀ at₀) (entries_from 0 (saids text))
  unfolding entries_from
  ends h = rw (said_none text from h) at v.rest

pub loop-from-init : goal.loop-from-init
loop-from-init c = record { short = c.requires; within = omega arith; passed = omega arith; long = refl; rest = refl }

pub read_line-read-requires : goal.read_line-read-requires
read_line-read-requires c = c.loop-from-test.true

pub actions_after-a-requires : goal.actions_after-a-requires
actions_after-a-requires c = omega (arith, c.loop-from.invariant.short, c.loop-from.invariant.within, c.loop-from.invariant.passed)

pub loop-from-smaller : goal.loop-from-smaller
loop-from-smaller c = omega (arith, c.read_line-read.ensures.later, c.read_line-read.ensures.within)

pub loop-from-preserved : goal.loop-from-preserved
loop-from-preserved c = again _ _ _ _ _ _ _ c.loop-from.invariant c.read_line-read.ensures (search rules) c.put_entry-at.ensures c.actions_after-a.ensures

pub shape_of-out : goal.shape_of-out
shape_of-out c = omega (arith, c.loop-from.invariant.long)

pub returns : goal.returns
returns c = ends _ _ _ _ _ _ _ c.loop-from.invariant c.loop-from-test.false
