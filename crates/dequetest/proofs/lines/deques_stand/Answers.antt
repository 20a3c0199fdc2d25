-- `dequetest::lines::deques_stand` meets its contract: the row's front is what the lines' links are read as, and the tests are the clauses, in their order.
use mathlib.Core.Path.{◌≡◌, refl, ap, ◌∙◌}
use Prim.Native.Nat.{ℕ}
use mathlib.Core.List.{List, ◌++◌}
use mathlib.Core.Bool.{Bool, true, false, not, ◌&&◌, ◌||◌, and_assoc}
use borrow.Author.Rules.{rules}
use lib.ListN.{length, take, drop, replicate}
use Rattle.schedule.specs.Links.{Links, walk, laid}
use Rattle.schedule.specs.Sound.{same_links}
use Rattle.order.specs.Words.{all_below, member, agree}
use Rattle.soundness.proofs.Chains.{off, on, cut, pass}
use Rattle.soundness.proofs.Reading.{row_front}
use Rattle.deques.specs.Lines.{is_held, linked_in}
use Rattle.deques.specs.DequeWalk.{is_ready, once_in, in_lines, bottoms_along, deques_stand}
use Rattle.dequetest.specs.Code.Standing.{bottom_at, walk_right}
use Rattle.dequetest.proofs.Walking.{read_threads}
use Rattle.dequetest.proofs.lines.deques_stand.Goals as goal

regroup : (a b c d e : Bool) → ((a && (b && c)) && (d && e)) ≡ (a && (b && (c && (d && e))))
regroup a b c d e = simp and_assoc

module _ (n : ℕ) (status left right : List ℕ) (leftmost : ℕ) (under over : List ℕ) (first : ℕ) where
  abbrev lines : Links
  lines = record { left = left; right = right; head = leftmost }

  abbrev bottoms : Links
  bottoms = record { left = under; right = over; head = first }

  abbrev there : List ℕ
  there = walk 1024 right leftmost

  abbrev whole : Bool
  whole = deques_stand n status lines bottoms

  -- a test along the row
  bottom_is : ◌≡◌ {A = ℕ → Bool} (bottom_at under first) (linked_in bottoms)
  unfolding linked_in
  bottom_is = refl

  -- the clauses as the code groups them
  grouped : (walk_right n status (linked_in bottoms) there && (same_links lines (laid there) && same_links bottoms (laid (bottoms_along (linked_in bottoms) there)))) ≡ whole
  unfolding deques_stand
  grouped =
      regroup (once_in there) (in_lines (linked_in bottoms) status true there) (all_below (λ t. agree (member t there) (is_ready status t || is_held status t)) n) (same_links lines (laid there))
      (same_links bottoms (laid (bottoms_along (linked_in bottoms) there)))

  module _ {len : ℕ} {row : List ℕ} (e : len ≡ length there) (h : row ≡ there ++ drop len (replicate 1024 0))
      {a : Bool} (w : a ≡ walk_right n status (bottom_at under first) (take len row)) where
    front : take len row ≡ there
    front = row_front right leftmost e h

    walked : a ≡ walk_right n status (linked_in bottoms) there
    walked = w ∙ (λ i. walk_right n status (bottom_is i) (front i))

    not_walked : not a ≡ true → false ≡ whole
    not_walked k = cut _ (off walked k) ∙ grouped

    module _ (k : not a ≡ false) {b : Bool} (d : b ≡ same_links lines (laid (take len row))) where
      lined : b ≡ same_links lines (laid there)
      lined = d ∙ ap (λ (l : List ℕ). same_links lines (laid l)) front

      not_lined : not b ≡ true → false ≡ whole
      not_lined j = pass (on walked k) (cut _ (off lined j)) ∙ grouped

      by_bottoms : not b ≡ false → {l : List ℕ} → l ≡ bottoms_along (bottom_at under first) (take len row) → {r : Bool} → r ≡ same_links bottoms (laid l) → r ≡ whole
      by_bottoms j g f =
          pass (on walked k) (pass (on lined j) (f ∙ ap (λ (l : List ℕ). same_links bottoms (laid l)) (g ∙ (λ i. bottoms_along (bottom_is i) (front i))))) ∙ grouped

pub walk_right-requires : goal.walk_right-requires
walk_right-requires c = record { n_bound = c.requires.n_bound; threads = read_threads c.args.right.now c.args.leftmost c.read_row-len.ensures.value c.read_row-len.ensures.row_after }

pub returns-then-not-walk_right : goal.returns-then-not-walk_right
returns-then-not-walk_right c =
    not_walked _ _ c.args.left.now c.args.right.now c.args.leftmost c.args.under.now c.args.over.now c.args.first c.read_row-len.ensures.value
    c.read_row-len.ensures.row_after c.walk_right.ensures (ap not c.if-not-walk_right.true)

pub returns-then-not-describe : goal.returns-then-not-describe
returns-then-not-describe c =
    not_lined _ _ c.args.left.now c.args.right.now c.args.leftmost c.args.under.now c.args.over.now c.args.first c.read_row-len.ensures.value
    c.read_row-len.ensures.row_after c.walk_right.ensures (ap not c.if-not-walk_right.false) c.describe.ensures (ap not c.if-not-describe.true)

pub gather_bottoms-count-requires : goal.gather_bottoms-count-requires
gather_bottoms-count-requires c = record { threads = read_threads c.args.right.now c.args.leftmost c.read_row-len.ensures.value c.read_row-len.ensures.row_after; bottoms_len = c.requires.bottoms_len }

pub returns : goal.returns
returns c =
    by_bottoms _ _ c.args.left.now c.args.right.now c.args.leftmost c.args.under.now c.args.over.now c.args.first c.read_row-len.ensures.value
    c.read_row-len.ensures.row_after c.walk_right.ensures (ap not c.if-not-walk_right.false) c.describe.ensures (ap not c.if-not-describe.false) c.gather_bottoms-count.ensures c.describe-2.ensures
