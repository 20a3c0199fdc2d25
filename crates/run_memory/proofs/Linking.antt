-- A thread put into a list of the words, or taken out: four writes of its two rows, and of the head only where the thread has no left neighbour.
use mathlib.Core.Path.{◌≡◌, refl, sym, ap, ◌∙◌}
use Prim.Native.Nat.{ℕ, suc, ◌+◌, ◌≤◌, ◌<◌}
use native.Mathlib.Numerals.{add-one}
use mathlib.Core.Bool.{Bool, true, false}
use lib.ListN.{get_or}
use lib.Dec.{ltb, eqb}
use borrow.Author.Tests.{lt-ltb, le-ltb, eqb-true}
use Rattle.table.specs.Sum.{pick}
use Rattle.schedule.specs.Links.{no_thread}
use Rattle.run_memory.specs.Blocks.{Words}
use Rattle.run_memory.specs.Places.{rowed, head_at, headed}
use Rattle.run_memory.specs.Code.Writes.{linked_left, unlinked}

-- ---- the head

-- what stands there, written there
kept : (f : ℕ → ℕ) (h i y : ℕ) → f i ≡ y → y ≡ pick (eqb h i) (f h) y
kept f h i y q = go (eqb h i) refl
  where
    go : (s : Bool) → eqb h i ≡ s → y ≡ pick s (f h) y
    go true e = sym q ∙ ap f (sym (eqb-true h i e))
    go false e = refl

pub head_kept : (h : ℕ) (W : Words) → W ≡ headed h (head_at h W) W
head_kept h W =
    λ i.
    record {
      rows = W.rows;
      threads = W.threads;
      leftmost = kept (λ j. head_at j W) h 0 W.leftmost refl i;
      first = kept (λ j. head_at j W) h 1 W.first refl i;
      busy = kept (λ j. head_at j W) h 2 W.busy refl i;
    }

-- it is written only where x is no thread
module _ (h x y : ℕ) (U : Words) where
  stays : x < no_thread → U ≡ headed h (pick (ltb x no_thread) (head_at h U) y) U
  stays b = rw (lt-ltb x no_thread b) (head_kept h U)

  written : no_thread ≤ x → headed h y U ≡ headed h (pick (ltb x no_thread) (head_at h U) y) U
  written b = rw (le-ltb x no_thread b)

-- ---- the rows

-- two writes of row k, two of the next
abbrev woven : ℕ → ℕ → ℕ → ℕ → ℕ → ℕ → ℕ → ℕ → ℕ → Words → Words
woven k t₁ x₁ t₂ x₂ t₃ x₃ t₄ x₄ W = rowed (suc k) t₄ x₄ (rowed (suc k) t₃ x₃ (rowed k t₂ x₂ (rowed k t₁ x₁ W)))

weaves : (k t₁ x₁ t₂ x₂ t₃ x₃ t₄ x₄ : ℕ) (W W₁ W₂ W₃ W₄ : Words) → W₁ ≡ rowed k t₁ x₁ W → W₂ ≡ rowed k t₂ x₂ W₁ → W₃ ≡ rowed (k + 1) t₃ x₃ W₂ → W₄ ≡ rowed (k + 1) t₄ x₄ W₃
    → W₄ ≡ woven k t₁ x₁ t₂ x₂ t₃ x₃ t₄ x₄ W
weaves k t₁ x₁ t₂ x₂ t₃ x₃ t₄ x₄ W W₁ W₂ W₃ W₄ e₁ e₂ e₃ e₄ =
    e₄
    ∙ ap (λ (U : Words). rowed (k + 1) t₄ x₄ U) (e₃ ∙ ap (λ (U : Words). rowed (k + 1) t₃ x₃ U) (e₂ ∙ ap (λ (U : Words). rowed k t₂ x₂ U) e₁))
    ∙ ap (λ (n : ℕ). rowed n t₄ x₄ (rowed n t₃ x₃ (rowed k t₂ x₂ (rowed k t₁ x₁ W)))) (add-one k)

-- a list has the rows k and k + 1, and without them nothing is written
module _ {k : ℕ} (Z W : Words) where
  pub no_list : 5 ≤ k → W ≡ pick (ltb k 5) Z W
  no_list h = rw (le-ltb k 5 h)

  pub its_list : {U : Words} → k < 5 → U ≡ Z → U ≡ pick (ltb k 5) Z W
  its_list h e = rw (lt-ltb k 5 h) e

-- ---- both

module _ (k h c t x : ℕ) (W W₁ W₂ W₃ W₄ : Words) (a : x ≡ get_or (W.rows k) t 0) (e₁ : W₁ ≡ rowed k t c W) (e₂ : W₂ ≡ rowed k c x W₁) (e₃ : W₃ ≡ rowed (k + 1) x c W₂)
    (e₄ : W₄ ≡ rowed (k + 1) c t W₃) where
  abbrev linked_by : ℕ → Words
  linked_by z = woven k t c c z z c c t W

  linked_rows : W₄ ≡ linked_by x
  linked_rows = weaves k t c c x x c c t W W₁ W₂ W₃ W₄ e₁ e₂ e₃ e₄

  linked_as : headed h (pick (ltb x no_thread) (head_at h W) c) (linked_by x) ≡ linked_left k h c t W
  linked_as = ap (λ (z : ℕ). headed h (pick (ltb z no_thread) (head_at h W) c) (linked_by z)) a

  pub linked_inner : x < no_thread → W₄ ≡ linked_left k h c t W
  linked_inner b = linked_rows ∙ stays h x c (linked_by x) b ∙ linked_as

  pub linked_first : (W₅ : Words) → no_thread ≤ x → W₅ ≡ headed h c W₄ → W₅ ≡ linked_left k h c t W
  linked_first W₅ b e = e ∙ ap (λ (U : Words). headed h c U) linked_rows ∙ written h x c (linked_by x) b ∙ linked_as

module _ (k h t x y : ℕ) (W W₁ W₂ W₃ W₄ : Words) (a : x ≡ get_or (W.rows k) t 0) (a' : y ≡ get_or (W.rows (k + 1)) t 0) (e₁ : W₁ ≡ rowed k y x W)
    (e₂ : W₂ ≡ rowed k t no_thread W₁) (e₃ : W₃ ≡ rowed (k + 1) x y W₂) (e₄ : W₄ ≡ rowed (k + 1) t no_thread W₃) where
  abbrev unlinked_by : ℕ → ℕ → Words
  unlinked_by z u = woven k u z t no_thread z u t no_thread W

  unlinked_rows : W₄ ≡ unlinked_by x y
  unlinked_rows = weaves k y x t no_thread x y t no_thread W W₁ W₂ W₃ W₄ e₁ e₂ e₃ e₄

  right : y ≡ get_or (W.rows (suc k)) t 0
  right = a' ∙ ap (λ (n : ℕ). get_or (W.rows n) t 0) (add-one k)

  unlinked_as : headed h (pick (ltb x no_thread) (head_at h W) y) (unlinked_by x y) ≡ unlinked k h t W
  unlinked_as = λ i. headed h (pick (ltb (a i) no_thread) (head_at h W) (right i)) (unlinked_by (a i) (right i))

  pub unlinked_inner : x < no_thread → W₄ ≡ unlinked k h t W
  unlinked_inner b = unlinked_rows ∙ stays h x y (unlinked_by x y) b ∙ unlinked_as

  pub unlinked_first : (W₅ : Words) → no_thread ≤ x → W₅ ≡ headed h y W₄ → W₅ ≡ unlinked k h t W
  unlinked_first W₅ b e = e ∙ ap (λ (U : Words). headed h y U) unlinked_rows ∙ written h x y (unlinked_by x y) b ∙ unlinked_as
