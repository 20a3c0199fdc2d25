-- The walk along the bottoms, a link at a time: the bottom at a place is the one as many places on from here as are left.
use mathlib.Core.Path.{◌≡◌, refl, ap, sym, subst, ◌∙◌}
use Prim.Native.Nat.{ℕ, zero, suc, ◌+◌, ◌-◌, ◌≤◌, ◌<◌}
use native.Mathlib.Omega.{arith}
use mathlib.Core.List.{List}
use lib.ListN.{get_or}
use lib.Dec.{ltb, eqb}
use borrow.Author.Tests.{lt-ltb, le-ltb}
use mathlib.Core.Bool.{Bool, true, false, not, ◌&&◌}
use Rattle.table.specs.Sum.{pick}
use Rattle.schedule.specs.Links.{no_thread, Links, link_left}
use Rattle.array_machine.specs.declared.Totals.{Totals}
use Rattle.array_machine.specs.Arrays.{Arrays, links}
use Rattle.run_memory.specs.Blocks.{Words}
use Rattle.run_memory.specs.Code.Writes.{linked_left}
use Rattle.deques.specs.Lines.{linked_in}
use Rattle.stealing.specs.Stealing.{along_by, robbed_links}
use Rattle.stealing.specs.StealingMemory.{robbed_words}

along_on : (k : ℕ) (over : List ℕ) (b : ℕ) → b < no_thread → along_by (suc k) over b ≡ along_by k over (get_or over b 0)
unfolding along_by
along_on k over b h = rw (lt-ltb b no_thread h)

along_stop : (k : ℕ) (over : List ℕ) (b : ℕ) → no_thread ≤ b → along_by k over b ≡ b
unfolding along_by
along_stop zero over b h = refl
along_stop (suc k) over b h = rw (le-ltb b no_thread h)

along_zero : (over : List ℕ) (b : ℕ) → along_by 0 over b ≡ b
unfolding along_by
along_zero over b = refl

-- i places are passed, and the walk stands at b
pub record Passed (over : List ℕ) (first c b i : ℕ) : Type 0 where
  pub within : i ≤ c
  pub rest : along_by c over first ≡ along_by (c - i) over b

pub passed_start : (over : List ℕ) (first c : ℕ) → Passed over first c first 0
passed_start over first c = record { within = omega arith; rest = ap (λ (k : ℕ). along_by k over first) (omega arith) }

module _ (over : List ℕ) (first c b i : ℕ) (s : Passed over first c b i) where
  pub passed_on : i < c → b < no_thread → Passed over first c (get_or over b 0) (i + 1)
  passed_on h l =
      record {
        within = omega arith;
        rest = s.rest ∙ ap (λ (k : ℕ). along_by k over b) (omega arith) ∙ along_on (c - (i + 1)) over b l;
      }

  pub passed_out : no_thread ≤ b → b ≡ along_by c over first
  passed_out h = sym (s.rest ∙ along_stop (c - i) over b h)

  pub passed_over : c ≤ i → b ≡ along_by c over first
  passed_over h = sym (s.rest ∙ ap (λ (k : ℕ). along_by k over b) (omega arith) ∙ along_zero over b)

-- the walk at a bottom that was read
pub passed_read : (over : List ℕ) (first c i : ℕ) {r b : ℕ} → r ≡ b → Passed over first c b i → Passed over first c r i
passed_read over first c i e s = subst (λ (z : ℕ). Passed over first c z i) (sym e) s

-- the two sides of the test for a bottom
pub bottom_left : (left right : List ℕ) (head t : ℕ) {x : ℕ} → x ≡ get_or left t 0 → x < no_thread → ltb x no_thread ≡ linked_in (links left right head) t
unfolding linked_in
bottom_left left right head t {x} e h = rw (← e, lt-ltb x no_thread h)

pub bottom_first : (left right : List ℕ) (head t : ℕ) {x y : ℕ} → x ≡ get_or left t 0 → no_thread ≤ x → y ≡ head → eqb y t ≡ linked_in (links left right head) t
unfolding linked_in
bottom_first left right head t {x} {y} e h f = rw (← e, le-ltb x no_thread h, f)

-- ---- a steal's write, in the words of the memory

module _ (b : ℕ) (W : Words) where
  abbrev x : ℕ
  x = get_or (W.rows 2) b 0

  abbrev second : Links
  second = links (W.rows 4) (W.rows 5) W.first

  pub robbed_none : {y : ℕ} → y ≡ get_or (W.rows 2) b 0 → no_thread ≤ y → W ≡ robbed_words b W
  unfolding robbed_words
  robbed_none {y} e h = rw (← e, le-ltb y no_thread h)

  pub robbed_bottom : {y : ℕ} {q : Bool} → y ≡ get_or (W.rows 2) b 0 → y < no_thread → q ≡ linked_in second y → not q ≡ false → W ≡ robbed_words b W
  unfolding robbed_words
  robbed_bottom {y} {q} e h f z = rw (← e, lt-ltb y no_thread h, ← f, z)

  pub robbed_linked : {y : ℕ} {q : Bool} {U : Words} → y ≡ get_or (W.rows 2) b 0 → y < no_thread → q ≡ linked_in second y → not q ≡ true → U ≡ linked_left 4 1 y b W → U ≡ robbed_words b W
  unfolding robbed_words
  robbed_linked {y} {q} {U} e h f z v = v ∙ rw (← e, lt-ltb y no_thread h, ← f, z)

  -- the links that stand there then are those of the definition
  pub robbed_same : (A : Arrays) (totals : Totals) → A.left ≡ W.rows 2 → A.under ≡ W.rows 4 → A.over ≡ W.rows 5 → totals.first ≡ W.first
      → links ((robbed_words b W).rows 4) ((robbed_words b W).rows 5) (robbed_words b W).first ≡ robbed_links b A totals
  unfolding robbed_words robbed_links link_left
  robbed_same A totals i j k l = rw (i, j, k, l) (go (ltb x no_thread && not (linked_in second x)))
    where
      go : (q : Bool) → links ((pick q (linked_left 4 1 x b W) W).rows 4) ((pick q (linked_left 4 1 x b W) W).rows 5) (pick q (linked_left 4 1 x b W) W).first ≡ pick q (link_left x b second) second
      go true = refl
      go false = refl
