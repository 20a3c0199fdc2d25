-- What the moves of the code leave in the records that stand in the four blocks, against the definitions of these moves.
use mathlib.Core.Path.{◌≡◌, ◌∙◌}
use Prim.Native.Nat.{ℕ, suc, ◌+◌, ◌<◌}
use native.Mathlib.Numerals.{add-one}
use mathlib.Core.Bool.{Bool, true, false, not, ◌&&◌, ◌||◌}
use borrow.Author.Tests.{lt-ltb}
use lib.ListN.{get_or, set}
use lib.Seq.{set-get_or, set-set}
use lib.Dec.{ltb}
use Rattle.table.specs.Sum.{pick}
use Rattle.table.specs.Format.{Table}
use Rattle.schedule.specs.declared.Reply.TheVariants.{Idle}
use Rattle.schedule.specs.Machine.{ready, held, ended}
use Rattle.schedule.specs.Links.{Links, link_left, unlink}
use Rattle.array_machine.specs.Arrays.{links, links_of, with_statuses, relinked}
use Rattle.array_machine.specs.Arrays.{headed as headed_totals}
use Rattle.array_machine.specs.Turn.{moved}
use Rattle.array_machine.specs.Turn.{waits_in}
use Rattle.array_machine.specs.Counted.{busy_after}
use Rattle.run_memory.specs.Memory.{Memory, moved_in}
use Rattle.run_memory.specs.Blocks.{Bytes, Words, Numbers, Sums, gathered}
use Rattle.run_memory.specs.Places.{statused, holding, rowed, threaded, headed, quotaed, holds_in}
use Rattle.run_memory.specs.Code.Writes.{linked_left, unlinked}
use Rattle.run_memory.specs.Code.Acts.{went_to}
use Rattle.deques.specs.Lines.{linked_in}
use Rattle.stealing.specs.Stealing.{leaves_on, wakes_on, forks_on, robbed_links}
use Rattle.stealing.specs.StealingMemory.{robbed_words}
use Rattle.stealing.specs.Code.{left_behind, woken_up, forked_off, ended_in, thief, stolen_in}

-- what stands in the blocks, where it is known
pub gathered_as : {X B : Bytes} {Y W : Words} {Z N : Numbers} (S : Sums) {M : Memory} → X ≡ B → Y ≡ W → Z ≡ N → gathered B W N S ≡ M → gathered X Y Z S ≡ M
gathered_as S b q n d = (λ i. gathered (b i) (q i) (n i) S) ∙ d

module _ (B : Bytes) (W : Words) (N : Numbers) (S : Sums) (w t : ℕ) (h : holds_in w B ≡ true) where
  abbrev M : Memory
  M = gathered B W N S

  abbrev bottom_here : Bool
  bottom_here = linked_in (links (W.rows 4) (W.rows 5) W.first) t

  -- its deque leaves the list
  pub leaves_last : {q : Bool} {r : ℕ} (y : ℕ) → r ≡ get_or (W.rows 3) t 0 → q ≡ (bottom_here || not (ltb r 1024)) → q ≡ true
      → gathered (holding w 0 (statused t y B)) (threaded w 0 (headed 2 (busy_after W.busy true false w) (unlinked 4 1 t (unlinked 2 0 t W)))) (quotaed w 0 N) S ≡ left_behind t y w M
  unfolding leaves_on unlink
  leaves_last y p e f = rw (h, ← p, ← e, f)

  -- it goes on with the top thread
  pub leaves_pop : {q : Bool} {r : ℕ} (y : ℕ) → r ≡ get_or (W.rows 3) t 0 → q ≡ (bottom_here || not (ltb r 1024)) → q ≡ false
      → gathered (holding w 1 (statused r held (statused t y B))) (threaded w r (unlinked 2 0 t W)) N S ≡ left_behind t y w M
  unfolding leaves_on unlink busy_after
  leaves_pop y p e f = rw (h, ← p, ← e, f, set-get_or N.quotas w 0)

  pub wakes_last : {q : Bool} (u : ℕ) → q ≡ bottom_here → q ≡ true
      → gathered (holding w 1 (statused u held (statused t ended B))) (unlinked 4 1 t (linked_left 4 1 u t (unlinked 2 0 t (linked_left 2 0 u t (threaded w u W))))) N S ≡ woken_up t u w M
  unfolding wakes_on link_left unlink busy_after
  wakes_last u e f = rw (h, ← e, f, set-get_or N.quotas w 0)

  pub wakes_above : {q : Bool} (u : ℕ) → q ≡ bottom_here → q ≡ false
      → gathered (holding w 1 (statused u held (statused t ended B))) (unlinked 2 0 t (linked_left 2 0 u t (threaded w u W))) N S ≡ woken_up t u w M
  unfolding wakes_on link_left unlink busy_after
  wakes_above u e f = rw (h, ← e, f, set-get_or N.quotas w 0)

  pub forks : (a x : ℕ) → a + 1 < 65536 → x < 1024 → a ≡ get_or (W.rows 1) t 0
      → gathered (holding w 1 (statused x held (statused t ready B))) (threaded w x (linked_left 2 0 x t (rowed 1 t (a + 1) W))) N S ≡ forked_off t a x w M
  unfolding forks_on link_left busy_after
  forks a x i j e = rw (h, lt-ltb (a + 1) 65536 i, lt-ltb x 1024 j, next_at, set-get_or N.quotas w 0)
    where
      next_at : set (W.rows 1) t (a + 1) ≡ set (W.rows 1) t (suc (get_or (W.rows 1) t 0))
      next_at = rw (e, add-one)

  -- an end, the thread's status being written first
  module _ (T : Table) {u : ℕ} {q : Bool} (p : u ≡ get_or (W.rows 0) t 0) (e : q ≡ waits_in T (W.rows 1) (set B.status t ended) u t) where
    pub ends_woken : q ≡ true → woken_up t u w (gathered (statused t ended B) W N S) ≡ ended_in T t w M
    unfolding wakes_on
    ends_woken f = rw (← p, ← e, f, set-set B.status t ended ended)

    pub ends_left : q ≡ false → left_behind t ended w (gathered (statused t ended B) W N S) ≡ ended_in T t w M
    unfolding leaves_on
    ends_left f = rw (← p, ← e, f, set-set B.status t ended ended)

-- a steal, of a worker that holds nothing
module _ (B : Bytes) (W : Words) (N : Numbers) (S : Sums) (w b : ℕ) (h : holds_in w B ≡ false) where
  abbrev M₁ : Memory
  M₁ = gathered B W N S

  abbrev x : ℕ
  x = get_or (W.rows 2) b 0

  abbrev second : Links
  second = links (W.rows 4) (W.rows 5) W.first

  abbrev including : Words
  including = headed 2 (busy_after W.busy false true w) W

  abbrev written : Words → Memory
  written X = gathered (holding w 1 (statused b held B)) (threaded w b X) (quotaed w N.quota N) S

  abbrev linked : Links → Memory
  linked L =
      went_to M₁ w
      (moved Idle (relinked (links_of M₁.arrays (moved_in M₁).totals) L (with_statuses (set B.status b held) M₁.arrays)) (headed_totals (links_of M₁.arrays (moved_in M₁).totals) L (moved_in M₁).totals) (thief b M₁))

  pub stolen : written (robbed_words b including) ≡ stolen_in b w M₁
  unfolding robbed_words robbed_links link_left
  stolen = go (ltb x 1024 && not (linked_in second x))
    where
      go : (q : Bool) → written (pick q (linked_left 4 1 x b including) including) ≡ linked (pick q (link_left x b second) second)
      go true = rw h
      go false = rw h
