-- What the batches begun beyond an action may draw: stated over a cost of actions, a budget for each batch and what is left of it.
use mathlib.Core.Path.{◌≡◌, refl}
use Prim.Native.Nat.{ℕ, suc, ◌+◌, ◌*◌, ◌≤◌, ◌<◌}
use native.Mathlib.Omega.{arith}
use native.Mathlib.Decide.{ℕ_discrete}
use native.Mathlib.Nat.{mul-zero, mul-one, mul-add}
use mathlib.Core.List.{List, [], ◌∷◌, Memᴰ}
use mathlib.Core.Bool.{Bool, true, false, ◌&&◌}
use mathlib.Core.Logic.{◌⊎◌, inl, inr}
use lib.Dec.{ltb}
use borrow.Author.Tests.{ltb-false, le-ltb}
use Rattle.table.specs.Sum.{pick, sum_to}
use Rattle.table.specs.Format.{Table}
use Rattle.table.proofs.Tests.{no_way}
use Rattle.table.proofs.Sums.{sum_to_cong, sum_to_one, sum_to_zero}
use Rattle.schedule.specs.declared.Reply.TheVariants.{Done}
use Rattle.schedule.specs.Machine.{State, next_of, worker_of, turn_of}
use Rattle.schedule.specs.Begin.{start_state}
use Rattle.schedule.specs.Sound.{is_done}
use Rattle.order.specs.Order.{number_of}
use Rattle.schedule.specs.Memory.{row_state}
use Rattle.order.proofs.Lawful.{Lawful}
use Rattle.schedule.proofs.Sound.Facts.{Facts}
use Rattle.order.proofs.Numbers.{number_once}
use Rattle.schedule.proofs.Preservation.Turns.{turn_facts}
use Rattle.schedule.proofs.Preservation.Starts.{start_facts, start_undone, start_worker}
use Rattle.schedule.proofs.Bounds.Beyond.{start_action, begins, begins_beyond, batches}
use Rattle.schedule.proofs.Sound.Done.{done_alike}
use Rattle.schedule.proofs.Bounds.Tries.{Tries, Turned, idles, tries, turned, undone_before}
use Rattle.table.proofs.Tests.{pick_most}

-- what the actions done beyond action v cost
unfoldable pub spent_beyond : Table → (ℕ → ℕ) → State → ℕ → ℕ
spent_beyond T cost st v = sum_to (λ a. pick (is_done T st a && ltb (number_of T v) (number_of T a)) (cost a) 0) T.actions

-- worker w holds a thread whose next action lies beyond action v
unfoldable pub stands_beyond : Table → State → ℕ → ℕ → Bool
stands_beyond T st v w = (worker_of st w).holds && ltb (number_of T v) (number_of T (next_of st (worker_of st w).thread))

-- what is left to the workers that stand beyond action v
unfoldable pub left_beyond : Table → (ℕ → ℕ) → State → ℕ → ℕ
left_beyond T left st v = sum_to (λ w. pick (stands_beyond T st v w) (left w) 0) 16

-- By a turn of w what is left to each worker goes from left to left'. A batch begins with the budget, and an action done takes its cost from what is left to w.
pub record Draw (T : Table) (K : ℕ) (cost : ℕ → ℕ) (budget w : ℕ) (st : State) (left left' : ℕ → ℕ) : Type 0 where
  pub others : (u : ℕ) → u < 16 → (u ≡ w → ⊥) → left' u ≡ left u
  pub spends : (t a : ℕ) → (turn_of T K w st).reply ≡ Done t a → left' w + cost a ≤ pick (worker_of st w).holds (left w) budget

-- ---- one turn

pub pick_product : (q : Bool) (x : ℕ) → x * pick q 1 0 ≡ pick q x 0
pick_product true x = mul-one x
pick_product false x = mul-zero x

module _ (T : Table) (l : Lawful T) (p K : ℕ) (few : p ≤ 16) (cost : ℕ → ℕ) (budget w : ℕ) (below : w < p) (st : State) (f : Facts T p K st) (left left' : ℕ → ℕ)
    (x : Draw T K cost budget w st left left') (v : ℕ) (inside : v < T.actions) (undone : is_done T (turn_of T K w st).state v ≡ false) where
  abbrev after : State
  after = (turn_of T K w st).state

  abbrev spent_at : State → ℕ → ℕ
  spent_at s a = pick (is_done T s a && ltb (number_of T v) (number_of T a)) (cost a) 0

  abbrev left_at : (ℕ → ℕ) → State → ℕ → ℕ
  left_at g s u = pick (stands_beyond T s v u) (g u) 0

  -- a worker that holds nothing has nothing
  stands_not : (s : State) (u : ℕ) → (worker_of s u).holds ≡ false → stands_beyond T s v u ≡ false
  unfolding stands_beyond
  stands_not s u e = rw e

  idle_turn : (worker_of st w).holds ≡ false → after.next ≡ st.next → after.status ≡ st.status → after.workers ≡ st.workers
      → spent_beyond T cost after v + left_beyond T left' after v ≤ spent_beyond T cost st v + left_beyond T left st v
  unfolding spent_beyond left_beyond stands_beyond
  idle_turn e n s k =
      omega (
        arith,
        sum_to_cong (spent_at after) (spent_at st) T.actions (λ a h. rw (done_alike T st a after (rw n) (rw s))),
        sum_to_cong (left_at left' after) (left_at left st) 16 (λ u h. rw (stands u) (go u h (ℕ_discrete u w))),
      )
    where
      stands : (u : ℕ) → stands_beyond T after v u ≡ stands_beyond T st v u
      stands u = rw (k, n)

      go : (u : ℕ) → u < 16 → Dec (u ≡ w) → pick (stands_beyond T st v u) (left' u) 0 ≡ left_at left st u
      go u h (yes d) = rw (d, stands_not st w e)
      go u h (no d) = rw (x.others u h d)

  module _ (t a : ℕ) (y : Tries T K w st t a (turn_of T K w st)) where
    abbrev had : ℕ
    had = pick (worker_of st w).holds (left w) budget

    -- the other workers stand where they stood
    stands_others : (u : ℕ) → u < 16 → (u ≡ w → ⊥) → stands_beyond T after v u ≡ stands_beyond T st v u
    unfolding stands_beyond
    stands_others u h n = rw (y.acted.worker_others u n) (go (worker_of st u).holds refl)
      where
        go : (q : Bool) → (worker_of st u).holds ≡ q
            → (q && ltb (number_of T v) (number_of T (next_of after (worker_of st u).thread))) ≡ (q && ltb (number_of T v) (number_of T (next_of st (worker_of st u).thread)))
        go true e = rw (y.acted.next_others (worker_of st u).thread (y.apart u h n e))
        go false e = refl

    begins_not : (worker_of st w).holds ≡ true → begins w st ≡ false
    unfolding begins
    begins_not e = rw e

    -- w has what is left to it, or begins with the budget
    had_here : pick (ltb (number_of T v) (number_of T a)) had 0 ≡ left_at left st w + budget * begins_beyond T w st v
    unfolding stands_beyond begins_beyond
    had_here = go y.from
      where
        go : (((worker_of st w).holds ≡ true) × ((worker_of st w).thread ≡ t) × (next_of st t ≡ a)) ⊎ (((worker_of st w).holds ≡ false) × (begins w st ≡ true) × (start_action st ≡ a))
            → pick (ltb (number_of T v) (number_of T a)) had 0 ≡ left_at left st w + budget * begins_beyond T w st v
        go (inl (e, i, j)) = rw (begins_not e, e, i, j) (omega arith)
        go (inr (e, i, j)) = rw (e, i, j) (omega (arith, pick_product (ltb (number_of T v) (number_of T a)) budget))

    -- w does not come to stand beyond v by doing an action that is not
    stands_back : is_done T after a ≡ true → number_of T a ≤ number_of T v → stands_beyond T after v w ≡ false
    unfolding stands_beyond
    stands_back d h = go (worker_of after w).holds refl
      where
        other : number_of T a ≡ number_of T v → ⊥
        other e = let i : a ≡ v = number_once T l a v y.within inside e in no_way (cc)

        go : (q : Bool) → (worker_of after w).holds ≡ q → (q && ltb (number_of T v) (number_of T (next_of after (worker_of after w).thread))) ≡ false
        go true e =
            let (i, j, n) = y.acted.keeps e in
            rw (j, n) (le-ltb (number_of T v) (suc (number_of T a)) (omega (arith, other)))
        go false e = refl

    releases : is_done T after a ≡ false → (worker_of after w).holds ≡ false
    releases d = go (worker_of after w).holds refl
      where
        go : (q : Bool) → (worker_of after w).holds ≡ q → q ≡ false
        go true e = no_way (cc (y.acted.keeps e).0)
        go false e = refl

    -- and that covers the action and what is left afterwards
    had_covers : spent_at after a + left_at left' after w ≤ pick (ltb (number_of T v) (number_of T a)) had 0
    had_covers = go (is_done T after a) (ltb (number_of T v) (number_of T a)) refl refl
      where
        go : (d q : Bool) → is_done T after a ≡ d → ltb (number_of T v) (number_of T a) ≡ q → pick (d && q) (cost a) 0 + left_at left' after w ≤ pick q had 0
        go true true i j = omega (arith, pick_most (stands_beyond T after v w) (left' w), x.spends t a (y.acted.replied i))
        go true false i j = rw (stands_back i (ltb-false (number_of T v) (number_of T a) j)) (omega arith)
        go false q i j = rw (stands_not after w (releases i)) (omega arith)

    tried_turn : spent_beyond T cost after v + left_beyond T left' after v ≤ spent_beyond T cost st v + left_beyond T left st v + budget * begins_beyond T w st v
    unfolding spent_beyond left_beyond
    tried_turn =
        omega (
          arith,
          sum_to_one (spent_at after) (spent_at st) a T.actions y.within (λ d h n. rw (y.acted.done_others d n)),
          sum_to_one (left_at left' after) (left_at left st) w 16 (omega arith) (λ u h n. rw (stands_others u h n, x.others u h n)),
          had_here,
          had_covers,
        )

  -- a turn adds at most the budget, and only where it begins a batch beyond v
  pub draw_turn : spent_beyond T cost after v + left_beyond T left' after v ≤ spent_beyond T cost st v + left_beyond T left st v + budget * begins_beyond T w st v
  draw_turn = go (turned T l p K few w below st f)
    where
      go : Turned T K w st (turn_of T K w st)
          → spent_beyond T cost after v + left_beyond T left' after v ≤ spent_beyond T cost st v + left_beyond T left st v + budget * begins_beyond T w st v
      go (idles e r n s k) = omega (arith, idle_turn e n s k)
      go (tries t a y) = tried_turn t a y

-- ---- a row

module _ (T : Table) (l : Lawful T) (p K : ℕ) (few : p ≤ 16) where
  -- what is not done after a row was not done before it
  pub undone_row : (row : List ℕ) → ((w : ℕ) → Memᴰ w row → w < p) → (st : State) → Facts T p K st → (v : ℕ) → is_done T (row_state T K st row) v ≡ false → is_done T st v ≡ false
  unfolding row_state
  undone_row [] h st f v n = n
  undone_row (w ∷ row) h st f v n =
      let b : w < p = h w (Memᴰ.head refl) in
      undone_before T l p K few w b st f v
      (undone_row row (λ u m. h u (Memᴰ.tail m)) (turn_of T K w st).state (turn_facts T l p K few w b st f) v n)

  -- What is left to the workers, as any relation to the state says that each turn can go on from.
  module _ (cost : ℕ → ℕ) (budget : ℕ) (Ghost : State → (ℕ → ℕ) → Type 0)
      (step : (w : ℕ) → w < p → (st : State) → Facts T p K st → (left : ℕ → ℕ) → Ghost st left
      → (left' : ℕ → ℕ) × Ghost (turn_of T K w st).state left' × Draw T K cost budget w st left left') where
    pub draws_along : (row : List ℕ) → ((w : ℕ) → Memᴰ w row → w < p) → (st : State) → Facts T p K st → (left : ℕ → ℕ) → Ghost st left
        → (v : ℕ) → v < T.actions → is_done T (row_state T K st row) v ≡ false
        → spent_beyond T cost (row_state T K st row) v ≤ spent_beyond T cost st v + left_beyond T left st v + budget * batches T K st row v
    unfolding row_state batches
    draws_along [] h st f left g v i n = omega arith
    draws_along (w ∷ row) h st f left g v i n =
        let b : w < p = h w (Memᴰ.head refl) in
        let later : (u : ℕ) → Memᴰ u row → u < p = λ u m. h u (Memᴰ.tail m) in
        let st' : State = (turn_of T K w st).state in
        let f' : Facts T p K st' = turn_facts T l p K few w b st f in
        let (left', g', x) = step w b st f left g in
        omega (
          arith,
          draws_along row later st' f' left' g' v i n,
          draw_turn T l p K few cost budget w b st f left left' x v i (undone_row row later st' f' v n),
          mul-add budget (begins_beyond T w st v) (batches T K st' row v),
        )

    -- from the beginning, where nothing is done and nobody holds a thread
    pub draws_within : (left : ℕ → ℕ) → Ghost (start_state T) left → (row : List ℕ) → ((w : ℕ) → Memᴰ w row → w < p)
        → (v : ℕ) → v < T.actions → is_done T (row_state T K (start_state T) row) v ≡ false
        → spent_beyond T cost (row_state T K (start_state T) row) v ≤ budget * batches T K (start_state T) row v
    unfolding spent_beyond left_beyond stands_beyond
    draws_within left g row h v i n =
        omega (
          arith,
          draws_along row h (start_state T) (start_facts T l p K) left g v i n,
          sum_to_zero (λ a. pick (is_done T (start_state T) a && ltb (number_of T v) (number_of T a)) (cost a) 0) T.actions (λ a j. rw (start_undone T l a j)),
          sum_to_zero (λ w. pick (stands_beyond T (start_state T) v w) (left w) 0) 16 (λ w j. rw (start_worker T l w)),
        )
