-- Dummies as draws: the work of a body work, end costs a whole quota. Such a work is a first action, and nobody holds a thread that stands at its first action, so a batch begins with it.
use mathlib.Core.Path.{◌≡◌, refl, ap}
use Prim.Native.Nat.{ℕ, suc, ◌+◌, ◌*◌, ◌≤◌, ◌<◌}
use native.Mathlib.Omega.{arith}
use native.Mathlib.Decide.{ℕ_discrete}
use mathlib.Core.List.{List, Memᴰ}
use mathlib.Core.Bool.{Bool, true, false, ◌&&◌}
use mathlib.Core.Logic.{◌⊎◌, inl, inr}
use lib.Dec.{eqb}
use borrow.Author.Tests.{eqb-true, eq-eqb, ne_eqb}
use Rattle.table.specs.Sum.{pick}
use Rattle.table.specs.Format.{code_of, is, Table, kind}
use Rattle.table.specs.declared.kinds.Kind.TheVariants.{End as end}
use Rattle.table.specs.Checks.{end_of, alloc_of}
use Rattle.table.proofs.Tests.{no_way, and_both}
use Rattle.table.proofs.Bodies.{owner_below_lem, owner_first, owner_end, after_end, end_kind}
use Rattle.schedule.specs.declared.Worker.{Worker}
use Rattle.schedule.specs.declared.Reply.TheVariants.{Done}
use Rattle.schedule.specs.Machine.{State, drawn, next_of, worker_of, turn_of}
use Rattle.schedule.specs.Begin.{start_state}
use Rattle.schedule.specs.Sound.{is_done}
use Rattle.order.specs.Order.{number_of}
use Rattle.schedule.specs.Memory.{row_state}
use Rattle.order.proofs.Lawful.{Lawful}
use Rattle.schedule.proofs.Sound.Facts.{Facts}
use Rattle.schedule.proofs.Sound.Done.{number_first}
use Rattle.schedule.proofs.Preservation.Turns.{turn_facts}
use Rattle.schedule.proofs.Preservation.Starts.{start_worker}
use Rattle.schedule.proofs.Bounds.Beyond.{start_action, begins, batches}
use Rattle.schedule.proofs.Bounds.Acts.{drawn_none}
use Rattle.schedule.proofs.Bounds.Tries.{Tries, Turned, idles, tries, turned}
use Rattle.filling.proofs.Delay.{is_leaf, drawn_cost}
use Rattle.bounds.proofs.Draws.{spent_beyond, Draw, draws_within}

-- what is left of its batch to a worker
unfoldable pub left_to : Table → State → ℕ → ℕ
left_to T st u = pick (is_leaf T (worker_of st u).thread) 0 (worker_of st u).quota

pub record Ghost (T : Table) (st : State) (left : ℕ → ℕ) : Type 0 where
  pub is : (u : ℕ) → left u ≡ left_to T st u
  pub past : (u : ℕ) → u < 16 → (worker_of st u).holds ≡ true → T.first (worker_of st u).thread < next_of st (worker_of st u).thread

left_most : (T : Table) (st : State) (u : ℕ) → left_to T st u ≤ (worker_of st u).quota
unfolding left_to
left_most T st u = go (is_leaf T (worker_of st u).thread)
  where
    go : (q : Bool) → pick q 0 (worker_of st u).quota ≤ (worker_of st u).quota
    go true = omega arith
    go false = omega arith

module _ (T : Table) (l : Lawful T) (p K : ℕ) (few : p ≤ 16) (w : ℕ) (below : w < p) (st : State) (f : Facts T p K st) (left : ℕ → ℕ) (g : Ghost T st left) where
  abbrev after : State
  after = (turn_of T K w st).state

  f' : Facts T p K after
  f' = turn_facts T l p K few w below st f

  module _ (t a : ℕ) (y : Tries T K w st t a (turn_of T K w st)) where
    -- a thread that w keeps stands past its first action
    past_own : (worker_of after w).holds ≡ true → T.first (worker_of after w).thread < next_of after (worker_of after w).thread
    past_own e =
        let (d, i, n) = y.acted.keeps e in
        let h : t < T.threads = rw i at (f'.holding.holder_thread w (omega arith) e) in
        rw i (go h n (ℕ_discrete (T.first t) (next_of after t)))
      where
        go : t < T.threads → number_of T (next_of after t) ≡ suc (number_of T a) → Dec (T.first t ≡ next_of after t) → T.first t < next_of after t
        go h n (yes q) =
            let m : number_of T (T.first t) ≤ number_of T a = rw y.owned at (number_first T l a y.within) in
            absurd (omega (arith, rw (← q) at n))
        go h n (no q) = omega (arith, q, f'.next_low t h)

    past_after : (u : ℕ) → u < 16 → Dec (u ≡ w) → (worker_of after u).holds ≡ true → T.first (worker_of after u).thread < next_of after (worker_of after u).thread
    past_after u h (yes d) e = rw d (past_own (rw d at e))
    past_after u h (no d) e =
        let s : worker_of after u ≡ worker_of st u = y.acted.worker_others u d in
        let k : (worker_of st u).holds ≡ true = rw s at e in
        rw (s, y.acted.next_others (worker_of st u).thread (y.apart u h d k)) (g.past u h k)

    -- w has nothing left of a batch in such a body
    nothing_left : is_leaf T t ≡ true → left_to T after w ≡ 0
    unfolding left_to
    nothing_left e = go (worker_of after w).holds refl
      where
        same : (q : Bool) → ◌≡◌ {A = ℕ} (pick q 0 0) 0
        same true = refl
        same false = refl

        go : (q : Bool) → (worker_of after w).holds ≡ q → pick (is_leaf T (worker_of after w).thread) 0 (worker_of after w).quota ≡ 0
        go true i = rw ((y.acted.keeps i).1, e)
        go false i = rw (f'.holding.free_worker w (omega arith) i) (same (is_leaf T 0))

    -- the other action of such a body draws nothing
    leaf_end : is_leaf T t ≡ true → (a ≡ T.first t → ⊥) → alloc_of T a ≡ 0
    unfolding is_leaf alloc_of is code_of
    leaf_end e n =
        let c : T.count t ≡ 2 = eqb-true (T.count t) 2 (and_both _ _ e).0 in
        let low : T.first t ≤ a = rw y.owned at (owner_first T l.contents a y.within) in
        let high : a < T.first t + T.count t = rw y.owned at (owner_end T l.contents a y.within) in
        let h : t < T.threads = rw y.owned at (owner_below_lem T l.contents a y.within) in
        let z : a ≡ end_of T t = omega (arith, n, after_end T l.contents t h) in
        let k : kind T a ≡ end = rw z (end_kind T l.contents l.bodies t h) in
        rw k

    abbrev had : ℕ
    had = pick (worker_of st w).holds (left w) K

    -- the first action of a thread is done by a batch that begins with it
    first_begins : a ≡ T.first t → had ≡ K
    first_begins e = go y.from
      where
        go : (((worker_of st w).holds ≡ true) × ((worker_of st w).thread ≡ t) × (next_of st t ≡ a)) ⊎ (((worker_of st w).holds ≡ false) × (begins w st ≡ true) × (start_action st ≡ a)) → had ≡ K
        go (inl (h, i, j)) = absurd (omega (arith, rw (i, j) at (g.past w (omega arith) h)))
        go (inr (h, i, j)) = rw h

    spends : (u d : ℕ) → (turn_of T K w st).reply ≡ Done u d → left_to T after w + drawn_cost T K d ≤ had
    unfolding drawn_cost left_to
    spends u d i = rw (y.acted.answers u d i, y.owned) (go (is_leaf T t) refl (ℕ_discrete a (T.first t)))
      where
        draws : (worker_of after w).quota + drawn K (alloc_of T a) ≤ pick (worker_of st w).holds (worker_of st w).quota K
        draws = rw (y.acted.answers u d i) at (y.acted.quota u d i)

        -- what w had left, where its thread is none such
        whole : is_leaf T t ≡ false → had ≡ pick (worker_of st w).holds (worker_of st w).quota K
        whole e = at y.from
          where
            at : (((worker_of st w).holds ≡ true) × ((worker_of st w).thread ≡ t) × (next_of st t ≡ a)) ⊎ (((worker_of st w).holds ≡ false) × (begins w st ≡ true) × (start_action st ≡ a))
                → had ≡ pick (worker_of st w).holds (worker_of st w).quota K
            at (inl (h, j, k)) = rw (h, g.is w, j, e)
            at (inr (h, j, k)) = rw h

        go : (q : Bool) → is_leaf T t ≡ q → Dec (a ≡ T.first t) → left_to T after w + pick (q && eqb a (T.first t)) K (drawn K (alloc_of T a)) ≤ had
        go true e (yes b) = rw (eq-eqb a (T.first t) b, nothing_left e, first_begins b) (omega arith)
        go true e (no b) = rw (ne_eqb a (T.first t) b, nothing_left e, leaf_end e b, drawn_none K) (omega arith)
        go false e b = omega (arith, left_most T after w, draws, whole e)

  pub dummy_step : (left' : ℕ → ℕ) × Ghost T after left' × Draw T K (drawn_cost T K) K w st left left'
  unfolding left_to
  dummy_step = (left_to T after, ghost (turned T l p K few w below st f), draw (turned T l p K few w below st f))
    where
      ghost : Turned T K w st (turn_of T K w st) → Ghost T after (left_to T after)
      ghost (idles e r n s q) = record { is = λ u. refl; past = λ u h i. rw (q, n) (g.past u h (rw q at i)) }
      ghost (tries t a y) = record { is = λ u. refl; past = λ u h i. past_after t a y u h (ℕ_discrete u w) i }

      draw : Turned T K w st (turn_of T K w st) → Draw T K (drawn_cost T K) K w st left (left_to T after)
      draw (idles e r n s q) = record { others = λ u i d. rw (q, g.is u); spends = λ t a i. no_way (cc) }
      draw (tries t a y) = record { others = λ u i d. rw (y.acted.worker_others u d, g.is u); spends = spends t a y }

-- the actions done beyond an action that is not done cost at most K for each batch begun beyond it
pub dummies_few : (T : Table) (l : Lawful T) (p K : ℕ) (few : p ≤ 16) (row : List ℕ) → ((w : ℕ) → Memᴰ w row → w < p) → (v : ℕ) → v < T.actions
    → is_done T (row_state T K (start_state T) row) v ≡ false
    → spent_beyond T (drawn_cost T K) (row_state T K (start_state T) row) v ≤ K * batches T K (start_state T) row v
dummies_few T l p K few row h v i n =
    draws_within T l p K few (drawn_cost T K) K (Ghost T) (λ w b st f left g. dummy_step T l p K few w b st f left g) (left_to T (start_state T))
    (record { is = λ u. refl; past = λ u k e. no_way (cc (ap (λ (x : Worker). x.holds) (start_worker T l u))) }) row h v i n
