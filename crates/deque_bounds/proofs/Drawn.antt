-- What the steals begun beyond an action may draw: a worker's next action after one is the next in serial order, or all between the two is done; so what it has left never passes an action not done.
use mathlib.Core.Path.{◌≡◌, refl, sym, ap, subst, ◌∙◌}
use Prim.Native.Nat.{ℕ, suc, ◌+◌, ◌≤◌, ◌<◌}
use mathlib.Core.List.{List, ◌∷◌, ◌++◌}
use mathlib.Core.Bool.{Bool, true, false, ◌&&◌}
use native.Mathlib.Omega.{arith}
use native.Mathlib.Decide.{ℕ_discrete, dec_lt}
use lib.Dec.{ltb}
use borrow.Author.Tests.{le-ltb, ltb-false}
use Rattle.table.specs.Sum.{pick}
use Rattle.table.specs.Format.{Table}
use Rattle.table.specs.Checks.{end_of, alloc_of}
use Rattle.table.proofs.Tests.{no_way}
use Rattle.table.proofs.Bodies.{fork_above, fork_below_lem, end_last}
use Rattle.schedule.specs.Machine.{State, ready, next_of, status_of, worker_of}
use Rattle.order.specs.Order.{number_of}
use Rattle.schedule.specs.Sound.{is_done}
use Rattle.order.proofs.Lawful.{Lawful, Within}
use Rattle.order.proofs.Numbers.{number_once, number_child}
use Rattle.schedule.proofs.Sound.Facts.{Facts}
use Rattle.schedule.proofs.Sound.Done.{undone_unborn, unborn_first}
use Rattle.schedule.proofs.Preservation.Releases.{Acting, acting}
use Rattle.deques.specs.Deques.{Deque, deque, Deques, over}
use Rattle.deques.specs.Partition.{owned_by}
use Rattle.deques.proofs.DequeTurns.{with_serial, serial_facts}
use Rattle.deque_bounds.proofs.Lines.{Live, Link, Chained, Moved, link_number}
use Rattle.deque_bounds.proofs.ActionLeaves.{ActionLeaves, stays, forks, pops, drops, leaves, wakes, stops}
use Rattle.deque_bounds.proofs.SerialLines.{held_by, SerialLines}
use Rattle.deque_bounds.proofs.SerialLinesActs.{two_links, wait_empty, tops}
use Rattle.deque_bounds.proofs.SerialLinesActs as Acts
use Rattle.deque_bounds.proofs.Between.{between_done}
use Rattle.schedule.specs.Machine.{drawn}
use Rattle.bounds.proofs.Draws.{spent_beyond, stands_beyond, left_beyond}
use Rattle.table.proofs.Sums.{sum_to_one}
use Rattle.table.proofs.Tests.{pick_most}

abbrev pub left_over : Table → State → ℕ → ℕ
left_over T s v = spent_beyond T (alloc_of T) s v + left_beyond T (λ u. (worker_of s u).quota) s v

-- ---- an action

-- an alloc that is not above K draws what it takes
drawn_small : (K x : ℕ) → x ≤ K → drawn K x ≡ x
drawn_small K x h = rw (le-ltb K x h) refl

module _ (T : Table) (l : Lawful T) (p K : ℕ) (few : p ≤ 16) (w : ℕ) (below : w < p) (fa : ℕ) (J : ℕ → ℕ) (st : State) (front : List Deque) (k : List ℕ) (rest : List Deque)
    (clear : owned_by w front ≡ 0) (alone : owned_by w rest ≡ 0) (I : SerialLines T p K fa J (over st (front ++ deque w k ∷ rest))) (h : (worker_of st w).holds ≡ true)
    (v : ℕ) (inside : v < T.actions) where
  abbrev t : ℕ
  t = (worker_of st w).thread

  abbrev a : ℕ
  a = next_of st t

  abbrev q : ℕ
  q = (worker_of st w).quota

  abbrev ds : List Deque
  ds = front ++ deque w k ∷ rest

  abbrev num : State → ℕ → ℕ
  num s u = number_of T (next_of s u)

  f : Facts T p K (with_serial T l st)
  f = serial_facts T l p K st I.kept.common

  X : Acting T w t a (with_serial T l st)
  X = acting T l p K w t a (with_serial T l st) f (omega (arith, few, below)) h refl refl

  abbrev Step : Deques → Type 0
  Step D = ActionLeaves T K w t a q st front k rest D

  free_not : (s : State) → (worker_of s w).holds ≡ false → stands_beyond T s v w ≡ false
  unfolding stands_beyond
  free_not s e = rw e

  back : (s : State) (z : ℕ) → held_by s w ≡ z → num s z ≤ number_of T v → stands_beyond T s v w ≡ false
  unfolding stands_beyond
  back s z e i = go (worker_of s w).holds
    where
      go : (b : Bool) → (b && ltb (number_of T v) (num s (held_by s w))) ≡ false
      go true = rw e (le-ltb (number_of T v) (num s z) i)
      go false = refl

  -- v is not done, and a is
  module _ (D : Deques) (undone : is_done T D.state v ≡ false) (low : number_of T a ≤ number_of T v) where
    past : is_done T D.state a ≡ true → suc (number_of T a) ≤ number_of T v
    past d = go (ℕ_discrete (number_of T a) (number_of T v))
      where
        go : Dec (number_of T a ≡ number_of T v) → suc (number_of T a) ≤ number_of T v
        go (yes e) = let i : a ≡ v = number_once T l a v X.action inside e in no_way (cc)
        go (no n) = omega (arith, n, low)

    stays_back : Step D → stands_beyond T D.state v w ≡ false
    stays_back (stays m n e i d z y) = back D.state t e (omega (arith, i, past d))
    stays_back (forks m n e i d z) =
        let x : ℕ = T.argument a in
        let xb : x < T.threads = fork_below_lem T l.contents l.bodies a X.action n in
        let first : next_of D.state x ≡ T.first x =
        m.next_others x (λ y. omega (arith, fork_above T l.contents l.bodies a X.action n, X.owned, y))
        ∙ unborn_first T l p K (with_serial T l st) f x xb (undone_unborn T l p K (with_serial T l st) f a X.action n X.undone) in
        let y : num D.state x ≡ suc (number_of T a) = ap (number_of T) first ∙ number_child T l a X.action n in
        back D.state x e (omega (arith, y, past d))
    stays_back (pops t2 j e m n dead i d z) =
        let c : Chained T J st 0 (t ∷ k) = (Acts.mine T l p K few w below fa J st front k rest clear alone I h).0 in
        let L : Link T st t t2 = two_links T J st t t2 j (subst (λ (b : List ℕ). Chained T J st 0 (t ∷ b)) e c) in
        let r : status_of st t2 ≡ ready = (tops T l p K few w below fa J st front k rest clear alone I h t2 j e).0 in
        let o : next_of D.state t2 ≡ next_of st t2 = m.next_others t2 (λ y. omega (arith, r, X.taken, ap (status_of st) y)) in
        let last : end_of T t ≡ a = sym (end_last T l.contents l.bodies a X.action n ∙ ap (end_of T) X.owned) in
        let y : num D.state t2 ≡ suc (number_of T a) = ap (number_of T) o ∙ link_number T l J st t t2 L ∙ ap (λ (b : ℕ). suc (number_of T b)) last in
        back D.state t2 i (omega (arith, y, past d))
    stays_back (drops t2 j e n y) = no_way (cc (wait_empty T l p K few w below fa J st front k rest clear alone I h n y))
    stays_back (leaves e m n i y z) = free_not D.state i
    stays_back (wakes u ub uw ua m n dead i d z) = back D.state u i (rw o (at (dec_lt (number_of T v) (num st u))))
      where
        o : next_of D.state u ≡ next_of st u
        o = m.next_others u (λ y. omega (arith, uw, X.taken, ap (status_of st) y))

        last : a ≡ end_of T t
        last = end_last T l.contents l.bodies a X.action n ∙ ap (end_of T) X.owned

        alive : Live st t
        alive = ((λ e. omega (arith, X.taken, e)), (λ e. omega (arith, X.taken, e)))

        at : Dec (number_of T v < num st u) → num st u ≤ number_of T v
        at (no g) = omega (arith, g)
        at (yes g) =
            let r : is_done T st v ≡ true =
            between_done T l p K (with_serial T l st) f u ub uw t ua X.thread alive last (number_of T v) v (omega arith) inside (let y : number_of T a ≡ number_of T (end_of T t) = ap (number_of T) last in omega (arith, y, past d)) g in
            let va : v ≡ a → ⊥ = λ y. omega (arith, past d, ap (number_of T) y) in
            no_way (cc (m.done_others v va))
    stays_back (stops m n i e z) = free_not D.state i

  pub moved_of : (D : Deques) → Step D → Moved T K w t a q st D.state
  moved_of D (stays m n e i d z y) = m
  moved_of D (forks m n e i d z) = m
  moved_of D (pops t2 j e m n dead i d z) = m
  moved_of D (drops t2 j e n y) = no_way (cc (wait_empty T l p K few w below fa J st front k rest clear alone I h n y))
  moved_of D (leaves e m n i y z) = m
  moved_of D (wakes u ub uw ua m n dead i d z) = m
  moved_of D (stops m n i e z) = m

  -- what is not done after was not done before
  pub undone_act : (D : Deques) → Step D → is_done T D.state v ≡ false → is_done T st v ≡ false
  undone_act D g n = go (ℕ_discrete v a)
    where
      go : Dec (v ≡ a) → is_done T st v ≡ false
      go (yes e) = rw e X.undone
      go (no e) = sym ((moved_of D g).done_others v e) ∙ n

  stands_others : (s : State) → Moved T K w t a q st s → (u : ℕ) → u < 16 → (u ≡ w → ⊥) → stands_beyond T s v u ≡ stands_beyond T st v u
  unfolding stands_beyond
  stands_others s m u i n = rw (m.worker_others u n) (go (worker_of st u).holds refl)
    where
      go : (b : Bool) → (worker_of st u).holds ≡ b → (b && ltb (number_of T v) (num s (held_by st u))) ≡ (b && ltb (number_of T v) (num st (held_by st u)))
      go true e =
          let z : next_of s (held_by st u) ≡ next_of st (held_by st u) = m.next_others (held_by st u) (λ y. n (f.holding.holder_once u w i X.worker e h y)) in
          rw z
      go false e = refl

  stands_here : stands_beyond T st v w ≡ ltb (number_of T v) (number_of T a)
  unfolding stands_beyond
  stands_here = rw h

  pub act_draws : Within T K → (D : Deques) → Step D → is_done T D.state v ≡ false → left_over T D.state v ≤ left_over T st v
  unfolding spent_beyond left_beyond
  act_draws small D g undone =
      omega (
        arith,
        sum_to_one (spent_at s) (spent_at st) a T.actions X.action (λ d i n. rw (m.done_others d n)),
        sum_to_one (left_at s) (left_at st) w 16 (omega (arith, few, below)) (λ u i n. others u i n),
        covers (ltb (number_of T v) (number_of T a)) refl,
        before,
      )
    where
      s : State
      s = D.state

      m : Moved T K w t a q st s
      m = moved_of D g

      spent_at : State → ℕ → ℕ
      spent_at s d = pick (is_done T s d && ltb (number_of T v) (number_of T d)) (alloc_of T d) 0

      left_at : State → ℕ → ℕ
      left_at s u = pick (stands_beyond T s v u) (worker_of s u).quota 0

      others : (u : ℕ) → u < 16 → (u ≡ w → ⊥) → left_at s u ≡ left_at st u
      others u i n = rw (stands_others s m u i n, m.worker_others u n)

      before : left_at st w ≡ pick (ltb (number_of T v) (number_of T a)) q 0
      before = rw stands_here

      covers : (b : Bool) → ltb (number_of T v) (number_of T a) ≡ b → spent_at s a + left_at s w ≤ spent_at st a + pick b q 0
      covers true e =
          rw e
          (omega (arith, m.spends, drawn_small K (alloc_of T a) (small a X.action), pick_most (stands_beyond T s v w) (worker_of s w).quota, and-true (is_done T s a), ap (λ (y : ℕ). pick (is_done T s a) y 0) (drawn_small K (alloc_of T a) (small a X.action))))
        where
          and-true : (b : Bool) → pick (b && true) (alloc_of T a) 0 ≡ pick b (alloc_of T a) 0
          and-true true = refl
          and-true false = refl
      covers false e =
          let z : stands_beyond T s v w ≡ false = stays_back D undone (ltb-false (number_of T v) (number_of T a) e) g in
          rw (e, z) (omega (arith, and_none (is_done T s a)))
        where
          and_none : (b : Bool) → pick (b && false) (alloc_of T a) 0 ≡ 0
          and_none true = refl
          and_none false = refl
