-- The threads in the list: those above the leftmost one, itself included, and those forked beyond its next action, of which a batch forks one at most.
use mathlib.Core.Path.{◌≡◌, refl, sym, ◌∙◌}
use Prim.Native.Nat.{ℕ, zero, suc, ◌+◌, ◌-◌, ◌*◌, ◌≤◌, ◌<◌}
use native.Mathlib.Omega.{arith}
use native.Mathlib.Decide.{dec_lt}
use native.Mathlib.Nat.{one-mul}
use mathlib.Core.List.{List, [], ◌∷◌, Memᴰ}
use mathlib.Core.Bool.{Bool, true, false, ◌&&◌}
use mathlib.Core.Logic.{◌⊎◌, inl, inr}
use lib.Dec.{ltb, eqb}
use lib.ListN.{length}
use borrow.Author.Tests.{lt-ltb, eq-eqb}
use Rattle.table.specs.Sum.{pick, any_below}
use Rattle.table.specs.Format.{is, Table, kind}
use Rattle.table.specs.declared.kinds.Kind.TheVariants.{Fork as fork}
use Rattle.table.specs.Checks.{owner, end_of}
use Rattle.table.specs.Level.{fork_below, D}
use Rattle.table.specs.Nested.{nest, N}
use Rattle.table.proofs.Tests.{no_way, is_true, same_is}
use Rattle.table.proofs.Sums.{sum_to_le}
use Rattle.table.proofs.Bodies.{end_within, first_within, owner_below_lem, owner_of_first, fork_above, fork_below_lem}
use Rattle.table.proofs.Nesting.{some_any_below, fork_found, fork_exists}
use Rattle.table.proofs.NestedThreads.{line, nest_line, line_child, line_self, line_top, nest_most}
use Rattle.schedule.specs.declared.Reply.TheVariants.{Done}
use Rattle.schedule.specs.Machine.{State, ended, next_of, status_of, worker_of, turn_of}
use Rattle.schedule.specs.Begin.{start_state}
use Rattle.schedule.specs.Sound.{is_done}
use Rattle.order.specs.Words.{member}
use Rattle.order.specs.Order.{number_of}
use Rattle.schedule.specs.Memory.{Keeps}
use Rattle.schedule.specs.Threads.{listed_after, thread_limit}
use Rattle.order.proofs.Lawful.{Lawful}
use Rattle.schedule.proofs.Sound.Facts.{Facts}
use Rattle.order.proofs.Words.{never_true, member_exactly}
use Rattle.order.proofs.Numbers.{number_once, number_child, number_past, number_between}
use Rattle.order.proofs.Totals.{sum_to_add, sum_targets}
use Rattle.order.proofs.CountBelow.{ascending_count, member_few}
use Rattle.order.proofs.Joins.{forks_one}
use Rattle.schedule.proofs.Sound.Done.{next_below, owner_of_next, done_ended, born_forked}
use Rattle.schedule.proofs.Sound.Leftmost.{all_done, front_done, leftmost_undone}
use Rattle.schedule.proofs.Preservation.Turns.{turn_facts}
use Rattle.schedule.proofs.Bounds.Tries.{Tries, Turned, idles, tries, turned}
use Rattle.bounds.proofs.Draws.{spent_beyond, Draw, draws_within}
use Rattle.order.proofs.Lists.{Below}
use Rattle.bounds.proofs.RowBounds.{Covered, Draws, row_within, row_serial}

-- a fork costs 1, any other action nothing
abbrev fork_cost : Table → ℕ → ℕ
fork_cost T a = pick (is fork (kind T a)) 1 0

-- ---- the line of the leftmost thread

-- what lies between a fork and the action after it belongs to threads in whose line the thread forked there stands
between_line : (T : Table) → Lawful T → (x a : ℕ) → x < T.actions → kind T x ≡ fork → a < T.actions → number_of T x < number_of T a → number_of T a < number_of T (suc x)
    → Memᴰ (T.argument x) (line T (owner T a))
between_line T l x a h k i low high = along (suc (owner T a)) a i low high (omega arith)
  where
    along : (fuel a : ℕ) → a < T.actions → number_of T x < number_of T a → number_of T a < number_of T (suc x) → owner T a < fuel
        → Memᴰ (T.argument x) (line T (owner T a))
    along zero a i low high e = absurd (omega arith)
    along (suc fuel) a i low high e = go (along fuel) (number_between T l x a h k i low high)
      where
        go : ((y : ℕ) → y < T.actions → number_of T x < number_of T y → number_of T y < number_of T (suc x) → owner T y < fuel → Memᴰ (T.argument x) (line T (owner T y)))
            → (owner T a ≡ T.argument x)
            ⊎ ((0 < owner T a) × (number_of T x < number_of T (fork_below T T.actions (owner T a))) × (number_of T (fork_below T T.actions (owner T a)) < number_of T (suc x)))
            → Memᴰ (T.argument x) (line T (owner T a))
        go ih (inl o) = rw o (line_self T l.contents l.bodies l.nesting l.forking (T.argument x) (fork_below_lem T l.contents l.bodies x h k))
        go ih (inr (pos, above, below)) =
            let (z, s, q, r) = fork_exists T l.contents l.bodies l.nesting l.forking (owner T a) pos (owner_below_lem T l.contents a i) in
            let y : fork_below T T.actions (owner T a) ≡ z = cc (r, fork_found T l.contents l.bodies l.nesting z s q) in
            let m : Memᴰ (T.argument x) (line T (owner T z)) = ih z s (rw y at above) (rw y at below) (omega (arith, fork_above T l.contents l.bodies z s q, r)) in
            rw (← r, line_child T l.contents l.bodies l.nesting l.forking z s q) (mathlib.Core.List.Memᴰ.tail m)

module _ (T : Table) (l : Lawful T) (p K : ℕ) (st : State) (f : Facts T p K st) where
  module _ (t : ℕ) (others : List ℕ) (leftmost : st.list ≡ t ∷ others) (below : t < T.threads) where
    abbrev v : ℕ
    v = next_of st t

    -- action a is done beyond v
    abbrev beyond : ℕ → Bool
    beyond a = is_done T st a && ltb (number_of T v) (number_of T a)

    -- some action done beyond v forks thread u
    abbrev forked_beyond : ℕ → Bool
    forked_beyond u = any_below (λ a. is fork (kind T a) && (eqb (T.argument a) u && beyond a)) T.actions

    -- where the fork of a listed thread is not beyond v, v lies between it and the action after it
    fork_around : (u x : ℕ) → Memᴰ u st.list → x < T.actions → kind T x ≡ fork → T.argument x ≡ u → (number_of T v < number_of T x → ⊥)
        → Memᴰ u (line T t)
    fork_around u x m i k e n =
        let w : v < T.actions = next_below T l p K st f t below in
        let h : u < T.threads = f.list_below u m in
        let d : is_done T st x ≡ true = born_forked T l p K st f x i k (rw e (f.list_born u m)) in
        let undone : is_done T st v ≡ false = leftmost_undone T l p K st f t others leftmost in
        let apart : number_of T x ≡ number_of T v → ⊥ = λ q. let z : x ≡ v = number_once T l x v i w q in no_way (cc) in
        let open_end : number_of T (end_of T u) < number_of T v → ⊥ = λ q.
        f.list_unended u m (done_ended T l p K st f u h (front_done T l p K st f t others leftmost (end_of T u) (end_within T l.contents u h) q)) in
        let past : number_of T (end_of T u) < number_of T (suc x) = rw e at (number_past T l x i k) in
        rw (e, owner_of_next T l p K st f t below)
        at (between_line T l x v i k w (omega (arith, n, apart)) (omega (arith, open_end)))

    -- a listed thread stands in the line of the leftmost one, or was forked beyond v
    listed_where : (u : ℕ) → Memᴰ u st.list → (Memᴰ u (line T t)) ⊎ (forked_beyond u ≡ true)
    listed_where zero m = inl (line_top T l.contents l.bodies l.nesting l.forking t below)
    listed_where (suc u) m =
        let (x, i, k, e) = fork_exists T l.contents l.bodies l.nesting l.forking (suc u) (omega arith) (f.list_below (suc u) m) in
        go x i k e (dec_lt (number_of T v) (number_of T x))
      where
        go : (x : ℕ) → x < T.actions → kind T x ≡ fork → T.argument x ≡ suc u → Dec (number_of T v < number_of T x)
            → (Memᴰ (suc u) (line T t)) ⊎ (forked_beyond (suc u) ≡ true)
        go x i k e (yes h) =
            let d : is_done T st x ≡ true = born_forked T l p K st f x i k (rw e (f.list_born (suc u) m)) in
            inr (some_any_below (λ a. is fork (kind T a) && (eqb (T.argument a) (suc u) && beyond a)) T.actions x i
            (rw (same_is fork (kind T x) k, eq-eqb (T.argument x) (suc u) e, d) (lt-ltb (number_of T v) (number_of T x) h)))
        go x i k e (no h) = inl (fork_around (suc u) x m i k e h)

    -- so they are at most as many as the line has, and the forks done beyond v
    listed_open : length st.list ≤ nest T t + spent_beyond T (fork_cost T) st v
    unfolding spent_beyond
    listed_open =
        omega (
          arith,
          ascending_count (λ u. number_of T (next_of st u)) T.threads st.list f.serial f.list_below,
          sum_to_le (λ u. pick (member u st.list) 1 0) (λ u. pick (member u (line T t)) 1 0 + pick (forked_beyond u) 1 0) T.threads (λ u i. each u (member u st.list) refl),
          sum_to_add (λ u. pick (member u (line T t)) 1 0) (λ u. pick (forked_beyond u) 1 0) (λ u. pick (member u (line T t)) 1 0 + pick (forked_beyond u) 1 0) T.threads
              (λ u i. refl),
          member_few T.threads (line T t),
          nest_line T t,
          sum_targets (λ a. is fork (kind T a)) beyond T.argument (λ u. 1) T.threads T.actions
              (λ a i k. fork_below_lem T l.contents l.bodies a i (is_true fork (kind T a) k))
              (λ u. forks_one T l.contents l.bodies l.nesting u T.actions (omega arith)),
        )
      where
        each : (u : ℕ) (q : Bool) → member u st.list ≡ q → pick q 1 0 ≤ pick (member u (line T t)) 1 0 + pick (forked_beyond u) 1 0
        each u false e = omega arith
        each u true e = at (listed_where u ((member_exactly u st.list).0 e))
          where
            at : (Memᴰ u (line T t)) ⊎ (forked_beyond u ≡ true) → 1 ≤ pick (member u (line T t)) 1 0 + pick (forked_beyond u) 1 0
            at (inl m) = rw ((member_exactly u (line T t)).1 m) (omega arith)
            at (inr m) = rw m (omega arith)

  -- with the root ended nothing is listed
  listed_ended : status_of st 0 ≡ ended → length st.list ≡ 0
  listed_ended e = go st.list refl
    where
      go : (k : List ℕ) → st.list ≡ k → length k ≡ 0
      go [] q = refl
      go (t ∷ others) q = no_way (cc (
        all_done T l p K st f e (next_of st t) (next_below T l p K st f t (f.list_below t (rw q (mathlib.Core.List.Memᴰ.head refl)))),
        leftmost_undone T l p K st f t others q,
      ))

-- N levels, and a thread for each fork done beyond the first action not done
listed_covered : (T : Table) → Lawful T → (p K : ℕ) → Covered T p K (λ st. length st.list) (N T) (fork_cost T)
listed_covered T l p K =
    record {
      at_end_lem = λ st f e. omega (arith, listed_ended T l p K st f e);
      before = λ st f t others e h. omega (arith, listed_open T l p K st f t others e h, nest_most T t h);
    }

-- ---- forks as draws: a batch forks at most once, since a fork releases the worker

module _ (T : Table) (l : Lawful T) (p K : ℕ) (few : p ≤ 16) where
  -- a worker that holds a thread may still fork
  abbrev ForkLeft : State → (ℕ → ℕ) → Type 0
  ForkLeft st left = (u : ℕ) → left u ≡ pick (worker_of st u).holds 1 0

  -- where the worker keeps its thread, the action was no fork: the thread would stand at its child's first action
  keeps_no_fork : (w : ℕ) → w < p → (st : State) → Facts T p K st → (t a : ℕ) → Tries T K w st t a (turn_of T K w st) → (worker_of (turn_of T K w st).state w).holds ≡ true
      → kind T a ≡ fork → ⊥
  keeps_no_fork w h st f t a y e k =
      let after : State = (turn_of T K w st).state in
      let f' : Facts T p K after = turn_facts T l p K few w h st f in
      let (d, i, n) = y.acted.keeps e in
      let below : t < T.threads = rw i at (f'.holding.holder_thread w (omega arith) e) in
      let c : ℕ = T.argument a in
      let inside : c < T.threads = fork_below_lem T l.contents l.bodies a y.within k in
      let same : next_of after t ≡ T.first c =
      number_once T l (next_of after t) (T.first c) (next_below T l p K after f' t below) (first_within T l.contents c inside) (n ∙ sym (number_child T l a y.within k)) in
      let o : c ≡ t = cc (owner_of_next T l p K after f' t below, owner_of_first T l.contents c inside) in
      omega (arith, fork_above T l.contents l.bodies a y.within k, y.owned)

  fork_draw : (w : ℕ) → w < p → (st : State) → Facts T p K st → (left : ℕ → ℕ) → ForkLeft st left
      → (left' : ℕ → ℕ) × ForkLeft (turn_of T K w st).state left' × Draw T K (fork_cost T) 1 w st left left'
  fork_draw w h st f left g = ((λ u. pick (worker_of after u).holds 1 0), (λ u. refl), go (turned T l p K few w h st f))
    where
      after : State
      after = (turn_of T K w st).state

      -- a batch begins with 1, and who holds a thread has 1
      whole : pick (worker_of st w).holds (left w) 1 ≡ 1
      whole = rw (g w) (at (worker_of st w).holds)
        where
          at : (q : Bool) → ◌≡◌ {A = ℕ} (pick q (pick q 1 0) 1) 1
          at true = refl
          at false = refl

      most : (q : Bool) → pick q 1 0 ≤ 1
      most true = omega arith
      most false = omega arith

      go : Turned T K w st (turn_of T K w st) → Draw T K (fork_cost T) 1 w st left (λ u. pick (worker_of after u).holds 1 0)
      go (idles e r n s q) = record { others = λ u i d. rw (q, g u); spends = λ t a i. no_way (cc) }
      go (tries t a y) =
          record {
            others = λ u i d. rw (y.acted.worker_others u d, g u);
            spends = λ u d i. rw whole (spent u d i (worker_of after w).holds refl);
          }
        where
          spent : (u d : ℕ) → (turn_of T K w st).reply ≡ Done u d → (q : Bool) → (worker_of after w).holds ≡ q → pick q 1 0 + fork_cost T d ≤ 1
          spent u d i false e = omega (arith, most (is fork (kind T d)))
          spent u d i true e =
              let same : d ≡ a = cc (y.acted.replied (y.acted.keeps e).0) in
              let n : is fork (kind T d) ≡ false =
              never_true (is fork (kind T d)) (λ k. keeps_no_fork w h st f t a y e (rw same at (is_true fork (kind T d) k))) in
              rw n (omega arith)

  forks_few : Draws T p K (fork_cost T) 1
  forks_few row h v i d = draws_within T l p K few (fork_cost T) 1 ForkLeft fork_draw (λ u. pick (worker_of (start_state T) u).holds 1 0) (λ u. refl) row h v i d

-- ---- after a row of turns from the beginning

module _ (T : Table) (l : Lawful T) (p K : ℕ) (some : 1 ≤ p) (few : p ≤ 16) where
  pub row_listed : (b : ℕ) (row : List ℕ) → Below p row → Keeps b row → listed_after T K row ≤ thread_limit T p b
  unfolding listed_after thread_limit
  row_listed b row h keeps =
      omega (
        arith,
        row_within T l p K some few (λ st. length st.list) (N T) (fork_cost T) 1 (listed_covered T l p K) (forks_few T l p K few) row h b keeps,
        one-mul (b * (p - 1) * (D T - 1)),
      )

  pub row_listed_alone : p ≡ 1 → (row : List ℕ) → Below p row → listed_after T K row ≤ N T
  unfolding listed_after
  row_listed_alone e row h = row_serial T l p K some few (λ st. length st.list) (N T) (fork_cost T) 1 (listed_covered T l p K) (forks_few T l p K few) row h e
