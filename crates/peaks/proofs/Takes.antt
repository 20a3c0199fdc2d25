-- When a worker takes a thread, the load of that thread, whole, is at most the number of workers that hold a thread left of it: each branch counted in it is wholly left of the thread and has
-- a held thread in it, since what it waits for is further down in it and nothing left of the thread is ready.
use mathlib.Core.Path.{◌≡◌, refl, sym, ◌∙◌}
use Prim.Native.Nat.{ℕ, zero, suc, ◌+◌, ◌-◌, ◌≤◌, ◌<◌}
use native.Mathlib.Omega.{arith}
use native.Mathlib.Nat.{add-suc}
use native.Mathlib.Decide.{ℕ_discrete}
use mathlib.Core.List.{List, [], ◌∷◌, Memᴰ}
use mathlib.Core.Bool.{Bool, true, false, ◌&&◌}
use mathlib.Core.Logic.{◌⊎◌, inl, inr}
use lib.ListN.{get_or}
use lib.Dec.{ltb, eqb}
use borrow.Author.Tests.{lt-ltb, le-ltb, ltb-true, eqb-false, eq-eqb, ne_eqb}
use Rattle.table.specs.Sum.{pick, sum_over}
use Rattle.table.specs.Format.{Table, kind}
use Rattle.table.specs.declared.kinds.Kind.TheVariants.{Fork as fork, Join as join}
use Rattle.table.specs.Checks.{owner, end_of, open_before}
use Rattle.table.proofs.Tests.{no_way, fork_no_end}
use Rattle.table.proofs.Bodies.{end_within, owner_at, owner_of_end, owner_first, owner_end, owner_below_lem, fork_above, fork_below_lem, join_above, next_owner}
use Rattle.table.proofs.Nesting.{open_first, open_join, open_forked, fork_found, fork_exists}
use Rattle.table.proofs.Amounts.{action_within}
use Rattle.schedule.specs.Machine.{State, unborn, ready, held, ended, next_of, status_of, worker_of, leftmost}
use Rattle.order.specs.Order.{number_of}
use Rattle.order.specs.Words.{count_below}
use Rattle.schedule.specs.Sound.{is_done}
use Rattle.order.proofs.Lawful.{Lawful}
use Rattle.order.proofs.Numbers.{number_child, number_past, number_rises}
use Rattle.order.proofs.Words.{and_exactly, Ascends}
use Rattle.schedule.proofs.Sound.Facts.{Facts}
use Rattle.schedule.proofs.Sound.Done.{done_low, done_where, number_first, next_below, owner_of_next, born_forked, unborn_undone}
use Rattle.schedule.proofs.Linked.Waiting.{awaited, child_listed}
use Rattle.peaks.specs.Peak.{unended, unended_in, outer}
use Rattle.peaks.proofs.Opens.{along}
use Rattle.peaks.proofs.Loads.{outer_root, outer_child}
use Rattle.peaks.proofs.Counts.{few_targets, one_fails}
use Rattle.order.proofs.CountBelow.{count_le, count_more}

-- ---- the leftmost ready thread

-- of a list along which f ascends, no ready thread is lower
pub leftmost_first : (f : ℕ → ℕ) (status l : List ℕ) → Ascends f l → (u : ℕ) → Memᴰ u l → get_or status u 0 ≡ ready → f (get_or l (leftmost status l) 0) ≤ f u
unfolding leftmost Ascends
leftmost_first f status [] c u m e = absurd (mathlib.Core.List.Memᴰ.not-nil m)
leftmost_first f status (x ∷ l) c u m e = go (eqb (get_or status x 0) ready) refl (leftmost_first f status l c.1 u) (mathlib.Core.List.Memᴰ.cases_cons m)
  where
    go : (q : Bool) → eqb (get_or status x 0) ready ≡ q → (Memᴰ u l → get_or status u 0 ≡ ready → f (get_or l (leftmost status l) 0) ≤ f u) → (u ≡ x) ⊎ Memᴰ u l
        → f (get_or (x ∷ l) (pick q 0 (suc (leftmost status l))) 0) ≤ f u
    go true d ih (inl y) = rw y (omega arith)
    go true d ih (inr y) = omega (arith, c.0 u y)
    go false d ih (inl y) = absurd (eqb-false (get_or status x 0) ready d (rw y at e))
    go false d ih (inr y) = ih y e

module _ (T : Table) (l : Lawful T) (p K : ℕ) (st : State) (f : Facts T p K st) where
  -- ---- where threads lie

  -- an open child lies within its thread, before the action
  pub open_inside : (a d : ℕ) → a < T.actions → Memᴰ d (open_before T a) → (number_of T (T.first (owner T a)) ≤ number_of T (T.first d)) × (number_of T (end_of T d) < number_of T a)
  open_inside a d h m = go (open_forked T l.contents l.bodies l.nesting a d h m)
    where
      go : (x : ℕ) × (x < a) × (kind T x ≡ fork) × (T.argument x ≡ d) × (owner T x ≡ owner T a)
          → (number_of T (T.first (owner T a)) ≤ number_of T (T.first d)) × (number_of T (end_of T d) < number_of T a)
      go (x, q, y, e, o) =
          let w : x < T.actions = omega arith in
          let low : number_of T (T.first (owner T a)) ≤ number_of T x = rw o at (number_first T l x w) in
          let c : number_of T (T.first d) ≡ suc (number_of T x) = rw e at (number_child T l x w y) in
          let s : number_of T (end_of T d) < number_of T (suc x) = rw e at (number_past T l x w y) in
          (omega arith, to x q y e o s (ℕ_discrete (suc x) a))
        where
          to : (x : ℕ) → x < a → kind T x ≡ fork → T.argument x ≡ d → owner T x ≡ owner T a → number_of T (end_of T d) < number_of T (suc x) → Dec (suc x ≡ a) → number_of T (end_of T d) < number_of T a
          to x q y e o s (yes i) = rw i at s
          to x q y e o s (no i) =
              let n : owner T (suc x) ≡ owner T a = next_owner T l.contents l.bodies x (omega arith) (fork_no_end y) ∙ o in
              omega (arith, s, number_rises T l (suc x) a (omega (arith, i)) h n)

  pub next_inside : (t : ℕ) → t < T.threads → (number_of T (T.first t) ≤ number_of T (next_of st t)) × (number_of T (next_of st t) ≤ number_of T (end_of T t))
  next_inside t h = (rw o at (number_first T l (next_of st t) (next_below T l p K st f t h)), go (ℕ_discrete (next_of st t) (end_of T t)))
    where
      o : owner T (next_of st t) ≡ t
      o = owner_of_next T l p K st f t h

      go : Dec (next_of st t ≡ end_of T t) → number_of T (next_of st t) ≤ number_of T (end_of T t)
      go (yes e) = rw e (omega arith)
      go (no n) =
          omega (arith, number_rises T l (next_of st t) (end_of T t) (omega (arith, n, f.next_high t h)) (end_within T l.contents t h) (o ∙ sym (owner_of_end T l.contents t h)))

  -- ---- nothing below N is ready

  module _ (N : ℕ) (none : (u : ℕ) → u < T.threads → status_of st u ≡ ready → number_of T (next_of st u) < N → ⊥) where
    -- a held thread within thread y and all below it
    abbrev HeldIn : ℕ → Type 0
    HeldIn y =
        (u : ℕ) × (u < T.threads) × (status_of st u ≡ held) × (number_of T (T.first y) ≤ number_of T (next_of st u)) × (number_of T (next_of st u) ≤ number_of T (end_of T y))

    held_inside : (fuel y : ℕ) → T.threads ≤ fuel + y → y < T.threads → (status_of st y ≡ unborn → ⊥) → (status_of st y ≡ ended → ⊥) → number_of T (end_of T y) < N → HeldIn y
    held_inside zero y b h u e i = absurd (omega arith)
    held_inside (suc fuel) y b h u e i = go (status_of st y) refl (f.status_known y h) (held_inside fuel)
      where
        at : (number_of T (T.first y) ≤ number_of T (next_of st y)) × (number_of T (next_of st y) ≤ number_of T (end_of T y))
        at = next_inside y h

        go : (s : ℕ) → status_of st y ≡ s → s ≤ ended
            → ((y : ℕ) → T.threads ≤ fuel + y → y < T.threads → (status_of st y ≡ unborn → ⊥) → (status_of st y ≡ ended → ⊥) → number_of T (end_of T y) < N → HeldIn y) → HeldIn y
        go zero q k ih = absurd (u q)
        go (suc zero) q k ih = absurd (none y h q (omega (arith, at.1)))
        go (suc (suc zero)) q k ih = (y, h, q, at.0, at.1)
        go (suc (suc (suc zero))) q k ih =
            let c : ℕ = awaited T st y in
            let m : Memᴰ c st.list = child_listed T l p K st f y h q in
            let w : next_of st y < T.actions = next_below T l p K st f y h in
            let j : kind T (next_of st y) ≡ join = f.wait_join y h q in
            let o : owner T (next_of st y) ≡ y = owner_of_next T l p K st f y h in
            let up : y < c = rw o at (join_above T l.contents l.bodies (next_of st y) w j) in
            let x : Memᴰ c (open_before T (next_of st y)) = rw (open_join T l.contents l.bodies l.nesting (next_of st y) w j) (mathlib.Core.List.Memᴰ.head refl) in
            let (low, high) = rw o at (open_inside (next_of st y) c w x) in
            let (v, g, s, s', s'') = ih c (omega arith) (f.list_below c m) (f.list_born c m) (f.list_unended c m) (omega (arith, at.1)) in
            (v, g, s, omega arith, omega (arith, at.1))
        go (suc (suc (suc (suc zero)))) q k ih = absurd (e q)
        go (suc (suc (suc (suc (suc s))))) q k ih = absurd (omega arith)

    -- the workers that hold a thread below M
    under : ℕ → ℕ → Bool
    under M v = (worker_of st v).holds && ltb (number_of T (next_of st (worker_of st v).thread)) M

    abbrev H : ℕ → ℕ
    H M = count_below (under M) 16

    under_up : (M M' : ℕ) → M ≤ M' → (v : ℕ) → under M v ≡ true → under M' v ≡ true
    unfolding under
    under_up M M' b v e =
        let (x, y) = (and_exactly (worker_of st v).holds _).0 e in
        (and_exactly (worker_of st v).holds _).1 (x, lt-ltb _ M' (omega (arith, ltb-true (number_of T (next_of st (worker_of st v).thread)) M y)))

    h_up : (M M' : ℕ) → M ≤ M' → H M ≤ H M'
    h_up M M' b = count_le (under M) (under M') 16 (under_up M M' b)

    -- a live thread between adds one
    h_more : (y M M' : ℕ) → y < T.threads → (status_of st y ≡ unborn → ⊥) → (status_of st y ≡ ended → ⊥) → M ≤ number_of T (T.first y) → number_of T (end_of T y) < M' → M' ≤ N → suc (H M) ≤ H M'
    unfolding under
    h_more y M M' h u e low high n =
        let (x, i, s, a, b) = held_inside T.threads y (omega arith) h u e (omega arith) in
        let (v, j, q, r) = f.holding.held_holder x i s in
        count_more (under M) (under M') 16 v j (under_up M M' (omega arith)) (rw (q, r) (le-ltb (number_of T (next_of st x)) M (omega arith)))
        (rw (q, r) (lt-ltb (number_of T (next_of st x)) M' (omega arith)))

    -- the children of a thread that are open before one of its actions
    open_few_at : (t k : ℕ) → t < T.threads → k < T.count t → T.first t + k ≤ next_of st t → number_of T (T.first t + k) ≤ N
        → unended_in st.status (open_before T (T.first t + k)) + H (number_of T (T.first t)) ≤ H (number_of T (T.first t + k))
    unfolding sum_over
    open_few_at t k h i =
        along T l t h P (λ b n. rw (open_first T l.contents l.bodies l.nesting t h) (omega arith)) forks joins stays k i
      where
        P : ℕ → Type 0
        P a = a ≤ next_of st t → number_of T a ≤ N → unended_in st.status (open_before T a) + H (number_of T (T.first t)) ≤ H (number_of T a)

        rises : (k : ℕ) → suc k < T.count t → number_of T (T.first t + k) < number_of T (suc (T.first t + k))
        rises k j =
            number_rises T l (T.first t + k) (suc (T.first t + k)) (omega arith) (rw add-suc at (action_within T l.contents l.bodies t (suc k) h j))
            (owner_at T l.contents t k h (omega arith) ∙ sym (rw add-suc at (owner_at T l.contents t (suc k) h j)))

        forks : (k : ℕ) → suc k < T.count t → T.first t + k < T.actions → kind T (T.first t + k) ≡ fork
            → open_before T (suc (T.first t + k)) ≡ T.argument (T.first t + k) ∷ open_before T (T.first t + k) → P (T.first t + k) → P (suc (T.first t + k))
        forks k j w y e ih b n = rw e (go (ℕ_discrete (status_of st c) ended))
          where
            a : ℕ
            a = T.first t + k

            c : ℕ
            c = T.argument a

            before : unended_in st.status (open_before T a) + H (number_of T (T.first t)) ≤ H (number_of T a)
            before = ih (omega arith) (omega (arith, rises k j))

            born : status_of st c ≡ unborn → ⊥
            born u =
                let d : is_done T st a ≡ true = done_low T st a (rw (owner_at T l.contents t k h (omega arith)) (omega arith)) in
                no_way (cc (
                  rw (fork_found T l.contents l.bodies l.nesting a w y)
                      at (f.unborn_fork c (omega (arith, fork_above T l.contents l.bodies a w y)) (fork_below_lem T l.contents l.bodies a w y) u),
                  d,
                ))

            go : Dec (status_of st c ≡ ended) → unended st.status c + unended_in st.status (open_before T a) + H (number_of T (T.first t)) ≤ H (number_of T (suc a))
            go (yes x) = rw (eq-eqb (status_of st c) ended x) (omega (arith, before, h_up (number_of T a) (number_of T (suc a)) (omega (arith, rises k j))))
            go (no x) =
                rw (ne_eqb (status_of st c) ended x)
                (omega (
                  arith,
                  before,
                  h_more c (number_of T a) (number_of T (suc a)) (fork_below_lem T l.contents l.bodies a w y) born x (omega (arith, number_child T l a w y)) (number_past T l a w y) n,
                ))

        joins : (k : ℕ) → suc k < T.count t → T.first t + k < T.actions
            → open_before T (T.first t + k) ≡ T.argument (T.first t + k) ∷ open_before T (suc (T.first t + k)) → P (T.first t + k) → P (suc (T.first t + k))
        joins k j w e ih b n =
            omega (arith, rw e at (ih (omega arith) (omega (arith, rises k j))), h_up (number_of T (T.first t + k)) (number_of T (suc (T.first t + k))) (omega (arith, rises k j)))

        stays : (k : ℕ) → suc k < T.count t → T.first t + k < T.actions → open_before T (suc (T.first t + k)) ≡ open_before T (T.first t + k) → P (T.first t + k) → P (suc (T.first t + k))
        stays k j w e ih b n =
            rw e
            (omega (arith, ih (omega arith) (omega (arith, rises k j)), h_up (number_of T (T.first t + k)) (number_of T (suc (T.first t + k))) (omega (arith, rises k j))))

    open_few : (t a : ℕ) → a < T.actions → owner T a ≡ t → a ≤ next_of st t → number_of T a ≤ N
        → unended_in st.status (open_before T a) + H (number_of T (T.first t)) ≤ H (number_of T a)
    open_few t a w o b n =
        let h : t < T.threads = rw o at (owner_below_lem T l.contents a w) in
        let low : T.first t ≤ a = rw o at (owner_first T l.contents a w) in
        let high : a < T.first t + T.count t = rw o at (owner_end T l.contents a w) in
        let e : T.first t + (a - T.first t) ≡ a = omega arith in
        rw e at (open_few_at t (a - T.first t) h (omega arith) (rw e b) (rw e n))

    -- the elders of a thread and of those above it
    outer_few : (fuel t : ℕ) → t < fuel → t < T.threads → (status_of st t ≡ unborn → ⊥) → number_of T (T.first t) ≤ N → outer T st.status t ≤ H (number_of T (T.first t))
    outer_few zero t b h u n = absurd (omega arith)
    outer_few (suc fuel) zero b h u n = omega (arith, outer_root T l st.status)
    outer_few (suc fuel) (suc t) b h u n =
        let (x, w, y, e) = fork_exists T l.contents l.bodies l.nesting l.forking (suc t) (omega arith) h in
        go x w y e (outer_few fuel (owner T x))
      where
        go : (x : ℕ) → x < T.actions → kind T x ≡ fork → T.argument x ≡ suc t
            → (owner T x < fuel → owner T x < T.threads → (status_of st (owner T x) ≡ unborn → ⊥) → number_of T (T.first (owner T x)) ≤ N → outer T st.status (owner T x) ≤ H (number_of T (T.first (owner T x))))
            → outer T st.status (suc t) ≤ H (number_of T (T.first (suc t)))
        go x w y e ih =
            let q : ℕ = owner T x in
            let lower : q < suc t = rw e at (fork_above T l.contents l.bodies x w y) in
            let d : is_done T st x ≡ true = born_forked T l p K st f x w y (rw e u) in
            let born : status_of st q ≡ unborn → ⊥ = λ z. no_way (cc (unborn_undone T l p K st f x w z)) in
            let c : number_of T (T.first (suc t)) ≡ suc (number_of T x) = rw e at (number_child T l x w y) in
            let low : number_of T (T.first q) ≤ number_of T x = number_first T l x w in
            let o : outer T st.status (suc t) ≡ unended_in st.status (open_before T x) + outer T st.status q = rw e at (outer_child T l st.status x w y) in
            omega (
              arith,
              o,
              open_few q x w refl (at (done_where T st x d)) (omega arith),
              ih (omega arith) (owner_below_lem T l.contents x w) born (omega arith),
              h_up (number_of T x) (number_of T (T.first (suc t))) (omega arith),
            )
          where
            at : (x < next_of st (owner T x)) ⊎ ((x ≡ next_of st (owner T x)) × (status_of st (owner T x) ≡ ended)) → x ≤ next_of st (owner T x)
            at (inl i) = omega arith
            at (inr (i, j)) = omega arith

    -- the whole load of a thread at N
    full_few : (t : ℕ) → t < T.threads → (status_of st t ≡ unborn → ⊥) → number_of T (next_of st t) ≤ N
        → outer T st.status t + unended_in st.status (open_before T (next_of st t)) ≤ H (number_of T (next_of st t))
    full_few t h u n =
        omega (
          arith,
          next_inside t h,
          open_few t (next_of st t) (next_below T l p K st f t h) (owner_of_next T l p K st f t h) (omega arith) n,
          outer_few (suc t) t (omega arith) h u (omega (arith, next_inside t h)),
        )

    -- a worker that holds nothing is not among them
    h_spare : (w M : ℕ) → w < p → (worker_of st w).holds ≡ false → suc (H M) ≤ p
    unfolding under
    h_spare w M h e =
        omega (
          arith,
          one_fails (under M) p w h (rw e),
          few_targets p 16 (under M) (under M) (λ w. w) (λ t j q. (t, f.holding.holder_below t j ((and_exactly (worker_of st t).holds _).0 q).0, q, refl)),
        )

  -- at a take
  pub taken_few : (w t : ℕ) → w < p → (worker_of st w).holds ≡ false → get_or st.list (leftmost st.status st.list) 0 ≡ t → t < T.threads → (status_of st t ≡ unborn → ⊥)
      → suc (outer T st.status t + unended_in st.status (open_before T (next_of st t))) ≤ p
  taken_few w t h e i b u =
      let N : ℕ = number_of T (next_of st t) in
      let none : (x : ℕ) → x < T.threads → status_of st x ≡ ready → number_of T (next_of st x) < N → ⊥ =
      λ x y s n. absurd (omega (
        arith,
        rw i at (leftmost_first (λ t. number_of T (next_of st t)) st.status st.list f.serial x (f.live_listed x y (λ z. omega arith) (λ z. omega arith)) s),
      )) in
      omega (arith, full_few N none t b u (omega arith), h_spare N none w N h e)
