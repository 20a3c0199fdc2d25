-- The load of the thread at the bottom of a deque is at most the number of deques left of it: each branch counted in it has a thread that is ready or held, and the lowest of that thread's
-- line lies in the branch too.
use mathlib.Core.Path.{◌≡◌, refl, sym, ap, ◌∙◌}
use Prim.Native.Nat.{ℕ, zero, suc, ◌+◌, ◌-◌, ◌≤◌, ◌<◌}
use native.Mathlib.Omega.{arith}
use native.Mathlib.Nat.{add-suc}
use native.Mathlib.Decide.{ℕ_discrete}
use mathlib.Core.List.{List, [], ◌∷◌, ◌++◌, Memᴰ}
use mathlib.Core.Bool.{Bool, true, false}
use mathlib.Core.Logic.{◌⊎◌, inl, inr}
use lib.ListN.{length}
use lib.Dec.{ltb}
use borrow.Author.Tests.{lt-ltb, le-ltb, ltb-true, eq-eqb, ne_eqb}
use Rattle.table.specs.Sum.{pick, sum_over}
use Rattle.table.specs.Format.{Table, kind}
use Rattle.table.specs.declared.kinds.Kind.TheVariants.{Fork as fork, Join as join}
use Rattle.table.specs.Checks.{owner, end_of, open_before}
use Rattle.table.specs.Level.{fork_below}
use Rattle.table.proofs.Tests.{no_way, fork_no_end}
use Rattle.table.proofs.Bodies.{end_within, end_kind, owner_at, owner_of_end, owner_of_first, first_within, owner_first, owner_end, owner_below_lem, fork_above, fork_below_lem, join_above, next_owner, next_within, after_end, owner_is}
use Rattle.table.proofs.Nesting.{open_first, open_join, open_forked, fork_found, fork_exists, fork_once}
use Rattle.table.proofs.Amounts.{action_within}
use Rattle.schedule.specs.Machine.{State, unborn, ready, held, ended, next_of, status_of}
use Rattle.order.specs.Order.{number_of}
use Rattle.schedule.specs.Sound.{is_done}
use Rattle.order.proofs.Lawful.{Lawful}
use Rattle.order.proofs.Numbers.{number_child, number_past, number_rises, number_between}
use Rattle.schedule.proofs.Sound.Facts.{Facts}
use Rattle.schedule.proofs.Sound.Done.{done_low, done_where, number_first, next_below, owner_of_next, born_forked, unborn_undone}
use Rattle.schedule.proofs.Linked.Waiting.{awaited, child_listed}
use Rattle.peaks.specs.Peak.{unended, unended_in, outer, past}
use Rattle.peaks.proofs.Opens.{along}
use Rattle.peaks.proofs.Loads.{outer_root, outer_child, past_fewer}
use Rattle.peaks.proofs.LoadLaw.{past_step}
use Rattle.deques.specs.Deques.{Deque, bottom}
use Rattle.deques.specs.Lines.{line}
use Rattle.deque_bounds.proofs.Lines.{Link, Chained}
use Rattle.deques.proofs.DequeTurns.{with_serial}
use Rattle.schedule.proofs.Linked.Waiting.{number_along}

-- ---- numbers of a whole thread

module _ (T : Table) (l : Lawful T) where
  number_end : (a : ℕ) → a < T.actions → number_of T a ≤ number_of T (end_of T (owner T a))
  number_end a h =
      let t : ℕ = owner T a in
      let b : t < T.threads = owner_below_lem T l.contents a h in
      number_along T l a (end_of T t) (omega (arith, owner_end T l.contents a h, after_end T l.contents t b)) (end_within T l.contents t b) (sym (owner_of_end T l.contents t b))

  -- thread z and all below it lie within y's
  abbrev pub Inside : ℕ → ℕ → Type 0
  Inside y z = (number_of T (T.first y) ≤ number_of T (T.first z)) × (number_of T (end_of T z) ≤ number_of T (end_of T y))

  -- a child lies within
  pub inside_child : (y x : ℕ) → x < T.actions → kind T x ≡ fork → Inside y (owner T x) → Inside y (T.argument x)
  inside_child y x h k (low, high) =
      let n : number_of T (suc x) ≤ number_of T (end_of T (owner T x)) =
      rw (next_owner T l.contents l.bodies x h (fork_no_end k)) at (number_end (suc x) (next_within T l.contents l.bodies x h (fork_no_end k))) in
      (omega (arith, low, number_child T l x h k, number_first T l x h), omega (arith, high, n, number_past T l x h k))

  -- an action between a fork and the one after it is of a thread within the child
  whole_inside : (fuel x a : ℕ) → x < T.actions → kind T x ≡ fork → a < T.actions → owner T a < fuel → number_of T x < number_of T a → number_of T a < number_of T (suc x)
      → Inside (T.argument x) (owner T a)
  whole_inside zero x a h k i b low high = absurd (omega arith)
  whole_inside (suc fuel) x a h k i b low high = go (number_between T l x a h k i low high) (λ z. whole_inside fuel x z h k)
    where
      go : (owner T a ≡ T.argument x)
          ⊎ ((0 < owner T a) × (number_of T x < number_of T (fork_below T T.actions (owner T a))) × (number_of T (fork_below T T.actions (owner T a)) < number_of T (suc x)))
          → ((z : ℕ) → z < T.actions → owner T z < fuel → number_of T x < number_of T z → number_of T z < number_of T (suc x) → Inside (T.argument x) (owner T z))
          → Inside (T.argument x) (owner T a)
      go (inl e) ih = rw e (omega arith, omega arith)
      go (inr (pos, u, v)) ih =
          let (z, s, q, r) = fork_exists T l.contents l.bodies l.nesting l.forking (owner T a) pos (owner_below_lem T l.contents a i) in
          let w : fork_below T T.actions (owner T a) ≡ z = rw r at (fork_found T l.contents l.bodies l.nesting z s q) in
          let d : owner T z < owner T a = rw r at (fork_above T l.contents l.bodies z s q) in
          rw r at (inside_child (T.argument x) z s q (ih z s (omega arith) (rw w at u) (rw w at v)))

  -- the parent of a thread within, other than the outermost, lies within
  pub inside_parent : (x z : ℕ) → x < T.actions → kind T x ≡ fork → z < T.actions → kind T z ≡ fork → (T.argument z ≡ T.argument x → ⊥) → Inside (T.argument x) (T.argument z)
      → Inside (T.argument x) (owner T z)
  inside_parent x z h k i j n (low, high) =
      let c : ℕ = T.argument z in
      let b : c < T.threads = fork_below_lem T l.contents l.bodies z i j in
      let o : owner T (T.first c) ≡ c = owner_of_first T l.contents c b in
      let w : T.first c < T.actions = first_within T l.contents c b in
      let s : number_of T (T.first c) ≤ number_of T (end_of T c) = rw o at (number_end (T.first c) w) in
      go (number_between T l x (T.first c) h k w (omega (arith, low, number_child T l x h k)) (omega (arith, s, high, number_past T l x h k)))
    where
      go : (owner T (T.first (T.argument z)) ≡ T.argument x)
          ⊎ ((0 < owner T (T.first (T.argument z))) × (number_of T x < number_of T (fork_below T T.actions (owner T (T.first (T.argument z)))))
          × (number_of T (fork_below T T.actions (owner T (T.first (T.argument z)))) < number_of T (suc x)))
          → Inside (T.argument x) (owner T z)
      go (inl e) = absurd (n (sym (owner_of_first T l.contents (T.argument z) (fork_below_lem T l.contents l.bodies z i j)) ∙ e))
      go (inr (pos, u, v)) =
          let o : owner T (T.first (T.argument z)) ≡ T.argument z = owner_of_first T l.contents (T.argument z) (fork_below_lem T l.contents l.bodies z i j) in
          let e : fork_below T T.actions (owner T (T.first (T.argument z))) ≡ z = rw o (fork_found T l.contents l.bodies l.nesting z i j) in
          whole_inside (suc (owner T z)) x z h k i (omega arith) (rw e at u) (rw e at v)

-- ---- deques whose lowest thread is numbered below M

module _ (num : ℕ → ℕ) (hold : ℕ → ℕ) where
  unfoldable pub under : ℕ → List Deque → ℕ
  under M [] = 0
  under M (d ∷ ds) = pick (ltb (num (bottom (line hold d))) M) 1 0 + under M ds

  part_up : (x M M' : ℕ) → M ≤ M' → pick (ltb x M) 1 0 ≤ pick (ltb x M') 1 0
  part_up x M M' h = go (ltb x M) refl
    where
      go : (q : Bool) → ltb x M ≡ q → pick q 1 0 ≤ pick (ltb x M') 1 0
      go true e = rw (lt-ltb x M' (omega (arith, ltb-true x M e))) (omega arith)
      go false e = omega arith

  pub under_up : (M M' : ℕ) → M ≤ M' → (ds : List Deque) → under M ds ≤ under M' ds
  unfolding under
  under_up M M' h [] = omega arith
  under_up M M' h (d ∷ ds) = omega (arith, under_up M M' h ds, part_up (num (bottom (line hold d))) M M' h)

  pub under_more : (M M' : ℕ) → M ≤ M' → (front : List Deque) (d : Deque) (rest : List Deque) → M ≤ num (bottom (line hold d)) → num (bottom (line hold d)) < M'
      → suc (under M (front ++ d ∷ rest)) ≤ under M' (front ++ d ∷ rest)
  unfolding under
  under_more M M' h [] d rest i j = rw (le-ltb (num (bottom (line hold d))) M i, lt-ltb (num (bottom (line hold d))) M' j) (omega (arith, under_up M M' h rest))
  under_more M M' h (e ∷ front) d rest i j = omega (arith, under_more M M' h front d rest i j, part_up (num (bottom (line hold e))) M M' h)

  pub under_few : (M : ℕ) (front rest : List Deque) → under M rest ≡ 0 → under M (front ++ rest) ≤ length front
  unfolding under
  under_few M [] rest e = omega (arith, e)
  under_few M (d ∷ front) rest e = omega (arith, under_few M front rest e, most (ltb (num (bottom (line hold d))) M))
    where
      most : (q : Bool) → pick q 1 0 ≤ 1
      most true = omega arith
      most false = omega arith

-- ---- in a state

module _ (T : Table) (l : Lawful T) (p K : ℕ) (st : State) (f : Facts T p K (with_serial T l st)) where
  abbrev sw : State
  sw = with_serial T l st

  -- a live thread has one that is ready or held within
  abbrev pub GoesIn : ℕ → Type 0
  GoesIn y = (u : ℕ) × (u < T.threads) × ((status_of st u ≡ ready) ⊎ (status_of st u ≡ held)) × Inside T l y u

  pub goes_inside : (fuel y z : ℕ) → T.threads ≤ fuel + z → z < T.threads → (status_of st z ≡ unborn → ⊥) → (status_of st z ≡ ended → ⊥) → Inside T l y z → GoesIn y
  goes_inside zero y z b h u e i = absurd (omega arith)
  goes_inside (suc fuel) y z b h u e i = go (status_of st z) refl (f.status_known z h) (goes_inside fuel y)
    where
      go : (s : ℕ) → status_of st z ≡ s → s ≤ ended
          → ((z : ℕ) → T.threads ≤ fuel + z → z < T.threads → (status_of st z ≡ unborn → ⊥) → (status_of st z ≡ ended → ⊥) → Inside T l y z → GoesIn y) → GoesIn y
      go zero q k ih = absurd (u q)
      go (suc zero) q k ih = (z, h, inl q, i)
      go (suc (suc zero)) q k ih = (z, h, inr q, i)
      go (suc (suc (suc zero))) q k ih =
          let c : ℕ = awaited T st z in
          let m : Memᴰ c sw.list = child_listed T l p K sw f z h q in
          let w : next_of st z < T.actions = next_below T l p K sw f z h in
          let j : kind T (next_of st z) ≡ join = f.wait_join z h q in
          let o : owner T (next_of st z) ≡ z = owner_of_next T l p K sw f z h in
          let up : z < c = rw o at (join_above T l.contents l.bodies (next_of st z) w j) in
          let m' : Memᴰ c (open_before T (next_of st z)) = rw (open_join T l.contents l.bodies l.nesting (next_of st z) w j) (mathlib.Core.List.Memᴰ.head refl) in
          let (x, g, y', r, o') = open_forked T l.contents l.bodies l.nesting (next_of st z) c w m' in
          let v : Inside T l y (owner T x) = rw (sym (o' ∙ o)) at i in
          ih c (omega arith) (f.list_below c m) (f.list_born c m) (f.list_unended c m) (rw r at (inside_child T l y x (omega arith) y' v))
      go (suc (suc (suc (suc zero)))) q k ih = absurd (e q)
      go (suc (suc (suc (suc (suc s))))) q k ih = absurd (omega arith)

  -- down a line from a thread within, where the outermost's parent is past its fork
  pub walk : (J : ℕ → ℕ) (x : ℕ) → x < T.actions → kind T x ≡ fork → suc x < next_of st (owner T x)
      → (e : ℕ) (k : List ℕ) → Chained T J st e k → (u : ℕ) → Memᴰ u k → Inside T l (T.argument x) u → Inside T l (T.argument x) (bottom k)
  unfolding Chained bottom
  walk J x h y n e [] c u m i = absurd (mathlib.Core.List.Memᴰ.not-nil m)
  walk J x h y n e (t ∷ []) c u m i = go (mathlib.Core.List.Memᴰ.cases_cons m)
    where
      go : (u ≡ t) ⊎ Memᴰ u [] → Inside T l (T.argument x) t
      go (inl q) = rw q at i
      go (inr q) = absurd (mathlib.Core.List.Memᴰ.not-nil q)
  walk J x h y n e (t ∷ v ∷ k) c u m i = go (mathlib.Core.List.Memᴰ.cases_cons m) (walk J x h y n t (v ∷ k) c.2)
    where
      L : Link T st t v
      L = c.0

      down : Inside T l (T.argument x) t → Inside T l (T.argument x) v
      down j = rw L.owned at (inside_parent T l x L.action h y L.within L.forks apart (rw L.names j))
        where
          apart : T.argument L.action ≡ T.argument x → ⊥
          apart q =
              let z : L.action ≡ x = fork_once T l.contents l.bodies l.nesting L.action x L.within h L.forks y q in
              omega (arith, n, ap (λ a. next_of st (owner T a)) (sym z), ap (next_of st) L.owned, L.next, ap suc z)

      go : (u ≡ t) ⊎ Memᴰ u (v ∷ k) → ((w : ℕ) → Memᴰ w (v ∷ k) → Inside T l (T.argument x) w → Inside T l (T.argument x) (bottom (v ∷ k))) → Inside T l (T.argument x) (bottom (v ∷ k))
      go (inl q) ih = ih v (mathlib.Core.List.Memᴰ.head refl) (down (rw q at i))
      go (inr q) ih = ih u q i

  -- ---- what counts of a thread, by an amount that rises along serial order and by 1 over each branch

  module _ (H : ℕ → ℕ) (up : (M M' : ℕ) → M ≤ M' → H M ≤ H M')
      (more : (x : ℕ) → x < T.actions → kind T x ≡ fork → suc x < next_of st (owner T x) → (status_of st (T.argument x) ≡ unborn → ⊥) → (status_of st (T.argument x) ≡ ended → ⊥)
      → suc (H (number_of T x)) ≤ H (number_of T (suc x))) where
    open_few_at : (t k : ℕ) → t < T.threads → k < T.count t → T.first t + k < next_of st t
        → unended_in st.status (open_before T (T.first t + k)) + H (number_of T (T.first t)) ≤ H (number_of T (T.first t + k))
    unfolding sum_over
    open_few_at t k h i = along T l t h P (λ b. rw (open_first T l.contents l.bodies l.nesting t h) (omega arith)) forks joins stays k i
      where
        P : ℕ → Type 0
        P a = a < next_of st t → unended_in st.status (open_before T a) + H (number_of T (T.first t)) ≤ H (number_of T a)

        rises : (k : ℕ) → suc k < T.count t → H (number_of T (T.first t + k)) ≤ H (number_of T (suc (T.first t + k)))
        rises k j =
            up _ _ (omega (
              arith,
              number_rises T l (T.first t + k) (suc (T.first t + k)) (omega arith) (rw add-suc at (action_within T l.contents l.bodies t (suc k) h j))
                  (owner_at T l.contents t k h (omega arith) ∙ sym (rw add-suc at (owner_at T l.contents t (suc k) h j))),
            ))

        forks : (k : ℕ) → suc k < T.count t → T.first t + k < T.actions → kind T (T.first t + k) ≡ fork
            → open_before T (suc (T.first t + k)) ≡ T.argument (T.first t + k) ∷ open_before T (T.first t + k) → P (T.first t + k) → P (suc (T.first t + k))
        forks k j w y e ih b = rw e (go (ℕ_discrete (status_of st c) ended))
          where
            a : ℕ
            a = T.first t + k

            c : ℕ
            c = T.argument a

            o : owner T a ≡ t
            o = owner_at T l.contents t k h (omega arith)

            born : status_of st c ≡ unborn → ⊥
            born u =
                let d : is_done T st a ≡ true = done_low T st a (rw o (omega arith)) in
                no_way (cc (
                  rw (fork_found T l.contents l.bodies l.nesting a w y)
                      at (f.unborn_fork c (omega (arith, fork_above T l.contents l.bodies a w y)) (fork_below_lem T l.contents l.bodies a w y) u),
                  d,
                ))

            go : Dec (status_of st c ≡ ended) → unended st.status c + unended_in st.status (open_before T a) + H (number_of T (T.first t)) ≤ H (number_of T (suc a))
            go (yes x) = rw (eq-eqb (status_of st c) ended x) (omega (arith, ih (omega arith), rises k j))
            go (no x) = rw (ne_eqb (status_of st c) ended x) (omega (arith, ih (omega arith), more a w y (rw o b) born x))

        joins : (k : ℕ) → suc k < T.count t → T.first t + k < T.actions
            → open_before T (T.first t + k) ≡ T.argument (T.first t + k) ∷ open_before T (suc (T.first t + k)) → P (T.first t + k) → P (suc (T.first t + k))
        joins k j w e ih b = omega (arith, rw e at (ih (omega arith)), rises k j)

        stays : (k : ℕ) → suc k < T.count t → T.first t + k < T.actions → open_before T (suc (T.first t + k)) ≡ open_before T (T.first t + k) → P (T.first t + k) → P (suc (T.first t + k))
        stays k j w e ih b = rw e (omega (arith, ih (omega arith), rises k j))

    open_few : (t a : ℕ) → a < T.actions → owner T a ≡ t → a < next_of st t → unended_in st.status (open_before T a) + H (number_of T (T.first t)) ≤ H (number_of T a)
    open_few t a w o b =
        let h : t < T.threads = rw o at (owner_below_lem T l.contents a w) in
        let low : T.first t ≤ a = rw o at (owner_first T l.contents a w) in
        let high : a < T.first t + T.count t = rw o at (owner_end T l.contents a w) in
        let e : T.first t + (a - T.first t) ≡ a = omega arith in
        rw e at (open_few_at t (a - T.first t) h (omega arith) (rw e b))

    outer_few : (fuel t : ℕ) → t < fuel → t < T.threads → (status_of st t ≡ unborn → ⊥) → outer T st.status t ≤ H (number_of T (T.first t))
    outer_few zero t b h u = absurd (omega arith)
    outer_few (suc fuel) zero b h u = omega (arith, outer_root T l st.status)
    outer_few (suc fuel) (suc t) b h u =
        let (x, w, y, e) = fork_exists T l.contents l.bodies l.nesting l.forking (suc t) (omega arith) h in
        go x w y e (outer_few fuel (owner T x))
      where
        go : (x : ℕ) → x < T.actions → kind T x ≡ fork → T.argument x ≡ suc t
            → (owner T x < fuel → owner T x < T.threads → (status_of st (owner T x) ≡ unborn → ⊥) → outer T st.status (owner T x) ≤ H (number_of T (T.first (owner T x))))
            → outer T st.status (suc t) ≤ H (number_of T (T.first (suc t)))
        go x w y e ih =
            let q : ℕ = owner T x in
            let lower : q < suc t = rw e at (fork_above T l.contents l.bodies x w y) in
            let d : is_done T st x ≡ true = born_forked T l p K sw f x w y (rw e u) in
            let born : status_of st q ≡ unborn → ⊥ = λ z. no_way (cc (unborn_undone T l p K sw f x w z)) in
            let c : number_of T (T.first (suc t)) ≡ suc (number_of T x) = rw e at (number_child T l x w y) in
            let o : outer T st.status (suc t) ≡ unended_in st.status (open_before T x) + outer T st.status q = rw e at (outer_child T l st.status x w y) in
            omega (
              arith,
              o,
              open_few q x w refl (at (done_where T st x d)),
              ih (omega arith) (owner_below_lem T l.contents x w) born,
              up (number_of T x) (number_of T (T.first (suc t))) (omega arith),
            )
          where
            at : (x < next_of st (owner T x)) ⊎ ((x ≡ next_of st (owner T x)) × (status_of st (owner T x) ≡ ended)) → x < next_of st (owner T x)
            at (inl i) = i
            at (inr (i, j)) =
                let b : owner T x < T.threads = owner_below_lem T l.contents x w in
                let z : x ≡ end_of T (owner T x) = i ∙ f.ended_last (owner T x) b j in
                no_way (cc (ap (kind T) z, end_kind T l.contents l.bodies (owner T x) b, y))

    pub load_few : (t : ℕ) → t < T.threads → (status_of st t ≡ unborn → ⊥) → outer T st.status t + unended_in st.status (past T (next_of st t)) ≤ H (number_of T (next_of st t))
    unfolding sum_over
    load_few t h u = go (next_of st t) refl (ℕ_discrete (next_of st t) (T.first t))
      where
        o : owner T (next_of st t) ≡ t
        o = owner_of_next T l p K sw f t h

        first : outer T st.status t ≤ H (number_of T (T.first t))
        first = outer_few (suc t) t (omega arith) h u

        go : (n : ℕ) → next_of st t ≡ n → Dec (next_of st t ≡ T.first t) → outer T st.status t + unended_in st.status (past T n) ≤ H (number_of T n)
        go n e (yes z) =
            let g : n ≡ T.first t = sym e ∙ z in
            let b : unended_in st.status (open_before T (T.first t)) ≡ 0 = rw (open_first T l.contents l.bodies l.nesting t h) in
            rw g (omega (arith, first, b, past_fewer T st.status (T.first t)))
        go zero e (no z) = absurd (z (omega (arith, e, f.next_low t h)))
        go (suc a) e (no z) =
            let w : suc a < T.actions = rw e at (next_below T l p K sw f t h) in
            let o' : owner T a ≡ t = owner_is T l.contents t a h (omega (arith, f.next_low t h, z, e)) (omega (arith, f.next_high t h, e, after_end T l.contents t h)) in
            omega (
              arith,
              first,
              past_step T st.status a,
              open_few t a (omega (arith, w)) o' (omega (arith, e)),
              up (number_of T a) (number_of T (suc a)) (omega (arith, number_rises T l a (suc a) (omega arith) w (o' ∙ sym (rw e at o)))),
            )
