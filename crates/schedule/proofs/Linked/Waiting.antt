-- Nothing listed stands between a waiting thread and the child that it waits for: what is numbered between their next actions belongs to threads unborn, which come after the child's
-- next action, or ended, which the waiting thread has joined since it forked the child.
use mathlib.Core.Path.{◌≡◌, refl, sym, ◌∙◌}
use Prim.Native.Nat.{ℕ, zero, suc, ◌+◌, ◌≤◌, ◌<◌}
use native.Mathlib.Omega.{arith}
use native.Mathlib.Decide.{ℕ_discrete, dec_lt}
use mathlib.Core.List.{Memᴰ}
use mathlib.Core.Bool.{Bool, true, false}
use mathlib.Core.Logic.{◌⊎◌, inl, inr}
use Rattle.table.specs.Format.{is, Table, kind}
use Rattle.table.specs.declared.kinds.Kind.TheVariants.{End as end, Fork as fork, Join as join}
use Rattle.table.specs.Checks.{open_before, owner, end_of}
use Rattle.table.specs.Level.{fork_below}
use Rattle.table.specs.JobTable.{Names, Unjoined, Latest}
use Rattle.table.proofs.Tests.{no_way, is_true, fork_no_end}
use Rattle.table.proofs.Bodies.{after_end, end_within, end_last, owner_is, owner_of_end, owner_first, owner_end, owner_below_lem, fork_above, fork_below_lem, join_below, next_owner}
use Rattle.table.proofs.Nesting.{open_join, open_forked, fork_once, fork_found, fork_exists}
use Rattle.table.proofs.Unjoined.{in_body, body_owner}
use Rattle.table.proofs.WellNested.{nested_exactly}
use Rattle.schedule.specs.Machine.{State, unborn, waiting, ended, next_of, status_of}
use Rattle.order.specs.Order.{number_of}
use Rattle.order.proofs.Lawful.{Lawful}
use Rattle.order.proofs.Numbers.{number_once, number_step, number_child, number_past, number_rises, number_between}
use Rattle.schedule.proofs.Sound.Facts.{Done, Facts}
use Rattle.order.proofs.Joins.{join_depends, join_exists}
use Rattle.schedule.proofs.Sound.Done.{done_low, undone, number_first, next_below, owner_of_next, done_ended, ended_all, undone_unborn, unborn_undone}

-- a fork from action e on and before action j, of e's thread, around what is numbered at d
record Around (T : Table) (e j d : ℕ) : Type 0 where
  action : ℕ
  from : e ≤ action
  before : action < j
  forks : kind T action ≡ fork
  same : owner T action ≡ owner T e
  above : number_of T action < number_of T d
  under : number_of T d < number_of T (suc action)

-- the fork of child t in thread u, before action j
record ForksChild (T : Table) (u j t : ℕ) : Type 0 where
  action : ℕ
  before : action < j
  forks : kind T action ≡ fork
  names : T.argument action ≡ t
  owned : owner T action ≡ u

-- the child that a waiting thread waits for
abbrev pub awaited : Table → State → ℕ → ℕ
awaited T st u = T.argument (next_of st u)

-- ---- numbers

module _ (T : Table) (l : Lawful T) where
  pub number_along : (a d : ℕ) → a ≤ d → d < T.actions → owner T a ≡ owner T d → number_of T a ≤ number_of T d
  number_along a d h i o = go (ℕ_discrete a d)
    where
      go : Dec (a ≡ d) → number_of T a ≤ number_of T d
      go (yes e) = rw e (omega arith)
      go (no n) = omega (arith, number_rises T l a d (omega (arith, n)) i o)

  -- the actions of a thread lie between its fork and the action after that
  in_fork : (y d : ℕ) → y < T.actions → kind T y ≡ fork → d < T.actions → owner T d ≡ T.argument y → (number_of T y < number_of T d) × (number_of T d < number_of T (suc y))
  in_fork y d h k i o = (omega (arith, low, number_child T l y h k), omega (arith, high, number_past T l y h k))
    where
      c : ℕ
      c = T.argument y

      below : c < T.threads
      below = fork_below_lem T l.contents l.bodies y h k

      low : number_of T (T.first c) ≤ number_of T d
      low = rw o at (number_first T l d i)

      high : number_of T d ≤ number_of T (end_of T c)
      high =
          number_along d (end_of T c) (omega (arith, after_end T l.contents c below, rw o at (owner_end T l.contents d i))) (end_within T l.contents c below)
          (o ∙ sym (owner_of_end T l.contents c below))

  -- between two actions of a thread there are its own actions, and what lies around the forks among them
  around : (e d : ℕ) → d < T.actions → number_of T e ≤ number_of T d → (owner T d ≡ owner T e → ⊥)
      → (j : ℕ) → e ≤ j → j < T.actions → owner T j ≡ owner T e → number_of T d < number_of T j → Around T e j d
  around e d i low n zero h b o up =
      let z : e ≡ 0 = omega arith in
      absurd (omega (arith, rw z at low))
  around e d i low n (suc j) h b o up = go (dec_lt j e) (around e d i low n j)
    where
      here : e ≤ j → owner T j ≡ owner T e
      here g =
          let w : suc j < T.first (owner T e) + T.count (owner T e) = rw o at (owner_end T l.contents (suc j) b) in
          owner_is T l.contents (owner T e) j (rw o at (owner_below_lem T l.contents (suc j) b)) (omega (arith, owner_first T l.contents e (omega arith))) (omega arith)

      no_end : owner T j ≡ owner T e → is end (kind T j) ≡ true → ⊥
      no_end p q =
          let z : j ≡ end_of T (owner T e) = rw p at (end_last T l.contents l.bodies j (omega arith) (is_true end (kind T j) q)) in
          let w : suc j < T.first (owner T e) + T.count (owner T e) = rw o at (owner_end T l.contents (suc j) b) in
          omega (arith, after_end T l.contents (owner T e) (rw o at (owner_below_lem T l.contents (suc j) b)))

      at : e ≤ j → owner T j ≡ owner T e → number_of T j < number_of T d → (s t : Bool) → is end (kind T j) ≡ s → is fork (kind T j) ≡ t → Around T e (suc j) d
      at g p r true t q k = absurd (no_end p q)
      at g p r false true q k = record { action = j; from = g; before = omega arith; forks = is_true fork (kind T j) k; same = p; above = r; under = up }
      at g p r false false q k = absurd (omega (arith, number_step T l j (omega arith) q k))

      later : Around T e j d → Around T e (suc j) d
      later y = record { action = y.action; from = y.from; before = omega (arith, y.before); forks = y.forks; same = y.same; above = y.above; under = y.under }

      by : e ≤ j → (owner T j ≡ owner T e → number_of T d < number_of T j → Around T e j d) → Dec (number_of T d < number_of T j) → Dec (number_of T d ≡ number_of T j) → Around T e (suc j) d
      by g ih (yes r) q = later (ih (here g) r)
      by g ih (no r) (yes q) = absurd (n (rw (number_once T l d j i (omega arith) q) (here g)))
      by g ih (no r) (no q) = at g (here g) (omega (arith, q)) (is end (kind T j)) (is fork (kind T j)) refl refl

      go : Dec (j < e) → (e ≤ j → j < T.actions → owner T j ≡ owner T e → number_of T d < number_of T j → Around T e j d) → Around T e (suc j) d
      go (yes g) ih =
          let z : e ≡ suc j = omega arith in
          absurd (omega (arith, rw z at low))
      go (no g) ih = by (omega arith) (ih (omega arith) (omega arith)) (dec_lt (number_of T d) (number_of T j)) (ℕ_discrete (number_of T d) (number_of T j))

-- ---- in a sound state

module _ (T : Table) (l : Lawful T) (p K : ℕ) (st : State) (f : Facts T p K st) where
  -- what a done join names has ended
  pub joined_ended : (j : ℕ) → j < T.actions → kind T j ≡ join → Done T st j → status_of st (T.argument j) ≡ ended
  joined_ended j h k d =
      done_ended T l p K st f (T.argument j) (join_below T l.contents l.bodies j h k) (f.ordered j (end_of T (T.argument j)) h d (join_depends T j k))

  -- a child's join is in the thread that forks it
  join_owner : (j z : ℕ) → j < T.actions → kind T j ≡ join → z < T.actions → kind T z ≡ fork → T.argument j ≡ T.argument z → owner T j ≡ owner T z
  join_owner j z h k i q e = go (open_forked T l.contents l.bodies l.nesting j (T.argument z) h there)
    where
      there : Memᴰ (T.argument z) (open_before T j)
      there = rw (open_join T l.contents l.bodies l.nesting j h k) (mathlib.Core.List.Memᴰ.head (sym e))

      go : (y : ℕ) × (y < j) × (kind T y ≡ fork) × (T.argument y ≡ T.argument z) × (owner T y ≡ owner T j) → owner T j ≡ owner T z
      go (y, a, r, s, o) =
          let same : y ≡ z = fork_once T l.contents l.bodies l.nesting y z (omega arith) i r q s in
          sym (rw same at o)

  -- the children of an ended thread have ended
  child_ended : (z : ℕ) → z < T.actions → kind T z ≡ fork → status_of st (owner T z) ≡ ended → status_of st (T.argument z) ≡ ended
  child_ended z h k e =
      let c : ℕ = T.argument z in
      let (j, i, q, r, o) = join_exists T l.contents l.bodies l.nesting l.forking c (omega (arith, fork_above T l.contents l.bodies z h k)) (fork_below_lem T l.contents l.bodies z h k) in
      rw r at (joined_ended j i q (ended_all T l p K st f j i (rw (join_owner j z i q h k r) e)))

  -- the fork of a thread that is not the root
  forked_at : (d : ℕ) → d < T.actions → 0 < owner T d
      → (z : ℕ) × (z < T.actions) × (kind T z ≡ fork) × (T.argument z ≡ owner T d) × (fork_below T T.actions (owner T d) ≡ z) × (number_of T z < number_of T d) × (number_of T d < number_of T (suc z))
  forked_at d i pos =
      let (z, s, q, r) = fork_exists T l.contents l.bodies l.nesting l.forking (owner T d) pos (owner_below_lem T l.contents d i) in
      let (u, v) = in_fork T l z d s q i (sym r) in
      (z, s, q, r, rw r at (fork_found T l.contents l.bodies l.nesting z s q), u, v)

  -- all that lies around the fork of an ended thread belongs to ended threads
  pub around_ended : (y : ℕ) → y < T.actions → kind T y ≡ fork → status_of st (T.argument y) ≡ ended
      → (fuel d : ℕ) → number_of T d ≤ fuel → d < T.actions → number_of T y < number_of T d → number_of T d < number_of T (suc y) → status_of st (owner T d) ≡ ended
  around_ended y h k e zero d b i low high = absurd (omega arith)
  around_ended y h k e (suc fuel) d b i low high = go (around_ended y h k e fuel) (number_between T l y d h k i low high)
    where
      go : ((z : ℕ) → number_of T z ≤ fuel → z < T.actions → number_of T y < number_of T z → number_of T z < number_of T (suc y) → status_of st (owner T z) ≡ ended)
          → (owner T d ≡ T.argument y)
          ⊎ ((0 < owner T d) × (number_of T y < number_of T (fork_below T T.actions (owner T d))) × (number_of T (fork_below T T.actions (owner T d)) < number_of T (suc y)))
          → status_of st (owner T d) ≡ ended
      go ih (inl o) = rw o e
      go ih (inr (pos, above, below)) =
          let (z, s, q, r, w, u, v) = forked_at d i pos in
          rw r at (child_ended z s q (ih z (omega arith) s (rw w at above) (rw w at below)))

  -- of a thread t that has not ended: what lies beyond its next action and around its fork belongs to t or to unborn threads
  module _ (t x : ℕ) (within : x < T.actions) (forks : kind T x ≡ fork) (child : T.argument x ≡ t) (alive : status_of st t ≡ ended → ⊥) where
    below : t < T.threads
    below = rw child at (fork_below_lem T l.contents l.bodies x within forks)

    own : owner T (next_of st t) ≡ t
    own = owner_of_next T l p K st f t below

    inside : next_of st t < T.actions
    inside = next_below T l p K st f t below

    lower : number_of T x < number_of T (next_of st t)
    lower = (in_fork T l x (next_of st t) within forks inside (own ∙ sym child)).0

    -- a fork of t that is done has all around it before t's next action
    forked_here : (z d : ℕ) → z < T.actions → kind T z ≡ fork → owner T z ≡ t → number_of T (next_of st t) < number_of T d → number_of T d < number_of T (suc z) → status_of st (T.argument z) ≡ unborn
    forked_here z d s q o low high = go (dec_lt z (next_of st t))
      where
        go : Dec (z < next_of st t) → status_of st (T.argument z) ≡ unborn
        go (yes g) =
            absurd (omega (arith, number_along T l (suc z) (next_of st t) (omega arith) inside (next_owner T l.contents l.bodies z s (fork_no_end q) ∙ o ∙ sym own)))
        go (no g) = undone_unborn T l p K st f z s q (undone T st z (rw o (omega arith)) (rw o alive))

    -- t is in no thread forked by its own descendants
    not_around : (z d : ℕ) → z < T.actions → kind T z ≡ fork → T.argument z ≡ owner T d → (owner T d ≡ t → ⊥) → number_of T x < number_of T z
        → number_of T z < number_of T (next_of st t) → number_of T (next_of st t) < number_of T (suc z) → ⊥
    not_around z d s q r n up low high = go (number_between T l z (next_of st t) s q inside low high)
      where
        found : fork_below T T.actions (owner T (next_of st t)) ≡ x
        found = rw (own, ← child) (fork_found T l.contents l.bodies l.nesting x within forks)

        go : (owner T (next_of st t) ≡ T.argument z)
            ⊎ ((0 < owner T (next_of st t)) × (number_of T z < number_of T (fork_below T T.actions (owner T (next_of st t)))) × (number_of T (fork_below T T.actions (owner T (next_of st t))) < number_of T (suc z)))
            → ⊥
        go (inl o) = n (cc (o, r, own))
        go (inr (pos, u, v)) = omega (arith, rw found at u)

    beyond_unborn : (fuel d : ℕ) → number_of T d ≤ fuel → d < T.actions → number_of T (next_of st t) < number_of T d → number_of T d < number_of T (suc x) → (owner T d ≡ t → ⊥)
        → status_of st (owner T d) ≡ unborn
    beyond_unborn zero d b i low high n = absurd (omega arith)
    beyond_unborn (suc fuel) d b i low high n = go (beyond_unborn fuel) (number_between T l x d within forks i (omega (arith, lower)) high)
      where
        at : ((z : ℕ) → number_of T z ≤ fuel → z < T.actions → number_of T (next_of st t) < number_of T z → number_of T z < number_of T (suc x) → (owner T z ≡ t → ⊥) → status_of st (owner T z) ≡ unborn)
            → (z : ℕ) → z < T.actions → kind T z ≡ fork → T.argument z ≡ owner T d → number_of T z < number_of T d → number_of T d < number_of T (suc z)
            → number_of T x < number_of T z → number_of T z < number_of T (suc x) → Dec (owner T z ≡ t) → Dec (number_of T (next_of st t) < number_of T z) → Dec (number_of T z ≡ number_of T (next_of st t))
            → status_of st (T.argument z) ≡ unborn
        at ih z s q r u v up to (yes o) g e = forked_here z d s q o low v
        at ih z s q r u v up to (no o) (yes g) e = undone_unborn T l p K st f z s q (unborn_undone T l p K st f z s (ih z (omega arith) s g to o))
        at ih z s q r u v up to (no o) (no g) (yes e) = absurd (o (rw (number_once T l z (next_of st t) s inside e) own))
        at ih z s q r u v up to (no o) (no g) (no e) = absurd (not_around z d s q r n up (omega (arith, e)) (omega arith))

        go : ((z : ℕ) → number_of T z ≤ fuel → z < T.actions → number_of T (next_of st t) < number_of T z → number_of T z < number_of T (suc x) → (owner T z ≡ t → ⊥) → status_of st (owner T z) ≡ unborn)
            → (owner T d ≡ T.argument x)
            ⊎ ((0 < owner T d) × (number_of T x < number_of T (fork_below T T.actions (owner T d))) × (number_of T (fork_below T T.actions (owner T d)) < number_of T (suc x)))
            → status_of st (owner T d) ≡ unborn
        go ih (inl o) = absurd (n (o ∙ child))
        go ih (inr (pos, above, to)) =
            let (z, s, q, r, w, u, v) = forked_at d i pos in
            rw r at (at ih z s q r u v (rw w at above) (rw w at to) (ℕ_discrete (owner T z) t) (dec_lt (number_of T (next_of st t)) (number_of T z)) (ℕ_discrete (number_of T z) (number_of T (next_of st t))))

  -- ---- a waiting thread

  module _ (u : ℕ) (waiter : u < T.threads) (waits : status_of st u ≡ waiting) where
    joins : kind T (next_of st u) ≡ join
    joins = f.wait_join u waiter waits

    open_child : status_of st (awaited T st u) ≡ ended → ⊥
    open_child = f.wait_open u waiter waits

    at_join : next_of st u < T.actions
    at_join = next_below T l p K st f u waiter

    of_waiter : owner T (next_of st u) ≡ u
    of_waiter = owner_of_next T l p K st f u waiter

    -- where it forked the child
    forks_child : ForksChild T u (next_of st u) (awaited T st u)
    forks_child =
        let m : Memᴰ (awaited T st u) (open_before T (next_of st u)) = rw (open_join T l.contents l.bodies l.nesting (next_of st u) at_join joins) (mathlib.Core.List.Memᴰ.head refl) in
        let (x, i, k, e, o) = open_forked T l.contents l.bodies l.nesting (next_of st u) (awaited T st u) at_join m in
        record { action = x; before = i; forks = k; names = e; owned = o ∙ of_waiter }

    -- the children that it forked since have ended
    since_ended : (x : ForksChild T u (next_of st u) (awaited T st u)) (y : ℕ) → x.action < y → y < next_of st u → kind T y ≡ fork → owner T y ≡ u → status_of st (T.argument y) ≡ ended
    since_ended x y low high q r = go (ℕ_discrete (status_of st (T.argument y)) ended)
      where
        latest : Latest T u (next_of st u) (awaited T st u)
        latest = ((nested_exactly T l.contents l.bodies).0 (l.nesting, l.forking)).1.joins u (awaited T st u) (next_of st u) (record { within = in_body T l.contents u (next_of st u) at_join of_waiter; of_kind_lem = joins; named = refl })

        done_join : (i : ℕ) → Names T join u (T.argument y) i → i < next_of st u → status_of st (T.argument y) ≡ ended
        done_join i n h =
            let b : i < T.actions = omega (arith, at_join) in
            let w : owner T i ≡ u = body_owner T l.contents u i n.within in
            rw n.named at (joined_ended i b n.of_kind_lem (done_low T st i (rw w h)))

        go : Dec (status_of st (T.argument y) ≡ ended) → status_of st (T.argument y) ≡ ended
        go (yes g) = g
        go (no g) =
            let b : y < T.actions = omega (arith, at_join) in
            let open_still : Unjoined T u (next_of st u) (T.argument y) y =
            record { forked = record { within = in_body T l.contents u y b r; of_kind_lem = q; named = refl }; before = high; not_yet = λ i n h. g (done_join i n h) } in
            let v = latest.unjoined.forked in
            let same : latest.action ≡ x.action =
            fork_once T l.contents l.bodies l.nesting latest.action x.action (omega (arith, latest.unjoined.before, at_join)) (omega (arith, x.before, at_join)) v.of_kind_lem x.forks (v.named ∙ sym x.names) in
            absurd (omega (arith, latest.latest (T.argument y) y open_still))

    -- the child is listed, and left of it
    pub child_listed : Memᴰ (awaited T st u) st.list
    child_listed =
        let x : ℕ = forks_child.action in
        let i : x < next_of st u = forks_child.before in
        let k : kind T x ≡ fork = forks_child.forks in
        let e : T.argument x ≡ awaited T st u = forks_child.names in
        let o : owner T x ≡ u = forks_child.owned in
        let b : x < T.actions = omega (arith, at_join) in
        let found : fork_below T T.actions (awaited T st u) ≡ x = rw e at (fork_found T l.contents l.bodies l.nesting x b k) in
        let pos : 0 < awaited T st u = omega (arith, rw e at (fork_above T l.contents l.bodies x b k)) in
        let c : awaited T st u < T.threads = join_below T l.contents l.bodies (next_of st u) at_join joins in
        let d : Done T st x = done_low T st x (rw o i) in
        f.live_listed (awaited T st u) c (λ z. no_way (cc (f.unborn_fork (awaited T st u) pos c z, found, d))) open_child

    pub child_left : number_of T (next_of st (awaited T st u)) < number_of T (next_of st u)
    child_left =
        let x : ℕ = forks_child.action in
        let i : x < next_of st u = forks_child.before in
        let k : kind T x ≡ fork = forks_child.forks in
        let e : T.argument x ≡ awaited T st u = forks_child.names in
        let o : owner T x ≡ u = forks_child.owned in
        let b : x < T.actions = omega (arith, at_join) in
        let c : awaited T st u < T.threads = join_below T l.contents l.bodies (next_of st u) at_join joins in
        let (low, high) = in_fork T l x (next_of st (awaited T st u)) b k (next_below T l p K st f (awaited T st u) c) (owner_of_next T l p K st f (awaited T st u) c ∙ sym e) in
        omega (arith, number_along T l (suc x) (next_of st u) (omega arith) at_join (next_owner T l.contents l.bodies x b (fork_no_end k) ∙ o ∙ sym of_waiter))

    -- and nothing listed stands between the two
    pub none_between : (v : ℕ) → Memᴰ v st.list → number_of T (next_of st (awaited T st u)) < number_of T (next_of st v) → number_of T (next_of st v) < number_of T (next_of st u) → ⊥
    none_between v m low high = go (dec_lt (number_of T d) (number_of T (suc x)))
      where
        x : ℕ
        x = forks_child.action

        b : x < T.actions
        b = omega (arith, forks_child.before, at_join)

        d : ℕ
        d = next_of st v

        below_v : v < T.threads
        below_v = f.list_below v m

        i : d < T.actions
        i = next_below T l p K st f v below_v

        of_v : owner T d ≡ v
        of_v = owner_of_next T l p K st f v below_v

        other : (w : ℕ) → (number_of T (next_of st v) ≡ number_of T (next_of st w) → ⊥) → owner T d ≡ w → ⊥
        other w n e = let q : v ≡ w = cc (of_v) in n (rw q)

        after : owner T (suc x) ≡ u
        after = next_owner T l.contents l.bodies x b (fork_no_end forks_child.forks) ∙ forks_child.owned

        go : Dec (number_of T d < number_of T (suc x)) → ⊥
        go (yes h) =
            f.list_born v m (rw of_v at (beyond_unborn (awaited T st u) x b forks_child.forks forks_child.names open_child (number_of T d) d (omega arith) i low h (other (awaited T st u) (λ e. omega arith))))
        go (no h) =
            let y : Around T (suc x) (next_of st u) d =
            around T l (suc x) d i (omega arith) (λ e. other u (λ z. omega arith) (e ∙ after)) (next_of st u) (omega (arith, forks_child.before)) at_join (of_waiter ∙ sym after) high in
            let c : y.action < T.actions = omega (arith, y.before, at_join) in
            let gone : status_of st (T.argument y.action) ≡ ended = since_ended forks_child y.action (omega (arith, y.from)) y.before y.forks (y.same ∙ after) in
            f.list_unended v m (rw of_v at (around_ended y.action c y.forks gone (number_of T d) d (omega arith) i y.above y.under))
