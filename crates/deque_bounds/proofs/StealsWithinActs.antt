-- An action keeps the count of the limit by leaps, whatever the worker's age is afterwards.
use mathlib.Core.Path.{◌≡◌, refl, sym, ap, subst, ◌∙◌}
use Prim.Native.Nat.{ℕ, suc, ◌+◌, ◌*◌, ◌≤◌, ◌<◌}
use mathlib.Core.List.Memᴰ
use mathlib.Core.List.{List, [], ◌∷◌, ◌++◌, Memᴰ}
use mathlib.Core.Bool.{Bool, true, false}
use mathlib.Core.Logic.{◌⊎◌, inl, inr}
use native.Mathlib.Omega.{arith}
use native.Mathlib.Decide.{ℕ_discrete}
use lib.Dec.{eqb}
use borrow.Author.Tests.{eqb-false, lt-ltb}
use Rattle.table.specs.Format.{is, Table, kind}
use Rattle.table.specs.declared.kinds.Kind.TheVariants.{End as end, Fork as fork, Join as join}
use Rattle.table.specs.Checks.{owner, end_of}
use Rattle.table.specs.Nested.{nest}
use Rattle.table.proofs.Tests.{no_way}
use Rattle.table.proofs.Bodies.{fork_above, fork_below_lem, next_owner, next_within, end_last}
use Rattle.table.proofs.NestedThreads.{nest_child}
use Rattle.schedule.specs.declared.Worker.{Worker}
use Rattle.schedule.specs.Machine.{State, waiting, ended, next_of, status_of, worker_of}
use Rattle.order.specs.Order.{number_of}
use Rattle.schedule.specs.Sound.{is_done}
use Rattle.order.proofs.Lawful.{Lawful}
use Rattle.order.proofs.Numbers.{number_child, number_rises}
use Rattle.schedule.proofs.Sound.Facts.{Facts}
use Rattle.schedule.proofs.Sound.Done.{undone_unborn, unborn_first, next_below, owner_of_next}
use Rattle.schedule.proofs.Preservation.Releases.{Acting, acting}
use Rattle.schedule.proofs.Linked.Waiting.{awaited}
use Rattle.deques.specs.Deques.{Deque, deque, bottom, Deques, over}
use Rattle.deques.specs.Partition.{owned_by}
use Rattle.deques.specs.Lines.{line, lines_of}
use Rattle.deques.proofs.DequeTurns.{Kept, with_serial, serial_facts}
use Rattle.deques.proofs.Flat.{lines_append}
use Rattle.deque_bounds.proofs.Lines.{Live, Parted, Chained, Moved}
use Rattle.deque_bounds.proofs.LineMoves.{some_child}
use Rattle.deque_bounds.proofs.Between.{join_forks}
use Rattle.deque_bounds.proofs.ActionLeaves.{ActionLeaves, stays, forks, pops, drops, leaves, wakes, stops}
use Rattle.deque_bounds.proofs.SerialLines.{held_by, AllLines, SerialLines}
use Rattle.deques.proofs.Standing.{standing}
use Rattle.deque_bounds.proofs.SerialLinesActs as Acts
use Rattle.deque_bounds.proofs.SerialLinesActs.{wait_empty, wake_empty}
use Rattle.deque_bounds.proofs.StealsWithin.{Able, ThreadWithin, LineWithin, slack_of, LinesWithin, lines_within_append, lines_within_split, lines_within_head, lines_within_cons, line_within_top, top_line_within, parent_last}
use Rattle.deque_bounds.proofs.Lines.{line_nest}
use Rattle.table.specs.Level.{level, depends_on}
use Rattle.table.proofs.Tests.{is_true, same_is}
use Rattle.table.proofs.Bodies.{join_below, end_within, owner_of_end, end_kind}
use Rattle.table.proofs.Levels.{level_child}
use Rattle.order.proofs.Depth.{level_depends, level_along}
use Rattle.order.proofs.Joins.{join_depends}
use Rattle.order.proofs.Numbers.{number_depends}
use Rattle.schedule.proofs.Sound.Done.{done_ended, ended_all}
use native.Mathlib.Nat.{mul-suc, mul-le-mul_left}
use Rattle.deques.proofs.Bottoms.{bottom_top}

pub thread_within_is : (T : Table) (B leaps : ℕ) (J : ℕ → ℕ) (st : State) (last slack t : ℕ) → ThreadWithin T B leaps J st last slack t
    → Able T st t → J (next_of st t) + B + B + 1 ≤ B * level T (next_of st t) + nest T last + leaps + slack
unfolding ThreadWithin
thread_within_is T B leaps J st last slack t h = h

pub is_thread_within : (T : Table) (B leaps : ℕ) (J : ℕ → ℕ) (st : State) (last slack t : ℕ)
    → (Able T st t → J (next_of st t) + B + B + 1 ≤ B * level T (next_of st t) + nest T last + leaps + slack) → ThreadWithin T B leaps J st last slack t
unfolding ThreadWithin
is_thread_within T B leaps J st last slack t h = h

able_of : (T : Table) (st : State) (t : ℕ) → (kind T (next_of st t) ≡ join → status_of st (T.argument (next_of st t)) ≡ ended) → Able T st t
unfolding Able
able_of T st t h = h

bottom_one : (t : ℕ) → bottom (t ∷ []) ≡ t
unfolding bottom
bottom_one t = refl

module _ (T : Table) (l : Lawful T) (p K : ℕ) (few : p ≤ 16) (w : ℕ) (below : w < p) (far : ℕ) (J : ℕ → ℕ) (st : State) (front : List Deque) (k : List ℕ) (rest : List Deque)
    (clear : owned_by w front ≡ 0) (alone : owned_by w rest ≡ 0) (I : SerialLines T p K far J (over st (front ++ deque w k ∷ rest))) (h : (worker_of st w).holds ≡ true)
    (B leaps : ℕ) (old new : ℕ → ℕ) (agree : (v : ℕ) → (v ≡ w → ⊥) → new v ≡ old v) (most : old w ≤ B)
    (W : LinesWithin T B leaps J old st (front ++ deque w k ∷ rest)) where
  abbrev t : ℕ
  t = (worker_of st w).thread

  abbrev a : ℕ
  a = next_of st t

  abbrev q : ℕ
  q = (worker_of st w).quota

  abbrev ds : List Deque
  ds = front ++ deque w k ∷ rest

  abbrev last : ℕ
  last = bottom (t ∷ k)

  f : Facts T p K (with_serial T l st)
  f = serial_facts T l p K st I.kept.common

  w16 : w < 16
  w16 = omega (arith, few, below)

  X : Acting T w t a (with_serial T l st)
  X = acting T l p K w t a (with_serial T l st) f w16 h refl refl

  alive : Live st t
  alive = ((λ e. omega (arith, X.taken, e)), (λ e. omega (arith, X.taken, e)))

  parts : LinesWithin T B leaps J old st front × LinesWithin T B leaps J old st (deque w k ∷ rest)
  parts = lines_within_split T B leaps J old st front (deque w k ∷ rest) W

  own_line : LineWithin T B leaps J st (old w) (t ∷ k) × LinesWithin T B leaps J old st rest
  own_line = rw (lt-ltb w 16 w16) at (lines_within_head T B leaps J old st (deque w k) rest parts.1)

  chain : Chained T J st 0 (t ∷ k)
  chain = (Acts.mine T l p K few w below far J st front k rest clear alone I h).0

  last_low : nest T last ≤ nest T t
  last_low = omega (arith, line_nest T l J st 0 t k chain)

  -- what t has
  credit : Able T st t → J a + B + B + 1 ≤ B * level T a + nest T last + leaps + B
  credit e = omega (arith, thread_within_is T B leaps J st last (old w) t (line_within_top T B leaps J old st (old w) t k own_line.0).0 e, most)

  -- it pays for an action of a higher level
  pays : (z : ℕ) → Able T st t → J z ≤ J a → suc (level T a) ≤ level T z → J z + B + B + 1 ≤ B * level T z + nest T last + leaps
  pays z e j u = omega (arith, credit e, j, mul-le-mul_left B u, mul-suc B (level T a))

  module _ (D : Deques) (c : Kept T p K D) (m : Moved T K w t a q st D.state) where
    abbrev s : State
    s = D.state

    g : Facts T p K (with_serial T l s)
    g = serial_facts T l p K s c.common

    ended_back : (u : ℕ) → u < T.threads → status_of s u ≡ ended → (status_of st u ≡ ended) ⊎ ((u ≡ t) × (kind T a ≡ end))
    ended_back u i e = go (ℕ_discrete (end_of T u) a)
      where
        done : is_done T s (end_of T u) ≡ true
        done = ended_all T l p K (with_serial T l s) g (end_of T u) (end_within T l.contents u i) (rw (owner_of_end T l.contents u i) e)

        go : Dec (end_of T u ≡ a) → (status_of st u ≡ ended) ⊎ ((u ≡ t) × (kind T a ≡ end))
        go (yes r) = inr (sym (owner_of_end T l.contents u i) ∙ ap (owner T) r ∙ X.owned, sym (ap (kind T) r) ∙ end_kind T l.contents l.bodies u i)
        go (no r) = inl (done_ended T l p K (with_serial T l st) f u i (sym (m.done_others (end_of T u) r) ∙ done))

    Fresh : ℕ → Type 0
    Fresh y = (kind T a ≡ end) × (kind T (next_of st y) ≡ join) × (T.argument (next_of st y) ≡ t)

    able_back : (y : ℕ) → y < T.threads → (y ≡ t → ⊥) → Able T s y → Able T st y ⊎ Fresh y
    unfolding Able Fresh
    able_back y i n e = go (is join (kind T (next_of st y))) refl
      where
        same : next_of s y ≡ next_of st y
        same = m.next_others y n

        b : next_of st y < T.actions
        b = next_below T l p K (with_serial T l st) f y i

        at : kind T (next_of st y) ≡ join → (status_of st (T.argument (next_of st y)) ≡ ended) ⊎ ((T.argument (next_of st y) ≡ t) × (kind T a ≡ end))
            → (kind T (next_of st y) ≡ join → status_of st (T.argument (next_of st y)) ≡ ended) ⊎ ((kind T a ≡ end) × (kind T (next_of st y) ≡ join) × (T.argument (next_of st y) ≡ t))
        at j (inl r) = inl (λ z. r)
        at j (inr r) = inr (r.1, j, r.0)

        go : (r : Bool) → is join (kind T (next_of st y)) ≡ r
            → (kind T (next_of st y) ≡ join → status_of st (T.argument (next_of st y)) ≡ ended) ⊎ ((kind T a ≡ end) × (kind T (next_of st y) ≡ join) × (T.argument (next_of st y) ≡ t))
        go false r = inl (λ z. no_way (cc (same_is join (kind T (next_of st y)) z)))
        go true r =
            let j : kind T (next_of st y) ≡ join = is_true join (kind T (next_of st y)) r in
            let z : status_of s (T.argument (next_of st y)) ≡ ended = subst (λ (b : ℕ). kind T b ≡ join → status_of s (T.argument b) ≡ ended) same e j in
            at j (ended_back (T.argument (next_of st y)) (join_below T l.contents l.bodies (next_of st y) b j) z)

    -- a join of t, which has ended
    module _ (y : ℕ) (i : y < T.threads) (r : Fresh y) where
      b : next_of st y < T.actions
      b = next_below T l p K (with_serial T l st) f y i

      is_end : a ≡ end_of T t
      unfolding Fresh
      is_end = end_last T l.contents l.bodies a X.action r.0 ∙ ap (end_of T) X.owned

      depends : Memᴰ a (depends_on T (next_of st y))
      unfolding Fresh
      depends = subst (λ (z : ℕ). Memᴰ z (depends_on T (next_of st y))) (ap (end_of T) r.2 ∙ sym is_end) (join_depends T (next_of st y) r.1)

      higher : suc (level T a) ≤ level T (next_of st y)
      higher = omega (arith, level_depends T l.contents l.bodies l.nesting l.forking (next_of st y) a b depends)

      later : J (next_of st y) ≤ J a
      later = I.falls a (next_of st y) (omega (arith, (number_depends T l (next_of st y) a b depends).1))

      able_t : Able T st t
      unfolding Able Fresh
      able_t z = no_way (cc r.0)

      fresh_own : J (next_of st y) + B + B + 1 ≤ B * level T (next_of st y) + nest T last + leaps
      fresh_own = pays (next_of st y) able_t later higher

      -- parted from t: one less in nesting, and one less in J
      fresh_parted : suc (J (next_of st y)) ≤ J (end_of T t) → J (next_of st y) + B + B + 1 ≤ B * level T (next_of st y) + nest T y + leaps
      unfolding Fresh
      fresh_parted j =
          let (x, xi, xk, xn, xo) = join_forks T l p K (with_serial T l st) f (next_of st y) b r.1 in
          let xb : x < T.actions = omega (arith, xi, b) in
          let yo : owner T x ≡ y = xo ∙ owner_of_next T l p K (with_serial T l st) f y i in
          let n1 : nest T (T.argument x) ≡ suc (nest T (owner T x)) = nest_child T l.contents l.bodies l.nesting l.forking x xb xk in
          let n2 : nest T t ≡ suc (nest T y) = sym (ap (nest T) (xn ∙ r.2)) ∙ n1 ∙ ap (λ (z : ℕ). suc (nest T z)) yo in
          let j2 : suc (J (next_of st y)) ≤ J a = subst (λ (z : ℕ). suc (J (next_of st y)) ≤ J z) (sym is_end) j in
          omega (arith, credit able_t, j2, mul-le-mul_left B higher, mul-suc B (level T a), last_low, n2)

      -- in a line without t
      fresh_line : (L : List ℕ) → ((v : ℕ) → Memᴰ v L → v ≡ t → ⊥) → Memᴰ y L → Chained T J st 0 L
          → J (next_of st y) + B + B + 1 ≤ B * level T (next_of st y) + nest T (bottom L) + leaps
      unfolding Fresh
      fresh_line L n e ch =
          let (x, xi, xk, xn, xo) = join_forks T l p K (with_serial T l st) f (next_of st y) b r.1 in
          let xb : x < T.actions = omega (arith, xi, b) in
          let yo : owner T x ≡ y = xo ∙ owner_of_next T l p K (with_serial T l st) f y i in
          let t0 : 0 ≡ t → ⊥ = λ z. some_child T l x xb xk (xn ∙ r.2 ∙ sym z) in
          let (u, v) = parent_last T J st t x xb xk (xn ∙ r.2) alive 0 L t0 n (subst (λ (z : ℕ). Memᴰ z L) (sym yo) e) ch in
          let v2 : suc (J (next_of st y)) ≤ J (end_of T t) = subst (λ (z : ℕ). suc (J (next_of st z)) ≤ J (end_of T t)) yo v in
          subst (λ (z : ℕ). J (next_of st y) + B + B + 1 ≤ B * level T (next_of st y) + nest T z + leaps) (sym (u ∙ yo)) (fresh_parted v2)

    -- a thread other than t
    thread_within_keeps : (y z slack : ℕ) → y < T.threads → (y ≡ t → ⊥) → (Fresh y → J (next_of st y) + B + B + 1 ≤ B * level T (next_of st y) + nest T z + leaps) → ThreadWithin T B leaps J st z slack y
        → ThreadWithin T B leaps J s z slack y
    thread_within_keeps y z slack i n fr o = is_thread_within T B leaps J s z slack y (λ e. go (able_back y i n e))
      where
        same : next_of s y ≡ next_of st y
        same = m.next_others y n

        go : Able T st y ⊎ Fresh y → J (next_of s y) + B + B + 1 ≤ B * level T (next_of s y) + nest T z + leaps + slack
        go (inl e) = rw same (thread_within_is T B leaps J st z slack y o e)
        go (inr e) = rw same (omega (arith, fr e))

    line_keeps : (slack : ℕ) (L : List ℕ) → ((v : ℕ) → Memᴰ v L → v ≡ t → ⊥) → ((v : ℕ) → Memᴰ v L → v < T.threads) → Chained T J st 0 L → LineWithin T B leaps J st slack L
        → LineWithin T B leaps J s slack L
    unfolding LineWithin
    line_keeps slack [] n i ch o = tt
    line_keeps slack (z ∷ L) n i ch o = (
      thread_within_keeps z (bottom (z ∷ L)) slack (i z (Memᴰ.head refl)) (n z (Memᴰ.head refl)) (λ r. fresh_line z (i z (Memᴰ.head refl)) r (z ∷ L) n (Memᴰ.head refl) ch) o.0,
      (λ y e. thread_within_keeps y (bottom (z ∷ L)) 0 (i y (Memᴰ.tail e)) (n y (Memᴰ.tail e)) (λ r. fresh_line y (i y (Memᴰ.tail e)) r (z ∷ L) n (Memᴰ.tail e) ch) (o.1 y e)),
    )

    all_keeps : (E : List Deque) → owned_by w E ≡ 0 → ((v : ℕ) → Memᴰ v (lines_of (held_by st) E) → v ≡ t → ⊥) → ((v : ℕ) → Memᴰ v (lines_of (held_by st) E) → v < T.threads)
        → AllLines T far J st E → LinesWithin T B leaps J old st E → LinesWithin T B leaps J new s E
    unfolding LinesWithin AllLines owned_by lines_of
    all_keeps [] e n i ls o = tt
    all_keeps (d ∷ E) e n i ls o = go (eqb d.owner w) refl (all_keeps E)
      where
        other : eqb d.owner w ≡ false → held_by s d.owner ≡ held_by st d.owner
        other r = ap (λ (z : Worker). z.thread) (m.worker_others d.owner (eqb-false d.owner w r))

        go : (r : Bool) → eqb d.owner w ≡ r
            → (owned_by w E ≡ 0 → ((v : ℕ) → Memᴰ v (lines_of (held_by st) E) → v ≡ t → ⊥) → ((v : ℕ) → Memᴰ v (lines_of (held_by st) E) → v < T.threads)
            → AllLines T far J st E → LinesWithin T B leaps J old st E → LinesWithin T B leaps J new s E)
            → LineWithin T B leaps J s (slack_of B new d) (line (held_by s) d) × LinesWithin T B leaps J new s E
        go true r ih = absurd (let z : 1 + owned_by w E ≡ 0 = rw r at e in omega (arith, z))
        go false r ih =
            let z1 : held_by s d.owner ≡ held_by st d.owner = other r in
            let z2 : new d.owner ≡ old d.owner = agree d.owner (eqb-false d.owner w r) in (
              rw (z1, z2)
                  (line_keeps (slack_of B old d) (line (held_by st) d) (λ v j. n v (Memᴰ.append_left (lines_of (held_by st) E) j)) (λ v j. i v (Memᴰ.append_left (lines_of (held_by st) E) j)) ls.0 o.0),
              ih (let y : 0 + owned_by w E ≡ 0 = rw r at e in omega (arith, y)) (λ v j. n v (Memᴰ.append_right (line (held_by st) d) j)) (λ v j. i v (Memᴰ.append_right (line (held_by st) d) j)) ls.2 o.1,
            )

    lines_low : (v : ℕ) → Memᴰ v (lines_of (held_by st) ds) → v < T.threads
    lines_low v e = (standing T l p K (over st ds) I.kept v e).0

    lines_split : lines_of (held_by st) ds ≡ lines_of (held_by st) front ++ (line (held_by st) (deque w k) ++ lines_of (held_by st) rest)
    unfolding lines_of
    lines_split = lines_append (held_by st) front (deque w k ∷ rest)

    front_keeps : LinesWithin T B leaps J new s front
    front_keeps =
        all_keeps front clear (Acts.apart_front T l p K few w below far J st front k rest clear alone I h)
        (λ v e. lines_low v (subst (λ (z : List ℕ). Memᴰ v z) (sym lines_split) (Memᴰ.append_left (line (held_by st) (deque w k) ++ lines_of (held_by st) rest) e)))
        (Acts.parts T l p K few w below far J st front k rest clear alone I h).0 parts.0

    rest_keeps : LinesWithin T B leaps J new s rest
    rest_keeps =
        all_keeps rest alone (Acts.apart_rest T l p K few w below far J st front k rest clear alone I h)
        (λ v e. lines_low v (subst (λ (z : List ℕ). Memᴰ v z) (sym lines_split) (Memᴰ.append_right (lines_of (held_by st) front) (Memᴰ.append_right (line (held_by st) (deque w k)) e))))
        (Acts.mine T l p K few w below far J st front k rest clear alone I h).2 own_line.1

    k_low : (y : ℕ) → Memᴰ y k → y < T.threads
    k_low y e = lines_low y (subst (λ (z : List ℕ). Memᴰ y z) (sym (Acts.lines_are T l p K few w below far J st front k rest clear alone I h)) (Memᴰ.append_right (lines_of (held_by st) front) (Memᴰ.tail (Memᴰ.append_left (lines_of (held_by st) rest) e))))

    -- the threads below t
    under_keeps : (y : ℕ) → Memᴰ y k → ThreadWithin T B leaps J s last 0 y
    under_keeps y e =
        thread_within_keeps y last 0 (k_low y e) (Acts.apart_k T l p K few w below far J st front k rest clear alone I h y e) (λ r. fresh_own y (k_low y e) r)
        ((line_within_top T B leaps J old st (old w) t k own_line.0).1 y e)

    -- ---- the cases

    put : (mid : Deque) (slack : ℕ) (L : List ℕ) → D.deques ≡ front ++ mid ∷ rest → slack_of B new mid ≡ slack → line (held_by s) mid ≡ L → LineWithin T B leaps J s slack L → LinesWithin T B leaps J new s D.deques
    put mid slack L e r i o =
        subst (LinesWithin T B leaps J new s) (sym e)
        (lines_within_append T B leaps J new s front (mid ∷ rest) front_keeps
        (lines_within_cons T B leaps J new s mid rest (subst (λ (z : ℕ). LineWithin T B leaps J s z (line (held_by s) mid)) (sym r) (subst (LineWithin T B leaps J s slack) (sym i) o)) rest_keeps))

    slack_w : (j : List ℕ) → slack_of B new (deque w j) ≡ new w
    slack_w j = rw (lt-ltb w 16 w16)

    -- t one action on
    on : next_of s t ≡ suc a → (kind T a ≡ end → ⊥) → is_done T s a ≡ true → (slack : ℕ) → ThreadWithin T B leaps J s last slack t
    on e n d slack =
        is_thread_within T B leaps J s last slack t
        (λ z. rw e (omega (arith, pays (suc a) able (I.falls a (suc a) (omega (arith, rise))) (omega (arith, up)))))
      where
        no_ends : is end (kind T a) ≡ false
        no_ends = go (is end (kind T a)) refl
          where
            go : (r : Bool) → is end (kind T a) ≡ r → r ≡ false
            go true r = absurd (n (is_true end (kind T a) r))
            go false r = refl

        inside : suc a < T.actions
        inside = next_within T l.contents l.bodies a X.action no_ends

        own : owner T a ≡ owner T (suc a)
        own = sym (next_owner T l.contents l.bodies a X.action no_ends)

        rise : number_of T a < number_of T (suc a)
        rise = number_rises T l a (suc a) (omega arith) inside own

        up : level T a + 1 ≤ level T (suc a)
        up = level_along T l.contents l.bodies l.nesting l.forking 1 a (suc a) (omega arith) inside own

        able : Able T st t
        able = able_of T st t joined
          where
            joined : kind T a ≡ join → status_of st (T.argument a) ≡ ended
            joined j =
                let cb : T.argument a < T.threads = join_below T l.contents l.bodies a X.action j in
                let r : is_done T s (end_of T (T.argument a)) ≡ true = g.ordered a (end_of T (T.argument a)) X.action d (join_depends T a j) in
                back cb (done_ended T l p K (with_serial T l s) g (T.argument a) cb r)
              where
                back : T.argument a < T.threads → status_of s (T.argument a) ≡ ended → status_of st (T.argument a) ≡ ended
                back cb r = at (ended_back (T.argument a) cb r)
                  where
                    at : (status_of st (T.argument a) ≡ ended) ⊎ ((T.argument a ≡ t) × (kind T a ≡ end)) → status_of st (T.argument a) ≡ ended
                    at (inl y) = y
                    at (inr y) = absurd (n y.1)

    thread_within_weaken : (z y slack : ℕ) → ThreadWithin T B leaps J s z 0 y → ThreadWithin T B leaps J s z slack y
    thread_within_weaken z y slack o = is_thread_within T B leaps J s z slack y (λ e. omega (arith, thread_within_is T B leaps J s z 0 y o e))

    owned_line : (t2 : ℕ) (j : List ℕ) → held_by s w ≡ t2 → line (held_by s) (deque w j) ≡ t2 ∷ j
    owned_line t2 j e = rw (lt-ltb w 16 w16) (ap (λ (z : ℕ). z ∷ j) e)

    at_stay : held_by s w ≡ t → is_done T s a ≡ true → D.deques ≡ front ++ deque w k ∷ rest → next_of s t ≡ suc a → LinesWithin T B leaps J new s D.deques
    at_stay e d z y =
        put (deque w k) (new w) (t ∷ k) z (slack_w k) (owned_line t k e) (top_line_within T B leaps J new s (new w) t k (on y no_ends d (new w)) under_keeps)
      where
        no_ends : kind T a ≡ end → ⊥
        no_ends n =
            let r : a ≡ end_of T t = end_last T l.contents l.bodies a X.action n ∙ ap (end_of T) X.owned in
            let h1 : next_of s t ≤ end_of T t = g.next_high t X.thread in
            omega (arith, r, h1, y)

    at_fork : kind T a ≡ fork → held_by s w ≡ T.argument a → next_of s t ≡ suc a → is_done T s a ≡ true → D.deques ≡ front ++ deque w (t ∷ k) ∷ rest → LinesWithin T B leaps J new s D.deques
    at_fork n e y d z =
        put (deque w (t ∷ k)) (new w) (x ∷ t ∷ k) z (slack_w (t ∷ k)) (owned_line x (t ∷ k) e)
        (top_line_within T B leaps J new s (new w) x (t ∷ k) (subst (λ (b : ℕ). ThreadWithin T B leaps J s b (new w) x) (sym (bottom_top x t k)) child)
        (λ u i. subst (λ (b : ℕ). ThreadWithin T B leaps J s b 0 u) (sym (bottom_top x t k)) (under u (Memᴰ.cases_cons i))))
      where
        x : ℕ
        x = T.argument a

        xb : x < T.threads
        xb = fork_below_lem T l.contents l.bodies a X.action n

        first : next_of s x ≡ T.first x
        first =
            m.next_others x (λ r. omega (arith, fork_above T l.contents l.bodies a X.action n, X.owned, r))
            ∙ unborn_first T l p K (with_serial T l st) f x xb (undone_unborn T l p K (with_serial T l st) f a X.action n X.undone)

        able : Able T st t
        able = able_of T st t (λ j. no_way cc)

        child : ThreadWithin T B leaps J s last (new w) x
        child =
            is_thread_within T B leaps J s last (new w) x
            (λ r. rw first
            (omega (
              arith,
              pays (T.first x) able (I.falls a (T.first x) (omega (arith, number_child T l a X.action n)))
                  (omega (arith, level_child T l.contents l.bodies l.nesting l.forking a X.action n)),
            )))

        under : (u : ℕ) → (u ≡ t) ⊎ Memᴰ u k → ThreadWithin T B leaps J s last 0 u
        under u (inl r) = subst (λ (b : ℕ). ThreadWithin T B leaps J s last 0 b) (sym r) (on y (λ b. no_way cc) d 0)
        under u (inr r) = under_keeps u r

    at_pop : (t2 : ℕ) (j : List ℕ) → k ≡ t2 ∷ j → held_by s w ≡ t2 → D.deques ≡ front ++ deque w j ∷ rest → LinesWithin T B leaps J new s D.deques
    at_pop t2 j e i z =
        put (deque w j) (new w) (t2 ∷ j) z (slack_w j) (owned_line t2 j i)
        (top_line_within T B leaps J new s (new w) t2 j (thread_within_weaken (bottom (t2 ∷ j)) t2 (new w) (thread_within t2 (Memᴰ.head refl))) (λ y r. thread_within y (Memᴰ.tail r)))
      where
        same : last ≡ bottom (t2 ∷ j)
        same = ap (λ (b : List ℕ). bottom (t ∷ b)) e ∙ bottom_top t t2 j

        thread_within : (y : ℕ) → Memᴰ y (t2 ∷ j) → ThreadWithin T B leaps J s (bottom (t2 ∷ j)) 0 y
        thread_within y r = subst (λ (b : ℕ). ThreadWithin T B leaps J s b 0 y) same (under_keeps y (subst (λ (b : List ℕ). Memᴰ y b) (sym e) r))

    at_leave : D.deques ≡ front ++ rest → LinesWithin T B leaps J new s D.deques
    at_leave e = subst (LinesWithin T B leaps J new s) (sym e) (lines_within_append T B leaps J new s front rest front_keeps rest_keeps)

    at_wake : (u : ℕ) → u < T.threads → status_of st u ≡ waiting → awaited T st u ≡ t → kind T a ≡ end → held_by s w ≡ u → D.deques ≡ front ++ deque w k ∷ rest → LinesWithin T B leaps J new s D.deques
    unfolding Fresh Parted
    at_wake u ub uw ua n i z =
        put (deque w k) (new w) (u ∷ []) z (slack_w k) (owned_line u k i ∙ ap (λ (b : List ℕ). u ∷ b) empty)
        (top_line_within T B leaps J new s (new w) u [] (subst (λ (b : ℕ). ThreadWithin T B leaps J s b (new w) u) (sym (bottom_one u)) woke) (λ y r. absurd (Memᴰ.not-nil r)))
      where
        empty : k ≡ []
        empty = wake_empty T l p K few w below far J st front k rest clear alone I h u ub uw ua

        same : next_of s u ≡ next_of st u
        same = m.next_others u (λ y. omega (arith, uw, X.taken, ap (status_of st) y))

        parted : suc (J (next_of st u)) ≤ J (end_of T t)
        parted =
            let (x, xi, xk, xn, xo) = join_forks T l p K (with_serial T l st) f (next_of st u) (next_below T l p K (with_serial T l st) f u ub) (f.wait_join u ub uw) in
            let xb : x < T.actions = omega (arith, xi, next_below T l p K (with_serial T l st) f u ub) in
            let r : suc (J (next_of st u)) ≤ J (end_of T (T.argument x)) =
            I.waiters u ub uw x xb xk (xo ∙ owner_of_next T l p K (with_serial T l st) f u ub) (subst (Live st) (sym (xn ∙ ua)) alive) (some_child T l x xb xk) in
            subst (λ (b : ℕ). suc (J (next_of st u)) ≤ J (end_of T b)) (xn ∙ ua) r

        woke : ThreadWithin T B leaps J s u (new w) u
        woke = is_thread_within T B leaps J s u (new w) u (λ e. rw same (omega (arith, fresh_parted u ub (n, f.wait_join u ub uw, ua) parted)))

    at_stop : next_of s t ≡ a → D.deques ≡ front ++ deque 16 (t ∷ k) ∷ rest → LinesWithin T B leaps J new s D.deques
    unfolding Able
    at_stop e z =
        put (deque 16 (t ∷ k)) B (t ∷ k) z refl refl
        (top_line_within T B leaps J new s B t k (is_thread_within T B leaps J s last B t (λ r. rw e (credit (λ j. back j (r (ap (kind T) e ∙ j)))))) under_keeps)
      where
        back : kind T a ≡ join → status_of s (T.argument (next_of s t)) ≡ ended → status_of st (T.argument a) ≡ ended
        back j r = at (ended_back (T.argument a) (join_below T l.contents l.bodies a X.action j) (ap (λ (b : ℕ). status_of s (T.argument b)) (sym e) ∙ r))
          where
            at : (status_of st (T.argument a) ≡ ended) ⊎ ((T.argument a ≡ t) × (kind T a ≡ end)) → status_of st (T.argument a) ≡ ended
            at (inl y) = y
            at (inr y) = no_way (cc y.1)

  pub act_lines_within : (D : Deques) → Kept T p K D → ActionLeaves T K w t a q st front k rest D → LinesWithin T B leaps J new D.state D.deques
  act_lines_within D c (stays m n e i d z y) = at_stay D c m e d z y
  act_lines_within D c (forks m n e i d z) = at_fork D c m n e i d z
  act_lines_within D c (pops t2 j e m n dead i d z) = at_pop D c m t2 j e i z
  act_lines_within D c (drops t2 j e n y) = no_way (cc (wait_empty T l p K few w below far J st front k rest clear alone I h n y))
  act_lines_within D c (leaves e m n i y z) = at_leave D c m z
  act_lines_within D c (wakes u ub uw ua m n dead i d z) = at_wake D c m u ub uw ua n i z
  act_lines_within D c (stops m n i e z) = at_stop D c m e z
