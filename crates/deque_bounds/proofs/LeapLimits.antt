-- Rows that keep the rule with b hold demand 3's limit, and K more for each leap.
use mathlib.Core.Path.{◌≡◌, refl, sym, ap, subst, ◌∙◌}
use Prim.Native.Nat.{ℕ, zero, suc, ◌+◌, ◌-◌, ◌*◌, ◌≤◌, ◌<◌}
use mathlib.Core.List.Memᴰ
use mathlib.Core.List.{List, [], ◌∷◌, ◌++◌, Memᴰ}
use mathlib.Core.Bool.{Bool, true, false}
use mathlib.Core.Logic.{◌⊎◌, inl, inr}
use native.Mathlib.Omega.{arith}
use native.Mathlib.Decide.{ℕ_discrete}
use lib.Dec.{ltb}
use borrow.Author.Tests.{eq-eqb, ltb-true}
use Rattle.table.specs.Sum.{pick}
use Rattle.table.specs.Format.{Table}
use Rattle.table.specs.Checks.{owner, end_of}
use Rattle.table.specs.Nested.{nest}
use Rattle.table.proofs.Tests.{no_way}
use Rattle.table.proofs.NestedThreads.{nest_child}
use Rattle.schedule.specs.Machine.{State, ended, next_of, status_of}
use Rattle.order.proofs.Lawful.{Lawful, Within}
use Rattle.schedule.proofs.Sound.Facts.{Facts}
use Rattle.schedule.proofs.Sound.Done.{next_below, owner_of_next}
use Rattle.deques.specs.Deques.{Deque, bottom, Deques}
use Rattle.deques.specs.Partition.{owns, owned_by}
use Rattle.deques.specs.Lines.{line}
use Rattle.deques.proofs.DequeTurns.{with_serial, serial_facts}
use Rattle.deque_bounds.proofs.Lines.{Chained}
use Rattle.deques.specs.DequeRuns.{Pair}
use Rattle.deques.specs.Deques.{start_deques}
use Rattle.deques.specs.DequeCalls.{row_deques}
use Rattle.deque_bounds.specs.DequeRows.{steals, far, leaps}
use Rattle.deque_bounds.proofs.SerialLines.{held_by, AllLines, SerialLines, all_front, all_head}
use Rattle.deques.proofs.Standing.{is_owner}
use Rattle.deque_bounds.proofs.SerialLinesTurns.{BelowAll, from_start, start_serial_lines}
use Rattle.deque_bounds.proofs.StealsWithin.{Able, ThreadWithin, LineWithin, slack_of, LinesWithin, lines_within_split, lines_within_head, line_within_top}
use Rattle.deque_bounds.proofs.StealsWithinActs.{thread_within_is}
use Rattle.deque_bounds.proofs.StealsWithinTurns.{StealsWithin, workers_of, row_steals_within, start_steals_within}
use Rattle.deque_bounds.proofs.DequeLimits.{Somewhere, somewhere, held_steals, held_at_end, unended_listed, nest_some}
use Rattle.deque_bounds.proofs.Lines.{link_nest}
use Rattle.table.specs.Level.{level, D}
use Rattle.table.specs.Serial.{S1}
use Rattle.table.proofs.Bodies.{owner_below_lem, owner_end, after_end, end_within, owner_of_end, end_kind}
use Rattle.table.proofs.Nesting.{open_join, open_forked}
use Rattle.table.proofs.NestedThreads.{nest_root}
use Rattle.schedule.specs.Memory.{Keeps, limit}
use Rattle.order.proofs.Lists.{Below}
use Rattle.order.proofs.Depth.{level_depends, level_along}
use Rattle.order.proofs.Joins.{join_depends, by_joins}
use Rattle.bounds.proofs.Ages.{age, age_small}
use Rattle.schedule.proofs.Bounds.Beyond.{Enabled}
use Rattle.schedule.proofs.Sound.Leftmost.{front_done, leftmost_undone, leftmost_enabled}
use mathlib.Core.List.{reverse_aux}
use native.Mathlib.Nat.{mul-suc, mul-zero, mul-one, one-mul, mul-le-mul_left, mul-le-mul_right, mul-add}
use Rattle.deques.proofs.Counts.{owned_append}
use Rattle.deque_bounds.proofs.StealsWithinTurns.{steals_within_same}
use Rattle.bounds.proofs.Bound.{quota_first}

-- ---- levels and nesting

module _ (T : Table) (l : Lawful T) where
  level_end : (a : ℕ) → a < T.actions → level T a ≤ level T (end_of T (owner T a))
  level_end a h =
      let t : ℕ = owner T a in
      let i : t < T.threads = owner_below_lem T l.contents a h in
      let e : a + (end_of T t - a) ≡ end_of T t = omega (arith, after_end T l.contents t i, owner_end T l.contents a h) in
      omega (arith, level_along T l.contents l.bodies l.nesting l.forking (end_of T t - a) a (end_of T t) e (end_within T l.contents t i) (sym (owner_of_end T l.contents t i)))

  -- each level of nesting costs two levels of depth
  pub level_nest : (t : ℕ) → t < T.threads → level T (end_of T t) + nest T t + nest T t ≤ D T + 2
  unfolding D
  level_nest =
      by_joins T l.contents l.bodies l.nesting l.forking (λ t. level T (end_of T t) + nest T t + nest T t ≤ level T (end_of T 0) + 2)
      (omega (arith, nest_root T l.contents l.bodies l.nesting l.forking l.some_thread))
      (λ j i k r.
      let u : ℕ = owner T j in
      let ub : u < T.threads = owner_below_lem T l.contents j i in
      let (x, xi, xk, xn, xo) = open_forked T l.contents l.bodies l.nesting j (T.argument j) i (rw (open_join T l.contents l.bodies l.nesting j i k) (Memᴰ.head refl)) in
      let n1 : nest T (T.argument x) ≡ suc (nest T (owner T x)) = nest_child T l.contents l.bodies l.nesting l.forking x (omega (arith, xi, i)) xk in
      let n2 : nest T (T.argument j) ≡ suc (nest T u) = sym (ap (nest T) xn) ∙ n1 ∙ ap (λ (z : ℕ). suc (nest T z)) xo in
      let not_end : j ≡ end_of T u → ⊥ = λ e. no_way (cc (end_kind T l.contents l.bodies u ub)) in
      let e : suc j + (end_of T u - suc j) ≡ end_of T u = omega (arith, after_end T l.contents u ub, owner_end T l.contents j i, not_end) in
      let e1 : j + suc (end_of T u - suc j) ≡ end_of T u = omega (arith, e) in
      let up : level T j + suc (end_of T u - suc j) ≤ level T (end_of T u) =
      level_along T l.contents l.bodies l.nesting l.forking (suc (end_of T u - suc j)) j (end_of T u) e1 (end_within T l.contents u ub) (sym (owner_of_end T l.contents u ub)) in
      omega (arith, r, n2, up, level_depends T l.contents l.bodies l.nesting l.forking j (end_of T (T.argument j)) i (join_depends T j k)))

  -- in a line the last thread has the lowest nesting
  last_lowest : (J : ℕ → ℕ) (st : State) (e t : ℕ) (L : List ℕ) → Chained T J st e L → Memᴰ t L → nest T (bottom L) ≤ nest T t
  unfolding Chained bottom
  last_lowest J st e t [] c m = absurd (Memᴰ.not-nil m)
  last_lowest J st e t (z ∷ []) c m = go (Memᴰ.cases_cons m)
    where
      go : (t ≡ z) ⊎ Memᴰ t [] → nest T z ≤ nest T t
      go (inl i) = rw i (omega arith)
      go (inr i) = absurd (Memᴰ.not-nil i)
  last_lowest J st e t (z ∷ y ∷ L) c m = go (Memᴰ.cases_cons m) (last_lowest J st z t (y ∷ L) c.2) (last_lowest J st z y (y ∷ L) c.2 (Memᴰ.head refl))
    where
      go : (t ≡ z) ⊎ Memᴰ t (y ∷ L) → (Memᴰ t (y ∷ L) → nest T (bottom (y ∷ L)) ≤ nest T t) → nest T (bottom (y ∷ L)) ≤ nest T y → nest T (bottom (y ∷ L)) ≤ nest T t
      go (inl i) ih r = rw i (omega (arith, r, link_nest T l J st z y c.0))
      go (inr i) ih r = ih i

-- the arithmetic: J + B + 1 ≤ B·v + n + lp, v + 2n ≤ d + 2, 1 ≤ n, 1 ≤ B
within_depth : (j B v n lp d : ℕ) → 1 ≤ B → 1 ≤ n → j + B + 1 ≤ B * v + n + lp → v + n + n ≤ d + 2 → j ≤ B * (d - 1) + lp
within_depth j B v zero lp d b i h k = absurd (omega (arith, i))
within_depth j B v (suc m) lp zero b i h k =
    let z : v ≡ 0 = omega (arith, k) in
    let y : B * v ≡ 0 = ap (λ (x : ℕ). B * x) z ∙ mul-zero B in
    omega (arith, h, y, k)
within_depth j B v (suc m) lp (suc d) b i h k =
    let e : suc d - 1 ≡ d = omega arith in
    let a : v + (m + m) ≤ suc d = omega (arith, k) in
    let c : B * (v + (m + m)) ≤ B * suc d = mul-le-mul_left B a in
    let f : B * (v + (m + m)) ≡ B * v + B * (m + m) = mul-add B v (m + m) in
    let g : m + m ≤ B * (m + m) = at_least B (m + m) b in
    rw e (omega (arith, h, c, f, g, mul-suc B d))
  where
    at_least : (B m : ℕ) → 1 ≤ B → m ≤ B * m
    at_least B m b = let z : 1 * m ≤ B * m = mul-le-mul_right m b in omega (arith, z, one-mul m)

owned_in : (front : List Deque) (d : Deque) (rest ds : List Deque) → ds ≡ front ++ d ∷ rest → (o : ℕ) → d.owner ≡ o → 1 ≤ owned_by o ds
unfolding owned_by
owned_in front d rest ds e o i =
    let z : owned_by o ds ≡ owned_by o front + (owns o d + owned_by o rest) = ap (owned_by o) e ∙ owned_append o front (d ∷ rest) in
    let y : owns o d ≡ 1 = rw (eq-eqb d.owner o i) in
    omega (arith, z, y)

-- ---- the limit

module _ (T : Table) (l : Lawful T) (p K : ℕ) (few : p ≤ 16) (B fa lp : ℕ) (J : ℕ → ℕ) (past : List ℕ) (E : Deques) (I : SerialLines T p K fa J E) (x : StealsWithin T B lp J past E)
    (young : (w : ℕ) → Memᴰ w past → age past w ≤ B) where
  abbrev st : State
  st = E.state

  -- the count at any thread of a line, with B for the slack
  line_thread_within : (front : List Deque) (d : Deque) (rest : List Deque) → E.deques ≡ front ++ d ∷ rest → (v : ℕ) → Memᴰ v (line (held_by st) d) → Able T st v
      → J (next_of st v) + B + 1 ≤ B * level T (next_of st v) + nest T v + lp
  line_thread_within front d rest whole v m able = go (line (held_by st) d) refl
    where
      lines_within : LineWithin T B lp J st (slack_of B (age past) d) (line (held_by st) d)
      lines_within = (lines_within_head T B lp J (age past) st d rest (lines_within_split T B lp J (age past) st front (d ∷ rest) (subst (LinesWithin T B lp J (age past) st) whole x.lines_within)).1).0

      chain : Chained T J st 0 (line (held_by st) d)
      chain = (all_head T fa J st d rest (all_front T fa J st front (d ∷ rest) (subst (AllLines T fa J st) whole I.lines)).1).0

      owned : (o : ℕ) → d.owner ≡ o → 1 ≤ owned_by o E.deques
      owned o e = owned_in front d rest E.deques whole o e

      small : slack_of B (age past) d ≤ B
      small = at (ltb d.owner 16) refl
        where
          at : (q : Bool) → ltb d.owner 16 ≡ q → pick q (age past d.owner) B ≤ B
          at true e = young d.owner (x.turned d.owner (ltb-true d.owner 16 e) (is_owner T l p K E I.kept d.owner (ltb-true d.owner 16 e) (owned d.owner refl)))
          at false e = omega arith

      go : (k : List ℕ) → line (held_by st) d ≡ k → J (next_of st v) + B + 1 ≤ B * level T (next_of st v) + nest T v + lp
      go [] e = absurd (Memᴰ.not-nil (subst (λ (b : List ℕ). Memᴰ v b) e m))
      go (t ∷ k) e = which (Memᴰ.cases_cons mem)
        where
          mem : Memᴰ v (t ∷ k)
          mem = subst (λ (b : List ℕ). Memᴰ v b) e m

          h2 : ThreadWithin T B lp J st (bottom (t ∷ k)) (slack_of B (age past) d) t × ((y : ℕ) → Memᴰ y k → ThreadWithin T B lp J st (bottom (t ∷ k)) 0 y)
          h2 = line_within_top T B lp J (age past) st (slack_of B (age past) d) t k (subst (LineWithin T B lp J st (slack_of B (age past) d)) e lines_within)

          low : nest T (bottom (t ∷ k)) ≤ nest T v
          low = last_lowest T l J st 0 v (t ∷ k) (subst (Chained T J st 0) e chain) mem

          which : (v ≡ t) ⊎ Memᴰ v k → J (next_of st v) + B + 1 ≤ B * level T (next_of st v) + nest T v + lp
          which (inl i) =
              let o : ThreadWithin T B lp J st (bottom (t ∷ k)) (slack_of B (age past) d) v = subst (λ (b : ℕ). ThreadWithin T B lp J st (bottom (t ∷ k)) (slack_of B (age past) d) b) (sym i) h2.0 in
              omega (arith, thread_within_is T B lp J st (bottom (t ∷ k)) (slack_of B (age past) d) v o able, small, low)
          which (inr i) = omega (arith, thread_within_is T B lp J st (bottom (t ∷ k)) 0 v (h2.1 v i) able, low)

  pub enabled_few : 1 ≤ B → (v : ℕ) → Enabled T (with_serial T l st) v → J (next_of st v) ≤ B * (D T - 1) + lp
  unfolding Able
  enabled_few b v e =
      let s : Somewhere (held_by st) v E.deques = somewhere T l p K fa J E I v e.below e.taken in
      let f : Facts T p K (with_serial T l st) = serial_facts T l p K st I.kept.common in
      let i : next_of st v < T.actions = next_below T l p K (with_serial T l st) f v e.below in
      let o : owner T (next_of st v) ≡ v = owner_of_next T l p K (with_serial T l st) f v e.below in
      let up : level T (next_of st v) ≤ level T (end_of T v) = subst (λ (z : ℕ). level T (next_of st v) ≤ level T (end_of T z)) o (level_end T l (next_of st v) i) in
      within_depth (J (next_of st v)) B (level T (next_of st v)) (nest T v) lp (D T) b (nest_some T l v e.below)
      (line_thread_within s.front s.deque s.rest s.whole v s.has e.joined) (omega (arith, up, level_nest T l v e.below))

module _ (T : Table) (l : Lawful T) (p K b : ℕ) (few : p ≤ 16) (small : Within T K) (two : 2 ≤ p) (some : 1 ≤ b) (row : List Pair) (h : BelowAll p row) (rule : Keeps b (workers_of row)) where
  abbrev after : Deques
  after = row_deques T K (start_deques T) row

  abbrev B : ℕ
  B = b * (p - 1)

  workers_below : (row : List Pair) → BelowAll p row → Below p (workers_of row)
  workers_below [] i w m = absurd (Memᴰ.not-nil m)
  workers_below (g ∷ row) i w m = go (Memᴰ.cases_cons m) (workers_below row (λ y n. i y (Memᴰ.tail n)) w)
    where
      go : (w ≡ g.worker) ⊎ Memᴰ w (workers_of row) → (Memᴰ w (workers_of row) → w < p) → w < p
      go (inl e) ih = rw e (i g (Memᴰ.head refl)).0
      go (inr e) ih = ih e

  young : (past rest : List ℕ) → reverse_aux past rest ≡ workers_of row → (w : ℕ) → Memᴰ w past → age past w ≤ B
  young = age_small b p (workers_of row) (workers_below row h) rule

  positive : 1 ≤ B
  positive = omega (arith, some, mul-le-mul_left b (let z : 1 ≤ p - 1 = omega (arith, two) in z), mul-one b)

  -- demand 3's limit, and K for each leap
  pub held_leaps : after.state.held ≤ S1 T + K * (B * (D T - 1) + leaps T K (start_deques T) row)
  held_leaps = go (ℕ_discrete (status_of after.state 0) ended)
    where
      I : SerialLines T p K (far T K (start_deques T) row) (steals T K (start_deques T) row) after
      I = from_start T l p K few row h

      g : Facts T p K (with_serial T l after.state)
      g = serial_facts T l p K after.state I.kept.common

      go : Dec (status_of after.state 0 ≡ ended) → after.state.held ≤ S1 T + K * (B * (D T - 1) + leaps T K (start_deques T) row)
      go (yes e) = omega (arith, held_at_end T l p K few small row h e)
      go (no e) =
          let s : State = with_serial T l after.state in
          let (t, others, r) = unended_listed T l p K s g e in
          let x : Enabled T s t = leftmost_enabled T l p K s g t others r in
          let v : ℕ = next_of after.state t in
          let i : v < T.actions = next_below T l p K s g t x.below in
          let a : after.state.held ≤ S1 T + K * steals T K (start_deques T) row v = held_steals T l p K few small row h v i (leftmost_undone T l p K s g t others r) (front_done T l p K s g t others r) in
          let (past, pe, w) = row_steals_within T l p K few B (workers_of row) young row h [] refl 0 0 (λ z. 0) (start_deques T) (start_serial_lines T l p K few) (start_steals_within T l p K few B (workers_of row) young) in
          let w' : StealsWithin T B (leaps T K (start_deques T) row) (steals T K (start_deques T) row) past after = same_steals_within past w in
          let c : steals T K (start_deques T) row v ≤ B * (D T - 1) + leaps T K (start_deques T) row =
          enabled_few T l p K few B (far T K (start_deques T) row) (leaps T K (start_deques T) row) (steals T K (start_deques T) row) past after I w' (young past [] pe) positive t x in
          omega (arith, a, mul-le-mul_left K c)
        where
          same_steals_within : (past : List ℕ) → StealsWithin T B (0 + leaps T K (start_deques T) row) (λ z. 0 + steals T K (start_deques T) row z) past after
              → StealsWithin T B (leaps T K (start_deques T) row) (steals T K (start_deques T) row) past after
          same_steals_within past w =
              steals_within_same T B (0 + leaps T K (start_deques T) row) (leaps T K (start_deques T) row) (λ z. 0 + steals T K (start_deques T) row z) (steals T K (start_deques T) row) past after
              (omega arith) (λ z. omega arith) w

  -- without a leap: exactly demand 3's limit
  pub held_within : leaps T K (start_deques T) row ≡ 0 → after.state.held ≤ limit T p K b
  unfolding limit
  held_within e =
      let z : B * (D T - 1) + leaps T K (start_deques T) row ≡ B * (D T - 1) = omega (arith, e) in
      let y : after.state.held ≤ S1 T + K * (B * (D T - 1)) = subst (λ (x : ℕ). after.state.held ≤ S1 T + K * x) z held_leaps in
      omega (arith, y, quota_first b K (p - 1) (D T - 1))
