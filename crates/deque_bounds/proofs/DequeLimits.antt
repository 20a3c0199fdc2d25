-- The limits of rows of turns of DFDeques from the beginning: by the steals beyond an action, by the places robbed, and what the lines are.
use mathlib.Core.Path.{◌≡◌, refl, sym, ap, subst, ◌∙◌}
use Prim.Native.Nat.{ℕ, suc, ◌+◌, ◌-◌, ◌*◌, ◌≤◌, ◌<◌}
use mathlib.Core.List.{List, [], ◌∷◌, ◌++◌, Memᴰ}
use mathlib.Core.Bool.{Bool, true, false, ◌&&◌}
use mathlib.Core.Logic.{◌⊎◌, inl, inr}
use native.Mathlib.Omega.{arith}
use native.Mathlib.Decide.{ℕ_discrete, dec_lt}
use lib.ListN.{length, get_or}
use lib.Dec.{ltb, eqb}
use borrow.Author.Tests.{eqb-true, lt-ltb}
use Rattle.table.specs.Sum.{pick}
use Rattle.table.specs.Format.{Table, kind}
use Rattle.table.specs.declared.kinds.Kind.TheVariants.{Join as join}
use Rattle.table.specs.Checks.{owner, alloc_of}
use Rattle.table.specs.Nested.{nest}
use Rattle.table.specs.Level.{fork_below}
use Rattle.table.proofs.Nesting.{fork_found}
use Rattle.table.proofs.NestedThreads.{nest_child}
use Rattle.schedule.specs.Memory.{count_in}
use Rattle.schedule.specs.Machine.{State, ready, held, waiting, ended, next_of, status_of, worker_of, with_list}
use Rattle.order.specs.Order.{number_of}
use Rattle.schedule.specs.Sound.{is_done}
use Rattle.order.proofs.Lawful.{Lawful, Within}
use Rattle.order.proofs.Words.{Ascends}
use Rattle.schedule.proofs.Sound.Facts.{Facts}
use Rattle.schedule.proofs.Sound.Done.{next_below}
use Rattle.schedule.proofs.Linked.Waiting.{awaited}
use Rattle.deques.specs.Deques.{Deque, deque, nothing, bottom, above, place_of, Deques, over}
use Rattle.deques.specs.Partition.{occurs, owned_by}
use Rattle.deques.specs.Lines.{line, lines_of}
use Rattle.deques.proofs.DequeTurns.{with_serial, serial_facts}
use Rattle.deques.proofs.Flat.{lines_append}
use Rattle.deque_bounds.proofs.Lines.{Link, Chained, Light}
use Rattle.deques.specs.DequeRuns.{Pair}
use Rattle.deques.specs.Deques.{start_deques}
use Rattle.deques.specs.DequeCalls.{row_deques}
use Rattle.deque_bounds.specs.DequeRows.{robs, steals, steals_far, far}
use Rattle.deques.specs.Deques.{deque_turn}
use Rattle.deques.proofs.Flat.{Mine, mine}
use Rattle.deque_bounds.proofs.SerialLines.{held_by, AllLines, SerialLines}
use Rattle.deque_bounds.proofs.SerialLinesActs.{wait_empty}
use Rattle.deque_bounds.proofs.SerialLinesTurns.{BelowAll}
use Rattle.bounds.proofs.Draws.{spent_beyond}
use Rattle.bounds.proofs.Bound.{held_ended, held_open}
use Rattle.deques.proofs.Counts.{in_counted}
use native.Mathlib.Nat.{mul-le-mul_left}
use Rattle.table.specs.Level.{fork_below}
use Rattle.table.specs.Nested.{N}
use Rattle.table.specs.Serial.{S1}
use Rattle.table.proofs.Nesting.{fork_exists, fork_found}
use Rattle.table.proofs.NestedThreads.{nest_root, nest_most}
use Rattle.schedule.specs.Machine.{parent_of}
use Rattle.schedule.proofs.Sound.Leftmost.{front_done, leftmost_undone, leftmost_enabled}
use Rattle.schedule.proofs.Bounds.Beyond.{Enabled}
use Rattle.deque_bounds.proofs.DrawnRows.{draws_few}
use Rattle.deque_bounds.proofs.SerialLinesTurns.{from_start}
use Rattle.deque_bounds.proofs.Lines.{link_of, line_nest}
use Rattle.deque_bounds.proofs.SerialLines.{all_front, all_head}
use Rattle.deques.proofs.Standing.{standing}
use Rattle.deque_bounds.proofs.SerialLinesActs.{wake_empty}
use Rattle.deques.proofs.Flat.{mine_at}
use Rattle.order.proofs.Words.{ascends_back, ascends_front}

-- ---- the leftmost thread

module _ (T : Table) (l : Lawful T) (p K : ℕ) (st : State) (f : Facts T p K st) where
  -- while the root has not ended, some thread is the leftmost
  pub unended_listed : (status_of st 0 ≡ ended → ⊥) → (t : ℕ) × (others : List ℕ) × (st.list ≡ t ∷ others)
  unended_listed n = go st.list refl
    where
      go : (k : List ℕ) → st.list ≡ k → (t : ℕ) × (others : List ℕ) × (st.list ≡ t ∷ others)
      go [] e = absurd (mathlib.Core.List.Memᴰ.not-nil (rw e at (f.live_listed 0 l.some_thread f.root_born n)))
      go (t ∷ others) e = (t, others, e)

-- ---- threads in the lines

module _ (hold : ℕ → ℕ) (v : ℕ) where
  line_has : (d : Deque) → Memᴰ v d.threads → Memᴰ v (line hold d)
  line_has d m = go (ltb d.owner 16)
    where
      go : (q : Bool) → Memᴰ v (pick q (hold d.owner ∷ d.threads) d.threads)
      go true = mathlib.Core.List.Memᴰ.tail m
      go false = m

  -- a deque with v in its line
  pub record Somewhere (ds : List Deque) : Type 0 where
    pub front : List Deque
    pub deque : Deque
    pub rest : List Deque
    pub whole : ds ≡ front ++ deque ∷ rest
    pub has : Memᴰ v (line hold deque)

  later : (d : Deque) (ds : List Deque) → Somewhere ds → Somewhere (d ∷ ds)
  later d ds s = record { front = d ∷ s.front; deque = s.deque; rest = s.rest; whole = ap (d ∷◌) s.whole; has = s.has }

  pub deque_of_lem : (ds : List Deque) → 1 ≤ occurs v ds → Somewhere ds
  unfolding occurs
  deque_of_lem [] i = absurd (omega (arith, i))
  deque_of_lem (d ∷ ds) i = go (dec_lt 0 (count_in v d.threads)) (deque_of_lem ds)
    where
      go : Dec (0 < count_in v d.threads) → (1 ≤ occurs v ds → Somewhere ds) → Somewhere (d ∷ ds)
      go (yes n) ih = record { front = []; deque = d; rest = ds; whole = refl; has = line_has d (in_counted v d.threads (omega (arith, n))) }
      go (no n) ih = later d ds (ih (omega (arith, n, i)))

  pub deque_owned : (ds : List Deque) (o : ℕ) → o < 16 → hold o ≡ v → 1 ≤ owned_by o ds → Somewhere ds
  unfolding owned_by
  deque_owned [] o h e i = absurd (omega (arith, i))
  deque_owned (d ∷ ds) o h e i = go (eqb d.owner o) refl (deque_owned ds o h e)
    where
      go : (q : Bool) → eqb d.owner o ≡ q → (1 ≤ owned_by o ds → Somewhere ds) → Somewhere (d ∷ ds)
      go true j ih =
          let z : d.owner ≡ o = eqb-true d.owner o j in
          record { front = []; deque = d; rest = ds; whole = refl; has = rw (z, lt-ltb o 16 h) (mathlib.Core.List.Memᴰ.head (sym e)) }
      go false j ih = later d ds (ih (let z : 1 ≤ 0 + owned_by o ds = rw j at i in omega (arith, z)))

bottom_in : (t : ℕ) (k : List ℕ) → Memᴰ (bottom (t ∷ k)) (t ∷ k)
unfolding bottom
bottom_in t [] = mathlib.Core.List.Memᴰ.head refl
bottom_in t (y ∷ k) = mathlib.Core.List.Memᴰ.tail (bottom_in y k)

asc_first : (f : ℕ → ℕ) (t v : ℕ) (k : List ℕ) → Ascends f (t ∷ k) → Memᴰ v (t ∷ k) → f t ≤ f v
unfolding Ascends
asc_first f t v k i m = go (mathlib.Core.List.Memᴰ.cases_cons m)
  where
    go : (v ≡ t) ⊎ Memᴰ v k → f t ≤ f v
    go (inl e) = rw e (omega arith)
    go (inr n) = omega (arith, i.0 v n)

light_is : (T : Table) (fa : ℕ) (J : ℕ → ℕ) (st : State) (t : ℕ) (k : List ℕ) → Light T fa J st (t ∷ k) → suc (J (next_of st t)) ≤ nest T (bottom (t ∷ k)) + fa
unfolding Light
light_is T fa J st t k c = c

pub nest_some : (T : Table) (l : Lawful T) (t : ℕ) → t < T.threads → 1 ≤ nest T t
nest_some T l t h = go (ℕ_discrete t 0)
  where
    go : Dec (t ≡ 0) → 1 ≤ nest T t
    go (yes e) = rw e (omega (arith, nest_root T l.contents l.bodies l.nesting l.forking l.some_thread))
    go (no e) =
        let (x, i, k, n) = fork_exists T l.contents l.bodies l.nesting l.forking t (omega (arith, e)) h in
        let z : nest T t ≡ suc (nest T (owner T x)) = rw n at (nest_child T l.contents l.bodies l.nesting l.forking x i k) in
        omega (arith, z)

chain_tail : (T : Table) (J : ℕ → ℕ) (st : State) (e z y : ℕ) (k : List ℕ) → Chained T J st e (z ∷ y ∷ k) → Chained T J st z (y ∷ k)
unfolding Chained
chain_tail T J st e z y k c = c.2

-- ---- in every state that a row from the beginning reaches

module _ (T : Table) (l : Lawful T) (p K fa : ℕ) (J : ℕ → ℕ) (D : Deques) (I : SerialLines T p K fa J D) where
  abbrev st : State
  st = D.state

  abbrev hold : ℕ → ℕ
  hold = held_by st

  f : Facts T p K (with_serial T l st)
  f = serial_facts T l p K st I.kept.common

  module _ (front : List Deque) (d : Deque) (rest : List Deque) (whole : D.deques ≡ front ++ d ∷ rest) where
    of_line : Chained T J st 0 (line hold d) × Light T fa J st (line hold d)
    of_line =
        let z = all_front T fa J st front (d ∷ rest) (subst (AllLines T fa J st) whole I.lines) in
        let y = all_head T fa J st d rest z.1 in
        (y.0, y.1)

    lines_are : lines_of hold D.deques ≡ lines_of hold front ++ (line hold d ++ lines_of hold rest)
    unfolding lines_of
    lines_are = ap (lines_of hold) whole ∙ lines_append hold front (d ∷ rest)

    line_rises : Ascends (λ t. number_of T (next_of st t)) (line hold d)
    line_rises = ascends_front _ (line hold d) (lines_of hold rest) (ascends_back _ (lines_of hold front) (line hold d ++ lines_of hold rest) (subst (Ascends (λ t. number_of T (next_of st t))) lines_are I.order))

    line_below : (v : ℕ) → Memᴰ v (line hold d) → v < T.threads
    line_below v m = (standing T l p K D I.kept v (subst (λ (k : List ℕ). Memᴰ v k) (sym lines_are) (mathlib.Core.List.Memᴰ.append_right (lines_of hold front) (mathlib.Core.List.Memᴰ.append_left (lines_of hold rest) m)))).0

    -- below each thread of a line stands its parent, at the action right after its fork
    pub line_links : (above : List ℕ) (x y : ℕ) (under : List ℕ) → line hold d ≡ above ++ x ∷ y ∷ under → Link T st x y × (parent_of T x ≡ y)
    line_links above x y under e =
        let L : Link T st x y = at 0 above (subst (Chained T J st 0) e of_line.0) in
        (L, (let z : fork_below T T.actions x ≡ L.action = subst (λ (b : ℕ). fork_below T T.actions b ≡ L.action) L.names (fork_found T l.contents l.bodies l.nesting L.action L.within L.forks) in ap (owner T) z ∙ L.owned))
      where
        at : (e : ℕ) (k : List ℕ) → Chained T J st e (k ++ x ∷ y ∷ under) → Link T st x y
        at e [] c = chained_link e c
          where
            chained_link : (e : ℕ) → Chained T J st e (x ∷ y ∷ under) → Link T st x y
            chained_link e c = link_of T J st e x y under c
        at e (z ∷ []) c = at z [] (chain_tail T J st e z x (y ∷ under) c)
        at e (z ∷ z2 ∷ k) c = at z (z2 ∷ k) (chain_tail T J st e z z2 (k ++ x ∷ y ∷ under) c)

    -- a line has at most N threads
    pub line_short : length (line hold d) ≤ N T
    line_short = go (line hold d) refl
      where
        go : (k : List ℕ) → line hold d ≡ k → length k ≤ N T
        go [] e = omega arith
        go (t ∷ k) e =
            let below : (v : ℕ) → Memᴰ v (t ∷ k) → v < T.threads = λ v m. line_below v (subst (λ (b : List ℕ). Memᴰ v b) (sym e) m) in
            omega (
              arith,
              line_nest T l J st 0 t k (subst (Chained T J st 0) e of_line.0),
              nest_some T l (bottom (t ∷ k)) (below (bottom (t ∷ k)) (bottom_in t k)),
              nest_most T t (below t (mathlib.Core.List.Memᴰ.head refl)),
            )

    -- the steals beyond any thread of a line
    line_count : (v : ℕ) → Memᴰ v (line hold d) → suc (J (next_of st v)) ≤ N T + fa
    line_count v m = go (line hold d) refl
      where
        go : (k : List ℕ) → line hold d ≡ k → suc (J (next_of st v)) ≤ N T + fa
        go [] e = absurd (mathlib.Core.List.Memᴰ.not-nil (subst (λ (b : List ℕ). Memᴰ v b) e m))
        go (t ∷ k) e =
            let mem : Memᴰ v (t ∷ k) = subst (λ (b : List ℕ). Memᴰ v b) e m in
            let low : number_of T (next_of st t) ≤ number_of T (next_of st v) = asc_first (λ t. number_of T (next_of st t)) t v k (subst (Ascends (λ t. number_of T (next_of st t))) e line_rises) mem in
            omega (
              arith,
              light_is T fa J st t k (subst (Light T fa J st) e of_line.1),
              nest_most T (bottom (t ∷ k)) (line_below (bottom (t ∷ k)) (subst (λ (b : List ℕ). Memᴰ (bottom (t ∷ k)) b) (sym e) (bottom_in t k))),
              I.falls (next_of st t) (next_of st v) low,
            )

  pub somewhere : (v : ℕ) → v < T.threads → (status_of st v ≡ ready) ⊎ (status_of st v ≡ held) → Somewhere hold v D.deques
  somewhere v h (inl e) = deque_of_lem hold v D.deques (let z : occurs v D.deques ≡ 1 = I.kept.placed.once v h ∙ rw e in omega (arith, z))
  somewhere v h (inr e) =
      let (o, i, q, r) = f.holding.held_holder v h e in
      deque_owned hold v D.deques o i r (let z : owned_by o D.deques ≡ 1 = I.kept.placed.owned o i ∙ rw q in omega (arith, z))

  -- J at the next action of any thread that is ready or held
  pub ready_count : (v : ℕ) → v < T.threads → (status_of st v ≡ ready) ⊎ (status_of st v ≡ held) → suc (J (next_of st v)) ≤ N T + fa
  ready_count v h e =
      let s : Somewhere hold v D.deques = somewhere v h e in
      line_count s.front s.deque s.rest s.whole v s.has

spent_same : (T : Table) (cost : ℕ → ℕ) (st : State) (k : List ℕ) (v : ℕ) → spent_beyond T cost (with_list k st) v ≡ spent_beyond T cost st v
unfolding spent_beyond
spent_same T cost st k v = refl

-- ---- the limits

module _ (T : Table) (l : Lawful T) (p K : ℕ) (few : p ≤ 16) (small : Within T K) (row : List Pair) (h : BelowAll p row) where
  abbrev after : Deques
  after = row_deques T K (start_deques T) row

  abbrev begun : ℕ → ℕ
  begun = steals T K (start_deques T) row

  abbrev farther : ℕ
  farther = far T K (start_deques T) row

  serial_lines : SerialLines T p K farther begun after
  serial_lines = from_start T l p K few row h

  g : Facts T p K (with_serial T l after.state)
  g = serial_facts T l p K after.state serial_lines.kept.common

  -- by the steals beyond v, the first action not done
  pub held_steals : (v : ℕ) → v < T.actions → is_done T after.state v ≡ false → ((a : ℕ) → a < T.actions → number_of T a < number_of T v → is_done T after.state a ≡ true)
      → after.state.held ≤ S1 T + K * begun v
  held_steals v i n before =
      omega (arith, held_open T l p K (with_serial T l after.state) g v i n before, draws_few T l p K few small v i row h n, spent_same T (alloc_of T) after.state (with_serial T l after.state).list v)

  pub held_at_end : status_of after.state 0 ≡ ended → after.state.held ≤ S1 T
  held_at_end e = held_ended T l p K (with_serial T l after.state) g e

  -- by the places robbed: from the table, and the steals at places from 1 on
  pub held_far : after.state.held ≤ S1 T + K * (N T - 1 + farther)
  held_far = go (ℕ_discrete (status_of after.state 0) ended)
    where
      go : Dec (status_of after.state 0 ≡ ended) → after.state.held ≤ S1 T + K * (N T - 1 + farther)
      go (yes e) = omega (arith, held_at_end e)
      go (no e) =
          let s : State = with_serial T l after.state in
          let (t, others, r) = unended_listed T l p K s g e in
          let x : Enabled T s t = leftmost_enabled T l p K s g t others r in
          let v : ℕ = next_of after.state t in
          let i : v < T.actions = next_below T l p K s g t x.below in
          let a : after.state.held ≤ S1 T + K * begun v = held_steals v i (leftmost_undone T l p K s g t others r) (front_done T l p K s g t others r) in
          let c : suc (begun v) ≤ N T + farther = ready_count T l p K farther begun after serial_lines t x.below x.taken in
          let n : 1 ≤ N T = omega (arith, nest_some T l 0 l.some_thread, nest_most T 0 l.some_thread) in
          omega (arith, a, mul-le-mul_left K (let y : begun v ≤ N T - 1 + farther = omega (arith, c, n) in y))

zero_far : (w c : ℕ) (D : Deques) → c ≡ 0 → steals_far w c D ≡ 0
unfolding steals_far
zero_far w c D e = rw e (none (robs w 0 D))
  where
    none : (b : Bool) → pick {A = ℕ} (b && false) 1 0 ≡ 0
    none true = refl
    none false = refl

none_far : (T : Table) (K : ℕ) (row : List Pair) → ((g : Pair) → Memᴰ g row → g.choice ≡ 0) → (D : Deques) → far T K D row ≡ 0
unfolding far
none_far T K [] h D = refl
none_far T K (g ∷ row) h D =
    let e : g.choice ≡ 0 = h g (mathlib.Core.List.Memᴰ.head refl) in
    let z : steals_far g.worker g.choice D ≡ 0 = zero_far g.worker g.choice D e in
    omega (arith, z, none_far T K row (λ y m. h y (mathlib.Core.List.Memᴰ.tail m)) (deque_turn T K g.worker g.choice D).after)

-- so with all choices 0, in any order of turns, from the table alone
pub held_near : (T : Table) (l : Lawful T) (p K : ℕ) → p ≤ 16 → Within T K → (row : List Pair) → BelowAll p row → ((g : Pair) → Memᴰ g row → g.choice ≡ 0)
    → (row_deques T K (start_deques T) row).state.held ≤ S1 T + K * (N T - 1)
held_near T l p K few small row h z =
    let e : N T - 1 + far T K (start_deques T) row ≡ N T - 1 = omega (arith, none_far T K row z (start_deques T)) in
    subst (λ (y : ℕ). (row_deques T K (start_deques T) row).state.held ≤ S1 T + K * y) e (held_far T l p K few small row h)

-- and so with one worker
pub held_alone : (T : Table) (l : Lawful T) (K : ℕ) → Within T K → (row : List Pair) → BelowAll 1 row → (row_deques T K (start_deques T) row).state.held ≤ S1 T + K * (N T - 1)
held_alone T l K small row h = held_near T l 1 K (omega arith) small row h (λ g m. omega (arith, (h g m).1))

-- waits and wakings find the deque of a worker that holds a thread empty
module _ (T : Table) (l : Lawful T) (p K : ℕ) (few : p ≤ 16) (fa : ℕ) (J : ℕ → ℕ) (D : Deques) (I : SerialLines T p K fa J D) (w : ℕ) (below : w < p) (h : (worker_of D.state w).holds ≡ true) where
  abbrev mine_of : List ℕ
  mine_of = (get_or D.deques (place_of w D.deques) nothing).threads

  its : Mine w D.deques
  its = mine w D.deques (I.kept.placed.owned w (omega (arith, few, below)) ∙ rw h)

  same_its : mine_of ≡ its.threads
  same_its = subst (λ (y : List Deque). (get_or y (place_of w y) nothing).threads ≡ its.threads) (sym its.whole) (mine_at w its.front its.threads its.rest its.clear)

  I' : SerialLines T p K fa J (over D.state (its.front ++ deque w its.threads ∷ its.rest))
  I' = subst (λ (y : List Deque). SerialLines T p K fa J (over D.state y)) its.whole I

  pub waits_alone : kind T (next_of D.state (worker_of D.state w).thread) ≡ join
      → (status_of D.state (T.argument (next_of D.state (worker_of D.state w).thread)) ≡ ended → ⊥) → mine_of ≡ []
  waits_alone k e = same_its ∙ wait_empty T l p K few w below fa J D.state its.front its.threads its.rest its.clear its.alone I' h k e

  pub wakes_alone : (u : ℕ) → u < T.threads → status_of D.state u ≡ waiting → awaited T D.state u ≡ (worker_of D.state w).thread → mine_of ≡ []
  wakes_alone u i e a = same_its ∙ wake_empty T l p K few w below fa J D.state its.front its.threads its.rest its.clear its.alone I' h u i e a
