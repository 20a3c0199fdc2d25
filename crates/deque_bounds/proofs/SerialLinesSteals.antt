-- A steal keeps the lines, their order and what parts a child from its parent, with one more counted up to its start, and one more far where the place is not 0.
use mathlib.Core.Path.{◌≡◌, refl, sym, ap, subst, ◌∙◌}
use Prim.Native.Nat.{ℕ, zero, suc, ◌+◌, ◌≤◌, ◌<◌}
use mathlib.Core.List.Memᴰ
use mathlib.Core.List.{List, [], ◌∷◌, ◌++◌, Memᴰ}
use mathlib.Core.Bool.{Bool, true, false, ◌&&◌, ◌||◌, not}
use mathlib.Core.Logic.{◌⊎◌, inl, inr}
use native.Mathlib.Omega.{arith}
use native.Mathlib.Decide.{ℕ_discrete}
use lib.ListN.{get_or}
use lib.Dec.{ltb, eqb}
use borrow.Author.Tests.{eqb-false, eq-eqb, lt-ltb, le-ltb}
use Rattle.table.specs.Sum.{pick}
use Rattle.table.specs.Format.{Table, kind}
use Rattle.table.specs.declared.kinds.Kind.TheVariants.{Fork as fork}
use Rattle.table.specs.Checks.{owner, end_of}
use Rattle.table.specs.Nested.{nest}
use Rattle.table.proofs.Tests.{no_way}
use Rattle.schedule.specs.declared.Worker.{Worker}
use Rattle.schedule.specs.Machine.{State, ready, held, waiting, nobody, next_of, status_of, worker_of}
use Rattle.order.specs.Order.{number_of}
use Rattle.order.proofs.Lawful.{Lawful}
use Rattle.order.proofs.Words.{Ascends}
use Rattle.schedule.proofs.Sound.Facts.{Facts}
use Rattle.deques.specs.Deques.{Deque, deque, nothing, is_empty, kept, bottom, above, robbed, Deques, over}
use Rattle.deques.specs.Partition.{owns, owned_by}
use Rattle.deques.specs.Lines.{line, lines_of}
use Rattle.deques.proofs.DequeTurns.{Kept, with_serial, serial_facts}
use Rattle.deques.proofs.Flat.{lines_append}
use Rattle.deques.proofs.Counts.{owned_append}
use Rattle.deques.proofs.Bottoms.{line_bottom}
use Rattle.deque_bounds.proofs.Lines.{Live, Parted, Chained, Light}
use Rattle.deque_bounds.proofs.Between.{ends_before}
use Rattle.deque_bounds.proofs.SerialLines.{held_by, AllLines, SerialLines, standing_live, all_append, all_front, all_head, all_cons}
use Rattle.deque_bounds.specs.DequeRows.{starts_at, steals_beyond, steals_far, thread_left_of}
use Rattle.deques.proofs.Placed.{robbed_lines}
use Rattle.deques.proofs.DequeTurns.{taken_common, stolen, b_below, b_ready}
use Rattle.deque_bounds.proofs.ActionLeaves.{live_set, wait_set}
use Rattle.deque_bounds.proofs.SerialLinesActs.{one_line, one_light}
use Rattle.deque_bounds.proofs.LineMoves.{falls_more, parted_more, chained_more, chained_above, chained_stolen, light_above, light_stolen, light_beyond, light_far, ascends_bottom}
use Rattle.schedule.specs.Machine.{taken}
use lib.Seq.{get_or-set_same, get_or-set_other}
use Rattle.order.proofs.Words.{ascends_back, ascends_front}

-- ---- the deque at a place

pub record At (w c : ℕ) (ds : List Deque) : Type 0 where
  pub front : List Deque
  pub rest : List Deque
  pub whole : ds ≡ front ++ get_or ds c nothing ∷ rest
  pub left : (c ≡ 0) → front ≡ []
  pub bare : thread_left_of c ds ≡ false → (g : Deque) → Memᴰ g front → is_empty g.threads ≡ true
  pub robs : robbed w c ds ≡ front ++ kept (deque (get_or ds c nothing).owner (above (get_or ds c nothing).threads)) (deque w [] ∷ rest)

pub at_place : (w c : ℕ) (ds : List Deque) → is_empty (get_or ds c nothing).threads ≡ false → At w c ds
unfolding robbed thread_left_of
at_place w c [] e = no_way cc
at_place w zero (d ∷ ds) e = record { front = []; rest = ds; whole = refl; left = λ z. refl; bare = λ z g m. absurd (Memᴰ.not-nil m); robs = refl }
at_place w (suc c) (d ∷ ds) e =
    let y : At w c ds = at_place w c ds e in
    record { front = d ∷ y.front; rest = y.rest; whole = ap (d ∷◌) y.whole; left = λ z. no_way cc; bare = λ z g m. first (is_empty d.threads) refl z y.bare g (Memᴰ.cases_cons m); robs = ap (d ∷◌) y.robs }
  where
    first : (b : Bool) → is_empty d.threads ≡ b → (not b || thread_left_of c ds) ≡ false → {k : List Deque} → (thread_left_of c ds ≡ false → (g : Deque) → Memᴰ g k → is_empty g.threads ≡ true)
        → (g : Deque) → (g ≡ d) ⊎ Memᴰ g k → is_empty g.threads ≡ true
    first true e z r g (inl i) = ap (λ (b : Deque). is_empty b.threads) i ∙ e
    first true e z r g (inr i) = r z g i
    first false e z r g i = no_way cc

line_above : (q : Bool) (h : ℕ) (k : List ℕ) → is_empty k ≡ false → pick q (h ∷ above k) (above k) ≡ above (pick q (h ∷ k) k)
unfolding above
line_above true h [] e = no_way cc
line_above true h (x ∷ k) e = refl
line_above false h k e = refl

line_some : (q : Bool) (h : ℕ) (k : List ℕ) → is_empty k ≡ false → is_empty (pick q (h ∷ k) k) ≡ false
line_some true h k e = refl
line_some false h k e = e

pub bottom_in : (k : List ℕ) → is_empty k ≡ false → Memᴰ (bottom k) k
unfolding bottom
bottom_in [] e = no_way cc
bottom_in (x ∷ []) e = Memᴰ.head refl
bottom_in (x ∷ y ∷ k) e = Memᴰ.tail (bottom_in (y ∷ k) refl)

light_weaken : (T : Table) (far : ℕ) (J : ℕ → ℕ) (s : State) (k : List ℕ) → Light T far J s k → Light T (suc far) J s k
unfolding Light
light_weaken T far J s [] r = tt
light_weaken T far J s (t ∷ k) r = omega (arith, r)

asc_cross : (f : ℕ → ℕ) (A R : List ℕ) → Ascends f (A ++ R) → (x y : ℕ) → Memᴰ x A → Memᴰ y R → f x < f y
unfolding Ascends
asc_cross f [] R i x y m n = absurd (Memᴰ.not-nil m)
asc_cross f (z ∷ A) R i x y m n = go (Memᴰ.cases_cons m) (asc_cross f A R i.1 x y)
  where
    go : (x ≡ z) ⊎ Memᴰ x A → (Memᴰ x A → Memᴰ y R → f x < f y) → f x < f y
    go (inl e) ih = rw e (i.0 y (Memᴰ.append_right A n))
    go (inr e) ih = ih e n

module _ (T : Table) (l : Lawful T) (p K : ℕ) (few : p ≤ 16) (w : ℕ) (below : w < p) (c far : ℕ) (J : ℕ → ℕ) (D : Deques) (I : SerialLines T p K far J D)
    (free : (worker_of D.state w).holds ≡ false) (some : is_empty (get_or D.deques c nothing).threads ≡ false) where
  abbrev st : State
  st = D.state

  abbrev ds : List Deque
  ds = D.deques

  abbrev d : Deque
  d = get_or ds c nothing

  abbrev b : ℕ
  b = bottom d.threads

  abbrev s : State
  s = taken K w b st

  abbrev start : ℕ
  start = starts_at c D

  abbrev J' : ℕ → ℕ
  J' x = J x + steals_beyond T w c D x

  abbrev num : ℕ → ℕ
  num v = number_of T (next_of st v)

  pub f : Facts T p K (with_serial T l st)
  f = serial_facts T l p K st I.kept.common

  pub w16 : w < 16
  w16 = omega (arith, few, below)

  pub up : (x : ℕ) → number_of T x < number_of T start → J' x ≡ suc (J x)
  unfolding steals_beyond
  up x h = rw (free, some, lt-ltb (number_of T x) (number_of T start) h) (omega arith)

  pub flat : (x : ℕ) → number_of T start ≤ number_of T x → J' x ≡ J x
  unfolding steals_beyond
  flat x h = rw (free, some, le-ltb (number_of T x) (number_of T start) h) (omega arith)

  pub bb : b < T.threads
  bb = b_below T l p K few w below c D I.kept free some

  pub br : status_of st b ≡ ready
  br = b_ready T l p K few w below c D I.kept free some (eqb (status_of st b) ready) refl

  pub same : (u : ℕ) → next_of s u ≡ next_of st u
  unfolding taken
  same u = refl

  still : (u : ℕ) → Live s u → Live st u
  unfolding taken
  still u v = live_set st.status b held ((λ e. omega (arith, e, br)), (λ e. omega (arith, e, br))) u v

  ends : (v x : ℕ) → Live st v → x < T.actions → kind T x ≡ fork → owner T x ≡ v → Live st (T.argument x) → number_of T (end_of T (T.argument x)) < number_of T (next_of st v)
  ends = ends_before T l p K (with_serial T l st) f

  pub held_others : (v : ℕ) → (v ≡ w → ⊥) → held_by s v ≡ held_by st v
  unfolding taken
  held_others v n = ap (λ (z : Worker). z.thread) (get_or-set_other st.workers w v (record { holds = true; thread = b; quota = K }) nobody n)

  pub held_here : held_by s w ≡ b
  unfolding taken
  held_here = ap (λ (z : Worker). z.thread) (get_or-set_same st.workers w (record { holds = true; thread = b; quota = K }) nobody (omega (arith, f.holding.worker_size, w16)))

  none_owned : owned_by w ds ≡ 0
  none_owned = I.kept.placed.owned w w16 ∙ rw free

  pub P : At w c ds
  P = at_place w c ds some

  pub owned_parts : owned_by w P.front + (owns w d + owned_by w P.rest) ≡ 0
  unfolding owned_by
  owned_parts = sym (owned_append w P.front (d ∷ P.rest)) ∙ ap (owned_by w) (sym P.whole) ∙ none_owned

  pub other : d.owner ≡ w → ⊥
  other e = let z : owns w d ≡ 1 = rw (eq-eqb d.owner w e) in omega (arith, owned_parts, z)

  abbrev L : List ℕ
  L = line (held_by st) d

  abbrev A : List ℕ
  A = lines_of (held_by st) P.front

  abbrev B : List ℕ
  B = lines_of (held_by st) P.rest

  pub lines_are : lines_of (held_by st) ds ≡ A ++ (L ++ B)
  unfolding lines_of
  lines_are = ap (lines_of (held_by st)) P.whole ∙ lines_append (held_by st) P.front (d ∷ P.rest)

  pub rising : Ascends num (A ++ (L ++ B))
  rising = subst (Ascends num) lines_are I.order

  alive : (v : ℕ) → Memᴰ v (A ++ (L ++ B)) → Live st v
  alive v m = standing_live T l p K D I.kept v (subst (λ (z : List ℕ). Memᴰ v z) (sym lines_are) m)

  parts : AllLines T far J st P.front × AllLines T far J st (d ∷ P.rest)
  parts = all_front T far J st P.front (d ∷ P.rest) (subst (AllLines T far J st) P.whole I.lines)

  pub mine : Chained T J st 0 L × Light T far J st L × AllLines T far J st P.rest
  mine = all_head T far J st d P.rest parts.1

  pub l_some : is_empty L ≡ false
  l_some = line_some (ltb d.owner 16) (held_by st d.owner) d.threads some

  pub l_bottom : bottom L ≡ b
  l_bottom = line_bottom (ltb d.owner 16) (held_by st d.owner) d.threads some

  pub robbed_line : line (held_by s) (deque d.owner (above d.threads)) ≡ above L
  robbed_line = let z : held_by s d.owner ≡ held_by st d.owner = held_others d.owner other in rw z (line_above (ltb d.owner 16) (held_by st d.owner) d.threads some)

  pub thief_line : line (held_by s) (deque w []) ≡ b ∷ []
  thief_line = rw (lt-ltb w 16 w16) (ap (λ (z : ℕ). z ∷ []) held_here)

  stolen_parted : Parted T J' s 0 b
  stolen_parted = go L refl l_some
    where
      go : (k : List ℕ) → L ≡ k → is_empty k ≡ false → Parted T J' s 0 b
      go [] e i = no_way cc
      go (t ∷ k) e i =
          let z : bottom (t ∷ k) ≡ b = ap bottom (sym e) ∙ l_bottom in
          subst (Parted T J' s 0) z
          (chained_stolen T l J J' I.falls start up flat st s same still ends 0 t k (λ v m. alive v (Memᴰ.append_right A (Memᴰ.append_left B (subst (λ (y : List ℕ). Memᴰ v y) (sym e) m))))
          (inl refl) (ap (next_of st) (sym z)) (subst (Chained T J st 0) e mine.0))

  stolen_light : suc (J' (next_of s b)) ≤ nest T b + far
  stolen_light = go L refl l_some
    where
      go : (k : List ℕ) → L ≡ k → is_empty k ≡ false → suc (J' (next_of s b)) ≤ nest T b + far
      go [] e i = no_way cc
      go (t ∷ k) e i =
          let z : bottom (t ∷ k) ≡ b = ap bottom (sym e) ∙ l_bottom in
          let r : Ascends num (t ∷ k) = subst (Ascends num) e (ascends_front num L B (ascends_back num A (L ++ B) rising)) in
          let y : num t ≤ num (bottom (t ∷ k)) = ascends_bottom num t k r in
          subst (λ (g : ℕ). suc (J' (next_of s g)) ≤ nest T g + far) z
          (light_stolen T l J J' I.falls start up flat st s same still ends far t k (ap (next_of st) (sym z)) (subst (λ (g : ℕ). num t ≤ num g) z y) (subst (Light T far J st) e mine.1))

  -- lines of the other deques
  module _ (far' : ℕ) (C : List Deque) (lightens : (d : Deque) → ((v : ℕ) → Memᴰ v (line (held_by st) d) → Memᴰ v (lines_of (held_by st) C)) → Light T far J st (line (held_by st) d) → Light T far' J' s (line (held_by st) d))
      (live : (v : ℕ) → Memᴰ v (lines_of (held_by st) C) → Live st v) where
    all_more : (E : List Deque) → ((v : ℕ) → Memᴰ v (lines_of (held_by st) E) → Memᴰ v (lines_of (held_by st) C)) → owned_by w E ≡ 0 → AllLines T far J st E → AllLines T far' J' s E
    unfolding AllLines owned_by lines_of
    all_more [] n e r = tt
    all_more (g ∷ E) n e r = go (eqb g.owner w) refl (all_more E)
      where
        go : (q : Bool) → eqb g.owner w ≡ q
            → (((v : ℕ) → Memᴰ v (lines_of (held_by st) E) → Memᴰ v (lines_of (held_by st) C)) → owned_by w E ≡ 0 → AllLines T far J st E → AllLines T far' J' s E)
            → Chained T J' s 0 (line (held_by s) g) × Light T far' J' s (line (held_by s) g) × AllLines T far' J' s E
        go true i ih = absurd (let z : 1 + owned_by w E ≡ 0 = rw i at e in omega (arith, z))
        go false i ih =
            let z : line (held_by s) g ≡ line (held_by st) g = same_line i in
            let n0 : (v : ℕ) → Memᴰ v (line (held_by st) g) → Memᴰ v (lines_of (held_by st) C) = λ v j. n v (Memᴰ.append_left (lines_of (held_by st) E) j) in (
              subst (Chained T J' s 0) (sym z) (chained_more T l J J' I.falls start up flat st s same still ends 0 (line (held_by st) g) (λ v j. live v (n0 v j)) r.0),
              subst (Light T far' J' s) (sym z) (lightens g n0 r.1),
              ih (λ v j. n v (Memᴰ.append_right (line (held_by st) g) j)) (let y : 0 + owned_by w E ≡ 0 = rw i at e in omega (arith, y)) r.2,
            )
          where
            same_line : eqb g.owner w ≡ false → line (held_by s) g ≡ line (held_by st) g
            same_line i = let y : held_by s g.owner ≡ held_by st g.owner = held_others g.owner (eqb-false g.owner w i) in rw y

  none_lines : (far' : ℕ) → AllLines T far' J' s []
  unfolding AllLines
  none_lines far' = tt

  -- the robbed deque, which may leave, the thief's, and those right of them
  module _ (far' : ℕ) (weak : (k : List ℕ) → Light T far J' s k → Light T far' J' s k) where
    thief : AllLines T far' J' s P.rest → AllLines T far' J' s (deque w [] ∷ P.rest)
    thief r =
        all_cons T far' J' s (deque w []) P.rest (subst (Chained T J' s 0) (sym thief_line) (one_line T J' s b stolen_parted))
        (subst (Light T far' J' s) (sym thief_line) (weak (b ∷ []) (one_light T far J' s b stolen_light))) r

    here : AllLines T far' J' s P.rest → AllLines T far' J' s (kept (deque d.owner (above d.threads)) (deque w [] ∷ P.rest))
    here r = go (eqb d.owner 16 && is_empty (above d.threads))
      where
        go : (q : Bool) → AllLines T far' J' s (pick q (deque w [] ∷ P.rest) (deque d.owner (above d.threads) ∷ deque w [] ∷ P.rest))
        go true = thief r
        go false =
            all_cons T far' J' s (deque d.owner (above d.threads)) (deque w [] ∷ P.rest)
            (subst (Chained T J' s 0) (sym robbed_line) (chained_above T l J J' I.falls start up flat st s same still ends 0 L mine.0))
            (subst (Light T far' J' s) (sym robbed_line) (weak (above L) (light_above T l J J' I.falls start up flat st s same still ends far 0 L mine.0 mine.1)))
            (thief r)

  -- ---- by the place

  abbrev far1 : ℕ
  far1 = far + steals_far w c D

  far_zero : c ≡ 0 → far1 ≡ far
  unfolding steals_far
  far_zero e = rw (free, some, e) (omega arith)

  far_more : 0 < c → far1 ≡ suc far
  unfolding steals_far
  far_more e = rw (free, some, lt-ltb 0 c e) (omega arith)

  rest_live : (v : ℕ) → Memᴰ v B → Live st v
  rest_live v m = alive v (Memᴰ.append_right A (Memᴰ.append_right L m))

  front_live : (v : ℕ) → Memᴰ v A → Live st v
  front_live v m = alive v (Memᴰ.append_left (L ++ B) m)

  pub front_clear : owned_by w P.front ≡ 0
  front_clear = omega (arith, owned_parts)

  pub rest_clear : owned_by w P.rest ≡ 0
  rest_clear = omega (arith, owned_parts)

  -- the lines right of the robbed one lie beyond the start
  pub rest_beyond : (v : ℕ) → Memᴰ v B → number_of T start ≤ num v
  rest_beyond v m =
      let z : num (bottom L) < num v = asc_cross num L B (ascends_back num A (L ++ B) rising) (bottom L) v (bottom_in L l_some) m in
      let y : num (bottom L) ≡ num b = ap num l_bottom in
      omega (arith, z, y)

  lines_near : c ≡ 0 → AllLines T far J' s (robbed w c ds)
  lines_near e =
      subst (AllLines T far J' s) (sym (P.robs ∙ ap (◌++ kept (deque d.owner (above d.threads)) (deque w [] ∷ P.rest)) (P.left e)))
      (here far (λ k r. r)
      (all_more far P.rest (λ g n r. light_beyond T l J J' I.falls start up flat st s same still ends far (line (held_by st) g) (λ v m. rest_beyond v (n v m)) r)
      rest_live P.rest (λ v m. m) rest_clear mine.2))

  lines_far : AllLines T (suc far) J' s (robbed w c ds)
  lines_far =
      subst (AllLines T (suc far) J' s) (sym P.robs)
      (all_append T (suc far) J' s P.front (kept (deque d.owner (above d.threads)) (deque w [] ∷ P.rest))
      (all_more (suc far) P.front (λ g n r. light_far T l J J' I.falls start up flat st s same still ends far (line (held_by st) g) r) front_live P.front (λ v m. m) front_clear parts.0)
      (here (suc far) (λ k r. light_weaken T far J' s k r)
      (all_more (suc far) P.rest (λ g n r. light_far T l J J' I.falls start up flat st s same still ends far (line (held_by st) g) r) rest_live P.rest (λ v m. m) rest_clear mine.2)))

  lines_now : AllLines T far1 J' s (robbed w c ds)
  lines_now = go (ℕ_discrete c 0)
    where
      go : Dec (c ≡ 0) → AllLines T far1 J' s (robbed w c ds)
      go (yes e) = subst (λ (z : ℕ). AllLines T z J' s (robbed w c ds)) (sym (far_zero e)) (lines_near e)
      go (no e) = subst (λ (z : ℕ). AllLines T z J' s (robbed w c ds)) (sym (far_more (omega (arith, e)))) lines_far

  pub steal_kept : Kept T p K (over s (robbed w c ds))
  unfolding taken
  steal_kept =
      record {
        common = taken_common T l p K w few below st I.kept.common free K b (omega arith) bb br;
        placed = stolen T l p K few w below c D I.kept free some;
      }

  pub steal_holds : (worker_of s w).holds ≡ true
  unfolding taken
  steal_holds = ap (λ (z : Worker). z.holds) (get_or-set_same st.workers w (record { holds = true; thread = b; quota = K }) nobody (omega (arith, f.holding.worker_size, w16)))

  pub steal_serial_lines : SerialLines T p K far1 J' (over s (robbed w c ds))
  unfolding taken
  steal_serial_lines =
      record {
        kept = steal_kept;
        falls = falls_more T l J J' I.falls start up flat st s same still ends;
        lines = lines_now;
        order = subst (Ascends num) (sym (robbed_lines w w16 (held_by st) (held_by s) held_others c ds none_owned I.kept.placed.in_use some held_here)) I.order;
        waiters = λ u n e. waiting_more u n (wait_set st.status b held (omega (arith, f.status_size, l.few_threads, bb)) (λ z. omega (arith, z)) u e);
      }
    where
      waiting_more : (u : ℕ) → u < T.threads → status_of st u ≡ waiting → Parted T J' s 0 u
      waiting_more u n e =
          parted_more T l J J' I.falls start up flat st s same still ends 0 u ((λ z. omega (arith, z, e)), (λ z. omega (arith, z, e))) (I.waiters u n e)
