-- A steal keeps the count of the limit by leaps: past a deque that has a thread it leaps, in its own line the last thread's nesting rises, and past an empty deque it ages the owner.
use mathlib.Core.Path.{◌≡◌, refl, sym, ap, subst, ◌∙◌}
use Prim.Native.Nat.{ℕ, suc, ◌+◌, ◌≤◌, ◌<◌}
use mathlib.Core.List.{List, [], ◌∷◌, Memᴰ}
use mathlib.Core.Bool.{Bool, true, false, ◌&&◌}
use mathlib.Core.Logic.{◌⊎◌, inl, inr}
use native.Mathlib.Omega.{arith}
use native.Mathlib.Decide.{ℕ_discrete}
use lib.ListN.{length, get_or, set}
use lib.Dec.{ltb, eqb}
use borrow.Author.Tests.{eqb-false, lt-ltb}
use Rattle.table.specs.Sum.{pick}
use Rattle.table.specs.Format.{Table}
use Rattle.table.specs.Nested.{nest}
use Rattle.table.proofs.Tests.{no_way}
use Rattle.schedule.specs.Machine.{State, ready, held, ended, next_of, status_of, worker_of}
use Rattle.order.specs.Order.{number_of}
use Rattle.order.proofs.Lawful.{Lawful}
use Rattle.deques.specs.Deques.{Deque, deque, nothing, is_empty, kept, bottom, above, robbed, Deques}
use Rattle.deques.specs.Partition.{owned_by}
use Rattle.deques.specs.Lines.{line, lines_of}
use Rattle.deque_bounds.proofs.Lines.{Chained}
use Rattle.deque_bounds.proofs.SerialLines.{held_by, SerialLines}
use Rattle.deque_bounds.proofs.SerialLinesSteals as Steals
use Rattle.deque_bounds.proofs.SerialLinesSteals.{At, bottom_in}
use Rattle.deque_bounds.proofs.StealsWithinActs.{thread_within_is, is_thread_within}
use Rattle.deque_bounds.proofs.LineMoves.{above_nest, more}
use Rattle.deques.proofs.Placed.{empty_is}
use Rattle.deque_bounds.proofs.StealsWithin.{Able, ThreadWithin, LineWithin, slack_of, LinesWithin, lines_within_append, lines_within_split, lines_within_head, lines_within_cons, line_within_top, top_line_within}
use Rattle.deque_bounds.specs.DequeRows.{robs, starts_at, steals_beyond, thread_left_of, leaps_at}
use Rattle.schedule.specs.Machine.{taken}
use lib.Seq.{get_or-set_same, get_or-set_other}

above_in : (v : ℕ) (k : List ℕ) → Memᴰ v (above k) → Memᴰ v k
unfolding above
above_in v [] m = m
above_in v (x ∷ []) m = absurd (mathlib.Core.List.Memᴰ.not-nil m)
above_in v (x ∷ y ∷ k) m = go (mathlib.Core.List.Memᴰ.cases_cons m) (above_in v (y ∷ k))
  where
    go : (v ≡ x) ⊎ Memᴰ v (above (y ∷ k)) → (Memᴰ v (above (y ∷ k)) → Memᴰ v (y ∷ k)) → Memᴰ v (x ∷ y ∷ k)
    go (inl e) ih = mathlib.Core.List.Memᴰ.head e
    go (inr i) ih = mathlib.Core.List.Memᴰ.tail (ih i)

module _ (T : Table) (l : Lawful T) (p K : ℕ) (few : p ≤ 16) (w : ℕ) (below : w < p) (c far : ℕ) (J : ℕ → ℕ) (D : Deques) (I : SerialLines T p K far J D)
    (free : (worker_of D.state w).holds ≡ false) (some : is_empty (get_or D.deques c nothing).threads ≡ false)
    (B lp : ℕ) (old new : ℕ → ℕ) (ages : (v : ℕ) → (v ≡ w → ⊥) → new v ≡ suc (old v)) (fresh : new w ≡ B) (W : LinesWithin T B lp J old D.state D.deques) where
  abbrev st : State
  st = D.state

  abbrev ds : List Deque
  ds = D.deques

  abbrev d : Deque
  d = get_or ds c nothing

  abbrev b : ℕ
  b = bottom d.threads

  abbrev s : State
  s = taken K w b st

  abbrev J' : ℕ → ℕ
  J' x = J x + steals_beyond T w c D x

  abbrev lp' : ℕ
  lp' = lp + leaps_at w c D

  abbrev L : List ℕ
  L = line (held_by st) d

  abbrev P : At w c ds
  P = Steals.P T l p K few w below c far J D I free some

  flat : (x : ℕ) → number_of T (starts_at c D) ≤ number_of T x → J' x ≡ J x
  flat = Steals.flat T l p K few w below c far J D I free some

  one_more : (x : ℕ) → J' x ≤ suc (J x)
  unfolding steals_beyond
  one_more x = go (robs w c D && ltb (number_of T x) (number_of T (starts_at c D)))
    where
      go : (q : Bool) → J x + pick q 1 0 ≤ suc (J x)
      go true = omega arith
      go false = omega arith

  br : status_of st b ≡ ready
  br = Steals.br T l p K few w below c far J D I free some

  same : (u : ℕ) → next_of s u ≡ next_of st u
  unfolding taken
  same u = refl

  able_back : (y : ℕ) → Able T s y → Able T st y
  unfolding Able taken
  able_back y e j = go (ℕ_discrete (T.argument (next_of st y)) b)
    where
      go : Dec (T.argument (next_of st y) ≡ b) → status_of st (T.argument (next_of st y)) ≡ ended
      go (yes r) = absurd (omega (arith, sym (get_or-set_same st.status b held 0 room) ∙ ap (λ (z : ℕ). get_or (set st.status b held) z 0) (sym r) ∙ e j))
        where
          room : b < length st.status
          room =
              omega (arith, (Steals.f T l p K few w below c far J D I free some).status_size, l.few_threads, Steals.bb T l p K few w below c far J D I free some)
      go (no r) = sym (get_or-set_other st.status b (T.argument (next_of st y)) held 0 r) ∙ e j

  -- one more in J, and one more to pay with
  lift : (y z z' slack slack' more : ℕ) → J' (next_of st y) ≤ J (next_of st y) + more → nest T z + lp + slack + more ≤ nest T z' + lp' + slack' → ThreadWithin T B lp J st z slack y → ThreadWithin T B lp' J' s z' slack' y
  lift y z z' slack slack' more i j o =
      let r : next_of s y ≡ next_of st y = same y in
      is_thread_within T B lp' J' s z' slack' y (λ e. rw r (omega (arith, i, j, thread_within_is T B lp J st z slack y o (able_back y e))))

  lift_line : (slack slack' more : ℕ) (k : List ℕ) → ((y : ℕ) → Memᴰ y k → J' (next_of st y) ≤ J (next_of st y) + more) → slack ≤ slack' → lp + more ≤ lp' → LineWithin T B lp J st slack k
      → LineWithin T B lp' J' s slack' k
  unfolding LineWithin
  lift_line slack slack' more [] i j n o = tt
  lift_line slack slack' more (t ∷ k) i j n o = (
    lift t (bottom (t ∷ k)) (bottom (t ∷ k)) slack slack' more (i t (mathlib.Core.List.Memᴰ.head refl)) (omega (arith, j, n)) o.0,
    (λ y e. lift y (bottom (t ∷ k)) (bottom (t ∷ k)) 0 0 more (i y (mathlib.Core.List.Memᴰ.tail e)) (omega (arith, n)) (o.1 y e)),
  )

  -- a held thread alone, whose worker grows older
  lift_one : (slack : ℕ) (t : ℕ) → LineWithin T B lp J st slack (t ∷ []) → LineWithin T B lp' J' s (suc slack) (t ∷ [])
  unfolding LineWithin
  lift_one slack t o = (
    lift t (bottom (t ∷ [])) (bottom (t ∷ [])) slack (suc slack) 1 (omega (arith, one_more (next_of st t))) (omega arith) o.0,
    (λ y e. absurd (mathlib.Core.List.Memᴰ.not-nil e)),
  )

  all_lift : (E : List Deque) → owned_by w E ≡ 0
      → ((g : Deque) → Memᴰ g E → (g.owner ≡ w → ⊥) → ((v : ℕ) → Memᴰ v (line (held_by st) g) → Memᴰ v (lines_of (held_by st) E)) → LineWithin T B lp J st (slack_of B old g) (line (held_by st) g)
      → LineWithin T B lp' J' s (slack_of B new g) (line (held_by st) g)) → LinesWithin T B lp J old st E → LinesWithin T B lp' J' new s E
  unfolding LinesWithin owned_by lines_of
  all_lift [] e n o = tt
  all_lift (g ∷ E) e n o = go (eqb g.owner w) refl (all_lift E)
    where
      other : eqb g.owner w ≡ false → held_by s g.owner ≡ held_by st g.owner
      other r = Steals.held_others T l p K few w below c far J D I free some g.owner (eqb-false g.owner w r)

      go : (r : Bool) → eqb g.owner w ≡ r
          → (owned_by w E ≡ 0
          → ((g : Deque) → Memᴰ g E → (g.owner ≡ w → ⊥) → ((v : ℕ) → Memᴰ v (line (held_by st) g) → Memᴰ v (lines_of (held_by st) E)) → LineWithin T B lp J st (slack_of B old g) (line (held_by st) g)
          → LineWithin T B lp' J' s (slack_of B new g) (line (held_by st) g)) → LinesWithin T B lp J old st E → LinesWithin T B lp' J' new s E)
          → LineWithin T B lp' J' s (slack_of B new g) (line (held_by s) g) × LinesWithin T B lp' J' new s E
      go true r ih = absurd (let z : 1 + owned_by w E ≡ 0 = rw r at e in omega (arith, z))
      go false r ih =
          let z : held_by s g.owner ≡ held_by st g.owner = other r in (
            rw z (n g (mathlib.Core.List.Memᴰ.head refl) (eqb-false g.owner w r) (λ v i. mathlib.Core.List.Memᴰ.append_left (lines_of (held_by st) E) i) o.0),
            ih (let y : 0 + owned_by w E ≡ 0 = rw r at e in omega (arith, y))
                (λ g' m u i. n g' (mathlib.Core.List.Memᴰ.tail m) u (λ v j. mathlib.Core.List.Memᴰ.append_right (line (held_by st) g) (i v j))) o.1,
          )

  older : (g : Deque) → (g.owner ≡ w → ⊥) → slack_of B old g ≤ slack_of B new g
  older g n = go (ltb g.owner 16)
    where
      go : (q : Bool) → pick q (old g.owner) B ≤ pick q (new g.owner) B
      go true = omega (arith, ages g.owner n)
      go false = omega arith

  parts : LinesWithin T B lp J old st P.front × LinesWithin T B lp J old st (d ∷ P.rest)
  parts = lines_within_split T B lp J old st P.front (d ∷ P.rest) (subst (LinesWithin T B lp J old st) P.whole W)

  here : LineWithin T B lp J st (slack_of B old d) L × LinesWithin T B lp J old st P.rest
  here = lines_within_head T B lp J old st d P.rest parts.1

  rest_lift : LinesWithin T B lp' J' new s P.rest
  rest_lift =
      all_lift P.rest (Steals.rest_clear T l p K few w below c far J D I free some)
      (λ g m n i o. lift_line (slack_of B old g) (slack_of B new g) 0 (line (held_by st) g)
      (λ y e. omega (arith, flat (next_of st y) (Steals.rest_beyond T l p K few w below c far J D I free some y (i y e)))) (older g n) (omega arith) o)
      here.1

  leap_one : thread_left_of c ds ≡ true → lp' ≡ suc lp
  unfolding leaps_at
  leap_one e = rw (free, some, e) (omega arith)

  bare_line : (g : Deque) → (g.owner ≡ w → ⊥) → is_empty g.threads ≡ true → LineWithin T B lp J st (slack_of B old g) (line (held_by st) g) → LineWithin T B lp' J' s (slack_of B new g) (line (held_by st) g)
  unfolding LineWithin
  bare_line g n e = rw (empty_is g.threads e, ages g.owner n) (go (ltb g.owner 16))
    where
      go : (q : Bool) → LineWithin T B lp J st (pick q (old g.owner) B) (pick q (held_by st g.owner ∷ []) []) → LineWithin T B lp' J' s (pick q (suc (old g.owner)) B) (pick q (held_by st g.owner ∷ []) [])
      go true o = lift_one (old g.owner) (held_by st g.owner) o
      go false o = tt

  front_lift : LinesWithin T B lp' J' new s P.front
  front_lift = go (thread_left_of c ds) refl
    where
      go : (q : Bool) → thread_left_of c ds ≡ q → LinesWithin T B lp' J' new s P.front
      go true e =
          all_lift P.front (Steals.front_clear T l p K few w below c far J D I free some)
          (λ g m n i o. lift_line (slack_of B old g) (slack_of B new g) 1 (line (held_by st) g) (λ y r. omega (arith, one_more (next_of st y))) (older g n) (omega (arith, leap_one e)) o) parts.0
      go false e =
          all_lift P.front (Steals.front_clear T l p K few w below c far J D I free some) (λ g m n i o. bare_line g n (P.bare e g m) o) parts.0

  -- the line that is robbed, and the thread stolen
  chain : Chained T J st 0 L
  chain = (Steals.mine T l p K few w below c far J D I free some).0

  bottom_is : bottom L ≡ b
  bottom_is = Steals.l_bottom T l p K few w below c far J D I free some

  bottom_alone : (t : ℕ) → bottom (t ∷ []) ≡ t
  unfolding bottom
  bottom_alone t = refl

  bottom_second : (t y : ℕ) (k : List ℕ) → bottom (t ∷ y ∷ k) ≡ bottom (y ∷ k)
  unfolding bottom
  bottom_second t y k = refl

  slack_w : slack_of B new (deque w []) ≡ B
  slack_w = rw (lt-ltb w 16 (omega (arith, few, below))) fresh

  -- a line of one thread that can be stolen has no owner
  nobody_owns : (t : ℕ) → L ≡ t ∷ [] → slack_of B old d ≤ B
  nobody_owns t e = go (ltb d.owner 16) d.threads some e
    where
      go : (q : Bool) (k : List ℕ) → is_empty k ≡ false → pick q (held_by st d.owner ∷ k) k ≡ t ∷ [] → pick q (old d.owner) B ≤ B
      go true [] i r = no_way cc
      go true (x ∷ k) i r = no_way (cc)
      go false k i r = omega arith

  above_lift : (slack slack' : ℕ) → slack ≤ slack' → (k : List ℕ) → Chained T J st 0 k → LineWithin T B lp J st slack k → LineWithin T B lp' J' s slack' (above k)
  unfolding LineWithin above
  above_lift slack slack' i [] ch o = tt
  above_lift slack slack' i (t ∷ []) ch o = tt
  above_lift slack slack' i (t ∷ y ∷ k) ch o =
      let n : nest T (bottom (above (t ∷ y ∷ k))) ≡ suc (nest T (bottom (t ∷ y ∷ k))) = above_nest T l J st 0 (t ∷ y ∷ k) ch refl in
      let h = line_within_top T B lp J old st slack t (y ∷ k) o in
      top_line_within T B lp' J' new s slack' t (above (y ∷ k))
      (lift t (bottom (t ∷ y ∷ k)) (bottom (above (t ∷ y ∷ k))) slack slack' 1 (omega (arith, one_more (next_of st t))) (omega (arith, i, n)) h.0)
      (λ z e. lift z (bottom (t ∷ y ∷ k)) (bottom (above (t ∷ y ∷ k))) 0 0 1 (omega (arith, one_more (next_of st z))) (omega (arith, n)) (h.1 z (above_in z (y ∷ k) e)))

  stolen_lift : (k : List ℕ) → L ≡ k → ThreadWithin T B lp' J' s b B b
  stolen_lift [] e = no_way (cc (Steals.l_some T l p K few w below c far J D I free some))
  stolen_lift (t ∷ []) e =
      let z : t ≡ b = sym (bottom_alone t) ∙ ap bottom (sym e) ∙ bottom_is in
      let h : ThreadWithin T B lp J st (bottom (t ∷ [])) (slack_of B old d) t = (line_within_top T B lp J old st (slack_of B old d) t [] (subst (LineWithin T B lp J st (slack_of B old d)) e here.0)).0 in
      let h2 : ThreadWithin T B lp J st b (slack_of B old d) b = subst (λ (y : ℕ). ThreadWithin T B lp J st y (slack_of B old d) b) (bottom_alone t ∙ z) (subst (ThreadWithin T B lp J st (bottom (t ∷ [])) (slack_of B old d)) z h) in
      lift b b b (slack_of B old d) B 0 (omega (arith, flat (next_of st b) (omega arith))) (omega (arith, nobody_owns t e)) h2
  stolen_lift (t ∷ y ∷ k) e =
      let z : bottom (t ∷ y ∷ k) ≡ b = ap bottom (sym e) ∙ bottom_is in
      let h = (line_within_top T B lp J old st (slack_of B old d) t (y ∷ k) (subst (LineWithin T B lp J st (slack_of B old d)) e here.0)).1 in
      let m : Memᴰ b (y ∷ k) = subst (λ (v : ℕ). Memᴰ v (y ∷ k)) (sym (bottom_second t y k) ∙ z) (bottom_in (y ∷ k) refl) in
      let h2 : ThreadWithin T B lp J st b 0 b = subst (λ (v : ℕ). ThreadWithin T B lp J st v 0 b) z (h b m) in
      lift b b b 0 B 0 (omega (arith, flat (next_of st b) (omega arith))) (omega arith) h2

  thief_within : LinesWithin T B lp' J' new s (deque w [] ∷ P.rest)
  thief_within =
      lines_within_cons T B lp' J' new s (deque w []) P.rest
      (subst (λ (z : ℕ). LineWithin T B lp' J' s z (line (held_by s) (deque w []))) (sym slack_w)
      (subst (LineWithin T B lp' J' s B) (sym (Steals.thief_line T l p K few w below c far J D I free some))
      (top_line_within T B lp' J' new s B b [] (subst (λ (v : ℕ). ThreadWithin T B lp' J' s v B b) (sym (bottom_alone b)) (stolen_lift L refl)) (λ y e. absurd (mathlib.Core.List.Memᴰ.not-nil e)))))
      rest_lift

  robbed_within : LinesWithin T B lp' J' new s (kept (deque d.owner (above d.threads)) (deque w [] ∷ P.rest))
  robbed_within = go (eqb d.owner 16 && is_empty (above d.threads))
    where
      go : (q : Bool) → LinesWithin T B lp' J' new s (pick q (deque w [] ∷ P.rest) (deque d.owner (above d.threads) ∷ deque w [] ∷ P.rest))
      go true = thief_within
      go false =
          lines_within_cons T B lp' J' new s (deque d.owner (above d.threads)) (deque w [] ∷ P.rest)
          (subst (LineWithin T B lp' J' s (slack_of B new d)) (sym (Steals.robbed_line T l p K few w below c far J D I free some))
          (above_lift (slack_of B old d) (slack_of B new d) (older d (Steals.other T l p K few w below c far J D I free some)) L chain here.0))
          thief_within

  pub steal_lines_within : LinesWithin T B lp' J' new s (robbed w c ds)
  steal_lines_within = subst (LinesWithin T B lp' J' new s) (sym P.robs) (lines_within_append T B lp' J' new s P.front _ front_lift robbed_within)
