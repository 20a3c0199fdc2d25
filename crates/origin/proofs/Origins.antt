-- Which action of the table as given an action of the table that runs is: each action as given is the origin of exactly one, of the same kind, argument and thread, in order; and it is read off
-- the table that runs and K.
use Rattle.std.specs.Prelude.{Ok}
use Prim.Native.Nat.{ℕ, zero, suc, ◌+◌, ◌-◌, ◌*◌, ◌/◌, ◌≤◌, ◌<◌}
use native.Mathlib.Omega.{arith}
use native.Mathlib.Decide.{dec_lt, ℕ_discrete}
use mathlib.Core.Path.{◌≡◌, refl, sym, ap, ◌∙◌}
use mathlib.Core.List.{List}
use mathlib.Core.Bool.{Bool, true, false, ◌&&◌, ◌||◌}
use lib.Dec.{ltb, leb}
use borrow.Author.Tests.{le-ltb, le-leb, lt-leb}
use Rattle.table.specs.Sum.{pick, sum_to, any_below}
use Rattle.table.specs.Format.{is, code_of, Table, table_of, kind}
use Rattle.table.specs.declared.kinds.Kind.TheVariants.{Fork as fork, Join as join}
use Rattle.table.specs.Checks.{owner, outside}
use Rattle.table.specs.Written.{written}
use Rattle.table.proofs.Tests.{is_true}
use Rattle.table.proofs.Bodies.{fork_below_lem, join_below}
use Rattle.order.proofs.Lawful.{Lawful, lawful}
use Rattle.filling.specs.Filled.{big, dummies, new_threads, filled_bodies, filled_out}
use Rattle.filling.specs.Filling.{fill_found}
use Rattle.filling.specs.Code.Steps.{Ready}
use Rattle.filling.proofs.FilledTable.{Fits, any_false, fills}
use Rattle.filling.proofs.Measured.{found_ready}
use Rattle.origin.specs.Origin.{no_action, written_to, place_of, origin_of, given_threads, bigs_to, put_in, origin_in}
use Rattle.origin.proofs.Places.{written_none, written_part, written_next, front_big, front_small, place_rise, Group, group, origin_place, origin_none, origin_only}
use Rattle.origin.proofs.Laid.{Laid, sums_to, sums_all, laid_filled, laid_given}

or-true : (q : Bool) → (q || true) ≡ true
or-true true = refl
or-true false = refl

neither : (p q : Bool) → p ≡ false → q ≡ false → (p || q) ≡ false
neither p q e f = rw (e, f)

chosen : (o l p : Bool) (x : ℕ) → o ≡ false → l ≡ false → p ≡ false → pick (o || l) no_action (pick p no_action x) ≡ x
chosen o l p x e f g = rw (e, f, g)

dropped : (o l p : Bool) (x : ℕ) → o ≡ false → p ≡ true → pick (o || l) no_action (pick p no_action x) ≡ no_action
dropped o true p x e g = rw e
dropped o false p x e g = rw (e, g)

written_is : (T : Table) (K k : ℕ) → written_to T K k ≡ k + 2 * bigs_to T K k
unfolding sum_to
written_is T K zero = written_none T K
written_is T K (suc k) = go (big T K k) refl (written_is T K k)
  where
    go : (q : Bool) → big T K k ≡ q → written_to T K k ≡ k + 2 * bigs_to T K k → written_to T K (suc k) ≡ suc k + 2 * (bigs_to T K k + pick (big T K k) 1 0)
    go true e ih = rw e (omega (arith, written_next T K k, front_big T K k e, ih))
    go false e ih = rw e (omega (arith, written_next T K k, front_small T K k e, ih))

module _ (T : Table) (K : ℕ) (U : Table) (z : Laid T K U) (l : Lawful T) (some : 1 ≤ K) (few : K < 16777216) where
  given_is : given_threads U K ≡ T.threads
  unfolding new_threads big dummies
  given_is =
      let h : ℕ → ℕ = λ x. pick (ltb K x) (2 * ((x + K - 1) / K) - 1) 0 in
      let h_none : pick (ltb K 0) (2 * ((0 + K - 1) / K) - 1) 0 ≡ 0 = rw (le-ltb K 0 (omega arith)) in
      let e : sum_to (new_threads U K) U.actions ≡ sum_to (new_threads T K) T.actions = sums_all T K U z (λ x. pick (ltb K x) (2 * ((x + K - 1) / K) - 1) 0) h_none in
      omega (arith, z.threads, e)

  bigs_are : (k : ℕ) → k ≤ T.actions → bigs_to U K (written_to T K k) ≡ bigs_to T K k
  unfolding big
  bigs_are k h = sums_to T K U z (λ x. pick (ltb K x) 1 0) (rw (le-ltb K 0 (omega arith))) k h

  ranged : outside 1 16777215 K ≡ false
  ranged = rw (le-ltb K 1 some, le-ltb 16777215 K (omega arith))

  abbrev names : ℕ → Bool
  names i = (is fork (kind U i) || is join (kind U i)) && leb T.threads (U.argument i)

  -- an action as given is not put in
  own_stays : (a : ℕ) → a < T.actions → names (place_of T K a) ≡ false
  own_stays a h =
      rw (z.own_kind a h, z.own_argument a h)
      (go (is fork (kind T a)) refl (is join (kind T a)) refl)
    where
      go : (p : Bool) → is fork (kind T a) ≡ p → (q : Bool) → is join (kind T a) ≡ q → ((p || q) && leb T.threads (T.argument a)) ≡ false
      go true p q r = lt-leb T.threads (T.argument a) (fork_below_lem T l.contents l.bodies a h (is_true fork (kind T a) p))
      go false p true r = lt-leb T.threads (T.argument a) (join_below T l.contents l.bodies a h (is_true join (kind T a) r))
      go false p false r = refl

  put_is : (i : ℕ) → put_in U (given_threads U K) i ≡ (leb (written_to T K T.actions) i || names i)
  unfolding put_in
  put_is i = ap (λ (n : ℕ). put_in U n i) given_is ∙ ap (λ (w : ℕ). leb w i || names i) z.old

  own_origin : (a : ℕ) → a < T.actions → origin_in U K (place_of T K a) ≡ a
  unfolding origin_in
  own_origin a h =
      let i : ℕ = place_of T K a in
      let w : written_to T K (suc a) ≤ written_to T K T.actions = written_part T K (suc a) T.actions h in
      let n : suc i ≡ written_to T K (suc a) = sym (written_next T K a) in
      let b : bigs_to U K (suc i) ≡ bigs_to T K (suc a) = ap (λ (k : ℕ). bigs_to U K k) n ∙ bigs_are (suc a) h in
      let p : (leb (written_to T K T.actions) i || names i) ≡ false = neither _ _ (lt-leb (written_to T K T.actions) i (omega (arith, w, n))) (own_stays a h) in
      chosen _ _ _ (i - 2 * bigs_to U K (suc i)) ranged (lt-leb U.actions i (omega (arith, w, n, z.within))) (put_is i ∙ p) ∙ omega (arith, n, b, written_is T K (suc a))

  -- what was put in has none
  put_none : (i : ℕ) → (leb (written_to T K T.actions) i || names i) ≡ true → origin_in U K i ≡ no_action
  unfolding origin_in
  put_none i e = dropped _ _ _ (i - 2 * bigs_to U K (suc i)) ranged (put_is i ∙ e)

  fork_none : (a : ℕ) → a < T.actions → big T K a ≡ true → origin_in U K (written_to T K a) ≡ no_action
  unfolding is code_of
  fork_none a h e =
      put_none (written_to T K a)
      (rw (z.fork_kind a h e, le-leb T.threads (U.argument (written_to T K a)) (z.fork_new a h e)) (or-true (leb (written_to T K T.actions) (written_to T K a))))

  join_none : (a : ℕ) → a < T.actions → big T K a ≡ true → origin_in U K (suc (written_to T K a)) ≡ no_action
  unfolding is code_of
  join_none a h e =
      put_none (suc (written_to T K a))
      (rw (z.join_kind a h e, le-leb T.threads (U.argument (suc (written_to T K a))) (z.join_new a h e)) (or-true (leb (written_to T K T.actions) (suc (written_to T K a)))))

  rest_none : (i : ℕ) → written_to T K T.actions ≤ i → origin_in U K i ≡ no_action
  rest_none i h = put_none i (rw (le-leb (written_to T K T.actions) i h))

  -- nothing as given stands in front of an action, where its fork and join are
  front_free : (a i : ℕ) → written_to T K a ≤ i → i < place_of T K a → (b : ℕ) → place_of T K b ≡ i → ⊥
  front_free a i h k b e = go (dec_lt b a)
    where
      go : Dec (b < a) → ⊥
      go (yes p) = absurd (omega (arith, written_part T K (suc b) a p, written_next T K b, e))
      go (no p) = go' (ℕ_discrete a b)
        where
          go' : Dec (a ≡ b) → ⊥
          go' (yes q) = absurd (omega (arith, ap (place_of T K) q, e))
          go' (no q) = absurd (omega (arith, place_rise T K a b (omega (arith, p, q)), e))

  -- the origin read off the table that runs is that by the layout
  pub origin_read : (i : ℕ) → origin_in U K i ≡ origin_of T K i
  origin_read i = go (dec_lt i (written_to T K T.actions))
    where
      in_front_lem : (a : ℕ) → a < T.actions → written_to T K a ≤ i → i < place_of T K a → (q : Bool) → big T K a ≡ q → origin_in U K i ≡ no_action
      in_front_lem a h p k true e = two (ℕ_discrete i (written_to T K a))
        where
          two : Dec (i ≡ written_to T K a) → origin_in U K i ≡ no_action
          two (yes y) = rw y (fork_none a h e)
          two (no y) =
              let x : i ≡ suc (written_to T K a) = omega (arith, y, front_big T K a e) in
              rw x (join_none a h e)
      in_front_lem a h p k false e = absurd (omega (arith, front_small T K a e))

      within : Group T K T.actions i → origin_in U K i ≡ origin_of T K i
      within g = own (ℕ_discrete i (place_of T K g.whose))
        where
          own : Dec (i ≡ place_of T K g.whose) → origin_in U K i ≡ origin_of T K i
          own (yes e) = rw e (own_origin g.whose g.known ∙ sym (origin_place T K T.actions g.whose g.known))
          own (no e) =
              let k : i < place_of T K g.whose = omega (arith, e, g.to) in
              in_front_lem g.whose g.known g.from k (big T K g.whose) refl
              ∙ sym (origin_none T K T.actions i (λ b h. front_free g.whose i g.from k b))

      go : Dec (i < written_to T K T.actions) → origin_in U K i ≡ origin_of T K i
      go (yes p) = within (group T K T.actions i p)
      go (no p) =
          rest_none i (omega (arith, p))
          ∙ sym (origin_none T K T.actions i (λ b h e. omega (arith, written_part T K (suc b) T.actions h, written_next T K b, e, p)))

-- ---- what a user is told, of the table as given and the one that runs with K

pub record Origins (T : Table) (K : ℕ) (U : Table) : Type 0 where
  -- read off the table that runs, by the filling's layout
  pub layout : (i : ℕ) → origin_in U K i ≡ origin_of T K i
  -- an origin is an action of the table as given, of the same kind, argument and thread
  pub same : (i a : ℕ) → origin_in U K i ≡ a → a < no_action
      → (a < T.actions) × (kind U i ≡ kind T a) × (U.argument i ≡ T.argument a) × (owner U i ≡ owner T a)
  -- each action as given is the origin of one
  pub there : (a : ℕ) → a < T.actions → (place_of T K a < U.actions) × (origin_in U K (place_of T K a) ≡ a)
  -- and of no other
  pub once : (i j a : ℕ) → origin_in U K i ≡ a → origin_in U K j ≡ a → a < no_action → i ≡ j
  -- in order
  pub ordered : (i j a b : ℕ) → origin_in U K i ≡ a → origin_in U K j ≡ b → a < no_action → b < no_action → i < j → a < b

module _ (T : Table) (K : ℕ) (U : Table) (z : Laid T K U) (l : Lawful T) (some : 1 ≤ K) (few : K < 16777216) where
  stands : (i a : ℕ) → origin_in U K i ≡ a → a < no_action → (a < T.actions) × (place_of T K a ≡ i)
  stands i a e h = origin_only T K T.actions i a (sym (origin_read T K U z l some few i) ∙ e) h

  pub laid_origins : Origins T K U
  laid_origins =
      record {
        layout = origin_read T K U z l some few;
        same = λ i a e h.
            let (k, p) = stands i a e h in
            let q : (a < T.actions) × (kind U (place_of T K a) ≡ kind T a) × (U.argument (place_of T K a) ≡ T.argument a) × (owner U (place_of T K a) ≡ owner T a) =
            (k, z.own_kind a k, z.own_argument a k, z.own_thread a k) in
            rw p at q;
        there = λ a h. (omega (arith, written_part T K (suc a) T.actions h, written_next T K a, z.within), own_origin T K U z l some few a h);
        once = λ i j a e f h. sym (stands i a e h).1 ∙ (stands j a f h).1;
        ordered = λ i j a b e f h k p. go i j a b (stands i a e h).1 (stands j b f k).1 p (dec_lt a b) (ℕ_discrete a b);
      }
    where
      go : (i j a b : ℕ) → place_of T K a ≡ i → place_of T K b ≡ j → i < j → Dec (a < b) → Dec (a ≡ b) → a < b
      go i j a b e f p (yes q) r = q
      go i j a b e f p (no q) (yes r) = absurd (omega (arith, e, f, ap (place_of T K) r))
      go i j a b e f p (no q) (no r) = absurd (omega (arith, e, f, place_rise T K b a (omega (arith, q, r))))

-- of every table and quota that a beginning accepts
pub origins : (s : List ℕ) (K : ℕ) → fill_found s K ≡ Ok tt → Origins (table_of s) K (table_of (filled_out s K))
unfolding filled_out
origins s K e = go (any_below (big T K) T.actions) refl
  where
    T : Table
    T = table_of s

    r : Ready s T.threads K
    r = found_ready s K e T.threads refl

    fits : Fits T K
    fits = record { threads = r.few_threads; actions = r.few_actions }

    go : (q : Bool) → any_below (big T K) T.actions ≡ q → Origins T K (table_of (pick q (written (filled_bodies T K)) s))
    go true p = laid_origins T K (table_of (written (filled_bodies T K))) (laid_filled T K (table_of (written (filled_bodies T K))) (fills s K r.rules r.some fits)) (lawful s r.rules) r.some r.few
    go false p = laid_origins T K T (laid_given T K (any_false (big T K) T.actions p)) (lawful s r.rules) r.some r.few
