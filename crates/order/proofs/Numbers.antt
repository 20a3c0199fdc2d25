-- The 1DF-numbers of actions: how they run along a thread, over a fork and to a join; and what lies between a fork and the action after it.
use mathlib.Core.Path.{◌≡◌, refl, sym}
use Prim.Native.Nat.{ℕ, zero, suc, ◌-◌, ◌<◌}
use mathlib.Core.List.{List, Memᴰ}
use mathlib.Core.Bool.{Bool, true, false}
use mathlib.Core.Logic.{◌⊎◌, inl, inr, ⊎_elim}
use native.Mathlib.Omega.{arith}
use lib.ListN.{length, get_or}
use Rattle.table.specs.Format.{is, Table, kind}
use Rattle.table.specs.declared.kinds.Kind.TheVariants.{End as end, Fork as fork}
use Rattle.table.specs.Checks.{owner, end_of}
use Rattle.table.specs.Rules.{ContentRules, BodyRules, NestRules, ForkRules}
use Rattle.table.specs.Serial.{serial, serial_order}
use Rattle.table.specs.Level.{fork_below, depends_on}
use Rattle.table.proofs.Tests.{is_true, fork_no_end}
use Rattle.table.proofs.Bodies.{first_within, end_within, owner_of_first, fork_above, fork_below_lem, fork_later, next_within, next_owner}
use Rattle.table.proofs.Nesting.{fork_found}
use Rattle.table.proofs.Serial.{child_within, serial_end, serial_fork, serial_step, serial_induction, serial_below, serial_length}
use Rattle.table.proofs.Rank.{after_child}
use Rattle.table.proofs.Rank.{rank, rank_root, rank_child, rank_fork, rank_step, rank_end, rank_rises, rank_bound}
use Rattle.table.proofs.Levels.{by_place, depends_earlier}
use Rattle.order.specs.Order.{number_of}
use Rattle.order.proofs.Lawful.{Lawful}
use Rattle.order.proofs.Lists.{get_d_member}
use Rattle.order.proofs.Places.{place_of_lem, Climbs, climbs_append, climbs_place, climbs_within, climbs_at}

-- all elements of one list are in another
abbrev Inside : List ℕ → List ℕ → Type 0
Inside k l = (x : ℕ) → Memᴰ x k → Memᴰ x l

-- from e on, each action's thread is that of e, or its fork comes from e on too
abbrev Forked : Table → ℕ → ℕ → Type 0
Forked T e a = (owner T a ≡ owner T e) ⊎ ((0 < owner T a) × Memᴰ (fork_below T T.actions (owner T a)) (serial T e))

module _ (T : Table) (l : Lawful T) where
  -- ---- the rules, as the laws on tables take them

  c : ContentRules T
  c = l.contents

  b : BodyRules T
  b = l.bodies

  n : NestRules T
  n = l.nesting

  f : ForkRules T
  f = l.forking

  -- ---- serial order from an action on

  serial_self : (a : ℕ) → a < T.actions → Memᴰ a (serial T a)
  serial_self = serial_induction T c b (λ (a : ℕ). Memᴰ a (serial T a))
      (λ a h k. rw (serial_end T c b a h k) (mathlib.Core.List.Memᴰ.head refl))
      (λ a h k p q. rw (serial_fork T c b a h k) (mathlib.Core.List.Memᴰ.head refl))
      (λ a h k j p. rw (serial_step T c b a h k j) (mathlib.Core.List.Memᴰ.head refl))

  child_inside : (a : ℕ) → a < T.actions → kind T a ≡ fork → Inside (serial T (T.first (T.argument a))) (serial T a)
  child_inside a h k x m = rw (serial_fork T c b a h k) (mathlib.Core.List.Memᴰ.tail (mathlib.Core.List.Memᴰ.append_left (serial T (suc a)) m))

  next_inside : (a : ℕ) → a < T.actions → is end (kind T a) ≡ false → Inside (serial T (suc a)) (serial T a)
  next_inside a h e x m = go (is fork (kind T a)) refl
    where
      go : (t : Bool) → is fork (kind T a) ≡ t → Memᴰ x (serial T a)
      go true k = rw (serial_fork T c b a h (is_true fork (kind T a) k)) (mathlib.Core.List.Memᴰ.tail (mathlib.Core.List.Memᴰ.append_right (serial T (T.first (T.argument a))) m))
      go false k = rw (serial_step T c b a h e k) (mathlib.Core.List.Memᴰ.tail m)

  -- it is a part of the serial order from the root's first action on
  serial_inside : (a : ℕ) → a < T.actions → Inside (serial T a) (serial_order T)
  serial_inside a h = go (suc a) a (omega arith) h
    where
      go : (k a : ℕ) → a < k → a < T.actions → Inside (serial T a) (serial_order T)
      go zero a p h = absurd (omega arith)
      go (suc k) a p h =
          by_place T c b n f (λ (a : ℕ). ((x : ℕ) → x < a → Inside (serial T x) (serial_order T)) → Inside (serial T a) (serial_order T))
          (λ h ih x m. m)
          (λ a h k ih x m. ih a (fork_later T c b a h k) x (child_inside a h k x m))
          (λ a h e ih x m. ih a (omega arith) x (next_inside a h e x m))
          a h (λ x q. go k x (omega arith) (omega arith))

  -- ranks climb along it
  serial_climbs : (a : ℕ) → a < T.actions → Climbs (rank T) (rank T a) (serial T a)
  serial_climbs = serial_induction T c b (λ (a : ℕ). Climbs (rank T) (rank T a) (serial T a))
      (λ a h k. rw (serial_end T c b a h k) (refl, tt))
      (λ a h k p q.
      let d : ℕ = T.first (T.argument a) in
      let p' : Climbs (rank T) (suc (rank T a)) (serial T d) = rw (rank_child T c b n f a h k) at p in
      rw (serial_fork T c b a h k) (refl, climbs_append (rank T) _ _ (serial T d) (serial T (suc a)) (sym (rank_fork T c b n f a h k)) p' q))
      (λ a h k j p. rw (serial_step T c b a h k j) (refl, rw (rank_step T c b n f a h k j) at p))

  -- an action in it is its first, or is in what a fork or a next action leads to
  inside_induction : (P : ℕ → ℕ → Type 0)
      → ((e : ℕ) → e < T.actions → P e e)
      → ((e a : ℕ) → e < T.actions → kind T e ≡ fork → P (T.first (T.argument e)) a → P e a)
      → ((e a : ℕ) → e < T.actions → is end (kind T e) ≡ false → P (suc e) a → P e a)
      → (e : ℕ) → e < T.actions → (a : ℕ) → Memᴰ a (serial T e) → P e a
  inside_induction P self child next = serial_induction T c b (λ (e : ℕ). (a : ℕ) → Memᴰ a (serial T e) → P e a)
      (λ e h k a m. same e a h (mathlib.Core.List.Memᴰ.eq_of_singleton (rw (serial_end T c b e h k) at m)))
      (λ e h k p q a m.
      ⊎_elim (same e a h)
      (λ m'. ⊎_elim (λ i. child e a h k (p a i)) (λ i. next e a h (fork_no_end k) (q a i)) (mathlib.Core.List.Memᴰ.append_cases (serial T (T.first (T.argument e))) m'))
      (mathlib.Core.List.Memᴰ.cases_cons (rw (serial_fork T c b e h k) at m)))
      (λ e h k j p a m. ⊎_elim (same e a h) (λ i. next e a h k (p a i)) (mathlib.Core.List.Memᴰ.cases_cons (rw (serial_step T c b e h k j) at m)))
    where
      same : (e a : ℕ) → e < T.actions → a ≡ e → P e a
      same e a h p = rw p (self e h)

  serial_forked : (e : ℕ) → e < T.actions → (a : ℕ) → Memᴰ a (serial T e) → Forked T e a
  serial_forked = inside_induction (Forked T) (λ e h. inl refl) child next
    where
      child : (e a : ℕ) → e < T.actions → kind T e ≡ fork → Forked T (T.first (T.argument e)) a → Forked T e a
      child e a h k (inl o) =
          let q : owner T a ≡ T.argument e = cc (owner_of_first T c (T.argument e) (fork_below_lem T c b e h k)) in
          inr (rw q (omega (arith, fork_above T c b e h k), rw (fork_found T c b n e h k) (serial_self e h)))
      child e a h k (inr (p, m)) = inr (p, child_inside e h k _ m)

      next : (e a : ℕ) → e < T.actions → is end (kind T e) ≡ false → Forked T (suc e) a → Forked T e a
      next e a h j (inl o) = inl (cc (next_owner T c b e h j))
      next e a h j (inr (p, m)) = inr (p, next_inside e h j _ m)

  -- ---- numbers

  serial_order_lem : (a : ℕ) → a < T.actions → Memᴰ a (serial_order T)
  serial_order_lem a h = serial_inside a h a (serial_self a h)

  pub number_rank : (a : ℕ) → a < T.actions → number_of T a ≡ rank T a
  unfolding number_of
  number_rank a h =
      let e = climbs_place (rank T) _ a (serial_order T) (serial_climbs (T.first 0) (first_within T c 0 l.some_thread)) (serial_order_lem a h) in
      omega (arith, rank_root T c b n f l.some_thread)

  pub number_below : (a : ℕ) → a < T.actions → number_of T a < T.actions
  number_below a h = rw (number_rank a h) (rank_bound T c b n f a h)

  -- an action stands in serial order at its number
  pub number_place : (a : ℕ) → a < T.actions → get_or (serial_order T) (number_of T a) 0 ≡ a
  unfolding number_of
  number_place a h = place_of_lem a (serial_order T) (serial_order_lem a h)

  -- and at each place below the count of actions one has that number
  pub place_number : (k : ℕ) → k < T.actions → (get_or (serial_order T) k 0 < T.actions) × (number_of T (get_or (serial_order T) k 0) ≡ k)
  place_number k h =
      let a : ℕ = get_or (serial_order T) k 0 in
      let s : 0 < T.threads = l.some_thread in
      let z : T.first 0 < T.actions = first_within T c 0 s in
      let g : k < length (serial_order T) = omega (arith, serial_length T c b n f s) in
      let i : a < T.actions = serial_below T c b (T.first 0) z a (get_d_member (serial_order T) k 0 g) in
      (i, omega (arith, number_rank a i, climbs_at (rank T) _ k (serial_order T) (serial_climbs (T.first 0) z) g, rank_root T c b n f s))

  -- two actions have two numbers
  pub number_once : (a d : ℕ) → a < T.actions → d < T.actions → number_of T a ≡ number_of T d → a ≡ d
  number_once a d h k e = cc (number_place a h, number_place d k)

  pub number_root : number_of T (T.first 0) ≡ 0
  number_root = rw (number_rank (T.first 0) (first_within T c 0 l.some_thread)) (rank_root T c b n f l.some_thread)

  pub number_step : (a : ℕ) → a < T.actions → is end (kind T a) ≡ false → is fork (kind T a) ≡ false → number_of T (suc a) ≡ suc (number_of T a)
  number_step a h e k = rw (number_rank a h, number_rank (suc a) (next_within T c b a h e)) (rank_step T c b n f a h e k)

  pub number_child : (a : ℕ) → a < T.actions → kind T a ≡ fork → number_of T (T.first (T.argument a)) ≡ suc (number_of T a)
  number_child a h k = rw (number_rank a h, number_rank (T.first (T.argument a)) (child_within T c b a h k)) (rank_child T c b n f a h k)

  -- a thread goes on right after the end of the child that it forked
  pub number_resume : (a : ℕ) → a < T.actions → kind T a ≡ fork → number_of T (suc a) ≡ suc (number_of T (end_of T (T.argument a)))
  number_resume a h k =
      let t : ℕ = T.argument a in
      let i : t < T.threads = fork_below_lem T c b a h k in
      rw (number_rank (suc a) (next_within T c b a h (fork_no_end k)), number_rank (end_of T t) (end_within T c t i))
      (omega (arith, rank_end T c b n f t i, after_child T c b n f a h k, rank_fork T c b n f a h k))

  -- a forked child runs before its thread goes on
  pub number_past : (a : ℕ) → a < T.actions → kind T a ≡ fork → number_of T (end_of T (T.argument a)) < number_of T (suc a)
  number_past a h k = omega (arith, number_resume a h k)

  -- numbers rise along a thread
  pub number_rises : (a d : ℕ) → a < d → d < T.actions → owner T a ≡ owner T d → number_of T a < number_of T d
  number_rises a d h k o = rw (number_rank a (omega arith), number_rank d k) (rank_rises T c b n f a d h k o)

  -- whatever an action depends on has a lower number
  pub number_depends : (a d : ℕ) → a < T.actions → Memᴰ d (depends_on T a) → (d < T.actions) × (number_of T d < number_of T a)
  number_depends a d h k =
      let (i, r) = depends_earlier T c b n f a h d k in
      (i, rw (number_rank a h, number_rank d i) r)

  -- ---- between a fork and the action after it: what stands in serial order from the forked thread's first action on

  child_climbs : (x : ℕ) → x < T.actions → kind T x ≡ fork → Climbs (rank T) (suc (rank T x)) (serial T (T.first (T.argument x)))
  child_climbs x h k = rw (rank_child T c b n f x h k) at (serial_climbs (T.first (T.argument x)) (child_within T c b x h k))

  inside_between : (x a : ℕ) → x < T.actions → kind T x ≡ fork → Memᴰ a (serial T (T.first (T.argument x)))
      → (number_of T x < number_of T a) × (number_of T a < number_of T (suc x))
  inside_between x a h k m =
      let i : a < T.actions = serial_below T c b (T.first (T.argument x)) (child_within T c b x h k) a m in
      let w = climbs_within (rank T) _ a _ (child_climbs x h k) m in
      rw (number_rank x h, number_rank a i, number_rank (suc x) (next_within T c b x h (fork_no_end k)), rank_fork T c b n f x h k) (w.0, w.1)

  between_inside : (x a : ℕ) → x < T.actions → kind T x ≡ fork → a < T.actions → number_of T x < number_of T a → number_of T a < number_of T (suc x)
      → Memᴰ a (serial T (T.first (T.argument x)))
  between_inside x a h k i p q =
      let s : List ℕ = serial T (T.first (T.argument x)) in
      let j : ℕ = number_of T a - suc (number_of T x) in
      let g : j < length s = omega (arith, number_rank x h, number_rank (suc x) (next_within T c b x h (fork_no_end k)), rank_fork T c b n f x h k) in
      let m : Memᴰ (get_or s j 0) s = get_d_member s j 0 g in
      let z : get_or s j 0 < T.actions = serial_below T c b (T.first (T.argument x)) (child_within T c b x h k) (get_or s j 0) m in
      let e : number_of T a ≡ number_of T (get_or s j 0) = omega (arith, number_rank x h, number_rank (get_or s j 0) z, climbs_at (rank T) _ j s (child_climbs x h k) g) in
      mathlib.Core.List.Memᴰ.cast (number_once a (get_or s j 0) i z e) m

  -- an action between a fork x and the action after it belongs to the thread forked there, or to one whose fork lies between too
  pub number_between : (x a : ℕ) → x < T.actions → kind T x ≡ fork → a < T.actions → number_of T x < number_of T a → number_of T a < number_of T (suc x)
      → (owner T a ≡ T.argument x)
      ⊎ ((0 < owner T a) × (number_of T x < number_of T (fork_below T T.actions (owner T a))) × (number_of T (fork_below T T.actions (owner T a)) < number_of T (suc x)))
  number_between x a h k i p q = go (serial_forked (T.first (T.argument x)) (child_within T c b x h k) a (between_inside x a h k i p q))
    where
      y : ℕ
      y = fork_below T T.actions (owner T a)

      go : Forked T (T.first (T.argument x)) a → (owner T a ≡ T.argument x) ⊎ ((0 < owner T a) × (number_of T x < number_of T y) × (number_of T y < number_of T (suc x)))
      go (inl o) = inl (cc (owner_of_first T c (T.argument x) (fork_below_lem T c b x h k)))
      go (inr (r, m)) =
          let (u, v) = inside_between x y h k m in
          inr (r, u, v)
