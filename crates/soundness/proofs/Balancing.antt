-- The balances so far, from the last thread to the first: what the clauses on the threads give, each action's step, and the array with one thread more.
use mathlib.Core.Path.{◌≡◌, refl, sym, ap, ◌∙◌}
use Prim.Native.Nat.{ℕ, suc, ◌+◌, ◌-◌, ◌≤◌, ◌<◌}
use mathlib.Core.List.{List}
use mathlib.Core.Bool.{Bool, true, false}
use native.Mathlib.Decide.{ℕ_discrete}
use native.Mathlib.Omega.{arith}
use borrow.Author.Tests.{eqb-true, ltb-true, lt-ltb}
use lib.Dec.{eqb}
use lib.ListN.{get_or, set, replicate, length-set}
use lib.Seq.{get_or-set_same, get_or-set_other}
use Rattle.table.specs.Sum.{pick, sum_to}
use Rattle.table.specs.Format.{code_of, is, Table, kind, table_of}
use Rattle.table.specs.declared.kinds.Kind.{Kind}
use Rattle.table.specs.declared.kinds.Kind.TheVariants.{Alloc as alloc, Free as free, Join as join}
use Rattle.table.specs.Checks.{owner, end_of, alloc_of, free_of}
use Rattle.table.proofs.Tests.{other_is}
use Rattle.table.proofs.Bodies.{after_end, owner_is, join_above, join_below, body_within}
use Rattle.schedule.specs.Machine.{ended}
use Rattle.schedule.specs.Sound.{done_in, next_in_body, in_order, balance_to, progress_in}
use Rattle.order.specs.Words.{all_below}
use Rattle.order.proofs.Lawful.{Lawful}
use Rattle.order.proofs.Lists.{get_d_alike}
use Rattle.order.proofs.Words.{all_below_exactly}
use Rattle.schedule.proofs.Sound.Clauses.{next_in_body_exactly, in_order_exactly, status_follows_exactly}
use Rattle.order.proofs.Joins.{join_depends}
use Rattle.schedule.proofs.Sound.Balances.{balance_bound, balance_step, balance_free, balance_join}
use Rattle.soundness.specs.Code.Checks.{Accepted, done_to, threads_sound}
use Rattle.soundness.specs.Code.Balancing.{Balances, Balancing, Balanced}
use Rattle.soundness.proofs.Lookups.{accepted_lawful, few_threads, thread_below}
use Rattle.soundness.proofs.Chains.{first_of, second_of}
use Rattle.soundness.proofs.Done.{in_body}

-- ---- what the clauses on the threads give

module _ {s : List ℕ} {n : ℕ} (next status : List ℕ) (k : Accepted s n) (e : threads_sound (table_of s) n next status ≡ true) where
  l : Lawful (table_of s)
  l = accepted_lawful k

  from_n : {t : ℕ} → t < (table_of s).threads → t < n
  from_n h = omega (arith, k.threads)

  in_own_body : (t : ℕ) → t < (table_of s).threads → ((table_of s).first t ≤ get_or next t 0) × (get_or next t 0 ≤ end_of (table_of s) t)
  in_own_body t h = (next_in_body_exactly (table_of s) next t).0 ((all_below_exactly _ n).0 (first_of _ _ e) t (from_n h))

  ordered : (a : ℕ) → a < (table_of s).actions → in_order (table_of s) next status a ≡ true
  ordered a h = (all_below_exactly _ _).0 (first_of _ _ (second_of (all_below (next_in_body (table_of s) next) n) _ e)) a h

  ended_last : (t : ℕ) → t < (table_of s).threads → get_or status t 0 ≡ ended → get_or next t 0 ≡ end_of (table_of s) t
  ended_last t h =
      ((status_follows_exactly (table_of s) next status t).0
      ((all_below_exactly _ n).0
      (first_of _ _ (second_of (all_below (in_order (table_of s) next status) (table_of s).actions) _ (second_of (all_below (next_in_body (table_of s) next) n) _ e))) t (from_n h))).1.0

  -- where what is done of a thread stops
  pub stop_progress : (t : ℕ) → t < (table_of s).threads → done_to next status t ≡ (table_of s).first t + progress_in (table_of s) next status t
  unfolding progress_in
  stop_progress t h = go (eqb (get_or status t 0) ended) refl
    where
      go : (q : Bool) → eqb (get_or status t 0) ended ≡ q
          → pick q (get_or next t 0 + 1) (get_or next t 0) ≡ (table_of s).first t + pick q ((table_of s).count t) (get_or next t 0 - (table_of s).first t)
      go true q = omega (arith, ended_last t h (eqb-true _ _ q), after_end (table_of s) l.contents t h)
      go false q = omega (arith, in_own_body t h)

  pub stop_low : (t : ℕ) → t < (table_of s).threads → (table_of s).first t ≤ done_to next status t
  stop_low t h = omega (arith, stop_progress t h)

  pub stop_high : (t : ℕ) → t < (table_of s).threads → done_to next status t ≤ (table_of s).first t + (table_of s).count t
  stop_high t h = go (eqb (get_or status t 0) ended)
    where
      go : (q : Bool) → pick q (get_or next t 0 + 1) (get_or next t 0) ≤ (table_of s).first t + (table_of s).count t
      go true = omega (arith, in_own_body t h, after_end (table_of s) l.contents t h)
      go false = omega (arith, in_own_body t h, after_end (table_of s) l.contents t h)

  -- what stands below it is done
  pub below_stop : (t : ℕ) → t < (table_of s).threads → (a : ℕ) → (table_of s).first t ≤ a → a < done_to next status t → done_in (table_of s) next status a ≡ true
  below_stop t h a f b = in_body (table_of s) l next status t h a f (omega (arith, stop_high t h)) ∙ lt-ltb a (done_to next status t) b

  -- the child of a join that is done has done all its actions
  join_final : (a : ℕ) → a < (table_of s).actions → kind (table_of s) a ≡ join → done_in (table_of s) next status a ≡ true
      → progress_in (table_of s) next status ((table_of s).argument a) ≡ (table_of s).count ((table_of s).argument a)
  join_final a h j d =
      let c : ℕ = (table_of s).argument a in
      let w : c < (table_of s).threads = join_below (table_of s) l.contents l.bodies a h j in
      let low : (table_of s).first c ≤ end_of (table_of s) c = omega (arith, in_own_body c w) in
      let high : end_of (table_of s) c < (table_of s).first c + (table_of s).count c = omega (arith, after_end (table_of s) l.contents c w) in
      let done : done_in (table_of s) next status (end_of (table_of s) c) ≡ true =
      (in_order_exactly (table_of s) next status a).0 (ordered a h) d (end_of (table_of s) c) (join_depends (table_of s) a j) in
      let past : end_of (table_of s) c < done_to next status c = ltb-true _ _ (sym (in_body (table_of s) l next status c w (end_of (table_of s) c) low high) ∙ done) in
      omega (arith, stop_progress c w, stop_high c w, after_end (table_of s) l.contents c w)

  -- ---- one thread more

  pub balancing : (t : ℕ) → t < n → (stop : ℕ) → stop ≡ done_to next status t → (balances : List ℕ) → Balances (table_of s) next status balances (t + 1)
      → ((a : ℕ) → (table_of s).argument a < 16777216) → Balancing s n t stop balances
  balancing t h stop d balances b small =
      let w : t < (table_of s).threads = thread_below k h in
      record {
        accepted = k;
        thread = h;
        from = rw d (stop_low t w);
        upto = rw d (stop_high t w);
        small = small;
        children = λ a f g j. child a f (rw d at g) j;
      }
    where
      child : (a : ℕ) → (table_of s).first t ≤ a → a < done_to next status t → kind (table_of s) a ≡ join
          → get_or balances ((table_of s).argument a) 0 ≡ balance_to (table_of s) ((table_of s).argument a) ((table_of s).count ((table_of s).argument a))
      child a f g j =
          let w : t < (table_of s).threads = thread_below k h in
          let i : a < (table_of s).actions = omega (arith, stop_high t w, body_within (table_of s) l.contents t w) in
          let o : owner (table_of s) a ≡ t = owner_is (table_of s) l.contents t a w f (omega (arith, stop_high t w)) in
          let above : t < (table_of s).argument a = rw o at (join_above (table_of s) l.contents l.bodies a i j) in
          b.right ((table_of s).argument a) (omega (arith, above)) (join_below (table_of s) l.contents l.bodies a i j)
          ∙ ap (balance_to (table_of s) ((table_of s).argument a)) (join_final a i j (below_stop t w a f g))

  pub balances_next : (t : ℕ) → t < n → (stop : ℕ) → stop ≡ done_to next status t → (balances : List ℕ) → Balances (table_of s) next status balances (t + 1)
      → (sum : ℕ) → Balanced s t stop stop sum → Balances (table_of s) next status (set balances t sum) t
  balances_next t h stop d balances b sum v =
      record {
        size = length-set balances t sum ∙ b.size;
        right = λ u i j. go u i j (ℕ_discrete u t);
        rest = λ u i. get_or-set_other balances t u sum 0 (λ q. omega (arith, thread_below k h)) ∙ b.rest u i;
      }
    where
      go : (u : ℕ) → t ≤ u → u < (table_of s).threads → Dec (u ≡ t) → get_or (set balances t sum) u 0 ≡ balance_to (table_of s) u (progress_in (table_of s) next status u)
      go u i j (yes q) =
          let m : stop - (table_of s).first t ≡ progress_in (table_of s) next status t = omega (arith, stop_progress t (thread_below k h)) in
          rw q (get_or-set_same balances t sum 0 (omega (arith, b.size, few_threads k)) ∙ v.value ∙ ap (balance_to (table_of s) t) m)
      go u i j (no q) = get_or-set_other balances t u sum 0 q ∙ b.right u (omega (arith, q)) j

pub balances_none : {s : List ℕ} {n : ℕ} → Accepted s n → (next status balances : List ℕ) → balances ≡ replicate 1024 0 → Balances (table_of s) next status balances n
balances_none k next status balances e =
    record { size = rw e; right = λ t h i. absurd (omega (arith, k.threads)); rest = λ t h. rw e (get_d_alike 1024 t 0) }

-- ---- one action more

pub balanced_none : (s : List ℕ) (t stop a : ℕ) → a ≡ (table_of s).first t → (table_of s).first t ≤ stop → Balanced s t stop a 0
unfolding sum_to
balanced_none s t stop a e h =
    let m : a - (table_of s).first t ≡ 0 = omega arith in
    record { from = omega arith; upto = omega arith; value = rw m }

alloc_small : (T : Table) → ((a : ℕ) → T.argument a < 16777216) → (a : ℕ) → alloc_of T a ≤ 16777215
unfolding alloc_of
alloc_small T small a = go (is alloc (kind T a))
  where
    go : (q : Bool) → pick q (T.argument a) 0 ≤ 16777215
    go true = omega (arith, small a)
    go false = omega arith

module _ (s : List ℕ) (n t stop a before : ℕ) (balances : List ℕ) (z : Balancing s n t stop balances) (b : Balanced s t stop a before) (h : a < stop)
    (k : Kind) (x : ℕ) (e : k ≡ kind (table_of s) a) (d : x ≡ (table_of s).argument a) where
  lawful : Lawful (table_of s)
  lawful = accepted_lawful z.accepted

  below : t < (table_of s).threads
  below = thread_below z.accepted z.thread

  abbrev i : ℕ
  i = a - (table_of s).first t

  place : (table_of s).first t + i ≡ a
  place = omega (arith, b.from)

  inside : i < (table_of s).count t
  inside = omega (arith, b.from, z.upto)

  bound : (u : ℕ) → u < (table_of s).threads → (j : ℕ) → j ≤ (table_of s).count u → balance_to (table_of s) u j ≤ 137438945280
  bound u w j m =
      omega (arith, balance_bound (table_of s) lawful u w 16777215 (λ a q. alloc_small (table_of s) z.small a) j m, lawful.few_actions)

  pub before_small : before ≤ 137438945280
  before_small = rw b.value (bound t below i (omega (arith, inside)))

  found : (y : ℕ) → y ≡ balance_to (table_of s) t (suc i) → Balanced s t stop (a + 1) y
  found y q =
      let m : a + 1 - (table_of s).first t ≡ suc i = omega (arith, b.from) in
      record { from = omega (arith, b.from); upto = omega arith; value = rw m q }

  step : is join (kind (table_of s) a) ≡ false → balance_to (table_of s) t (suc i) + free_of (table_of s) a ≡ before + alloc_of (table_of s) a
  step j = rw b.value (rw place at (balance_step (table_of s) lawful t below i inside (rw place j)))

  pub past_alloc : k ≡ alloc → Balanced s t stop (a + 1) (before + x)
  unfolding alloc_of free_of is code_of
  past_alloc q =
      let c : kind (table_of s) a ≡ alloc = sym e ∙ q in
      found _ (omega (arith, rw c at (step (rw c))))

  pub free_room : k ≡ free → x ≤ before
  free_room q = rw (d, b.value) (rw place at (balance_free (table_of s) lawful t below i inside (rw place (sym e ∙ q))))

  pub past_free : k ≡ free → Balanced s t stop (a + 1) (before - x)
  unfolding alloc_of free_of is code_of
  past_free q =
      let c : kind (table_of s) a ≡ free = sym e ∙ q in
      found _ (omega (arith, free_room q, rw c at (step (rw c))))

  child : k ≡ join → x < (table_of s).threads
  child q =
      rw d (join_below (table_of s) lawful.contents lawful.bodies a (omega (arith, inside, b.from, body_within (table_of s) lawful.contents t below)) (sym e ∙ q))

  pub child_few : k ≡ join → x < 1024
  child_few q = omega (arith, child q, lawful.few_threads)

  child_final : k ≡ join → get_or balances x 0 ≡ balance_to (table_of s) x ((table_of s).count x)
  child_final q = rw d (z.children a b.from h (sym e ∙ q))

  pub child_small : k ≡ join → get_or balances x 0 ≤ 137438945280
  child_small q = rw (child_final q) (bound x (child q) ((table_of s).count x) (omega arith))

  pub past_join : k ≡ join → Balanced s t stop (a + 1) (before + get_or balances x 0)
  past_join q =
      found _ (rw (child_final q, b.value, d) (sym (rw place at (balance_join (table_of s) lawful t below i inside (rw place (sym e ∙ q))))))

  pub past_other : (k ≡ alloc → ⊥) → (k ≡ free → ⊥) → (k ≡ join → ⊥) → Balanced s t stop (a + 1) before
  unfolding alloc_of free_of
  past_other p q r =
      let u : is alloc (kind (table_of s) a) ≡ false = rw (← e) (other_is alloc k p) in
      let v : is free (kind (table_of s) a) ≡ false = rw (← e) (other_is free k q) in
      let w : is join (kind (table_of s) a) ≡ false = rw (← e) (other_is join k r) in
      found _ (omega (arith, rw (u, v) at (step w)))
