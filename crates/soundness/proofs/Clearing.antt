-- The joined threads cleared, action by action: each step, and what the amounts are in the end.
use mathlib.Core.Path.{◌≡◌, refl, sym, ◌∙◌}
use Prim.Native.Nat.{ℕ, zero, suc, ◌+◌, ◌≤◌, ◌<◌}
use mathlib.Core.List.{List}
use mathlib.Core.Bool.{Bool, true, false, ◌&&◌, and-false}
use native.Mathlib.Decide.{ℕ_discrete}
use native.Mathlib.Numerals.{add-one}
use native.Mathlib.Omega.{arith}
use borrow.Author.Tests.{eq-eqb, ne_eqb, le-ltb}
use lib.Dec.{eqb}
use lib.ListN.{length, set, length-set}
use Rattle.table.specs.Sum.{pick, sum_to, any_below}
use Rattle.table.specs.Format.{is, Table, kind, table_of}
use Rattle.table.specs.declared.kinds.Kind.TheVariants.{Join as join}
use Rattle.table.specs.Checks.{counts_below}
use Rattle.table.proofs.Tests.{same_is}
use Rattle.table.proofs.Bodies.{join_below, first_is, counts_all, body_within}
use Rattle.schedule.specs.Sound.{done_in, joined_in, share_in, shares_in, balance_to, progress_in}
use Rattle.order.proofs.Lawful.{Lawful}
use Rattle.order.proofs.Lists.{set_each}
use Rattle.schedule.proofs.Sound.Sharing.{shares_exactly}
use Rattle.soundness.specs.Code.Checks.{Accepted, done_to, threads_sound}
use Rattle.soundness.specs.Code.Balancing.{Balances, joined_below, Cleared}
use Rattle.soundness.proofs.Lookups.{accepted_lawful, thread_below}
use Rattle.soundness.proofs.Done.{in_body}
use Rattle.soundness.proofs.Balancing.{stop_low, stop_high, below_stop}

any_skip : (f : ℕ → Bool) (a b : ℕ) → a ≤ b → ((d : ℕ) → a ≤ d → d < b → f d ≡ false) → any_below f b ≡ any_below f a
unfolding any_below
any_skip f a zero h n = let e : a ≡ 0 = omega arith in rw e
any_skip f a (suc b) h n = go (ℕ_discrete a (suc b)) (any_skip f a b)
  where
    go : Dec (a ≡ suc b) → (a ≤ b → ((d : ℕ) → a ≤ d → d < b → f d ≡ false) → any_below f b ≡ any_below f a) → pick (f b) true (any_below f b) ≡ any_below f a
    go (yes e) ih = rw e
    go (no e) ih = rw (n b (omega (arith, e)) (omega arith)) (ih (omega (arith, e)) (λ d p q. n d p (omega arith)))

module _ (T : Table) (l : Lawful T) (next status amounts : List ℕ) where
  pub cleared_none : Balances T next status amounts 0 → Cleared T next status amounts 0
  unfolding joined_below any_below
  cleared_none b = record { size = b.size; right = λ u h. b.right u (omega arith) h; rest = b.rest }

  module _ (a : ℕ) (v : Cleared T next status amounts a) where
    -- actions that join no thread, or are not done
    joined_skip : (b : ℕ) → a ≤ b → ((d : ℕ) → a ≤ d → d < b → (is join (kind T d) && done_in T next status d) ≡ false) → (u : ℕ)
        → joined_below T next status u b ≡ joined_below T next status u a
    unfolding joined_below
    joined_skip b h n u =
        any_skip _ a b h (λ d p q. go (is join (kind T d)) (eqb (T.argument d) u) (done_in T next status d) (n d p q))
      where
        go : (x y z : Bool) → (x && z) ≡ false → (x && (y && z)) ≡ false
        go true true z e = e
        go true false z e = refl
        go false y z e = refl

    skip : (b : ℕ) → a ≤ b → ((d : ℕ) → a ≤ d → d < b → (is join (kind T d) && done_in T next status d) ≡ false) → Cleared T next status amounts b
    skip b h n = record { size = v.size; right = λ u i. v.right u i ∙ rw (joined_skip b h n u); rest = v.rest }

    pub cleared_undone : (b : ℕ) → a ≤ b → ((d : ℕ) → a ≤ d → d < b → done_in T next status d ≡ false) → Cleared T next status amounts b
    cleared_undone b h n = skip b h (λ d p q. rw (n d p q) (and-false (is join (kind T d))))

    pub cleared_other : is join (kind T a) ≡ false → Cleared T next status amounts (a + 1)
    cleared_other j = skip (a + 1) (omega arith) (λ d p q. let e : d ≡ a = omega arith in rw (e, j))

    pub cleared_join : a < T.actions → kind T a ≡ join → done_in T next status a ≡ true → Cleared T next status (set amounts (T.argument a) 0) (a + 1)
    unfolding joined_below any_below
    cleared_join h j d =
        record {
          size = length-set amounts c 0 ∙ v.size;
          right =
              rw add-one
              (set_each amounts c 0 0 (λ u y. u < T.threads → y ≡ pick (joined_below T next status u (suc a)) 0 (balance_to T u (progress_in T next status u))) fits
              (λ i. rw (same_is join (kind T a) j, eq-eqb c c refl, d))
              (λ u n i. v.right u i ∙ rw (same_is join (kind T a) j, ne_eqb c u (λ q. n (other q)))));
          rest = set_each amounts c 0 0 (λ u y. T.threads ≤ u → y ≡ 0) fits (λ i. refl) (λ u n. v.rest u);
        }
      where
        c : ℕ
        c = T.argument a

        fits : c < length amounts
        fits = omega (arith, v.size, l.few_threads, join_below T l.contents l.bodies a h j)

        other : {u : ℕ} → c ≡ u → u ≡ c
        other q = cc

  pub cleared_all : Cleared T next status amounts T.actions → amounts ≡ shares_in T next status
  unfolding share_in joined_in joined_below
  cleared_all v = (shares_exactly T l.few_threads next status amounts).1 (record { size = v.size; each = v.right; rest = v.rest })

-- ---- thread by thread

-- the walk has come to thread t
pub record Clearing (s : List ℕ) (n : ℕ) (next status amounts : List ℕ) (t : ℕ) : Type 0 where
  pub accepted : Accepted s n
  pub sound : threads_sound (table_of s) n next status ≡ true
  pub within : t ≤ n
  pub cleared : Cleared (table_of s) next status amounts (counts_below (table_of s) t)

-- and in it to action a
pub record ClearingIn (s : List ℕ) (n : ℕ) (next status : List ℕ) (t stop : ℕ) (amounts : List ℕ) (a : ℕ) : Type 0 where
  pub accepted : Accepted s n
  pub sound : threads_sound (table_of s) n next status ≡ true
  pub thread : t < n
  pub stops : stop ≡ done_to next status t
  pub from : (table_of s).first t ≤ a
  pub upto : a ≤ stop
  pub cleared : Cleared (table_of s) next status amounts a

module _ (s : List ℕ) (n : ℕ) (next status amounts : List ℕ) where
  pub clearing_starts : Accepted s n → threads_sound (table_of s) n next status ≡ true → Balances (table_of s) next status amounts 0 → Clearing s n next status amounts 0
  unfolding sum_to
  clearing_starts k e b =
      record { accepted = k; sound = e; within = omega arith; cleared = cleared_none (table_of s) (accepted_lawful k) next status amounts b }

  module _ (t : ℕ) (i : Clearing s n next status amounts t) where
    pub clearing_enters : t < n → (stop : ℕ) → stop ≡ done_to next status t → (a : ℕ) → a ≡ (table_of s).first t → ClearingIn s n next status t stop amounts a
    clearing_enters h stop d a e =
        let w : t < (table_of s).threads = thread_below i.accepted h in
        let q : counts_below (table_of s) t ≡ a = sym (e ∙ first_is (table_of s) i.accepted.rules.contents t w) in
        record {
          accepted = i.accepted;
          sound = i.sound;
          thread = h;
          stops = d;
          from = omega arith;
          upto = rw (d, e) (stop_low next status i.accepted i.sound t w);
          cleared = rw q at i.cleared;
        }

    pub clearing_ends : n ≤ t → amounts ≡ shares_in (table_of s) next status
    clearing_ends h =
        let e : t ≡ (table_of s).threads = omega (arith, i.within, i.accepted.threads) in
        let q : counts_below (table_of s) t ≡ (table_of s).actions = rw e (counts_all (table_of s) i.accepted.rules.contents) in
        cleared_all (table_of s) (accepted_lawful i.accepted) next status amounts (rw q at i.cleared)

  module _ (t stop a : ℕ) (i : ClearingIn s n next status t stop amounts a) where
    thread : t < (table_of s).threads
    thread = thread_below i.accepted i.thread

    high : done_to next status t ≤ (table_of s).first t + (table_of s).count t
    high = stop_high next status i.accepted i.sound t thread

    pub clearing_asks : a < stop → (a < (table_of s).actions) × (done_in (table_of s) next status a ≡ true)
    clearing_asks h = (
      omega (arith, high, i.stops, body_within (table_of s) i.accepted.rules.contents t thread),
      below_stop next status i.accepted i.sound t thread a i.from (rw i.stops at h),
    )

    pub clearing_goes : a < stop → (amounts' : List ℕ) → Cleared (table_of s) next status amounts' (a + 1) → ClearingIn s n next status t stop amounts' (a + 1)
    clearing_goes h amounts' v =
        record {
          accepted = i.accepted;
          sound = i.sound;
          thread = i.thread;
          stops = i.stops;
          from = omega (arith, i.from);
          upto = omega arith;
          cleared = v;
        }

    -- the rest of the thread's actions are not done
    pub clearing_leaves : stop ≤ a → Clearing s n next status amounts (t + 1)
    unfolding sum_to
    clearing_leaves h =
        let e : a ≡ done_to next status t = omega (arith, i.upto, i.stops) in
        let f : (table_of s).first t ≡ counts_below (table_of s) t = first_is (table_of s) i.accepted.rules.contents t thread in
        record {
          accepted = i.accepted;
          sound = i.sound;
          within = omega (arith, i.thread);
          cleared =
              rw (add-one, ← f)
              (cleared_undone (table_of s) (accepted_lawful i.accepted) next status amounts a i.cleared ((table_of s).first t + (table_of s).count t) (omega (arith, high))
              (λ d p q. in_body (table_of s) (accepted_lawful i.accepted) next status t thread d (omega (arith, i.from)) q ∙ le-ltb d (done_to next status t) (omega arith)));
        }
