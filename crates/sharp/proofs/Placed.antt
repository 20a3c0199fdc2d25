-- Where threads stand that nobody holds: an action and a take keep that they stand at places of rest, whatever these are, so long as a first action, the place after a fork, a join, and an alloc
-- at which the quota is used up are among them.
use mathlib.Core.Path.{◌≡◌, refl}
use Prim.Native.Nat.{ℕ, suc, ◌<◌, ◌≤◌}
use native.Mathlib.Omega.{arith}
use native.Mathlib.Decide.{ℕ_discrete}
use mathlib.Core.Bool.{Bool, true}
use mathlib.Core.Logic.{◌⊎◌, inl, inr}
use lib.ListN.{length, get_or, set}
use lib.Seq.{get_or-set_same, get_or-set_other}
use lib.Dec.{leb, eqb}
use borrow.Author.Tests.{leb-false}
use Rattle.table.specs.Format.{Table, kind}
use Rattle.table.specs.declared.kinds.Kind.{Kind}
use Rattle.table.specs.declared.kinds.Kind.TheVariants.{End as end, Work as work, Alloc as alloc, Free as free, Fork as fork, Join as join, Unknown as unknown}
use Rattle.table.proofs.Bodies.{kind_known}
use Rattle.schedule.specs.Machine.{drawn, State, unborn, ready, held, waiting, ended, next_of, status_of, worker_of, Stepped, act_by, act, taken}
use Rattle.order.proofs.Lawful.{Lawful}
use Rattle.schedule.proofs.Sound.Facts.{Facts}
use Rattle.schedule.proofs.Sound.Done.{undone_unborn, unborn_first}
use Rattle.schedule.proofs.Preservation.Releases.{Acting, acting}
use Rattle.schedule.proofs.Preservation.Ends.{Ended, acting_ended}
use Rattle.schedule.proofs.Preservation.Forks.{Forked, acting_forked}
use Rattle.schedule.proofs.Preservation.Turns.{either}
use Rattle.peaks.proofs.Unpreempted.{Stands}

-- every live thread that nobody holds stands at a place of rest
pub record Placed (T : Table) (rest : ℕ → Bool) (st : State) : Type 0 where
  pub at_rest : (t : ℕ) → t < T.threads → Stands (status_of st t) → rest (next_of st t) ≡ true

-- places of rest that every turn comes to, whatever the quota
pub record Rests (T : Table) (rest : ℕ → Bool) : Type 0 where
  pub first : (t : ℕ) → t < T.threads → rest (T.first t) ≡ true
  pub forked : (a : ℕ) → kind T a ≡ fork → rest (suc a) ≡ true
  pub joins : (a : ℕ) → kind T a ≡ join → rest a ≡ true

module _ (T : Table) (l : Lawful T) (p K : ℕ) (rest : ℕ → Bool) (r : Rests T rest) (w t a : ℕ) (st : State) (f : Facts T p K st) (x : Acting T w t a st) (c : Placed T rest st) where
  -- its thread alone goes on
  goes : (st' : State) → st'.next ≡ set st.next t (suc (next_of st t)) → st'.status ≡ st.status → Placed T rest st'
  goes st' n s = record { at_rest = λ u g h. go u g (rw s at h) (ℕ_discrete u t) }
    where
      go : (u : ℕ) → u < T.threads → Stands (status_of st u) → Dec (u ≡ t) → rest (next_of st' u) ≡ true
      go u g h (yes d) = absurd (h.2 (rw d x.taken))
      go u g h (no d) = rw (n, get_or-set_other st.next t u (suc (next_of st t)) 0 d) (c.at_rest u g h)

  -- the worker is released
  frees : (st' : State) → ((u : ℕ) → (u ≡ t → ⊥) → next_of st' u ≡ next_of st u)
      → ((u : ℕ) → u < T.threads → Stands (status_of st' u) → (rest (next_of st' u) ≡ true) ⊎ ((u ≡ t → ⊥) × Stands (status_of st u))) → Placed T rest st'
  frees st' beside stand = record { at_rest = λ u g h. go u g (stand u g h) }
    where
      go : (u : ℕ) → u < T.threads → (rest (next_of st' u) ≡ true) ⊎ ((u ≡ t → ⊥) × Stands (status_of st u)) → rest (next_of st' u) ≡ true
      go u g (inl e) = e
      go u g (inr (d, h)) = rw (beside u d) (c.at_rest u g h)

  abbrev Kept : Stepped → Type 0
  Kept s = Placed T rest s.state

  on_end : kind T a ≡ end → Kept (act_by end T K w t a (T.argument a) st)
  unfolding act_by
  on_end k =
      let m : Ended T w t st (act_by end T K w t a (T.argument a) st).state = acting_ended T l p K w t a st f x in
      frees _ (λ u d. m.next_same u) (λ u g h. stand m u h (ℕ_discrete u t))
    where
      stand : (m : Ended T w t st (act_by end T K w t a (T.argument a) st).state) (u : ℕ) → Stands (status_of (act_by end T K w t a (T.argument a) st).state u) → Dec (u ≡ t)
          → (rest (next_of (act_by end T K w t a (T.argument a) st).state u) ≡ true) ⊎ ((u ≡ t → ⊥) × Stands (status_of st u))
      stand m u h (yes d) = absurd (h.1 (rw d m.status_here))
      stand m u h (no d) = go (m.status_other u d)
        where
          go : (status_of (act_by end T K w t a (T.argument a) st).state u ≡ status_of st u) ⊎ ((status_of st u ≡ waiting) × (status_of (act_by end T K w t a (T.argument a) st).state u ≡ ready))
              → (rest (next_of (act_by end T K w t a (T.argument a) st).state u) ≡ true) ⊎ ((u ≡ t → ⊥) × Stands (status_of st u))
          go (inl e) = inr (d, rw e at h)
          go (inr (e, i)) = inr (d, ((λ q. omega arith), (λ q. omega arith), (λ q. omega arith)))

  on_fork : kind T a ≡ fork → Kept (act_by fork T K w t a (T.argument a) st)
  unfolding act_by
  on_fork k =
      let m : Forked w t a (T.argument a) st (act_by fork T K w t a (T.argument a) st).state = acting_forked T l p K w t a st f x k in
      frees _ m.next_other (λ u g h. stand m u g h (ℕ_discrete u t) (ℕ_discrete u (T.argument a)))
    where
      stand : (m : Forked w t a (T.argument a) st (act_by fork T K w t a (T.argument a) st).state) (u : ℕ) → u < T.threads
          → Stands (status_of (act_by fork T K w t a (T.argument a) st).state u) → Dec (u ≡ t) → Dec (u ≡ T.argument a)
          → (rest (next_of (act_by fork T K w t a (T.argument a) st).state u) ≡ true) ⊎ ((u ≡ t → ⊥) × Stands (status_of st u))
      stand m u g h (yes d) e = inl (rw (d, m.next_here) (r.forked a k))
      stand m u g h (no d) (yes e) =
          let b : status_of st u ≡ unborn = rw e (undone_unborn T l p K st f a x.action k x.undone) in
          inl (rw (m.next_other u d, unborn_first T l p K st f u g b) (r.first u g))
      stand m u g h (no d) (no e) = inr (d, rw (m.status_other u d e) at h)

  on_join : kind T a ≡ join → Kept (act_by join T K w t a (T.argument a) st)
  unfolding act_by
  on_join k =
      either Kept (eqb (status_of st (T.argument a)) ended) _ _ (λ i. goes _ refl refl) (λ i. frees _ (λ u d. refl) (λ u g h. stand u h (ℕ_discrete u t)))
    where
      stand : (u : ℕ) → Stands (get_or (set st.status t waiting) u 0) → Dec (u ≡ t) → (rest (next_of st u) ≡ true) ⊎ ((u ≡ t → ⊥) × Stands (status_of st u))
      stand u h (yes d) = inl (rw (d, x.next) (r.joins a k))
      stand u h (no d) = inr (d, rw (get_or-set_other st.status t u waiting 0 d) at h)

  -- put back for its quota, at an alloc
  module _ (stop : kind T a ≡ alloc → (worker_of st w).quota < drawn K (T.argument a) → rest a ≡ true) where
    on_alloc : kind T a ≡ alloc → Kept (act_by alloc T K w t a (T.argument a) st)
    unfolding act_by
    on_alloc k =
        either Kept (leb (drawn K (T.argument a)) (worker_of st w).quota) _ _ (λ i. goes _ refl refl)
        (λ i. frees _ (λ u d. refl) (λ u g h. stand (stop k (leb-false (drawn K (T.argument a)) (worker_of st w).quota i)) u h (ℕ_discrete u t)))
      where
        stand : rest a ≡ true → (u : ℕ) → Stands (get_or (set st.status t ready) u 0) → Dec (u ≡ t) → (rest (next_of st u) ≡ true) ⊎ ((u ≡ t → ⊥) × Stands (status_of st u))
        stand y u h (yes d) = inl (rw (d, x.next) y)
        stand y u h (no d) = inr (d, rw (get_or-set_other st.status t u ready 0 d) at h)

    pub placed_by : (k : Kind) → kind T a ≡ k → Kept (act_by k T K w t a (T.argument a) st)
    unfolding act_by
    placed_by end k = on_end k
    placed_by work k = goes _ refl refl
    placed_by alloc k = on_alloc k
    placed_by free k = goes _ refl refl
    placed_by fork k = on_fork k
    placed_by join k = on_join k
    placed_by unknown k = absurd (kind_known T l.contents l.bodies a x.action k)

-- the action of worker w, which holds a thread
pub placed_act : (T : Table) (l : Lawful T) (p K : ℕ) (rest : ℕ → Bool) → Rests T rest → (w : ℕ) → w < 16 → (st : State) → Facts T p K st → Placed T rest st → (worker_of st w).holds ≡ true
    → (kind T (next_of st (worker_of st w).thread) ≡ alloc → (worker_of st w).quota < drawn K (T.argument (next_of st (worker_of st w).thread)) → rest (next_of st (worker_of st w).thread) ≡ true)
    → Placed T rest (act T K w st).state
unfolding act
placed_act T l p K rest r w b st f c e stop =
    let t : ℕ = (worker_of st w).thread in
    let a : ℕ = next_of st t in
    placed_by T l p K rest r w t a st f (acting T l p K w t a st f b e refl refl) c stop (kind T a) refl

-- a thread that is taken is held
pub placed_taken : (T : Table) (rest : ℕ → Bool) (q w t : ℕ) (st : State) → T.threads ≤ length st.status → Placed T rest st → Placed T rest (taken q w t st)
unfolding taken
placed_taken T rest q w t st size c = record { at_rest = λ u g s. go u g s (ℕ_discrete u t) }
  where
    go : (u : ℕ) → u < T.threads → Stands (get_or (set st.status t held) u 0) → Dec (u ≡ t) → rest (next_of st u) ≡ true
    go u g s (yes d) = absurd (s.2 (rw d (get_or-set_same st.status t held 0 (omega (arith, d, g, size)))))
    go u g s (no d) = c.at_rest u g (rw (get_or-set_other st.status t u held 0 d) at s)
