-- Counting batches: the bound on how many began beyond an enabled action, as an invariant that every turn keeps. With B = b·(p − 1), it is B·(level − 1) where the action's thread is
-- ready; where a worker holds it, what the worker's age leaves of B is still to come.
use mathlib.Core.Path.{◌≡◌, refl, sym, ap}
use Prim.Native.Nat.{ℕ, suc, ◌+◌, ◌*◌, ◌≤◌, ◌<◌}
use mathlib.Core.List.{List, ◌∷◌, Memᴰ}
use mathlib.Core.Bool.{Bool, true, false, ◌&&◌}
use mathlib.Core.Logic.{◌⊎◌, inl, inr}
use native.Mathlib.Decide.{ℕ_discrete, dec_lt}
use native.Mathlib.Nat.{mul-suc, mul-le-mul_left}
use native.Mathlib.Omega.{arith}
use lib.ListN.{length, get_or}
use lib.Seq.{get_or-set_same, get_or-set_other}
use lib.Dec.{ltb, eqb}
use borrow.Author.Tests.{eqb-false, lt-ltb, le-ltb, eq-eqb, ne_eqb}
use Rattle.table.specs.Sum.{pick}
use Rattle.table.specs.Format.{Table}
use Rattle.table.specs.Level.{depends_on, level}
use Rattle.table.proofs.Tests.{no_way}
use Rattle.schedule.specs.declared.Worker.{Worker}
use Rattle.schedule.specs.Machine.{State, ready, held, ended, next_of, status_of, nobody, worker_of, counted, act, leftmost, taken, turn_free, turn_of}
use Rattle.order.specs.Order.{number_of}
use Rattle.order.proofs.Lawful.{Lawful}
use Rattle.order.proofs.Numbers.{number_depends}
use Rattle.schedule.proofs.Sound.Facts.{Facts}
use Rattle.schedule.proofs.Preservation.Moves.{taken_facts}
use Rattle.schedule.proofs.Sound.Done.{next_below}
use Rattle.schedule.proofs.Preservation.Releases.{Acting, acting}
use Rattle.schedule.proofs.Preservation.Turns.{leftmost_ready, taken_holds, act_facts}
use Rattle.order.proofs.Depth.{level_depends}
use Rattle.peaks.proofs.Takes.{leftmost_first}
use Rattle.bounds.proofs.Ages.{age, age_other}
use Rattle.schedule.proofs.Bounds.Beyond.{start_action, begins, begins_beyond, Enabled}
use Rattle.bounds.proofs.Enables.{After, same, fresh, kept, Leaves, act_after, act_leaves}
use Rattle.table.proofs.Tests.{pick_most}

-- J v batches began beyond action v, and age w turns ago was worker w's latest turn
pub record Count (T : Table) (B : ℕ) (J age : ℕ → ℕ) (st : State) : Type 0 where
  pub antitone : (v y : ℕ) → number_of T v ≤ number_of T y → J y ≤ J v
  pub when_ready : (t : ℕ) → Enabled T st t → status_of st t ≡ ready → J (next_of st t) + B ≤ B * level T (next_of st t)
  pub when_held : (t w : ℕ) → Enabled T st t → w < 16 → (worker_of st w).holds ≡ true → (worker_of st w).thread ≡ t
      → J (next_of st t) + B + B ≤ B * level T (next_of st t) + age w

-- the count after a turn of w has begun
abbrev pub begun : Table → ℕ → State → (ℕ → ℕ) → ℕ → ℕ
begun T w st J v = J v + begins_beyond T w st v

-- ---- a batch begun

beyond_none : (T : Table) (w : ℕ) (st : State) (v : ℕ) → begins w st ≡ false → begins_beyond T w st v ≡ 0
unfolding begins_beyond
beyond_none T w st v e = rw e

beyond_one : (T : Table) (w : ℕ) (st : State) (v : ℕ) → begins_beyond T w st v ≤ 1
unfolding begins_beyond
beyond_one T w st v = pick_most (begins w st && ltb (number_of T v) (number_of T (start_action st))) 1

-- none beyond what comes at or after the start
beyond_not : (T : Table) (w : ℕ) (st : State) (v : ℕ) → number_of T (start_action st) ≤ number_of T v → begins_beyond T w st v ≡ 0
unfolding begins_beyond
beyond_not T w st v h = rw (le-ltb _ _ h) (go (begins w st))
  where
    go : (q : Bool) → ◌≡◌ {A = ℕ} (pick (q && false) 1 0) 0
    go true = refl
    go false = refl

beyond_antitone : (T : Table) (w : ℕ) (st : State) (v y : ℕ) → number_of T v ≤ number_of T y → begins_beyond T w st y ≤ begins_beyond T w st v
unfolding begins_beyond
beyond_antitone T w st v y h = go (dec_lt (number_of T v) (number_of T (start_action st)))
  where
    more : (q r : Bool) → pick (q && r) 1 0 ≤ pick (q && true) 1 0
    more true true = omega arith
    more true false = omega arith
    more false r = omega arith

    go : Dec (number_of T v < number_of T (start_action st)) → begins_beyond T w st y ≤ begins_beyond T w st v
    go (yes i) = rw (lt-ltb (number_of T v) (number_of T (start_action st)) i) (more (begins w st) (ltb (number_of T y) (number_of T (start_action st))))
    go (no i) = omega (arith, beyond_not T w st y (omega (arith, i)))

-- ---- the count and the ages alone

-- the same batches and no worker younger
count_older : (T : Table) (B : ℕ) (J J' young old : ℕ → ℕ) (st : State) → ((v : ℕ) → J' v ≡ J v) → ((w : ℕ) → w < 16 → (worker_of st w).holds ≡ true → young w ≤ old w)
    → Count T B J young st → Count T B J' old st
count_older T B J J' young old st e o c =
    record {
      antitone = λ v y h. rw (e v, e y) (c.antitone v y h);
      when_ready = λ t n s. rw (e (next_of st t)) (c.when_ready t n s);
      when_held = λ t w n h i q. omega (arith, e (next_of st t), c.when_held t w n h i q, o w h i);
    }

-- a turn is counted, and nothing else
count_counted : (T : Table) (B : ℕ) (J age : ℕ → ℕ) (st : State) → Count T B J age st → Count T B J age (counted st)
count_counted T B J age st c =
    record {
      antitone = c.antitone;
      when_ready = λ t n s. c.when_ready t (back t n) s;
      when_held = λ t w n h i q. c.when_held t w (back t n) h i q;
    }
  where
    back : (t : ℕ) → Enabled T (counted st) t → Enabled T st t
    back t n = record { below = n.below; taken = n.taken; joined = n.joined }

-- ---- the two halves of a turn

module _ (T : Table) (l : Lawful T) (B : ℕ) (J : ℕ → ℕ) (st : State) where
  -- worker w takes a ready thread, none of which is left of the start: its age counts as B, the others' ages are one more
  count_taken : (p K : ℕ) → Facts T p K st → (young old : ℕ → ℕ) → Count T B J young st → (w t : ℕ) → w < 16
      → t < T.threads → status_of st t ≡ ready
      → old w ≡ B → ((v : ℕ) → (v ≡ w → ⊥) → old v ≡ suc (young v))
      → Count T B (begun T w st J) old (taken K w t st)
  unfolding taken
  count_taken p K f young old c w t h m s o o' =
      record {
        antitone = λ v y i. omega (arith, c.antitone v y i, beyond_antitone T w st v y i);
        when_ready = λ u n r. ready_after u n r (ℕ_discrete u t);
        when_held = λ u v n i q g. held_after u v n i q g (ℕ_discrete v w);
      }
    where
      mine : Worker
      mine = record { holds = true; thread = t; quota = K }

      status_t : status_of (taken K w t st) t ≡ held
      status_t = get_or-set_same st.status t held 0 (omega (arith, f.status_size, l.few_threads))

      other : (u : ℕ) → (u ≡ t → ⊥) → status_of (taken K w t st) u ≡ status_of st u
      other u d = get_or-set_other st.status t u held 0 d

      ended_before : (u : ℕ) → Dec (u ≡ t) → status_of (taken K w t st) u ≡ ended → status_of st u ≡ ended
      ended_before u (yes d) e = no_way (cc status_t)
      ended_before u (no d) e = cc (other u d)

      enabled_before : (u : ℕ) → Enabled T (taken K w t st) u → (status_of st u ≡ ready) ⊎ (status_of st u ≡ held) → Enabled T st u
      enabled_before u n r = record { below = n.below; taken = r; joined = λ k. ended_before _ (ℕ_discrete _ t) (n.joined k) }

      lowest : (u : ℕ) → u < T.threads → status_of st u ≡ ready → begins_beyond T w st (next_of st u) ≡ 0
      lowest u i r =
          beyond_not T w st (next_of st u) (leftmost_first (λ y. number_of T (next_of st y)) st.status st.list f.serial u
          (f.live_listed u i (λ e. omega arith) (λ e. omega arith)) r)

      ready_after : (u : ℕ) → Enabled T (taken K w t st) u → status_of (taken K w t st) u ≡ ready → Dec (u ≡ t)
          → begun T w st J (next_of st u) + B ≤ B * level T (next_of st u)
      ready_after u n r (yes d) = no_way (cc status_t)
      ready_after u n r (no d) =
          let r' : status_of st u ≡ ready = cc (other u d) in
          omega (arith, lowest u n.below r', c.when_ready u (enabled_before u n (inl r')) r')

      held_after : (u v : ℕ) → Enabled T (taken K w t st) u → v < 16 → (worker_of (taken K w t st) v).holds ≡ true → (worker_of (taken K w t st) v).thread ≡ u → Dec (v ≡ w)
          → begun T w st J (next_of st u) + B + B ≤ B * level T (next_of st u) + old v
      held_after u v n i q g (yes d) =
          let y : (worker_of (taken K w t st) w).thread ≡ t = rw (get_or-set_same st.workers w mine nobody (omega (arith, f.holding.worker_size))) in
          let e : u ≡ t = cc in
          let r : status_of st u ≡ ready = cc in
          omega (arith, lowest u n.below r, c.when_ready u (enabled_before u n (inl r)) r, o, ap old d)
      held_after u v n i q g (no d) =
          let y : worker_of (taken K w t st) v ≡ worker_of st v = get_or-set_other st.workers w v mine nobody d in
          let e : (worker_of st v).holds ≡ true = cc in
          let e' : (worker_of st v).thread ≡ u = cc in
          let r : status_of st u ≡ held = cc (f.holding.holder_held v i e) in
          omega (arith, beyond_one T w st (next_of st u), c.when_held u v (enabled_before u n (inr r)) i e e', o' v d)

  -- worker w tries action a: its age is 0
  count_act : (young old : ℕ → ℕ) → Count T B J old st → (w t a : ℕ) → Acting T w t a st
      → (p K : ℕ) (st' : State) → Facts T p K st' → ((u : ℕ) → Enabled T st' u → After T t a st st' u) → Leaves w t st st'
      → old w ≡ B → ((v : ℕ) → (v ≡ w → ⊥) → young v ≡ old v)
      → Count T B J young st'
  count_act young old c w t a x p K st' f after left o o' =
      record {
        antitone = c.antitone;
        when_ready = λ u n s. ready_after u n s (after u n);
        when_held = λ u v n h q g. held_after u v n h q g (after u n);
      }
    where
      -- what is known of a
      before : Enabled T st t → J a + B ≤ B * level T a
      before n = let i : J a + B + B ≤ B * level T a + old w = rw x.next at (c.when_held t w n x.worker x.holds x.holder) in omega arith

      -- an action that depends on it
      fresh_after : (u : ℕ) → u < T.threads → Enabled T st t → Memᴰ a (depends_on T (next_of st' u)) → J (next_of st' u) + B + B ≤ B * level T (next_of st' u)
      fresh_after u h n m =
          let v : ℕ = next_of st' u in
          let i : v < T.actions = next_below T l p K st' f u h in
          let lower : number_of T a < number_of T v = (number_depends T l v a i m).1 in
          let up : level T a < level T v = level_depends T l.contents l.bodies l.nesting l.forking v a i m in
          omega (arith, before n, c.antitone a v (omega arith), mul-le-mul_left B up, mul-suc B (level T a))

      ready_after : (u : ℕ) → Enabled T st' u → status_of st' u ≡ ready → After T t a st st' u → J (next_of st' u) + B ≤ B * level T (next_of st' u)
      ready_after u n s (same d i j k) = rw j (c.when_ready u i (cc))
      ready_after u n s (fresh i m) = omega (arith, fresh_after u n.below i m)
      ready_after u n s (kept i j k) = rw j (before i)

      held_after : (u v : ℕ) → Enabled T st' u → v < 16 → (worker_of st' v).holds ≡ true → (worker_of st' v).thread ≡ u → After T t a st st' u
          → J (next_of st' u) + B + B ≤ B * level T (next_of st' u) + young v
      held_after u v n h q g (same d i j k) = go (ℕ_discrete v w)
        where
          go : Dec (v ≡ w) → J (next_of st' u) + B + B ≤ B * level T (next_of st' u) + young v
          go (yes e) = absurd (d (cc (left.own (rw e at q))))
          go (no e) =
              let y : worker_of st' v ≡ worker_of st v = left.others v e in
              rw (j, o' v e) (c.when_held u v i h (cc) (cc))
      held_after u v n h q g (fresh i m) = omega (arith, fresh_after u n.below i m)
      held_after u v n h q g (kept i j k) = no_way (cc (f.holding.holder_held v h q))

-- ---- a turn

-- the count with the ages of a row, latest turn first; whoever holds a thread has had a turn in it
pub record CountAlong (T : Table) (B : ℕ) (J : ℕ → ℕ) (past : List ℕ) (st : State) : Type 0 where
  pub count : Count T B J (age past) st
  pub turned : (w : ℕ) → w < 16 → (worker_of st w).holds ≡ true → Memᴰ w past

abbrev place_of : State → ℕ
place_of st = leftmost st.status st.list

turn_goes : (T : Table) (K w : ℕ) (st : State) → (worker_of st w).holds ≡ true → (turn_of T K w st).state ≡ counted (act T K w st).state
unfolding turn_of
turn_goes T K w st e = rw e

turn_rests : (T : Table) (K w : ℕ) (st : State) → (worker_of st w).holds ≡ false → eqb (place_of st) (length st.list) ≡ true → (turn_of T K w st).state ≡ counted st
unfolding turn_of turn_free
turn_rests T K w st e i = rw (e, i)

turn_takes : (T : Table) (K w : ℕ) (st : State) → (worker_of st w).holds ≡ false → eqb (place_of st) (length st.list) ≡ false
    → (turn_of T K w st).state ≡ counted (act T K w (taken K w (get_or st.list (place_of st) 0) st)).state
unfolding turn_of turn_free
turn_takes T K w st e i = rw (e, i)

-- between the halves of a turn of w: its age counts as B
abbrev between : ℕ → ℕ → List ℕ → ℕ → ℕ
between B w past v = pick (eqb v w) B (age (w ∷ past) v)

between_own : (B w : ℕ) (past : List ℕ) (v : ℕ) → v ≡ w → between B w past v ≡ B
between_own B w past v e = rw (eq-eqb v w e)

between_other : (B w : ℕ) (past : List ℕ) (v : ℕ) → (v ≡ w → ⊥) → age (w ∷ past) v ≡ between B w past v
between_other B w past v d = rw (ne_eqb v w d)

older_other : (B w : ℕ) (past : List ℕ) (v : ℕ) → (v ≡ w → ⊥) → between B w past v ≡ suc (age past v)
older_other B w past v d = rw (ne_eqb v w d) (age_other past w v (λ e. d (sym e)))

module _ (T : Table) (l : Lawful T) (p K : ℕ) (few : p ≤ 16) (B : ℕ) (J : ℕ → ℕ) (w : ℕ) (below : w < p) (past : List ℕ) (st : State) where
  -- the second half, from a state in which w holds its thread
  along_act : (st₁ : State) → Facts T p K st₁ → (worker_of st₁ w).holds ≡ true → ((v : ℕ) → (v ≡ w → ⊥) → worker_of st₁ v ≡ worker_of st v)
      → Count T B (begun T w st J) (between B w past) st₁ → ((v : ℕ) → v < 16 → (worker_of st v).holds ≡ true → Memᴰ v past)
      → CountAlong T B (begun T w st J) (w ∷ past) (counted (act T K w st₁).state)
  along_act st₁ f holds others c h =
      record {
        count = count_counted T B (begun T w st J) (age (w ∷ past)) (act T K w st₁).state
            (count_act T l B (begun T w st J) st₁ (age (w ∷ past)) (between B w past) c w t a x p K (act T K w st₁).state (act_facts T l p K few w below st₁ f holds)
            (act_after T l p K st₁ f w t a x) left (between_own B w past w refl) (between_other B w past));
        turned = λ v i q. go v i q (ℕ_discrete v w);
      }
    where
      t : ℕ
      t = (worker_of st₁ w).thread

      a : ℕ
      a = next_of st₁ t

      x : Acting T w t a st₁
      x = acting T l p K w t a st₁ f (omega arith) holds refl refl

      left : Leaves w t st₁ (act T K w st₁).state
      left = act_leaves T l p K st₁ f w t a x

      go : (v : ℕ) → v < 16 → (worker_of (act T K w st₁).state v).holds ≡ true → Dec (v ≡ w) → Memᴰ v (w ∷ past)
      go v i q (yes d) = Memᴰ.head d
      go v i q (no d) = Memᴰ.tail (h v i (cc (left.others v d, others v d)))

  pub along_turn : Facts T p K st → ((v : ℕ) → Memᴰ v past → age past v ≤ B) → CountAlong T B J past st
      → CountAlong T B (begun T w st J) (w ∷ past) (turn_of T K w st).state
  unfolding begins taken
  along_turn f young c = go (worker_of st w).holds refl (eqb (place_of st) (length st.list)) refl
    where
      fits : w < length st.workers
      fits = omega (arith, f.holding.worker_size)

      -- a worker that holds a thread grows older by the turn
      ageing : (v : ℕ) → v < 16 → (worker_of st v).holds ≡ true → Dec (v ≡ w) → age past v ≤ between B w past v
      ageing v i q (yes d) = omega (arith, young v (c.turned v i q), between_own B w past v d)
      ageing v i q (no d) = omega (arith, older_other B w past v d)

      resting : (worker_of st w).holds ≡ false → (v : ℕ) → v < 16 → (worker_of st v).holds ≡ true → Dec (v ≡ w) → age past v ≤ age (w ∷ past) v
      resting e v i q (yes d) = no_way (cc)
      resting e v i q (no d) = omega (arith, age_other past w v (λ g. d (sym g)))

      -- where no batch begins, the count stays
      unbegun : begins w st ≡ false → (old : ℕ → ℕ) → ((v : ℕ) → v < 16 → (worker_of st v).holds ≡ true → age past v ≤ old v) → Count T B (begun T w st J) old st
      unbegun none old o = count_older T B J (begun T w st J) (age past) old st (λ v. omega (arith, beyond_none T w st v none)) o c.count

      go : (q : Bool) → (worker_of st w).holds ≡ q → (i : Bool) → eqb (place_of st) (length st.list) ≡ i
          → CountAlong T B (begun T w st J) (w ∷ past) (turn_of T K w st).state
      go true e i g =
          rw (turn_goes T K w st e) (along_act st f e (λ v d. refl) (unbegun (rw e) (between B w past) (λ v j q. ageing v j q (ℕ_discrete v w))) c.turned)
      go false e true g =
          rw (turn_rests T K w st e g) (record {
            count = count_counted T B (begun T w st J) (age (w ∷ past)) st (unbegun (rw (e, g)) (age (w ∷ past)) (λ v j q. resting e v j q (ℕ_discrete v w)));
            turned = λ v j q. Memᴰ.tail (c.turned v j q);
          })
      go false e false g =
          let t : ℕ = get_or st.list (place_of st) 0 in
          let (m, s) = leftmost_ready st.status st.list (eqb-false (place_of st) (length st.list) g) in
          let low : t < T.threads = f.list_below t m in
          rw (turn_takes T K w st e g)
          (along_act (taken K w t st) (taken_facts T l p K few w below st f e t low s) (taken_holds K w t st fits)
          (λ v d. get_or-set_other st.workers w v (record { holds = true; thread = t; quota = K }) nobody d)
          (count_taken T l B J st p K f (age past) (between B w past) c.count w t (omega arith) low s (between_own B w past w refl) (older_other B w past))
          c.turned)
