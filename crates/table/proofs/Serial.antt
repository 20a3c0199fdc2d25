-- Serial order without fuel: the sentence of document 01 as three equations; and its length: a part from action a on has at most m - a actions, the whole has m.
use mathlib.Core.Path.{◌≡◌, refl, ap, sym, ◌∙◌}
use Prim.Native.Nat.{ℕ, zero, suc, pred, ◌+◌, ◌-◌, ◌≤◌, ◌<◌}
use native.Mathlib.Omega.{arith}
use native.Mathlib.Decide.{ℕ_discrete}
use mathlib.Core.List.Memᴰ
use mathlib.Core.List.{List, [], ◌∷◌, ◌++◌, Memᴰ}
use mathlib.Core.Bool.{Bool, true, false, ◌&&◌}
use mathlib.Core.Logic.{◌⊎◌, inl, inr, ⊎_elim}
use lib.ListN.{length, length-append}
use lib.Dec.{ltb, leb}
use borrow.Author.Tests.{ltb-true, ltb-false, leb-true, leb-false, lt-ltb, le-ltb, le-leb, lt-leb}
use Rattle.table.specs.Sum.{pick, sum_to}
use Rattle.table.specs.Format.{code_of, is, Table, kind}
use Rattle.table.specs.declared.kinds.Kind.{Kind}
use Rattle.table.specs.declared.kinds.Kind.TheVariants.{End as end, Work as work, Alloc as alloc, Free as free, Fork as fork, Join as join, Unknown as unknown}
use Rattle.table.specs.Checks.{owner, forks}
use Rattle.table.specs.Rules.{ContentRules, BodyRules, NestRules, ForkRules}
use Rattle.table.specs.Serial.{serial_within, serial}
use Rattle.table.specs.Level.{fork_below}
use Rattle.table.proofs.Sums.{sum_to_cong, sum_to_one, sum_to_zero}
use Rattle.table.proofs.Tests.{no_way, Turn, ends, branches, goes, turn}
use Rattle.table.proofs.Bodies.{first_is, first_within, count_pos, owner_at, owner_below_lem, owner_first, owner_end}
use Rattle.table.proofs.Bodies.{fork_below_lem, fork_later, next_within, next_owner, end_last}
use Rattle.table.proofs.Nesting.{forks_true, fork_forks, fork_found, fork_exists}

-- ---- fuel

within_goes : (f : ℕ) (T : Table) (a : ℕ) (k : Kind) → is end k ≡ false → is fork k ≡ false
    → serial_within (suc f) T a k ≡ a ∷ serial_within f T (suc a) (kind T (suc a))
unfolding serial_within is code_of
within_goes f T a end p q = cc
within_goes f T a work p q = refl
within_goes f T a alloc p q = refl
within_goes f T a free p q = refl
within_goes f T a fork p q = cc
within_goes f T a join p q = refl
within_goes f T a unknown p q = refl

-- from the last number below m down: what holds of all beyond a holds of a
pub downward : (P : ℕ → Type 0) (m : ℕ) → ((a : ℕ) → a < m → ((x : ℕ) → a < x → x < m → P x) → P a) → (a : ℕ) → a < m → P a
downward P m step a h = go m a h (omega arith)
  where
    go : (f a : ℕ) → a < m → m ≤ f + a → P a
    go zero a h e = absurd (omega arith)
    go (suc f) a h e = step a h (λ x i j. go f x j (omega arith))

module _ (T : Table) (c : ContentRules T) (b : BodyRules T) where
  pub child_within : (a : ℕ) → a < T.actions → kind T a ≡ fork → T.first (T.argument a) < T.actions
  child_within a h k = first_within T c (T.argument a) (fork_below_lem T c b a h k)

  enough : (f g a : ℕ) → a < T.actions → T.actions ≤ f + a → T.actions ≤ g + a → serial_within f T a (kind T a) ≡ serial_within g T a (kind T a)
  unfolding serial_within
  enough zero g a h i j = absurd (omega arith)
  enough (suc f) zero a h i j = absurd (omega arith)
  enough (suc f) (suc g) a h i j = go (λ x p q. enough f g x q (omega arith) (omega arith)) (turn (kind T a))
    where
      go : ((x : ℕ) → a < x → x < T.actions → serial_within f T x (kind T x) ≡ serial_within g T x (kind T x))
          → Turn (kind T a) → serial_within (suc f) T a (kind T a) ≡ serial_within (suc g) T a (kind T a)
      go ih (ends e i) = rw e
      go ih (branches e i) =
          let p = ih (suc a) (omega arith) (next_within T c b a h i) in
          let q = ih (T.first (T.argument a)) (fork_later T c b a h e) (child_within a h e) in
          rw (e, p, q)
      go ih (goes p q) =
          rw (within_goes f T a (kind T a) p q, within_goes g T a (kind T a) p q, ih (suc a) (omega arith) (next_within T c b a h p))

  -- fuel to spare: one more step
  one_more : (a : ℕ) → a < T.actions → serial T a ≡ serial_within (suc T.actions) T a (kind T a)
  one_more a h = enough T.actions (suc T.actions) a h (omega arith) (omega arith)

  pub serial_end : (a : ℕ) → a < T.actions → kind T a ≡ end → serial T a ≡ a ∷ []
  unfolding serial_within
  serial_end a h k = one_more a h ∙ rw k

  pub serial_fork : (a : ℕ) → a < T.actions → kind T a ≡ fork → serial T a ≡ a ∷ (serial T (T.first (T.argument a)) ++ serial T (suc a))
  unfolding serial_within
  serial_fork a h k = one_more a h ∙ rw k

  pub serial_step : (a : ℕ) → a < T.actions → is end (kind T a) ≡ false → is fork (kind T a) ≡ false → serial T a ≡ a ∷ serial T (suc a)
  serial_step a h k j = one_more a h ∙ within_goes T.actions T a (kind T a) k j

  -- what the three equations carry along holds of every action
  pub serial_induction : (P : ℕ → Type 0)
      → ((a : ℕ) → a < T.actions → kind T a ≡ end → P a)
      → ((a : ℕ) → a < T.actions → kind T a ≡ fork → P (T.first (T.argument a)) → P (suc a) → P a)
      → ((a : ℕ) → a < T.actions → is end (kind T a) ≡ false → is fork (kind T a) ≡ false → P (suc a) → P a)
      → (a : ℕ) → a < T.actions → P a
  serial_induction P last child next = downward P T.actions (λ a h ih. go a h ih (turn (kind T a)))
    where
      go : (a : ℕ) → a < T.actions → ((x : ℕ) → a < x → x < T.actions → P x) → Turn (kind T a) → P a
      go a h ih (ends e i) = last a h e
      go a h ih (branches e i) =
          child a h e (ih (T.first (T.argument a)) (fork_later T c b a h e) (child_within a h e))
          (ih (suc a) (omega arith) (next_within T c b a h i))
      go a h ih (goes p q) = next a h p q (ih (suc a) (omega arith) (next_within T c b a h p))

  pub serial_below : (a : ℕ) → a < T.actions → (x : ℕ) → Memᴰ x (serial T a) → x < T.actions
  serial_below = serial_induction (λ a. (x : ℕ) → Memᴰ x (serial T a) → x < T.actions)
      (λ a h k x m. let e : x ≡ a = Memᴰ.eq_of_singleton (rw (serial_end a h k) at m) in omega arith)
      (λ a h k p q x m.
      head a x h (λ m'. ⊎_elim (p x) (q x) (Memᴰ.append_cases (serial T (T.first (T.argument a))) m'))
      (Memᴰ.cases_cons (rw (serial_fork a h k) at m)))
      (λ a h k j p x m. head a x h (p x) (Memᴰ.cases_cons (rw (serial_step a h k j) at m)))
    where
      head : {l : List ℕ} (a x : ℕ) → a < T.actions → (Memᴰ x l → x < T.actions) → (x ≡ a) ⊎ Memᴰ x l → x < T.actions
      head a x h p (inl e) = omega arith
      head a x h p (inr m) = p m

-- ---- the threads that wait

-- one beyond the action that forks thread d, 0 where there is none
since : Table → ℕ → ℕ
since T d = pick (forks T d (fork_below T T.actions d)) (suc (fork_below T T.actions d)) 0

-- what comes of thread d, where it begins beyond a and no action from a on forks it: actions that neither a's thread nor its children run
unrun : Table → ℕ → ℕ → ℕ
unrun T a d = pick (leb (since T d) a && ltb a (T.first d)) (length (serial T (T.first d))) 0

-- a bound moved by one, past no number that is compared to it
leb_suc : (l a : ℕ) → (l ≡ suc a → ⊥) → leb l (suc a) ≡ leb l a
leb_suc l a d = go (leb l a) refl
  where
    go : (t : Bool) → leb l a ≡ t → leb l (suc a) ≡ t
    go true e = le-leb l (suc a) (omega (arith, leb-true l a e))
    go false e = lt-leb l (suc a) (omega (arith, d, leb-false l a e))

ltb_suc : (a h : ℕ) → (h ≡ suc a → ⊥) → ltb (suc a) h ≡ ltb a h
ltb_suc a h d = go (ltb a h) refl
  where
    go : (t : Bool) → ltb a h ≡ t → ltb (suc a) h ≡ t
    go true e = lt-ltb (suc a) h (omega (arith, d, ltb-true a h e))
    go false e = le-ltb (suc a) h (omega (arith, ltb-false a h e))

module _ (T : Table) where
  unrun_same : (a d : ℕ) → (since T d ≡ suc a → ⊥) → (T.first d ≡ suc a → ⊥) → unrun T a d ≡ unrun T (suc a) d
  unfolding unrun
  unrun_same a d p q = rw (leb_suc (since T d) a p, ltb_suc a (T.first d) q)

  unrun_forked : (a d : ℕ) → a < since T d → unrun T a d ≡ 0
  unfolding unrun
  unrun_forked a d h = rw (lt-leb (since T d) a h)

  unrun_begun : (a d : ℕ) → T.first d ≤ a → unrun T a d ≡ 0
  unfolding unrun
  unrun_begun a d h = go (leb (since T d) a)
    where
      go : (t : Bool) → pick (t && ltb a (T.first d)) (length (serial T (T.first d))) 0 ≡ 0
      go true = rw (le-ltb a (T.first d) h)
      go false = refl

  unrun_waits : (a d : ℕ) → since T d ≤ a → a < T.first d → unrun T a d ≡ length (serial T (T.first d))
  unfolding unrun
  unrun_waits a d p q = rw (le-leb (since T d) a p, lt-ltb a (T.first d) q)

  fork_below_below : (k d : ℕ) → fork_below T k d ≤ pred k
  unfolding fork_below
  fork_below_below zero d = omega arith
  fork_below_below (suc k) d = go (forks T d k) (fork_below_below k d)
    where
      go : (t : Bool) → fork_below T k d ≤ pred k → pick t k (fork_below T k d) ≤ k
      go true h = omega arith
      go false h = omega arith

  since_forks : (d a : ℕ) → since T d ≡ suc a → (a ≤ pred T.actions) × (kind T a ≡ fork) × (T.argument a ≡ d)
  unfolding since
  since_forks d a e = go (forks T d (fork_below T T.actions d)) refl e
    where
      go : (t : Bool) → forks T d (fork_below T T.actions d) ≡ t → pick t (suc (fork_below T T.actions d)) 0 ≡ suc a
          → (a ≤ pred T.actions) × (kind T a ≡ fork) × (T.argument a ≡ d)
      go true f e =
          let x : fork_below T T.actions d ≡ a = omega arith in
          let p = forks_true T d a (rw x at f) in
          (omega (arith, fork_below_below T.actions d), p.0, p.1)
      go false f e = absurd (omega arith)

  since_no_fork : (a d : ℕ) → is fork (kind T a) ≡ false → since T d ≡ suc a → ⊥
  unfolding is code_of
  since_no_fork a d j e =
      let p = rw (since_forks d a e).1 at j in
      no_way cc

module _ (T : Table) (c : ContentRules T) (b : BodyRules T) (n : NestRules T) where
  since_fork : (a : ℕ) → a < T.actions → kind T a ≡ fork → since T (T.argument a) ≡ suc a
  unfolding since
  since_fork a h k = rw (fork_found T c b n a h k, fork_forks T (T.argument a) a k refl)

  since_first : (d : ℕ) → d < T.threads → since T d ≤ T.first d
  since_first d h = go (since T d) refl
    where
      go : (s : ℕ) → since T d ≡ s → s ≤ T.first d
      go zero e = omega arith
      go (suc x) e =
          let p = since_forks T d x e in
          let i : x < T.actions = omega (arith, first_within T c d h) in
          rw p.2 at (fork_later T c b x i p.1)

  -- a thread that begins just beyond a is the next action's, and a is an end
  begins_owner : (a d : ℕ) → d < T.threads → T.first d ≡ suc a → owner T (suc a) ≡ d
  begins_owner a d h e =
      let z : T.first d + 0 ≡ suc a = omega arith in
      rw z at (owner_at T c d 0 h (count_pos T c d h))

  begins_ends : (a d : ℕ) → a < T.actions → d < T.threads → is end (kind T a) ≡ false → T.first d ≡ suc a → ⊥
  begins_ends a d h i k e =
      let o : owner T a ≡ d = cc (begins_owner a d i e, next_owner T c b a h k) in
      let p : T.first d ≤ a = rw o at (owner_first T c a h) in
      omega arith

  -- and the action beyond an end begins its thread
  ends_begins : (a : ℕ) → suc a < T.actions → kind T a ≡ end → T.first (owner T (suc a)) ≡ suc a
  ends_begins a h k = go (ℕ_discrete (T.first (owner T (suc a))) (suc a))
    where
      u : ℕ
      u = owner T (suc a)

      go : Dec (T.first u ≡ suc a) → T.first u ≡ suc a
      go (yes e) = e
      go (no d) =
          let p : T.first u ≤ a = omega (arith, d, owner_first T c (suc a) h) in
          let q : suc a < T.first u + T.count u = owner_end T c (suc a) h in
          let x : T.first u + (a - T.first u) ≡ a = omega arith in
          let o : owner T a ≡ u = rw x at (owner_at T c u (a - T.first u) (owner_below_lem T c (suc a) h) (omega arith)) in
          let z : a ≡ pred (T.first u + T.count u) = rw o at (end_last T c b a (omega arith) k) in
          absurd (omega arith)

  abbrev Counted : ℕ → Type 0
  Counted a = length (serial T a) + sum_to (unrun T a) T.threads + a ≡ T.actions

  -- the actions from a on are those that a's part of serial order runs and those of the threads that wait
  counted : (a : ℕ) → a < T.actions → Counted a
  counted = downward Counted T.actions (λ a h ih. go a h ih (turn (kind T a)))
    where
      last : (a : ℕ) → a < T.actions → kind T a ≡ end → suc a ≡ T.actions → Counted a
      last a h k e =
          let s = sum_to_zero (unrun T a) T.threads (λ d i. unrun_begun T a d (omega (arith, first_within T c d i))) in
          omega (arith, ap length (serial_end T c b a h k))

      next : (a : ℕ) → suc a < T.actions → kind T a ≡ end → is fork (kind T a) ≡ false → Counted (suc a) → Counted a
      next a h k j ih =
          let u : ℕ = owner T (suc a) in
          let f : T.first u ≡ suc a = ends_begins a h k in
          let i : u < T.threads = owner_below_lem T c (suc a) h in
          let x : (d : ℕ) → since T d ≡ suc a → ⊥ = λ d. since_no_fork T a d j in
          let s = sum_to_one (unrun T a) (unrun T (suc a)) u T.threads i (λ d l m. unrun_same T a d (x d) (λ e. m (sym (begins_owner a d l e)))) in
          let p : unrun T a u ≡ length (serial T (suc a)) = unrun_waits T a u (omega (arith, x u, since_first u i)) (omega arith) ∙ rw f in
          omega (arith, unrun_begun T (suc a) u (omega arith), ap length (serial_end T c b a (omega arith) k))

      child : (a : ℕ) → a < T.actions → kind T a ≡ fork → is end (kind T a) ≡ false → Counted (suc a) → Counted a
      child a h k j ih =
          let d : ℕ = T.argument a in
          let i : d < T.threads = fork_below_lem T c b a h k in
          let x : (t : ℕ) → t < T.threads → T.first t ≡ suc a → ⊥ = λ t l. begins_ends a t h l j in
          let e : since T d ≡ suc a = since_fork a h k in
          let s = sum_to_one (unrun T a) (unrun T (suc a)) d T.threads i (λ t l m. unrun_same T a t (λ q. m (sym (since_forks T t a q).2)) (x t l)) in
          let v = simp length-append at (ap length (serial_fork T c b a h k)) in
          omega (arith, unrun_forked T a d (omega arith), unrun_waits T (suc a) d (omega arith) (omega (arith, x d i, fork_later T c b a h k)))

      step : (a : ℕ) → a < T.actions → is end (kind T a) ≡ false → is fork (kind T a) ≡ false → Counted (suc a) → Counted a
      step a h k j ih =
          let s = sum_to_cong (unrun T a) (unrun T (suc a)) T.threads (λ d i. unrun_same T a d (since_no_fork T a d j) (begins_ends a d h i k)) in
          omega (arith, ap length (serial_step T c b a h k j))

      go : (a : ℕ) → a < T.actions → ((x : ℕ) → a < x → x < T.actions → Counted x) → Turn (kind T a) → Counted a
      go a h ih (ends e j) = at_end_lem (ℕ_discrete (suc a) T.actions)
        where
          at_end_lem : Dec (suc a ≡ T.actions) → Counted a
          at_end_lem (yes l) = last a h e l
          at_end_lem (no d) =
              let i : suc a < T.actions = omega (arith, d) in
              next a i e j (ih (suc a) (omega arith) i)
      go a h ih (branches e i) = child a h e i (ih (suc a) (omega arith) (next_within T c b a h i))
      go a h ih (goes p q) = step a h p q (ih (suc a) (omega arith) (next_within T c b a h p))

  pub serial_bound : (a : ℕ) → a < T.actions → length (serial T a) + a ≤ T.actions
  serial_bound a h = omega (arith, counted a h)

module _ (T : Table) (c : ContentRules T) (b : BodyRules T) (n : NestRules T) (f : ForkRules T) where
  -- The serial order has as many actions as the table. That each stands in it, and at one place only, is `number_place` and `place_number` (crates/order/proofs/Numbers).
  pub serial_length : 0 < T.threads → length (serial T (T.first 0)) ≡ T.actions
  unfolding sum_to
  serial_length h = omega (arith, start, counted T c b n (T.first 0) (first_within T c 0 h), sum_to_zero (unrun T (T.first 0)) T.threads none)
    where
      start : T.first 0 ≡ 0
      start = first_is T c 0 h

      none : (d : ℕ) → d < T.threads → unrun T (T.first 0) d ≡ 0
      none zero i = unrun_begun T (T.first 0) 0 (omega arith)
      none (suc d) i =
          let x = fork_exists T c b n f (suc d) (omega arith) i in
          let e : since T (suc d) ≡ suc x.0 = rw x.3 at (since_fork T c b n x.0 x.1 x.2) in
          unrun_forked T (T.first 0) (suc d) (omega (arith, start))
