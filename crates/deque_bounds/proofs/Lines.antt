-- A line: the owner's thread, then its deque, top to bottom. Each thread's parent stands below it, at the action right after its fork; a thread that has one below it has no live child but
-- the one above; a live child of the lowest that is not above it was parted from it by a steal.
use mathlib.Core.Path.{◌≡◌, refl, sym, ap, ◌∙◌}
use Prim.Native.Nat.{ℕ, suc, ◌+◌, ◌≤◌, ◌<◌}
use mathlib.Core.List.{List, [], ◌∷◌, Memᴰ}
use mathlib.Core.Logic.{◌⊎◌, inl, inr}
use native.Mathlib.Omega.{arith}
use lib.ListN.{length}
use Rattle.table.specs.Sum.{pick}
use Rattle.table.specs.Format.{Table, kind}
use Rattle.table.specs.declared.kinds.Kind.TheVariants.{Fork as fork, Join as join}
use Rattle.table.specs.Checks.{owner, end_of, alloc_of}
use Rattle.table.specs.Nested.{nest}
use Rattle.table.proofs.Nesting.{fork_once}
use Rattle.table.proofs.NestedThreads.{nest_child}
use Rattle.schedule.specs.Machine.{State, unborn, waiting, ended, next_of, status_of, worker_of, drawn}
use Rattle.order.specs.Order.{number_of}
use Rattle.schedule.specs.Sound.{is_done}
use Rattle.order.proofs.Lawful.{Lawful}
use Rattle.order.proofs.Numbers.{number_resume}
use Rattle.deques.specs.Deques.{bottom}

-- ---- words

abbrev pub Live : State → ℕ → Type 0
Live st c = (status_of st c ≡ unborn → ⊥) × (status_of st c ≡ ended → ⊥)

-- thread y stands at the action right after its fork of t
pub record Link (T : Table) (st : State) (t y : ℕ) : Type 0 where
  pub action : ℕ
  pub within : action < T.actions
  pub forks : kind T action ≡ fork
  pub names : T.argument action ≡ t
  pub owned : owner T action ≡ y
  pub next : next_of st y ≡ suc action

-- thread t has no live child but e (no child is 0)
unfoldable pub NoLiveChildBut : Table → State → ℕ → ℕ → Type 0
NoLiveChildBut T st e t = (x : ℕ) → x < T.actions → kind T x ≡ fork → owner T x ≡ t → Live st (T.argument x) → T.argument x ≡ e

-- between the end of each live child of t, but e, and t's next action a steal began
unfoldable pub Parted : Table → (ℕ → ℕ) → State → ℕ → ℕ → Type 0
Parted T J st e t =
    (x : ℕ) → x < T.actions → kind T x ≡ fork → owner T x ≡ t → Live st (T.argument x) → (T.argument x ≡ e → ⊥)
    → suc (J (next_of st t)) ≤ J (end_of T (T.argument x))

-- e stands above the line
unfoldable pub Chained : Table → (ℕ → ℕ) → State → ℕ → List ℕ → Type 0
Chained T J st e [] = Unit {0}
Chained T J st e (t ∷ []) = Parted T J st e t
Chained T J st e (t ∷ y ∷ l) = Link T st t y × NoLiveChildBut T st e t × Chained T J st t (y ∷ l)

pub link_of : (T : Table) (J : ℕ → ℕ) (st : State) (e x y : ℕ) (k : List ℕ) → Chained T J st e (x ∷ y ∷ k) → Link T st x y
unfolding Chained
link_of T J st e x y k c = c.0

-- J at the first thread's next action is below the nesting of the last, but for far
unfoldable pub Light : Table → ℕ → (ℕ → ℕ) → State → List ℕ → Type 0
Light T far J st [] = Unit {0}
Light T far J st (t ∷ l) = suc (J (next_of st t)) ≤ nest T (bottom (t ∷ l)) + far

-- J falls along serial order
abbrev pub Falls : Table → (ℕ → ℕ) → Type 0
Falls T J = (a b : ℕ) → number_of T a ≤ number_of T b → J b ≤ J a

-- ---- what an action of thread t by worker w leaves, and what the worker then takes

pub record Moved (T : Table) (K w t a q : ℕ) (st s : State) : Type 0 where
  pub next_others : (u : ℕ) → (u ≡ t → ⊥) → next_of s u ≡ next_of st u
  pub next_up : number_of T (next_of st t) ≤ number_of T (next_of s t)
  pub born : (c : ℕ) → Live s c → Live st c ⊎ ((kind T a ≡ fork) × (c ≡ T.argument a))
  pub waits : (u : ℕ) → status_of s u ≡ waiting → (status_of st u ≡ waiting) ⊎ ((u ≡ t) × (kind T a ≡ join))
  pub worker_others : (v : ℕ) → (v ≡ w → ⊥) → worker_of s v ≡ worker_of st v
  pub done_others : (d : ℕ) → (d ≡ a → ⊥) → is_done T s d ≡ is_done T st d
  pub spends : (worker_of s w).quota + pick (is_done T s a) (drawn K (alloc_of T a)) 0 ≤ q

module _ (T : Table) (l : Lawful T) (J : ℕ → ℕ) {K : ℕ} (w t a q : ℕ) (st s : State) (m : Moved T K w t a q st s) (within : a < T.actions) (owned : owner T a ≡ t) where
  -- a child born is t's
  other_born : (x : ℕ) → x < T.actions → kind T x ≡ fork → (owner T x ≡ t → ⊥) → Live s (T.argument x) → Live st (T.argument x)
  other_born x h k n v = go (m.born (T.argument x) v)
    where
      go : Live st (T.argument x) ⊎ ((kind T a ≡ fork) × (T.argument x ≡ T.argument a)) → Live st (T.argument x)
      go (inl i) = i
      go (inr (i, e)) = absurd (n (ap (owner T) (fork_once T l.contents l.bodies l.nesting x a h within k i e) ∙ owned))

  pub link_keeps : (x y : ℕ) → (y ≡ t → ⊥) → Link T st x y → Link T s x y
  link_keeps x y n k = record { action = k.action; within = k.within; forks = k.forks; names = k.names; owned = k.owned; next = m.next_others y n ∙ k.next }

  pub no_child_keeps : (e v : ℕ) → (v ≡ t → ⊥) → NoLiveChildBut T st e v → NoLiveChildBut T s e v
  unfolding NoLiveChildBut
  no_child_keeps e v n k x h f o i = k x h f o (other_born x h f (λ z. n (sym o ∙ z)) i)

  pub parted_keeps : (e v : ℕ) → (v ≡ t → ⊥) → Parted T J st e v → Parted T J s e v
  unfolding Parted
  parted_keeps e v n k x h f o i d =
      let z : next_of s v ≡ next_of st v = m.next_others v n in
      rw z (k x h f o (other_born x h f (λ z. n (sym o ∙ z)) i) d)

  pub chained_keeps : (e : ℕ) (k : List ℕ) → ((v : ℕ) → Memᴰ v k → v ≡ t → ⊥) → Chained T J st e k → Chained T J s e k
  unfolding Chained
  chained_keeps e [] n c = tt
  chained_keeps e (x ∷ []) n c = parted_keeps e x (n x (Memᴰ.head refl)) c
  chained_keeps e (x ∷ y ∷ k) n c = (
    link_keeps x y (n y (Memᴰ.tail (Memᴰ.head refl))) c.0,
    no_child_keeps e x (n x (Memᴰ.head refl)) c.1,
    chained_keeps x (y ∷ k) (λ v i. n v (Memᴰ.tail i)) c.2,
  )

  pub light_keeps : (far : ℕ) (k : List ℕ) → ((v : ℕ) → Memᴰ v k → v ≡ t → ⊥) → Light T far J st k → Light T far J s k
  unfolding Light
  light_keeps far [] n c = tt
  light_keeps far (x ∷ k) n c = let z : next_of s x ≡ next_of st x = m.next_others x (n x (Memᴰ.head refl)) in rw z c

  -- t on top, which has forked nothing
  module _ (falls : Falls T J) (no_fork : kind T a ≡ fork → ⊥) where
    still : (c : ℕ) → Live s c → Live st c
    still c v = go (m.born c v)
      where
        go : Live st c ⊎ ((kind T a ≡ fork) × (c ≡ T.argument a)) → Live st c
        go (inl i) = i
        go (inr i) = absurd (no_fork i.0)

    pub chained_top : (k : List ℕ) → ((v : ℕ) → Memᴰ v k → v ≡ t → ⊥) → Chained T J st 0 (t ∷ k) → Chained T J s 0 (t ∷ k)
    unfolding Chained NoLiveChildBut Parted
    chained_top [] n c = λ x h f o i d. omega (arith, c x h f o (still (T.argument x) i) d, falls (next_of st t) (next_of s t) m.next_up)
    chained_top (y ∷ k) n c = (
      link_keeps t y (n y (Memᴰ.head refl)) c.0,
      (λ x h f o i. c.1 x h f o (still (T.argument x) i)),
      chained_keeps t (y ∷ k) n c.2,
    )

    pub light_top : (far : ℕ) (k : List ℕ) → Light T far J st (t ∷ k) → Light T far J s (t ∷ k)
    unfolding Light
    light_top far k c = omega (arith, c, falls (next_of st t) (next_of s t) m.next_up)

-- ---- what a line says

module _ (T : Table) (l : Lawful T) (J : ℕ → ℕ) (st : State) where
  -- a thread above another has the next action before it
  pub link_number : (x y : ℕ) → Link T st x y → number_of T (next_of st y) ≡ suc (number_of T (end_of T x))
  link_number x y k = rw (k.next, ← k.names) (number_resume T l k.action k.within k.forks)

  pub link_nest : (x y : ℕ) → Link T st x y → nest T x ≡ suc (nest T y)
  link_nest x y k = rw (← k.names, ← k.owned) (nest_child T l.contents l.bodies l.nesting l.forking k.action k.within k.forks)

  -- a line is short: the first's nesting is that of the last and one more for each between
  pub line_nest : (e t : ℕ) (k : List ℕ) → Chained T J st e (t ∷ k) → nest T t ≡ length k + nest T (bottom (t ∷ k))
  unfolding Chained bottom
  line_nest e t [] c = omega arith
  line_nest e t (y ∷ k) c = omega (arith, line_nest t y k c.2, link_nest t y c.0)
