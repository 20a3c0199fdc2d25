-- In a sound state: a live child's end comes before its parent's next action; nothing of an unborn thread's children is live; and where a thread waits for a child that stands at its end,
-- everything between that end and the join is done.
use mathlib.Core.Path.{◌≡◌, refl, sym, ap, subst, ◌∙◌}
use Prim.Native.Nat.{ℕ, zero, suc, ◌+◌, ◌-◌, ◌≤◌, ◌<◌}
use mathlib.Core.List.Memᴰ
use mathlib.Core.Bool.{Bool, true, false}
use mathlib.Core.Logic.{◌⊎◌, inl, inr}
use native.Mathlib.Omega.{arith}
use native.Mathlib.Decide.{ℕ_discrete, dec_lt}
use Rattle.table.specs.Format.{is, Table, kind}
use Rattle.table.specs.declared.kinds.Kind.TheVariants.{End as end, Fork as fork, Join as join}
use Rattle.table.specs.Checks.{owner, end_of}
use Rattle.table.specs.Level.{fork_below}
use Rattle.table.proofs.Tests.{no_way, is_true, fork_no_end}
use Rattle.table.proofs.Bodies.{after_end, end_within, end_kind, owner_is, owner_of_end, owner_first, owner_end, owner_below_lem, fork_below_lem, next_owner}
use Rattle.table.proofs.Rank.{no_end}
use Rattle.table.proofs.Nesting.{fork_found, fork_exists, open_join, open_forked}
use Rattle.schedule.specs.Machine.{State, unborn, waiting, ended, next_of, status_of}
use Rattle.order.specs.Order.{number_of}
use Rattle.schedule.specs.Sound.{is_done}
use Rattle.order.proofs.Lawful.{Lawful}
use Rattle.order.proofs.Numbers.{number_once, number_step, number_child, number_past}
use Rattle.schedule.proofs.Sound.Facts.{Done, Facts}
use Rattle.schedule.proofs.Sound.Done.{done_low, done_where, undone, number_first, next_below, owner_of_next, ended_all, undone_unborn, unborn_undone, born_forked, between_unborn}
use Rattle.schedule.proofs.Linked.Waiting.{awaited, none_between, number_along}
use Rattle.deque_bounds.proofs.Lines.{Live}

module _ (T : Table) (l : Lawful T) where
  -- a thread's actions lie before the action after its fork
  pub in_fork : (y d : ℕ) → y < T.actions → kind T y ≡ fork → d < T.actions → owner T d ≡ T.argument y → number_of T d < number_of T (suc y)
  in_fork y d h k i o =
      let c : ℕ = T.argument y in
      let below : c < T.threads = fork_below_lem T l.contents l.bodies y h k in
      let b : d < T.first c + T.count c = rw o at (owner_end T l.contents d i) in
      let high : number_of T d ≤ number_of T (end_of T c) =
      number_along T l d (end_of T c) (omega (arith, after_end T l.contents c below, b)) (end_within T l.contents c below) (o ∙ sym (owner_of_end T l.contents c below)) in
      omega (arith, high, number_past T l y h k)

  -- numbers jump over E only at a fork
  jump : (E : ℕ) (n : ℕ) → (j : ℕ) → n + j < T.actions → owner T n ≡ owner T (n + j) → ((z : ℕ) → z < T.actions → owner T z ≡ owner T n → number_of T z ≡ E → ⊥)
      → number_of T n < E → E < number_of T (n + j)
      → (z : ℕ) × (n ≤ z) × (z < T.actions) × (owner T z ≡ owner T n) × (kind T z ≡ fork) × (number_of T z < E) × (E < number_of T (suc z))
  jump E n zero h o none low high = absurd (omega (arith, low, high, ap (number_of T) (plus n)))
    where
      plus : (n : ℕ) → n + 0 ≡ n
      plus n = omega arith
  jump E n (suc j) h o none low high = go (dec_lt (number_of T (n + j)) E) (ℕ_discrete (number_of T (n + j)) E) (jump E n j (omega arith))
    where
      z : ℕ
      z = n + j

      next : n + suc j ≡ suc z
      next = omega arith

      inside : z < T.actions
      inside = omega arith

      same : owner T z ≡ owner T n
      same =
          let u : ℕ = owner T n in
          let b : n + suc j < T.first u + T.count u = rw (sym o) at (owner_end T l.contents (n + suc j) h) in
          owner_is T l.contents u z (owner_below_lem T l.contents n (omega arith)) (omega (arith, owner_first T l.contents n (omega arith))) (omega (arith, b))

      no_ends : is end (kind T z) ≡ false
      no_ends = no_end T l.contents l.bodies z (n + suc j) (omega arith) h (same ∙ o)

      at : number_of T z < E → (q : Bool) → is fork (kind T z) ≡ q
          → (z : ℕ) × (n ≤ z) × (z < T.actions) × (owner T z ≡ owner T n) × (kind T z ≡ fork) × (number_of T z < E) × (E < number_of T (suc z))
      at i true q = (z, omega arith, inside, same, is_true fork (kind T z) q, i, (let y : number_of T (n + suc j) ≡ number_of T (suc z) = ap (number_of T) next in omega (arith, high, y)))
      at i false q = absurd (omega (arith, i, high, ap (number_of T) next, number_step T l z inside no_ends q))

      go : Dec (number_of T (n + j) < E) → Dec (number_of T (n + j) ≡ E)
          → (owner T n ≡ owner T (n + j) → ((z : ℕ) → z < T.actions → owner T z ≡ owner T n → number_of T z ≡ E → ⊥) → number_of T n < E → E < number_of T (n + j)
          → (z : ℕ) × (n ≤ z) × (z < T.actions) × (owner T z ≡ owner T n) × (kind T z ≡ fork) × (number_of T z < E) × (E < number_of T (suc z)))
          → (z : ℕ) × (n ≤ z) × (z < T.actions) × (owner T z ≡ owner T n) × (kind T z ≡ fork) × (number_of T z < E) × (E < number_of T (suc z))
      go (yes i) d ih = at i (is fork (kind T z)) refl
      go (no i) (yes d) ih = absurd (none z inside same d)
      go (no i) (no d) ih = ih (sym same) none low (omega (arith, i, d))

module _ (T : Table) (l : Lawful T) (p K : ℕ) (st : State) (f : Facts T p K st) where
  pub forked_before_lem : (x : ℕ) → x < T.actions → kind T x ≡ fork → (status_of st (owner T x) ≡ ended → ⊥) → (status_of st (T.argument x) ≡ unborn → ⊥) → x < next_of st (owner T x)
  forked_before_lem x h k e b = go (done_where T st x (born_forked T l p K st f x h k b))
    where
      go : (x < next_of st (owner T x)) ⊎ ((x ≡ next_of st (owner T x)) × (status_of st (owner T x) ≡ ended)) → x < next_of st (owner T x)
      go (inl i) = i
      go (inr i) = absurd (e i.1)

  -- a live child's end comes before its parent's next action
  pub ends_before : (v x : ℕ) → Live st v → x < T.actions → kind T x ≡ fork → owner T x ≡ v → Live st (T.argument x) → number_of T (end_of T (T.argument x)) < number_of T (next_of st v)
  ends_before v x a h k o c =
      let i : x < next_of st v = rw o at (forked_before_lem x h k (rw o a.1) c.0) in
      let b : v < T.threads = subst (λ (z : ℕ). z < T.threads) o (owner_below_lem T l.contents x h) in
      omega (
        arith,
        number_past T l x h k,
        number_along T l (suc x) (next_of st v) (omega arith) (next_below T l p K st f v b)
            (next_owner T l.contents l.bodies x h (fork_no_end k) ∙ o ∙ sym (owner_of_next T l p K st f v b)),
      )

  -- an unborn thread has no live child
  pub unborn_childless : (c : ℕ) → status_of st c ≡ unborn → (x : ℕ) → x < T.actions → kind T x ≡ fork → owner T x ≡ c → Live st (T.argument x) → ⊥
  unborn_childless c e x h k o v = v.0 (undone_unborn T l p K st f x h k (unborn_undone T l p K st f x h (rw o e)))

  -- the child that a join names is one that its thread forks
  pub join_forks : (j : ℕ) → j < T.actions → kind T j ≡ join → (x : ℕ) × (x < j) × (kind T x ≡ fork) × (T.argument x ≡ T.argument j) × (owner T x ≡ owner T j)
  join_forks j h k = open_forked T l.contents l.bodies l.nesting j (T.argument j) h (rw (open_join T l.contents l.bodies l.nesting j h k) (Memᴰ.head refl))

  module _ (u : ℕ) (waiter : u < T.threads) (waits : status_of st u ≡ waiting) (t : ℕ) (child : awaited T st u ≡ t) (below : t < T.threads) (alive : Live st t)
      (last : next_of st t ≡ end_of T t) where
    abbrev E : ℕ
    E = number_of T (end_of T t)

    at_end_lem : end_of T t < T.actions
    at_end_lem = end_within T l.contents t below

    -- an undone fork is not around t's end
    not_around : (y : ℕ) → y < T.actions → kind T y ≡ fork → is_done T st y ≡ false → number_of T y < E → E < number_of T (suc y) → ⊥
    not_around y h k n low high =
        let z : status_of st (owner T (end_of T t)) ≡ unborn = between_unborn T l p K st f y h k n (end_of T t) at_end_lem low high in
        alive.0 (rw (owner_of_end T l.contents t below) at z)

    pub between_done : (fuel v : ℕ) → number_of T v ≤ fuel → v < T.actions → E < number_of T v → number_of T v < number_of T (next_of st u) → Done T st v
    between_done zero v b i low high = absurd (omega (arith, b, low))
    between_done (suc fuel) v b i low high = test (is_done T st v) refl (ℕ_discrete (status_of st o) unborn) (ℕ_discrete (status_of st o) ended) (between_done fuel)
      where
        o : ℕ
        o = owner T v

        ob : o < T.threads
        ob = owner_below_lem T l.contents v i

        n : ℕ
        n = next_of st o

        IH : Type 0
        IH = (y : ℕ) → number_of T y ≤ fuel → y < T.actions → E < number_of T y → number_of T y < number_of T (next_of st u) → Done T st y

        -- its thread is not born
        unforked : is_done T st v ≡ false → status_of st o ≡ unborn → IH → ⊥
        unforked d e ih = go (ℕ_discrete o 0)
          where
            at : (y : ℕ) → y < T.actions → kind T y ≡ fork → T.argument y ≡ o → is_done T st y ≡ false → Dec (E < number_of T y) → Dec (number_of T y ≡ E) → ⊥
            at y h k r z (yes g) q =
                let m : number_of T (T.first o) ≡ suc (number_of T y) = rw r at (number_child T l y h k) in
                no_way (cc (ih y (omega (arith, m, number_first T l v i)) h g (omega (arith, m, number_first T l v i))))
            at y h k r z (no g) (yes q) =
                let s : y ≡ end_of T t = number_once T l y (end_of T t) h at_end_lem q in
                no_way (cc (end_kind T l.contents l.bodies t below))
            at y h k r z (no g) (no q) =
                not_around y h k z (omega (arith, g, q)) (omega (arith, in_fork T l y v h k i (sym r)))

            go : Dec (o ≡ 0) → ⊥
            go (yes z) = f.root_born (rw z at e)
            go (no z) =
                let (y, h, k, r) = fork_exists T l.contents l.bodies l.nesting l.forking o (omega (arith, z)) ob in
                let s : fork_below T T.actions o ≡ y = rw r at (fork_found T l.contents l.bodies l.nesting y h k) in
                at y h k r (rw s at (f.unborn_fork o (omega (arith, z)) ob e)) (dec_lt E (number_of T y)) (ℕ_discrete (number_of T y) E)

        -- its thread is live
        forked : is_done T st v ≡ false → (status_of st o ≡ unborn → ⊥) → (status_of st o ≡ ended → ⊥) → ⊥
        forked d e g = go (dec_lt E (number_of T n)) (ℕ_discrete (number_of T n) E)
          where
            on : owner T n ≡ o
            on = owner_of_next T l p K st f o ob

            nb : n < T.actions
            nb = next_below T l p K st f o ob

            nv : n ≤ v
            nv = at (dec_lt v n)
              where
                at : Dec (v < n) → n ≤ v
                at (yes z) = no_way (cc (done_low T st v z))
                at (no z) = omega (arith, z)

            up : number_of T n ≤ number_of T v
            up = number_along T l n v nv i on

            apart : o ≡ t → ⊥
            apart z =
                let y : v < T.first t + T.count t = rw z at (owner_end T l.contents v i) in
                omega (arith, low, number_along T l v (end_of T t) (omega (arith, y, after_end T l.contents t below)) at_end_lem (z ∙ sym (owner_of_end T l.contents t below)))

            none : (z : ℕ) → z < T.actions → owner T z ≡ owner T n → number_of T z ≡ E → ⊥
            none z h w q =
                let s : z ≡ end_of T t = number_once T l z (end_of T t) h at_end_lem q in
                apart (sym on ∙ sym w ∙ ap (owner T) s ∙ owner_of_end T l.contents t below)

            caught : (y : ℕ) → n ≤ y → y < T.actions → owner T y ≡ o → kind T y ≡ fork → number_of T y < E → E < number_of T (suc y) → ⊥
            caught y a h w k lo hi = not_around y h k (undone T st y (rw w a) (rw w g)) lo hi

            go : Dec (E < number_of T n) → Dec (number_of T n ≡ E) → ⊥
            go (yes z) q =
                none_between T l p K st f u waiter waits o (f.live_listed o ob e g) (rw (child, last) z) (omega (arith, up, high))
            go (no z) (yes q) = none n nb refl q
            go (no z) (no q) =
                let j : ℕ = v - n in
                let s : n + j ≡ v = omega (arith, nv) in
                let (y, a, h, w, k, lo, hi) = jump T l E n j (omega (arith, s, i)) (on ∙ sym (ap (owner T) s)) none (omega (arith, z, q)) (rw s low) in
                caught y a h (w ∙ on) k lo hi

        test : (q : Bool) → is_done T st v ≡ q → Dec (status_of st o ≡ unborn) → Dec (status_of st o ≡ ended) → IH → q ≡ true
        test true d e g ih = refl
        test false d (yes e) g ih = absurd (unforked d e ih)
        test false d (no e) (yes g) ih = no_way (cc (ended_all T l p K st f v i g))
        test false d (no e) (no g) ih = absurd (forked d e g)
