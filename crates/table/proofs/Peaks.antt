-- The serial peak of a thread from those of its children, by its actions in order.
use mathlib.Core.Path.{◌≡◌, refl}
use Prim.Native.Nat.{ℕ, zero, suc, ◌+◌, ◌-◌, ◌*◌, ◌≤◌, ◌<◌, max}
use mathlib.Core.List.{List, [], ◌∷◌, ◌++◌, map, Memᴰ}
use mathlib.Core.Bool.{false}
use native.Mathlib.Omega.{arith}
use native.Mathlib.Nat.{add-suc, add-zero}
use native.Mathlib.Decide.{dec_lt}
use borrow.Author.Tests.{ltb-false}
use Rattle.table.specs.Sum.{pick, sum_to, sum_over, greatest, greatest_to}
use Rattle.table.specs.Format.{code_of, is, Table, kind}
use Rattle.table.specs.declared.kinds.Kind.{Kind}
use Rattle.table.specs.declared.kinds.Kind.TheVariants.{End as end, Alloc as alloc, Free as free, Fork as fork, Join as join}
use Rattle.table.specs.Checks.{open_before, alloc_of, free_of, whole, part_of, balance, balance_below0}
use Rattle.table.specs.Rules.{ContentRules, BodyRules, NestRules, BalanceRules}
use Rattle.table.specs.Serial.{serial, held_after, fronts, peak_of}
use Rattle.table.proofs.Tests.{negative_is}
use Rattle.table.proofs.Bodies.{count_pos, owner_at, fork_below_lem}
use Rattle.table.proofs.Nesting.{open_below}
use Rattle.table.proofs.Serial.{serial_end, serial_fork, serial_step}
use Rattle.table.proofs.Amounts.{fork_part, fork_part_fork, fork_part_step, fork_part_open, fork_part_whole, action_within, along_serial, whole_is, whole_serial, whole_bound}

-- what is held, counted from the thread's start, before its action k, and the highest while a child forked there runs
abbrev pub top_at : Table → (ℕ → ℕ) → ℕ → ℕ → ℕ
top_at T peaks t k =
    (fork_part T (alloc_of T) t k - fork_part T (free_of T) t k)
    + pick (is fork (kind T (T.first t + k))) (peaks (T.argument (T.first t + k))) 0

-- ---- lists: u drawn and d given back so far, and each element draws and gives back

-- no front part gives back more than is drawn
Held : (ℕ → ℕ) → (ℕ → ℕ) → ℕ → ℕ → List ℕ → Type 0
Held up down u d [] = d ≤ u
Held up down u d (x ∷ l) = (d ≤ u) × Held up down (u + up x) (d + down x) l

-- the highest amount held after a front part
unfoldable pub top_from : (ℕ → ℕ) → (ℕ → ℕ) → ℕ → ℕ → List ℕ → ℕ
top_from up down u d [] = u - d
top_from up down u d (x ∷ l) = max (u - d) (top_from up down (u + up x) (d + down x) l)

pub greatest_map : (f : List ℕ → ℕ) (g : List ℕ → List ℕ) (l : List (List ℕ)) → greatest f (map g l) ≡ greatest (λ q. f (g q)) l
unfolding greatest
greatest_map f g [] = refl
greatest_map f g (q ∷ l) = rw (greatest_map f g l)

module _ (up down : ℕ → ℕ) where
  held_front : (q r : List ℕ) (u d : ℕ) → Held up down u d (q ++ r) → d + sum_over down q ≤ u + sum_over up q
  unfolding Held sum_over
  held_front [] [] u d h = omega arith
  held_front [] (x ∷ r) u d h = omega (arith, h.0)
  held_front (x ∷ q) r u d h = omega (arith, held_front q r (u + up x) (d + down x) h.1)

  -- with at least as much held at the start
  held_more : (l : List ℕ) (u d v w : ℕ) → u + w ≤ v + d → Held up down u d l → Held up down v w l
  unfolding Held
  held_more [] u d v w i h = omega arith
  held_more (x ∷ l) u d v w i h = (omega (arith, h.0), held_more l (u + up x) (d + down x) (v + up x) (w + down x) (omega arith) h.1)

  held_append : (s l : List ℕ) (u d v w : ℕ) → v ≡ u + sum_over up s → w ≡ d + sum_over down s
      → Held up down u d s → Held up down v w l → Held up down u d (s ++ l)
  unfolding Held sum_over
  held_append [] l u d v w i j h k = held_more l v w u d (omega arith) k
  held_append (x ∷ s) l u d v w i j h k =
      (h.0, held_append s l (u + up x) (d + down x) v w (omega arith) (omega arith) h.1 k)

  top_start : (l : List ℕ) (u d : ℕ) → u - d ≤ top_from up down u d l
  unfolding top_from
  top_start [] u d = omega arith
  top_start (x ∷ l) u d = omega arith

  -- with z more held at the start
  top_more : (l : List ℕ) (u d v w z : ℕ) → v + d ≡ z + (u + w) → Held up down u d l → top_from up down v w l ≡ z + top_from up down u d l
  unfolding top_from Held
  top_more [] u d v w z i h = omega arith
  top_more (x ∷ l) u d v w z i h =
      omega (arith, h.0, top_more l (u + up x) (d + down x) (v + up x) (w + down x) z (omega arith) h.1)

  top_append : (s l : List ℕ) (u d v w : ℕ) → v ≡ u + sum_over up s → w ≡ d + sum_over down s
      → top_from up down u d (s ++ l) ≡ max (top_from up down u d s) (top_from up down v w l)
  unfolding top_from sum_over
  top_append [] l u d v w i j =
      let p : v ≡ u = omega arith in
      let q : w ≡ d = omega arith in
      rw (p, q) (omega (arith, top_start l u d))
  top_append (x ∷ s) l u d v w i j = omega (arith, top_append s l (u + up x) (d + down x) v w (omega arith) (omega arith))

  top_bound : (l : List ℕ) (u d : ℕ) → top_from up down u d l ≤ u + sum_over up l
  unfolding top_from sum_over
  top_bound [] u d = omega arith
  top_bound (x ∷ l) u d = omega (arith, top_bound l (u + up x) (d + down x))

  pub top_fronts : (l : List ℕ) (u d : ℕ) (f : List ℕ → ℕ) → ((q : List ℕ) → f q ≡ u + sum_over up q - (d + sum_over down q))
      → greatest f (fronts l) ≡ top_from up down u d l
  unfolding top_from sum_over greatest fronts
  top_fronts [] u d f h = omega (arith, h [])
  top_fronts (x ∷ l) u d f h =
      rw (greatest_map f (x ∷◌) (fronts l))
      (omega (arith, h [], top_fronts l (u + up x) (d + down x) (λ q. f (x ∷ q)) (λ q. omega (arith, h (x ∷ q)))))

pub sum_over_le : (f g : ℕ → ℕ) (l : List ℕ) → ((x : ℕ) → Memᴰ x l → f x ≤ g x) → sum_over f l ≤ sum_over g l
unfolding sum_over
sum_over_le f g [] h = omega arith
sum_over_le f g (x ∷ l) h = omega (arith, sum_over_le f g l (λ y m. h y (Memᴰ.tail m)), h x (Memᴰ.head refl))

max_assoc : (x y z : ℕ) → max (max x y) z ≡ max x (max y z)
max_assoc x y z = omega arith

max_over : (x y z : ℕ) → max x (max (x + y) z) ≡ max (x + y) z
max_over x y z = omega arith

-- an action of a kind that neither draws nor gives back
pub no_amount : (T : Table) (a : ℕ) (k : Kind) → kind T a ≡ k → is alloc k ≡ false → is free k ≡ false → (alloc_of T a ≡ 0) × (free_of T a ≡ 0)
unfolding alloc_of free_of
no_amount T a k e p q = (rw (e, p), rw (e, q))

pub join_none : (T : Table) (a : ℕ) → kind T a ≡ join → (alloc_of T a ≡ 0) × (free_of T a ≡ 0)
unfolding is code_of
join_none T a k = no_amount T a join k refl refl

pub peak_of_top : (T : Table) (l : List ℕ) → peak_of T l ≡ top_from (alloc_of T) (free_of T) 0 0 l
unfolding peak_of held_after
peak_of_top T l = top_fronts (alloc_of T) (free_of T) l 0 0 (held_after T) (λ q. omega arith)

-- a thread's peak, counted from its start
abbrev pub peak_at : Table → ℕ → ℕ
peak_at T t = peak_of T (serial T (T.first t))

-- from a thread's action k on, counted from its start: the highest amount, and that no front part gives back more than is drawn
abbrev top_on : Table → ℕ → ℕ → ℕ
top_on T t k = top_from (alloc_of T) (free_of T) (fork_part T (alloc_of T) t k) (fork_part T (free_of T) t k) (serial T (T.first t + k))

abbrev HeldOn : Table → ℕ → ℕ → Type 0
HeldOn T t k = Held (alloc_of T) (free_of T) (fork_part T (alloc_of T) t k) (fork_part T (free_of T) t k) (serial T (T.first t + k))

module _ (T : Table) (c : ContentRules T) (b : BodyRules T) (n : NestRules T) (e : BalanceRules T) where
  -- rule 10: no thread's balance is below 0 after any of its actions
  pub part_held : (t k : ℕ) → t < T.threads → k ≤ T.count t → part_of T (free_of T) t k ≤ part_of T (alloc_of T) t k
  unfolding sum_to balance_below0 balance
  part_held t zero h i = omega arith
  part_held t (suc k) h i =
      let a : ℕ = T.first t + k in
      let m : suc a - T.first t ≡ suc k = omega arith in
      ltb-false (part_of T (alloc_of T) t (suc k)) (part_of T (free_of T) t (suc k))
      (rw (owner_at T c t k h i, m, negative_is) at (e.balanced a (action_within T c b t k h i)))

  pub whole_held : (t : ℕ) → t < T.threads → whole T (free_of T) t ≤ whole T (alloc_of T) t
  whole_held t h = rw (whole_is T c b (free_of T) t h, whole_is T c b (alloc_of T) t h) (part_held t (T.count t) h (omega arith))

  -- the same where children count at their forks: those that stand open draw at least what they give back, too
  pub fork_part_held : (t k : ℕ) → t < T.threads → k ≤ T.count t → fork_part T (free_of T) t k ≤ fork_part T (alloc_of T) t k
  fork_part_held t k h j = go (dec_lt k (T.count t))
    where
      go : Dec (k < T.count t) → fork_part T (free_of T) t k ≤ fork_part T (alloc_of T) t k
      go (yes i) =
          let a : ℕ = T.first t + k in
          let w : a < T.actions = action_within T c b t k h i in
          omega (
            arith,
            fork_part_open T c b n (free_of T) t k h i,
            fork_part_open T c b n (alloc_of T) t k h i,
            part_held t k h j,
            sum_over_le (whole T (free_of T)) (whole T (alloc_of T)) (open_before T a) (λ d m. whole_held d (open_below T c b n a d w m)),
          )
      go (no i) =
          let l : k ≡ T.count t = omega (arith, i) in
          rw (l, fork_part_whole T c b n (free_of T) t h, fork_part_whole T c b n (alloc_of T) t h) (whole_held t h)

  -- what comes to an action after a fork: the fork's own, and all of the child's serial order
  child_sum : (own : ℕ → ℕ) (t k : ℕ) → t < T.threads → suc k < T.count t → kind T (T.first t + k) ≡ fork
      → fork_part T own t (suc k) ≡ fork_part T own t k + own (T.first t + k) + sum_over own (serial T (T.first (T.argument (T.first t + k))))
  child_sum own t k h i o =
      let a : ℕ = T.first t + k in
      rw (← whole_serial T c b n own (T.argument a) (fork_below_lem T c b a (action_within T c b t k h (omega arith)) o)) (fork_part_fork T own t k o)

  -- no front part from an action on frees more than was drawn, counted from the thread's start
  held_on : (t k : ℕ) → t < T.threads → k < T.count t → HeldOn T t k
  unfolding Held sum_to is code_of
  held_on =
      along_serial T c b (HeldOn T)
      (λ t k h i o.
      let a : ℕ = T.first t + k in
      let m : fork_part T (free_of T) t k ≤ fork_part T (alloc_of T) t k = fork_part_held t k h (omega arith) in
      rw (serial_end T c b a (action_within T c b t k h (omega arith)) o) (m, omega (arith, no_amount T a end o refl refl)))
      (λ t k h i o child next.
      let a : ℕ = T.first t + k in
      let m : fork_part T (free_of T) t k ≤ fork_part T (alloc_of T) t k = fork_part_held t k h (omega arith) in
      let z : (alloc_of T a ≡ 0) × (free_of T a ≡ 0) = no_amount T a fork o refl refl in
      rw (serial_fork T c b a (action_within T c b t k h (omega arith)) o) (
        m,
        held_append (alloc_of T) (free_of T) (serial T (T.first (T.argument a))) (serial T (suc a)) _ _ _ _
            (child_sum (alloc_of T) t k h i o) (child_sum (free_of T) t k h i o)
            (held_more (alloc_of T) (free_of T) (serial T (T.first (T.argument a))) 0 0 _ _ (omega arith) (rw add-zero at child))
            (rw add-suc at next),
      ))
      (λ t k h i p q next.
      rw (serial_step T c b (T.first t + k) (action_within T c b t k h (omega arith)) p q)
      (fork_part_held t k h (omega arith), rw (add-suc, fork_part_step T (alloc_of T) t k q, fork_part_step T (free_of T) t k q) at next))

  -- and so from the thread's first action on
  held_thread : (t : ℕ) → t < T.threads → Held (alloc_of T) (free_of T) 0 0 (serial T (T.first t))
  unfolding sum_to
  held_thread t h = rw add-zero at (held_on t 0 h (count_pos T c t h))

  top_last : (t k : ℕ) → t < T.threads → T.count t ≡ suc k → kind T (T.first t + k) ≡ end → top_on T t k ≡ top_at T (peak_at T) t k
  unfolding top_from is code_of
  top_last t k h i o =
      let a : ℕ = T.first t + k in
      rw (serial_end T c b a (action_within T c b t k h (omega arith)) o, o)
      (omega (arith, no_amount T a end o refl refl))

  top_fork : (t k : ℕ) → t < T.threads → suc k < T.count t → kind T (T.first t + k) ≡ fork
      → top_on T t k ≡ max (top_at T (peak_at T) t k) (top_on T t (suc k))
  unfolding top_from is code_of
  top_fork t k h i o =
      let a : ℕ = T.first t + k in
      let d : ℕ = T.argument a in
      let w : a < T.actions = action_within T c b t k h (omega arith) in
      let l : d < T.threads = fork_below_lem T c b a w o in
      let u : ℕ = fork_part T (alloc_of T) t k in
      let v : ℕ = fork_part T (free_of T) t k in
      let m : v ≤ u = fork_part_held t k h (omega arith) in
      let z : (alloc_of T a ≡ 0) × (free_of T a ≡ 0) = no_amount T a fork o refl refl in
      let child : top_from (alloc_of T) (free_of T) (u + alloc_of T a) (v + free_of T a) (serial T (T.first d)) ≡ u - v + peak_at T d =
      rw peak_of_top
      (top_more (alloc_of T) (free_of T) (serial T (T.first d)) 0 0 _ _ (u - v) (omega arith) (held_thread d l)) in
      rw (serial_fork T c b a w o, o, add-suc)
      (rw (
        top_append (alloc_of T) (free_of T) (serial T (T.first d)) (serial T (suc a)) (u + alloc_of T a) (v + free_of T a) _ _
            (child_sum (alloc_of T) t k h i o) (child_sum (free_of T) t k h i o),
        child,
      )
      (max_over (u - v) (peak_at T d) _))

  top_step : (t k : ℕ) → t < T.threads → suc k < T.count t → is end (kind T (T.first t + k)) ≡ false → is fork (kind T (T.first t + k)) ≡ false
      → top_on T t k ≡ max (top_at T (peak_at T) t k) (top_on T t (suc k))
  unfolding top_from
  top_step t k h i p q =
      let a : ℕ = T.first t + k in
      rw (serial_step T c b a (action_within T c b t k h (omega arith)) p q, q, add-suc, fork_part_step T (alloc_of T) t k q, fork_part_step T (free_of T) t k q, add-zero)

  -- the highest before an action, and from there on
  top_rest : (t k : ℕ) → t < T.threads → k < T.count t
      → max (greatest_to (top_at T (peak_at T) t) k) (top_on T t k) ≡ greatest_to (top_at T (peak_at T) t) (T.count t)
  unfolding greatest_to
  top_rest =
      along_serial T c b (λ t k. max (greatest_to (top_at T (peak_at T) t) k) (top_on T t k) ≡ greatest_to (top_at T (peak_at T) t) (T.count t))
      (λ t k h i o. rw (i, top_last t k h i o))
      (λ t k h i o child next. rw (top_fork t k h i o, ← max_assoc) next)
      (λ t k h i p q next. rw (top_step t k h i p q, ← max_assoc) next)

  pub peak_thread : (t : ℕ) → t < T.threads
      → peak_at T t ≡ greatest_to (top_at T (peak_at T) t) (T.count t)
  unfolding greatest_to sum_to
  peak_thread t h = rw (peak_of_top T (serial T (T.first t))) (omega (arith, rw add-zero at (top_rest t 0 h (count_pos T c t h))))

  -- no front part of a thread's serial order frees more than it drew
  pub serial_held : (t : ℕ) (q r : List ℕ) → t < T.threads → serial T (T.first t) ≡ q ++ r → sum_over (free_of T) q ≤ sum_over (alloc_of T) q
  serial_held t q r h k = omega (arith, held_front (alloc_of T) (free_of T) q r 0 0 (rw k at (held_thread t h)))

  pub peak_bound : (B : ℕ) → ((a : ℕ) → a < T.actions → alloc_of T a ≤ B) → (t : ℕ) → t < T.threads → peak_at T t ≤ B * T.actions
  peak_bound B h t k =
      rw (peak_of_top T (serial T (T.first t)))
      (omega (arith, top_bound (alloc_of T) (free_of T) (serial T (T.first t)) 0 0, whole_serial T c b n (alloc_of T) t k, whole_bound T c b n (alloc_of T) B h t k))
