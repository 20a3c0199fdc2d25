-- The balance of specs/Checks is the one of document 01's sentence, and the only one; from action to action it changes by what the action moves. This holds of every table that passes
-- checks 1 to 7, also where a balance falls below 0.
use mathlib.Core.Path.{◌≡◌, refl, sym, ◌∙◌, ap}
use mathlib.Core.Logic.{◌↔◌}
use Prim.Native.Nat.{ℕ, zero, suc, pred, ◌+◌, ◌-◌, ◌≤◌, ◌<◌}
use mathlib.Core.Bool.{false}
use native.Mathlib.Nat.{add-zero, zero-add}
use native.Mathlib.Omega.{arith}
use borrow.Author.Tests.{le-ltb}
use lib.IntN.{ℤ, pos, negsuc, neg_ℤ, sub_ℕ, ◌+ℤ◌, +ℤ_idl, +ℤ_assoc, +ℤ_comm, neg_ℤ-+ℤ}
use Rattle.table.specs.Sum.{pick, sum_to}
use Rattle.table.specs.Format.{code_of, is, Table, kind}
use Rattle.table.specs.declared.kinds.Kind.{Kind}
use Rattle.table.specs.declared.kinds.Kind.TheVariants.{End as end, Work as work, Alloc as alloc, Free as free, Fork as fork, Join as join, Unknown as unknown}
use Rattle.table.specs.Checks.{owner, end_of, alloc_of, free_of, with_child, whole, part_of, balance, negative, balance_below0}
use Rattle.table.specs.Rules.{ContentRules, BodyRules}
use Rattle.table.specs.JobTable.{InBody, sum_signed, moves, moves_at, IsBalance}
use Rattle.table.proofs.Tests.{no_way}
use Rattle.table.proofs.Bodies.{count_pos, after_end, owner_at, owner_below_lem, owner_first, owner_end, join_above, join_below}
use Rattle.table.proofs.Serial.{downward}
use Rattle.table.proofs.Amounts.{action_within, whole_is}

-- ---- differences

difference_zero : (x : ℕ) → sub_ℕ x 0 ≡ pos x
difference_zero x =
    let e : x - 0 ≡ x = omega arith in
    rw (le-ltb x 0 (omega arith)) (ap pos e)

difference_is : (x y : ℕ) → sub_ℕ x y ≡ pos x +ℤ neg_ℤ (pos y)
difference_is x zero = difference_zero x ∙ ap pos (sym (add-zero x))
difference_is x (suc y) = refl

-- a difference of sums is the sum of the differences
difference_sum : (a b x y : ℕ) → sub_ℕ (a + b) (x + y) ≡ sub_ℕ a x +ℤ sub_ℕ b y
difference_sum a b x y =
    let p : ℤ = pos a in
    let q : ℤ = pos b in
    let r : ℤ = neg_ℤ (pos x) in
    let s : ℤ = neg_ℤ (pos y) in
    difference_is (a + b) (x + y)
    ∙ ap (λ (z : ℤ). (p +ℤ q) +ℤ z) (neg_ℤ-+ℤ (pos x) (pos y))
    ∙ +ℤ_assoc p q (r +ℤ s)
    ∙ ap (λ (z : ℤ). p +ℤ z) (sym (+ℤ_assoc q r s) ∙ ap (λ (z : ℤ). z +ℤ s) (+ℤ_comm q r) ∙ +ℤ_assoc r q s)
    ∙ sym (+ℤ_assoc p r (q +ℤ s))
    ∙ ap (λ (z : ℤ). z +ℤ (q +ℤ s)) (sym (difference_is a x))
    ∙ ap (λ (z : ℤ). sub_ℕ a x +ℤ z) (sym (difference_is b y))

sum_signed_cong : (f g : ℕ → ℤ) (k : ℕ) → ((i : ℕ) → i < k → f i ≡ g i) → sum_signed f k ≡ sum_signed g k
unfolding sum_signed
sum_signed_cong f g zero h = refl
sum_signed_cong f g (suc k) h = rw (sum_signed_cong f g k (λ i l. h i (omega arith)), h k (omega arith))

-- ---- one action

-- by how much an action moves the balance, as the difference of what it draws and what it gives back
moves_difference : (k : Kind) (x up down : ℕ) (final : ℤ) → (k ≡ join → final ≡ sub_ℕ up down)
    → sub_ℕ (pick (is alloc k) x 0 + pick (is join k) up 0) (pick (is free k) x 0 + pick (is join k) down 0) ≡ moves k x final
unfolding is code_of
moves_difference end x up down final h = refl
moves_difference work x up down final h = refl
moves_difference alloc x up down final h = difference_zero (x + 0) ∙ ap pos (add-zero x)
moves_difference free x up down final h = ap (sub_ℕ 0) (add-zero x) ∙ difference_is 0 x ∙ +ℤ_idl (neg_ℤ (pos x))
moves_difference fork x up down final h = refl
moves_difference join x up down final h =
    ap (λ (y : ℕ). sub_ℕ y (0 + down)) (zero-add up) ∙ ap (sub_ℕ up) (zero-add down) ∙ sym (h refl)
moves_difference unknown x up down final h = refl

-- only a join looks at the child
moves_cong : (k : Kind) (x : ℕ) (y z : ℤ) → (k ≡ join → y ≡ z) → moves k x y ≡ moves k x z
moves_cong end x y z h = refl
moves_cong work x y z h = refl
moves_cong alloc x y z h = refl
moves_cong free x y z h = refl
moves_cong fork x y z h = refl
moves_cong join x y z h = h refl
moves_cong unknown x y z h = refl

-- ---- the sentence

module _ (T : Table) (c : ContentRules T) (b : BodyRules T) where
  -- the balance after action k of a thread, and after its end
  balance_at : (t k : ℕ) → t < T.threads → k < T.count t
      → balance T (T.first t + k) ≡ sub_ℕ (part_of T (alloc_of T) t (suc k)) (part_of T (free_of T) t (suc k))
  unfolding balance
  balance_at t k h i =
      let u : suc (T.first t + k) - T.first t ≡ suc k = omega arith in
      rw (owner_at T c t k h i, u)

  last_at : (t : ℕ) → t < T.threads → (T.first t + pred (T.count t) ≡ end_of T t) × (suc (pred (T.count t)) ≡ T.count t)
  last_at t h = (omega (arith, after_end T c t h, count_pos T c t h), omega (arith, count_pos T c t h))

  balance_final : (t : ℕ) → t < T.threads → balance T (end_of T t) ≡ sub_ℕ (whole T (alloc_of T) t) (whole T (free_of T) t)
  balance_final t h =
      let (e, s) = last_at t h in
      rw (whole_is T c b (alloc_of T) t h, whole_is T c b (free_of T) t h, ← e)
      (balance_at t (pred (T.count t)) h (omega (arith, count_pos T c t h)) ∙ rw s)

  moves_at_lem : (a : ℕ) → a < T.actions
      → sub_ℕ (with_child T join (alloc_of T) (whole T (alloc_of T)) a) (with_child T join (free_of T) (whole T (free_of T)) a) ≡ moves_at T (balance T) a
  unfolding alloc_of free_of
  moves_at_lem a h =
      moves_difference (kind T a) (T.argument a) (whole T (alloc_of T) (T.argument a)) (whole T (free_of T) (T.argument a))
      (balance T (end_of T (T.argument a)))
      (λ k. balance_final (T.argument a) (join_below T c b a h k))

  balance_sum : (t k : ℕ) → t < T.threads → k ≤ T.count t
      → sub_ℕ (part_of T (alloc_of T) t k) (part_of T (free_of T) t k) ≡ sum_signed (λ i. moves_at T (balance T) (T.first t + i)) k
  unfolding sum_to sum_signed
  balance_sum t zero h i = refl
  balance_sum t (suc k) h i =
      difference_sum (part_of T (alloc_of T) t k) _ (part_of T (free_of T) t k) _
      ∙ rw (balance_sum t k h (omega arith), moves_at_lem (T.first t + k) (action_within T c b t k h i))

  -- "A thread's balance after an action is its allocs less its frees so far, plus the final balances of the children joined so far."
  pub balance_is : IsBalance T (balance T)
  balance_is t k h i = balance_at t k h i ∙ balance_sum t (suc k) h i

  -- no other function keeps the sentence
  pub balance_only : (after : ℕ → ℤ) → IsBalance T after → (a : ℕ) → a < T.actions → after a ≡ balance T a
  balance_only after s a h =
      let t : ℕ = owner T a in
      let e : T.first t + (a - T.first t) ≡ a = omega (arith, owner_first T c a h) in
      rw e at (downward Same T.threads one t (owner_below_lem T c a h) (a - T.first t) (omega (arith, owner_first T c a h, owner_end T c a h)))
    where
      Same : ℕ → Type 0
      Same t = (k : ℕ) → k < T.count t → after (T.first t + k) ≡ balance T (T.first t + k)

      final : (d : ℕ) → d < T.threads → Same d → after (end_of T d) ≡ balance T (end_of T d)
      final d h p = rw (last_at d h).0 at (p (pred (T.count d)) (omega (arith, count_pos T c d h)))

      one : (t : ℕ) → t < T.threads → ((d : ℕ) → t < d → d < T.threads → Same d) → Same t
      one t h ih k i =
          s t k h i
          ∙ sum_signed_cong _ _ (suc k) (λ j l.
          let a : ℕ = T.first t + j in
          let w : a < T.actions = action_within T c b t j h (omega arith) in
          moves_cong (kind T a) (T.argument a) _ _ (λ e.
          let d : T.argument a < T.threads = join_below T c b a w e in
          final (T.argument a) d (ih (T.argument a) (rw (owner_at T c t j h (omega arith)) at (join_above T c b a w e)) d)))
          ∙ sym (balance_is t k h i)

  -- before a thread's first action it is 0, and each action moves it: an alloc by its argument up, a free by its argument down, a join by
  -- the child's final balance, any other not at all
  pub balance_first : (t : ℕ) → t < T.threads → balance T (T.first t) ≡ moves_at T (balance T) (T.first t)
  unfolding sum_signed
  balance_first t h = rw add-zero at (balance_is t 0 h (count_pos T c t h)) ∙ +ℤ_idl _

  balance_step : (t k : ℕ) → t < T.threads → suc k < T.count t
      → balance T (T.first t + suc k) ≡ balance T (T.first t + k) +ℤ moves_at T (balance T) (T.first t + suc k)
  unfolding sum_signed
  balance_step t k h i =
      balance_is t (suc k) h i ∙ ap (λ (z : ℤ). z +ℤ moves_at T (balance T) (T.first t + suc k)) (sym (balance_is t k h (omega arith)))

  pub balance_next : (t a : ℕ) → InBody T t a → InBody T t (suc a) → balance T (suc a) ≡ balance T a +ℤ moves_at T (balance T) (suc a)
  balance_next t a i j =
      let k : ℕ = a - T.first t in
      let e : T.first t + k ≡ a = omega (arith, i.from) in
      let f : T.first t + suc k ≡ suc a = omega (arith, i.from) in
      rw (e, f) at (balance_step t k i.thread (omega (arith, i.from, j.below)))

-- ---- below 0

pub balance_natural : (T : Table) (a : ℕ) → (balance_below0 T a ≡ false) ↔ ((k : ℕ) × (balance T a ≡ pos k))
unfolding balance_below0
balance_natural T a = (λ h. to (balance T a) h, from)
  where
    to : (z : ℤ) → negative z ≡ false → (k : ℕ) × (z ≡ pos k)
    to (pos k) h = (k, refl)
    to (negsuc k) h = no_way (cc)

    from : (k : ℕ) × (balance T a ≡ pos k) → negative (balance T a) ≡ false
    from (k, e) = rw e
