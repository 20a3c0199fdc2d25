-- The amount of a whole thread without fuel, and as the sum over its serial order: a child counts at its join in the one and runs from its fork in the other, and every child is joined.
use mathlib.Core.Path.{◌≡◌, refl, ◌∙◌, ap}
use Prim.Native.Nat.{ℕ, zero, suc, pred, ◌+◌, ◌*◌, ◌≤◌, ◌<◌}
use mathlib.Core.Bool.{Bool, true, false}
use lib.ListN.{length}
use native.Mathlib.Omega.{arith}
use native.Mathlib.Nat.{add-suc, add-zero, mul-le-mul_left}
use Rattle.table.specs.Sum.{pick, sum_to, sum_over}
use Rattle.table.specs.Format.{code_of, is, Table, kind}
use Rattle.table.specs.declared.kinds.Kind.TheVariants.{End as end, Fork as fork, Join as join}
use Rattle.table.specs.Checks.{owner, end_of, open_before, with_child, whole_within, whole, part_of}
use Rattle.table.specs.Rules.{ContentRules, BodyRules, NestRules}
use Rattle.table.specs.Serial.{serial}
use Rattle.table.proofs.Sums.{sum_to_cong, sum_to_part, sum_over_append, sum_over_bound}
use Rattle.table.proofs.Tests.{no_way, is_true, pick_same}
use Rattle.table.proofs.Bodies.{body_within, count_pos, owner_at, owner_end, next_within, next_owner, end_kind, end_last, fork_below_lem, join_above, join_below}
use Rattle.table.proofs.Nesting.{open_first, open_end, open_fork, open_join, open_same}
use Rattle.table.proofs.Serial.{serial_end, serial_fork, serial_step, serial_induction, serial_below, serial_bound}

-- the amount over the first k actions of a thread where a child counts at its fork: what serial order has come to before action k
abbrev pub fork_part : Table → (ℕ → ℕ) → ℕ → ℕ → ℕ
fork_part T own t k = sum_to (λ i. with_child T fork own (whole T own) (T.first t + i)) k

pub fork_part_fork : (T : Table) (own : ℕ → ℕ) (t k : ℕ) → kind T (T.first t + k) ≡ fork
    → fork_part T own t (suc k) ≡ fork_part T own t k + own (T.first t + k) + whole T own (T.argument (T.first t + k))
unfolding sum_to is code_of
fork_part_fork T own t k e = rw e (omega arith)

pub fork_part_step : (T : Table) (own : ℕ → ℕ) (t k : ℕ) → is fork (kind T (T.first t + k)) ≡ false
    → fork_part T own t (suc k) ≡ fork_part T own t k + own (T.first t + k)
unfolding sum_to
fork_part_step T own t k e = rw e (omega arith)

module _ (T : Table) (c : ContentRules T) (b : BodyRules T) where
  pub action_within : (t k : ℕ) → t < T.threads → k < T.count t → T.first t + k < T.actions
  action_within t k h i = omega (arith, body_within T c t h)

  -- an action of a thread that is no end has the next one in its thread
  pub action_next : (t k : ℕ) → t < T.threads → k < T.count t → is end (kind T (T.first t + k)) ≡ false → suc k < T.count t
  action_next t k h i e =
      let a : ℕ = T.first t + k in
      let w : a < T.actions = action_within t k h i in
      let o : owner T (suc a) ≡ t = next_owner T c b a w e ∙ owner_at T c t k h i in
      let l : suc a < T.first t + T.count t = rw o at (owner_end T c (suc a) (next_within T c b a w e)) in
      omega arith

  pub action_last : (t k : ℕ) → t < T.threads → k < T.count t → kind T (T.first t + k) ≡ end → T.count t ≡ suc k
  action_last t k h i e =
      let l : T.first t + k ≡ pred (T.first t + T.count t) = rw (owner_at T c t k h i) at (end_last T c b (T.first t + k) (action_within t k h i) e) in
      omega arith

-- What holds of a thread from its action k on, if it holds at an end, at a fork where it holds of the child and from the next action on,
-- and at any other action where it holds from the next one on.
module _ (T : Table) (c : ContentRules T) (b : BodyRules T) (P : ℕ → ℕ → Type 0)
    (ends : (t k : ℕ) → t < T.threads → T.count t ≡ suc k → kind T (T.first t + k) ≡ end → P t k)
    (forks : (t k : ℕ) → t < T.threads → suc k < T.count t → kind T (T.first t + k) ≡ fork
    → P (T.argument (T.first t + k)) 0 → P t (suc k) → P t k)
    (steps : (t k : ℕ) → t < T.threads → suc k < T.count t → is end (kind T (T.first t + k)) ≡ false → is fork (kind T (T.first t + k)) ≡ false
    → P t (suc k) → P t k) where
  pub along_serial : (t k : ℕ) → t < T.threads → k < T.count t → P t k
  unfolding is code_of
  along_serial t k h i =
      serial_induction T c b (λ a. (t k : ℕ) → t < T.threads → k < T.count t → a ≡ T.first t + k → P t k)
      (λ a w o t k h i p.
      let o' : kind T (T.first t + k) ≡ end = rw p at o in
      ends t k h (action_last T c b t k h i o') o')
      (λ a w o child next t k h i p.
      let o' : kind T (T.first t + k) ≡ fork = rw p at o in
      let l : suc k < T.count t = action_next T c b t k h i (rw o') in
      let d : ℕ = T.argument (T.first t + k) in
      let below : d < T.threads = fork_below_lem T c b (T.first t + k) (action_within T c b t k h i) o' in
      forks t k h l o'
      (child d 0 below (count_pos T c d below) (rw (p, add-zero)))
      (next t (suc k) h l (omega arith)))
      (λ a w o q next t k h i p.
      let o' : is end (kind T (T.first t + k)) ≡ false = rw p at o in
      let l : suc k < T.count t = action_next T c b t k h i o' in
      steps t k h l o' (rw p at q) (next t (suc k) h l (omega arith)))
      (T.first t + k) (action_within T c b t k h i) t k h i refl

module _ (T : Table) (c : ContentRules T) (b : BodyRules T) (own : ℕ → ℕ) where
  -- an action with its child at a join, at two fuels that agree on the later threads
  child_fuel : (f g t : ℕ) → t < T.threads → ((d : ℕ) → t < d → d < T.threads → whole_within f T own d ≡ whole_within g T own d)
      → (i : ℕ) → i < T.count t
      → with_child T join own (whole_within f T own) (T.first t + i) ≡ with_child T join own (whole_within g T own) (T.first t + i)
  child_fuel f g t h below i k =
      let a : ℕ = T.first t + i in
      let w : a < T.actions = action_within T c b t i h k in
      let o : owner T a ≡ t = owner_at T c t i h k in
      ap (λ (x : ℕ). own a + x)
      (pick_same join (kind T a) _ _ λ e. below (T.argument a) (rw o at (join_above T c b a w e)) (join_below T c b a w e))

  -- fuel for the threads from a thread on is enough
  whole_fuel : (f g t : ℕ) → t < T.threads → T.threads ≤ f + t → T.threads ≤ g + t → whole_within f T own t ≡ whole_within g T own t
  unfolding whole_within
  whole_fuel zero g t h i j = absurd (omega arith)
  whole_fuel (suc f) zero t h i j = absurd (omega arith)
  whole_fuel (suc f) (suc g) t h i j =
      sum_to_cong _ _ (T.count t) (child_fuel f g t h λ d k l. whole_fuel f g d l (omega arith) (omega arith))

  pub whole_is : (t : ℕ) → t < T.threads → whole T own t ≡ part_of T own t (T.count t)
  unfolding whole_within
  whole_is t h = go T.threads (omega arith)
    where
      go : (f : ℕ) → T.threads ≤ f → whole_within f T own t ≡ part_of T own t (T.count t)
      go zero i = absurd (omega arith)
      go (suc f) i =
          sum_to_cong _ _ (T.count t) (child_fuel f T.threads t h λ d k l. whole_fuel f T.threads d l (omega arith) (omega arith))

module _ (T : Table) (c : ContentRules T) (b : BodyRules T) (n : NestRules T) (own : ℕ → ℕ) where
  -- what the forks count and the joins do not yet are the children that stand open
  pub fork_part_open : (t k : ℕ) → t < T.threads → k < T.count t
      → fork_part T own t k ≡ part_of T own t k + sum_over (whole T own) (open_before T (T.first t + k))
  unfolding sum_to sum_over
  fork_part_open t zero h i = rw (add-zero, open_first T c b n t h) (omega arith)
  fork_part_open t (suc k) h i =
      rw add-suc
      (go (is end (kind T a)) (is fork (kind T a)) (is join (kind T a)) refl refl refl (fork_part_open t k h (omega arith)))
    where
      a : ℕ
      a = T.first t + k

      child : ℕ
      child = whole T own (T.argument a)

      go : (e f j : Bool) → is end (kind T a) ≡ e → is fork (kind T a) ≡ f → is join (kind T a) ≡ j
          → fork_part T own t k ≡ part_of T own t k + sum_over (whole T own) (open_before T a)
          → fork_part T own t k + (own a + pick f child 0) ≡ part_of T own t k + (own a + pick j child 0) + sum_over (whole T own) (open_before T (suc a))
      go true f j p q r ih = absurd (omega (arith, action_last T c b t k h (omega arith) (is_true end (kind T a) p)))
      go false true true p q r ih = no_way (cc (is_true fork (kind T a) q, is_true join (kind T a) r))
      go false true false p q r ih = rw (open_fork T c b n a (is_true fork (kind T a) q)) (omega arith)
      go false false true p q r ih =
          omega (arith, rw (open_join T c b n a (action_within T c b t k h (omega arith)) (is_true join (kind T a) r)) at ih)
      go false false false p q r ih = rw (open_same T c b n a p q r) (omega arith)

  pub fork_part_whole : (t : ℕ) → t < T.threads → fork_part T own t (T.count t) ≡ whole T own t
  unfolding sum_to sum_over is code_of
  fork_part_whole t h = rw (whole_is T c b own t h) (go (T.count t) refl)
    where
      go : (k : ℕ) → T.count t ≡ k → fork_part T own t k ≡ part_of T own t k
      go zero e = refl
      go (suc k) e =
          let a : ℕ = T.first t + k in
          let last : a ≡ end_of T t = rw (e, add-suc) in
          let ended : kind T a ≡ end = rw last (end_kind T c b t h) in
          let same : fork_part T own t k ≡ part_of T own t k + sum_over (whole T own) (open_before T a) = fork_part_open t k h (omega arith) in
          rw ended (omega (arith, rw (open_end T c b n a (action_within T c b t k h (omega arith)) ended) at same))

  -- what serial order has come to before an action, and what is left of it from there on
  pub serial_rest : (t k : ℕ) → t < T.threads → k < T.count t
      → fork_part T own t k + sum_over own (serial T (T.first t + k)) ≡ whole T own t
  unfolding sum_to sum_over is code_of
  serial_rest =
      along_serial T c b (λ t k. fork_part T own t k + sum_over own (serial T (T.first t + k)) ≡ whole T own t)
      (λ t k h i e.
      rw (serial_end T c b (T.first t + k) (action_within T c b t k h (omega arith)) e)
      (omega (arith, rw (i, e) at (fork_part_whole t h))))
      (λ t k h i e child next.
      rw (serial_fork T c b (T.first t + k) (action_within T c b t k h (omega arith)) e, sum_over_append own (serial T (T.first (T.argument (T.first t + k)))) (serial T (suc (T.first t + k))))
      (omega (arith, rw add-zero at child, rw (add-suc, e) at next)))
      (λ t k h i p q next.
      rw (serial_step T c b (T.first t + k) (action_within T c b t k h (omega arith)) p q) (omega (arith, rw (add-suc, q) at next)))

  pub whole_serial : (t : ℕ) → t < T.threads → whole T own t ≡ sum_over own (serial T (T.first t))
  unfolding sum_to
  whole_serial t h = omega (arith, rw add-zero at (serial_rest t 0 h (count_pos T c t h)))

  -- with each action's amount at most B, nothing comes to more than B for each action of the table
  pub whole_bound : (B : ℕ) → ((a : ℕ) → a < T.actions → own a ≤ B) → (t : ℕ) → t < T.threads → whole T own t ≤ B * T.actions
  whole_bound B h t k =
      let a : ℕ = T.first t in
      let w : a < T.actions = omega (arith, count_pos T c t k, body_within T c t k) in
      let l : length (serial T a) ≤ T.actions = omega (arith, serial_bound T c b n a w) in
      rw (whole_serial t k)
      (omega (
        arith,
        sum_over_bound own B (serial T a) (λ x m. h x (serial_below T c b a w x m)),
        mul-le-mul_left B l,
      ))

  pub part_of_bound : (B : ℕ) → ((a : ℕ) → a < T.actions → own a ≤ B) → (t k : ℕ) → t < T.threads → k ≤ T.count t → part_of T own t k ≤ B * T.actions
  part_of_bound B h t k i j =
      let part : part_of T own t k ≤ part_of T own t (T.count t) = sum_to_part _ k (T.count t) j in
      omega (arith, whole_is T c b own t i, whole_bound B h t i)

  pub fork_part_bound : (B : ℕ) → ((a : ℕ) → a < T.actions → own a ≤ B) → (t k : ℕ) → t < T.threads → k ≤ T.count t → fork_part T own t k ≤ B * T.actions
  fork_part_bound B h t k i j =
      let part : fork_part T own t k ≤ fork_part T own t (T.count t) = sum_to_part _ k (T.count t) j in
      omega (arith, fork_part_whole t i, whole_bound B h t i)
