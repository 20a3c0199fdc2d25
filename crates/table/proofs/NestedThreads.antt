-- Nested threads without fuel: a thread's line is the thread and those above it, up to the root, and its nesting is the line's length. N is the greatest nesting.
use mathlib.Core.Path.{◌≡◌, refl, ap, sym, ◌∙◌}
use Prim.Native.Nat.{ℕ, zero, suc, ◌≤◌, ◌<◌, max}
use native.Mathlib.Omega.{arith}
use native.Mathlib.Decide.{dec_lt}
use mathlib.Core.List.{List, [], ◌∷◌, Memᴰ}
use lib.ListN.{length}
use Rattle.table.specs.Sum.{greatest_to}
use Rattle.table.specs.Format.{Table, kind}
use Rattle.table.specs.declared.kinds.Kind.TheVariants.{Fork as fork}
use Rattle.table.specs.Checks.{owner}
use Rattle.table.specs.Rules.{ContentRules, BodyRules, NestRules, ForkRules}
use Rattle.table.specs.Level.{fork_below}
use Rattle.table.specs.Nested.{nest_within, nest, N}
use Rattle.table.proofs.Bodies.{fork_above, fork_below_lem}
use Rattle.table.proofs.Nesting.{fork_found, fork_exists}

-- ---- the line of a thread

unfoldable pub line_within : ℕ → Table → ℕ → List ℕ
line_within zero T t = []
line_within (suc f) T zero = 0 ∷ []
line_within (suc f) T (suc t) = suc t ∷ line_within f T (owner T (fork_below T T.actions (suc t)))

abbrev pub line : Table → ℕ → List ℕ
line T t = line_within T.threads T t

nest_length : (f : ℕ) (T : Table) (t : ℕ) → nest_within f T t ≡ length (line_within f T t)
unfolding nest_within line_within
nest_length zero T t = refl
nest_length (suc f) T zero = refl
nest_length (suc f) T (suc t) = ap suc (nest_length f T (owner T (fork_below T T.actions (suc t))))

-- a line is as long as its fuel at most
nest_fuel : (f : ℕ) (T : Table) (t : ℕ) → nest_within f T t ≤ f
unfolding nest_within
nest_fuel zero T t = omega arith
nest_fuel (suc f) T zero = omega arith
nest_fuel (suc f) T (suc t) = omega (arith, nest_fuel f T (owner T (fork_below T T.actions (suc t))))

pub nest_few : (T : Table) (t : ℕ) → nest T t ≤ T.threads
nest_few T t = nest_fuel T.threads T t

-- its length is the thread's nesting
pub nest_line : (T : Table) (t : ℕ) → nest T t ≡ length (line T t)
nest_line T t = nest_length T.threads T t

module _ (T : Table) (c : ContentRules T) (b : BodyRules T) (n : NestRules T) (f : ForkRules T) where
  -- a parent has the lower number
  pub parent_lower : (t : ℕ) → 0 < t → t < T.threads → owner T (fork_below T T.actions t) < t
  parent_lower t h k =
      let x = fork_exists T c b n f t h k in
      let e : fork_below T T.actions t ≡ x.0 = rw x.3 at (fork_found T c b n x.0 x.1 x.2) in
      rw e (omega (arith, fork_above T c b x.0 x.1 x.2, x.3))

  -- fuel above the thread's number is enough
  line_enough : (k j t : ℕ) → t < T.threads → t < k → t < j → line_within k T t ≡ line_within j T t
  unfolding line_within
  line_enough zero j t h p q = absurd (omega arith)
  line_enough (suc k) zero t h p q = absurd (omega arith)
  line_enough (suc k) (suc j) zero h p q = refl
  line_enough (suc k) (suc j) (suc t) h p q =
      let l = parent_lower (suc t) (omega arith) h in
      ap (suc t ∷◌) (line_enough k j (owner T (fork_below T T.actions (suc t))) (omega arith) (omega arith) (omega arith))

  line_some : (k t : ℕ) → t < T.threads → T.threads ≤ k → line_within k T t ≡ line T t
  line_some k t h l = line_enough k T.threads t h (omega arith) h

  pub line_root : 0 < T.threads → line T 0 ≡ 0 ∷ []
  unfolding line_within
  line_root h = sym (line_some (suc T.threads) 0 h (omega arith))

  pub line_child : (a : ℕ) → a < T.actions → kind T a ≡ fork → line T (T.argument a) ≡ T.argument a ∷ line T (owner T a)
  unfolding line_within
  line_child a h k = sym (line_some (suc T.threads) (T.argument a) (fork_below_lem T c b a h k) (omega arith)) ∙ go (T.argument a) refl
    where
      go : (t : ℕ) → T.argument a ≡ t → line_within (suc T.threads) T t ≡ t ∷ line T (owner T a)
      go zero e = absurd (omega (arith, fork_above T c b a h k))
      go (suc t) e = rw (← e, fork_found T c b n a h k)

  -- a thread stands in its own line
  pub line_self : (t : ℕ) → t < T.threads → Memᴰ t (line T t)
  line_self zero h = rw (line_root h) (Memᴰ.head refl)
  line_self (suc t) h =
      let x = fork_exists T c b n f (suc t) (omega arith) h in
      rw (← x.3, line_child x.0 x.1 x.2) (Memᴰ.head refl)

  -- and so does the root
  pub line_top : (t : ℕ) → t < T.threads → Memᴰ 0 (line T t)
  line_top t h = go (suc t) t (omega arith) h
    where
      go : (k t : ℕ) → t < k → t < T.threads → Memᴰ 0 (line T t)
      go zero t p h = absurd (omega arith)
      go (suc k) zero p h = line_self 0 h
      go (suc k) (suc t) p h =
          let x = fork_exists T c b n f (suc t) (omega arith) h in
          let l : owner T x.0 < suc t = omega (arith, fork_above T c b x.0 x.1 x.2, x.3) in
          rw (← x.3, line_child x.0 x.1 x.2) (Memᴰ.tail (go k (owner T x.0) (omega arith) (omega arith)))

  -- ---- nesting

  pub nest_root : 0 < T.threads → nest T 0 ≡ 1
  nest_root h = nest_line T 0 ∙ ap length (line_root h)

  pub nest_child : (a : ℕ) → a < T.actions → kind T a ≡ fork → nest T (T.argument a) ≡ suc (nest T (owner T a))
  nest_child a h k = rw (nest_line T (T.argument a), line_child a h k, nest_line T (owner T a))

-- ---- the greatest

pub greatest_at : (f : ℕ → ℕ) (k i : ℕ) → i < k → f i ≤ greatest_to f k
unfolding greatest_to
greatest_at f zero i h = absurd (omega arith)
greatest_at f (suc k) i h = go (greatest_at f k i) (dec_lt i k)
  where
    go : (i < k → f i ≤ greatest_to f k) → Dec (i < k) → f i ≤ max (greatest_to f k) (f k)
    go ih (yes l) = omega (arith, ih l)
    go ih (no l) = let e : i ≡ k = omega (arith, l) in rw e (omega arith)

pub greatest_under : (f : ℕ → ℕ) (k B : ℕ) → ((i : ℕ) → i < k → f i ≤ B) → greatest_to f k ≤ B
unfolding greatest_to
greatest_under f zero B h = omega arith
greatest_under f (suc k) B h = omega (arith, greatest_under f k B (λ i l. h i (omega arith)), h k (omega arith))

-- no thread is nested deeper
pub nest_most : (T : Table) (t : ℕ) → t < T.threads → nest T t ≤ N T
unfolding N
nest_most T t h = greatest_at (nest T) T.threads t h

-- and no more than there are threads
pub nested_few : (T : Table) → N T ≤ T.threads
unfolding N
nested_few T = greatest_under (nest T) T.threads T.threads (λ t h. nest_few T t)

-- a number that is one thread's nesting, and that none is above, is N
pub nest_greatest : (T : Table) (B t : ℕ) → t < T.threads → nest T t ≡ B → ((u : ℕ) → u < T.threads → nest T u ≤ B) → N T ≡ B
unfolding N
nest_greatest T B t h e all = omega (arith, greatest_at (nest T) T.threads t h, greatest_under (nest T) T.threads B all)

-- no thread's nesting is above a bound, so N is not
pub nested_under : (T : Table) (B : ℕ) → ((t : ℕ) → t < T.threads → nest T t ≤ B) → N T ≤ B
unfolding N
nested_under T B h = greatest_under (nest T) T.threads B h
