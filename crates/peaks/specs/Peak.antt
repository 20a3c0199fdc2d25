-- The peak of p workers: the load of a thread in a state, and the most that a thread and all below it can hold where no thread's load is above r.
use Rattle.std.specs.Prelude.{◌≡◌, ℕ, zero, suc, ◌+◌, ◌-◌, ◌≤◌, ◌<◌, max, List, [], ◌∷◌, Bool, true, false, get_or, eqb}
use Rattle.table.specs.Sum.{pick, sum_over, greatest_to}
use Rattle.table.specs.Format.{is, Table, kind}
use Rattle.table.specs.declared.kinds.Kind.TheVariants.{Fork as fork}
use Rattle.table.specs.Checks.{owner, open_before, tail}
use Rattle.table.specs.Level.{fork_below}
use Rattle.schedule.specs.Machine.{ended}
use Rattle.schedule.specs.Sound.{balance_to}

-- ---- the load of a thread

-- how many threads of a list have not ended
abbrev pub unended : List ℕ → ℕ → ℕ
unended status t = pick (eqb (get_or status t 0) ended) 0 1

abbrev pub unended_in : List ℕ → List ℕ → ℕ
unended_in status l = sum_over (unended status) l

-- the unended elder siblings of t: of those that its parent had forked and not joined when it forked t. (One joined by then has ended. The root has no fork, `fork_below` is 0 there, and
-- before action 0 nothing is open.)
abbrev pub elders : Table → List ℕ → ℕ → ℕ
elders T status t = unended_in status (open_before T (fork_below T T.actions t))

-- the unended elder siblings of t and of those above it. A parent has the lower number, so the count of threads is fuel enough; `outer_root` and `outer_child` (proofs/Loads) say the same
-- without it.
unfoldable pub outer_within : ℕ → Table → List ℕ → ℕ → ℕ
outer_within zero T status t = 0
outer_within (suc f) T status zero = 0
outer_within (suc f) T status (suc t) = elders T status (suc t) + outer_within f T status (owner T (fork_below T T.actions (suc t)))

abbrev pub outer : Table → List ℕ → ℕ → ℕ
outer T status t = outer_within T.threads T status t

-- the action before a is a fork (of the latest child open before a)
unfoldable pub fresh : Table → ℕ → Bool
fresh T zero = false
fresh T (suc a) = is fork (kind T a)

-- the children open before a, but for one whose fork stands directly before a
abbrev pub past : Table → ℕ → List ℕ
past T a = pick (fresh T a) (tail (open_before T a)) (open_before T a)

unfoldable pub load : Table → List ℕ → List ℕ → ℕ → ℕ
load T next status t = outer T status t + unended_in status (past T (get_or next t 0))

-- every thread that is entered (its first action is done) and unended has load at most r
unfoldable pub Light : Table → List ℕ → List ℕ → ℕ → Type 0
Light T next status r =
    (t : ℕ) → t < T.threads → T.first t < get_or next t 0 → (get_or status t 0 ≡ ended → ⊥) → load T next status t ≤ r

-- ---- the peak

-- the thread's final balance
abbrev pub final : Table → ℕ → ℕ
final T t = balance_to T t (T.count t)

-- The most that open children can hold, the latest first, where j of them are unended: an ended one its final balance, an unended one with i unended elders what it can at load r − i.
unfoldable pub gain : Table → (ℕ → ℕ → ℕ) → ℕ → List ℕ → ℕ → ℕ
gain T peak r [] j = 0
gain T peak r (c ∷ l) zero = final T c + gain T peak r l zero
gain T peak r (c ∷ l) (suc j) = max (final T c + gain T peak r l (suc j)) (peak c (r - j) + gain T peak r l j)

-- one more may be unended right after its fork: at load 0, with r unended elders
abbrev pub one_more : Table → (ℕ → ℕ → ℕ) → ℕ → List ℕ → ℕ
one_more T peak r [] = 0
one_more T peak r (c ∷ l) = peak c 0 + gain T peak r l r

-- .. where at most r are unended, or r + 1 right after a fork
unfoldable pub most : Table → (ℕ → ℕ → ℕ) → ℕ → Bool → List ℕ → ℕ
most T peak r f l = max (greatest_to (gain T peak r l) (suc r)) (pick f (one_more T peak r l) 0)

-- thread t's balance after k actions, and the most of its open children
unfoldable pub peak_there : Table → (ℕ → ℕ → ℕ) → ℕ → ℕ → ℕ → ℕ
peak_there T peak t r k = balance_to T t k + most T peak r (fresh T (T.first t + k)) (open_before T (T.first t + k))

-- The most over the places where the thread may stand: `stop` is a test of the next action, and past its end the next thread begins. A child has the higher number, so the count of threads is
-- fuel enough; `peak_is` (proofs/Peaks) is the same sentence without it.
unfoldable pub peak_within : ℕ → Table → (ℕ → Bool) → ℕ → ℕ → ℕ
peak_within zero T stop t r = 0
peak_within (suc f) T stop t r = greatest_to (λ k. pick (stop (T.first t + k)) (peak_there T (peak_within f T stop) t r k) 0) (suc (T.count t))

abbrev pub peak_on : Table → (ℕ → Bool) → ℕ → ℕ → ℕ
peak_on T stop t r = peak_within T.threads T stop t r

-- anywhere
abbrev pub peak_at : Table → ℕ → ℕ → ℕ
peak_at T t r = peak_on T (λ a. true) t r

-- S_p: the peak of p workers
unfoldable pub workers_peak : Table → ℕ → ℕ
workers_peak T p = peak_at T 0 (p - 1)
