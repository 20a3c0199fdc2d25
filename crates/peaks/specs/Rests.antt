-- Stretches, resting places, the useful limit, and the parallel peak.
use Rattle.std.specs.Prelude.{ℕ, zero, suc, ◌+◌, ◌-◌, ◌*◌, min, Bool, true, ◌||◌, leb, eqb}
use Rattle.table.specs.Sum.{pick, sum_to, sum_over, greatest_to}
use Rattle.table.specs.Format.{is, Table, kind}
use Rattle.table.specs.declared.kinds.Kind.TheVariants.{End as end, Fork as fork, Join as join}
use Rattle.table.specs.Checks.{alloc_of, free_of, open_before}
use Rattle.schedule.specs.Machine.{drawn}
use Rattle.schedule.specs.Memory.{limit}
use Rattle.schedule.specs.Sound.{balance_to}
use Rattle.peaks.specs.Peak.{peak_on, workers_peak}

-- ---- stretches

-- a stretch begins at the thread's first action or right after a fork, and goes up to the next fork or the end, joins passed over
unfoldable pub stretch_begins : Table → ℕ → Bool
stretch_begins T zero = true
stretch_begins T (suc a) = is end (kind T a) || is fork (kind T a)

-- what action a draws of the quota: an alloc above K draws nothing (N6)
abbrev pub drawn_at : Table → ℕ → ℕ → ℕ
drawn_at T K a = drawn K (alloc_of T a)

-- what the stretch of action a has drawn before a
unfoldable pub drawn_before : Table → ℕ → ℕ → ℕ
drawn_before T K zero = 0
drawn_before T K (suc a) = pick (stretch_begins T (suc a)) 0 (drawn_before T K a + drawn_at T K a)

-- the most that a stretch draws under K
unfoldable pub stretch : Table → ℕ → ℕ
stretch T K = greatest_to (λ a. drawn_before T K a + drawn_at T K a) T.actions

-- K is at least what every stretch draws
unfoldable pub covered : Table → ℕ → Bool
covered T K = leb (stretch T K) K

-- ---- resting places

-- before a thread's first action, right after a fork, at a join, after its end (past a thread's end the next thread begins)
unfoldable pub rests : Table → ℕ → Bool
rests T a = stretch_begins T a || is join (kind T a)

-- an action's own amount over the first k actions of thread t, no child counted
abbrev pub own_to : Table → (ℕ → ℕ) → ℕ → ℕ → ℕ
own_to T own t k = sum_to (λ i. own (T.first t + i)) k

-- the last resting place of thread t at or before k
unfoldable pub rested : Table → ℕ → ℕ → ℕ
rested T t zero = 0
rested T t (suc k) = pick (rests T (T.first t + suc k)) (suc k) (rested T t k)

-- by how much the thread's own allocs less frees rose since
unfoldable pub rise : Table → ℕ → ℕ → ℕ
rise T t k =
    (own_to T (alloc_of T) t k + own_to T (free_of T) t (rested T t k)) - (own_to T (alloc_of T) t (rested T t k) + own_to T (free_of T) t k)

-- R: the most by which a thread's own allocs less frees rise from a resting place on, short of the next one, the arrival at a join left out; 0 at least
unfoldable pub R : Table → ℕ
R T = greatest_to (λ t. greatest_to (rise T t) (suc (T.count t))) T.threads

-- the peak of p workers over resting places alone, and what p threads that are held may have drawn since theirs
unfoldable pub resting_peak : Table → ℕ → ℕ
resting_peak T p = peak_on T (rests T) 0 (p - 1) + p * R T

-- the least of demand 3's limit (b at least 1; with b 0 nobody keeps any, and it is left out), S_p and, where K covers every stretch, the peak over resting places
unfoldable pub useful_limit : Table → ℕ → ℕ → ℕ → ℕ
useful_limit T p K b =
    min (workers_peak T p) (min (pick (eqb b 0) (workers_peak T p) (limit T p K b)) (pick (covered T K) (resting_peak T p) (workers_peak T p)))

-- ---- the parallel peak

-- The most that a thread and its descendants may hold, every child open at its best: what bounds every sound record. `best_is` (proofs/Parallel) is the same sentence without fuel.
unfoldable pub best_within : ℕ → Table → ℕ → ℕ
best_within zero T t = 0
best_within (suc f) T t = greatest_to (λ k. balance_to T t k + sum_over (best_within f T) (open_before T (T.first t + k))) (suc (T.count t))

abbrev pub best : Table → ℕ → ℕ
best T t = best_within T.threads T t

unfoldable pub parallel_peak : Table → ℕ
parallel_peak T = best T 0
