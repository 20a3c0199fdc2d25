-- Writes of one number into a block, by what they do to what stands there. A write at a place outside its row does nothing.
use Rattle.std.specs.Prelude.{ℕ, List, [], ◌∷◌, Bool, not, ◌&&◌, get_or, set, ltb, eqb}
use Rattle.table.specs.Sum.{pick}
use Rattle.schedule.specs.declared.Worker.{Worker}
use Rattle.run_memory.specs.Blocks.{Bytes, Words, Numbers, Sums}

-- ---- bytes

abbrev pub statused : ℕ → ℕ → Bytes → Bytes
statused t x B = record { status = set B.status t x; holds = B.holds }

abbrev pub holding : ℕ → ℕ → Bytes → Bytes
holding w x B = record { status = B.status; holds = set B.holds w x }

-- whether worker w holds a thread
abbrev pub holds_in : ℕ → Bytes → Bool
holds_in w B = not (eqb (get_or B.holds w 0) 0)

-- ---- words

-- x for thread t in row k
abbrev pub rowed : ℕ → ℕ → ℕ → Words → Words
rowed k t x W =
    record { rows = λ j. pick (eqb j k) (set (W.rows k) t x) (W.rows j); threads = W.threads; leftmost = W.leftmost; first = W.first; busy = W.busy }

abbrev pub threaded : ℕ → ℕ → Words → Words
threaded w x W = record { rows = W.rows; threads = set W.threads w x; leftmost = W.leftmost; first = W.first; busy = W.busy }

-- head 0 is the leftmost thread, 1 that of the second list, 2 the set of workers
abbrev pub head_at : ℕ → Words → ℕ
head_at h W = pick (eqb h 0) W.leftmost (pick (eqb h 1) W.first (pick (eqb h 2) W.busy 0))

abbrev pub headed : ℕ → ℕ → Words → Words
headed h x W =
    record { rows = W.rows; threads = W.threads; leftmost = pick (eqb h 0) x W.leftmost; first = pick (eqb h 1) x W.first; busy = pick (eqb h 2) x W.busy }

-- ---- numbers

abbrev pub setting_at : ℕ → Numbers → ℕ
setting_at i N = pick (eqb i 0) N.workers (pick (eqb i 1) N.quota 0)

abbrev pub set_to : ℕ → ℕ → Numbers → Numbers
set_to i x N = record { workers = pick (eqb i 0) x N.workers; quota = pick (eqb i 1) x N.quota; quotas = N.quotas }

abbrev pub quotaed : ℕ → ℕ → Numbers → Numbers
quotaed w x N = record { workers = N.workers; quota = N.quota; quotas = set N.quotas w x }

-- ---- sums

abbrev pub amounted : ℕ → ℕ → Sums → Sums
amounted t x S = record { amounts = set S.amounts t x; held = S.held; highest = S.highest; turns = S.turns }

-- total 0 is memory held, 1 its highest, 2 turns taken
abbrev pub total_at : ℕ → Sums → ℕ
total_at i S = pick (eqb i 0) S.held (pick (eqb i 1) S.highest (pick (eqb i 2) S.turns 0))

abbrev pub totalled : ℕ → ℕ → Sums → Sums
totalled i x S = record { amounts = S.amounts; held = pick (eqb i 0) x S.held; highest = pick (eqb i 1) x S.highest; turns = pick (eqb i 2) x S.turns }

-- ---- whole rows

abbrev pub laid_row : ℕ → List ℕ → Words → Words
laid_row k l W =
    record { rows = λ j. pick (ltb k 6 && eqb j k) l (W.rows j); threads = W.threads; leftmost = W.leftmost; first = W.first; busy = W.busy }

abbrev pub statuses : List ℕ → Bytes → Bytes
statuses l B = record { status = l; holds = B.holds }

abbrev pub amounts_are : List ℕ → Sums → Sums
amounts_are l S = record { amounts = l; held = S.held; highest = S.highest; turns = S.turns }

-- of each worker one number
unfoldable pub of_workers : (Worker → ℕ) → List Worker → List ℕ
of_workers f [] = []
of_workers f (x ∷ l) = f x ∷ of_workers f l

abbrev pub worker_bytes : List Worker → Bytes → Bytes
worker_bytes l B = record { status = B.status; holds = of_workers (λ x. pick x.holds 1 0) l }

abbrev pub worker_words : List Worker → Words → Words
worker_words l W = record { rows = W.rows; threads = of_workers (λ x. x.thread) l; leftmost = W.leftmost; first = W.first; busy = W.busy }

abbrev pub worker_numbers : List Worker → Numbers → Numbers
worker_numbers l N = record { workers = N.workers; quota = N.quota; quotas = of_workers (λ x. x.quota) l }
