-- A pace in lent memory, 260 numbers: of each worker w sixteen, one for each worker x (0 where x has had no turn, or is w; else one more than the turns of w since x's latest), at 16·w + x;
-- then b, p, the least b that the turns so far keep, and one more than the worker of the latest turn. The calls on it, whatever it holds.
use Rattle.std.specs.Prelude.{ℕ, zero, suc, ◌+◌, ◌*◌, ◌-◌, ◌^◌, max, List, [], ◌∷◌, Bool, ◌||◌, ◌&&◌, get_or, set, replicate, ltb, leb, eqb}
use Rattle.table.specs.Sum.{pick}

-- how many numbers, and where b, p, the least b kept and the worker after the latest turn's stand
abbrev pub size : ℕ
size = 260

abbrev pub bound_in : List ℕ → ℕ
bound_in l = get_or l 256 0

abbrev pub workers_in : List ℕ → ℕ
workers_in l = get_or l 257 0

abbrev pub kept_in : List ℕ → ℕ
kept_in l = get_or l 258 0

abbrev pub after_in : List ℕ → ℕ
after_in l = get_or l 259 0

-- what a call answers: 0 or a refusal's number, and the memory
pub record Paced : Type 0 where
  pub number : ℕ
  pub pace : List ℕ

abbrev pub paced : ℕ → List ℕ → Paced
paced number l = record { number = number; pace = l }

-- ---- a beginning

abbrev pub blank : ℕ → ℕ → List ℕ
blank p b = set (set (replicate size 0) 256 b) 257 p

-- 20 where p is not 1 to 16, 41 where b is not 1 to 65,535: then nothing is written
unfoldable pub start_pace : ℕ → ℕ → List ℕ → Paced
start_pace p b l = pick (ltb 0 p && leb p 16) (pick (ltb 0 b && leb b 65535) (paced 0 (blank p b)) (paced 41 l)) (paced 20 l)

-- ---- the next turn

-- the greatest of n numbers from a place on
unfoldable pub most_from : ℕ → ℕ → List ℕ → ℕ
most_from zero i l = 0
most_from (suc n) i l = max (get_or l i 0) (most_from n (suc i) l)

-- the least b with which worker w may have the next turn
unfoldable pub asked : List ℕ → ℕ → ℕ
asked l w = pick (ltb w 16) (most_from 16 (16 * w) l) 0

-- may worker w have the next turn?
unfoldable pub may : List ℕ → ℕ → Bool
may l w = leb (asked l w) (bound_in l)

-- 0, or why not: 30 where there is no such worker, 60 where its turn would break the rule
unfoldable pub may_number : List ℕ → ℕ → ℕ
may_number l w = pick (ltb w (workers_in l)) (pick (may l w) 0 60) 30

-- the worker whose turn comes next in rounds: the one after that of the latest turn; worker 0 before any turn, and after worker p − 1
unfoldable pub next_in : List ℕ → ℕ
next_in l = pick (ltb (after_in l) (workers_in l)) (after_in l) 0

-- ---- a turn is counted

-- one turn more; none is counted where there was no turn of the other, nor past what fits
abbrev pub one_more : ℕ → ℕ
one_more n = pick (eqb n 0 || eqb n (2 ^ 32 - 1)) n (n + 1)

-- n numbers from a place on: w's turn counts since the latest of each
unfoldable pub counted : ℕ → ℕ → List ℕ → List ℕ
counted zero i l = l
counted (suc n) i l = counted n (suc i) (set l i (one_more (get_or l i 0)))

-- n numbers from a place on, sixteen apart: w's latest turn is this one, for each
unfoldable pub renewed : ℕ → ℕ → List ℕ → List ℕ
renewed zero i l = l
renewed (suc n) i l = renewed n (i + 16) (set l i 1)

-- worker w has had a turn
unfoldable pub took : List ℕ → ℕ → List ℕ
took l w = pick (ltb w 16) (set (renewed 16 w (counted 16 (16 * w) (set (set l 258 (max (kept_in l) (asked l w))) 259 (w + 1)))) (17 * w) 0) l

-- turns one after the other
unfoldable pub took_each : List ℕ → List ℕ → List ℕ
took_each l [] = l
took_each l (w ∷ row) = took_each (took l w) row

-- a turn as a call, for who counts turns and refuses none: 30 where there is no such worker, and then nothing is written
unfoldable pub took_number : List ℕ → ℕ → Paced
took_number l w = pick (ltb w (workers_in l)) (paced 0 (took l w)) (paced 30 l)
