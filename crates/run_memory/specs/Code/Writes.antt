-- What the inner functions write of several numbers: a thread into a list and out of it, a worker's record, memory held.
use Rattle.std.specs.Prelude.{◌≡◌, ℕ, suc, ◌+◌, ◌^◌, ◌<◌, max, Bool, true, get_or, set, ltb, eqb}
use Rattle.table.specs.Sum.{pick}
use Rattle.schedule.specs.declared.Worker.{Worker}
use Rattle.schedule.specs.Machine.{held}
use Rattle.schedule.specs.Links.{no_thread}
use Rattle.array_machine.specs.Counted.{busy_after}
use Rattle.run_memory.specs.Blocks.{Bytes, Words, Numbers, Sums}
use Rattle.run_memory.specs.Places.{holding, rowed, threaded, head_at, headed, quotaed, holds_in}

-- ---- the two lists

-- c enters directly left of t, in the list whose left links are row k, whose right links are row k + 1 and whose leftmost thread is head h
abbrev pub linked_left : ℕ → ℕ → ℕ → ℕ → Words → Words
linked_left k h c t W =
    let x : ℕ = get_or (W.rows k) t 0 in
    headed h (pick (ltb x no_thread) (head_at h W) c) (rowed (suc k) c t (rowed (suc k) x c (rowed k c x (rowed k t c W))))

-- t leaves
abbrev pub unlinked : ℕ → ℕ → ℕ → Words → Words
unlinked k h t W =
    let x : ℕ = get_or (W.rows k) t 0 in
    let y : ℕ = get_or (W.rows (suc k)) t 0 in
    headed h (pick (ltb x no_thread) (head_at h W) y) (rowed (suc k) t no_thread (rowed (suc k) x y (rowed k t no_thread (rowed k y x W))))

-- ---- a worker's record

-- it holds thread t, with this quota left
abbrev pub having : ℕ → ℕ → Worker
having t quota = record { holds = true; thread = t; quota = quota }

-- the bytes once worker w has thread t, its own or one that it takes
abbrev pub seated_bytes : ℕ → ℕ → Bytes → Bytes
seated_bytes w t B = record { status = pick (holds_in w B) B.status (set B.status t held); holds = B.holds }

-- w is one of sixteen, and the set has room for its bit where it holds nothing
abbrev pub Room : ℕ → Bytes → Words → Type 0
Room w B W = (w < 16) × (eqb (get_or B.holds w 0) 0 ≡ true → W.busy + 2 ^ w < 65536)

abbrev pub settled : ℕ → Worker → Bytes → Bytes
settled w after B = holding w (pick after.holds 1 0) B

abbrev pub settled_words : ℕ → Bool → Worker → Words → Words
settled_words w before after W = threaded w after.thread (headed 2 (busy_after W.busy before after.holds w) W)

abbrev pub settled_numbers : ℕ → Worker → Numbers → Numbers
settled_numbers w after N = quotaed w after.quota N

-- memory held, and its highest so far
abbrev pub held_sums : ℕ → Sums → Sums
held_sums x S = record { amounts = S.amounts; held = x; highest = max S.highest x; turns = S.turns }
