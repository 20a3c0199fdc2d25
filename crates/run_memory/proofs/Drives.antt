-- A run in lent memory goes turn by turn.
use mathlib.Core.Path.{◌≡◌, refl, sym, ap, subst, ◌∙◌}
use Prim.Native.Nat.{ℕ, zero, suc, ◌+◌, ◌-◌, ◌≤◌, ◌<◌}
use native.Mathlib.Omega.{arith}
use mathlib.Core.List.{List, []}
use mathlib.Core.Bool.{Bool, true, false}
use borrow.Author.Tests.{eq-eqb, ne_eqb}
use lib.Dec.{eqb}
use lib.ListN.{length, get_or}
use Rattle.table.specs.Sum.{pick}
use Rattle.schedule.specs.Machine.{ended}
use Rattle.schedule.specs.declared.Reply.TheVariants.{Idle, Done}
use Rattle.table.specs.Format.{table_of}
use Rattle.schedule.specs.Runs.{worker_at}
use Rattle.array_machine.specs.Counted.{Left, turn_on}
use Rattle.run_memory.specs.Memory.{Memory, worker_in, moved_in, memory_after, hindrance, Told, told, turn_left, turn_in}
use Rattle.run_memory.specs.declared.runs.Stop.{Stop}
use Rattle.run_memory.specs.Runs.{Stopped, stopped, stopped_at, ends_root, drive_in, list_run_in, rounds_run_in}
use Rattle.run_memory.proofs.Endings.{Undone, Unending, Ends, says_no_end, says_end, turn_ends}

-- a turn that is refused moves nothing, whatever hindered it
pub nothing_moved : (M : Memory) (w : ℕ) (b : Bool) (n : ℕ) (z : Left) → let t : Told = pick b (turn_left M w z) (told n Idle M) in
    (t.number ≡ 0 → ⊥) → t.memory ≡ M
unfolding turn_left
nothing_moved M w b n z = go b z.fits
  where
    go : (b c : Bool) → let t : Told = pick b (pick c (told 0 z.reply (memory_after M w z)) (told 32 Idle M)) (told n Idle M) in
        (t.number ≡ 0 → ⊥) → t.memory ≡ M
    go true true d = absurd (d refl)
    go true false d = refl
    go false c d = refl

pub refused_same : (s : List ℕ) (w : ℕ) (M : Memory) → ((turn_in s w M).number ≡ 0 → ⊥) → (turn_in s w M).memory ≡ M
unfolding turn_in
refused_same s w M =
    let number : ℕ = hindrance (moved_in M).turns (get_or M.settings 0 0) w (get_or M.arrays.status 0 0) in
    nothing_moved M w (eqb number 0) number (turn_on (table_of s) (get_or M.settings 1 0) M.parents w M.arrays (moved_in M) (worker_in M w))

-- the answer is the one given
pub stopped_as_lem : {x : Stop} (y : Stop) (M : Memory) {d : Stopped} → x ≡ y → stopped_at y M ≡ d → stopped_at x M ≡ d
stopped_as_lem y M e h = rw e h

-- the root has not ended
abbrev pub Going : Memory → Type 0
Going M = get_or M.arrays.status 0 0 ≡ ended → ⊥

-- "a run stops at the root's end"
pub root_stops : (s : List ℕ) (who : ℕ → ℕ) (k i : ℕ) (M : Memory) → get_or M.arrays.status 0 0 ≡ ended → stopped 0 true i M ≡ drive_in s who k i M
unfolding drive_in
root_stops s who zero i M e = rw (eq-eqb (get_or M.arrays.status 0 0) ended e)
root_stops s who (suc k) i M e = rw (eq-eqb (get_or M.arrays.status 0 0) ended e)

-- what is left of a run of at most `limit` turns after i of them is the whole; the root has a place, and has not ended
pub record Along (s : List ℕ) (who : ℕ → ℕ) (limit : ℕ) (M₀ M : Memory) (i : ℕ) : Type 0 where
  pub within : i ≤ limit
  pub rooted : 0 < length M.arrays.status
  pub going : Going M
  pub remains : drive_in s who (limit - i) i M ≡ drive_in s who limit 0 M₀

pub first_along : (s : List ℕ) (who : ℕ → ℕ) (limit : ℕ) (M : Memory) → 0 < length M.arrays.status → Going M → Along s who limit M M 0
first_along s who limit M r o = let e : limit - 0 ≡ limit = omega arith in record { within = omega arith; rooted = r; going = o; remains = rw e }

module _ {s : List ℕ} {who : ℕ → ℕ} {limit : ℕ} {M₀ M : Memory} {i : ℕ} (v : Along s who limit M₀ M i) where
  abbrev whole : Stopped
  whole = drive_in s who limit 0 M₀

  pub spent : limit ≤ i → stopped 0 false i M ≡ whole
  unfolding drive_in
  spent h =
      let z : limit - i ≡ 0 = omega (arith, h) in
      rw (z, ne_eqb (get_or M.arrays.status 0 0) ended v.going) at v.remains

  -- as the loop's end says it
  pub spent_at : limit ≤ i → stopped 0 false limit M ≡ whole
  spent_at h = let e : limit ≡ i = omega (arith, h, v.within) in ap (λ (j : ℕ). stopped 0 false j M) e ∙ spent h

  module _ (h : i < limit) {w : ℕ} (q : w ≡ who i) {t : Told} (e : t ≡ turn_in s w M) where
    here : drive_in s who (suc (limit - (i + 1))) i M ≡ whole
    here = let n : limit - i ≡ suc (limit - (i + 1)) = omega (arith, h) in ap (λ (k : ℕ). drive_in s who k i M) (sym n) ∙ v.remains

    there : t ≡ turn_in s (who i) M
    there = e ∙ ap (λ (x : ℕ). turn_in s x M) q

    pub hindered : (t.number ≡ 0 → ⊥) → stopped t.number false i t.memory ≡ whole
    unfolding drive_in
    hindered d =
        let m : t.memory ≡ M = ap (λ (x : Told). x.memory) e ∙ refused_same s w M (λ z. d (ap (λ (x : Told). x.number) e ∙ z)) in
        ap (stopped t.number false i) m ∙ (rw (ne_eqb (get_or M.arrays.status 0 0) ended v.going, ← there, ne_eqb t.number 0 d) at here)

    module _ (d : t.number ≡ 0) where
      rest : drive_in s who (limit - (i + 1)) (i + 1) t.memory ≡ whole
      unfolding drive_in
      rest =
          let n : suc i ≡ i + 1 = omega arith in
          ap (λ (k : ℕ). drive_in s who (limit - (i + 1)) k t.memory) (sym n) ∙ (rw (ne_eqb (get_or M.arrays.status 0 0) ended v.going, ← there, d) at here)

      -- what the turn did to the root
      told_ends : Ends (table_of s) 0 M.arrays.status t.reply t.memory.arrays.status
      told_ends = subst (λ (x : Told). Ends (table_of s) 0 M.arrays.status x.reply x.memory.arrays.status) (sym e) (turn_ends s w M 0)

      again : Unending (table_of s) 0 t.reply → Along s who limit M₀ t.memory (i + 1)
      again u =
          let n : length t.memory.arrays.status ≡ length M.arrays.status = told_ends.long in
          record { within = omega (arith, h); rooted = omega (arith, n, v.rooted); going = told_ends.keep u v.going; remains = rest }

      -- no action was done
      pub undone : Undone t.reply → Along s who limit M₀ t.memory (i + 1)
      undone u = again (λ a f k. u 0 a f)

      -- one was done
      module _ {x a : ℕ} (f : t.reply ≡ Done x a) where
        pub goes_on : ends_root (table_of s) x a ≡ false → Along s who limit M₀ t.memory (i + 1)
        goes_on z = again (says_no_end (table_of s) f z)

        pub finished : ends_root (table_of s) x a ≡ true → stopped 0 true (i + 1) t.memory ≡ whole
        finished z =
            let (g, k) = says_end (table_of s) f z in
            root_stops s who (limit - (i + 1)) (i + 1) t.memory (told_ends.ends a g k v.rooted) ∙ rest

-- ---- the calls

module _ (s : List ℕ) (M : Memory) where
  -- no turn can be counted
  module _ (h : (moved_in M).turns ≡ 18446744073709551615) where
    pub full_list : (l : List ℕ) → stopped 32 false 0 M ≡ list_run_in s l M
    unfolding list_run_in
    full_list l = rw (eq-eqb (moved_in M).turns 18446744073709551615 h)

    pub full_rounds : (limit : ℕ) → stopped 32 false 0 M ≡ rounds_run_in s limit M
    unfolding rounds_run_in
    full_rounds limit = rw (eq-eqb (moved_in M).turns 18446744073709551615 h)

  module _ (h : (moved_in M).turns ≡ 18446744073709551615 → ⊥) where
    pub driven_list : (l : List ℕ) {d : Stopped} → d ≡ drive_in s (worker_at l false (get_or M.settings 0 0)) (length l) 0 M → d ≡ list_run_in s l M
    unfolding list_run_in
    driven_list l e = e ∙ rw (ne_eqb (moved_in M).turns 18446744073709551615 h)

    pub no_rounds : (limit : ℕ) → get_or M.settings 0 0 ≡ 0 → stopped 30 false 0 M ≡ rounds_run_in s limit M
    unfolding rounds_run_in
    no_rounds limit d = rw (ne_eqb (moved_in M).turns 18446744073709551615 h, eq-eqb (get_or M.settings 0 0) 0 d)

    pub driven_rounds : (limit : ℕ) {d : Stopped} → (get_or M.settings 0 0 ≡ 0 → ⊥) → d ≡ drive_in s (worker_at [] true (get_or M.settings 0 0)) limit 0 M → d ≡ rounds_run_in s limit M
    unfolding rounds_run_in
    driven_rounds limit n e = e ∙ rw (ne_eqb (moved_in M).turns 18446744073709551615 h, ne_eqb (get_or M.settings 0 0) 0 n)
