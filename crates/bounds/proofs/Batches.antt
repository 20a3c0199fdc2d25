-- Along a row that keeps the rule with b, at most b·(p − 1)·(level − 1) batches begin beyond an enabled action.
use mathlib.Core.Path.{◌≡◌, refl}
use Prim.Native.Nat.{ℕ, zero, suc, ◌+◌, ◌-◌, ◌*◌, ◌≤◌, ◌<◌}
use mathlib.Core.List.{List, [], ◌∷◌, reverse_aux, Memᴰ}
use mathlib.Core.Logic.{◌⊎◌, inl, inr}
use native.Mathlib.Nat.{mul-one, zero-mul}
use native.Mathlib.Omega.{arith}
use Rattle.table.specs.Format.{Table}
use Rattle.table.specs.Level.{level}
use Rattle.table.proofs.Tests.{no_way}
use Rattle.table.proofs.Levels.{level_root}
use Rattle.schedule.specs.Machine.{State, ready, held, next_of, status_of, turn_of}
use Rattle.schedule.specs.Begin.{start_state}
use Rattle.schedule.specs.Memory.{row_state, Keeps}
use Rattle.order.proofs.Lawful.{Lawful}
use Rattle.schedule.proofs.Sound.Facts.{Facts}
use Rattle.schedule.proofs.Preservation.Turns.{turn_facts}
use Rattle.schedule.proofs.Preservation.Starts.{start_next_lem, start_unborn, start_worker, start_facts}
use Rattle.bounds.proofs.Ages.{age, age_small, keeps_alone}
use Rattle.bounds.proofs.Counting.{begun, CountAlong, along_turn}
use Rattle.schedule.proofs.Bounds.Beyond.{batches, Enabled}

module _ (T : Table) (l : Lawful T) (p K : ℕ) (some : 1 ≤ p) (few : p ≤ 16) where
  along_start : (B : ℕ) → CountAlong T B (λ v. 0) [] (start_state T)
  along_start B =
      record {
        count = record { antitone = λ v y h. omega arith; when_ready = root; when_held = λ t w n h q g. no_way (cc (start_worker T l w)) };
        turned = λ w h q. no_way (cc (start_worker T l w));
      }
    where
      root : (t : ℕ) → Enabled T (start_state T) t → status_of (start_state T) t ≡ ready → 0 + B ≤ B * level T (next_of (start_state T) t)
      root zero n s = rw (start_next_lem T l 0 l.some_thread, level_root T l.contents l.bodies l.nesting l.forking l.some_thread, mul-one B) (omega arith)
      root (suc t) n s = no_way (cc (start_unborn T l (suc t) (omega arith)))

  -- an enabled action under the count, its thread ready or held
  along_few : (B : ℕ) (J : ℕ → ℕ) (past : List ℕ) (st : State) → Facts T p K st → ((w : ℕ) → Memᴰ w past → age past w ≤ B) → CountAlong T B J past st
      → (t : ℕ) → Enabled T st t → J (next_of st t) + B ≤ B * level T (next_of st t)
  along_few B J past st f young c t n = go n.taken
    where
      go : (status_of st t ≡ ready) ⊎ (status_of st t ≡ held) → J (next_of st t) + B ≤ B * level T (next_of st t)
      go (inl s) = c.count.when_ready t n s
      go (inr s) =
          let (w, h, q, g) = f.holding.held_holder t n.below s in
          omega (arith, c.count.when_held t w n h q g, young w (c.turned w h q))

  -- along the rest of a row, its front part written with the latest turn first
  rest_few : (B : ℕ) (row : List ℕ) → ((past rest : List ℕ) → reverse_aux past rest ≡ row → (w : ℕ) → Memᴰ w past → age past w ≤ B)
      → (rest past : List ℕ) → reverse_aux past rest ≡ row → ((w : ℕ) → Memᴰ w rest → w < p)
      → (J : ℕ → ℕ) (st : State) → Facts T p K st → CountAlong T B J past st
      → (t : ℕ) → Enabled T (row_state T K st rest) t
      → J (next_of (row_state T K st rest) t) + batches T K st rest (next_of (row_state T K st rest) t) + B ≤ B * level T (next_of (row_state T K st rest) t)
  unfolding row_state batches
  rest_few B row young [] past e h J st f c t n = omega (arith, along_few B J past st f (young past [] e) c t n)
  rest_few B row young (w ∷ rest) past e h J st f c t n =
      let i : w < p = h w (Memᴰ.head refl) in
      omega (
        arith,
        rest_few B row young rest (w ∷ past) e (λ v m. h v (Memᴰ.tail m)) (begun T w st J) (turn_of T K w st).state (turn_facts T l p K few w i st f)
            (along_turn T l p K few B J w i past st f (young past (w ∷ rest) e) c) t n,
      )

  -- with B = b·(p − 1): few batches begin beyond an enabled action
  pub batches_few : (b : ℕ) (row : List ℕ) → ((w : ℕ) → Memᴰ w row → w < p) → Keeps b row → (t : ℕ) → Enabled T (row_state T K (start_state T) row) t
      → batches T K (start_state T) row (next_of (row_state T K (start_state T) row) t) + b * (p - 1)
      ≤ b * (p - 1) * level T (next_of (row_state T K (start_state T) row) t)
  batches_few b row h r t e =
      omega (arith, rest_few (b * (p - 1)) row (age_small b p row h r) row [] refl h (λ v. 0) (start_state T) (start_facts T l p K) (along_start (b * (p - 1))) t e)

  -- with one worker none begins beyond it, whatever the row
  pub batches_none : p ≡ 1 → (row : List ℕ) → ((w : ℕ) → Memᴰ w row → w < p) → (t : ℕ) → Enabled T (row_state T K (start_state T) row) t
      → batches T K (start_state T) row (next_of (row_state T K (start_state T) row) t) ≡ 0
  batches_none e row h t q =
      omega (arith, rw zero-mul at (rw zero-mul at (batches_few 0 row h (keeps_alone row (λ w m. omega (arith, h w m))) t q)))
