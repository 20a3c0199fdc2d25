-- A paced turn, by what stops it.
use mathlib.Core.Path.{◌≡◌, ap, ◌∙◌}
use Prim.Native.Nat.{ℕ}
use mathlib.Core.List.{List}
use mathlib.Core.Bool.{Bool, true, false}
use borrow.Author.Tests.{ne_eqb}
use lib.Dec.{eqb}
use Rattle.std.specs.Prelude.{Result, ⊤, Ok, Err}
use Rattle.table.specs.Sum.{pick}
use Rattle.table.specs.Format.{table_of}
use Rattle.schedule.specs.declared.Reply.TheVariants.{Idle}
use Rattle.run_memory.specs.Memory.{Memory, hindrance, answer, no_row, reply_row, Told, told, turn_in, passed_over, unless}
use Rattle.run_memory.proofs.Endings.{Ends, idle_ends, turn_ends}
use Rattle.pace.specs.Pace.{may_number, took}
use Rattle.wivakkol_pace.specs.Paced.{held_after, hindrance_in, held_back, PacedTold, paced_told, paced_in, kept, paced_turn}

-- of what stands in the memory
pub tested : {n : Result ⊤ ℕ} {t t' p p' r r' : ℕ} (w : ℕ) → t ≡ t' → p ≡ p' → r ≡ r' → n ≡ unless (hindrance t p w r) → n ≡ unless (hindrance t' p' w r')
tested w a b c e = rw (← a, ← b, ← c) e

module _ (s : List ℕ) (w : ℕ) (M : Memory) (P : List ℕ) where
  pub held_as : {n q : Result ⊤ ℕ} → n ≡ unless (hindrance_in M w) → q ≡ held_after n P w → q ≡ unless (held_back w M P)
  unfolding held_back
  held_as {n} {q} e f = go (eqb (hindrance_in M w) 0) (f ∙ ap (λ (r : Result ⊤ ℕ). held_after r P w) e)
    where
      go : (b : Bool) → q ≡ held_after (pick {A = Result ⊤ ℕ} b (Ok tt) (Err (hindrance_in M w))) P w → q ≡ unless (pick b (may_number P w) 0)
      go true d = d
      go false d = d

  module _ {q : ℕ} (e : q ≡ held_back w M P) where
    pub holds_back : (q ≡ 0 → ⊥) → paced_told (told q Idle M) P ≡ paced_in s w M P
    unfolding paced_in
    holds_back d = rw (← e, ne_eqb q 0 d)

    module _ (z : q ≡ 0) {y : Told} (f : y ≡ turn_in s w M) where
      pub refuses : (y.number ≡ 0 → ⊥) → paced_told y P ≡ paced_in s w M P
      unfolding paced_in
      refuses d = rw (← e, z, ← f, ne_eqb y.number 0 d)

      pub takes : {P' : List ℕ} → y.number ≡ 0 → P' ≡ took P w → paced_told y P' ≡ paced_in s w M P
      unfolding paced_in
      takes d t = rw (← e, z, ← f, d, t)

  -- it ends a thread exactly where its reply says so
  pub paced_ends : (u : ℕ) → Ends (table_of s) u M.arrays.status (paced_in s w M P).told.reply (paced_in s w M P).told.memory.arrays.status
  unfolding paced_in
  paced_ends u = go (eqb (held_back w M P) 0)
    where
      go : (b : Bool) → let t : PacedTold = pick b (paced_told (turn_in s w M) (pick (eqb (turn_in s w M).number 0) (took P w) P)) (paced_told (told (held_back w M P) Idle M) P) in
          Ends (table_of s) u M.arrays.status t.told.reply t.told.memory.arrays.status
      go true = turn_ends s w M u
      go false = idle_ends (table_of s) u

  -- ---- the call

  module _ {t : PacedTold} (e : t ≡ paced_in s w M P) where
    pub tells_refusal : (t.told.number ≡ 0 → ⊥) → kept (answer t.told.number no_row t.told.memory) t.pace ≡ paced_turn s w M P
    unfolding paced_turn
    tells_refusal d = rw (← e, ne_eqb t.told.number 0 d)

    pub tells : {p : ℕ} {row : List ℕ} → t.told.number ≡ 0 → p ≡ pick (eqb t.told.number 0) (passed_over M w) 0 → row ≡ reply_row t.told.reply p
        → kept (answer 0 row t.told.memory) t.pace ≡ paced_turn s w M P
    unfolding paced_turn
    tells {p} {row} d q r =
        let here : p ≡ passed_over M w = rw d at q in
        ap (λ (x : List ℕ). kept (answer 0 x t.told.memory) t.pace) (r ∙ ap (reply_row t.told.reply) here) ∙ rw (← e, d)
