-- What a fork, a join and an end leave in the records that stand in the four blocks, against the definitions of these actions.
use mathlib.Core.Path.{◌≡◌, refl}
use Prim.Native.Nat.{ℕ, zero, suc, ◌+◌, ◌≤◌, ◌<◌}
use mathlib.Core.List.{List, [], ◌∷◌}
use mathlib.Core.Bool.{Bool, true, false, ◌&&◌}
use borrow.Author.Tests.{lt-ltb, le-ltb, eq-eqb, ne_eqb}
use lib.ListN.{get_or, set}
use lib.Dec.{eqb, ltb}
use Rattle.table.specs.Sum.{pick}
use Rattle.table.specs.Format.{Table}
use Rattle.table.specs.declared.kinds.Kind.TheVariants.{Fork as fork, Join as join, End as end}
use Rattle.schedule.specs.declared.Reply.TheVariants.{Done, Wait}
use Rattle.schedule.specs.Machine.{ready, held, waiting, ended, nobody}
use Rattle.schedule.specs.Links.{link_left, unlink}
use Rattle.array_machine.specs.Turn.{next_fits, amount_fits, waits_in, act_on}
use Rattle.std.specs.Prelude.{None, Some}
use Rattle.run_memory.specs.Blocks.{Bytes, Words, Numbers, Sums, gathered}
use Rattle.run_memory.specs.Places.{statused, rowed, amounted, holds_in}
use Rattle.run_memory.specs.Code.Writes.{linked_left, unlinked, settled, settled_words, settled_numbers, having, seated_bytes}
use Rattle.run_memory.specs.Code.Acts.{gone, went_in, seated_quota, acted, Seated}
use Rattle.run_memory.proofs.Acts.{set_seated, next_at}

-- ---- for every one of them

-- a thread that is taken was ready and is held: neither is an end
same_ended : (l : List ℕ) (t c : ℕ) → get_or l t 0 ≡ ready → eqb (get_or (set l t held) c 0) ended ≡ eqb (get_or l c 0) ended
same_ended [] t c e = refl
same_ended (x ∷ l) zero zero e = rw e
same_ended (x ∷ l) zero (suc c) e = refl
same_ended (x ∷ l) (suc t) zero e = refl
same_ended (x ∷ l) (suc t) (suc c) e = same_ended l t c e

pub seated_ended : (b : Bool) (l : List ℕ) (t c : ℕ) → (b ≡ false → get_or l t 0 ≡ ready) → eqb (get_or (pick b l (set l t held)) c 0) ended ≡ eqb (get_or l c 0) ended
seated_ended true l t c h = refl
seated_ended false l t c h = same_ended l t c (h refl)

-- ---- one action

module _ (B : Bytes) (W : Words) (N : Numbers) (S : Sums) (T : Table) (w t a x : ℕ) where
  -- fork

  pub fork_unfit : {f : Bool} → f ≡ false → f ≡ (next_fits a && ltb x 1024) → gone None (gathered B W N S) ≡ acted fork T w t a x (gathered B W N S)
  unfolding went_in act_on
  fork_unfit e d = rw (← d, e)

  pub fork_done : {f : Bool} → Seated (gathered B W N S) w t a → f ≡ true → f ≡ (next_fits a && ltb x 1024)
      → gone (Some (Done t a))
      (gathered (statused x ready (settled w nobody (statused t ready B)))
      (linked_left 4 1 x t (linked_left 2 0 x t (settled_words w (holds_in w B) nobody (rowed 1 t (a + 1) W)))) (settled_numbers w nobody N) S)
      ≡ acted fork T w t a x (gathered B W N S)
  unfolding went_in act_on link_left
  fork_done s e d = rw (← d, e, next_at (W.rows 1) t a s.action, set_seated (holds_in w B) B.status t held ready)

  -- join

  pub join_outside : 1024 ≤ x → gone None (gathered B W N S) ≡ acted join T w t a x (gathered B W N S)
  unfolding went_in act_on
  join_outside h = rw (le-ltb x 1024 h)

  pub join_waits : Seated (gathered B W N S) w t a → x < 1024 → (get_or B.status x 0 ≡ ended → ⊥)
      → gone (Some (Wait t x))
      (gathered (settled w nobody (statused t waiting B)) (unlinked 4 1 t (settled_words w (holds_in w B) nobody W)) (settled_numbers w nobody N) S)
      ≡ acted join T w t a x (gathered B W N S)
  unfolding went_in act_on unlink
  join_waits s l e =
      rw (lt-ltb x 1024 l, seated_ended (holds_in w B) B.status t x s.taken, ne_eqb (get_or B.status x 0) ended e, set_seated (holds_in w B) B.status t held waiting)

  -- a child that has ended
  module _ {f : Bool} {own child : ℕ} (s : Seated (gathered B W N S) w t a) (l : x < 1024) (g : get_or B.status x 0 ≡ ended) (o : own ≡ get_or S.amounts t 0)
      (k : child ≡ get_or S.amounts x 0) (d : f ≡ (next_fits a && amount_fits (own + child))) where
    pub join_unfit : f ≡ false → gone None (gathered B W N S) ≡ acted join T w t a x (gathered B W N S)
    unfolding went_in act_on
    join_unfit e = rw (lt-ltb x 1024 l, seated_ended (holds_in w B) B.status t x s.taken, eq-eqb (get_or B.status x 0) ended g, ← o, ← k, ← d, e)

    pub join_done_lem : {q : ℕ} → q ≡ seated_quota (gathered B W N S) w → f ≡ true
        → gone (Some (Done t a))
        (gathered (settled w (having t q) (seated_bytes w t B)) (settled_words w (holds_in w B) (having t q) (rowed 1 t (a + 1) W)) (settled_numbers w (having t q) N)
        (amounted x 0 (amounted t (own + child) S)))
        ≡ acted join T w t a x (gathered B W N S)
    unfolding went_in act_on
    join_done_lem q e =
        rw (lt-ltb x 1024 l, seated_ended (holds_in w B) B.status t x s.taken, eq-eqb (get_or B.status x 0) ended g, ← o, ← k, ← d, e, next_at (W.rows 1) t a s.action, q)

  -- end: u is the parent, and r whether it waits for the thread

  pub end_done : (u : ℕ) (r : Bool) → u ≡ get_or (W.rows 0) t 0 → r ≡ waits_in T (W.rows 1) (set B.status t ended) u t
      → (let C : Bytes = settled w nobody (statused t ended B) in
      let Z : Words = settled_words w (holds_in w B) nobody W in
      gone (Some (Done t a))
      (gathered (pick r (statused u ready C) C) (unlinked 4 1 t (unlinked 2 0 t (pick r (linked_left 4 1 u t Z) Z))) (settled_numbers w nobody N) S))
      ≡ acted end T w t a x (gathered B W N S)
  unfolding went_in act_on link_left unlink
  end_done u true p e = rw (set_seated (holds_in w B) B.status t held ended, ← p, ← e)
  end_done u false p e = rw (set_seated (holds_in w B) B.status t held ended, ← p, ← e)
