-- What an action leaves in lent memory, from what it leaves in each of the four blocks.
use mathlib.Core.Path.{◌≡◌, refl, ap, ◌∙◌}
use Prim.Native.Nat.{ℕ, zero, suc, ◌+◌, ◌-◌, ◌^◌, ◌≤◌, ◌<◌}
use mathlib.Core.List.{List, [], ◌∷◌}
use mathlib.Core.Bool.{Bool, true, false, not, ◌&&◌}
use native.Mathlib.Numerals.{add-one}
use borrow.Author.Tests.{le-leb, lt-leb, leb-true, ltb-true}
use lib.ListN.{get_or, set}
use lib.Dec.{leb, eqb}
use Rattle.table.specs.Sum.{pick}
use Rattle.table.specs.Format.{Table}
use Rattle.table.specs.declared.kinds.Kind.TheVariants.{Work as work, Alloc as alloc, Free as free, Unknown as unknown}
use Rattle.schedule.specs.declared.Worker.{Worker}
use Rattle.schedule.specs.declared.Reply.{Reply}
use Rattle.schedule.specs.declared.Reply.TheVariants.{Idle, Done, Quota}
use Rattle.schedule.specs.Machine.{drawn, ready, held, nobody}
use Rattle.table.proofs.Tests.{and_both}
use Rattle.array_machine.proofs.Leaves.{fits_and}
use Rattle.array_machine.specs.Turn.{next_fits, amount_fits, act_on}
use Rattle.std.specs.Prelude.{None, Option, Some}
use Rattle.run_memory.specs.Memory.{Memory, moved_in}
use Rattle.run_memory.specs.Blocks.{Bytes, Words, Numbers, Sums, bytes_in, words_in, numbers_in, sums_in, gathered, memory_of}
use Rattle.run_memory.specs.Places.{statused, rowed, amounted, holds_in}
use Rattle.run_memory.specs.Code.Writes.{settled, settled_words, settled_numbers, held_sums, having, seated_bytes}
use Rattle.run_memory.specs.Code.Acts.{Gone, gone, went_in, seated_quota, acted, Seated}

-- ---- for every action

-- what an action leaves, where what stands in the four blocks is known
pub gone_as : (r : Option Reply) (bytes words numbers sums : List ℕ) {B : Bytes} {W : Words} {N : Numbers} {S : Sums} {o : Gone}
    → bytes_in bytes ≡ B → words_in words ≡ W → numbers_in numbers ≡ N → sums_in sums ≡ S
    → gone r (gathered B W N S) ≡ o → gone r (memory_of bytes words numbers sums) ≡ o
gone_as r bytes words numbers sums b q n s d = (λ i. gone r (gathered (b i) (q i) (n i) (s i))) ∙ d

-- the same where the sums are as they were
pub written_as : (r : Option Reply) (S : Sums) {B X : Bytes} {W Y : Words} {N L : Numbers} {o : Gone} → X ≡ B → Y ≡ W → L ≡ N
    → gone r (gathered B W N S) ≡ o → gone r (gathered X Y L S) ≡ o
written_as r S b q n d = (λ i. gone r (gathered (b i) (q i) (n i) S)) ∙ d

-- a number is written twice at one place
pub set_again : (l : List ℕ) (t x y : ℕ) → set (set l t x) t y ≡ set l t y
set_again [] t x y = refl
set_again (v ∷ l) zero x y = refl
set_again (v ∷ l) (suc t) x y = ap (λ (m : List ℕ). v ∷ m) (set_again l t x y)

-- so it does not matter whether the thread was taken before
pub set_seated : (b : Bool) (l : List ℕ) (t x y : ℕ) → set (pick b l (set l t x)) t y ≡ set l t y
set_seated true l t x y = refl
set_seated false l t x y = set_again l t x y

pub seated_own : {X : Bytes} (B : Bytes) (w t : ℕ) → holds_in w B ≡ true → X ≡ B → X ≡ seated_bytes w t B
seated_own B w t h e = e ∙ (rw h)

pub seated_taken : {X : Bytes} (B : Bytes) (w t : ℕ) → holds_in w B ≡ false → X ≡ statused t held B → X ≡ seated_bytes w t B
seated_taken B w t h e = e ∙ (rw h)

-- a worker's record was written, after writes that are known
pub settled_as : {B C X : Bytes} (w : ℕ) (z : Worker) → B ≡ C → X ≡ settled w z B → X ≡ settled w z C
settled_as w z b e = e ∙ ap (λ (Y : Bytes). settled w z Y) b

pub settled_words_as : {B C : Bytes} {W Z X : Words} (w : ℕ) (z : Worker) → B ≡ C → W ≡ Z → X ≡ settled_words w (holds_in w B) z W → X ≡ settled_words w (holds_in w C) z Z
settled_words_as w z b q e = e ∙ (λ i. settled_words w (holds_in w (b i)) z (q i))

-- the bytes as they were
pub kept_words_as : {W Z X : Words} (B : Bytes) (w : ℕ) (z : Worker) → W ≡ Z → X ≡ settled_words w (holds_in w B) z W → X ≡ settled_words w (holds_in w B) z Z
kept_words_as B w z q e = e ∙ ap (λ (Y : Words). settled_words w (holds_in w B) z Y) q

-- the set has room for the worker's bit, also after writes elsewhere
pub room_still : {w busy busy' : ℕ} {holds holds' : List ℕ} → (w < 16) × (eqb (get_or holds w 0) 0 ≡ true → busy + 2 ^ w < 65536) → holds' ≡ holds → busy' ≡ busy
    → (w < 16) × (eqb (get_or holds' w 0) 0 ≡ true → busy' + 2 ^ w < 65536)
room_still h p q = rw (p, q) h

pub room_in : {M : Memory} {w t a busy : ℕ} {holds : List ℕ} → Seated M w t a → holds ≡ M.holds → busy ≡ (moved_in M).busy
    → (w < 16) × (eqb (get_or holds w 0) 0 ≡ true → busy + 2 ^ w < 65536)
room_in {M} {w} h p q = rw (p, q) (h.few, λ e. h.room (ap not e))

-- the thread's next action is done
pub next_at : (next : List ℕ) (t a : ℕ) → a ≡ get_or next t 0 → set next t (a + 1) ≡ set next t (suc (get_or next t 0))
next_at next t a e = rw (e, add-one)

-- what an alloc draws, of the setting read
pub share : {K k : ℕ} (x : ℕ) {y : ℕ} → k ≡ K → y ≡ drawn k x → y ≡ drawn K x
share x e h = h ∙ ap (λ (k : ℕ). drawn k x) e

-- ---- what a test says that passed

pub alloc_room : {f : Bool} (a h o x : ℕ) → f ≡ true → f ≡ (next_fits a && (amount_fits (h + x) && amount_fits (o + x))) → (a + 1 < 65536) × ((h + x < 2 ^ 64) × (o + x < 2 ^ 64))
alloc_room a h o x e d =
    let p : (a + 1 < 65536) × ((amount_fits (h + x) && amount_fits (o + x)) ≡ true) = fits_and a (amount_fits (h + x) && amount_fits (o + x)) e d in
    let s : (amount_fits (h + x) ≡ true) × (amount_fits (o + x) ≡ true) = and_both (amount_fits (h + x)) (amount_fits (o + x)) p.1 in
    (p.0, (ltb-true (h + x) (2 ^ 64) s.0, ltb-true (o + x) (2 ^ 64) s.1))

pub free_room : {f : Bool} (a h o x : ℕ) → f ≡ true → f ≡ (next_fits a && (leb x h && leb x o)) → (a + 1 < 65536) × ((x ≤ h) × (x ≤ o))
free_room a h o x e d =
    let p : (a + 1 < 65536) × ((leb x h && leb x o) ≡ true) = fits_and a (leb x h && leb x o) e d in
    let s : (leb x h ≡ true) × (leb x o ≡ true) = and_both (leb x h) (leb x o) p.1 in
    (p.0, (leb-true x h s.0, leb-true x o s.1))

-- ---- one action

module _ (B : Bytes) (W : Words) (N : Numbers) (S : Sums) (T : Table) (w t a x : ℕ) where
  pub work_unfit : {f : Bool} → f ≡ false → f ≡ next_fits a → gone None (gathered B W N S) ≡ acted work T w t a x (gathered B W N S)
  unfolding went_in act_on
  work_unfit e h = rw (← h, e)

  pub work_done : {f : Bool} {q : ℕ} → q ≡ seated_quota (gathered B W N S) w → f ≡ true → f ≡ next_fits a → Seated (gathered B W N S) w t a
      → gone (Some (Done t a))
      (gathered (settled w (having t q) (seated_bytes w t B)) (settled_words w (holds_in w B) (having t q) (rowed 1 t (a + 1) W)) (settled_numbers w (having t q) N) S)
      ≡ acted work T w t a x (gathered B W N S)
  unfolding went_in act_on
  work_done k e h s = rw (k, ← h, e, next_at (W.rows 1) t a s.action)

  pub unknown_kept : {q : ℕ} → q ≡ seated_quota (gathered B W N S) w
      → gone (Some Idle)
      (gathered (settled w (having t q) (seated_bytes w t B)) (settled_words w (holds_in w B) (having t q) W) (settled_numbers w (having t q) N) S)
      ≡ acted unknown T w t a x (gathered B W N S)
  unfolding went_in act_on
  unknown_kept k = rw k

  -- beyond the quota the thread is ready, and the worker is released
  pub alloc_beyond : {q y : ℕ} → q ≡ seated_quota (gathered B W N S) w → y ≡ drawn N.quota x → q < y
      → gone (Some (Quota t x))
      (gathered (settled w nobody (statused t ready B)) (settled_words w (holds_in w B) nobody W) (settled_numbers w nobody N) S)
      ≡ acted alloc T w t a x (gathered B W N S)
  unfolding went_in act_on
  alloc_beyond k r h =
      let d : seated_quota (gathered B W N S) w < drawn N.quota x = rw (k, r) at h in
      rw (lt-leb (drawn N.quota x) (seated_quota (gathered B W N S) w) d, set_seated (holds_in w B) B.status t held ready)

  module _ {f : Bool} {own all : ℕ} (o : own ≡ get_or S.amounts t 0) (l : all ≡ S.held) where
    module _ {q y : ℕ} (k : q ≡ seated_quota (gathered B W N S) w) (r : y ≡ drawn N.quota x) (h : y ≤ q) (d : f ≡ (next_fits a && (amount_fits (all + x) && amount_fits (own + x)))) where
      within : leb (drawn N.quota x) (seated_quota (gathered B W N S) w) ≡ true
      within = let p : drawn N.quota x ≤ seated_quota (gathered B W N S) w = rw (k, r) at h in le-leb (drawn N.quota x) (seated_quota (gathered B W N S) w) p

      fitting : f ≡ (next_fits a && (amount_fits (S.held + x) && amount_fits (get_or S.amounts t 0 + x)))
      fitting = d ∙ (λ i. next_fits a && (amount_fits (l i + x) && amount_fits (o i + x)))

      pub alloc_unfit : f ≡ false → gone None (gathered B W N S) ≡ acted alloc T w t a x (gathered B W N S)
      unfolding went_in act_on
      alloc_unfit e = rw (within, ← fitting, e)

      pub alloc_done : f ≡ true → Seated (gathered B W N S) w t a
          → gone (Some (Done t a))
          (gathered (settled w (having t (q - y)) (seated_bytes w t B)) (settled_words w (holds_in w B) (having t (q - y)) (rowed 1 t (a + 1) W))
          (settled_numbers w (having t (q - y)) N) (held_sums (all + x) (amounted t (own + x) S)))
          ≡ acted alloc T w t a x (gathered B W N S)
      unfolding went_in act_on
      alloc_done e s = rw (k, r, o, l, within, ← fitting, e, next_at (W.rows 1) t a s.action)

    module _ (d : f ≡ (next_fits a && (leb x all && leb x own))) where
      enough : f ≡ (next_fits a && (leb x S.held && leb x (get_or S.amounts t 0)))
      enough = d ∙ (λ i. next_fits a && (leb x (l i) && leb x (o i)))

      pub free_unfit : f ≡ false → gone None (gathered B W N S) ≡ acted free T w t a x (gathered B W N S)
      unfolding went_in act_on
      free_unfit e = rw (← enough, e)

      pub free_done : {q : ℕ} → q ≡ seated_quota (gathered B W N S) w → f ≡ true → Seated (gathered B W N S) w t a
          → gone (Some (Done t a))
          (gathered (settled w (having t q) (seated_bytes w t B)) (settled_words w (holds_in w B) (having t q) (rowed 1 t (a + 1) W)) (settled_numbers w (having t q) N)
          (held_sums (all - x) (amounted t (own - x) S)))
          ≡ acted free T w t a x (gathered B W N S)
      unfolding went_in act_on
      free_done k e s = rw (k, o, l, ← enough, e, next_at (W.rows 1) t a s.action)
