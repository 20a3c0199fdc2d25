-- The texts of the turns of an order, turn by turn, and what the loop over the order keeps: whoever puts the texts of the rest puts those of the whole.
use Rattle.std.specs.Prelude.{Err, Ok}
use Prim.Native.Nat.{ℕ, zero, suc, ◌+◌, ◌-◌, ◌*◌, ◌/◌, ◌≤◌, ◌<◌}
use native.Mathlib.Numerals.{add-one}
use native.Mathlib.Omega.{arith}
use mathlib.Core.Path.{◌≡◌, refl, sym, ap, subst, ◌∙◌}
use mathlib.Core.List.{List, [], ◌∷◌, ◌++◌}
use mathlib.Core.Bool.{Bool, true, false}
use borrow.Author.Tests.{ne_eqb}
use lib.Dec.{eqb}
use lib.ListN.{length, get_or}
use Rattle.table.specs.Format.{table_of, kind}
use Rattle.table.specs.Pass.{refusal}
use Rattle.table.specs.declared.Refusal.{Refusal}
use Rattle.text.specs.Text.{refused_line}
use Rattle.text.specs.Puts.{Puts}
use Rattle.text.proofs.Putting.{puts_within, puts_more}
use Rattle.schedule.specs.declared.Reply.{Reply}
use Rattle.schedule.specs.Machine.{ended}
use Rattle.schedule.specs.Record.{max_bytes, bytes_of}
use Rattle.schedule.specs.Turn.{root_ended}
use Rattle.schedule.specs.Listing.{line, told_with, told_by, action_in, thread_in, last_with, last_of}
use Rattle.order.proofs.Lists.{filled_front}
use Rattle.lines.specs.Lines.{turn_texts, last_texts, lines_then, texts_of}
use Rattle.array_machine.proofs.Answers.{root_over, root_open}
use Rattle.run_memory.specs.Memory.{Memory, moved_in, Told}
use Rattle.run_memory.specs.Stands.{run_in}
use Rattle.deques.specs.declared.DequeRun.{DequeRun}
use Rattle.deques.specs.declared.DequeTurned.{DequeTurned}
use Rattle.deques.specs.DequeTurn.{unsound_deques, deque_turned}
use Rattle.deques.specs.DequeRuns.{Pair, pair, pair_at}
use Rattle.stealing.specs.StealingMemory.{deque_turn_in, deque_run_in, DequesStand}
use Rattle.stealing.proofs.InMemory.{TurnsDeques, deque_turned_by, deque_turn_refines}
use Rattle.dfdeques.proofs.DequeByValue.{deque_refused, open_root, turn_blank}
use Rattle.deque_listing.specs.DequeListing.{pairs_by, list_pairs, rest_texts}

-- ---- the texts

rest_none : (order : List ℕ) (i : ℕ) (r : DequeRun) → rest_texts order 0 i r ≡ last_texts (last_of r.run)
unfolding rest_texts pairs_by lines_then
rest_none order i r = refl

rest_ended : (order : List ℕ) (k i : ℕ) (r : DequeRun) → root_ended r.run ≡ true → rest_texts order k i r ≡ last_texts (last_of r.run)
unfolding rest_texts pairs_by lines_then
rest_ended order zero i r e = refl
rest_ended order (suc k) i r e = rw e

module _ (order : List ℕ) (k i : ℕ) (r : DequeRun) {t : DequeTurned} (going : root_ended r.run ≡ false) (e : t ≡ deque_turned r (pair_at order i).worker (pair_at order i).choice) where
  rest_refused : {x : Refusal} → t.answer ≡ Err x → rest_texts order (suc k) i r ≡ refused_line x ∷ []
  unfolding rest_texts pairs_by lines_then last_texts
  rest_refused q = rw (going, ← e, q)

  rest_taken : {x : Reply} → t.answer ≡ Ok x
      → rest_texts order (suc k) i r ≡ turn_texts (line t.run.run.turns (pair_at order i).worker (told_by x t.run.run) t.run.run.held) ++ rest_texts order k (suc i) t.run
  unfolding rest_texts pairs_by lines_then
  rest_taken q = rw (going, ← e, q)

-- ---- the loop

-- what is put so far is whole with the rest, and at most one line for each turn
pub record Listed (order out₀ : List ℕ) (at₀ : ℕ) (run₀ : DequeRun) (out : List ℕ) (run : DequeRun) (at i : ℕ) : Type 0 where
  pub within : i ≤ length order / 2
  pub long : length out ≡ length out₀
  pub rest : (k : ℕ) → i + k ≡ length order / 2 → (o : List ℕ) (r m : ℕ) → Puts out at o r (rest_texts order k i run) m
      → Puts out₀ at₀ o r (rest_texts order (length order / 2) 0 run₀) (64 * i + m)

pub start : (order out : List ℕ) (at : ℕ) (run : DequeRun) → Listed order out at run out run at 0
start order out at run =
    record {
      within = omega arith;
      long = refl;
      rest = λ k e o r m p.
          let q : k ≡ length order / 2 = omega (arith, e) in
          puts_within (omega arith) (subst (λ (j : ℕ). Puts out at o r (rest_texts order j 0 run) m) q p);
    }

module _ {order out₀ : List ℕ} {at₀ : ℕ} {run₀ : DequeRun} {out : List ℕ} {run : DequeRun} {at i : ℕ} (v : Listed order out₀ at₀ run₀ out run at i) where
  -- what the whole is to put
  abbrev Whole : List ℕ → ℕ → Type 0
  Whole o r = Puts out₀ at₀ o r (rest_texts order (length order / 2) 0 run₀) (64 * (length order / 2 + 1))

  whole : (k : ℕ) → i + k ≡ length order / 2 → {o : List ℕ} {r : ℕ} {texts : List (List ℕ)} → rest_texts order k i run ≡ texts → Puts out at o r texts 64 → Whole o r
  whole k e {o} {r} f p = puts_within (omega (arith, v.within)) (v.rest k e o r 64 (rw f p))

  left_over : (k : ℕ) × (i + k ≡ length order / 2)
  left_over = (length order / 2 - i, omega (arith, v.within))

  -- the root's end, and the order's
  pub over : {o : List ℕ} {r : ℕ} → root_ended run.run ≡ true → Puts out at o r (last_texts (last_with true run.run.turns run.run.highest)) 64 → Whole o r
  over e p = let (k, q) = left_over in whole k q (rest_ended order k i run e) (rw e p)

  pub exhausted : (b : Bool) {o : List ℕ} {r : ℕ} → b ≡ root_ended run.run → length order / 2 ≤ i → Puts out at o r (last_texts (last_with b run.run.turns run.run.highest)) 64 → Whole o r
  exhausted b e h p = whole 0 (omega (arith, v.within)) (rest_none order i run) (rw e at p)

  module _ (h : i < length order / 2) (going : root_ended run.run ≡ false) {t : DequeTurned} (e : t ≡ deque_turned run (pair_at order i).worker (pair_at order i).choice) where
    one_more : (k : ℕ) × (i + suc k ≡ length order / 2)
    one_more = (length order / 2 - suc i, omega (arith, h))

    pub refused : (x : Refusal) {o : List ℕ} {r : ℕ} → t.answer ≡ Err x → Puts out at o r (refused_line x ∷ []) 64 → Whole o r
    refused x q p = let (k, s) = one_more in whole (suc k) s (rest_refused order k i run going e q) p

    pub again : {x : Reply} {o : List ℕ} {r : ℕ} → t.answer ≡ Ok x → length o ≡ length out
        → Puts out at o r (turn_texts (line t.run.run.turns (pair_at order i).worker (told_by x t.run.run) t.run.run.held)) 64
        → Listed order out₀ at₀ run₀ o t.run r (i + 1)
    again q l p =
        record {
          within = omega (arith, h);
          long = omega (arith, l, v.long);
          rest = λ k s z j m u.
              puts_within (omega arith)
              (v.rest (suc k) (omega (arith, s)) z j (64 + m) (rw (rest_taken order k i run going e q) (puts_more p (rw add-one at u))));
        }

-- ---- any record

module _ (r : DequeRun) (order : List ℕ) {out o : List ℕ} {at j : ℕ} where
  pub not_sound : unsound_deques r ≡ true → Puts out at o j (refused_line (refusal 32 0) ∷ []) 64 → Puts out at o j (texts_of (list_pairs r order)) (64 * (length order / 2 + 1))
  unfolding list_pairs lines_then last_texts
  not_sound e p = rw e (puts_within (omega arith) p)

  module _ (u : unsound_deques r ≡ false) where
    pub lists : {size : ℕ} → Puts out at o j (rest_texts order (length order / 2) 0 r) size → Puts out at o j (texts_of (list_pairs r order)) size
    unfolding list_pairs rest_texts
    lists p = rw u p

    -- the blank record
    module _ (n : r.run.workers ≡ 0) where
      pub no_turns : length order < 2 → Puts out at o j (last_texts (last_with false r.run.turns r.run.highest)) 64 → Puts out at o j (texts_of (list_pairs r order)) (64 * (length order / 2 + 1))
      no_turns h p = lists (exhausted (start order out at r) false (sym (open_root r u n)) (omega (arith, h)) p)

      pub no_workers : 2 ≤ length order → Puts out at o j (refused_line (refusal 30 0) ∷ []) 64 → Puts out at o j (texts_of (list_pairs r order)) (64 * (length order / 2 + 1))
      no_workers h p =
          lists (refused (start order out at r) (omega (arith, h)) (open_root r u n) {t = deque_refused 30 r} (turn_blank r u n (pair_at order 0).worker (pair_at order 0).choice) (refusal 30 0) refl p)

-- ---- the record in the blocks

pair_at_lem : (l : List ℕ) (i : ℕ) → pair (get_or l (2 * i) 0) (get_or l (2 * i + 1) 0) ≡ pair_at l i
unfolding pair_at
pair_at_lem l i = rw add-one

pub record Tells (s order out₀ : List ℕ) (at₀ : ℕ) (M₀ M : Memory) (out : List ℕ) (at i : ℕ) : Type 0 where
  pub stands : DequesStand s M
  pub listed : Listed order out₀ at₀ (deque_run_in s M₀) out (deque_run_in s M) at i

module _ {s order out₀ : List ℕ} {at₀ : ℕ} {M₀ M : Memory} {out : List ℕ} {at i : ℕ} (v : Tells s order out₀ at₀ M₀ M out at i) where
  abbrev here : DequeRun
  here = deque_run_in s M

  abbrev All : List ℕ → ℕ → Type 0
  All o r = Puts out₀ at₀ o r (rest_texts order (length order / 2) 0 (deque_run_in s M₀)) (64 * (length order / 2 + 1))

  pub finished : {o : List ℕ} {r : ℕ} → get_or M.arrays.status 0 0 ≡ ended → Puts out at o r (last_texts (last_with true (moved_in M).turns (moved_in M).totals.highest)) 64 → All o r
  finished e p = over v.listed (root_over here.run e) p

  pub spent : (b : Bool) {o : List ℕ} {r : ℕ} → b ≡ eqb (get_or M.arrays.status 0 0) ended → length order / 2 ≤ i
      → Puts out at o r (last_texts (last_with b (moved_in M).turns (moved_in M).totals.highest)) 64 → All o r
  unfolding root_ended
  spent b e h p = exhausted v.listed b e h p

  -- a turn
  module _ (h : i < length order / 2) (going : get_or M.arrays.status 0 0 ≡ ended → ⊥) {t : Told} (e : t ≡ deque_turn_in s (get_or order (2 * i) 0) (get_or order (2 * i + 1) 0) M) where
    abbrev w : ℕ
    w = get_or order (2 * i) 0

    abbrev c : ℕ
    c = get_or order (2 * i + 1) 0

    turns : TurnsDeques s here w c t
    turns = subst (λ (x : Told). TurnsDeques s here w c x) (sym e) (deque_turn_refines s M v.stands w c)

    turned : deque_turned_by s t ≡ deque_turned here (pair_at order i).worker (pair_at order i).choice
    turned = turns.as_turned ∙ ap (λ (g : Pair). deque_turned here g.worker g.choice) (pair_at_lem order i)

    pub stopped : (t.number ≡ 0 → ⊥) → {o : List ℕ} {r : ℕ} → Puts out at o r (refused_line (refusal t.number 0) ∷ []) 64 → All o r
    stopped z p = refused v.listed h (root_open here.run going) turned (refusal t.number 0) (rw (ne_eqb t.number 0 z)) p

    -- its line was put, of the table in these bytes
    abbrev Put : List ℕ → ℕ → ℕ → List ℕ → Type 0
    Put o k w' s' =
        Puts out at o k
        (turn_texts (line (moved_in t.memory).turns w' (told_with t.reply (kind (table_of s') (action_in t.reply)) (get_or t.memory.arrays.next (thread_in t.reply) 0)) (moved_in t.memory).totals.held))
        64

    pub goes_on : t.number ≡ 0 → {o : List ℕ} {k : ℕ} → length o ≡ length out → Put o k w s → Tells s order out₀ at₀ M₀ t.memory o k (i + 1)
    goes_on z {o} {k} l p =
        record {
          stands = turns.stands;
          listed =
              again v.listed h (root_open here.run going) turned {x = t.reply} (rw z) l
              (subst (λ (x : ℕ). Put o k x (bytes_of (run_in s t.memory))) (ap (λ (g : Pair). g.worker) (pair_at_lem order i)) (subst (λ (x : List ℕ). Put o k w x) (sym (filled_front max_bytes s)) p));
        }
