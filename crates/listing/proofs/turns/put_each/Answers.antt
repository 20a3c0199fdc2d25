use Rattle.std.specs.Prelude.{Ok}
use Rattle.schedule.specs.Turn.{taken_turn}
use mathlib.Core.Path.{◌≡◌, refl, sym, ap, subst, ◌∙◌}
use Prim.Native.Nat.{ℕ, ◌+◌, ◌-◌, ◌*◌, ◌≤◌, ◌<◌}
use mathlib.Core.List.{List, [], ◌∷◌}
use mathlib.Core.Bool.{Bool, true, false, ◌&&◌}
use native.Mathlib.Omega.{arith}
use borrow.Author.Rules.{rules}
use borrow.Author.Tests.{ne_eqb, ltb-true, ltb-false}
use lib.Dec.{ltb}
use lib.ListN.{length, get_or}
use Rattle.table.specs.Format.{table_of, kind}
use Rattle.table.specs.Pass.{refusal}
use Rattle.table.proofs.Tests.{no_way}
use Rattle.text.specs.Text.{refused_line}
use Rattle.schedule.specs.declared.Run.{Run}
use Rattle.schedule.specs.declared.Reply.{Reply}
use Rattle.schedule.specs.declared.Reply.TheVariants.{Done}
use Rattle.schedule.specs.Machine.{ended as ended_status}
use Rattle.schedule.specs.Record.{max_bytes, bytes_of}
use Rattle.schedule.specs.Turn.{unsound, turned}
use Rattle.schedule.specs.Listing.{line, told_with, action_in, thread_in, last_with}
use Rattle.order.proofs.Lists.{filled_front}
use Rattle.text.specs.Puts.{Puts}
use Rattle.text.proofs.Putting.{puts_within}
use Rattle.chart.specs.Chart.{Figures, figures, line_text, most_turns, too_many}
use Rattle.chart.proofs.Records.{wall_width, many, charted_many, charted_written}
use Rattle.chart.proofs.Records.{few as few_turns}
use Rattle.array_machine.proofs.Answers.{steady_room, refused_as, root_over, root_open}
use Rattle.run_memory.specs.Memory.{Memory, moved_in, Told, turn_in, passed_over}
use Rattle.run_memory.specs.Stands.{run_in, Stands}
use Rattle.run_memory.specs.Blocks.{memory_of}
use Rattle.run_memory.specs.Runs.{ends_root}
use Rattle.run_memory.proofs.Endings.{Undone, Unending, Ends, says_no_end, says_end, turn_ends}
use Rattle.run_memory.proofs.Refines.{Moves, moves_so, turned_by, turn_turned}
use Rattle.asyncdf.proofs.Calls.{told_small}
use Rattle.listing.specs.Sheets.{turns_texts, widest, figures_in, after_texts, after_size, over_texts, Drawn}
use Rattle.listing.proofs.Ordered.{Listed, start, ended, exhausted, refused, again, texts_refused, texts_many}
use Rattle.listing.proofs.turns.put_each.Invariants.{Tells}
use Rattle.listing.proofs.turns.put_each.Goals as goal

-- a chart's test of its turns
above_most : (chart : Bool) (turns : ℕ) → (chart && ltb most_turns turns) ≡ true → (chart ≡ true) × (most_turns < turns)
above_most true turns e = (refl, ltb-true most_turns turns e)
above_most false turns e = no_way cc

few_enough : (chart : Bool) (turns : ℕ) → (chart && ltb most_turns turns) ≡ false → chart ≡ true → turns ≤ most_turns
few_enough true turns e c = ltb-false most_turns turns e
few_enough false turns e c = no_way cc

-- it is asked of the turns taken
asked : (chart : Bool) (k : ℕ) {b q : Bool} {turns : ℕ} → b ≡ (chart && ltb most_turns k) → k ≡ turns → b ≡ q → (chart && ltb most_turns turns) ≡ q
asked chart k e f g = ap (λ (x : ℕ). chart && ltb most_turns x) (sym f) ∙ sym e ∙ g

-- a chart's line that has its width is as long as a line may be
sized : (chart : Bool) (x : Figures) {s o : List ℕ} {at k : ℕ} {texts : List (List ℕ)} → (chart ≡ true → length (line_text x) ≡ 85) → Puts s at o k texts (after_size chart x)
    → Puts s at o k texts (widest chart)
sized true x h p = puts_within (omega (arith, h refl)) p
sized false x h p = p

module _ {chart : Bool} {s : List ℕ} {p : ℕ} {order out₀ : List ℕ} {at₀ : ℕ} {M₀ M : Memory} {out : List ℕ} {at i : ℕ}
    (v : Tells chart s p order out₀ at₀ M₀ M out at i) where
  abbrev here : Run
  here = run_in s M

  -- the root has a place
  rooted : 0 < length M.arrays.status
  rooted = let n : length M.arrays.status ≡ 1024 = v.drawn.stands.steady.state.common.status_size in omega (arith, n)

  -- what the whole is to put
  abbrev Whole : List ℕ → ℕ → Type 0
  Whole o r = Puts out₀ at₀ o r (turns_texts chart (run_in s M₀) order) (widest chart * (length order + 1))

  spent : {o : List ℕ} {r : ℕ} → length order ≤ i → Puts out at o r (over_texts chart (last_with false (moved_in M).turns (moved_in M).totals.highest)) 64 → Whole o r
  spent h q = exhausted v.listed (root_open here v.drawn.going) h q

  module _ (h : i < length order) {x : Told} (t : x ≡ turn_in s (get_or order i 0) M) where
    abbrev w : ℕ
    w = get_or order i 0

    abbrev there : Run
    there = run_in s x.memory

    answered : turned_by s x (passed_over M w) ≡ turned here w
    answered = ap (λ (y : Told). turned_by s y (passed_over M w)) t ∙ turn_turned s M v.drawn.stands w

    -- the turn is refused
    stopped : (x.number ≡ 0 → ⊥) → {o : List ℕ} {r : ℕ} → Puts out at o r (refused_line (refusal x.number 0) ∷ []) 64 → Whole o r
    stopped z q =
        let e : refused_as x.number there ≡ turned here w = rw (ne_eqb x.number 0 z) at answered in
        refused v.listed h (refusal x.number 0) (λ rest. texts_refused here w (root_open here v.drawn.going) e chart rest refl) q

    module _ (z : x.number ≡ 0) where
      takes : record { answer = taken_turn x.reply (passed_over M w); run = there } ≡ turned here w
      takes = rw z at answered

      moves : Moves s M w
      moves = moves_so s M v.drawn.stands w (sym (ap (λ (y : Told). y.number) t) ∙ z)

      tally : (moved_in x.memory).turns ≡ (moved_in M).turns + 1
      tally = ap (λ (y : Told). (moved_in y.memory).turns) t ∙ moves.count

      stands_there : Stands s x.memory
      stands_there = subst (λ (y : Told). Stands s y.memory) (sym t) moves.stands

      sound_there : chart ≡ true → unsound there ≡ false
      sound_there c =
          steady_room there stands_there.steady (omega (arith, tally, v.drawn.room c)) (λ k. omega (arith, k, tally, v.drawn.room c))

      -- a chart has no line for the record after it
      no_line : {o : List ℕ} {r : ℕ} → (chart && ltb most_turns (moved_in x.memory).turns) ≡ true → Puts out at o r (refused_line (refusal 43 0) ∷ []) 64 → Whole o r
      no_line e q =
          let (c, k) = above_most chart (moved_in x.memory).turns e in
          refused v.listed h (refusal 43 0)
          (λ rest. rw c (texts_many here w (root_open here v.drawn.going) takes refl rest (sym (charted_many there (sound_there c) (many there (sound_there c) k))))) q

      count_there : p ≡ get_or x.memory.settings 0 0
      count_there = v.drawn.workers ∙ ap (λ (l : List ℕ). get_or l 0 0) (sym (ap (λ (y : Told). y.memory.settings) t ∙ moves.settings))

      -- what is put after a turn with this reply, of p workers and the table in these bytes
      abbrev PutOf : Reply → List ℕ → ℕ → ℕ → List ℕ → Type 0
      PutOf y o k p' s' =
          Puts out at o k
          (after_texts chart (figures_in p' x.memory)
          (line (moved_in x.memory).turns w (told_with y (kind (table_of s') (action_in y)) (get_or x.memory.arrays.next (thread_in y) 0)) (moved_in x.memory).totals.held))
          (after_size chart (figures_in p' x.memory))

      abbrev Put : List ℕ → ℕ → ℕ → List ℕ → Type 0
      Put = PutOf x.reply

      -- from the thread and the action of a reply that was taken apart
      done_line : {u a : ℕ} → x.reply ≡ Done u a → {o : List ℕ} {k : ℕ} → PutOf (Done u a) o k p s → Put o k p s
      done_line g {o} {k} q = subst (λ (y : Reply). PutOf y o k p s) (sym g) q

      module _ (f : (chart && ltb most_turns (moved_in x.memory).turns) ≡ false) {o : List ℕ} {k : ℕ} (l : length o ≡ length out) (q : Put o k p s) where
        few_there : chart ≡ true → too_many there ≡ false
        few_there c = few_turns there (sound_there c) (few_enough chart (moved_in x.memory).turns f c)

        put_there : Put o k there.workers (bytes_of there)
        put_there = subst (λ (a : ℕ). Put o k a (bytes_of there)) count_there (subst (λ (b : List ℕ). Put o k p b) (sym (filled_front max_bytes s)) q)

        next_listed : Listed chart order out₀ at₀ (run_in s M₀) o there k (i + 1)
        next_listed =
            again v.listed h (root_open here v.drawn.going) takes refl (λ c. sym (charted_written there (sound_there c) (few_there c))) l
            (sized chart (figures there) (λ c. wall_width there (sound_there c) (few_there c)) put_there)

        going_on : (get_or x.memory.arrays.status 0 0 ≡ ended_status → ⊥) → Tells chart s p order out₀ at₀ M₀ x.memory o k (i + 1)
        going_on d = record { drawn = record { stands = stands_there; going = d; workers = count_there; room = few_enough chart (moved_in x.memory).turns f }; listed = next_listed }

        -- what the turn did to the root
        told_ends : Ends (table_of s) 0 M.arrays.status x.reply x.memory.arrays.status
        told_ends = subst (λ (y : Told). Ends (table_of s) 0 M.arrays.status y.reply y.memory.arrays.status) (sym t) (turn_ends s w M 0)

        again_with : Unending (table_of s) 0 x.reply → Tells chart s p order out₀ at₀ M₀ x.memory o k (i + 1)
        again_with u = going_on (told_ends.keep u v.drawn.going)

        -- no action was done
        undone : Undone x.reply → Tells chart s p order out₀ at₀ M₀ x.memory o k (i + 1)
        undone u = again_with (λ a f d. u 0 a f)

        -- one was done
        module _ {u a : ℕ} (g : x.reply ≡ Done u a) where
          goes_on : ends_root (table_of s) u a ≡ false → Tells chart s p order out₀ at₀ M₀ x.memory o k (i + 1)
          goes_on e = again_with (says_no_end (table_of s) g e)

          finished : {z : List ℕ} {j : ℕ} → ends_root (table_of s) u a ≡ true
              → Puts o k z j (over_texts chart (last_with true (moved_in x.memory).turns (moved_in x.memory).totals.highest)) 64 → Whole z j
          finished e n =
              let (b, d) = says_end (table_of s) g e in
              ended next_listed (root_over there (told_ends.ends a b d rooted)) n

pub loop-w-init : goal.loop-w-init
loop-w-init c =
    record { within = omega arith; long = refl; tells = record { drawn = c.requires; listed = start _ _ _ _ _ } }

pub overflow_cast-number : goal.overflow_cast-number
overflow_cast-number c = omega (arith, told_small _ _ _ c.in-Err.ensures.sums_after)

pub shape_of-out-in-Err : goal.shape_of-out-in-Err
shape_of-out-in-Err c = omega arith

pub returns-in-Err : goal.returns-in-Err
returns-in-Err c =
    stopped c.loop-w.invariant.tells c.loop-w-test.true c.in-Err.ensures.sums_after (c.in-Err.ensures.nonzero _ refl) c.put_refused.ensures

pub shape_of-out-then-too_many : goal.shape_of-out-then-too_many
shape_of-out-then-too_many c = omega arith

pub returns-then-too_many : goal.returns-then-too_many
returns-then-too_many c =
    no_line c.loop-w.invariant.tells c.loop-w-test.true c.in-Ok.ensures.sums_after refl (asked c.args.chart c.total_at.result c.too_many.ensures c.total_at.ensures c.if-too_many.true)
    c.put_refused-then-too_many.ensures

pub loop-w-preserved-in_default : goal.loop-w-preserved-in_default
loop-w-preserved-in_default c =
    let v = c.loop-w.invariant in
    record {
      within = omega (arith, c.loop-w-test.true);
      long = omega (arith, c.out-in_default-1.given, v.long);
      tells =
          undone v.tells c.loop-w-test.true c.in-Ok.ensures.sums_after refl (asked c.args.chart c.total_at.result c.too_many.ensures c.total_at.ensures c.if-too_many.false) (omega (arith, c.out-in_default-1.given))
          c.put_after-at.ensures c.in_default.not-Done;
    }

pub shape_of-out-then-ends_root : goal.shape_of-out-then-ends_root
shape_of-out-then-ends_root c =
    omega (arith, c.out-in-loop-w-1.given, c.loop-w.invariant.long)

pub returns-then-ends_root : goal.returns-then-ends_root
returns-then-ends_root c =
    let g = c.in-Done.is in
    finished c.loop-w.invariant.tells c.loop-w-test.true c.in-Ok.ensures.sums_after refl (asked c.args.chart c.total_at.result c.too_many.ensures c.total_at.ensures c.if-too_many.false) (omega (arith, c.out-in-loop-w-1.given))
    (done_line c.loop-w.invariant.tells c.loop-w-test.true c.in-Ok.ensures.sums_after refl g c.put_done-at.ensures) g (sym c.ends_root.ensures ∙ c.if-ends_root.true) c.put_end.ensures

pub loop-w-preserved : goal.loop-w-preserved
loop-w-preserved c =
    let v = c.loop-w.invariant in
    let g = c.in-Done.is in
    record {
      within = omega (arith, c.loop-w-test.true);
      long = omega (arith, c.out-in-loop-w-1.given, v.long);
      tells =
          goes_on v.tells c.loop-w-test.true c.in-Ok.ensures.sums_after refl (asked c.args.chart c.total_at.result c.too_many.ensures c.total_at.ensures c.if-too_many.false) (omega (arith, c.out-in-loop-w-1.given))
          (done_line v.tells c.loop-w-test.true c.in-Ok.ensures.sums_after refl g c.put_done-at.ensures) g (sym c.ends_root.ensures ∙ c.if-ends_root.false);
    }

pub shape_of-out : goal.shape_of-out
shape_of-out c = omega arith

pub returns : goal.returns
returns c =
    spent c.loop-w.invariant.tells c.loop-w-test.false c.put_end-2.ensures
