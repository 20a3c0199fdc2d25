-- `asyncdf::begin` meets its contract: the blank record where a check applies, else that of the table as given where nothing is above the quota, and of the filled-out table where something is.
use Rattle.std.specs.Prelude.{Err, Ok}
use mathlib.Core.Path.{◌≡◌, refl, sym, ap, subst, ◌∙◌}
use Prim.Native.Nat.{ℕ, ◌≤◌}
use mathlib.Core.List.{List}
use mathlib.Core.Bool.{true}
use native.Mathlib.Omega.{arith}
use borrow.Author.Tests.{le-leb}
use lib.Dec.{leb}
use lib.ListN.{length, take, replicate, length-replicate}
use lib.Seq.{length-take-le}
use Rattle.table.specs.Format.{table_of}
use Rattle.table.specs.declared.Refusal.{Refusal}
use Rattle.order.specs.Firsts.{firsts}
use Rattle.order.specs.Words.{filled}
use Rattle.filling.specs.Filled.{filled_out}
use Rattle.filling.specs.Filling.{filled_into}
use Rattle.schedule.specs.Record.{blank}
use Rattle.schedule.specs.Begin.{begin, start_run}
use Rattle.schedule.specs.declared.Run.{Run}
use Rattle.schedule.proofs.Runs.Values.{begin_values_lem}
use Rattle.soundness.specs.Tested.{Filling, next_if, begin_found, begin_filling, begins, begun_into}
use Rattle.soundness.proofs.Fillings.{answer_refused, answer_accepted, sized, given_runs, size_is, front_is_lem, front_within}
use Rattle.asyncdf.proofs.Calls.{begun_answers}
use Rattle.asyncdf.proofs.begin.Goals as goal

abbrev room : List ℕ
room = replicate 36868 0

abbrev start_next : List ℕ → List ℕ
start_next s = filled 1024 (firsts (table_of s).first 0 (table_of s).threads)

module _ (s : List ℕ) (p K : ℕ) (r : Filling) (e : r ≡ begin_filling s p K) where
  refused : (x : Refusal) (b : Run) → r.found ≡ Err x → b ≡ blank → record { answer = Err x; run = b } ≡ begin s p K
  unfolding begin begin_filling
  refused x b d g =
      let h : begin_found s p K ≡ Err x = sym (ap (λ (y : Filling). y.found) e) ∙ d in
      rw (h, g)

  module _ (d : r.found ≡ Ok tt) where
    silent : begin_found s p K ≡ Ok tt
    unfolding begin_filling
    silent = sym (ap (λ (y : Filling). y.found) e) ∙ d

    begun : (b : Run) → b ≡ start_run (filled_out s K) p K → record { answer = Ok tt; run = b } ≡ begin s p K
    unfolding begin
    begun b g = rw (silent, g)

    -- the room is enough
    next_is : r.bytes ≤ length room → (next : List ℕ) → next ≡ next_if (begins s p K (length room)) (table_of (filled_out s K)) → next ≡ start_next (filled_out s K)
    next_is h next n =
        let b : leb (begin_filling s p K).bytes (length room) ≡ true = le-leb (begin_filling s p K).bytes (length room) (omega (arith, ap (λ (y : Filling). y.bytes) e)) in
        n ∙ rw (silent, b)

    module _ (z : r.bytes ≡ 0) where
      in_place : filled_out s K ≡ s
      in_place = given_runs s p K room r e d z

      given_small : length s ≤ 36868
      given_small = subst (λ (l : List ℕ). length l ≤ 36868) in_place (sized s p K room r e d).1

      given_next : (next : List ℕ) → next ≡ next_if (begins s p K (length room)) (table_of (filled_out s K)) → next ≡ start_next s
      given_next next n = next_is (omega arith) next n ∙ ap start_next in_place

      given_begun : (b : Run) → b ≡ start_run s p K → record { answer = Ok tt; run = b } ≡ begin s p K
      given_begun b g = begun b (g ∙ ap (λ (l : List ℕ). start_run l p K) (sym in_place))

    module _ (z : r.bytes ≡ 0 → ⊥) where
      small : r.bytes ≤ 36868
      small = omega (arith, size_is s p K room r e d z, (sized s p K room r e d).1)

      within : r.bytes ≤ length room
      within = omega (arith, small, length-replicate {A = ℕ} 36868 0)

      module _ (buffer : List ℕ) (i : buffer ≡ begun_into s p K room) where
        into : buffer ≡ filled_into s K room
        into = rw silent at i

        front : take r.bytes buffer ≡ filled_out s K
        front = front_is_lem s p K room r e d z within buffer into

        there : r.bytes ≤ length buffer
        there = front_within s p K room r e d z within buffer into

        front_small : length (take r.bytes buffer) ≤ 36868
        front_small = omega (arith, length-take-le r.bytes buffer there, small)

        front_next : (next : List ℕ) → next ≡ next_if (begins s p K (length room)) (table_of (filled_out s K)) → next ≡ start_next (take r.bytes buffer)
        front_next next n = next_is within next n ∙ ap start_next (sym front)

        front_begun : (b : Run) → b ≡ start_run (take r.bytes buffer) p K → record { answer = Ok tt; run = b } ≡ begin s p K
        front_begun b g = begun b (g ∙ ap (λ (l : List ℕ). start_run l p K) front)

pub returns-in-Err : goal.returns-in-Err
returns-in-Err c = let a = c.args in let both = begun_answers (refused a.bytes.now a.p a.quota _ refl _ _ (answer_refused a.bytes.now a.p a.quota (sym c.in-Err.is ∙ c.accept-accepted.ensures.value)) c.blank.ensures) in record { value = both.0; answer_value = rw (← begin_values_lem) both.1 }

pub start-requires : goal.start-requires
start-requires c = let a = c.args in
    record { bytes_len_bound = given_small a.bytes.now a.p a.quota _ (answer_accepted a.bytes.now a.p a.quota (sym c.in-Ok.is ∙ c.accept-accepted.ensures.value)) refl c.if-k-eq0.true; next_value = given_next a.bytes.now a.p a.quota _ (answer_accepted a.bytes.now a.p a.quota (sym c.in-Ok.is ∙ c.accept-accepted.ensures.value)) refl c.if-k-eq0.true _ c.accept-accepted.ensures.next_after }

pub returns-then-k-eq0 : goal.returns-then-k-eq0
returns-then-k-eq0 c = let a = c.args in let both = begun_answers (given_begun a.bytes.now a.p a.quota _ (answer_accepted a.bytes.now a.p a.quota (sym c.in-Ok.is ∙ c.accept-accepted.ensures.value)) refl c.if-k-eq0.true _ c.start.ensures) in record { value = both.0; answer_value = rw (← begin_values_lem) both.1 }

pub slice_bounds-filled-end : goal.slice_bounds-filled-end
slice_bounds-filled-end c =
    let a = c.args in
    there a.bytes.now a.p a.quota _ (answer_accepted a.bytes.now a.p a.quota (sym c.in-Ok.is ∙ c.accept-accepted.ensures.value)) refl c.if-k-eq0.false _ c.accept-accepted.ensures.filled_after

pub slice_bounds-start-end : goal.slice_bounds-start-end
slice_bounds-start-end c =
    let a = c.args in
    sym (length-take-le _ _ (there a.bytes.now a.p a.quota _ (answer_accepted a.bytes.now a.p a.quota (sym c.in-Ok.is ∙ c.accept-accepted.ensures.value)) refl c.if-k-eq0.false _ c.accept-accepted.ensures.filled_after))

pub start-requires-2 : goal.start-requires-2
start-requires-2 c = let a = c.args in
    record { bytes_len_bound = front_small a.bytes.now a.p a.quota _ (answer_accepted a.bytes.now a.p a.quota (sym c.in-Ok.is ∙ c.accept-accepted.ensures.value)) refl c.if-k-eq0.false _ c.accept-accepted.ensures.filled_after; next_value = front_next a.bytes.now a.p a.quota _ (answer_accepted a.bytes.now a.p a.quota (sym c.in-Ok.is ∙ c.accept-accepted.ensures.value)) refl c.if-k-eq0.false _ c.accept-accepted.ensures.filled_after _ c.accept-accepted.ensures.next_after }

pub returns : goal.returns
returns c = let a = c.args in
    let both = begun_answers (front_begun a.bytes.now a.p a.quota _ (answer_accepted a.bytes.now a.p a.quota (sym c.in-Ok.is ∙ c.accept-accepted.ensures.value)) refl c.if-k-eq0.false _ c.accept-accepted.ensures.filled_after _ c.start-2.ensures) in record { value = both.0; answer_value = rw (← begin_values_lem) both.1 }
