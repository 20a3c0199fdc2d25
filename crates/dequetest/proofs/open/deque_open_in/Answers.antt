-- `dequetest::open::deque_open_in` meets its contract, answer by answer.
use mathlib.Core.Path.{◌≡◌, refl, ap, sym, ◌∙◌}
use Prim.Native.Nat.{ℕ}
use mathlib.Core.List.{List}
use mathlib.Core.Bool.{Bool, true, false, ◌&&◌}
use borrow.Author.Rules.{rules}
use lib.ListN.{replicate}
use Rattle.table.specs.Format.{Table, table_of}
use Rattle.soundness.specs.Tested.{parents_in, parents_if}
use Rattle.soundness.proofs.Chains.{second_of}
use Rattle.dequetest.specs.DequeTested.{open_number, open_parents}
use Rattle.dequetest.proofs.open.deque_open_in.Goals as goal

-- what `both` says of the test's answer q, of the test itself
tested : (w : Bool) {q s b : Bool} → q ≡ s → b ≡ (w && q) → (w && s) ≡ b
tested w e d = ap (λ (x : Bool). w && x) (sym e) ∙ sym d

its_parents : (q : Bool) (T : Table) {l : List ℕ} → l ≡ parents_if q T → q ≡ true → l ≡ parents_in T
its_parents q T h e = h ∙ ap (λ (b : Bool). parents_if b T) e

-- the three answers: the number, and the parents
module _ (sound blank : Bool) where
  sound_number : sound ≡ true → 0 ≡ open_number sound blank
  unfolding open_number
  sound_number e = rw e

  blank_number : sound ≡ false → blank ≡ true → 0 ≡ open_number sound blank
  unfolding open_number
  blank_number e d = rw (e, d)

  refused_number : sound ≡ false → blank ≡ false → 32 ≡ open_number sound blank
  unfolding open_number
  refused_number e d = rw (e, d)

  module _ (T : Table) (before : List ℕ) where
    sound_parents : sound ≡ true → {l : List ℕ} → l ≡ parents_in T → l ≡ open_parents sound blank T before
    unfolding open_parents
    sound_parents e h = rw e h

    blank_parents : sound ≡ false → blank ≡ true → replicate 1024 0 ≡ open_parents sound blank T before
    unfolding open_parents
    blank_parents e d = rw (e, d)

    refused_parents : sound ≡ false → blank ≡ false → before ≡ open_parents sound blank T before
    unfolding open_parents
    refused_parents e d = rw (e, d)

pub returns-then-both : goal.returns-then-both
returns-then-both c = let d = c.deque_test_in-passed in
    let a = c.args in
    let h = tested a.written d.ensures.value c.both.ensures ∙ c.if-both.true in
    let p = its_parents d.result (table_of a.table.now) d.ensures.parents_after (second_of a.written d.result (sym c.both.ensures ∙ c.if-both.true)) in record { value = sound_number _ _ h; parents_after = sound_parents _ _ _ _ h p; rises_after = d.ensures.rises_after; forks_after = (d.ensures.forks_after.0, refl, d.ensures.forks_after.1) }

pub returns-then-blank : goal.returns-then-blank
returns-then-blank c = let a = c.args in
    let h = tested a.written c.deque_test_in-passed.ensures.value c.both.ensures ∙ c.if-both.false in
    let k = sym c.deque_blank_in-blank.ensures ∙ c.if-blank.true in record { value = blank_number _ _ h k; parents_after = blank_parents _ _ _ _ h k; rises_after = c.deque_test_in-passed.ensures.rises_after; forks_after = (c.deque_test_in-passed.ensures.forks_after.0, refl, c.deque_test_in-passed.ensures.forks_after.1) }

pub returns : goal.returns
returns c = let a = c.args in
    let h = tested a.written c.deque_test_in-passed.ensures.value c.both.ensures ∙ c.if-both.false in
    let k = sym c.deque_blank_in-blank.ensures ∙ c.if-blank.false in record { value = refused_number _ _ h k; parents_after = refused_parents _ _ _ _ h k; rises_after = c.deque_test_in-passed.ensures.rises_after; forks_after = (c.deque_test_in-passed.ensures.forks_after.0, refl, c.deque_test_in-passed.ensures.forks_after.1) }
