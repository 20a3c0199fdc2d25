-- `dequetest::sound::sound_parts` meets its contract: the common part comes first, then turns taken, then the deques.
use Rattle.std.specs.Prelude.{Ok}
use Rattle.std.proofs.Common.{not}
use mathlib.Core.Path.{◌≡◌, ap, ◌∙◌}
use Prim.Native.Nat.{ℕ, ◌<◌, ◌≤◌}
use mathlib.Core.List.{List}
use mathlib.Core.Bool.{Bool, true, false, ◌&&◌}
use native.Mathlib.Omega.{arith}
use borrow.Author.Rules.{rules}
use borrow.Author.Tests.{lt-ltb, le-ltb}
use lib.ListN.{length, replicate, length-replicate}
use lib.Dec.{ltb}
use Rattle.table.specs.Format.{threads_of, table_of}
use Rattle.table.specs.Pass.{first_found}
use Rattle.table.specs.Checks.{passes}
use Rattle.table.proofs.Passes.{passes_rules}
use Rattle.schedule.specs.declared.Worker.{Worker}
use Rattle.schedule.specs.Links.{Links}
use Rattle.schedule.specs.Sound.{common_sound}
use Rattle.order.specs.Words.{is_nothing}
use Rattle.order.proofs.Words.{is_nothing_exactly}
use Rattle.soundness.specs.Code.Checks.{Accepted}
use Rattle.soundness.specs.Tested.{parents_in, parents_if}
use Rattle.soundness.proofs.Lookups.{few_threads}
use Rattle.soundness.proofs.Chains.{off, on, cut, skip, pass, first_of, never}
use Rattle.deques.specs.DequeWalk.{deques_stand}
use Rattle.dequetest.specs.DequeTested.{deque_sound_on}
use Rattle.dequetest.proofs.sound.sound_parts.Goals.{Start}
use Rattle.dequetest.proofs.sound.sound_parts.Goals as goal

module _ (s : List ℕ) (p K : ℕ) (next status amounts : List ℕ) (workers : List Worker) (set amount highest : ℕ) where
  abbrev shared : Bool
  shared = common_sound s p K next status amounts workers set amount highest

  module _ (lines bottoms : Links) (turns : ℕ) where
    abbrev whole : Bool
    whole = deque_sound_on s p K next status amounts lines bottoms workers set amount highest turns

    abbrev stand : ℕ → Bool
    stand n = deques_stand n status lines bottoms

    not_shared : shared ≡ false → false ≡ whole
    unfolding deque_sound_on
    not_shared e = cut (ltb turns 18446744073709551615 && stand (table_of s).threads) e

    last_turn : turns ≡ 18446744073709551615 → false ≡ whole
    unfolding deque_sound_on
    last_turn e = skip shared (cut (stand (table_of s).threads) (le-ltb turns 18446744073709551615 (omega (arith, e))))

    all_sound : shared ≡ true → {n : ℕ} → n ≡ (table_of s).threads → {t : Bool} → t ≡ stand n → (turns ≡ 18446744073709551615 → ⊥) → turns < 18446744073709551616 → t ≡ whole
    unfolding deque_sound_on
    all_sound e a h n f = pass e (pass (lt-ltb turns 18446744073709551615 (omega (arith, n, f))) (h ∙ ap stand a))

  module _ (e : shared ≡ true) where
    no_check : first_found (passes s) ≡ Ok tt
    unfolding common_sound
    no_check = (is_nothing_exactly _).0 (first_of _ _ e)

    its_parents : {l : List ℕ} → l ≡ parents_if (is_nothing (first_found (passes s))) (table_of s) → l ≡ parents_in (table_of s)
    its_parents h = h ∙ rw no_check

    few : {n : ℕ} → n ≡ (table_of s).threads → n ≤ 1024
    few {n} a = let k : Accepted s n = record { rules = (passes_rules s).0 no_check; threads = a } in few_threads k

threads_are : (s : List ℕ) {n : ℕ} → n ≡ threads_of s → n ≡ (table_of s).threads
unfolding table_of
threads_are s a = a

cleared_size : {l : List ℕ} → l ≡ replicate 1024 0 → length l ≡ 1024
cleared_size e = ap length e ∙ length-replicate {A = ℕ} 1024 0

turns_fit : (c : Start) → c.args.turns < 18446744073709551616
turns_fit c = search rules

pub returns-then-not-common : goal.returns-then-not-common
returns-then-not-common c = record { value = not_shared _ _ _ _ _ _ _ _ _ _ _ _ _ (off c.test_common-common.ensures.value (ap not c.if-not-common.true)); parents_after = never; rises_after = (c.test_common-common.ensures.rises_after.0, c.test_common-common.ensures.rises_after.1) }

pub returns-then-turns-eq18446744073709551615 : goal.returns-then-turns-eq18446744073709551615
returns-then-turns-eq18446744073709551615 c = record { value = last_turn _ _ _ _ _ _ _ _ _ _ _ _ _ c.if-turns-eq18446744073709551615.true; parents_after = never; rises_after = (c.test_common-common.ensures.rises_after.0, c.test_common-common.ensures.rises_after.1) }

pub deques_stand-requires : goal.deques_stand-requires
deques_stand-requires c = record { n_bound = few _ _ _ _ _ _ _ _ _ _ (on c.test_common-common.ensures.value (ap not c.if-not-common.false)) (threads_are _ c.threads-n.ensures.value); bottoms_len = cleared_size c.test_common-common.ensures.rises_after.2 }

pub returns : goal.returns
returns c = let h = on c.test_common-common.ensures.value (ap not c.if-not-common.false) in record { value = all_sound _ _ _ _ _ _ _ _ _ _ _ _ _ h (threads_are _ c.threads-n.ensures.value) c.deques_stand.ensures c.if-turns-eq18446744073709551615.false (search rules); parents_after = (λ q. its_parents _ _ _ _ _ _ _ _ _ _ h c.test_common-common.ensures.parents_after); rises_after = (c.test_common-common.ensures.rises_after.0, c.test_common-common.ensures.rises_after.1) }
