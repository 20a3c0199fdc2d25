-- `soundness::sound::sound_parts` meets its contract: the common part comes first, then turns taken, then the list and its links.
use Rattle.std.specs.Prelude.{Ok}
use mathlib.Core.Path.{◌≡◌, ap, sym, ◌∙◌}
use Prim.Native.Nat.{ℕ, ◌<◌}
use mathlib.Core.List.{List}
use mathlib.Core.Bool.{Bool, true, false, ◌&&◌, and_assoc, not}
use native.Mathlib.Omega.{arith}
use borrow.Author.Rules.{rules}
use borrow.Author.Tests.{lt-ltb, le-ltb}
use lib.Dec.{ltb}
use Rattle.table.specs.Format.{threads_of, table_of}
use Rattle.table.specs.Pass.{first_found}
use Rattle.table.specs.Checks.{passes}
use Rattle.table.proofs.Passes.{passes_rules}
use Rattle.schedule.specs.declared.Worker.{Worker}
use Rattle.schedule.specs.Links.{Links, list_of, laid}
use Rattle.schedule.specs.Begin.{setting_passes}
use Rattle.schedule.specs.Sound.{Common, next_in_body, common_sound, listed, same_links}
use Rattle.order.specs.Words.{is_nothing}
use Rattle.order.proofs.Words.{all_below_exactly, is_nothing_exactly}
use Rattle.schedule.proofs.Sound.Tests.{common_exactly}
use Rattle.soundness.specs.Code.Checks.{Accepted, Placed, links_sound}
use Rattle.soundness.specs.Tested.{parents_in, parents_if, sound_on}
use Rattle.soundness.proofs.Chains.{off, on, cut, skip, last, pass, first_of, second_of, never}
use Rattle.soundness.proofs.sound.sound_parts.Goals.{Start}
use Rattle.soundness.proofs.sound.sound_parts.Goals as goal

module _ (s : List ℕ) (p K : ℕ) (next status amounts : List ℕ) (workers : List Worker) (set amount highest : ℕ) where
  abbrev shared : Bool
  shared = common_sound s p K next status amounts workers set amount highest

  module _ (k : Links) (turns : ℕ) where
    abbrev whole : Bool
    whole = sound_on s p K next status amounts k workers set amount highest turns

    abbrev in_links : Bool
    in_links = links_sound (table_of s) next status k

    -- the clauses as the code groups them
    grouped : (shared && (in_links && ltb turns 18446744073709551615)) ≡ whole
    unfolding sound_on
    grouped = ap (λ (q : Bool). shared && q) (and_assoc (listed (table_of s) next status (list_of k)) (same_links k (laid (list_of k))) (ltb turns 18446744073709551615))

    not_shared : shared ≡ false → false ≡ whole
    not_shared e = cut (in_links && ltb turns 18446744073709551615) e ∙ grouped

    last_turn : turns ≡ 18446744073709551615 → false ≡ whole
    last_turn e = skip shared (skip in_links (sym (le-ltb turns 18446744073709551615 (omega (arith, e))))) ∙ grouped

    all_sound : shared ≡ true → {t : Bool} → t ≡ in_links → (turns ≡ 18446744073709551615 → ⊥) → turns < 18446744073709551616 → t ≡ whole
    all_sound e h n f = pass e (last in_links h (lt-ltb turns 18446744073709551615 (omega (arith, n, f)))) ∙ grouped

  module _ (e : shared ≡ true) where
    no_check : first_found (passes s) ≡ Ok tt
    unfolding common_sound
    no_check = (is_nothing_exactly _).0 (first_of _ _ e)

    placed : Placed s (table_of s).threads next
    unfolding common_sound
    placed =
        let c : Common (table_of s) p K next status amounts workers amount highest =
        (common_exactly _ _ _ _ _ _ _ _ _).0
        (first_of _ _
        (second_of (is_nothing (first_found (setting_passes p K))) _
        (second_of (is_nothing (first_found (passes s))) _ e))) in
        (all_below_exactly (next_in_body (table_of s) next) (table_of s).threads).1 c.placed

    its_parents : {l : List ℕ} → l ≡ parents_if (is_nothing (first_found (passes s))) (table_of s) → l ≡ parents_in (table_of s)
    its_parents h = h ∙ rw no_check

    known : {n : ℕ} → n ≡ threads_of s → Accepted s n × Placed s n next
    unfolding table_of
    known {n} a =
        let e : n ≡ (table_of s).threads = a in
        (record { rules = (passes_rules s).0 no_check; threads = a }, rw e placed)

turns_fit : (c : Start) → c.args.turns < 18446744073709551616
turns_fit c = search rules

pub returns-then-not-common : goal.returns-then-not-common
returns-then-not-common c = let k = c.test_common-common.ensures in record { value = not_shared _ _ _ _ _ _ _ _ _ _ _ _ (off k.value (ap not c.if-not-common.true)); parents_after = never; rises_after = (k.rises_after.0, k.rises_after.1) }

pub returns-then-turns-eq18446744073709551615 : goal.returns-then-turns-eq18446744073709551615
returns-then-turns-eq18446744073709551615 c = let k = c.test_common-common.ensures in record { value = last_turn _ _ _ _ _ _ _ _ _ _ _ _ c.if-turns-eq18446744073709551615.true; parents_after = never; rises_after = (k.rises_after.0, k.rises_after.1) }

pub links_sound-requires : goal.links_sound-requires
links_sound-requires c = let both = known _ _ _ _ _ _ _ _ _ _ (sym c.test_common-common.ensures.value ∙ c.if-not-common.false) c.threads-n.ensures.value in record { accepted = both.0; placed = both.1 }

pub returns : goal.returns
returns c = let k = c.test_common-common.ensures in
    let h = on k.value (ap not c.if-not-common.false) in record { value = all_sound _ _ _ _ _ _ _ _ _ _ _ _ h c.links_sound.ensures c.if-turns-eq18446744073709551615.false (turns_fit (goal.at.returns c).Start); parents_after = (λ q. its_parents _ _ _ _ _ _ _ _ _ _ h k.parents_after); rises_after = (k.rises_after.0, k.rises_after.1) }
