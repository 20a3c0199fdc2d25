-- A sound record of DFDeques is one whose parts are sound and whose table is a copy of its bytes, filled up with 0; the blank record likewise.
use mathlib.Core.Path.{◌≡◌, refl, sym, ◌∙◌}
use mathlib.Core.Bool.{Bool, true, false, ◌&&◌, and_assoc}
use lib.ListN.{length, replicate}
use lib.Dec.{ltb, eqb}
use Rattle.schedule.specs.Record.{max_bytes, bytes_of, table_in, links_in}
use Rattle.order.specs.Words.{filled, same_list}
use Rattle.schedule.specs.Sound.{common_sound}
use Rattle.soundness.proofs.Chains.{skip}
use Rattle.soundness.proofs.OnParts.{blank_is}
use Rattle.deques.specs.declared.DequeRun.{DequeRun}
use Rattle.deques.specs.DequeRecord.{bottoms_in, blank_deques}
use Rattle.deques.specs.DequeSound.{record_sound, deque_sound, is_blank_deques}
use Rattle.deques.specs.DequeWalk.{deques_stand, deque_tested}
use Rattle.deques.proofs.DequeWalks.{deque_tested_is}
use Rattle.dequetest.specs.DequeTested.{deque_sound_on, deque_blank_on}

-- a test that fails, as the last of a chain
none : (t : Bool) → false ≡ (t && false)
none t = skip t refl

-- the clauses on the table in the record come last
regroup : (q b c t s : Bool) → ((q && (b && (c && t))) && s) ≡ ((q && (t && s)) && (b && c))
regroup true true true true true = refl
regroup true true true true false = refl
regroup true true true false s = refl
regroup true true false t s = none (t && s)
regroup true false c t s = none (t && s)
regroup false b c t s = refl

module _ (r : DequeRun) where
  pub deque_sound_is : deque_sound r
      ≡ (deque_sound_on (bytes_of r.run) r.run.workers r.run.quota r.run.next r.run.status r.run.amounts (links_in r.run) (bottoms_in r) r.run.worker r.run.busy r.run.held r.run.highest r.run.turns
      && (eqb (length (bytes_of r.run)) r.run.length && same_list r.run.table (filled max_bytes (bytes_of r.run))))
  unfolding deque_tested record_sound deque_sound_on
  deque_sound_is =
      sym (deque_tested_is r)
      ∙ regroup (common_sound (bytes_of r.run) r.run.workers r.run.quota r.run.next r.run.status r.run.amounts r.run.worker r.run.busy r.run.held r.run.highest)
      (eqb (length (bytes_of r.run)) r.run.length) (same_list r.run.table (filled max_bytes (bytes_of r.run))) (ltb r.run.turns 18446744073709551615)
      (deques_stand (table_in r.run).threads r.run.status (links_in r.run) (bottoms_in r))

  pub deque_blank_is : is_blank_deques r
      ≡ (same_list r.run.table (replicate max_bytes 0)
      && (eqb r.run.length 0
      && deque_blank_on r.run.workers r.run.quota r.run.next r.run.status r.run.amounts (links_in r.run) (bottoms_in r) r.run.worker r.run.busy r.run.held r.run.highest r.run.turns))
  unfolding is_blank_deques deque_blank_on blank_deques
  deque_blank_is = rw (blank_is r.run) (simp and_assoc)
