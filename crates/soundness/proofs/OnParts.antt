-- A sound record is one whose parts are sound and whose table is a copy of its bytes, filled up with 0; the blank record likewise.
use mathlib.Core.Path.{◌≡◌, refl}
use mathlib.Core.Bool.{Bool, true, false, ◌&&◌}
use lib.ListN.{length, replicate}
use lib.Dec.{ltb, eqb}
use Rattle.schedule.specs.declared.Run.{Run}
use Rattle.schedule.specs.Links.{laid}
use Rattle.schedule.specs.Record.{max_bytes, bytes_of, table_in, links_in, list_in, blank}
use Rattle.order.specs.Words.{filled, same_list}
use Rattle.schedule.specs.Sound.{common_sound, listed, same_links, sound}
use Rattle.schedule.specs.Turn.{is_blank}
use Rattle.soundness.specs.Tested.{sound_on, blank_on}
use Rattle.soundness.proofs.Chains.{skip, last}

-- a test that fails, as the last of a chain
none : (t : Bool) → false ≡ (t && false)
none t = skip t refl

-- the clauses on the table in the record come last
regroup : (q l b c s t : Bool) → (q && (l && (b && (c && (s && t))))) ≡ ((q && (l && (s && t))) && (b && c))
regroup true true true true s t = last (s && t) refl refl
regroup true true true false s t = none (s && t)
regroup true true false c s t = none (s && t)
regroup true false b c s t = refl
regroup false l b c s t = refl

module _ (r : Run) where
  pub sound_is : sound r
      ≡ (sound_on (bytes_of r) r.workers r.quota r.next r.status r.amounts (links_in r) r.worker r.busy r.held r.highest r.turns
      && (eqb (length (bytes_of r)) r.length && same_list r.table (filled max_bytes (bytes_of r))))
  unfolding sound sound_on
  sound_is =
      regroup (common_sound (bytes_of r) r.workers r.quota r.next r.status r.amounts r.worker r.busy r.held r.highest)
      (listed (table_in r) r.next r.status (list_in r)) (eqb (length (bytes_of r)) r.length) (same_list r.table (filled max_bytes (bytes_of r)))
      (same_links (links_in r) (laid (list_in r))) (ltb r.turns 18446744073709551615)

  pub blank_is : is_blank r
      ≡ (same_list r.table (replicate max_bytes 0)
      && (eqb r.length 0
      && blank_on r.workers r.quota r.next r.status r.amounts (links_in r) r.worker r.busy r.held r.highest r.turns))
  unfolding is_blank blank_on blank
  blank_is = refl
