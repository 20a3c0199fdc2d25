-- When there is room for the filled-out table: always in 36,868 bytes, and with nothing above the quota in none at all.
use Rattle.std.specs.Prelude.{Err, Ok, Result, ⊤}
use Rattle.table.specs.declared.Refusal.{Refusal}
use mathlib.Core.Path.{◌≡◌, refl}
use Prim.Native.Nat.{ℕ, ◌≤◌, ◌<◌}
use native.Mathlib.Omega.{arith}
use mathlib.Core.List.{List, []}
use mathlib.Core.Bool.{Bool, true, false, ◌&&◌}
use borrow.Author.Tests.{le-ltb, ltb-true}
use lib.ListN.{length}
use lib.Dec.{ltb, leb}
use Rattle.table.specs.Sum.{pick, any_below}
use Rattle.table.specs.Format.{table_of}
use Rattle.table.specs.Checks.{alloc_of}
use Rattle.table.proofs.Nesting.{any_below_true}
use Rattle.order.specs.Words.{is_nothing}
use Rattle.filling.specs.Filled.{big, filled_out}
use Rattle.filling.specs.Filling.{fill_found, filled_into}
use Rattle.soundness.specs.Tested.{begin_found, begin_filling, begun_into}
use Rattle.soundness.proofs.Fillings.{sized}
use Rattle.wivakkol.specs.Lent.{start_memory, lent_begun_as, lent_begin}

and-false : (b : Bool) → (b && false) ≡ false
and-false true = refl
and-false false = refl

module _ (s : List ℕ) (p K : ℕ) where
  -- the bytes of the filled-out table are at most those of the longest table
  few_bytes : (begin_filling s p K).bytes ≤ 36868
  unfolding begin_filling
  few_bytes = go (begin_found s p K) refl (any_below (big (table_of s) K) (table_of s).actions)
    where
      go : (f : Result ⊤ Refusal) → begin_found s p K ≡ f → (b : Bool) → pick (is_nothing f && b) (length (filled_out s K)) 0 ≤ 36868
      go (Err x) e b = omega arith
      go (Ok _) e false = omega arith
      go (Ok _) e true = (sized s p K [] (begin_filling s p K) refl e).1

  found_is : (begin_filling s p K).found ≡ begin_found s p K
  unfolding begin_filling
  found_is = refl

  -- With 36,868 bytes of room 61 never comes: the call is the request's beginning.
  pub ample_room : (room : ℕ) → 36868 ≤ room
      → lent_begin s p K room ≡ lent_begun_as (begin_found s p K) false (begin_filling s p K).bytes (start_memory (filled_out s K) p K)
  unfolding lent_begin
  ample_room room h = rw (le-ltb room (begin_filling s p K).bytes (omega (arith, few_bytes)), found_is)

  module _ (small : (a : ℕ) → a < (table_of s).actions → alloc_of (table_of s) a ≤ K) where
    none_big : any_below (big (table_of s) K) (table_of s).actions ≡ false
    unfolding big
    none_big = go (any_below (big (table_of s) K) (table_of s).actions) refl
      where
        go : (b : Bool) → any_below (big (table_of s) K) (table_of s).actions ≡ b → b ≡ false
        go true e =
            let (a, w, q) = any_below_true (big (table_of s) K) (table_of s).actions e in
            absurd (omega (arith, ltb-true K (alloc_of (table_of s) a) q, small a w))
        go false e = refl

    pub no_bytes : (begin_filling s p K).bytes ≡ 0
    unfolding begin_filling
    no_bytes = rw (none_big, and-false (is_nothing (begin_found s p K)))

    -- With nothing above the quota the room is not looked at,
    pub any_room : (room : ℕ) → lent_begin s p K room ≡ lent_begin s p K 0
    unfolding lent_begin
    any_room room = rw (no_bytes, le-ltb room 0 (omega arith))

    -- and the buffer is as it was.
    pub buffer_kept : (out : List ℕ) → begun_into s p K out ≡ out
    unfolding filled_into
    buffer_kept out = rw (none_big, and-false (is_nothing (fill_found s K))) (go (is_nothing (begin_found s p K)))
      where
        go : (b : Bool) → pick b out out ≡ out
        go true = refl
        go false = refl
