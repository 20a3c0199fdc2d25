-- What check 33 leaves of an input: an order of at most 4,096 workers, whole.
use mathlib.Core.Path.{◌≡◌}
use Prim.Native.Nat.{ℕ, ◌+◌, ◌≤◌}
use mathlib.Core.List.{List}
use mathlib.Core.Bool.{false, ◌||◌}
use borrow.Author.Tests.{ltb-false}
use lib.ListN.{length}
use lib.Dec.{ltb}
use Rattle.table.proofs.Tests.{or_neither}
use Rattle.listing.specs.Listing.{max_order, order_length, input_wrong}

pub right : (s : List ℕ) → input_wrong s ≡ false → (order_length s ≤ max_order) × (6 + order_length s ≤ length s)
unfolding input_wrong
right s h =
    let n : ℕ = order_length s in
    let k = or_neither (ltb max_order n) (ltb (length s) (6 + n)) (or_neither (ltb (length s) 6) (ltb max_order n || ltb (length s) (6 + n)) h).1 in
    (ltb-false max_order n k.0, ltb-false (length s) (6 + n) k.1)
