-- The bit of a worker in the set of those that hold a thread.
use mathlib.Core.Path.{◌≡◌}
use Prim.Native.Nat.{ℕ, ◌*◌, ◌%◌, ◌^◌, ◌<◌}
use native.Mathlib.Omega.{arith}
use lib.Pow.{shl_exact}

pub bit_is : (w : ℕ) → w < 16 → (1 * 2 ^ w) % 65536 ≡ 2 ^ w
bit_is w h = let e : (1 * 2 ^ w) % 2 ^ 16 ≡ 1 * 2 ^ w = shl_exact 1 w 16 (omega arith) (omega arith) in omega arith

pub bit_small : (w : ℕ) → w < 16 → 2 ^ w < 65536
bit_small w h = let e : (1 * 2 ^ w) % 65536 ≡ 2 ^ w = bit_is w h in omega arith
