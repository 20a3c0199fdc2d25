-- The bodies that a table has.
use Prim.Native.Nat.{ℕ, zero, suc, ◌+◌, ◌<◌}
use native.Mathlib.Omega.{arith}
use mathlib.Core.Path.{◌≡◌, refl, ap}
use mathlib.Core.List.{[], flatten}
use lib.ListN.{length, get_or, length-append}
use Rattle.table.specs.Sum.{sum_to}
use Rattle.table.specs.Format.{Table}
use Rattle.table.specs.Checks.{counts_below}
use Rattle.table.specs.Rules.{ContentRules}
use Rattle.table.specs.Written.{body_in}
use Rattle.table.proofs.Bodies.{counts_all}
use Rattle.parts.specs.Joined.{bodies_from, bodies_in}
use Rattle.parts.proofs.Built.{from_length}
use Rattle.parts.proofs.JoinBodies.{Bodied}

pub from_size : (T : Table) (t k : ℕ) → length (bodies_from T t k) ≡ k
unfolding bodies_from
from_size T t zero = refl
from_size T t (suc k) = ap suc (from_size T (suc t) k)

from_body : (T : Table) (t k i : ℕ) → i < k → get_or (bodies_from T t k) i [] ≡ body_in T (t + i)
unfolding bodies_from
from_body T t zero i h = absurd (omega arith)
from_body T t (suc k) zero h = let z : t + 0 ≡ t = omega arith in rw z
from_body T t (suc k) (suc i) h = let z : t + suc i ≡ suc t + i = omega arith in rw z (from_body T (suc t) k i (omega arith))

pub bodied_in : (T : Table) → Bodied T (bodies_in T)
bodied_in T = record { size = from_size T 0 T.threads; body = λ t h. let z : 0 + t ≡ t = omega arith in rw z at (from_body T 0 T.threads t h) }

from_actions : (T : Table) (k t : ℕ) → length (flatten (bodies_from T t k)) + counts_below T t ≡ counts_below T (t + k)
unfolding bodies_from flatten sum_to
from_actions T zero t = let z : t + 0 ≡ t = omega arith in rw z (omega arith)
from_actions T (suc k) t =
    let z : t + suc k ≡ suc t + k = omega arith in
    rw z (omega (arith, length-append (body_in T t) (flatten (bodies_from T (suc t) k)), from_length T (T.first t) (T.count t), from_actions T k (suc t)))

pub actions_in_lem : (T : Table) → ContentRules T → length (flatten (bodies_in T)) ≡ T.actions
unfolding sum_to
actions_in_lem T c = let z : 0 + T.threads ≡ T.threads = omega arith in omega (arith, rw z at (from_actions T T.threads 0), counts_all T c)
