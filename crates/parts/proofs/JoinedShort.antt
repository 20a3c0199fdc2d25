-- What is joined has arguments of 24 bits.
use Prim.Native.Nat.{ℕ, zero, suc, ◌+◌, ◌≤◌, ◌<◌}
use native.Mathlib.Omega.{arith}
use mathlib.Core.Path.{◌≡◌}
use mathlib.Core.List.{List, [], ◌∷◌, ◌++◌, map, flatten}
use lib.ListN.{length}
use Rattle.table.specs.Format.{Table}
use Rattle.table.specs.Rules.{ContentRules, BodyRules}
use Rattle.table.specs.Written.{body_in}
use Rattle.parts.specs.Copies.{renamed_action}
use Rattle.parts.specs.Kept.{Keeps}
use Rattle.parts.specs.Joined.{bodies_from, bodies_in, offsets, forks, joins_back, root_body, part_bodies, joined_bodies}
use Rattle.parts.proofs.Built.{flatten_append}
use Rattle.parts.proofs.Short.{Short, ShortActions, short_append, body_short}
use Rattle.parts.proofs.BodiesIn.{bodied_in}

bodies_short : (T : Table) → ContentRules T → BodyRules T → Short T → (f : ℕ → ℕ) → ((t : ℕ) → t < T.threads → f t < 16777216) → (k t : ℕ) → t + k ≤ T.threads
    → ShortActions (flatten (map (map (renamed_action f)) (bodies_from T t k)))
unfolding ShortActions bodies_from flatten
bodies_short T c b s f g zero t h = tt
bodies_short T c b s f g (suc k) t h =
    short_append (map (renamed_action f) (body_in T t)) (flatten (map (map (renamed_action f)) (bodies_from T (suc t) k))) (body_short T c b s f g t (omega arith)) (bodies_short T c b s f g k (suc t) (omega arith))

-- tables that all keep the rules
unfoldable pub AllKeep : List Table → Type 0
AllKeep [] = Unit {0}
AllKeep (T ∷ Ts) = Keeps T × Short T × AllKeep Ts

unfoldable pub all_threads : List Table → ℕ
all_threads [] = 0
all_threads (T ∷ Ts) = T.threads + all_threads Ts

parts_short : (Ts : List Table) (o : ℕ) → AllKeep Ts → o + all_threads Ts ≤ 65536 → ShortActions (flatten (part_bodies o (map bodies_in Ts)))
unfolding ShortActions AllKeep all_threads part_bodies flatten
parts_short [] o p h = tt
parts_short (T ∷ Ts) o p h =
    let n : length (bodies_in T) ≡ T.threads = (bodied_in T).size in
    let r = p.0 in
    rw (flatten_append (map (map (renamed_action (λ x. o + x))) (bodies_in T)) (part_bodies (o + length (bodies_in T)) (map bodies_in Ts)))
    (short_append (flatten (map (map (renamed_action (λ x. o + x))) (bodies_in T))) (flatten (part_bodies (o + length (bodies_in T)) (map bodies_in Ts)))
    (bodies_short T r.contents r.bodies p.1 (λ x. o + x) (λ t q. omega arith) T.threads 0 (omega arith))
    (rw n (parts_short Ts (o + T.threads) p.2 (omega arith))))

forks_short : (Ts : List Table) (o : ℕ) → o + all_threads Ts ≤ 65536 → ShortActions (forks (offsets o (map bodies_in Ts)))
unfolding ShortActions all_threads offsets forks
forks_short [] o h = tt
forks_short (T ∷ Ts) o h =
    let n : length (bodies_in T) ≡ T.threads = (bodied_in T).size in
    (omega arith, rw n (forks_short Ts (o + T.threads) (omega arith)))

joins_short : (Ts : List Table) (o : ℕ) → o + all_threads Ts ≤ 65536 → ShortActions (joins_back (offsets o (map bodies_in Ts)))
unfolding ShortActions all_threads offsets joins_back
joins_short [] o h = tt
joins_short (T ∷ Ts) o h =
    let n : length (bodies_in T) ≡ T.threads = (bodied_in T).size in
    short_append (joins_back (offsets (o + length (bodies_in T)) (map bodies_in Ts))) (record { code = 5; argument = o } ∷ []) (rw n (joins_short Ts (o + T.threads) (omega arith))) (omega arith, tt)

pub joined_short : (Ts : List Table) → AllKeep Ts → 1 + all_threads Ts ≤ 65536 → ShortActions (flatten (joined_bodies (map bodies_in Ts)))
unfolding ShortActions joined_bodies flatten
joined_short Ts p h =
    short_append (root_body (offsets 1 (map bodies_in Ts))) (flatten (part_bodies 1 (map bodies_in Ts)))
    (short_append (forks (offsets 1 (map bodies_in Ts))) (joins_back (offsets 1 (map bodies_in Ts)) ++ (record { code = 0; argument = 0 } ∷ [])) (forks_short Ts 1 h)
    (short_append (joins_back (offsets 1 (map bodies_in Ts))) (record { code = 0; argument = 0 } ∷ []) (joins_short Ts 1 h) (omega arith, tt)))
    (parts_short Ts 1 p h)
