-- Where the parts' bodies stand among the joined ones.
use Prim.Native.Nat.{ℕ, zero, suc, ◌+◌, ◌<◌}
use native.Mathlib.Omega.{arith}
use mathlib.Core.Path.{◌≡◌, refl, ap, ◌∙◌}
use mathlib.Core.List.{List, [], ◌∷◌, map}
use lib.ListN.{length, get_or, get_or-append}
use lib.Seq.{get_or-append-add}
use Rattle.table.specs.Written.{Action}
use Rattle.parts.specs.Copies.{renamed_action}
use Rattle.parts.specs.Joined.{part_bodies}

-- the threads of the first i parts
unfoldable pub threads_before : ℕ → List (List (List Action)) → ℕ
threads_before zero bss = 0
threads_before (suc i) [] = 0
threads_before (suc i) (bs ∷ bss) = length bs + threads_before i bss

pub map_length : (f : List Action → List Action) (l : List (List Action)) → length (map f l) ≡ length l
map_length f [] = refl
map_length f (x ∷ l) = ap suc (map_length f l)

pub map_at : (f : List Action → List Action) (l : List (List Action)) (t : ℕ) → t < length l → get_or (map f l) t [] ≡ f (get_or l t [])
map_at f [] t h = absurd (omega arith)
map_at f (x ∷ l) zero h = refl
map_at f (x ∷ l) (suc t) h = map_at f l t (omega arith)

pub part_at : (bss : List (List (List Action))) (o i t : ℕ) → i < length bss → t < length (get_or bss i [])
    → get_or (part_bodies o bss) (threads_before i bss + t) [] ≡ map (renamed_action (λ x. o + threads_before i bss + x)) (get_or (get_or bss i []) t [])
unfolding part_bodies threads_before
part_at [] o i t h k = absurd (omega arith)
part_at (bs ∷ bss) o zero t h k =
    let z : 0 + t ≡ t = omega arith in
    let w : o + 0 ≡ o = omega arith in
    let s : List Action → List Action = map (renamed_action (λ x. o + x)) in
    rw (z, w) (get_or-append (map s bs) (part_bodies (o + length bs) bss) [] t (omega (arith, map_length s bs)) ∙ map_at s bs t k)
part_at (bs ∷ bss) o (suc i) t h k =
    let s : List Action → List Action = map (renamed_action (λ x. o + x)) in
    let z : length bs + threads_before i bss + t ≡ length (map s bs) + (threads_before i bss + t) = omega (arith, map_length s bs) in
    let w : o + (length bs + threads_before i bss) ≡ o + length bs + threads_before i bss = omega arith in
    rw (z, w, get_or-append-add (map s bs) (part_bodies (o + length bs) bss) (threads_before i bss + t) []) (part_at bss (o + length bs) i t (omega arith) k)
