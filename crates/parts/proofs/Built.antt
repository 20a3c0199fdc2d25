-- From what is written to what the laws ask: contents without gap, and copies of tables.
use Prim.Native.Nat.{ℕ, zero, suc, ◌+◌, ◌≤◌, ◌<◌}
use native.Mathlib.Omega.{arith}
use mathlib.Core.Path.{◌≡◌, refl, sym, ap, ◌∙◌}
use mathlib.Core.List.{List, [], ◌∷◌, ◌++◌, map, flatten, append-nil}
use borrow.Author.Tests.{eq-eqb, ne_eqb}
use lib.ListN.{length, get_or, take, length-append}
use lib.Seq.{take-suc, take-length}
use Rattle.table.specs.Sum.{sum_to}
use Rattle.table.specs.Format.{Table}
use Rattle.table.specs.Checks.{entry_wrong, total_wrong, counts_below}
use Rattle.table.specs.Rules.{ContentRules}
use Rattle.table.specs.Written.{Action, action_at, actions_from, body_in}
use Rattle.parts.specs.Copies.{Copies, renamed_action}
use Rattle.table.proofs.ReadBack.{Reads, none, body_at}

pub flatten_append : (l r : List (List Action)) → flatten (l ++ r) ≡ flatten l ++ flatten r
unfolding flatten
flatten_append [] r = refl
flatten_append (b ∷ l) r = rw (flatten_append l r) (sym (mathlib.Core.List.append_assoc b (flatten l) (flatten r)))

-- the actions before thread t + 1 are those before thread t and its own
before_next : (bs : List (List Action)) (t : ℕ) → t < length bs → length (flatten (take (suc t) bs)) ≡ length (flatten (take t bs)) + length (get_or bs t [])
unfolding flatten
before_next bs t h =
    rw (take-suc bs t [] h, flatten_append (take t bs) (get_or bs t [] ∷ []), append-nil (get_or bs t []), length-append (flatten (take t bs)) (get_or bs t []))

module _ (U : Table) (bs : List (List Action)) (r : Reads U bs) where
  counts_are : (t : ℕ) → t ≤ length bs → counts_below U t ≡ length (flatten (take t bs))
  unfolding sum_to flatten
  counts_are zero h = refl
  counts_are (suc t) h = omega (arith, counts_are t (omega arith), r.counts t (omega arith), before_next bs t (omega arith))

  pub built_contents : ((t : ℕ) → t < length bs → 0 < length (get_or bs t [])) → ContentRules U
  unfolding entry_wrong total_wrong
  built_contents some =
      record {
        entries = λ t h.
            let l : t < length bs = omega (arith, r.threads) in
            let e : U.first t ≡ counts_below U t = omega (arith, r.firsts t l, counts_are t (omega arith)) in
            let z : U.count t ≡ 0 → ⊥ = λ q. absurd (omega (arith, r.counts t l, some t l)) in
            rw (eq-eqb (U.first t) (counts_below U t) e, ne_eqb (U.count t) 0 z);
        total =
            let a : counts_below U U.threads ≡ U.actions = rw r.threads (counts_are (length bs) (omega arith) ∙ rw (take-length bs) (sym r.actions)) in
            rw (eq-eqb (counts_below U U.threads) U.actions a);
      }

pub body_inside : (bs : List (List Action)) (t i : ℕ) → t < length bs → i < length (get_or bs t []) → length (flatten (take t bs)) + i < length (flatten bs)
unfolding flatten
body_inside [] t i h k = absurd (omega arith)
body_inside (b ∷ bs) zero i h k = omega (arith, length-append b (flatten bs))
body_inside (b ∷ bs) (suc t) i h k =
    omega (arith, length-append b (flatten (take t bs)), length-append b (flatten bs), body_inside bs t i (omega arith) k)

pub from_length : (T : Table) (a k : ℕ) → length (actions_from T a k) ≡ k
unfolding actions_from
from_length T a zero = refl
from_length T a (suc k) = ap suc (from_length T (suc a) k)

from_at : (T : Table) (f : ℕ → ℕ) (a k i : ℕ) → i < k → get_or (map (renamed_action f) (actions_from T a k)) i none ≡ renamed_action f (action_at T (a + i))
unfolding actions_from
from_at T f a zero i h = absurd (omega arith)
from_at T f a (suc k) zero h = let z : a + 0 ≡ a = omega arith in rw z
from_at T f a (suc k) (suc i) h = let z : a + suc i ≡ suc a + i = omega arith in rw z (from_at T f (suc a) k i (omega arith))

pub map_length : (f : Action → Action) (l : List Action) → length (map f l) ≡ length l
map_length f [] = refl
map_length f (x ∷ l) = ap suc (map_length f l)

-- a table whose bodies stand among those written is copied
pub record Placed (T : Table) (bs : List (List Action)) (f : ℕ → ℕ) : Type 0 where
  pub within : (t : ℕ) → t < T.threads → f t < length bs
  pub apart : (t u : ℕ) → t < T.threads → u < T.threads → f t ≡ f u → t ≡ u
  pub bodies : (t : ℕ) → t < T.threads → get_or bs (f t) [] ≡ map (renamed_action f) (body_in T t)

module _ (T U : Table) (bs : List (List Action)) (r : Reads U bs) (f : ℕ → ℕ) (p : Placed T bs f) where
  size : (t : ℕ) → t < T.threads → length (get_or bs (f t) []) ≡ T.count t
  size t h = rw (p.bodies t h, map_length (renamed_action f) (body_in T t)) (from_length T (T.first t) (T.count t))

  there : (t i : ℕ) → t < T.threads → i < T.count t → get_or (flatten bs) (U.first (f t) + i) none ≡ renamed_action f (action_at T (T.first t + i))
  there t i h k =
      rw (r.firsts (f t) (p.within t h), body_at bs (f t) i (p.within t h) (omega (arith, size t h)), p.bodies t h)
      (from_at T f (T.first t) (T.count t) i k)

  inside : (t i : ℕ) → t < T.threads → i < T.count t → U.first (f t) + i < length (flatten bs)
  inside t i h k = rw (r.firsts (f t) (p.within t h)) (body_inside bs (f t) i (p.within t h) (omega (arith, size t h)))

  pub placed_copies : Copies T U f
  placed_copies =
      record {
        within = λ t h. omega (arith, r.threads, p.within t h);
        apart = p.apart;
        counts = λ t h. omega (arith, r.counts (f t) (p.within t h), size t h);
        codes = λ t i h k. r.codes (U.first (f t) + i) (inside t i h k) ∙ ap (λ (x : Action). x.code) (there t i h k);
        arguments = λ t i h k. r.arguments (U.first (f t) + i) (inside t i h k) ∙ ap (λ (x : Action). x.argument) (there t i h k);
      }
