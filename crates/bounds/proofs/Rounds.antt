-- Rounds keep the rule with 1: in p turns running each of the p workers has one, so that a stretch without a turn of one of them is shorter, and has one turn of another at most. That is said
-- of one run: short runs one after the other, each from worker 0, break the rule with every b.
use mathlib.Core.Path.{◌≡◌, refl, sym, ap, ◌∙◌}
use Prim.Native.Nat.{ℕ, zero, suc, ◌+◌, ◌-◌, ◌%◌, ◌≤◌, ◌<◌}
use native.Mathlib.Omega.{arith}
use native.Mathlib.Nat.{mod-lt, mod-eq_of_lt, add-mod_right}
use native.Mathlib.Decide.{ℕ_discrete, dec_lt, dec_le}
use mathlib.Core.List.{List, [], ◌∷◌, ◌++◌, append_assoc, append-nil}
use mathlib.Core.Bool.{Bool, true, false}
use lib.ListN.{length}
use lib.Dec.{ltb}
use borrow.Author.Tests.{lt-ltb, le-ltb}
use Rattle.table.specs.Sum.{pick}
use Rattle.schedule.specs.Memory.{count_in, Keeps}
use Rattle.order.specs.Firsts.{firsts}
use Rattle.order.proofs.Lists.{firsts_length}
use Rattle.bounds.proofs.Ages.{count_in_nil, count_in_append, count_in_own, count_in_other}

-- ---- a function's values, in parts

firsts_append : (f : ℕ → ℕ) (t n m : ℕ) → firsts f t (n + m) ≡ firsts f t n ++ firsts f (t + n) m
unfolding firsts
firsts_append f t zero m = let e : 0 + m ≡ m = omega arith in let d : t + 0 ≡ t = omega arith in rw (e, d)
firsts_append f t (suc n) m =
    let e : suc n + m ≡ suc (n + m) = omega arith in
    let d : t + suc n ≡ suc t + n = omega arith in
    rw (e, d, firsts_append f (suc t) n m)

-- a row that is put together of two is the two parts of it
firsts_parts : (f : ℕ → ℕ) (t k : ℕ) (a c : List ℕ) → firsts f t k ≡ a ++ c → (a ≡ firsts f t (length a)) × (c ≡ firsts f (t + length a) (length c))
unfolding firsts
firsts_parts f t k [] c e =
    let n : length c ≡ k = sym (ap length e) ∙ firsts_length f t k in
    let z : t + 0 ≡ t = omega arith in
    (refl, rw (n, z) (sym e))
firsts_parts f t zero (x ∷ a) c e = absurd (omega (arith, ap length e))
firsts_parts f t (suc k) (x ∷ a) c e =
    let h : f t ≡ x = cc in
    let r = firsts_parts f (suc t) k a c (cc) in
    let z : t + suc (length a) ≡ suc t + length a = omega arith in
    (rw (h, ← r.0), rw z r.1)

-- ---- p turns running

module _ (p : ℕ) (some : 1 ≤ p) (v : ℕ) where
  abbrev who : ℕ → ℕ
  who i = i % p

  -- of the first m numbers, as far as p, v is one where it is below m
  first_round : (m : ℕ) → m ≤ p → count_in v (firsts who 0 m) ≡ pick (ltb v m) 1 0
  unfolding count_in firsts
  first_round zero h = rw (le-ltb v 0 (omega arith))
  first_round (suc m) h =
      let e : m + 1 ≡ suc m = omega arith in
      let z : 0 + m ≡ m = omega arith in
      let w : (0 + m) % p ≡ m = rw z (mod-eq_of_lt (omega arith)) in
      let c : count_in v (firsts who 0 (m + 1)) ≡ pick (ltb v m) 1 0 + count_in v (m ∷ []) =
      ap (count_in v) (firsts_append who 0 m 1) ∙ count_in_append v (firsts who 0 m) (firsts who (0 + m) 1) ∙ rw (first_round m (omega arith), w) in
      ap (λ (n : ℕ). count_in v (firsts who 0 n)) (sym e) ∙ c ∙ by_place (ℕ_discrete m v) (dec_lt v m)
    where
      by_place : Dec (m ≡ v) → Dec (v < m) → pick (ltb v m) 1 0 + count_in v (m ∷ []) ≡ pick (ltb v (suc m)) 1 0
      by_place (yes e) d = rw (le-ltb v m (omega arith), lt-ltb v (suc m) (omega arith)) (let c : count_in v (m ∷ []) ≡ 1 + count_in v [] = rw e (count_in_own v []) in omega (arith, count_in_nil v))
      by_place (no n) (yes d) = rw (lt-ltb v m d, lt-ltb v (suc m) (omega arith), count_in_other v m [] n) (omega (arith, count_in_nil v))
      by_place (no n) (no d) = rw (le-ltb v m (omega arith), le-ltb v (suc m) (omega arith), count_in_other v m [] n) (omega (arith, count_in_nil v))

  -- wherever the p turns begin, v is one of them where it is below p, and once
  a_round : (t : ℕ) → count_in v (firsts who t p) ≡ pick (ltb v p) 1 0
  unfolding firsts
  a_round zero = first_round p (omega arith)
  a_round (suc t) =
      let e : p + 1 ≡ suc p = omega arith in
      let same : who (t + p) ≡ who t = add-mod_right t p in
      let two : count_in v (firsts who t (p + 1)) ≡ count_in v (firsts who t p) + count_in v (who t ∷ []) =
      ap (count_in v) (firsts_append who t p 1) ∙ count_in_append v (firsts who t p) (firsts who (t + p) 1) ∙ one same in
      let one : count_in v (firsts who t (p + 1)) ≡ count_in v (who t ∷ firsts who (suc t) p) = rw e (next t p) in
      omega (arith, a_round t, count_in_append v (who t ∷ []) (firsts who (suc t) p))
    where
      one : who (t + p) ≡ who t → count_in v (firsts who t p) + count_in v (firsts who (t + p) 1) ≡ count_in v (firsts who t p) + count_in v (who t ∷ [])
      one same = ap (λ (n : ℕ). count_in v (firsts who t p) + count_in v (n ∷ [])) same

      next : (t p : ℕ) → count_in v (firsts who t (suc p)) ≡ count_in v (who t ∷ firsts who (suc t) p)
      next t p = refl

  pub round_once : (t : ℕ) → count_in v (firsts who t p) ≤ 1
  round_once t = at (ltb v p) (a_round t)
    where
      at : (q : Bool) → count_in v (firsts who t p) ≡ pick q 1 0 → count_in v (firsts who t p) ≤ 1
      at true e = omega arith
      at false e = omega arith

  pub round_has : (t : ℕ) → v < p → count_in v (firsts who t p) ≡ 1
  round_has t h = a_round t ∙ rw (lt-ltb v p h)

-- ---- rounds

pub rounds_keep : (p : ℕ) → 1 ≤ p → (k : ℕ) → Keeps 1 (firsts (λ i. i % p) 0 k)
unfolding Keeps firsts
rounds_keep p some k front stretch rest w v e z =
    let r = firsts_parts (λ i. i % p) 0 k front (w ∷ (stretch ++ rest)) (e ∙ append_assoc front (w ∷ stretch) rest) in
    let h : w ≡ (0 + length front) % p = cc r.1 in
    let tail : stretch ++ rest ≡ firsts (λ i. i % p) (suc (0 + length front)) (length (stretch ++ rest)) = cc r.1 in
    let s : stretch ≡ firsts (λ i. i % p) (suc (0 + length front)) (length stretch) =
    (firsts_parts (λ i. i % p) (suc (0 + length front)) (length (stretch ++ rest)) stretch rest (sym tail)).0 in
    go (suc (0 + length front)) (length stretch) (rw h (mod-lt (0 + length front) some)) s (dec_le p (length stretch))
  where
    go : (t m : ℕ) → w < p → stretch ≡ firsts (λ i. i % p) t m → Dec (p ≤ m) → count_in v stretch ≤ 1
    go t m below s (yes d) =
        let n : p + (m - p) ≡ m = omega arith in
        let whole : stretch ≡ firsts (λ i. i % p) t p ++ firsts (λ i. i % p) (t + p) (m - p) = s ∙ ap (firsts (λ i. i % p) t) (sym n) ∙ firsts_append (λ i. i % p) t p (m - p) in
        absurd (omega (arith, ap (count_in w) whole, count_in_append w (firsts (λ i. i % p) t p) (firsts (λ i. i % p) (t + p) (m - p)), round_has p some w t below))
    go t m below s (no d) =
        let n : m + (p - m) ≡ p = omega arith in
        let whole : firsts (λ i. i % p) t p ≡ stretch ++ firsts (λ i. i % p) (t + m) (p - m) =
        ap (firsts (λ i. i % p) t) (sym n) ∙ firsts_append (λ i. i % p) t m (p - m) ∙ ap (λ (l : List ℕ). l ++ firsts (λ i. i % p) (t + m) (p - m)) (sym s) in
        omega (arith, ap (count_in v) whole, count_in_append v stretch (firsts (λ i. i % p) (t + m) (p - m)), round_once p some v t)

-- ---- rounds again and again

-- n runs in rounds of one turn each, laid end to end: each starts with worker 0
unfoldable pub short_runs : ℕ → ℕ → List ℕ
short_runs p zero = []
short_runs p (suc n) = firsts (λ i. i % p) 0 1 ++ short_runs p n

module _ (p : ℕ) (two : 2 ≤ p) where
  first_two : firsts (λ i. i % p) 0 2 ≡ 0 ∷ 1 ∷ []
  unfolding firsts
  first_two = rw (mod-eq_of_lt {n = 0} {m = p} (omega arith), mod-eq_of_lt {n = 1} {m = p} (omega arith))

  short_next : (n : ℕ) → short_runs p (suc n) ≡ 0 ∷ short_runs p n
  unfolding firsts short_runs
  short_next n = rw (mod-eq_of_lt {n = 0} {m = p} (omega arith))

  short_counts : (n : ℕ) → (count_in 0 (short_runs p n) ≡ n) × (count_in 1 (short_runs p n) ≡ 0)
  unfolding short_runs
  short_counts zero = (count_in_nil 0, count_in_nil 1)
  short_counts (suc n) = (
    ap (count_in 0) (short_next n) ∙ count_in_own 0 (short_runs p n) ∙ ap suc (short_counts n).0,
    ap (count_in 1) (short_next n) ∙ count_in_other 1 0 (short_runs p n) (λ e. omega arith) ∙ (short_counts n).1,
  )

  -- With two workers or more, a run of two turns and then b + 1 runs of one turn each do not keep the rule with b, whatever b is.
  pub short_rounds_break : (b : ℕ) → Keeps b (firsts (λ i. i % p) 0 2 ++ short_runs p (suc b)) → ⊥
  unfolding Keeps
  short_rounds_break b h =
      let c = short_counts (suc b) in
      let row : firsts (λ i. i % p) 0 2 ++ short_runs p (suc b) ≡ (0 ∷ []) ++ 1 ∷ short_runs p (suc b) ++ [] = rw (first_two, append-nil (short_runs p (suc b))) in
      omega (arith, h (0 ∷ []) (short_runs p (suc b)) [] 1 0 row c.1, c.0)
