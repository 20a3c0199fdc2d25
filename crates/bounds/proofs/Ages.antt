-- The rule with b as an age: along a row that keeps it, no worker's latest turn is more than b·(p − 1) turns of others ago.
use mathlib.Core.Path.{◌≡◌, refl, sym, ◌∙◌}
use Prim.Native.Nat.{ℕ, zero, suc, ◌+◌, ◌-◌, ◌*◌, ◌≤◌, ◌<◌}
use mathlib.Core.List.{List, [], ◌∷◌, ◌++◌, append_assoc, reverse, reverse_aux, reverse_aux-eq}
use mathlib.Core.List.Memᴰ
use mathlib.Core.List.{Memᴰ}
use mathlib.Core.Logic.{◌⊎◌, inl, inr}
use native.Mathlib.Decide.{ℕ_discrete}
use native.Mathlib.Nat.{mul-suc}
use native.Mathlib.Omega.{arith}
use lib.ListN.{length}
use lib.Dec.{eqb}
use borrow.Author.Tests.{eq-eqb, ne_eqb}
use Rattle.table.specs.Sum.{pick, sum_to}
use Rattle.table.proofs.Sums.{sum_to_one}
use Rattle.order.proofs.Totals.{sum_to_bound}
use Rattle.schedule.specs.Memory.{count_in, Keeps}
pub use Rattle.schedule.proofs.Occurrences.{count_in_append, count_in_own, count_in_other, count_in_length}

-- the number of turns since the latest turn of w, of a row with the latest turn first; where w has had none, of all of them
unfoldable pub age : List ℕ → ℕ → ℕ
age [] w = 0
age (v ∷ past) w = pick (eqb v w) 0 (suc (age past w))

pub age_own : (past : List ℕ) (w : ℕ) → age (w ∷ past) w ≡ 0
unfolding age
age_own past w = rw (eq-eqb w w refl)

pub age_other : (past : List ℕ) (v w : ℕ) → (v ≡ w → ⊥) → age (v ∷ past) w ≡ suc (age past w)
unfolding age
age_other past v w d = rw (ne_eqb v w d)

-- ---- the length of a stretch from its turns of each worker

pub count_in_nil : (v : ℕ) → count_in v [] ≡ 0
unfolding count_in
count_in_nil v = refl

length_counts : (p : ℕ) (l : List ℕ) → ((w : ℕ) → Memᴰ w l → w < p) → length l ≤ sum_to (λ v. count_in v l) p
length_counts p [] h = omega arith
length_counts p (w ∷ l) h =
    let ih : length l ≤ sum_to (λ v. count_in v l) p = length_counts p l (λ v m. h v (Memᴰ.tail m)) in
    omega (arith, count_in_own w l, sum_to_one (λ v. count_in v (w ∷ l)) (λ v. count_in v l) w p (h w (Memᴰ.head refl)) (λ v i d. count_in_other v w l (λ e. d (sym e))))

-- p numbers of at most b, of which one is 0
sum_to_but : (f : ℕ → ℕ) (b p w : ℕ) → w < p → f w ≡ 0 → ((v : ℕ) → f v ≤ b) → sum_to f p + b ≤ b * p
unfolding sum_to
sum_to_but f b zero w i z h = absurd (omega arith)
sum_to_but f b (suc p) w i z h = go (ℕ_discrete w p) (λ k. sum_to_but f b p w k z h)
  where
    go : Dec (w ≡ p) → (w < p → sum_to f p + b ≤ b * p) → sum_to f p + f p + b ≤ b * suc p
    go (yes e) ih =
        let q : f p ≡ 0 = rw (← e) z in
        omega (arith, sum_to_bound f b p (λ v i. h v), mul-suc b p)
    go (no d) ih = omega (arith, ih (omega (arith, d)), h p, mul-suc b p)

stretch_short : (b p w : ℕ) (l : List ℕ) → w < p → ((v : ℕ) → Memᴰ v l → v < p) → count_in w l ≡ 0 → ((v : ℕ) → count_in v l ≤ b) → length l ≤ b * (p - 1)
stretch_short b p w l i h z k =
    let e : suc (p - 1) ≡ p = omega arith in
    let q : b * p ≡ b * (p - 1) + b = rw e at (mul-suc b (p - 1)) in
    omega (arith, length_counts p l h, sum_to_but (λ v. count_in v l) b p w i z k)

-- ---- ages

-- A row that keeps the rule with b, its front part `past` written with the latest turn first: a worker with a turn in the front part had its latest at most b·(p − 1) turns ago.
module _ (b p : ℕ) (row : List ℕ) (below : (w : ℕ) → Memᴰ w row → w < p) (keeps : Keeps b row) where
  age_from : (w : ℕ) (past stretch rest : List ℕ) → reverse_aux past (stretch ++ rest) ≡ row → count_in w stretch ≡ 0 → Memᴰ w past
      → age past w + length stretch ≤ b * (p - 1)
  unfolding Keeps
  age_from w [] stretch rest e z m = absurd (Memᴰ.not-nil m)
  age_from w (v ∷ past) stretch rest e z m = go (ℕ_discrete v w) (λ q k. age_from w past (v ∷ stretch) rest e q k)
    where
      split : row ≡ reverse past ++ v ∷ stretch ++ rest
      split = sym e ∙ reverse_aux-eq past (v ∷ stretch ++ rest) ∙ sym (append_assoc (reverse past) (v ∷ stretch) rest)

      inside : (u : ℕ) → Memᴰ u (v ∷ stretch) → u < p
      inside u k = below u (rw split (Memᴰ.append_left rest (Memᴰ.append_right (reverse past) k)))

      earlier : (v ≡ w → ⊥) → (w ≡ v) ⊎ Memᴰ w past → Memᴰ w past
      earlier d (inl q) = absurd (d (sym q))
      earlier d (inr k) = k

      go : Dec (v ≡ w) → (count_in w (v ∷ stretch) ≡ 0 → Memᴰ w past → age past w + length (v ∷ stretch) ≤ b * (p - 1))
          → age (v ∷ past) w + length stretch ≤ b * (p - 1)
      go (yes d) ih =
          let none : count_in v stretch ≡ 0 = rw d z in
          let o : age (v ∷ past) w ≡ 0 = rw d (age_own past w) in
          let short : length stretch ≤ b * (p - 1) =
          stretch_short b p v stretch (inside v (Memᴰ.head refl)) (λ u k. inside u (Memᴰ.tail k)) none (λ u. keeps (reverse past) stretch rest v u split none) in
          omega arith
      go (no d) ih =
          let ih' : age past w + length (v ∷ stretch) ≤ b * (p - 1) = ih (cc (count_in_other w v stretch d)) (earlier d (Memᴰ.cases_cons m)) in
          omega (arith, age_other past v w d)

  pub age_small : (past rest : List ℕ) → reverse_aux past rest ≡ row → (w : ℕ) → Memᴰ w past → age past w ≤ b * (p - 1)
  unfolding count_in
  age_small past rest e w m = omega (arith, age_from w past [] rest e refl m)

-- ---- one worker alone

-- it keeps the rule whatever b is: there is no other worker
pub keeps_alone : (row : List ℕ) → ((w : ℕ) → Memᴰ w row → w < 1) → Keeps 0 row
unfolding Keeps sum_to
keeps_alone row below front stretch rest w v e z =
    let inside : (u : ℕ) → Memᴰ u (w ∷ stretch) → u < 1 = λ u m. below u (rw e (Memᴰ.append_left rest (Memᴰ.append_right front m))) in
    let w_0 : w ≡ 0 = omega (arith, inside w (Memᴰ.head refl)) in
    let none : count_in 0 stretch ≡ 0 = rw w_0 at z in
    omega (arith, count_in_length v stretch, length_counts 1 stretch (λ u m. inside u (Memᴰ.tail m)))
