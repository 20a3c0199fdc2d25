-- The executable test of the rule with b is the rule; by it, document 01's listing of E keeps the rule with 1, and the row that outgrows the limit does not.
use mathlib.Core.Path.{◌≡◌, refl, sym, ap}
use mathlib.Core.Logic.{◌↔◌}
use Prim.Native.Nat.{ℕ, ◌+◌, ◌≤◌}
use native.Mathlib.Omega.{arith}
use native.Mathlib.Decide.{ℕ_discrete}
use mathlib.Core.List.{List, [], ◌∷◌, ◌++◌, Memᴰ}
use mathlib.Core.Bool.{Bool, true, false}
use lib.Dec.{leb, eqb}
use borrow.Author.Tests.{eqb-true}
use Rattle.table.specs.Sum.{pick}
use Rattle.table.proofs.Tests.{no_way}
use Rattle.order.specs.Words.{all_in}
use Rattle.schedule.specs.Memory.{count_in, Keeps}
use Rattle.schedule.specs.Cases.{order_e}
use Rattle.schedule.specs.Rule.{until_next, at_most, keeps, order_gap}
use Rattle.order.proofs.Words.{and_exactly, leb_exactly, all_in_exactly}

-- ---- counting

-- who has a turn in a stretch is in it
counted_in : (v : ℕ) (l : List ℕ) → (count_in v l ≡ 0 → ⊥) → Memᴰ v l
unfolding count_in
counted_in v [] n = absurd (n refl)
counted_in v (w ∷ l) n = go (eqb w v) refl n (counted_in v l)
  where
    go : (t : Bool) → eqb w v ≡ t → (pick t 1 0 + count_in v l ≡ 0 → ⊥) → ((count_in v l ≡ 0 → ⊥) → Memᴰ v l) → Memᴰ v (w ∷ l)
    go true e m ih = Memᴰ.head (sym (eqb-true w v e))
    go false e m ih = Memᴰ.tail (ih (λ z. m (omega arith)))

at_most_exactly : (b : ℕ) (l : List ℕ) → (at_most b l ≡ true) ↔ ((v : ℕ) → count_in v l ≤ b)
unfolding at_most
at_most_exactly b l = (
  (λ e v. by_count v ((all_in_exactly (λ v. leb (count_in v l) b) l).0 e v) (ℕ_discrete (count_in v l) 0)),
  (λ h. (all_in_exactly (λ v. leb (count_in v l) b) l).1 (λ v m. (leb_exactly (count_in v l) b).1 (h v))),
)
  where
    by_count : (v : ℕ) → (Memᴰ v l → leb (count_in v l) b ≡ true) → Dec (count_in v l ≡ 0) → count_in v l ≤ b
    by_count v h (yes z) = omega arith
    by_count v h (no z) = (leb_exactly (count_in v l) b).0 (h (counted_in v l z))

-- ---- the longest stretch after a turn

-- it has no turn of w
until_none : (w : ℕ) (l : List ℕ) → count_in w (until_next w l) ≡ 0
unfolding count_in until_next
until_none w [] = refl
until_none w (v ∷ l) = go (eqb v w) refl (until_none w l)
  where
    go : (t : Bool) → eqb v w ≡ t → count_in w (until_next w l) ≡ 0 → count_in w (pick t [] (v ∷ until_next w l)) ≡ 0
    go true e ih = refl
    go false e ih = rw e (omega arith)

-- it is a front part
until_front : (w : ℕ) (l : List ℕ) → (rest : List ℕ) × (l ≡ until_next w l ++ rest)
unfolding until_next
until_front w [] = ([], refl)
until_front w (v ∷ l) = go (eqb v w) (until_front w l)
  where
    go : (t : Bool) → (rest : List ℕ) × (l ≡ until_next w l ++ rest) → (rest : List ℕ) × (◌≡◌ {A = List ℕ} (v ∷ l) (pick t [] (v ∷ until_next w l) ++ rest))
    go true r = (v ∷ l, refl)
    go false r = (r.0, ap (v ∷◌) r.1)

-- every other stretch without a turn of w is inside it
until_longest : (w v : ℕ) (stretch rest : List ℕ) → count_in w stretch ≡ 0 → count_in v stretch ≤ count_in v (until_next w (stretch ++ rest))
unfolding count_in until_next
until_longest w v [] rest z = omega arith
until_longest w v (u ∷ l) rest z = go (eqb u w) refl z (until_longest w v l rest)
  where
    go : (t : Bool) → eqb u w ≡ t → pick t 1 0 + count_in w l ≡ 0 → (count_in w l ≡ 0 → count_in v l ≤ count_in v (until_next w (l ++ rest)))
        → pick (eqb u v) 1 0 + count_in v l ≤ count_in v (pick t [] (u ∷ until_next w (l ++ rest)))
    go true e y ih = no_way (omega arith)
    go false e y ih = omega (arith, ih (omega arith))

-- ---- the test is the rule

keeps_rule : (b : ℕ) (row : List ℕ) → keeps b row ≡ true → Keeps b row
unfolding keeps Keeps
keeps_rule b [] h [] stretch rest w v e z = no_way cc
keeps_rule b [] h (u ∷ front) stretch rest w v e z = no_way cc
keeps_rule b (u ∷ l) h [] stretch rest w v e z =
    let f : u ≡ w = cc in
    let g : l ≡ stretch ++ rest = cc in
    let m : at_most b (until_next u l) ≡ true = ((and_exactly (at_most b (until_next u l)) (keeps b l)).0 h).0 in
    omega (arith, until_longest w v stretch rest z, (at_most_exactly b (until_next w (stretch ++ rest))).0 (rw (f, g) at m) v)
keeps_rule b (u ∷ l) h (x ∷ front) stretch rest w v e z = keeps_rule b l ((and_exactly (at_most b (until_next u l)) (keeps b l)).0 h).1 front stretch rest w v (cc) z

rule_keeps : (b : ℕ) (row : List ℕ) → Keeps b row → keeps b row ≡ true
unfolding keeps Keeps
rule_keeps b [] h = refl
rule_keeps b (w ∷ l) h =
    let r : (rest : List ℕ) × (l ≡ until_next w l ++ rest) = until_front w l in
    (and_exactly (at_most b (until_next w l)) (keeps b l)).1 (
      (at_most_exactly b (until_next w l)).1 (λ v. h [] (until_next w l) r.0 w v (ap (w ∷◌) r.1) (until_none w l)),
      rule_keeps b l (λ front stretch rest u v e. h (w ∷ front) stretch rest u v (ap (w ∷◌) e)),
    )

pub keeps_exactly : (b : ℕ) (row : List ℕ) → (keeps b row ≡ true) ↔ Keeps b row
keeps_exactly b row = (keeps_rule b row, rule_keeps b row)

-- ---- the two rows

-- "bound for b 1 is 6 + 6 × 7 = 48": the limit is worked out in crates/schedule/specs/Rule
pub e_keeps : Keeps 1 order_e
unfolding keeps until_next at_most all_in count_in
e_keeps = (keeps_exactly 1 order_e).0 refl

pub gap_breaks : Keeps 1 order_gap → ⊥
unfolding keeps until_next at_most all_in count_in
gap_breaks h = let e : keeps 1 order_gap ≡ true = (keeps_exactly 1 order_gap).1 h in no_way (cc)
