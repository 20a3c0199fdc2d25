-- What trying checks finds: at one place, at places in a row, and in a pass; and the steps of a loop over a pass's places.
use Rattle.std.specs.Prelude.{Err, Ok, Result, ⊤}
use mathlib.Core.Path.{◌≡◌, refl, sym, ◌∙◌, ap}
use mathlib.Core.Logic.Iff
use mathlib.Core.Logic.{◌↔◌, by_cases}
use Prim.Native.Nat.{ℕ, zero, suc, ◌+◌, ◌-◌, ◌≤◌, ◌<◌}
use native.Mathlib.Numerals.{add-one}
use native.Mathlib.Omega.{arith}
use native.Mathlib.Decide.{ℕ_discrete}
use mathlib.Core.List.{List, [], ◌∷◌}
use mathlib.Core.Option.{some}
use mathlib.Core.Bool.{Bool, true, false}
use lib.ListN.{get_elem?}
use Rattle.table.specs.Sum.{pick}
use Rattle.table.specs.Pass.{Check, Pass, or_else, refusal, try_at, try_from, try_pass}
use Rattle.table.specs.declared.Refusal.{Refusal}
use Rattle.table.proofs.Tests.{no_way}

-- ---- the first of two findings

pub or_else_nothing : (f g : Result ⊤ Refusal) → (or_else f g ≡ Ok tt) ↔ ((f ≡ Ok tt) × (g ≡ Ok tt))
or_else_nothing (Ok _) g = ((λ h. (refl, h)), (λ h. h.1))
or_else_nothing (Err r) g = ((λ h. no_way (cc)), (λ h. h.0))

pub or_else_assoc : (f g h : Result ⊤ Refusal) → or_else (or_else f g) h ≡ or_else f (or_else g h)
or_else_assoc (Ok _) g h = refl
or_else_assoc (Err r) g h = refl

pub or_else_last : (f : Result ⊤ Refusal) → or_else f (Ok tt) ≡ f
or_else_last (Ok _) = refl
or_else_last (Err r) = refl

-- ---- the first of a list of findings

-- every element of a list, as a tuple
abbrev pub Each : {A : Type 0} → (A → Type 0) → List A → Type 0
Each P [] = Unit
Each P (x ∷ l) = P x × Each P l

each_iff : {A : Type 0} (P Q : A → Type 0) → ((x : A) → P x ↔ Q x) → (l : List A) → Each P l ↔ Each Q l
each_iff P Q h [] = ((λ t. tt), (λ t. tt))
each_iff P Q h (x ∷ l) = Iff.and (h x) (each_iff P Q h l)

pub each_at : {A : Type 0} (P : A → Type 0) (l : List A) → Each P l → (j : ℕ) (y : A) → get_elem? l j ≡ some y → P y
each_at P [] h j y e = no_way (cc)
each_at P (x ∷ l) h zero y e = let d : x ≡ y = cc in rw d at h.0
each_at P (x ∷ l) h (suc j) y e = each_at P l h.1 j y e

abbrev pub first_by : {A : Type 0} → (A → Result ⊤ Refusal) → List A → Result ⊤ Refusal
first_by f [] = Ok tt
first_by f (x ∷ l) = or_else (f x) (first_by f l)

pub first_of_nothing : {A : Type 0} (f : A → Result ⊤ Refusal) (l : List A) → (first_by f l ≡ Ok tt) ↔ Each (λ x. f x ≡ Ok tt) l
first_of_nothing f [] = ((λ h. tt), (λ h. refl))
first_of_nothing f (x ∷ l) =
    Iff.trans (or_else_nothing (f x) (first_by f l))
    ((λ h. (h.0, (first_of_nothing f l).0 h.1)), (λ h. (h.0, (first_of_nothing f l).1 h.1)))

-- an element of the list finds it, and those before find nothing
pub record Leads {A : Type 0} (f : A → Result ⊤ Refusal) (l : List A) (r : Refusal) : Type 0 where
  pub index : ℕ
  pub element : A
  pub there : get_elem? l index ≡ some element
  pub finds : f element ≡ Err r
  pub before : (j : ℕ) (y : A) → j < index → get_elem? l j ≡ some y → f y ≡ Ok tt

pub first_of_at : {A : Type 0} (f : A → Result ⊤ Refusal) (l : List A) (r : Refusal) → first_by f l ≡ Err r → Leads f l r
first_of_at f [] r h = no_way (cc)
first_of_at {A} f (x ∷ l) r h = go (f x) refl (first_of_at f l r) h
  where
    go : (g : Result ⊤ Refusal) → f x ≡ g → (first_by f l ≡ Err r → Leads f l r) → or_else g (first_by f l) ≡ Err r → Leads f (x ∷ l) r
    go (Ok _) e ih k =
        record { index = suc (ih k).index; element = (ih k).element; there = (ih k).there; finds = (ih k).finds; before = before }
      where
        before : (j : ℕ) (y : A) → j < suc (ih k).index → get_elem? (x ∷ l) j ≡ some y → f y ≡ Ok tt
        before zero y m d = let q : f x ≡ Ok tt = e in cc
        before (suc j) y m d = (ih k).before j y (omega arith) d
    go (Err q) e ih k = record { index = 0; element = x; there = refl; finds = cc; before = λ j y m. absurd (omega arith) }

-- ---- at one place

-- what a check finds at a place
abbrev pub found : ℕ → Check → Result ⊤ Refusal
found i c = pick (c.applies i) (Err (refusal c.number i)) (Ok tt)

found_else : (t : Bool) (r : Refusal) (f : Result ⊤ Refusal) → pick t (Err r) f ≡ or_else (pick t (Err r) (Ok tt)) f
found_else true r f = refl
found_else false r f = refl

pub found_nothing : (t : Bool) (r : Refusal) → (pick {A = Result ⊤ Refusal} t (Err r) (Ok tt) ≡ Ok tt) ↔ (t ≡ false)
found_nothing true r = ((λ h. no_way (cc)), (λ h. no_way (cc)))
found_nothing false r = ((λ h. refl), (λ h. refl))

pub found_at : (t : Bool) (q r : Refusal) → pick {A = Result ⊤ Refusal} t (Err q) (Ok tt) ≡ Err r → (t ≡ true) × (q ≡ r)
found_at true q r h = (refl, cc)
found_at false q r h = no_way (cc)

try_at_first : (cs : List Check) (i : ℕ) → try_at cs i ≡ first_by (found i) cs
unfolding try_at
try_at_first [] i = refl
try_at_first (c ∷ cs) i = rw (found_else (c.applies i) (refusal c.number i) (try_at cs i), try_at_first cs i)

-- no check of the list applies at the place
abbrev pub Silent : List Check → ℕ → Type 0
Silent cs i = Each (λ c. c.applies i ≡ false) cs

pub try_at_nothing : (cs : List Check) (i : ℕ) → (try_at cs i ≡ Ok tt) ↔ Silent cs i
try_at_nothing cs i =
    rw (try_at_first cs i)
    (Iff.trans (first_of_nothing (found i) cs)
    (each_iff (λ c. found i c ≡ Ok tt) (λ c. c.applies i ≡ false) (λ c. found_nothing (c.applies i) (refusal c.number i)) cs))

pub try_at_at : (cs : List Check) (i : ℕ) (r : Refusal) → try_at cs i ≡ Err r → Leads (found i) cs r
try_at_at cs i r h = first_of_at (found i) cs r (sym (try_at_first cs i) ∙ h)

pub try_at_place : (cs : List Check) (i : ℕ) (r : Refusal) → try_at cs i ≡ Err r → i ≡ r.place
try_at_place cs i r h =
    let c : Check = (try_at_at cs i r h).element in
    ap (λ (q : Refusal). q.place) (found_at (c.applies i) (refusal c.number i) r (try_at_at cs i r h).finds).1

-- ---- at places in a row

pub try_from_nothing : (cs : List Check) (i k : ℕ) → try_from cs i k ≡ Ok tt → (j : ℕ) → i ≤ j → j < i + k → try_at cs j ≡ Ok tt
unfolding try_from
try_from_nothing cs i zero h j l m = absurd (omega arith)
try_from_nothing cs i (suc k) h j l m =
    let b : (try_at cs i ≡ Ok tt) × (try_from cs (suc i) k ≡ Ok tt) = (or_else_nothing (try_at cs i) (try_from cs (suc i) k)).0 h in
    by_cases (ℕ_discrete i j) (λ e. cc) (λ n. try_from_nothing cs (suc i) k b.1 j (omega arith) (omega arith))

pub nothing_try_from : (cs : List Check) (i k : ℕ) → ((j : ℕ) → i ≤ j → j < i + k → try_at cs j ≡ Ok tt) → try_from cs i k ≡ Ok tt
unfolding try_from
nothing_try_from cs i zero h = refl
nothing_try_from cs i (suc k) h =
    (or_else_nothing (try_at cs i) (try_from cs (suc i) k)).1
    (h i (omega arith) (omega arith), nothing_try_from cs (suc i) k (λ j l m. h j (omega arith) (omega arith)))

pub try_from_split : (cs : List Check) (i j k : ℕ) → try_from cs i (j + k) ≡ or_else (try_from cs i j) (try_from cs (i + j) k)
unfolding try_from
try_from_split cs i zero k =
    let e : zero + k ≡ k = omega arith in
    let d : i + zero ≡ i = omega arith in
    cc
try_from_split cs i (suc j) k =
    let e : suc j + k ≡ suc (j + k) = omega arith in
    let d : i + suc j ≡ suc i + j = omega arith in
    rw (e, d, try_from_split cs (suc i) j k) (sym (or_else_assoc (try_at cs i) (try_from cs (suc i) j) (try_from cs (suc i + j) k)))

-- what is found at k places from i on is found at its place, and nothing at those below
pub record Lowest (cs : List Check) (i k : ℕ) (r : Refusal) : Type 0 where
  pub low : i ≤ r.place
  pub high : r.place < i + k
  pub here : try_at cs r.place ≡ Err r
  pub below : (j : ℕ) → i ≤ j → j < r.place → try_at cs j ≡ Ok tt

pub try_from_at : (cs : List Check) (i k : ℕ) (r : Refusal) → try_from cs i k ≡ Err r → Lowest cs i k r
unfolding try_from
try_from_at cs i zero r h = no_way (cc)
try_from_at cs i (suc k) r h = go (try_at cs i) refl (try_from_at cs (suc i) k r) h
  where
    go : (g : Result ⊤ Refusal) → try_at cs i ≡ g → (try_from cs (suc i) k ≡ Err r → Lowest cs (suc i) k r) → or_else g (try_from cs (suc i) k) ≡ Err r
        → Lowest cs i (suc k) r
    go (Ok _) e ih d =
        let a : Lowest cs (suc i) k r = ih d in
        record {
          low = omega arith;
          high = omega arith;
          here = a.here;
          below = λ j l m. by_cases (ℕ_discrete i j) (λ t. let q : try_at cs i ≡ Ok tt = e in cc) (λ t. a.below j (omega arith) m);
        }
    go (Err q) e ih d =
        let p : i ≡ r.place = try_at_place cs i r (e ∙ d) in
        record { low = omega arith; high = omega arith; here = cc; below = λ j l m. absurd (omega arith) }

pub try_pass_nothing : (p : Pass) → (try_pass p ≡ Ok tt) ↔ ((i : ℕ) → p.from ≤ i → i < p.from + p.places → Silent p.checks i)
unfolding try_pass
try_pass_nothing p = (
  (λ h i l m. (try_at_nothing p.checks i).0 (try_from_nothing p.checks p.from p.places h i l m)),
  (λ h. nothing_try_from p.checks p.from p.places (λ i l m. (try_at_nothing p.checks i).1 (h i l m))),
)

-- ---- a loop over a pass's places: at place i, what is found from there on is what is found there or else from the next place on

module _ (cs : List Check) (i k : ℕ) (h : i < k) where
  pub try_from_step : try_from cs i (k - i) ≡ or_else (try_at cs i) (try_from cs (i + 1) (k - (i + 1)))
  unfolding try_from
  try_from_step =
      let e : k - i ≡ suc (k - (i + 1)) = omega arith in
      rw (e, add-one)

  pub try_from_next : try_at cs i ≡ Ok tt → try_from cs i (k - i) ≡ try_from cs (i + 1) (k - (i + 1))
  try_from_next e = try_from_step ∙ ap (λ f. or_else f (try_from cs (i + 1) (k - (i + 1)))) e

  pub try_from_here : (r : Refusal) → try_at cs i ≡ Err r → try_from cs i (k - i) ≡ Err r
  try_from_here r e = try_from_step ∙ ap (λ f. or_else f (try_from cs (i + 1) (k - (i + 1)))) e

pub try_from_last : (cs : List Check) (i k : ℕ) → i ≡ k → try_from cs i (k - i) ≡ Ok tt
unfolding try_from
try_from_last cs i k e =
    let z : k - i ≡ 0 = omega arith in
    rw z

-- from place 0 on
pub try_from_all : (cs : List Check) (k : ℕ) → try_from cs 0 (k - 0) ≡ try_from cs 0 k
try_from_all cs k =
    let z : k - 0 ≡ k = omega arith in
    rw z
