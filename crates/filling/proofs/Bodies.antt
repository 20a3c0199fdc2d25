-- Laws on bodies as lists of actions: forms, ends and nesting, each by one walk along the body.
use Prim.Native.Nat.{ℕ, zero, suc, ◌+◌, ◌<◌}
use native.Mathlib.Omega.{arith}
use mathlib.Core.Path.{◌≡◌, refl}
use mathlib.Core.List.{List, [], ◌∷◌, ◌++◌, flatten}
use mathlib.Core.Bool.{true, false, not, ◌&&◌}
use lib.ListN.{length, get_or}
use Rattle.table.specs.Format.{is, kind_of}
use Rattle.table.specs.declared.kinds.Kind.{Kind}
use Rattle.table.specs.declared.kinds.Kind.TheVariants.{End as end, Join as join, Unknown as unknown}
use Rattle.table.specs.Checks.{argument_fits, is_latest, is_empty, opened}
use Rattle.table.specs.Written.{Action}
use Rattle.table.proofs.ReadBack.{none}

abbrev pub kind_in : Action → Kind
kind_in x = kind_of x.code

-- ---- each action of a body

abbrev pub Each : (Action → Type 0) → List Action → Type 0
Each P [] = Unit {0}
Each P (x ∷ l) = P x × Each P l

pub each_at : (P : Action → Type 0) (l : List Action) (i : ℕ) → Each P l → i < length l → P (get_or l i none)
each_at P [] i p h = absurd (omega arith)
each_at P (x ∷ l) zero p h = p.0
each_at P (x ∷ l) (suc i) p h = each_at P l i p.1 (omega arith)

pub each_append : (P : Action → Type 0) (l r : List Action) → Each P l → Each P r → Each P (l ++ r)
each_append P [] r p q = q
each_append P (x ∷ l) r p q = (p.0, each_append P l r p.1 q)

-- ---- each body, with its thread's number

abbrev pub EachBody : (ℕ → List Action → Type 0) → ℕ → List (List Action) → Type 0
EachBody P t [] = Unit {0}
EachBody P t (b ∷ bs) = P t b × EachBody P (suc t) bs

pub body_of : (P : ℕ → List Action → Type 0) (bs : List (List Action)) (t i : ℕ) → EachBody P t bs → i < length bs → P (t + i) (get_or bs i [])
body_of P [] t i p h = absurd (omega arith)
body_of P (b ∷ bs) t zero p h = let z : t + 0 ≡ t = omega arith in rw z p.0
body_of P (b ∷ bs) t (suc i) p h = let z : t + suc i ≡ suc t + i = omega arith in rw z (body_of P bs (suc t) i p.1 (omega arith))

pub bodies_append : (P : ℕ → List Action → Type 0) (bs cs : List (List Action)) (t u : ℕ) → u ≡ t + length bs → EachBody P t bs → EachBody P u cs → EachBody P t (bs ++ cs)
bodies_append P [] cs t u e p q = let z : u ≡ t = omega arith in rw z at q
bodies_append P (b ∷ bs) cs t u e p q = (p.0, bodies_append P bs cs (suc t) u (omega arith) p.1 q)

-- ---- rules 5 to 7

-- action x of thread t fits among n threads, and its argument has 24 bits
pub record Fit (t n : ℕ) (x : Action) : Type 0 where
  pub known : is unknown (kind_in x) ≡ false
  pub fits : argument_fits (kind_in x) t n x.argument ≡ true
  pub short : x.argument < 16777216

abbrev pub EndLast : List Action → Type 0
EndLast [] = ⊥
EndLast (x ∷ []) = is end (kind_in x) ≡ true
EndLast (x ∷ y ∷ l) = (is end (kind_in x) ≡ false) × EndLast (y ∷ l)

pub end_cons : (x : Action) (l : List Action) → is end (kind_in x) ≡ false → EndLast l → EndLast (x ∷ l)
end_cons x [] e p = absurd p
end_cons x (y ∷ l) e p = (e, p)

pub end_some : (l : List Action) → EndLast l → 0 < length l
end_some [] p = absurd p
end_some (x ∷ l) p = omega arith

pub end_before : (l : List Action) (i : ℕ) → EndLast l → suc i < length l → is end (kind_in (get_or l i none)) ≡ false
end_before [] i p h = absurd p
end_before (x ∷ []) i p h = absurd (omega arith)
end_before (x ∷ y ∷ l) zero p h = p.0
end_before (x ∷ y ∷ l) (suc i) p h = end_before (y ∷ l) i p.1 (omega arith)

pub end_there : (l : List Action) (i : ℕ) → EndLast l → suc i ≡ length l → is end (kind_in (get_or l i none)) ≡ true
end_there [] i p h = absurd p
end_there (x ∷ []) zero p h = p
end_there (x ∷ []) (suc i) p h = absurd (omega arith)
end_there (x ∷ y ∷ l) zero p h = absurd (omega arith)
end_there (x ∷ y ∷ l) (suc i) p h = end_there (y ∷ l) i p.1 (omega arith)

-- ---- rule 9

-- along a body, where the children in o stand open: a join names the latest, at an end none is left
abbrev pub Nests : List ℕ → List Action → Type 0
Nests o [] = Unit {0}
Nests o (x ∷ l) =
    ((is join (kind_in x) && not (is_latest x.argument o)) ≡ false)
    × ((is end (kind_in x) && not (is_empty o)) ≡ false)
    × Nests (opened (kind_in x) x.argument o) l

-- the children open before action i of the body
abbrev pub open_at : List ℕ → List Action → ℕ → List ℕ
open_at o l zero = o
open_at o [] (suc i) = o
open_at o (x ∷ l) (suc i) = open_at (opened (kind_in x) x.argument o) l i

pub open_next : (l : List Action) (o : List ℕ) (i : ℕ) → i < length l → open_at o l (suc i) ≡ opened (kind_in (get_or l i none)) (get_or l i none).argument (open_at o l i)
open_next [] o i h = absurd (omega arith)
open_next (x ∷ l) o zero h = refl
open_next (x ∷ l) o (suc i) h = open_next l (opened (kind_in x) x.argument o) i (omega arith)

pub nests_at : (l : List Action) (o : List ℕ) (i : ℕ) → Nests o l → i < length l
    → ((is join (kind_in (get_or l i none)) && not (is_latest (get_or l i none).argument (open_at o l i))) ≡ false)
    × ((is end (kind_in (get_or l i none)) && not (is_empty (open_at o l i))) ≡ false)
nests_at [] o i p h = absurd (omega arith)
nests_at (x ∷ l) o zero p h = (p.0, p.1)
nests_at (x ∷ l) o (suc i) p h = nests_at l (opened (kind_in x) x.argument o) i p.2 (omega arith)

-- ---- all of them: body b of thread t among n threads

pub record Good (n t : ℕ) (b : List Action) : Type 0 where
  pub fit : Each (Fit t n) b
  pub ends : EndLast b
  pub nests : Nests [] b

-- ---- 24 bits

abbrev pub Short : Action → Type 0
Short y = y.argument < 16777216

fit_short : (t n : ℕ) (l : List Action) → Each (Fit t n) l → Each Short l
fit_short t n [] p = tt
fit_short t n (y ∷ l) p = (p.0.short, fit_short t n l p.1)

good_short : (n : ℕ) (bs : List (List Action)) (t : ℕ) → EachBody (Good n) t bs → Each Short (flatten bs)
unfolding flatten
good_short n [] t p = tt
good_short n (b ∷ bs) t p = each_append Short b (flatten bs) (fit_short t n b p.0.fit) (good_short n bs (suc t) p.1)

-- every argument in good bodies can be written and read back
pub short_at : (n : ℕ) (bs : List (List Action)) → EachBody (Good n) 0 bs → (a : ℕ) → a < length (flatten bs) → (get_or (flatten bs) a none).argument < 16777216
short_at n bs p a h = each_at Short (flatten bs) a (good_short n bs 0 p) h
