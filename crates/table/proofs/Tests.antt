-- Tests and kinds: what the two ways through `||` and `&&` say, that the test `is` is equality, what a choice by a test is, and how the kinds part.
use mathlib.Core.Path.{◌≡◌, refl, sym, ◌∙◌}
use Prim.Native.Nat.{ℕ, suc, ◌-◌, ◌≤◌, ◌<◌}
use mathlib.Core.Bool.{Bool, true, false, not, ◌&&◌, ◌||◌, cond}
use native.Mathlib.Omega.{arith}
use lib.Dec.{ltb}
use lib.IntN.{sub_ℕ, pos, negsuc}
use borrow.Author.Tests.{ltb-true, eqb-true, eq-eqb, ne_eqb, not-false}
use Rattle.table.specs.Sum.{pick}
use Rattle.table.specs.Format.{kind_of, code_of, is}
use Rattle.table.specs.declared.kinds.Kind.{Kind}
use Rattle.table.specs.declared.kinds.Kind.TheVariants.{End as end, Work as work, Alloc as alloc, Free as free, Fork as fork, Join as join, Unknown as unknown}
use Rattle.table.specs.Checks.{differ, negative}
pub use Rattle.std.proofs.lemmas.Bool.{or_parts as or_neither, and_parts as and_both}

-- from a contradiction between numbers, as `cc` finds one, anything
pub no_way {ℓ} : {A : Type ℓ} → ◌≡◌ {A = ℕ} 0 1 → A
no_way e = absurd (omega arith)

pub not_differ : (s t : Bool) → differ s t ≡ false → s ≡ t
not_differ true t e = sym (not-false t e)
not_differ false t e = sym e

pub between : (x y z : ℕ) → not (ltb x y && ltb y z) ≡ false → (x < y) × (y < z)
between x y z e =
    let p : (ltb x y ≡ true) × (ltb y z ≡ true) = and_both (ltb x y) (ltb y z) (not-false _ e) in
    (ltb-true x y p.0, ltb-true y z p.1)

-- a difference is negative where the first number is the lower one
pub negative_is : (x y : ℕ) → negative (sub_ℕ x y) ≡ ltb x y
negative_is x y = go (ltb x y)
  where
    go : (t : Bool) → negative (cond t (negsuc (y - suc x)) (pos (x - y))) ≡ t
    go true = refl
    go false = refl

kind_of_code_of : (k : Kind) → kind_of (code_of k) ≡ k
unfolding kind_of code_of
kind_of_code_of end = refl
kind_of_code_of work = refl
kind_of_code_of alloc = refl
kind_of_code_of free = refl
kind_of_code_of fork = refl
kind_of_code_of join = refl
kind_of_code_of unknown = refl

-- the test `is` is equality
pub is_true : (j k : Kind) → is j k ≡ true → k ≡ j
unfolding is
is_true j k e =
    let q : code_of j ≡ code_of k = eqb-true (code_of j) (code_of k) e in
    cc (kind_of_code_of j, kind_of_code_of k)

pub same_is : (j k : Kind) → k ≡ j → is j k ≡ true
unfolding is
same_is j k e = eq-eqb (code_of j) (code_of k) cc

pub other_is : (j k : Kind) → (k ≡ j → ⊥) → is j k ≡ false
unfolding is
other_is j k d =
    ne_eqb (code_of j) (code_of k) (λ e. d (sym (kind_of_code_of k) ∙ rw (← e) (kind_of_code_of j)))

-- an amount that a test lets through, or none
pub pick_most : (q : Bool) (x : ℕ) → pick q x 0 ≤ x
pick_most true x = omega arith
pick_most false x = omega arith

-- a choice of two amounts that are equal where the test holds
pub pick_same : (j k : Kind) (x y : ℕ) → (k ≡ j → x ≡ y) → pick (is j k) x 0 ≡ pick (is j k) y 0
pick_same j k x y h = go (is j k) refl
  where
    go : (t : Bool) → is j k ≡ t → pick t x 0 ≡ pick t y 0
    go true e = h (is_true j k e)
    go false e = refl

pub or_left : (r a b : Bool) → r ≡ a → r ≡ true → r ≡ (a || b)
or_left r true b e t = t
or_left r false b e t = let z : ◌≡◌ {A = Bool} true false = cc in cc

pub or_right : (r q a b : Bool) → q ≡ a → q ≡ false → r ≡ b → r ≡ (a || b)
or_right r q true b e f h = cc
or_right r q false b e f h = h

pub fork_no_end : {k : Kind} → k ≡ fork → is end k ≡ false
unfolding is code_of
fork_no_end e = rw e

-- what serial order tells apart: an end, a fork, and the rest
pub data Turn (k : Kind) : Type 0 where
  ends : k ≡ end → is fork k ≡ false → Turn k
  branches : k ≡ fork → is end k ≡ false → Turn k
  goes : is end k ≡ false → is fork k ≡ false → Turn k

pub turn : (k : Kind) → Turn k
unfolding is code_of
turn end = ends refl refl
turn work = goes refl refl
turn alloc = goes refl refl
turn free = goes refl refl
turn fork = branches refl refl
turn join = goes refl refl
turn unknown = goes refl refl
