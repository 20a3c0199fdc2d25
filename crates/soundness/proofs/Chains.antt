-- Chains of tests: what the whole chain says where a test fails, and where it does not.
use Rattle.std.specs.Prelude.{Err, Ok, Result, ⊤, is_err}
use mathlib.Core.Path.{◌≡◌, refl, sym, ◌∙◌}
use mathlib.Core.Bool.{Bool, true, false, not, ◌&&◌}
use Prim.Native.Nat.{ℕ}
use native.Mathlib.Omega.{arith}
use borrow.Author.Tests.{not-true, not-false}
use Rattle.table.specs.declared.Refusal.{Refusal}

-- a test that was asked with `!`
pub off : {b v : Bool} → b ≡ v → not b ≡ true → v ≡ false
off {b} e h = sym e ∙ not-true b h

pub on : {b v : Bool} → b ≡ v → not b ≡ false → v ≡ true
on {b} e h = sym e ∙ not-false b h

-- the first test fails; it holds; a later one fails; it is the last that was open
pub cut : {a : Bool} (b : Bool) → a ≡ false → false ≡ (a && b)
cut b e = rw e refl

pub stop : (a b : Bool) → a ≡ false → a ≡ (a && b)
stop true b e = absurd (let z : ◌≡◌ {A = ℕ} 0 1 = cc in omega arith)
stop false b e = refl

pub pass : {r a b : Bool} → a ≡ true → r ≡ b → r ≡ (a && b)
pass e h = rw e h

pub skip : (a : Bool) {b : Bool} → false ≡ b → false ≡ (a && b)
skip true h = h
skip false h = refl

pub last : (a : Bool) {r b : Bool} → r ≡ a → b ≡ true → r ≡ (a && b)
last true e h = e ∙ sym h
last false e h = e

pub first_of : (a b : Bool) → (a && b) ≡ true → a ≡ true
first_of true b e = refl
first_of false b e = e

pub second_of : (a b : Bool) → (a && b) ≡ true → b ≡ true
second_of true b e = e
second_of false b e = cc

-- a finding that was asked with `is_err`
pub found_nothing : (x : Result ⊤ Refusal) {b : Bool} → b ≡ is_err x → b ≡ false → x ≡ Ok tt
found_nothing (Ok _) e d = refl
found_nothing (Err r) e d = cc

pub found_some : (x : Result ⊤ Refusal) {b : Bool} → b ≡ is_err x → b ≡ true → (r : Refusal) × x ≡ Err r
found_some (Ok _) e d = absurd (let z : ◌≡◌ {A = ℕ} 0 1 = cc in omega arith)
found_some (Err r) e d = (r, refl)

pub never : {A : Type 0} → false ≡ true → A
never e = absurd (let z : ◌≡◌ {A = ℕ} 0 1 = cc in omega arith)
