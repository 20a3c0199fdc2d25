-- Amounts of a copy: allocs and frees, action by action, of whole threads, and the peak.
use Prim.Native.Nat.{ℕ, ◌+◌, ◌<◌}
use native.Mathlib.Omega.{arith}
use mathlib.Core.Path.{◌≡◌, refl}
use mathlib.Core.List.Memᴰ
use mathlib.Core.List.{List, [], ◌∷◌, map, Memᴰ}
use mathlib.Core.Bool.{Bool, true, false}
use mathlib.Core.Logic.{⊎_elim}
use Rattle.table.specs.Sum.{pick, sum_over, greatest}
use Rattle.table.specs.Format.{is, Table, kind}
use Rattle.table.specs.declared.kinds.Kind.{Kind}
use Rattle.table.specs.declared.kinds.Kind.TheVariants.{Alloc as alloc, Free as free}
use Rattle.table.specs.Checks.{alloc_of, free_of}
use Rattle.table.specs.Rules.{ContentRules, BodyRules}
use Rattle.table.specs.Serial.{serial, fronts, held_after, peak_of}
use Rattle.table.proofs.Tests.{is_true}
use Rattle.table.proofs.Serial.{serial_below}
use Rattle.table.proofs.Peaks.{greatest_map}
use Rattle.parts.specs.Copies.{renamed, Copies, place_of}
use Rattle.parts.proofs.CopyLaws.{copy_kind, copy_argument, copy_serial}

-- the greatest over the front parts of a list whose elements are renamed
fronts_map : (g : ℕ → ℕ) (m : ℕ) (l : List ℕ) (f h : List ℕ → ℕ) → ((x : ℕ) → Memᴰ x l → x < m)
    → ((q : List ℕ) → ((x : ℕ) → Memᴰ x q → x < m) → f (map g q) ≡ h q)
    → greatest f (fronts (map g l)) ≡ greatest h (fronts l)
unfolding greatest fronts
fronts_map g m [] f h below same = rw (same [] (λ x i. absurd (Memᴰ.not-nil i)))
fronts_map g m (x ∷ l) f h below same =
    let e : f [] ≡ h [] = same [] (λ y i. absurd (Memᴰ.not-nil i)) in
    rw (
      e,
      greatest_map f (g x ∷◌) (fronts (map g l)),
      greatest_map h (x ∷◌) (fronts l),
      fronts_map g m l (λ q. f (g x ∷ q)) (λ q. h (x ∷ q)) (λ y i. below y (Memᴰ.tail i))
          (λ q i. same (x ∷ q) (λ y j. ⊎_elim (λ (p : y ≡ x). rw p (below x (Memᴰ.head refl))) (i y) (Memᴰ.cases_cons j))),
    )

sum_map : (g : ℕ → ℕ) (m : ℕ) (own own' : ℕ → ℕ) (q : List ℕ) → ((x : ℕ) → Memᴰ x q → x < m) → ((x : ℕ) → x < m → own' (g x) ≡ own x)
    → sum_over own' (map g q) ≡ sum_over own q
unfolding sum_over
sum_map g m own own' [] below same = refl
sum_map g m own own' (x ∷ q) below same =
    omega (arith, same x (below x (Memᴰ.head refl)), sum_map g m own own' q (λ y i. below y (Memᴰ.tail i)) same)

module _ (T U : Table) (f : ℕ → ℕ) (y : Copies T U f) (c : ContentRules T) (b : BodyRules T) (d : ContentRules U) (e : BodyRules U) where
  amount_same : (j : Kind) → (renamed f j ≡ (λ x. x)) → (t i : ℕ) → t < T.threads → i < T.count t
      → pick (is j (kind U (U.first (f t) + i))) (U.argument (U.first (f t) + i)) 0 ≡ pick (is j (kind T (T.first t + i))) (T.argument (T.first t + i)) 0
  amount_same j r t i h k =
      let q : kind U (U.first (f t) + i) ≡ kind T (T.first t + i) = rw (y.codes t i h k) in
      rw q (go (is j (kind T (T.first t + i))) refl)
    where
      go : (q : Bool) → is j (kind T (T.first t + i)) ≡ q → pick q (U.argument (U.first (f t) + i)) 0 ≡ pick q (T.argument (T.first t + i)) 0
      go true q = let w : kind T (T.first t + i) ≡ j = is_true j (kind T (T.first t + i)) q in rw (y.arguments t i h k, w, r)
      go false q = refl

  pub alloc_same : (t i : ℕ) → t < T.threads → i < T.count t → alloc_of U (U.first (f t) + i) ≡ alloc_of T (T.first t + i)
  unfolding alloc_of
  alloc_same = amount_same alloc refl

  pub free_same : (t i : ℕ) → t < T.threads → i < T.count t → free_of U (U.first (f t) + i) ≡ free_of T (T.first t + i)
  unfolding free_of
  free_same = amount_same free refl

  amount_at_lem : (j : Kind) → (renamed f j ≡ (λ x. x)) → (a : ℕ) → a < T.actions
      → pick (is j (kind U (place_of T U f a))) (U.argument (place_of T U f a)) 0 ≡ pick (is j (kind T a)) (T.argument a) 0
  amount_at_lem j r a h = rw (copy_kind T U f y c b d e a h) (go (is j (kind T a)) refl)
    where
      go : (q : Bool) → is j (kind T a) ≡ q → pick q (U.argument (place_of T U f a)) 0 ≡ pick q (T.argument a) 0
      go true q = let w : kind T a ≡ j = is_true j (kind T a) q in rw (copy_argument T U f y c b d e a h, w, r)
      go false q = refl

  alloc_at : (a : ℕ) → a < T.actions → alloc_of U (place_of T U f a) ≡ alloc_of T a
  unfolding alloc_of
  alloc_at = amount_at_lem alloc refl

  free_at : (a : ℕ) → a < T.actions → free_of U (place_of T U f a) ≡ free_of T a
  unfolding free_of
  free_at = amount_at_lem free refl

  -- the peak from an action on
  pub copy_peak : (a : ℕ) → a < T.actions → peak_of U (serial U (place_of T U f a)) ≡ peak_of T (serial T a)
  unfolding peak_of held_after
  copy_peak a h =
      rw (copy_serial T U f y c b d e a h)
      (fronts_map (place_of T U f) T.actions (serial T a) (held_after U) (held_after T) (serial_below T c b a h)
      (λ q i. omega (arith, sum_map (place_of T U f) T.actions (alloc_of T) (alloc_of U) q i alloc_at, sum_map (place_of T U f) T.actions (free_of T) (free_of U) q i free_at)))
