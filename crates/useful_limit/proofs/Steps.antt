-- The answer from a few numbers, test by test.
use mathlib.Core.Path.{◌≡◌, ap, ◌∙◌}
use Prim.Native.Nat.{ℕ, ◌+◌, ◌-◌, ◌*◌, ◌≤◌, ◌<◌, min, max}
use native.Mathlib.Omega.{arith}
use native.Mathlib.Nat.{mul-le-mul_right}
use mathlib.Core.Bool.{Bool, true, false}
use borrow.Author.Tests.{le-leb, lt-leb, lt-ltb, le-ltb}
use Rattle.schedule.specs.Begin.{max_quota}
use Rattle.quota.specs.Quota.{most_within}
use Rattle.quota.proofs.Largest.{most_small}
use Rattle.useful_limit.specs.declared.Parts.{Parts}
use Rattle.useful_limit.specs.declared.Fitted.{Fitted}
use Rattle.useful_limit.specs.Code.Parts.{Sums, ruled_need, rested_need, need_with, unruled_with, fits_at, short_at, cover_with, short_with, most_with, fit_with}

module _ (x : Parts) (K : ℕ) where
  pub covers : x.stretch ≤ K → x.resting ≡ rested_need x K
  covers h = rw (le-leb x.stretch K h)

  pub covers_not : K < x.stretch → x.peak ≡ rested_need x K
  covers_not h = rw (lt-leb x.stretch K h)

  pub limit_fits : Sums x → K ≤ 16777215 → x.serial + K * x.cost < 18446744073709551616
  limit_fits s h = omega (arith, s.limited, mul-le-mul_right x.cost h)

  pub ruled : x.free ≡ false → x.serial + K * x.cost ≡ ruled_need x K
  ruled e = rw e

  pub unruled : x.free ≡ true → x.peak ≡ ruled_need x K
  unruled e = rw e

  pub need_is : {a b c : ℕ} → c ≡ min x.peak b → b ≡ min a (rested_need x K) → a ≡ ruled_need x K → c ≡ need_with x K
  unfolding need_with
  need_is e d f = rw (e, d, f)

pub unruled_is : (x : Parts) {a b : ℕ} → b ≡ min x.peak a → a ≡ rested_need x 16777215 → b ≡ unruled_with x
unfolding unruled_with
unruled_is x e d = rw (e, d)

module _ (x : Parts) {y : Fitted} {c : ℕ} (is : c ≡ max x.least x.stretch) where
  pub cover_wide : max_quota < c → y ≡ short_at x x.least → y ≡ short_with x
  unfolding short_with
  cover_wide h e = rw (e, lt-leb (cover_with x) max_quota (omega (arith, is)))

  pub cover_less : c ≤ max_quota → {m n : ℕ} → m ≡ need_with x c → n ≡ need_with x x.least → m < n → y ≡ short_at x c → y ≡ short_with x
  unfolding short_with
  cover_less h p q l e =
      rw (e, le-leb (cover_with x) max_quota (omega (arith, is)), lt-ltb (need_with x (cover_with x)) (need_with x x.least) (omega (arith, p, q, ap (need_with x) is)), is)

  pub cover_more : c ≤ max_quota → {m n : ℕ} → m ≡ need_with x c → n ≡ need_with x x.least → n ≤ m → y ≡ short_at x x.least → y ≡ short_with x
  unfolding short_with
  cover_more h p q l e =
      rw (e, le-leb (cover_with x) max_quota (omega (arith, is)), le-ltb (need_with x (cover_with x)) (need_with x x.least) (omega (arith, p, q, ap (need_with x) is)))

module _ (x : Parts) (M : ℕ) {y : Fitted} {u : ℕ} (is : u ≡ unruled_with x) where
  pub fit_free : u ≤ M → y ≡ fits_at x max_quota → y ≡ fit_with x M
  unfolding fit_with
  fit_free h e = rw (e, le-leb (unruled_with x) M (omega (arith, is)))

  module _ (h : M < u) where
    pub fit_unruled : x.free ≡ true → y ≡ short_with x → y ≡ fit_with x M
    unfolding fit_with
    fit_unruled f e = rw (e, lt-leb (unruled_with x) M (omega (arith, is)), f)

    module _ (f : x.free ≡ false) where
      pub fit_little : M < x.serial → y ≡ short_with x → y ≡ fit_with x M
      unfolding fit_with
      fit_little g e = rw (e, lt-leb (unruled_with x) M (omega (arith, is)), f, lt-ltb M x.serial g)

      module _ (g : x.serial ≤ M) {k : ℕ} (d : k ≡ most_within x.cost (M - x.serial)) where
        pub fit_below : k < x.least → y ≡ short_with x → y ≡ fit_with x M
        unfolding fit_with
        fit_below l e =
            rw (e, lt-leb (unruled_with x) M (omega (arith, is)), f, le-ltb M x.serial g, lt-ltb (most_within x.cost (M - x.serial)) x.least (omega (arith, d)))

        pub fit_most : x.least ≤ k → y ≡ fits_at x k → y ≡ fit_with x M
        unfolding fit_with
        fit_most l e =
            rw (e, lt-leb (unruled_with x) M (omega (arith, is)), f, le-ltb M x.serial g, le-ltb (most_within x.cost (M - x.serial)) x.least (omega (arith, d)), d)

pub most_fits : (cost spare k : ℕ) → k ≡ most_within cost spare → k ≤ 16777215
most_fits cost spare k e = omega (arith, e, most_small cost spare)
