-- Filling the second list's links, a thread at a time: all of it is what the filling from here on makes of the links so far.
use mathlib.Core.Path.{◌≡◌, refl, ap, sym, ◌∙◌}
use Prim.Native.Nat.{ℕ, zero, suc, ◌+◌, ◌-◌, ◌≤◌, ◌<◌}
use native.Mathlib.Omega.{arith}
use mathlib.Core.List.{List}
use lib.ListN.{get_or}
use borrow.Author.Tests.{lt-ltb, le-ltb, eq-eqb, ne_eqb}
use Rattle.schedule.specs.Machine.{waiting}
use Rattle.schedule.specs.Links.{no_thread, Links, link_last}
use Rattle.schedule.specs.Actives.{no_links, filled_from}

-- ---- a step of it

module _ (status right : List ℕ) (t y : ℕ) (k : Links) where
  fill_none : filled_from 0 status right t y k ≡ k
  unfolding filled_from
  fill_none = refl

  fill_stop : (n : ℕ) → no_thread ≤ t → filled_from n status right t y k ≡ k
  unfolding filled_from
  fill_stop zero h = refl
  fill_stop (suc n) h = rw (le-ltb t no_thread h)

  module _ (n : ℕ) (h : t < no_thread) where
    fill_past : get_or status t 0 ≡ waiting → filled_from (suc n) status right t y k ≡ filled_from n status right (get_or right t 0) y k
    unfolding filled_from
    fill_past e = rw (lt-ltb t no_thread h, eq-eqb (get_or status t 0) waiting e)

    fill_with : (get_or status t 0 ≡ waiting → ⊥) → filled_from (suc n) status right t y k ≡ filled_from n status right (get_or right t 0) t (link_last t y k)
    unfolding filled_from
    fill_with e = rw (lt-ltb t no_thread h, ne_eqb (get_or status t 0) waiting e)

-- ---- all of it

-- of n threads at most k are passed, the filling stands at t, and y is the last in the second list so far
pub record FilledTo (whole : Links) (n : ℕ) (status right : List ℕ) (links : Links) (y t k : ℕ) : Type 0 where
  pub within : k ≤ n
  pub rest : filled_from (n - k) status right t y links ≡ whole

pub filled_start : (n : ℕ) (status right : List ℕ) (leftmost : ℕ) (under over : List ℕ) → under ≡ no_links.left → over ≡ no_links.right
    → FilledTo (filled_from n status right leftmost no_thread no_links) n status right (record { left = under; right = over; head = no_thread }) no_thread leftmost 0
filled_start n status right leftmost under over a b =
    let z : n - 0 ≡ n = omega arith in
    let e : ◌≡◌ {A = Links} (record { left = under; right = over; head = no_thread }) no_links = λ i. record { left = a i; right = b i; head = no_thread } in
    record { within = omega arith; rest = ap (λ (k : Links). filled_from (n - 0) status right leftmost no_thread k) e ∙ ap (λ (m : ℕ). filled_from m status right leftmost no_thread no_links) z }

module _ {whole : Links} {n : ℕ} {status right : List ℕ} {links : Links} {y t k : ℕ} (s : FilledTo whole n status right links y t k) where
  pub filled_out_lem : no_thread ≤ t → links ≡ whole
  filled_out_lem h = sym (fill_stop status right t y links (n - k) h) ∙ s.rest

  pub filled_over : n ≤ k → links ≡ whole
  filled_over h =
      let z : n - k ≡ 0 = omega arith in
      sym (fill_none status right t y links) ∙ ap (λ (m : ℕ). filled_from m status right t y links) (sym z) ∙ s.rest

  module _ (h : k < n) (b : t < no_thread) where
    on : filled_from (suc (n - (k + 1))) status right t y links ≡ whole
    on = let z : suc (n - (k + 1)) ≡ n - k = omega arith in ap (λ (m : ℕ). filled_from m status right t y links) z ∙ s.rest

    -- a thread that waits
    pub filled_past : get_or status t 0 ≡ waiting → {links' : Links} {y' : ℕ} → links' ≡ links → y' ≡ y → FilledTo whole n status right links' y' (get_or right t 0) (k + 1)
    filled_past e {links'} {y'} d f =
        record {
          within = omega arith;
          rest = (λ i. filled_from (n - (k + 1)) status right (get_or right t 0) (f i) (d i)) ∙ sym (fill_past status right t y links (n - (k + 1)) b e) ∙ on;
        }

    -- and one that does not
    pub filled_with_lem : (get_or status t 0 ≡ waiting → ⊥) → {links' : Links} {y' : ℕ} → links' ≡ link_last t y links → y' ≡ t
        → FilledTo whole n status right links' y' (get_or right t 0) (k + 1)
    filled_with_lem e {links'} {y'} d f =
        record {
          within = omega arith;
          rest = (λ i. filled_from (n - (k + 1)) status right (get_or right t 0) (f i) (d i)) ∙ sym (fill_with status right t y links (n - (k + 1)) b e) ∙ on;
        }
