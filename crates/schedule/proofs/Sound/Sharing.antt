-- The amounts that the threads hold, thread by thread: each its share, and nothing from n on.
use mathlib.Core.Path.{◌≡◌, sym, ◌∙◌}
use mathlib.Core.Logic.{◌↔◌}
use Prim.Native.Nat.{ℕ, ◌+◌, ◌≤◌, ◌<◌}
use native.Mathlib.Decide.{dec_lt}
use native.Mathlib.Omega.{arith}
use mathlib.Core.List.{List}
use lib.ListN.{length, get_or}
use lib.Seq.{ext_get_or}
use Rattle.table.specs.Format.{Table}
use Rattle.table.specs.Checks.{max_threads}
use Rattle.order.specs.Firsts.{firsts}
use Rattle.schedule.specs.Sound.{share_in, shares_in}
use Rattle.order.proofs.Lists.{filled_at, filled_length, firsts_length, firsts_at, firsts_past}

pub record Shared (T : Table) (next status amounts : List ℕ) : Type 0 where
  pub size : length amounts ≡ 1024
  pub each : (t : ℕ) → t < T.threads → get_or amounts t 0 ≡ share_in T next status t
  pub rest : (t : ℕ) → T.threads ≤ t → get_or amounts t 0 ≡ 0

-- with the shares the same, the amounts may stay
pub shared_alike : (T : Table) (next status next' status' amounts : List ℕ) → Shared T next status amounts
    → ((t : ℕ) → t < T.threads → share_in T next' status' t ≡ share_in T next status t) → Shared T next' status' amounts
shared_alike T next status next' status' amounts s e = record { size = s.size; each = λ t h. s.each t h ∙ sym (e t h); rest = s.rest }

module _ (T : Table) (few : T.threads ≤ 1024) (next status : List ℕ) where
  pub shares_size : length (shares_in T next status) ≡ 1024
  unfolding shares_in
  shares_size = filled_length max_threads (firsts (share_in T next status) 0 T.threads) (omega (arith, firsts_length (share_in T next status) 0 T.threads))

  shares_at : (t : ℕ) → t < T.threads → get_or (shares_in T next status) t 0 ≡ share_in T next status t
  unfolding shares_in
  shares_at t h =
      let e : 0 + t ≡ t = omega arith in
      filled_at max_threads (firsts (share_in T next status) 0 T.threads) t ∙ firsts_at (share_in T next status) 0 T.threads t h ∙ rw e

  shares_past : (t : ℕ) → T.threads ≤ t → get_or (shares_in T next status) t 0 ≡ 0
  unfolding shares_in
  shares_past t h = filled_at max_threads (firsts (share_in T next status) 0 T.threads) t ∙ firsts_past (share_in T next status) 0 T.threads t h

  pub shares_exactly : (amounts : List ℕ) → (amounts ≡ shares_in T next status) ↔ Shared T next status amounts
  shares_exactly amounts = (there, back)
    where
      there : amounts ≡ shares_in T next status → Shared T next status amounts
      there e = rw e (record { size = shares_size; each = shares_at; rest = shares_past })

      back : Shared T next status amounts → amounts ≡ shares_in T next status
      back s = ext_get_or 0 amounts (shares_in T next status) (s.size ∙ sym shares_size) (λ t h. at t (dec_lt t T.threads))
        where
          at : (t : ℕ) → Dec (t < T.threads) → get_or amounts t 0 ≡ get_or (shares_in T next status) t 0
          at t (yes h) = s.each t h ∙ sym (shares_at t h)
          at t (no h) = s.rest t (omega (arith, h)) ∙ sym (shares_past t (omega (arith, h)))
