-- The bests after a thread's walk are right from the thread on, and in the end the root's is the parallel peak.
use Rattle.std.proofs.Common.{◌≡◌, ℕ, suc, ◌<◌, ◌≤◌, List, get_or, set, replicate, sym, ◌∙◌, subst, arith, length-set, get_or-set_other, get_or-set_same}
use native.Mathlib.Decide.{ℕ_discrete}
use lib.ListN.{length-replicate}
use Rattle.table.specs.Format.{Table, code_at, argument_at, bodies_from, table_of}
use Rattle.table.proofs.ReadBack.{argument_short}
use Rattle.order.proofs.Lawful.{Lawful, lawful}
use Rattle.peaks.specs.Peak.{final}
use Rattle.peaks.specs.Rests.{best, parallel_peak}
use Rattle.peak_walk.specs.Code.Walk.{Accepted}
use Rattle.peak_walk.specs.Code.Parallel.{Passed, pass, passed, Bests}
use Rattle.peak_walk.proofs.Passed.{Found, pass_right}

module _ (T : Table) (l : Lawful T) (small : (a : ℕ) → T.argument a < 16777216) (bests finals : List ℕ) (t : ℕ) (h : t < T.threads) (right : Bests T bests finals (suc t)) (w : Passed)
    (f : Found T l small bests finals t h right w) where
  thread_passed : Bests T (set bests t w.most) (set finals t w.balance) t
  thread_passed =
      record {
        here = λ d a b. at_best d a b (ℕ_discrete d t);
        balances = λ d a b. at_end_lem d a b (ℕ_discrete d t);
        bests_size = length-set bests t w.most ∙ right.bests_size;
        finals_size = length-set finals t w.balance ∙ right.finals_size;
      }
    where
      at_best : (d : ℕ) → t ≤ d → d < T.threads → Dec (d ≡ t) → get_or (set bests t w.most) d 0 ≡ best T d
      at_best d a b (yes e) = rw e (get_or-set_same bests t w.most 0 (omega (arith, right.bests_size, h, l.few_threads)) ∙ f.most)
      at_best d a b (no n) = get_or-set_other bests t d w.most 0 n ∙ right.here d (omega (arith, a, n)) b

      at_end_lem : (d : ℕ) → t ≤ d → d < T.threads → Dec (d ≡ t) → get_or (set finals t w.balance) d 0 ≡ final T d
      at_end_lem d a b (yes e) = rw e (get_or-set_same finals t w.balance 0 (omega (arith, right.finals_size, h, l.few_threads)) ∙ f.balance)
      at_end_lem d a b (no n) = get_or-set_other finals t d w.balance 0 n ∙ right.balances d (omega (arith, a, n)) b

module _ (s : List ℕ) (n : ℕ) (accepted : Accepted s n) where
  -- cleared lists say nothing yet
  pub bests_start : {bests finals : List ℕ} → bests ≡ replicate 1024 0 → finals ≡ replicate 1024 0 → Bests (table_of s) bests finals n
  bests_start e f =
      record {
        here = λ d a b. absurd (omega (arith, accepted.threads));
        balances = λ d a b. absurd (omega (arith, accepted.threads));
        bests_size = rw e (length-replicate {A = ℕ} 1024 0);
        finals_size = rw f (length-replicate {A = ℕ} 1024 0);
      }

  -- with what the code gives
  pub passed_down : (bests finals : List ℕ) (t : ℕ) → t < n → Bests (table_of s) bests finals (suc t) → (b c m : ℕ) (bests' finals' : List ℕ)
      → pass b c m ≡ passed (code_at (bodies_from s n)) (argument_at (bodies_from s n)) bests finals ((table_of s).first t) ((table_of s).count t)
      → bests' ≡ set bests t m → finals' ≡ set finals t b → Bests (table_of s) bests' finals' t
  unfolding table_of
  passed_down bests finals t h right b c m bests' finals' w p q =
      let k : t < (table_of s).threads = omega (arith, h, accepted.threads) in
      let e : pass b c m ≡ passed (table_of s).code (table_of s).argument bests finals ((table_of s).first t) ((table_of s).count t) = rw accepted.threads at w in
      rw (p, q)
      (thread_passed (table_of s) (lawful s accepted.rules) (argument_short s) bests finals t k right (pass b c m)
      (subst (Found (table_of s) (lawful s accepted.rules) (argument_short s) bests finals t k right) (sym e)
      (pass_right (table_of s) (lawful s accepted.rules) (argument_short s) bests finals t k right)))

  pub root_best : (bests finals : List ℕ) → Bests (table_of s) bests finals 0 → get_or bests 0 0 ≡ parallel_peak (table_of s)
  unfolding parallel_peak
  root_best bests finals right = right.here 0 (omega arith) (lawful s accepted.rules).some_thread
