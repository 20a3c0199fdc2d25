-- The lists after a thread's walk are right from the thread on, and after all threads' they are right for a load more.
use Rattle.std.proofs.Common.{◌≡◌, ℕ, suc, ◌+◌, ◌*◌, ◌<◌, ◌≤◌, Bool, List, get_or, set, sym, ◌∙◌, subst, arith, length-set, get_or-set_other, get_or-set_same}
use native.Mathlib.Decide.{ℕ_discrete}
use Rattle.table.specs.Format.{Table, code_at, argument_at, bodies_from, table_of}
use Rattle.table.proofs.ReadBack.{argument_short}
use Rattle.order.proofs.Lawful.{Lawful, lawful}
use Rattle.peaks.specs.Peak.{final, peak_on}
use Rattle.peak_walk.specs.Peaked.{standing}
use Rattle.peak_walk.specs.Code.Walk.{slot, Walked, walk, walked, Accepted, Right}
use Rattle.peak_walk.proofs.Walked.{Found, walk_right_lem}

module _ (T : Table) (l : Lawful T) (small : (a : ℕ) → T.argument a < 16777216) (resting : Bool) (peaks finals rows : List ℕ) (r t : ℕ) (low : r ≤ 16) (h : t < T.threads)
    (right : Right T resting peaks finals rows r (suc t)) (w : Walked) (f : Found T l small resting peaks finals rows r t low h right w) where
  thread_filled : Right T resting (set peaks (slot t r) w.best) (set finals t w.balance) w.rows r t
  thread_filled =
      record {
        lower = λ d s a b. get_or-set_other peaks (slot t r) (slot d s) w.best 0 (λ e. omega (arith, low)) ∙ right.lower d s a b;
        here = λ d a b. at_load d a b (ℕ_discrete d t);
        balances = λ d a b. at_end_lem d a b (ℕ_discrete d t);
        peaks_size = length-set peaks (slot t r) w.best ∙ right.peaks_size;
        finals_size = length-set finals t w.balance ∙ right.finals_size;
        rows_size = f.size;
        none = f.none;
      }
    where
      at_load : (d : ℕ) → t ≤ d → d < T.threads → Dec (d ≡ t) → get_or (set peaks (slot t r) w.best) (slot d r) 0 ≡ peak_on T (standing T resting) d r
      at_load d a b (yes e) = rw e (get_or-set_same peaks (slot t r) w.best 0 (omega (arith, right.peaks_size, low, h, l.few_threads)) ∙ f.best)
      at_load d a b (no n) = get_or-set_other peaks (slot t r) (slot d r) w.best 0 (λ e. n (omega arith)) ∙ right.here d (omega (arith, a, n)) b

      at_end_lem : (d : ℕ) → t ≤ d → d < T.threads → Dec (d ≡ t) → get_or (set finals t w.balance) d 0 ≡ final T d
      at_end_lem d a b (yes e) = rw e (get_or-set_same finals t w.balance 0 (omega (arith, right.finals_size, h, l.few_threads)) ∙ f.balance)
      at_end_lem d a b (no n) = get_or-set_other finals t d w.balance 0 n ∙ right.balances d (omega (arith, a, n)) b

pub few : {s : List ℕ} {n : ℕ} → Accepted s n → n ≤ 1024
few {s} a = omega (arith, a.threads, (lawful s a.rules).few_threads)

-- with what the code gives
module _ (s : List ℕ) (n : ℕ) (accepted : Accepted s n) (resting : Bool) (peaks finals rows : List ℕ) (r : ℕ) (low : r ≤ 16) where
  pub filled_down : (t : ℕ) → t < n → Right (table_of s) resting peaks finals rows r (suc t) → (b m d : ℕ) (rows' peaks' finals' : List ℕ)
      → walk b m d rows' ≡ walked (code_at (bodies_from s n)) (argument_at (bodies_from s n)) resting peaks finals r ((table_of s).first t) rows ((table_of s).count t)
      → peaks' ≡ set peaks (17 * t + r) m → finals' ≡ set finals t b → Right (table_of s) resting peaks' finals' rows' r t
  unfolding table_of
  filled_down t h right b m d rows' peaks' finals' w p q =
      let k : t < (table_of s).threads = omega (arith, h, accepted.threads) in
      let e : walk b m d rows' ≡ walked (table_of s).code (table_of s).argument resting peaks finals r ((table_of s).first t) rows ((table_of s).count t) = rw accepted.threads at w in
      rw (p, q)
      (thread_filled (table_of s) (lawful s accepted.rules) (argument_short s) resting peaks finals rows r t low k right (walk b m d rows')
      (subst (Found (table_of s) (lawful s accepted.rules) (argument_short s) resting peaks finals rows r t low k right) (sym e)
      (walk_right_lem (table_of s) (lawful s accepted.rules) (argument_short s) resting peaks finals rows r t low k right)))

  -- no thread is left: a load more
  pub filled_load : Right (table_of s) resting peaks finals rows r 0 → Right (table_of s) resting peaks finals rows (suc r) n
  filled_load right =
      record {
        lower = λ d x a b. below d x a b (ℕ_discrete x r);
        here = λ d a b. absurd (omega (arith, accepted.threads));
        balances = λ d a b. absurd (omega (arith, accepted.threads));
        peaks_size = right.peaks_size;
        finals_size = right.finals_size;
        rows_size = right.rows_size;
        none = right.none;
      }
    where
      below : (d x : ℕ) → d < (table_of s).threads → x < suc r → Dec (x ≡ r) → get_or peaks (slot d x) 0 ≡ peak_on (table_of s) (standing (table_of s) resting) d x
      below d x a b (yes e) = rw e (right.here d (omega arith) a)
      below d x a b (no m) = right.lower d x a (omega (arith, b, m))
