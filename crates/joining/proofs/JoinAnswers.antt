-- The answer by what weighing the parts gives, the buffer, and the values without the answer.
use Rattle.std.specs.Prelude.{Err, Ok, Result, ⊤}
use Rattle.table.specs.declared.Refusal.{Refusal}
use mathlib.Core.Path.{◌≡◌, refl, sym, ap, ◌∙◌}
use Prim.Native.Nat.{ℕ, suc, ◌+◌, ◌*◌, ◌≤◌}
use mathlib.Core.List.{List, [], ◌∷◌, map, flatten}
use mathlib.Core.Bool.{Bool, true, false, not, ◌||◌}
use native.Mathlib.Omega.{arith}
use lib.Dec.{ltb, eqb}
use lib.ListN.{length}
use borrow.Author.Tests.{ltb-false, eqb-true, eqb-false}
use Rattle.table.specs.Sum.{pick}
use Rattle.table.specs.Format.{table_of}
use Rattle.table.specs.Pass.{first_found, refusal}
use Rattle.table.specs.Checks.{passes}
use Rattle.table.specs.Load.{facts_of}
use Rattle.table.specs.declared.Facts.{Facts}
use Rattle.table.proofs.ReadBack.{bytes_length}
use Rattle.text.specs.Text.{buffer_at}
use Rattle.text.specs.Puts.{put_all}
use Rattle.text.proofs.Putting.{puts_whole}
use Rattle.parts.specs.Joined.{joined_bodies}
use Rattle.rows.specs.Rows.{over}
use Rattle.joining.specs.Joining.{joined_bytes, weighed, threads_in, actions_in, joined_facts}
use Rattle.joining.specs.Answers.{parts_of, sum_of, parts_wrong, in_part, first_refused, too_large as is_too_large, joined_with, joined, join_values_of, join_values, refused_values, whole_values, part_values, first_values}
use Rattle.joining.specs.Code.Rows.{threads_over, actions_over, joined_rows}
use Rattle.joining.specs.Code.Steps.{Lent, LentFew, Small, no_part, totals_from, facts_from, weights_from, answered, AllWeighed}
use Rattle.joining.specs.declared.weights.Totals.{Totals}
use Rattle.joining.proofs.JoinedWhole.{bodies_over}
use Rattle.joining.proofs.JoinRows.{joined_size_lem, joined_count, joined_bytes_lem}
use Rattle.joining.proofs.Splits.{parts_length}
use Rattle.joining.proofs.Weighs.{Weighs, all_weighed, total_threads, total_actions, totals_joined, weights_answer}
use Rattle.joining.specs.declared.JoinError.{JoinError}
use Rattle.joining.specs.declared.JoinError.TheVariants.{Whole}

-- ---- 47

module _ (ls s : List ℕ) (e : parts_wrong ls s ≡ false) where
  not_wrong : (p q r : Bool) → (p || (q || not r)) ≡ false → (p ≡ false) × (q ≡ false) × (r ≡ true)
  not_wrong true q r h = absurd (Rattle.table.proofs.Tests.no_way (cc))
  not_wrong false true r h = absurd (Rattle.table.proofs.Tests.no_way (cc))
  not_wrong false false true h = (refl, refl, refl)
  not_wrong false false false h = absurd (Rattle.table.proofs.Tests.no_way (cc))

  pub lent : Lent ls s
  unfolding parts_wrong
  lent =
      let n = not_wrong (eqb (length ls) 0) (ltb 16 (length ls)) (eqb (sum_of ls) (length s)) e in
      let d : length ls ≡ 0 → ⊥ = eqb-false (length ls) 0 n.0 in
      record { some = omega (arith, d); few = ltb-false 16 (length ls) n.1; adds = eqb-true (sum_of ls) (length s) n.2 }

-- ---- the answer

mapped : (ps : List (List ℕ)) → length (map weighed ps) ≡ length ps
mapped [] = refl
mapped (s ∷ ps) = ap suc (mapped ps)

facts_are : (ps : List (List ℕ)) → facts_from (length ps) (totals_from 0 no_part (map weighed ps)) ≡ joined_facts (map weighed ps)
facts_are ps = ap (λ (k : ℕ). facts_from k (totals_from 0 no_part (map weighed ps))) (sym (mapped ps)) ∙ totals_joined (map weighed ps)

pub answer_is : (ls s : List ℕ) → parts_wrong ls s ≡ false → answered (weights_from 0 no_part (parts_of ls s)) (length ls) ≡ joined ls s
unfolding joined
answer_is ls s e =
    rw e
    (weights_answer (parts_of ls s) 0 (length ls) no_part
    ∙ ap (λ (f : Facts). first_refused 0 (parts_of ls s) (joined_with f)) (ap (λ (k : ℕ). facts_from k (totals_from 0 no_part (map weighed (parts_of ls s)))) (sym (parts_length ls s)) ∙ facts_are (parts_of ls s)))

pub wrong_is : (ls s : List ℕ) → parts_wrong ls s ≡ true → Err (Whole (refusal 47 0)) ≡ joined ls s
unfolding joined
wrong_is ls s e = rw e

-- ---- the values

first_values_lem : (ps : List (List ℕ)) (i : ℕ) (x : Result Facts JoinError) → join_values_of (first_refused i ps x) ≡ first_values i ps (join_values_of x)
unfolding first_refused first_values
first_values_lem [] i x = refl
first_values_lem (s ∷ ps) i x = go (first_found (passes s)) (first_values_lem ps (suc i) x)
  where
    go : (f : Result ⊤ Refusal) → join_values_of (first_refused (suc i) ps x) ≡ first_values (suc i) ps (join_values_of x)
        → join_values_of (in_part f i (first_refused (suc i) ps x)) ≡ part_values f i (first_values (suc i) ps (join_values_of x))
    go (Ok _) ih = ih
    go (Err r) ih = refl

with_values : (f : Facts) → join_values_of (joined_with f) ≡ pick (is_too_large f) (refused_values (refusal 48 0) 0) (whole_values f)
with_values f = go (is_too_large f)
  where
    go : (b : Bool) → join_values_of (pick {A = Result Facts JoinError} b (Err (Whole (refusal 48 0))) (Ok f)) ≡ pick b (refused_values (refusal 48 0) 0) (whole_values f)
    go true = refl
    go false = refl

pub values_are : (ls s : List ℕ) → join_values_of (joined ls s) ≡ join_values ls s
unfolding joined join_values
values_are ls s = go (parts_wrong ls s)
  where
    go : (b : Bool) → join_values_of (pick b (Err (Whole (refusal 47 0))) (first_refused 0 (parts_of ls s) (joined_with (joined_facts (map weighed (parts_of ls s))))))
        ≡ pick b (refused_values (refusal 47 0) 0) (first_values 0 (parts_of ls s) (pick (is_too_large (joined_facts (map weighed (parts_of ls s)))) (refused_values (refusal 48 0) 0) (whole_values (joined_facts (map weighed (parts_of ls s))))))
    go true = refl
    go false = first_values_lem (parts_of ls s) 0 (joined_with (joined_facts (map weighed (parts_of ls s)))) ∙ ap (first_values 0 (parts_of ls s)) (with_values (joined_facts (map weighed (parts_of ls s))))

-- ---- accepted parts

threads_are : (ps : List (List ℕ)) → threads_in (map weighed ps) ≡ threads_over ps
unfolding threads_in threads_over facts_of table_of
threads_are [] = refl
threads_are (s ∷ ps) = rw (threads_are ps)

actions_are : (ps : List (List ℕ)) → actions_in (map weighed ps) ≡ actions_over ps
unfolding actions_in actions_over facts_of table_of
actions_are [] = refl
actions_are (s ∷ ps) = rw (actions_are ps)

module _ (ls s : List ℕ) (v : Lent ls s) (t : Totals) (w : AllWeighed (parts_of ls s) t) where
  pub weighs : Weighs (parts_of ls s) 0 no_part t
  weighs =
      all_weighed (parts_of ls s) 0 no_part t
      (record { threads = omega arith; actions = omega arith; held = omega arith; peak = omega arith; depth = omega arith; nested = omega arith }) w.weighed

  pub small : Small 16 t
  small =
      let a = weighs.small in
      let n = parts_length ls s in
      record {
        threads = omega (arith, a.threads, n, v.few);
        actions = omega (arith, a.actions, n, v.few);
        held = omega (arith, a.held, n, v.few);
        peak = omega (arith, a.peak, n, v.few);
        depth = omega (arith, a.depth, n, v.few);
        nested = a.nested;
      }

  pub total_n : t.threads ≡ threads_over (parts_of ls s)
  total_n = omega (arith, ap (λ (u : Totals). u.threads) weighs.total, total_threads (map weighed (parts_of ls s)) 0 no_part, threads_are (parts_of ls s))

  pub total_m : t.actions ≡ actions_over (parts_of ls s)
  total_m = omega (arith, ap (λ (u : Totals). u.actions) weighs.total, total_actions (map weighed (parts_of ls s)) 0 no_part, actions_are (parts_of ls s))

  module _ (few : suc t.threads ≤ 1024) (few_actions : suc (2 * length ls) + t.actions ≤ 8192) where
    pub lent_few : LentFew ls s
    lent_few = record { lent = v; threads = omega (arith, few, total_n); actions = omega (arith, few_actions, total_m) }

    limit : suc (2 * length (parts_of ls s)) + actions_over (parts_of ls s) ≤ 8192
    limit = omega (arith, few_actions, total_m, parts_length ls s)

    limit_threads : suc (threads_over (parts_of ls s)) ≤ 1024
    limit_threads = omega (arith, few, total_n)

    bytes_short : length (joined_bytes (parts_of ls s)) ≤ 36868
    unfolding joined_bytes
    bytes_short =
        omega (
          arith,
          bytes_length (joined_bodies (bodies_over (parts_of ls s))),
          joined_size_lem (parts_of ls s) weighs.fit limit_threads limit,
          joined_count (parts_of ls s) weighs.fit limit_threads limit,
          limit_threads,
          limit,
        )

    pub joined_there : (out o : List ℕ) (k : ℕ) → 36868 ≤ length out → buffer_at o k ≡ put_all (buffer_at out 0) (joined_rows (parts_of ls s)) → o ≡ over (joined_bytes (parts_of ls s)) out
    joined_there out o k room e =
        let b : flatten (joined_rows (parts_of ls s)) ≡ joined_bytes (parts_of ls s) = joined_bytes_lem (parts_of ls s) weighs.fit limit_threads limit in
        let z = puts_whole {s = out} {o = o} {r = k} {ts = joined_rows (parts_of ls s)} {m = 36868} room (record { put = e; short = rw b bytes_short }) in
        let n : k ≡ length (joined_bytes (parts_of ls s)) = rw b at z.0 in
        rw (b, n) at z.1

-- ---- 48

pub few_of : (n m : ℕ) → (ltb 1024 n || ltb 8192 m) ≡ false → (n ≤ 1024) × (m ≤ 8192)
few_of n m e = go (ltb 1024 n) (ltb 8192 m) refl refl e
  where
    go : (p q : Bool) → ltb 1024 n ≡ p → ltb 8192 m ≡ q → (p || q) ≡ false → (n ≤ 1024) × (m ≤ 8192)
    go true q h k d = absurd (Rattle.table.proofs.Tests.no_way (cc))
    go false true h k d = absurd (Rattle.table.proofs.Tests.no_way (cc))
    go false false h k d = (ltb-false 1024 n h, ltb-false 8192 m k)

module _ (k : ℕ) (t : Totals) where
  -- n and m as code has them
  same_n : 1 + t.threads ≡ suc t.threads
  same_n = omega arith

  same_m : 2 * k + 1 + t.actions ≡ suc (2 * k) + t.actions
  same_m = omega arith

  pub too_large : (ltb 1024 (1 + t.threads) || ltb 8192 (2 * k + 1 + t.actions)) ≡ true → Err (Whole (refusal 48 0)) ≡ joined_with (facts_from k t)
  too_large e = let z : is_too_large (facts_from k t) ≡ true = rw (same_n, same_m) at e in rw z

  pub fits_in : (ltb 1024 (1 + t.threads) || ltb 8192 (2 * k + 1 + t.actions)) ≡ false
      → Ok (record { threads = 1 + t.threads; actions = 2 * k + 1 + t.actions; peak = t.peak; depth = 1 + t.depth; nested = 1 + t.nested }) ≡ joined_with (facts_from k t)
  fits_in e =
      let z : is_too_large (facts_from k t) ≡ false = rw (same_n, same_m) at e in
      let d : 1 + t.depth ≡ suc t.depth = omega arith in
      let n : 1 + t.nested ≡ suc t.nested = omega arith in
      rw (z, same_n, same_m, d, n)
