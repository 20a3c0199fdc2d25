-- What joining's inner functions promise: the parts lent, and the totals over them.
use Rattle.std.specs.Prelude.{◌≡◌, ℕ, suc, ◌+◌, ◌*◌, ◌≤◌, ◌<◌, max, List, [], ◌∷◌, length, Err, Ok, Result}
use Rattle.table.specs.declared.Refusal.{Refusal}
use Rattle.table.specs.declared.Facts.{Facts}
use Rattle.facts.specs.Weigh.{weighing}
use Rattle.facts.specs.declared.Weighed.{Weighed}
use Rattle.joining.specs.Answers.{parts_of, sum_of, joined_with}
use Rattle.joining.specs.Code.Rows.{threads_over, actions_over}
use Rattle.joining.specs.declared.weights.Totals.{Totals}
use Rattle.joining.specs.declared.JoinError.{JoinError}
use Rattle.joining.specs.declared.JoinError.TheVariants.{InPart}

-- 47 does not apply
pub record Lent (ls s : List ℕ) : Type 0 where
  pub some : 0 < length ls
  pub few : length ls ≤ 16
  pub adds : sum_of ls ≡ length s

-- and 48 does not
pub record LentFew (ls s : List ℕ) : Type 0 where
  pub lent : Lent ls s
  pub threads : suc (threads_over (parts_of ls s)) ≤ 1024
  pub actions : suc (2 * length ls) + actions_over (parts_of ls s) ≤ 8192

-- ---- totals over the parts

abbrev pub no_part : Totals
no_part = record { threads = 0; actions = 0; held = 0; peak = 0; depth = 0; nested = 0 }

-- part i beside those before it
abbrev pub add_part : ℕ → Totals → Weighed → Totals
add_part i t w =
    record {
      threads = t.threads + w.facts.threads;
      actions = t.actions + w.facts.actions;
      held = t.held + w.left;
      peak = max t.peak (t.held + w.facts.peak);
      depth = max t.depth (2 * suc i + w.facts.depth);
      nested = max t.nested w.facts.nested;
    }

unfoldable pub totals_from : ℕ → Totals → List Weighed → Totals
totals_from i t [] = t
totals_from i t (w ∷ ws) = totals_from (suc i) (add_part i t w) ws

-- the facts of k parts joined
abbrev pub facts_from : ℕ → Totals → Facts
facts_from k t =
    record { threads = suc t.threads; actions = suc (2 * k) + t.actions; peak = t.peak; depth = suc t.depth; nested = suc t.nested }

-- one part weighed, and what follows where it is accepted
abbrev pub weights_by : Result Weighed Refusal → ℕ → Totals → (Totals → Result Totals JoinError) → Result Totals JoinError
weights_by (Err r) i t rest = Err (InPart i r)
weights_by (Ok w) i t rest = rest (add_part i t w)

unfoldable pub weights_from : ℕ → Totals → List (List ℕ) → Result Totals JoinError
weights_from i t [] = Ok t
weights_from i t (s ∷ ps) = weights_by (weighing s) i t (λ (u : Totals). weights_from (suc i) u ps)

-- the answer to k parts that were weighed
abbrev pub answered : Result Totals JoinError → ℕ → Result Facts JoinError
answered (Err e) k = Err e
answered (Ok t) k = joined_with (facts_from k t)

-- totals over i accepted parts are small
pub record Small (i : ℕ) (t : Totals) : Type 0 where
  pub threads : t.threads ≤ 1024 * i
  pub actions : t.actions ≤ 8192 * i
  pub held : t.held ≤ 137438953472 * i
  pub peak : t.peak ≤ 137438953472 * i
  pub depth : t.depth ≤ 8192 + 2 * i
  pub nested : t.nested ≤ 1024

-- what an accepted part weighs
pub record SmallPart (w : Weighed) : Type 0 where
  pub threads : w.facts.threads ≤ 1024
  pub actions : w.facts.actions ≤ 8192
  pub left : w.left ≤ 137438953472
  pub peak : w.facts.peak ≤ 137438953472
  pub depth : w.facts.depth ≤ 8192
  pub nested : w.facts.nested ≤ 1024

-- the totals of parts that are all accepted
pub record AllWeighed (ps : List (List ℕ)) (t : Totals) : Type 0 where
  pub weighed : weights_from 0 no_part ps ≡ Ok t
