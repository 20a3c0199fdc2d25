-- The totals over the parts are the joined table's facts, and small; the first part that is refused.
use Rattle.std.specs.Prelude.{Err, Ok, Result, ⊤}
use Rattle.table.specs.declared.Refusal.{Refusal}
use mathlib.Core.Path.{◌≡◌, refl, sym}
use Prim.Native.Nat.{ℕ, suc, ◌+◌, ◌*◌, ◌≤◌, max}
use mathlib.Core.List.{List, [], ◌∷◌, map}
use native.Mathlib.Omega.{arith}
use lib.ListN.{length}
use Rattle.table.specs.Sum.{greatest}
use Rattle.table.specs.Format.{kind, table_of}
use Rattle.table.specs.declared.kinds.Kind.TheVariants.{Alloc as alloc}
use Rattle.table.specs.Pass.{first_found}
use Rattle.table.specs.Checks.{alloc_of, passes}
use Rattle.table.specs.Serial.{S1}
use Rattle.table.specs.Load.{facts_of}
use Rattle.table.proofs.Tests.{no_way}
use Rattle.table.proofs.Passes.{passes_rules}
use Rattle.table.proofs.Peaks.{peak_bound}
use Rattle.table.proofs.Walks.{own_small}
use Rattle.table.proofs.ReadBack.{argument_short}
use Rattle.order.proofs.Lawful.{Lawful, lawful}
use Rattle.facts.specs.Weigh.{weigh, weighed_by, weighing}
use Rattle.facts.specs.declared.Weighed.{Weighed}
use Rattle.facts.proofs.Accepted.{kept, shallow, few_levels}
use Rattle.parts.specs.Joined.{deepest}
use Rattle.joining.specs.Joining.{weighed, threads_in, actions_in, peak_from, joined_facts}
use Rattle.joining.specs.Answers.{first_refused, joined_with}
use Rattle.joining.specs.Code.Steps.{no_part, add_part, totals_from, facts_from, weights_by, weights_from, answered, Small, SmallPart}
use Rattle.joining.specs.declared.weights.Totals.{Totals}
use Rattle.joining.proofs.JoinFacts.{left_peak}
use Rattle.joining.proofs.JoinedWhole.{lawful_keeps}
use Rattle.joining.proofs.JoinRows.{AllFit}

-- ---- one part

-- what no check refuses
accepted_lawful : (s : List ℕ) → first_found (passes s) ≡ Ok tt → Lawful (table_of s)
accepted_lawful s e = lawful s ((passes_rules s).0 e)

alloc_small : (s : List ℕ) (a : ℕ) → alloc_of (table_of s) a ≤ 16777215
unfolding alloc_of
alloc_small s a = own_small alloc (kind (table_of s) a) ((table_of s).argument a) (argument_short s a)

serial_small : (s : List ℕ) → Lawful (table_of s) → S1 (table_of s) ≤ 16777215 * (table_of s).actions
unfolding S1
serial_small s l = peak_bound (table_of s) l.contents l.bodies l.nesting l.balances 16777215 (λ a h. alloc_small s a) 0 l.some_thread

pub weigh_small : (s : List ℕ) → first_found (passes s) ≡ Ok tt → SmallPart (weigh (table_of s))
unfolding facts_of
weigh_small s e =
    let l = accepted_lawful s e in
    let k = kept s e refl refl in
    let p : S1 (table_of s) ≤ 16777215 * (table_of s).actions = serial_small s l in
    record {
      threads = l.few_threads;
      actions = l.few_actions;
      left = omega (arith, left_peak (table_of s) (lawful_keeps (table_of s) l), p, l.few_actions);
      peak = omega (arith, p, l.few_actions);
      depth = shallow k;
      nested = few_levels k;
    }

-- ---- the totals

pub add_small : (i : ℕ) (t : Totals) (w : Weighed) → Small i t → SmallPart w → Small (suc i) (add_part i t w)
add_small i t w a b =
    record {
      threads = omega (arith, a.threads, b.threads);
      actions = omega (arith, a.actions, b.actions);
      held = omega (arith, a.held, b.left);
      peak = omega (arith, a.peak, a.held, b.peak);
      depth = omega (arith, a.depth, b.depth);
      nested = omega (arith, a.nested, b.nested);
    }

module _ where
  pub total_threads : (ws : List Weighed) (i : ℕ) (t : Totals) → (totals_from i t ws).threads ≡ t.threads + threads_in ws
  unfolding totals_from threads_in
  total_threads [] i t = omega arith
  total_threads (w ∷ ws) i t = omega (arith, total_threads ws (suc i) (add_part i t w))

  pub total_actions : (ws : List Weighed) (i : ℕ) (t : Totals) → (totals_from i t ws).actions ≡ t.actions + actions_in ws
  unfolding totals_from actions_in
  total_actions [] i t = omega arith
  total_actions (w ∷ ws) i t = omega (arith, total_actions ws (suc i) (add_part i t w))

  total_peak : (ws : List Weighed) (i : ℕ) (t : Totals) → (totals_from i t ws).peak ≡ max t.peak (peak_from t.held ws)
  unfolding totals_from peak_from
  total_peak [] i t = omega arith
  total_peak (w ∷ ws) i t = omega (arith, total_peak ws (suc i) (add_part i t w))

  total_depth : (ws : List Weighed) (i : ℕ) (t : Totals) → (totals_from i t ws).depth ≡ max t.depth (deepest (suc i) (map (λ (w : Weighed). w.facts.depth) ws))
  unfolding totals_from deepest
  total_depth [] i t = omega arith
  total_depth (w ∷ ws) i t = omega (arith, total_depth ws (suc i) (add_part i t w))

  total_nested : (ws : List Weighed) (i : ℕ) (t : Totals) → (totals_from i t ws).nested ≡ max t.nested (greatest (λ (w : Weighed). w.facts.nested) ws)
  unfolding totals_from greatest
  total_nested [] i t = omega arith
  total_nested (w ∷ ws) i t = omega (arith, total_nested ws (suc i) (add_part i t w))

pub totals_joined : (ws : List Weighed) → facts_from (length ws) (totals_from 0 no_part ws) ≡ joined_facts ws
unfolding joined_facts
totals_joined ws =
    let n : (totals_from 0 no_part ws).threads ≡ threads_in ws = omega (arith, total_threads ws 0 no_part) in
    let m : (totals_from 0 no_part ws).actions ≡ actions_in ws = omega (arith, total_actions ws 0 no_part) in
    let p : (totals_from 0 no_part ws).peak ≡ peak_from 0 ws = omega (arith, total_peak ws 0 no_part) in
    let d : (totals_from 0 no_part ws).depth ≡ deepest 1 (map (λ (w : Weighed). w.facts.depth) ws) = omega (arith, total_depth ws 0 no_part) in
    let k : (totals_from 0 no_part ws).nested ≡ greatest (λ (w : Weighed). w.facts.nested) ws = omega (arith, total_nested ws 0 no_part) in
    rw (n, m, p, d, k)

-- ---- all parts, or the first that is refused

pub weights_answer : (ps : List (List ℕ)) (i k : ℕ) (t : Totals) → answered (weights_from i t ps) k ≡ first_refused i ps (joined_with (facts_from k (totals_from i t (map weighed ps))))
unfolding weights_from first_refused totals_from weighing
weights_answer [] i k t = refl
weights_answer (s ∷ ps) i k t = go (first_found (passes s)) (weights_answer ps (suc i) k (add_part i t (weighed s)))
  where
    go : (f : Result ⊤ Refusal) → answered (weights_from (suc i) (add_part i t (weighed s)) ps) k ≡ first_refused (suc i) ps (joined_with (facts_from k (totals_from (suc i) (add_part i t (weighed s)) (map weighed ps))))
        → answered (weights_by (weighed_by f (weigh (table_of s))) i t (λ (u : Totals). weights_from (suc i) u ps)) k
        ≡ Rattle.joining.specs.Answers.in_part f i (first_refused (suc i) ps (joined_with (facts_from k (totals_from (suc i) (add_part i t (weighed s)) (map weighed ps)))))
    go (Ok _) ih = ih
    go (Err r) ih = refl

-- parts that were all weighed are all accepted, and their totals small
pub record Weighs (ps : List (List ℕ)) (i : ℕ) (t u : Totals) : Type 0 where
  pub fit : AllFit ps
  pub small : Small (i + length ps) u
  pub total : u ≡ totals_from i t (map weighed ps)

pub all_weighed : (ps : List (List ℕ)) (i : ℕ) (t u : Totals) → Small i t → weights_from i t ps ≡ Ok u → Weighs ps i t u
unfolding weights_from AllFit weighing totals_from
all_weighed [] i t u a e =
    let z : i + 0 ≡ i = omega arith in
    let q : t ≡ u = cc in
    record { fit = tt; small = rw (z, ← q) a; total = sym q }
all_weighed (s ∷ ps) i t u a e = go (first_found (passes s)) refl e (λ b. all_weighed ps (suc i) (add_part i t (weighed s)) u b)
  where
    go : (f : Result ⊤ Refusal) → first_found (passes s) ≡ f → weights_by (weighed_by f (weigh (table_of s))) i t (λ (x : Totals). weights_from (suc i) x ps) ≡ Ok u
        → (Small (suc i) (add_part i t (weighed s)) → weights_from (suc i) (add_part i t (weighed s)) ps ≡ Ok u → Weighs ps (suc i) (add_part i t (weighed s)) u) → Weighs (s ∷ ps) i t u
    go (Ok _) q d ih =
        let r = ih (add_small i t (weighed s) a (weigh_small s q)) d in
        let z : i + suc (length ps) ≡ suc i + length ps = omega arith in
        record { fit = (lawful_keeps (table_of s) (accepted_lawful s q), r.fit); small = rw z r.small; total = r.total }
    go (Err x) q d ih = absurd (no_way (cc))

pub weighing_small : (s : List ℕ) (w : Weighed) → weighing s ≡ Ok w → SmallPart w
unfolding weighing
weighing_small s w e = go (first_found (passes s)) refl e
  where
    go : (f : Result ⊤ Refusal) → first_found (passes s) ≡ f → weighed_by f (weigh (table_of s)) ≡ Ok w → SmallPart w
    go (Ok _) q d = let z : weigh (table_of s) ≡ w = cc in rw (← z) (weigh_small s q)
    go (Err r) q d = absurd (no_way (cc))
