use Rattle.std.specs.Prelude.{Err, Result, None, Some, Option, ⊤}
use Rattle.table.specs.declared.Refusal.{Refusal}
use mathlib.Core.Path.{◌≡◌, refl, sym, ap, ◌∙◌}
use Prim.Native.Nat.{ℕ, suc, ◌+◌, ◌-◌, ◌*◌, ◌<◌, ◌≤◌}
use mathlib.Core.List.{List}
use native.Mathlib.Omega.{arith}
use lib.ListN.{length, get_or, set, drop}
use Rattle.table.specs.Sum.{sum_to}
use Rattle.table.specs.Format.{kind, bodies_from, body_of, table_of, first_of, count_of, own_amount}
use Rattle.table.specs.declared.kinds.Kind.{Kind}
use Rattle.table.specs.declared.kinds.Kind.TheVariants.{Alloc as alloc, Free as free, Join as join}
use Rattle.table.specs.Pass.{try_from, try_pass, or_else}
use Rattle.table.specs.Checks.{counts_below, alloc_of, free_of, whole, part_of, balance, balance_below0, balance_pass}
use Rattle.table.specs.Rules.{ContentRules, BodyRules}
use Rattle.table.specs.Code.Steps.{Nested, Filled, WalkReady, amount_at}
use Rattle.checks.specs.Code.Steps.{overdrawn, balance_of}
use Rattle.checks.specs.declared.balance.Balance.{Balance}
use Rattle.table.proofs.Tests.{no_way, negative_is}
use Rattle.table.proofs.Sizes.{sizes}
use Rattle.table.proofs.Trying.{try_from_split, try_from_last, try_from_all}
use Rattle.table.proofs.Bodies.{names_join, first_is, counts_all, body_within, owner_at}
use Rattle.table.proofs.Amounts.{whole_is, part_of_bound}
use Rattle.table.proofs.Walks.{argument_small, children_above, own_small, sums_agree, walk_ready, filled_set}
use Rattle.checks.proofs.Least.{first_cong, first_below, first_found_at, says, says_at}
use Rattle.table.proofs.Parts.{body_from}
use Rattle.checks.proofs.balance.balances.Invariants.{Inv}
use Rattle.checks.proofs.balance.balances.Goals.{After-body_of-body}
use Rattle.checks.proofs.balance.balances.Goals as goal

start : {s : List ℕ} {n m : ℕ} {rises falls : List ℕ} → Nested s n m → ((i : ℕ) → get_or s i 0 < 256) → length rises ≡ 1024 → length falls ≡ 1024 → Inv s n m rises falls None n
unfolding table_of
start {s} {n} {m} r bytes p q =
    let d = r.formed.laid.headed in
    let e : counts_below (table_of s) n ≡ m = rw (d.threads, d.actions) (counts_all (table_of s) r.formed.laid.contents) in
    record {
      nested = r;
      sizes = sizes d;
      bytes = bytes;
      within = omega arith;
      rises_done = record { size = p; right = λ t l k. absurd (omega (arith, d.threads)) };
      falls_done = record { size = q; right = λ t l k. absurd (omega (arith, d.threads)) };
      inside = λ i z. no_way (cc);
      found = try_from_last _ _ m e;
    }

-- after the loop all places are tried
ends : {s : List ℕ} {n m : ℕ} {rises falls : List ℕ} {lowest : Option ℕ} {t : ℕ} → Inv s n m rises falls lowest t → t ≤ 0
    → {r : Result ⊤ Refusal} → r ≡ says_at 10 lowest → r ≡ try_pass (balance_pass (table_of s))
unfolding try_pass table_of sum_to
ends {s} {m = m} {t = t} v h d =
    let e : t ≡ 0 = omega arith in
    d ∙ sym (ap (try_from (balance_pass (table_of s)).checks 0) (sym v.nested.formed.laid.headed.actions) ∙ sym (try_from_all _ m) ∙ rw e at v.found)

-- the turn for thread u: the invariant for the thread above it, and what has been read
record Turn (s : List ℕ) (n m : ℕ) (rises falls : List ℕ) (lowest : Option ℕ) (t u first count : ℕ) (body : List ℕ) : Type 0 where
  inv : Inv s n m rises falls lowest t
  next : suc u ≡ t
  first_at : first ≡ (table_of s).first u
  count_at : count ≡ (table_of s).count u
  body_is : body ≡ body_of s u

module _ {s : List ℕ} {n m : ℕ} {rises falls : List ℕ} {lowest : Option ℕ} {t u first count : ℕ} {body : List ℕ} (w : Turn s n m rises falls lowest t u first count body) where
  nested : Nested s n m
  nested = w.inv.nested

  content : ContentRules (table_of s)
  content = nested.formed.laid.contents

  bodies : BodyRules (table_of s)
  bodies = nested.formed.bodies

  below_n : u < (table_of s).threads
  unfolding table_of
  below_n = omega (arith, w.next, w.inv.within, nested.formed.laid.headed.threads)

  within_m : first + count ≤ m
  unfolding table_of
  within_m = omega (arith, body_within (table_of s) content u below_n, w.first_at, w.count_at, nested.formed.laid.headed.actions)

  -- the sums of the body are those of the thread, and small
  module _ (own : Kind) (mine : ℕ → ℕ) (mine-is : (a : ℕ) → mine a ≡ own_amount own (kind (table_of s) a) ((table_of s).argument a))
      (amounts : List ℕ) (filled : Filled (table_of s) (whole (table_of s) mine) amounts t) where
    part_is : (k : ℕ) → k ≤ (table_of s).count u → sum_to (amount_at own join (body_of s u) amounts) k ≡ part_of (table_of s) mine u k
    part_is = sums_agree s own join mine mine-is amounts u (children_above (table_of s) content bodies join names_join u below_n) (rw w.next filled)

    part_small : sum_to (amount_at own join (body_of s u) amounts) ((table_of s).count u) ≤ 16777215 * m
    unfolding table_of
    part_small =
        let b : part_of (table_of s) mine u ((table_of s).count u) ≤ 16777215 * (table_of s).actions =
        part_of_bound (table_of s) content bodies nested.nesting mine 16777215
        (λ a k. rw (mine-is a) (own_small own (kind (table_of s) a) ((table_of s).argument a) (argument_small s w.inv.bytes a)))
        u ((table_of s).count u) below_n (omega arith) in
        omega (arith, part_is ((table_of s).count u) (omega arith), nested.formed.laid.headed.actions)

    filled_next : (v : ℕ) → v ≡ sum_to (amount_at own join (body_of s u) amounts) ((table_of s).count u)
        → Filled (table_of s) (whole (table_of s) mine) (set amounts u v) u
    filled_next v e =
        filled_set (table_of s) (whole (table_of s) mine) amounts u v (omega (arith, w.next, w.inv.within, w.inv.sizes.threads_high))
        (e ∙ part_is ((table_of s).count u) (omega arith) ∙ sym (whole_is (table_of s) content bodies mine u below_n))
        (rw w.next filled)

  rise_is : (k : ℕ) → k ≤ (table_of s).count u → sum_to (amount_at alloc join (body_of s u) rises) k ≡ part_of (table_of s) (alloc_of (table_of s)) u k
  unfolding alloc_of
  rise_is = part_is alloc (alloc_of (table_of s)) (λ a. refl) rises w.inv.rises_done

  fall_is : (k : ℕ) → k ≤ (table_of s).count u → sum_to (amount_at free join (body_of s u) falls) k ≡ part_of (table_of s) (free_of (table_of s)) u k
  unfolding free_of
  fall_is = part_is free (free_of (table_of s)) (λ a. refl) falls w.inv.falls_done

  overdrawn_is : (i : ℕ) → i < (table_of s).count u → overdrawn (body_of s u) rises falls i ≡ balance_below0 (table_of s) ((table_of s).first u + i)
  unfolding overdrawn balance_below0 balance
  overdrawn_is i l =
      let e : suc ((table_of s).first u + i) - (table_of s).first u ≡ suc i = omega arith in
      rw (owner_at (table_of s) content u i below_n l, e, rise_is (suc i) l, fall_is (suc i) l)
      (sym (negative_is (part_of (table_of s) (alloc_of (table_of s)) u (suc i)) (part_of (table_of s) (free_of (table_of s)) u (suc i))))

  ready : WalkReady join body count rises falls
  unfolding table_of alloc_of free_of
  ready =
      rw (w.body_is, w.count_at)
      (walk_ready s n m nested.formed join u (count_of s u) rises falls (omega (arith, w.next, w.inv.within)) refl
      (children_above (table_of s) content bodies join names_join u below_n)
      (part_small alloc (alloc_of (table_of s)) (λ a. refl) rises w.inv.rises_done)
      (part_small free (free_of (table_of s)) (λ a. refl) falls w.inv.falls_done))

  module _ (r : Balance) (e : r ≡ balance_of body rises falls count) where
    -- what is found in this body
    body_found : try_from (balance_pass (table_of s)).checks ((table_of s).first u) count ≡ says 10 first r.below
    unfolding table_of balance_of
    body_found =
        rw (e, w.body_is, w.count_at, w.first_at, first_cong (overdrawn (body_of s u) rises falls) (λ i. balance_below0 (table_of s) (first_of s u + i)) (count_of s u) overdrawn_is)
        (first_found_at (record { number = 10; applies = balance_below0 (table_of s) }) (first_of s u) (count_of s u))

    -- and from this body on
    found_next : try_from (balance_pass (table_of s)).checks (counts_below (table_of s) u) (m - counts_below (table_of s) u)
        ≡ or_else (says 10 first r.below) (says_at 10 lowest)
    unfolding sum_to table_of
    found_next =
        let f : ℕ = counts_below (table_of s) u in
        let a : (table_of s).first u ≡ f = first_is (table_of s) content u below_n in
        let g : counts_below (table_of s) t ≡ f + count = rw (← w.next, w.count_at) in
        let j : m - f ≡ count + (m - (f + count)) = omega (arith, within_m, w.first_at) in
        rw j (try_from_split (balance_pass (table_of s)).checks f count (m - (f + count)) ∙ rw (rw a at body_found, rw g at w.inv.found))

    again : (lowest' : Option ℕ)
        → try_from (balance_pass (table_of s)).checks (counts_below (table_of s) u) (m - counts_below (table_of s) u) ≡ says_at 10 lowest'
        → ((i : ℕ) → lowest' ≡ Some i → i < m)
        → Inv s n m (set rises u r.rise) (set falls u r.fall) lowest' u
    unfolding table_of balance_of alloc_of free_of
    again lowest' f j =
        record {
          nested = nested;
          sizes = w.inv.sizes;
          bytes = w.inv.bytes;
          within = omega (arith, w.next, w.inv.within);
          rises_done = filled_next alloc (alloc_of (table_of s)) (λ a. refl) rises w.inv.rises_done r.rise (rw (e, w.body_is, w.count_at));
          falls_done = filled_next free (free_of (table_of s)) (λ a. refl) falls w.inv.falls_done r.fall (rw (e, w.body_is, w.count_at));
          inside = j;
          found = f;
        }

    below_count : {i : ℕ} → r.below ≡ Some i → i < count
    unfolding balance_of
    below_count {i} b = first_below (overdrawn body rises falls) count i (sym (ap (λ (x : Balance). x.below) e) ∙ b)

    lower : {i : ℕ} → r.below ≡ Some i → Inv s n m (set rises u r.rise) (set falls u r.fall) (Some (first + i)) u
    lower {i} b =
        again (Some (first + i)) (rw (found_next, b))
        (λ j q. let w : first + i ≡ j = cc in omega (arith, below_count b, within_m))

    same : r.below ≡ None → Inv s n m (set rises u r.rise) (set falls u r.fall) lowest u
    same b = again lowest (rw (found_next, b)) w.inv.inside

-- the body that is walked is the thread's
body_is : {s : List ℕ} {n m : ℕ} {rises falls : List ℕ} {lowest : Option ℕ} {t : ℕ} → Inv s n m rises falls lowest t
    → (u : ℕ) {l : List ℕ} → l ≡ drop (4 * (table_of s).first u) (bodies_from s n) → l ≡ body_of s u
unfolding table_of
body_is {s} {n} v u e = e ∙ body_from s n v.nested.formed.laid.headed.threads u

turn : (c : After-body_of-body) →
    let a = c.args in
    Turn a.table.now a.n a.m c.loop-t.rises c.loop-t.falls c.loop-t.lowest c.loop-t.t (c.loop-t.t - 1) c.first-first.result c.count-count.result
    c.body_of-body.result.now
turn c =
    record {
      inv = c.loop-t.invariant;
      next = omega arith;
      first_at = c.first-first.ensures.value;
      count_at = c.count-count.ensures.value;
      body_is = body_is c.loop-t.invariant _ c.body_of-body.ensures;
    }

pub loop-t-init : goal.loop-t-init
loop-t-init c =
    start c.requires (λ i. omega (arith, c.type_inv.table i)) refl refl

pub balance_walk-w-requires : goal.balance_walk-w-requires
balance_walk-w-requires c = ready (turn (goal.at.balance_walk-w-requires c).After-body_of-body)

pub overflow_add-lowest : goal.overflow_add-lowest
overflow_add-lowest c =
    let t = turn (goal.at.overflow_add-lowest c).After-body_of-body in
    omega (arith, within_m t, below_count t _ c.balance_walk-w.ensures c.in-Some.is)

pub loop-t-preserved-in-Some : goal.loop-t-preserved-in-Some
loop-t-preserved-in-Some c =
    lower (turn (goal.at.loop-t-preserved-in-Some c).After-body_of-body) _ c.balance_walk-w.ensures c.in-Some.is

pub loop-t-preserved : goal.loop-t-preserved
loop-t-preserved c =
    same (turn (goal.at.loop-t-preserved c).After-body_of-body) _ c.balance_walk-w.ensures c.in_default.is

pub overflow_cast-a : goal.overflow_cast-a
overflow_cast-a c = omega (arith, c.loop-t.invariant.inside _ c.in-Some-lowest.is, c.loop-t.invariant.sizes)

pub returns-in-Some-lowest : goal.returns-in-Some-lowest
returns-in-Some-lowest c = ends c.loop-t.invariant c.loop-t-test.false (ap Err c.new.ensures ∙ rw c.in-Some-lowest.is)

pub returns-in-None : goal.returns-in-None
returns-in-None c = ends c.loop-t.invariant c.loop-t-test.false (rw c.in-None.is)
