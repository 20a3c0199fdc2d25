use mathlib.Core.Path.{◌≡◌, refl}
use Prim.Native.Nat.{ℕ, ◌+◌, ◌≤◌, ◌<◌}
use mathlib.Core.List.{List}
use native.Mathlib.Numerals.{add-one}
use native.Mathlib.Omega.{arith}
use Rattle.table.specs.Sum.{sum_to, Read}
use Rattle.table.specs.Format.{kind_of, code_at, argument_at, Table, kind, table_of, own_amount}
use Rattle.table.specs.declared.kinds.Kind.{Kind}
use Rattle.table.specs.declared.kinds.Kind.TheVariants.{Alloc as alloc, Free as free}
use Rattle.table.specs.Checks.{alloc_of, free_of}
use Rattle.table.proofs.Walks.{own_small}
use Rattle.soundness.specs.Code.Adding.{Adds, Added}
use Rattle.soundness.specs.declared.amounts.Sums.{Sums}
use Rattle.soundness.proofs.Lookups.{accepted_lawful, code_read, argument_read}
use Rattle.soundness.proofs.amounts.thread_sums.Invariants.{Inv}
use Rattle.soundness.proofs.amounts.thread_sums.Goals as goal

start : (s : List ℕ) (n t stop a : ℕ) (before : Sums) → Adds s n t stop before → a ≡ (table_of s).first t
    → Inv s n t stop before.allocs before.frees before.allocs before.frees a
start s n t stop a before r e =
    record {
      accepted = r.accepted;
      few = omega (arith, r.within, (accepted_lawful r.accepted).few_actions);
      upto = omega (arith, r.from);
      drawn = record { value = rw e; small = omega (arith, r.few_allocs) };
      given = record { value = rw e; small = omega (arith, r.few_frees) };
    }

-- action a's amount r is added, where j is the kind counted
module _ (T : Table) (own : ℕ → ℕ) (j : Kind) (own_is : (a : ℕ) → own a ≡ own_amount j (kind T a) (T.argument a)) where
  add : (first a before after k x r : ℕ) → Added own first a before after → k ≡ T.code a → Read (T.argument a) 16777216 x → r ≡ own_amount j (kind_of k) x
      → Added own first (a + 1) before (after + r)
  unfolding sum_to
  add first a before after k x r d e f g =
      let v : r ≡ own a = rw (own_is a, ← e, ← f.value) g in
      record {
        value = rw add-one (omega (arith, d.value));
        small = omega (arith, d.small, own_small j (kind_of k) x f.small);
      }

alloc_is : (T : Table) (a : ℕ) → alloc_of T a ≡ own_amount alloc (kind T a) (T.argument a)
unfolding alloc_of
alloc_is T a = refl

free_is : (T : Table) (a : ℕ) → free_of T a ≡ own_amount free (kind T a) (T.argument a)
unfolding free_of
free_is T a = refl

module _ (s : List ℕ) (n t stop allocs₀ frees₀ allocs frees a k x r q : ℕ) (i : Inv s n t stop allocs₀ frees₀ allocs frees a) (h : a < stop)
    (e : k ≡ (table_of s).code a) (f : Read ((table_of s).argument a) 16777216 x) (g : r ≡ own_amount alloc (kind_of k) x) (d : q ≡ own_amount free (kind_of k) x) where
  again : Inv s n t stop allocs₀ frees₀ (allocs + r) (frees + q) (a + 1)
  again =
      record {
        accepted = i.accepted;
        few = i.few;
        upto = omega arith;
        drawn = add (table_of s) (alloc_of (table_of s)) alloc (alloc_is (table_of s)) _ _ _ _ _ _ _ i.drawn e f g;
        given = add (table_of s) (free_of (table_of s)) free (free_is (table_of s)) _ _ _ _ _ _ _ i.given e f d;
      }

-- what is read in a list of actions, of the table's own
code_there : {l m : List ℕ} (a : ℕ) {k : ℕ} → l ≡ m → k ≡ code_at l a → k ≡ code_at m a
code_there a e d = rw e at d

argument_there : {l m : List ℕ} (a : ℕ) {x : ℕ} → l ≡ m → Read (argument_at l a) 16777216 x → Read (argument_at m a) 16777216 x
argument_there a e d = rw e at d

last : (s : List ℕ) (n t stop allocs₀ frees₀ allocs frees a : ℕ) → Inv s n t stop allocs₀ frees₀ allocs frees a → stop ≤ a
    → (Added (alloc_of (table_of s)) ((table_of s).first t) stop allocs₀ allocs) × (Added (free_of (table_of s)) ((table_of s).first t) stop frees₀ frees)
last s n t stop allocs₀ frees₀ allocs frees a i h =
    let e : stop ≡ a = omega arith in
    rw e (i.drawn, i.given)

pub loop-a-init : goal.loop-a-init
loop-a-init c = start c.args.table.now _ _ _ _ c.args.before c.requires c.first-a.ensures.value

pub overflow_add-allocs : goal.overflow_add-allocs
overflow_add-allocs c = omega (arith, own_small alloc (kind_of c.action_in-action.result.code) c.action_in-action.result.argument c.action_in-action.ensures.read.small)

pub overflow_add-frees : goal.overflow_add-frees
overflow_add-frees c = omega (arith, own_small free (kind_of c.action_in-action.result.code) c.action_in-action.result.argument c.action_in-action.ensures.read.small)

pub loop-a-preserved : goal.loop-a-preserved
loop-a-preserved c =
    again c.args.table.now _ _ _ _ _ _ _ _ _ _ _ _ c.loop-a.invariant c.loop-a-test.true
    (code_read c.loop-a.invariant.accepted _ (code_there _ c.bodies-actions.ensures c.action_in-action.ensures.code_value))
    (argument_read c.loop-a.invariant.accepted _ (argument_there _ c.bodies-actions.ensures c.action_in-action.ensures.read)) c.alloc-allocs.ensures c.free-frees.ensures

pub returns : goal.returns
returns c = let both = last c.args.table.now _ _ _ _ _ _ _ _ c.loop-a.invariant c.loop-a-test.false in record { added = both.0; added_2 = both.1 }
