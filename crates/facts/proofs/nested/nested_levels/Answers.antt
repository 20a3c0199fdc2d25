use mathlib.Core.Path.{◌≡◌, refl, sym, ap, ◌∙◌}
use Prim.Native.Nat.{ℕ, suc, ◌+◌, ◌≤◌, ◌<◌, max}
use mathlib.Core.List.{List}
use native.Mathlib.Numerals.{add-one}
use native.Mathlib.Omega.{arith}
use native.Mathlib.Nat.{min-eq_left}
use lib.ListN.{get_or, set, replicate}
use Rattle.table.specs.Sum.{pick}
use Rattle.table.specs.Format.{is, kind_of, Table, table_of, kind, code_at, argument_at, bodies_of, bodies_from}
use Rattle.table.specs.declared.kinds.Kind.{Kind}
use Rattle.table.specs.declared.kinds.Kind.TheVariants.{End as end, Fork as fork}
use Rattle.table.specs.Rules.{ContentRules, BodyRules, NestRules, ForkRules}
use Rattle.table.specs.Nested.{N}
use Rattle.table.specs.Code.Steps.{Nested}
use Rattle.table.proofs.Sizes.{sizes}
use Rattle.table.proofs.Bodies.{fork_below_lem}
use Rattle.table.proofs.NestedThreads.{nest_few}
use Rattle.facts.proofs.NestWalk.{nests_first, nests_below, nests_known, nests_next, nests_all}
use Rattle.table.proofs.Parts.{bodies_from_lem, bodies_length}
use Rattle.facts.proofs.nested.nested_levels.Invariants.{Inv}
use Rattle.facts.proofs.nested.nested_levels.Goals as goal

some_thread : {s : List ℕ} {n m : ℕ} → Nested s n m → 0 < (table_of s).threads
unfolding table_of
some_thread h = omega (arith, (sizes h.formed.laid.headed).threads_low, h.formed.laid.headed.threads)

few_threads : {s : List ℕ} {n m : ℕ} → Nested s n m → (table_of s).threads ≤ 1024
unfolding table_of
few_threads h = omega (arith, (sizes h.formed.laid.headed).threads_high, h.formed.laid.headed.threads)

actions_are : {s : List ℕ} {n m : ℕ} → Nested s n m → m ≡ (table_of s).actions
unfolding table_of
actions_are h = h.formed.laid.headed.actions

start : {s actions : List ℕ} {n m : ℕ} → Nested s n m → actions ≡ bodies_from s n → Inv s actions n m (replicate 1024 1) 1 0 0
unfolding table_of
start {s} {actions} {n} h b =
    let p : actions ≡ bodies_of s = b ∙ bodies_from_lem s n h.formed.laid.headed.threads in
    record {
      sized = sizes h.formed.laid.headed;
      nested = h;
      part = p;
      within = omega arith;
      nests = nests_first (table_of s) h.formed.laid.contents h.formed.bodies h.nesting h.forking (some_thread h) (few_threads h);
    }

module _ {s actions : List ℕ} {n m : ℕ} {levels : List ℕ} {deepest t a : ℕ} (i : Inv s actions n m levels deepest t a) where
  abbrev T : Table
  T = table_of s

  abbrev laws : ContentRules T × BodyRules T × NestRules T × ForkRules T
  laws = (i.nested.formed.laid.contents, i.nested.formed.bodies, i.nested.nesting, i.nested.forking)

  module _ (h : a < m) where
    inside : a < T.actions
    inside = omega (arith, actions_are i.nested)

    thread_below : t < 1024
    thread_below =
        omega (arith, nests_below T laws.0 laws.1 laws.2 laws.3 (some_thread i.nested) (few_threads i.nested) i.nests inside, few_threads i.nested)

    level_small : get_or levels t 0 ≤ 1024
    level_small =
        omega (
          arith,
          nests_known T laws.0 laws.1 laws.2 laws.3 (some_thread i.nested) (few_threads i.nested) i.nests inside,
          nest_few T t,
          few_threads i.nested,
        )

    module _ {k : Kind} {x : ℕ} (e : k ≡ kind_of (code_at actions a)) (d : x ≡ argument_at actions a) where
      kind_is : k ≡ kind T a
      unfolding table_of
      kind_is = rw (e, i.part)

      argument_is : x ≡ T.argument a
      unfolding table_of
      argument_is = rw (d, i.part)

      child_below : k ≡ fork → x < 1024
      child_below q =
          let j : kind T a ≡ fork = sym kind_is ∙ q in
          rw argument_is (omega (arith, fork_below_lem T laws.0 laws.1 a inside j, few_threads i.nested))

      again : {deepest' t' : ℕ} {levels' : List ℕ} → deepest' ≡ pick (is fork k) (max deepest (suc (get_or levels t 0))) deepest
          → levels' ≡ pick (is fork k) (set levels x (suc (get_or levels t 0))) levels → t' ≡ pick (is end k) (suc t) t
          → Inv s actions n m levels' deepest' t' (a + 1)
      again p q r =
          record {
            sized = i.sized;
            nested = i.nested;
            part = i.part;
            within = omega arith;
            nests =
                rw (p, q, r, kind_is, argument_is, add-one a)
                (nests_next T laws.0 laws.1 laws.2 laws.3 (some_thread i.nested) (few_threads i.nested) i.nests inside (is fork (kind T a)) refl);
          }

  found : m ≤ a → deepest ≡ N T
  found h = nests_all T laws.0 laws.1 laws.2 laws.3 (some_thread i.nested) (few_threads i.nested) i.nests (omega (arith, actions_are i.nested))

pub loop-a-init : goal.loop-a-init
loop-a-init c =
    let i = start c.requires c.bodies-actions.ensures in
    (i, c.min-stop.ensures ∙ min-eq_left (omega (arith, rw (← i.part) at (bodies_length i.nested.formed.laid.headed))))

pub offset_bounds-levels-t : goal.offset_bounds-levels-t
offset_bounds-levels-t c = omega (arith, thread_below c.loop-a.invariant.0 (omega (arith, c.loop-a.invariant.1, c.loop-a-test.true)))

pub bounds-levels-t : goal.bounds-levels-t
bounds-levels-t c = thread_below c.loop-a.invariant.0 (omega (arith, c.loop-a.invariant.1, c.loop-a-test.true))

pub overflow_cast-level : goal.overflow_cast-level
overflow_cast-level c =
    omega (arith, level_small c.loop-a.invariant.0 (omega (arith, c.loop-a.invariant.1, c.loop-a-test.true)))

pub fork_level-deepest-requires : goal.fork_level-deepest-requires
fork_level-deepest-requires c =
    let v = c.loop-a.invariant in (
      level_small v.0 (omega (arith, v.1, c.loop-a-test.true)),
      child_below v.0 (omega (arith, v.1, c.loop-a-test.true)) (c.kind-kind.ensures ∙ ap kind_of c.action_in-action.ensures.code_value) c.action_in-action.ensures.read.value,
    )

pub next_thread-t-requires : goal.next_thread-t-requires
next_thread-t-requires c =
    thread_below c.loop-a.invariant.0 (omega (arith, c.loop-a.invariant.1, c.loop-a-test.true))

pub loop-a-preserved : goal.loop-a-preserved
loop-a-preserved c =
    let v = c.loop-a.invariant in (
      again v.0 (omega (arith, v.1, c.loop-a-test.true)) (c.kind-kind.ensures ∙ ap kind_of c.action_in-action.ensures.code_value) c.action_in-action.ensures.read.value
          c.fork_level-deepest.ensures.value c.fork_level-deepest.ensures.levels_after c.next_thread-t.ensures,
      v.1,
    )

pub returns : goal.returns
returns c = found c.loop-a.invariant.0 (omega (arith, c.loop-a.invariant.1, c.loop-a-test.false))
