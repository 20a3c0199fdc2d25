use Rattle.std.specs.Prelude.{Err, Ok, None, Some, Option}
use mathlib.Core.Path.{◌≡◌, refl, sym, ap, ◌∙◌}
use Prim.Native.Nat.{ℕ, ◌+◌, ◌<◌, ◌≤◌}
use mathlib.Core.List.{List}
use mathlib.Core.Bool.{Bool, false}
use native.Mathlib.Omega.{arith}
use native.Mathlib.Nat.{min-eq_left}
use lib.ListN.{length, get_or, replicate, drop, length-drop, length-replicate, drop_of_length-le}
use Rattle.table.specs.Format.{kind_of, table_of, kind, code_at, argument_at, actions_of, bodies_from, bodies_of}
use Rattle.table.specs.declared.kinds.Kind.{Kind}
use Rattle.table.specs.declared.kinds.Kind.TheVariants.{Fork as fork}
use Rattle.table.specs.Pass.{try_pass, refusal}
use Rattle.table.specs.Checks.{second_pass, forked_below}
use Rattle.table.specs.Code.Steps.{Formed}
use Rattle.checks.specs.Code.Steps.{nest, nest_at, broken, NestReady, NestDone}
use Rattle.table.proofs.Tests.{no_way}
use Rattle.table.proofs.Trying.{try_from_next, try_from_here, try_from_last, try_from_all}
use Rattle.table.proofs.Sizes.{sizes}
use Rattle.table.proofs.Bodies.{fork_below_lem}
use Rattle.table.proofs.Parts.{bodies_from_lem, bodies_length}
use Rattle.checks.proofs.Stack.{stacked_first, stacked_room, stacked_stops, stacked_passes, stacked_next}
use Rattle.checks.proofs.nest.second_pass.Invariants.{Inv}
use Rattle.checks.proofs.nest.second_pass.Goals as goal

start : {s actions : List ℕ} {n m : ℕ} {forked : List Bool} → Formed s n m → actions ≡ bodies_from s n → forked ≡ replicate 1024 false
    → Inv s actions n m forked (replicate 1024 0) 1024 0
unfolding table_of try_pass
start {s} {actions} {n} h b e =
    let p : actions ≡ bodies_of s = b ∙ bodies_from_lem s n h.laid.headed.threads in
    let l : length {A = ℕ} (replicate 1024 0) ≡ 1024 = length-replicate {A = ℕ} 1024 0 in
    record {
      sizes = sizes h.laid.headed;
      formed = h;
      part = p;
      size = rw p (bodies_length h.laid.headed);
      within = omega arith;
      stacked = l;
      low = omega arith;
      before = rw (e, drop_of_length-le {A = ℕ} (replicate 1024 0) {i = 1024} (omega arith)) (stacked_first (table_of s));
      remains = rw h.laid.headed.actions (try_from_all _ _);
    }

module _ {s actions : List ℕ} {n m : ℕ} {forked : List Bool} {stack : List ℕ} {top a : ℕ} (i : Inv s actions n m forked stack top a) where
  module _ (h : a < m) {k : Kind} {x : ℕ} (e : k ≡ kind_of (code_at actions a)) (d : x ≡ argument_at actions a) where
    kind_is : k ≡ kind (table_of s) a
    unfolding table_of
    kind_is = rw (e, i.part)

    argument_is : x ≡ (table_of s).argument a
    unfolding table_of
    argument_is = rw (d, i.part)

    below : kind (table_of s) a ≡ fork → (table_of s).argument a < 1024
    unfolding table_of
    below q =
        let w : a < actions_of s = omega (arith, i.formed.laid.headed.actions) in
        omega (arith, fork_below_lem (table_of s) i.formed.laid.contents i.formed.bodies a w q, i.formed.laid.headed.threads, i.sizes.threads_high)

    ready : NestReady k x top stack forked
    ready =
        record {
          stacked = i.stacked;
          marked = i.before.size;
          within = i.low;
          forks = λ q. rw argument_is (below (sym kind_is ∙ q));
          room = λ q r.
              let l : length (drop top stack) < 1024 = stacked_room _ _ _ _ i.before x (rw argument_is (below (sym kind_is ∙ q))) r in
              omega (arith, length-drop top stack, i.stacked, i.low);
        }

    module _ {number : Option ℕ} {top' : ℕ} {stack' : List ℕ} {forked' : List Bool} (o : NestDone k x top stack forked number top' stack' forked') where
      done : nest number (drop top' stack') forked' ≡ nest_at (kind (table_of s) a) ((table_of s).argument a) (drop top stack) forked
      done = rw (kind_is, argument_is) at o.done

      stops : {n : ℕ} → number ≡ Some n → Err (refusal n a) ≡ try_pass (second_pass (table_of s))
      stops {n} z = sym (try_from_here _ a m h (refusal n a) (stacked_stops _ _ _ _ i.before _ _ _ done z)) ∙ i.remains

      again : number ≡ None → Inv s actions n m forked' stack' top' (a + 1)
      again z =
          record {
            sizes = i.sizes;
            formed = i.formed;
            part = i.part;
            size = i.size;
            within = omega arith;
            stacked = o.stacked;
            low = o.within;
            before = stacked_next _ _ _ _ i.before _ _ _ done z below;
            remains = sym (try_from_next _ a m h (stacked_passes _ _ _ _ i.before _ _ _ done z)) ∙ i.remains;
          }

  module _ (h : m ≤ a) where
    last : a ≡ m
    last = omega (arith, i.within)

    none : (Ok tt) ≡ try_pass (second_pass (table_of s))
    none = sym (try_from_last _ a m last) ∙ i.remains

    marks : (t : ℕ) → get_or forked t false ≡ forked_below (table_of s) m t
    marks t = rw last at (i.before.marks t)

pub loop-a-init : goal.loop-a-init
loop-a-init c =
    let i = start c.requires.formed c.bodies-actions.ensures c.requires.forked_value in
    (i, c.min-stop.ensures ∙ min-eq_left (omega (arith, i.size)))

pub nest_at-next-requires : goal.nest_at-next-requires
nest_at-next-requires c =
    let i = c.loop-a.invariant in
    ready i.0 (omega (arith, i.1, c.loop-a-test.true)) (c.kind.ensures ∙ ap kind_of c.action_in-action.ensures.code_value) c.action_in-action.ensures.read.value

pub overflow_cast-a : goal.overflow_cast-a
overflow_cast-a c = omega (arith, c.loop-a.invariant.0.sizes)

pub returns-in-Err : goal.returns-in-Err
returns-in-Err c = record {
  value = ap Err c.new.ensures
      ∙ stops c.loop-a.invariant.0 (omega (arith, c.loop-a.invariant.1, c.loop-a-test.true)) (c.kind.ensures ∙ ap kind_of c.action_in-action.ensures.code_value) c.action_in-action.ensures.read.value
      c.nest_at-next.ensures (ap broken c.in-Err.is);
  false_after = λ z. no_way (cc);
}

pub loop-a-preserved : goal.loop-a-preserved
loop-a-preserved c =
    let i = c.loop-a.invariant in
    let r = c.in-Ok.is in (
      again i.0 (omega (arith, i.1, c.loop-a-test.true)) (c.kind.ensures ∙ ap kind_of c.action_in-action.ensures.code_value) c.action_in-action.ensures.read.value
          (rw r at c.nest_at-next.ensures) refl,
      i.1,
    )

pub returns : goal.returns
returns c = let i = c.loop-a.invariant in record { value = none i.0 (omega (arith, i.1, c.loop-a-test.false)); false_after = λ e. marks i.0 (omega (arith, i.1, c.loop-a-test.false)) }
