use Rattle.std.specs.Prelude.{Err, Ok, None, Some, Option}
use mathlib.Core.Path.{◌≡◌, refl, sym, ap, ◌∙◌}
use Prim.Native.Nat.{ℕ, pred, ◌+◌, ◌<◌}
use mathlib.Core.List.{List}
use mathlib.Core.Bool.{Bool, true, false, not}
use native.Mathlib.Omega.{arith}
use native.Mathlib.Nat.{min-eq_left}
use borrow.Author.Tests.{eqb-true, eqb-false, eq-eqb, ne_eqb}
use lib.Dec.{eqb}
use Rattle.table.specs.Sum.{pick, sum_to}
use Rattle.table.specs.Format.{is, kind, kind_of, table_of, threads_of, bodies_from, bodies_of, code_at, argument_at}
use Rattle.table.specs.declared.kinds.Kind.{Kind}
use Rattle.table.specs.declared.kinds.Kind.TheVariants.{End as end, Unknown as unknown}
use Rattle.table.specs.Pass.{try_at, try_pass, refusal}
use Rattle.table.specs.Checks.{first_pass, kind_unknown, argument_wrong, end_misplaced, argument_fits, differ, end_of, owner}
use Rattle.table.specs.Code.Steps.{Laid}
use Rattle.checks.specs.Code.Steps.{Holding, form_at, found_at}
use Rattle.table.proofs.Sizes.{Sizes, sizes}
use Rattle.table.proofs.Trying.{try_from_next, try_from_here, try_from_last, try_from_all}
use Rattle.table.proofs.Bodies.{first_is, owner_is}
use Rattle.table.proofs.Parts.{bodies_from_lem, bodies_length}
use Rattle.checks.proofs.forms.first_pass.Invariants.{Inv}
use Rattle.checks.proofs.forms.first_pass.Goals as goal

numbered : (b d e : Bool) (a : ℕ) → pick b (Err (refusal 5 a)) (pick d (Err (refusal 6 a)) (pick e (Err (refusal 7 a)) (Ok tt))) ≡ found_at (pick b (Some 5) (pick d (Some 6) (pick e (Some 7) None))) a
numbered true d e a = refl
numbered false true e a = refl
numbered false false true a = refl
numbered false false false a = refl

eqb_pred : (a stop : ℕ) → 0 < stop → eqb a (pred stop) ≡ eqb (a + 1) stop
eqb_pred a stop h = go (eqb (a + 1) stop) refl
  where
    go : (t : Bool) → eqb (a + 1) stop ≡ t → eqb a (pred stop) ≡ t
    go true e = eq-eqb a (pred stop) (omega (arith, eqb-true (a + 1) stop e))
    go false e = ne_eqb a (pred stop) (λ q. eqb-false (a + 1) stop e (omega arith))

module _ (s : List ℕ) (n m own stop a : ℕ) (l : Laid s n m) (h : Holding (table_of s) own stop a) where
  formed : try_at (first_pass (table_of s)).checks a ≡ found_at (form_at (kind (table_of s) a) own n ((table_of s).argument a) (eqb (a + 1) stop)) a
  unfolding table_of try_at kind_unknown argument_wrong end_misplaced form_at
  formed =
      let o : owner (table_of s) a ≡ own = owner_is (table_of s) l.contents own a h.thread h.from (rw h.stops at h.upto) in
      let p : eqb a (end_of (table_of s) own) ≡ eqb (a + 1) stop = rw (← h.stops) (eqb_pred a stop (omega (arith, h.upto))) in
      let k : Kind = kind (table_of s) a in
      rw (o, p, l.headed.threads)
      (numbered (is unknown k) (not (argument_fits k own (threads_of s) ((table_of s).argument a))) (differ (is end k) (eqb (a + 1) stop)) a)

start : {s actions : List ℕ} {n m stop : ℕ} → Laid s n m → actions ≡ bodies_from s n → stop ≡ (table_of s).count 0 → Inv s actions n m 0 stop 0
unfolding table_of try_pass sum_to
start {s} {actions} {n = n} {m = m} l b e =
    let p : actions ≡ bodies_of s = b ∙ bodies_from_lem s n l.headed.threads in
    let z : Sizes s n m = sizes l.headed in
    let f : (table_of s).first 0 ≡ 0 = first_is (table_of s) l.contents 0 (omega (arith, z.threads_low, l.headed.threads)) ∙ refl in
    record {
      sizes = z;
      laid = l;
      part = p;
      size = rw p (bodies_length l.headed);
      within = omega arith;
      reached = λ h. record {
        within = omega (arith, l.headed.actions);
        thread = omega (arith, z.threads_low, l.headed.threads);
        from = omega (arith, f);
        upto = omega arith;
        stops = omega (arith, f, e);
      };
      remains = rw l.headed.actions (try_from_all _ _);
    }

module _ {s actions : List ℕ} {n m own stop own' stop' a x : ℕ} {k : Kind} {number : Option ℕ} (i : Inv s actions n m own stop a) (h : a < m) (g : Holding (table_of s) own' stop' a)
    (ek : k ≡ kind_of (code_at actions a)) (ex : x ≡ argument_at actions a) (en : number ≡ form_at k own' n x (eqb (a + 1) stop')) where
  found : try_at (first_pass (table_of s)).checks a ≡ found_at number a
  unfolding table_of
  found = rw (en, ek, ex, i.part) (formed s n m own' stop' a i.laid g)

  stops : {r : ℕ} → number ≡ Some r → Err (refusal r a) ≡ try_pass (first_pass (table_of s))
  stops {r} w = sym (try_from_here (first_pass (table_of s)).checks a m h (refusal r a) (found ∙ ap (λ z. found_at z a) w)) ∙ i.remains

  again : number ≡ None → Inv s actions n m own' stop' (a + 1)
  unfolding table_of
  again w =
      record {
        sizes = i.sizes;
        laid = i.laid;
        part = i.part;
        size = i.size;
        within = omega arith;
        reached = λ q. record {
          within = omega (arith, i.laid.headed.actions);
          thread = g.thread;
          from = omega (arith, g.from);
          upto = omega (arith, g.upto);
          stops = g.stops;
        };
        remains = sym (try_from_next (first_pass (table_of s)).checks a m h (found ∙ ap (λ z. found_at z a) w)) ∙ i.remains;
      }

pub loop-a-init : goal.loop-a-init
loop-a-init c =
    let i = start c.requires c.bodies-actions.ensures c.count.ensures.value in
    (i, c.min-stop.ensures ∙ min-eq_left (omega (arith, i.size)))

pub span_at-span-requires : goal.span_at-span-requires
span_at-span-requires c = let i = c.loop-a.invariant in record { laid = i.0.laid; reached = i.0.reached (omega (arith, i.1, c.loop-a-test.true)) }

pub returns-in-Some : goal.returns-in-Some
returns-in-Some c =
    ap Err c.new.ensures
    ∙ stops c.loop-a.invariant.0 (omega (arith, c.loop-a.invariant.1, c.loop-a-test.true)) c.span_at-span.ensures
    (c.kind.ensures ∙ ap kind_of c.action_in-action.ensures.code_value) c.action_in-action.ensures.read.value c.form_at-broken.ensures c.in-Some.is

pub loop-a-preserved : goal.loop-a-preserved
loop-a-preserved c =
    let i = c.loop-a.invariant in (
      again i.0 (omega (arith, i.1, c.loop-a-test.true)) c.span_at-span.ensures (c.kind.ensures ∙ ap kind_of c.action_in-action.ensures.code_value) c.action_in-action.ensures.read.value
          c.form_at-broken.ensures c.in_default.is,
      i.1,
    )

pub returns : goal.returns
returns c =
    let i = c.loop-a.invariant in
    sym (try_from_last _ _ _ (omega (arith, i.0.within, i.1))) ∙ i.0.remains
