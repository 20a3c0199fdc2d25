-- `checks::nest::nest_at` meets its contract: each way out is the clause of `nest_at` for its kind, with the open children as the part of `stack` from `top` on.
use Rattle.std.specs.Prelude.{None, Some, Option}
use mathlib.Core.Path.{◌≡◌, refl, sym}
use Prim.Native.Nat.{ℕ, ◌+◌, ◌-◌, ◌≤◌, ◌<◌}
use mathlib.Core.List.{List, [], ◌∷◌}
use mathlib.Core.Bool.{Bool, true, false}
use native.Mathlib.Numerals.{add-one}
use native.Mathlib.Omega.{arith}
use borrow.Author.Tests.{eq-eqb, ne_eqb}
use lib.ListN.{length, get_or, set, drop, length-set, drop_of_length-le}
use lib.Seq.{drop-cons, drop-set-lt, get_or-set_same}
use Rattle.table.specs.declared.kinds.Kind.{Kind}
use Rattle.table.specs.declared.kinds.Kind.TheVariants.{End as end, Work as work, Alloc as alloc, Free as free, Fork as fork, Join as join, Unknown as unknown}
use Rattle.checks.specs.Code.Steps.{nest, nest_at, NestReady, NestDone}
use Rattle.checks.proofs.nest.nest_at.Goals as goal

none_open : (stack : List ℕ) (top : ℕ) → length stack ≡ 1024 → 1024 ≤ top → drop top stack ≡ []
none_open stack top s h = drop_of_length-le stack {i = top} (omega arith)

some_open : (stack : List ℕ) (top : ℕ) → length stack ≡ 1024 → top < 1024 → drop top stack ≡ get_or stack top 0 ∷ drop (top + 1) stack
some_open stack top s h = rw add-one (drop-cons stack top 0 (omega arith))

push : (stack : List ℕ) (top x : ℕ) → length stack ≡ 1024 → 0 < top → top ≤ 1024 → drop (top - 1) (set stack (top - 1) x) ≡ x ∷ drop top stack
push stack top x s h w =
    let e : top - 1 + 1 ≡ top = omega arith in
    let l : length (set stack (top - 1) x) ≡ 1024 = simp length-set s in
    rw (
      some_open (set stack (top - 1) x) (top - 1) l (omega arith),
      e,
      drop-set-lt top stack (top - 1) x (omega arith),
      get_or-set_same stack (top - 1) x 0 (omega arith),
    )

-- an action that leaves the stack and the marks
stays : {k : Kind} {x top : ℕ} {stack : List ℕ} {forked : List Bool} → NestReady k x top stack forked → (number : Option ℕ)
    → nest number (drop top stack) forked ≡ nest_at k x (drop top stack) forked → NestDone k x top stack forked number top stack forked
stays r number e = record { stacked = r.stacked; within = r.within; done = e }

module _ {k : Kind} {x top : ℕ} {stack : List ℕ} {forked : List Bool} (r : NestReady k x top stack forked) where
  end_open : k ≡ end → top < 1024 → NestDone k x top stack forked (Some 9) top stack forked
  unfolding nest_at
  end_open e h = stays r (Some 9) (rw (e, some_open stack top r.stacked h))

  end_none : k ≡ end → 1024 ≤ top → NestDone k x top stack forked None top stack forked
  unfolding nest_at
  end_none e h = stays r None (rw (e, none_open stack top r.stacked h))

  fork_below_lem : k ≡ fork → x < 1024
  fork_below_lem e = r.forks e

  fork_room : k ≡ fork → get_or forked x false ≡ false → 0 < top
  fork_room e h = r.room e h

  fork_again : k ≡ fork → get_or forked x false ≡ true → NestDone k x top stack forked (Some 8) top stack forked
  unfolding nest_at
  fork_again e h = stays r (Some 8) (rw (e, h))

  fork_first : k ≡ fork → get_or forked x false ≡ false → NestDone k x top stack forked None (top - 1) (set stack (top - 1) x) (set forked x true)
  unfolding nest_at
  fork_first e h =
      let room : 0 < top = fork_room e h in
      record {
        stacked = simp length-set r.stacked;
        within = omega arith;
        done = rw (e, h, push stack top x r.stacked room r.within);
      }

  join_none : k ≡ join → top ≡ 1024 → NestDone k x top stack forked (Some 9) top stack forked
  unfolding nest_at
  join_none e h = stays r (Some 9) (rw (e, none_open stack top r.stacked (omega arith)))

  join_other : k ≡ join → (top ≡ 1024 → ⊥) → (get_or stack top 0 ≡ x → ⊥) → NestDone k x top stack forked (Some 9) top stack forked
  unfolding nest_at
  join_other e h d =
      stays r (Some 9) (rw (e, some_open stack top r.stacked (omega arith), ne_eqb x (get_or stack top 0) (λ q. d (sym q))))

  join_latest : k ≡ join → (top ≡ 1024 → ⊥) → get_or stack top 0 ≡ x → NestDone k x top stack forked None (top + 1) stack forked
  unfolding nest_at
  join_latest e h d =
      record {
        stacked = r.stacked;
        within = omega arith;
        done = rw (e, some_open stack top r.stacked (omega arith), eq-eqb x (get_or stack top 0) (sym d));
      }

-- any other kind
others : (k : Kind) (x : ℕ) (stack : List ℕ) (forked : List Bool) → (k ≡ end → ⊥) → (k ≡ fork → ⊥) → (k ≡ join → ⊥) → nest None stack forked ≡ nest_at k x stack forked
unfolding nest_at
others end x stack forked e f j = absurd (e refl)
others work x stack forked e f j = refl
others alloc x stack forked e f j = refl
others free x stack forked e f j = refl
others fork x stack forked e f j = absurd (f refl)
others join x stack forked e f j = absurd (j refl)
others unknown x stack forked e f j = refl

pub returns-then-top-lt1024 : goal.returns-then-top-lt1024
returns-then-top-lt1024 c = end_open c.requires c.in-End.is c.if-top-lt1024.true

pub bounds-forked-x : goal.bounds-forked-x
bounds-forked-x c = fork_below_lem c.requires c.in-Fork.is

pub returns-then-forked-x : goal.returns-then-forked-x
returns-then-forked-x c = fork_again c.requires c.in-Fork.is c.if-forked-x.true

pub bounds-forked-x-in-Fork : goal.bounds-forked-x-in-Fork
bounds-forked-x-in-Fork c = fork_below_lem c.requires c.in-Fork.is

pub overflow_sub-stack : goal.overflow_sub-stack
overflow_sub-stack c = fork_room c.requires c.in-Fork.is c.if-forked-x.false

pub overflow_sub-result : goal.overflow_sub-result
overflow_sub-result c = fork_room c.requires c.in-Fork.is c.if-forked-x.false

pub returns-then-top-eq1024 : goal.returns-then-top-eq1024
returns-then-top-eq1024 c = join_none c.requires c.in-Join.is c.if-top-eq1024.true

pub returns-then-stack-top : goal.returns-then-stack-top
returns-then-stack-top c = join_other c.requires c.in-Join.is c.if-top-eq1024.false c.if-stack-top.true

pub returns-else-top-lt1024 : goal.returns-else-top-lt1024
returns-else-top-lt1024 c = end_none c.requires c.in-End.is c.if-top-lt1024.false

pub returns-else-forked-x : goal.returns-else-forked-x
returns-else-forked-x c = fork_first c.requires c.in-Fork.is c.if-forked-x.false

pub returns-else-stack-top : goal.returns-else-stack-top
returns-else-stack-top c = join_latest c.requires c.in-Join.is c.if-top-eq1024.false c.if-stack-top.false

pub returns-in_default : goal.returns-in_default
returns-in_default c = stays c.requires None (others _ _ _ _ c.in_default.not-End c.in_default.not-Fork c.in_default.not-Join)
