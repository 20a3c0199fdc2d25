-- The array that has the threads' lengths, then the numbers of their first actions, then those of their next actions: what passing an action and a thread does to it.
use mathlib.Core.Path.{◌≡◌, refl, sym, ap, ◌∙◌}
use Prim.Native.Nat.{ℕ, zero, suc, ◌+◌, ◌-◌, ◌≤◌, ◌<◌}
use mathlib.Core.List.{List}
use mathlib.Core.Bool.{true, false}
use native.Mathlib.Numerals.{add-one}
use native.Mathlib.Omega.{arith}
use native.Mathlib.Decide.{ℕ_discrete}
use lib.ListN.{get_or, set, length-set}
use lib.Seq.{get_or-set_same, get_or-set_other}
use Rattle.table.specs.Sum.{sum_to}
use Rattle.table.specs.Format.{is, code_of, Table, kind}
use Rattle.table.specs.declared.kinds.Kind.TheVariants.{Fork as fork}
use Rattle.table.specs.Checks.{owner, end_of}
use Rattle.table.proofs.Tests.{no_way, same_is}
use Rattle.table.proofs.Bodies.{first_is, after_end, count_pos, end_kind, end_within, owner_is, fork_above, fork_below_lem, fork_later}
use Rattle.table.proofs.Nesting.{fork_once, fork_exists}
use Rattle.order.specs.Order.{number_of}
use Rattle.order.proofs.Lawful.{Lawful}
use Rattle.order.proofs.Numbers.{number_root, number_child, number_below}
use Rattle.soundness.specs.Code.Checks.{Lengths, Numbers}
use Rattle.soundness.specs.Code.Order.{Inside, Marked, NumbersTo, Numbering}
use Rattle.soundness.proofs.Spans.{inside_within, inside_fork, over_step, over_fork}

-- ---- the marks of the threads from u on

module _ (T : Table) (u a : ℕ) (numbers : List ℕ) (m : Marked T u a numbers) where
  -- an action that forks nothing
  marked_step : is fork (kind T a) ≡ false → Marked T u (suc a) numbers
  marked_step e =
      record {
        size = m.size;
        begun = λ x h k j. go x h k j (ℕ_discrete x a);
        ahead = λ x h k. m.ahead x (omega arith) k;
      }
    where
      go : (x : ℕ) → x < suc a → kind T x ≡ fork → u ≤ T.argument x → Dec (x ≡ a) → get_or numbers (T.argument x) 0 ≡ number_of T (T.first (T.argument x))
      go x h k j (yes p) =
          let z : is fork (kind T x) ≡ true = same_is fork (kind T x) k in
          no_way (cc)
      go x h k j (no p) = m.begun x (omega (arith, p)) k j

  -- fewer threads
  marked_fewer : (w : ℕ) → u ≤ w → Marked T w a numbers
  marked_fewer w h =
      record { size = m.size; begun = λ x p k j. m.begun x p k (omega arith); ahead = λ x p q k j. m.ahead x p q k (omega arith) }

  -- a store below them
  marked_below : (t v : ℕ) → t < u → Marked T u a (set numbers t v)
  marked_below t v h =
      record {
        size = simp length-set m.size;
        begun = λ x p k j. get_or-set_other numbers t (T.argument x) v 0 (λ e. omega arith) ∙ m.begun x p k j;
        ahead = λ x p q k j. get_or-set_other numbers t (T.argument x) v 0 (λ e. omega arith) ∙ m.ahead x p q k j;
      }

  -- a fork
  marked_fork : Lawful T → a < T.actions → kind T a ≡ fork → T.argument a < 1024 → Marked T u (suc a) (set numbers (T.argument a) (number_of T a + 1))
  marked_fork l h k s =
      record {
        size = simp length-set m.size;
        begun = λ x p i j. go x p i j (ℕ_discrete (T.argument x) (T.argument a));
        ahead = λ x p q i j.
            get_or-set_other numbers (T.argument a) (T.argument x) _ 0
            (λ e. omega (arith, fork_once T l.contents l.bodies l.nesting x a q h i k e))
            ∙ m.ahead x (omega arith) q i j;
      }
    where
      go : (x : ℕ) → x < suc a → kind T x ≡ fork → u ≤ T.argument x → Dec (T.argument x ≡ T.argument a)
          → get_or (set numbers (T.argument a) (number_of T a + 1)) (T.argument x) 0 ≡ number_of T (T.first (T.argument x))
      go x p i j (yes e) =
          rw (e, get_or-set_same numbers (T.argument a) (number_of T a + 1) 0 (omega (arith, m.size)), number_child T l a h k) (omega arith)
      go x p i j (no e) =
          let d : x ≡ a → ⊥ = λ q. e (ap (λ (y : ℕ). T.argument y) q) in
          get_or-set_other numbers (T.argument a) (T.argument x) _ 0 e ∙ m.begun x (omega (arith, d)) i j

-- ---- along a thread

pub numbers_inside : {T : Table} {t a number : ℕ} {before numbers : List ℕ} → NumbersTo T t a number before numbers → a < end_of T t → Inside T t a
numbers_inside w h = record { thread = w.thread; from = w.from; upto = h }

-- a walk from here on, and two walks one after the other
pub numbers_here : {T : Table} {t a number : ℕ} {before numbers : List ℕ} → NumbersTo T t a number before numbers → NumbersTo T t a number numbers numbers
numbers_here w =
    record { thread = w.thread; from = w.from; upto = w.upto; right = w.right; marked = w.marked; same = λ u h. refl }

pub numbers_on : {T : Table} {t a number b other : ℕ} {before numbers after : List ℕ}
    → NumbersTo T t a number before numbers → NumbersTo T t b other numbers after → NumbersTo T t b other before after
numbers_on w v =
    record { thread = v.thread; from = v.from; upto = v.upto; right = v.right; marked = v.marked; same = λ u h. v.same u h ∙ w.same u h }

module _ (T : Table) (l : Lawful T) (t a number : ℕ) (before numbers : List ℕ) (w : NumbersTo T t a number before numbers) where
  pub numbers_owner : owner T a ≡ t
  numbers_owner = owner_is T l.contents t a w.thread w.from (omega (arith, w.upto, after_end T l.contents t w.thread))

  pub numbers_small : number < 8192
  numbers_small = omega (arith, w.right, number_below T l a (omega (arith, w.upto, end_within T l.contents t w.thread)), l.few_actions)

  -- the number stored in the thread's own place
  pub numbers_stored : NumbersTo T t a number (set numbers t number) (set numbers t number)
  numbers_stored =
      record {
        thread = w.thread;
        from = w.from;
        upto = w.upto;
        right = w.right;
        marked = marked_below T (suc t) a numbers w.marked t number (omega arith);
        same = λ u j. refl;
      }

  module _ (h : a < end_of T t) where
    i : Inside T t a
    i = numbers_inside w h

    pub numbers_step : is fork (kind T a) ≡ false → NumbersTo T t (a + 1) (number + 1) before numbers
    numbers_step k =
        record {
          thread = w.thread;
          from = omega (arith, w.from);
          upto = omega arith;
          right = omega (arith, over_step T l t a i k);
          marked = rw add-one (marked_step T (suc t) a numbers w.marked k);
          same = w.same;
        }

    pub numbers_fork : kind T a ≡ fork
        → NumbersTo T t (a + 1) (number + 1 + get_or numbers (T.argument a) 0) before (set numbers (T.argument a) (number + 1))
    numbers_fork k =
        let (p, q) = inside_fork T l t a i k in
        record {
          thread = w.thread;
          from = omega (arith, w.from);
          upto = omega arith;
          right = omega (arith, over_fork T l t a i k, w.marked.ahead a (omega arith) (inside_within T l t a i) k (omega arith));
          marked = rw (add-one a, w.right) (marked_fork T (suc t) a numbers w.marked l (inside_within T l t a i) k (omega (arith, l.few_threads)));
          same = λ u j. get_or-set_other numbers (T.argument a) u _ 0 (λ e. omega arith) ∙ w.same u j;
        }

-- ---- from thread to thread

module _ (T : Table) (l : Lawful T) (next numbers : List ℕ) where
  -- at first the array has the lengths, and 0 for the root's first action
  pub numbering_starts : Lengths T numbers 0 → Numbering T next 0 0 (set numbers 0 0)
  unfolding sum_to
  numbering_starts g =
      record {
        place = refl;
        done = λ u h. absurd (omega arith);
        root = λ e. get_or-set_same numbers 0 0 0 (omega (arith, g.size));
        marked =
            record {
              size = simp length-set g.size;
              begun = λ x h. absurd (omega arith);
              ahead = λ x p q k j.
                  get_or-set_other numbers 0 (T.argument x) 0 0 (λ e. omega (arith, fork_above T l.contents l.bodies x q k))
                  ∙ g.right (T.argument x) (omega arith) (fork_below_lem T l.contents l.bodies x q k);
            };
      }

  -- at last it has the numbers
  pub numbering_ends : (t a : ℕ) → T.threads ≤ t → Numbering T next t a numbers → Numbers T next numbers
  numbering_ends t a h g = record { size = g.marked.size; right = λ u j. g.done u (omega arith) }

  module _ (t a : ℕ) (g : Numbering T next t a numbers) (h : t < T.threads) where
    pub numbering_first : a ≡ T.first t
    numbering_first = g.place ∙ sym (first_is T l.contents t h)

    numbering_start : get_or numbers t 0 ≡ number_of T a
    numbering_start = rw numbering_first (go t refl)
      where
        go : (u : ℕ) → u ≡ t → get_or numbers t 0 ≡ number_of T (T.first t)
        go zero e = rw (← e) (g.root (sym e) ∙ sym (number_root T l))
        go (suc u) e =
            let (x, i, k, p) = fork_exists T l.contents l.bodies l.nesting l.forking t (omega arith) h in
            let b : x < T.first t = rw p at (fork_later T l.contents l.bodies x i k) in
            rw p at (g.marked.begun x (omega (arith, numbering_first)) k (omega arith))

    pub numbering_numbered : NumbersTo T t a (get_or numbers t 0) numbers numbers
    numbering_numbered =
        record {
          thread = h;
          from = omega (arith, numbering_first);
          upto = omega (arith, numbering_first, after_end T l.contents t h, count_pos T l.contents t h);
          right = numbering_start;
          marked = marked_fewer T t a numbers g.marked (suc t) (omega arith);
          same = λ u j. refl;
        }

    module _ (number other stop : ℕ) (middle after : List ℕ) (w : NumbersTo T t (get_or next t 0) number numbers middle)
        (v : NumbersTo T t (stop - 1) other (set middle t number) after) (e : stop ≡ a + T.count t) where
      -- the thread's own number stored, and its body passed
      pub numbering_next : Numbering T next (t + 1) stop after
      unfolding sum_to is code_of
      numbering_next =
          let f : stop ≡ suc (end_of T t) = omega (arith, numbering_first, after_end T l.contents t h) in
          let q : stop - 1 ≡ end_of T t = omega arith in
          let m : Marked T (suc t) (end_of T t) after = rw q at v.marked in
          record {
            place = rw (add-one t) (omega (arith, g.place));
            done = λ u j. go u j (ℕ_discrete u t);
            root = λ z. absurd (omega arith);
            marked = rw (add-one, f) (marked_step T (suc t) (end_of T t) after m (rw (end_kind T l.contents l.bodies t h)));
          }
        where
          go : (u : ℕ) → u < t + 1 → Dec (u ≡ t) → get_or after u 0 ≡ number_of T (get_or next u 0)
          go u j (yes p) =
              rw p (v.same t (omega arith) ∙ get_or-set_same middle t number 0 (omega (arith, w.marked.size, l.few_threads)) ∙ w.right)
          go u j (no p) =
              v.same u (omega (arith, p)) ∙ get_or-set_other middle t u number 0 p ∙ w.same u (omega (arith, p)) ∙ g.done u (omega (arith, p))
