-- What stands before an action in serial order, without serial order: after an action it is more by that action and, at a fork, by the child's whole thread; at a child's first action it is
-- what it was after the fork itself. So roots are found without recursion: the sums of whole threads downward, then upward where the roots of each thread begin.
use Prim.Native.Nat.{ℕ, zero, suc, ◌+◌, ◌<◌}
use native.Mathlib.Omega.{arith}
use mathlib.Core.Path.{◌≡◌, refl, ap, ◌∙◌}
use mathlib.Core.List.Memᴰ
use mathlib.Core.List.{List, [], ◌∷◌, ◌++◌, append_assoc, append-nil}
use mathlib.Core.Bool.{Bool, true, false}
use borrow.Author.Tests.{eq-eqb, ne_eqb}
use Rattle.table.specs.Sum.{sum_over}
use Rattle.table.specs.Format.{is, Table, kind}
use Rattle.table.specs.declared.kinds.Kind.TheVariants.{End as end, Fork as fork}
use Rattle.table.specs.Checks.{whole}
use Rattle.table.specs.Rules.{ContentRules, BodyRules, NestRules}
use Rattle.table.specs.Serial.{serial, serial_order}
use Rattle.table.proofs.Tests.{no_way, Turn, ends, branches, goes, turn, is_true, fork_no_end}
use Rattle.table.proofs.Bodies.{first_within, fork_below_lem, fork_later, next_within}
use Rattle.table.proofs.Sums.{sum_over_append}
use Rattle.table.proofs.Serial.{child_within, serial_end, serial_fork, serial_step}
use Rattle.table.proofs.Amounts.{whole_serial}
use Rattle.table.proofs.Levels.{by_place}
use Rattle.order.specs.Order.{number_of}
use Rattle.order.proofs.Lawful.{Lawful}
use Rattle.order.proofs.Words.{Ascends}
use Rattle.filling.specs.Filled.{big, new_threads, sum_before, root_of}
use Rattle.filling.proofs.Roots.{so_ascends}
use Rattle.filling.proofs.OldThreads.{big_alloc}

before_split : (f h : ℕ → ℕ) (q : List ℕ) (a : ℕ) (r : List ℕ) → Ascends h (q ++ (a ∷ r)) → sum_before f a (q ++ (a ∷ r)) ≡ sum_over f q
unfolding sum_before sum_over Ascends
before_split f h [] a r p = rw (eq-eqb a a refl)
before_split f h (x ∷ q) a r p =
    let d : a ≡ x → ⊥ = λ e. absurd (omega (arith, p.0 a (Memᴰ.append_right q (Memᴰ.head refl)), ap h e)) in
    rw (ne_eqb a x d, before_split f h q a r p.1)

module _ (T : Table) (l : Lawful T) where
  abbrev c : ContentRules T
  c = l.contents

  abbrev b : BodyRules T
  b = l.bodies

  abbrev n : NestRules T
  n = l.nesting

  abbrev so : List ℕ
  so = serial_order T

  -- serial order around the part from a on
  pub record Around (a : ℕ) : Type 0 where
    pub before : List ℕ
    pub after : List ℕ
    pub whole_order : so ≡ before ++ (serial T a ++ after)

  around_child : (a : ℕ) → a < T.actions → kind T a ≡ fork → Around a → Around (T.first (T.argument a))
  around_child a h k x =
      let ch : List ℕ = serial T (T.first (T.argument a)) in
      let nx : List ℕ = serial T (suc a) in
      record {
        before = x.before ++ (a ∷ []);
        after = nx ++ x.after;
        whole_order = x.whole_order ∙ rw (serial_fork T c b a h k, append_assoc ch nx x.after, append_assoc x.before (a ∷ []) (ch ++ (nx ++ x.after)));
      }

  around_fork : (a : ℕ) → a < T.actions → kind T a ≡ fork → Around a → Around (suc a)
  around_fork a h k x =
      let ch : List ℕ = serial T (T.first (T.argument a)) in
      let nx : List ℕ = serial T (suc a) in
      record {
        before = x.before ++ (a ∷ ch);
        after = x.after;
        whole_order = x.whole_order ∙ rw (serial_fork T c b a h k, append_assoc ch nx x.after, append_assoc x.before (a ∷ ch) (nx ++ x.after));
      }

  around_step : (a : ℕ) → a < T.actions → is end (kind T a) ≡ false → is fork (kind T a) ≡ false → Around a → Around (suc a)
  around_step a h k j x =
      let nx : List ℕ = serial T (suc a) in
      record {
        before = x.before ++ (a ∷ []);
        after = x.after;
        whole_order = x.whole_order ∙ rw (serial_step T c b a h k j, append_assoc x.before (a ∷ []) (nx ++ x.after));
      }

  around : (a : ℕ) → a < T.actions → Around a
  around a h = go (suc a) a (omega arith) h
    where
      next : (a : ℕ) → a < T.actions → is end (kind T a) ≡ false → Around a → (q : Bool) → is fork (kind T a) ≡ q → Around (suc a)
      next a h e x true k = around_fork a h (is_true fork (kind T a) k) x
      next a h e x false k = around_step a h e k x

      go : (k a : ℕ) → a < k → a < T.actions → Around a
      go zero a p h = absurd (omega arith)
      go (suc k) a p h =
          by_place T c b n l.forking (λ (a : ℕ). ((y : ℕ) → y < a → y < T.actions → Around y) → Around a)
          (λ h ih. record { before = []; after = []; whole_order = rw (append-nil so) })
          (λ a h k ih. around_child a h k (ih a (fork_later T c b a h k) h))
          (λ a h e ih. next a h e (ih a (omega arith) h) (is fork (kind T a)) refl)
          a h (λ y q r. go k y (omega arith) r)

  serial_head : (a : ℕ) → a < T.actions → (r : List ℕ) × (serial T a ≡ a ∷ r)
  serial_head a h = go (turn (kind T a))
    where
      go : Turn (kind T a) → (r : List ℕ) × (serial T a ≡ a ∷ r)
      go (ends e i) = ([], serial_end T c b a h e)
      go (branches e i) = (serial T (T.first (T.argument a)) ++ serial T (suc a), serial_fork T c b a h e)
      go (goes p q) = (serial T (suc a), serial_step T c b a h p q)

  -- the sum before an action is the sum over what stands before it
  before_is : (f : ℕ → ℕ) (a : ℕ) → a < T.actions → (x : Around a) → sum_before f a so ≡ sum_over f x.before
  before_is f a h x =
      let (r, e) = serial_head a h in
      let w : so ≡ x.before ++ (a ∷ (r ++ x.after)) = rw e at x.whole_order in
      ap (sum_before f a) w ∙ before_split f (number_of T) x.before a (r ++ x.after) (rw w at (so_ascends T l))

  module _ (f : ℕ → ℕ) where
    abbrev pub before : ℕ → ℕ
    before a = sum_before f a so

    pub before_root : before (T.first 0) ≡ 0
    unfolding sum_over
    before_root = before_is f (T.first 0) (first_within T c 0 l.some_thread) (record { before = []; after = []; whole_order = rw (append-nil so) })

    pub before_child : (a : ℕ) → a < T.actions → kind T a ≡ fork → before (T.first (T.argument a)) ≡ before a + f a
    unfolding sum_over around_child
    before_child a h k =
        let x : Around a = around a h in
        omega (arith, before_is f a h x, before_is f (T.first (T.argument a)) (child_within T c b a h k) (around_child a h k x), sum_over_append f x.before (a ∷ []))

    pub before_fork : (a : ℕ) → a < T.actions → kind T a ≡ fork → before (suc a) ≡ before a + f a + whole T f (T.argument a)
    unfolding sum_over around_fork
    before_fork a h k =
        let x : Around a = around a h in
        let d : ℕ = T.argument a in
        omega (
          arith,
          before_is f a h x,
          before_is f (suc a) (next_within T c b a h (fork_no_end k)) (around_fork a h k x),
          sum_over_append f x.before (a ∷ serial T (T.first d)),
          whole_serial T c b n f d (fork_below_lem T c b a h k),
        )

    pub before_step : (a : ℕ) → a < T.actions → is end (kind T a) ≡ false → is fork (kind T a) ≡ false → before (suc a) ≡ before a + f a
    unfolding sum_over around_step
    before_step a h k j =
        let x : Around a = around a h in
        omega (arith, before_is f a h x, before_is f (suc a) (next_within T c b a h k) (around_step a h k j x), sum_over_append f x.before (a ∷ []))

  -- ---- roots

  module _ (K : ℕ) where
    pub no_new : (a : ℕ) → kind T a ≡ fork → new_threads T K a ≡ 0
    unfolding new_threads
    no_new a k = go (big T K a) refl
      where
        go : (q : Bool) → big T K a ≡ q → new_threads T K a ≡ 0
        go true e = no_way (cc (big_alloc T K a e))
        go false e = rw e

    pub root_root : root_of T K (T.first 0) ≡ T.threads
    unfolding root_of
    root_root = omega (arith, before_root (new_threads T K))

    pub root_child : (a : ℕ) → a < T.actions → kind T a ≡ fork → root_of T K (T.first (T.argument a)) ≡ root_of T K a
    unfolding root_of
    root_child a h k = omega (arith, before_child (new_threads T K) a h k, no_new a k)
