-- The forks and parents noted action by action: each step, and what they are in the end.
use mathlib.Core.Path.{◌≡◌, refl, sym, ap, ◌∙◌}
use Prim.Native.Nat.{ℕ, zero, suc, ◌+◌, ◌≤◌, ◌<◌}
use mathlib.Core.List.{List}
use mathlib.Core.Bool.{Bool, true, false, not, ◌&&◌}
use native.Mathlib.Decide.{ℕ_discrete, dec_lt}
use native.Mathlib.Omega.{arith}
use lib.Dec.{ltb}
use lib.ListN.{get_or, set, replicate, length-set}
use lib.Seq.{get_or-set_same, get_or-set_other, ext_get_or}
use borrow.Author.Tests.{ltb-true}
use Rattle.table.specs.Sum.{pick, sum_to}
use Rattle.table.specs.Format.{Table, kind}
use Rattle.table.specs.declared.kinds.Kind.TheVariants.{Fork as fork}
use Rattle.table.specs.Checks.{owner, forks}
use Rattle.table.specs.Level.{fork_below}
use Rattle.table.proofs.Bodies.{first_is, count_pos, owner_is, owner_below_lem, fork_above, fork_below_lem}
use Rattle.table.proofs.Nesting.{forks_true, fork_once, fork_found, fork_exists}
use Rattle.schedule.specs.Machine.{parent_of}
use Rattle.order.specs.Words.{filled}
use Rattle.order.specs.Firsts.{firsts}
use Rattle.order.proofs.Lists.{get_d_alike, filled_at, filled_length, firsts_length, firsts_at, firsts_past}
use Rattle.schedule.specs.Sound.{done_in}
use Rattle.order.proofs.Lawful.{Lawful}
use Rattle.schedule.specs.Parents.{Parents}
use Rattle.soundness.specs.Code.Checks.{done_at, unborn_in, unborn_at, Forks, Noted}
use Rattle.soundness.specs.Tested.{parents_in}

parents_at : (T : Table) (t : ℕ) → t < T.threads → get_or (filled 1024 (firsts (parent_of T) 0 T.threads)) t 0 ≡ parent_of T t
parents_at T t h = let e : 0 + t ≡ t = omega arith in filled_at 1024 (firsts (parent_of T) 0 T.threads) t ∙ firsts_at (parent_of T) 0 T.threads t h ∙ ap (parent_of T) e

pub parents_right : (T : Table) {ys : List ℕ} → ys ≡ parents_in T → Parents T ys
unfolding parents_in
parents_right T e = record { right = λ t h. rw e (parents_at T t h) }

module _ (T : Table) (l : Lawful T) where
  pub noted_none : (xs ys : List ℕ) → xs ≡ replicate 1024 0 → ys ≡ replicate 1024 0 → Noted T xs ys 0
  noted_none xs ys e d =
      record {
        fork_size_lem = rw e;
        parent_size = rw d;
        fork_right = λ x h k. absurd (omega arith);
        parent_right = λ x h k. absurd (omega arith);
        root = rw d;
        unused = λ t h. rw d (get_d_alike 1024 t 0);
      }

  module _ (xs ys : List ℕ) (a : ℕ) (n : Noted T xs ys a) (h : a < T.actions) where
    -- what holds of the forks below a, and of a
    more : (P : ℕ → Type 0) → ((x : ℕ) → x < a → kind T x ≡ fork → P x) → (kind T a ≡ fork → P a) → (x : ℕ) → x < a + 1 → kind T x ≡ fork → P x
    more P below here x b k = go (ℕ_discrete x a)
      where
        go : Dec (x ≡ a) → P x
        go (yes e) = rw e (here (rw e at k))
        go (no e) = let q : x ≡ a → ⊥ = e in below x (omega (arith, q)) k

    pub noted_other : (kind T a ≡ fork → ⊥) → Noted T xs ys (a + 1)
    noted_other o =
        record {
          fork_size_lem = n.fork_size_lem;
          parent_size = n.parent_size;
          fork_right = more (λ x. get_or xs (T.argument x) 0 ≡ x) n.fork_right (λ k. absurd (o k));
          parent_right = more (λ x. get_or ys (T.argument x) 0 ≡ owner T x) n.parent_right (λ k. absurd (o k));
          root = n.root;
          unused = n.unused;
        }

    pub noted_fork : kind T a ≡ fork → Noted T (set xs (T.argument a) a) (set ys (T.argument a) (owner T a)) (a + 1)
    noted_fork k =
        record {
          fork_size_lem = simp length-set n.fork_size_lem;
          parent_size = simp length-set n.parent_size;
          fork_right =
              more (λ x. get_or (set xs (T.argument a) a) (T.argument x) 0 ≡ x) (λ x b j. get_or-set_other xs _ _ a 0 (other x b j) ∙ n.fork_right x b j)
              (λ j. get_or-set_same xs (T.argument a) a 0 (omega (arith, n.fork_size_lem, few)));
          parent_right =
              more (λ x. get_or (set ys (T.argument a) (owner T a)) (T.argument x) 0 ≡ owner T x)
              (λ x b j. get_or-set_other ys _ _ (owner T a) 0 (other x b j) ∙ n.parent_right x b j)
              (λ j. get_or-set_same ys (T.argument a) (owner T a) 0 (omega (arith, n.parent_size, few)));
          root = get_or-set_other ys _ _ (owner T a) 0 (λ e. absurd (omega (arith, fork_above T l.contents l.bodies a h k))) ∙ n.root;
          unused =
              λ t g.
              get_or-set_other ys _ _ (owner T a) 0 (λ e. absurd (omega (arith, e, fork_below_lem T l.contents l.bodies a h k))) ∙ n.unused t g;
        }
      where
        few : T.argument a < 1024
        few = omega (arith, fork_below_lem T l.contents l.bodies a h k, l.few_threads)

        other : (x : ℕ) → x < a → kind T x ≡ fork → T.argument x ≡ T.argument a → ⊥
        other x b j e = omega (arith, fork_once T l.contents l.bodies l.nesting x a (omega arith) h j k e)

  -- nothing forks the root
  no_fork : (m : ℕ) → m ≤ T.actions → fork_below T m 0 ≡ 0
  unfolding fork_below
  no_fork zero h = refl
  no_fork (suc m) h = go (forks T 0 m) refl (no_fork m (omega arith))
    where
      go : (q : Bool) → forks T 0 m ≡ q → fork_below T m 0 ≡ 0 → pick q m (fork_below T m 0) ≡ 0
      go true e ih =
          let (k, d) = forks_true T 0 m e in
          absurd (omega (arith, fork_above T l.contents l.bodies m h k))
      go false e ih = ih

  root_parent : parent_of T 0 ≡ 0
  unfolding sum_to
  root_parent =
      let f : T.first 0 ≡ 0 = first_is T l.contents 0 l.some_thread in
      rw (no_fork T.actions (omega arith)) (owner_is T l.contents 0 0 l.some_thread (omega arith) (omega (arith, count_pos T l.contents 0 l.some_thread)))

  module _ (xs ys : List ℕ) (n : Noted T xs ys T.actions) where
    pub noted_forks : Forks T xs
    noted_forks = record { size = n.fork_size_lem; right = right }
      where
        right : (t : ℕ) → 0 < t → t < T.threads → get_or xs t 0 ≡ fork_below T T.actions t
        right t p h =
            let (x, b, k, e) = fork_exists T l.contents l.bodies l.nesting l.forking t p h in
            rw (← e) (n.fork_right x b k ∙ sym (fork_found T l.contents l.bodies l.nesting x b k))

    parent_noted : (t : ℕ) → t < T.threads → get_or ys t 0 ≡ parent_of T t
    parent_noted zero h = n.root ∙ sym root_parent
    parent_noted (suc t) h =
        let (x, b, k, e) = fork_exists T l.contents l.bodies l.nesting l.forking (suc t) (omega arith) h in
        rw (← e) (n.parent_right x b k ∙ sym (ap (owner T) (fork_found T l.contents l.bodies l.nesting x b k)))

    pub noted_parents : ys ≡ parents_in T
    unfolding parents_in
    noted_parents =
        ext_get_or 0 ys (filled 1024 (firsts (parent_of T) 0 T.threads))
        (n.parent_size ∙ sym (filled_length 1024 (firsts (parent_of T) 0 T.threads) (omega (arith, firsts_length (parent_of T) 0 T.threads, l.few_threads))))
        (λ t h. at t (dec_lt t T.threads))
      where
        at : (t : ℕ) → Dec (t < T.threads) → get_or ys t 0 ≡ get_or (filled 1024 (firsts (parent_of T) 0 T.threads)) t 0
        at t (yes h) = parent_noted t h ∙ sym (parents_at T t h)
        at t (no h) =
            n.unused t (omega (arith, h))
            ∙ sym (filled_at 1024 (firsts (parent_of T) 0 T.threads) t ∙ firsts_past (parent_of T) 0 T.threads t (omega (arith, h)))

  -- ---- what they say of a thread

  parent_below : (t : ℕ) → t < T.threads → parent_of T t < T.threads
  parent_below zero h = rw root_parent l.some_thread
  parent_below (suc t) h =
      let (x, b, k, e) = fork_exists T l.contents l.bodies l.nesting l.forking (suc t) (omega arith) h in
      rw (← e, fork_found T l.contents l.bodies l.nesting x b k) (owner_below_lem T l.contents x b)

  module _ (xs ys : List ℕ) (f : Forks T xs) (p : Parents T ys) (t : ℕ) (h : t < T.threads) where
    pub few : (t < 1024) × (get_or ys t 0 < 1024)
    few = (omega (arith, l.few_threads), omega (arith, l.few_threads, p.right t h, parent_below t h))

    -- the thread is unborn
    pub unborn_noted : (next status : List ℕ)
        → unborn_at xs ys next status t ≡ unborn_in T next status t
    unfolding done_in
    unborn_noted next status = go (ltb 0 t) refl
      where
        go : (q : Bool) → ltb 0 t ≡ q
            → (q && not (done_at next status (get_or ys t 0) (get_or xs t 0))) ≡ (q && not (done_in T next status (fork_below T T.actions t)))
        go true e = rw (p.right t h, f.right t (ltb-true 0 t e) h)
        go false e = refl
