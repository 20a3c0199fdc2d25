-- The new numbers from the sizes of subtrees: a child's number is its thread's, one more, and the sizes of the children forked before it.
use Prim.Native.Nat.{ℕ, zero, suc, ◌+◌, ◌-◌, ◌<◌}
use native.Mathlib.Omega.{arith}
use mathlib.Core.Path.{◌≡◌, refl, sym, ap, ◌∙◌}
use mathlib.Core.List.{List, [], ◌∷◌, ◌++◌, append-nil, append_assoc}
use mathlib.Core.Bool.{Bool, true, false}
use lib.ListN.{length, get_or, length-append}
use lib.Seq.{get_or-append_seam}
use Rattle.table.specs.Sum.{pick, sum_to, sum_over}
use Rattle.table.specs.Format.{code_of, is, Table, kind}
use Rattle.table.specs.declared.kinds.Kind.TheVariants.{End as end, Fork as fork}
use Rattle.table.specs.Checks.{owner, whole}
use Rattle.table.specs.Serial.{serial, serial_order}
use Rattle.table.proofs.Tests.{is_true}
use Rattle.table.proofs.Sums.{sum_over_append}
use Rattle.table.proofs.Bodies.{owner_below_lem, owner_first, owner_end, fork_above, fork_below_lem}
use Rattle.table.proofs.Amounts.{fork_part, fork_part_fork, fork_part_step, fork_part_whole, whole_serial, action_within}
use Rattle.table.proofs.Nesting.{fork_exists}
use Rattle.table.proofs.Rank.{no_end}
use Rattle.table.proofs.Serial.{serial_fork, serial_step}
use Rattle.table.proofs.Bodies.{owner_at}
use Rattle.order.specs.Words.{place_in}
use Rattle.order.proofs.Lawful.{Lawful}
use Rattle.canonical.specs.Canonical.{forks_in, thread_order, new_number}
use Rattle.canonical.proofs.Order.{new_at, order_length_lem}

-- 1 for a fork
unfoldable pub one_fork : Table → ℕ → ℕ
one_fork T a = pick (is fork (kind T a)) 1 0

-- the threads of a thread's subtree, itself included
abbrev pub size_of : Table → ℕ → ℕ
size_of T t = suc (whole T (one_fork T) t)

module _ (T : Table) where
  forks_append : (l r : List ℕ) → forks_in T (l ++ r) ≡ forks_in T l ++ forks_in T r
  unfolding forks_in
  forks_append [] r = refl
  forks_append (a ∷ l) r = go (is fork (kind T a)) (forks_append l r)
    where
      go : (q : Bool) → forks_in T (l ++ r) ≡ forks_in T l ++ forks_in T r
          → pick q (T.argument a ∷ forks_in T (l ++ r)) (forks_in T (l ++ r)) ≡ pick q (T.argument a ∷ forks_in T l) (forks_in T l) ++ forks_in T r
      go true ih = ap (λ (q : List ℕ). T.argument a ∷ q) ih
      go false ih = ih

  forks_count : (l : List ℕ) → length (forks_in T l) ≡ sum_over (one_fork T) l
  unfolding forks_in sum_over one_fork
  forks_count [] = refl
  forks_count (a ∷ l) = go (is fork (kind T a)) (forks_count l)
    where
      go : (q : Bool) → length (forks_in T l) ≡ sum_over (one_fork T) l → length (pick q (T.argument a ∷ forks_in T l) (forks_in T l)) ≡ pick q 1 0 + sum_over (one_fork T) l
      go true ih = omega (arith, ih)
      go false ih = omega (arith, ih)

  fork_one : (a : ℕ) → kind T a ≡ fork → one_fork T a ≡ 1
  unfolding one_fork is code_of
  fork_one a e = rw e

  fork_head : (a : ℕ) (l : List ℕ) → kind T a ≡ fork → forks_in T (a ∷ l) ≡ T.argument a ∷ forks_in T l
  unfolding forks_in is code_of
  fork_head a l e = rw e

-- thread t has come to its action k in serial order, after the actions `before`
pub record Reached (T : Table) (t k : ℕ) : Type 0 where
  pub before : List ℕ
  pub after : List ℕ
  pub order : serial_order T ≡ before ++ (serial T (T.first t + k) ++ after)
  pub number : sum_over (one_fork T) before ≡ new_number T t + fork_part T (one_fork T) t k

module _ (T : Table) (l : Lawful T) where
  -- the child forked where a thread has come to
  pub child_number : (t k : ℕ) → t < T.threads → k < T.count t → kind T (T.first t + k) ≡ fork → Reached T t k
      → new_number T (T.argument (T.first t + k)) ≡ suc (new_number T t + fork_part T (one_fork T) t k)
  unfolding thread_order
  child_number t k h i f r =
      let a : ℕ = T.first t + k in
      let w : T.first t + k < T.actions = action_within T l.contents l.bodies t k h i in
      let x : ℕ = T.argument (T.first t + k) in
      let rest : List ℕ = (serial T (T.first (T.argument (T.first t + k))) ++ serial T (suc (T.first t + k))) ++ r.after in
      let s : serial_order T ≡ r.before ++ (T.first t + k) ∷ ((serial T (T.first (T.argument (T.first t + k))) ++ serial T (suc (T.first t + k))) ++ r.after) =
      rw (serial_fork T l.contents l.bodies (T.first t + k) w f) at r.order in
      let o : thread_order T ≡ (0 ∷ forks_in T r.before) ++ T.argument (T.first t + k) ∷ forks_in T ((serial T (T.first (T.argument (T.first t + k))) ++ serial T (suc (T.first t + k))) ++ r.after) =
      rw (s, forks_append T r.before ((T.first t + k) ∷ ((serial T (T.first (T.argument (T.first t + k))) ++ serial T (suc (T.first t + k))) ++ r.after)), fork_head T (T.first t + k) ((serial T (T.first (T.argument (T.first t + k))) ++ serial T (suc (T.first t + k))) ++ r.after) f) in
      at_seam (forks_in T r.before) (T.argument (T.first t + k)) (forks_in T ((serial T (T.first (T.argument (T.first t + k))) ++ serial T (suc (T.first t + k))) ++ r.after)) o
      ∙ ap suc (forks_count T r.before ∙ r.number)
    where
      at_seam : (p : List ℕ) (x : ℕ) (q : List ℕ) → thread_order T ≡ (0 ∷ p) ++ x ∷ q → new_number T x ≡ suc (length p)
      at_seam p x q o =
          let g : get_or (thread_order T) (suc (length p)) 0 ≡ x = rw o (get_or-append_seam (0 ∷ p) x q 0) in
          let n : suc (length p) < T.threads = omega (arith, order_length_lem T l, ap length o, length-append (0 ∷ p) (x ∷ q)) in
          rw g at (new_at T l (suc (length p)) n)

  root_number : new_number T 0 ≡ 0
  unfolding thread_order place_in
  root_number = refl

  reached_root : Reached T 0 0
  unfolding sum_over sum_to
  reached_root =
      let z : T.first 0 + 0 ≡ T.first 0 = omega arith in
      record { before = []; after = []; order = rw (z, append-nil (serial T (T.first 0))); number = omega (arith, root_number) }

  reached_child : (t k : ℕ) → t < T.threads → k < T.count t → kind T (T.first t + k) ≡ fork → Reached T t k → Reached T (T.argument (T.first t + k)) 0
  unfolding sum_over sum_to
  reached_child t k h i f r =
      let w : T.first t + k < T.actions = action_within T l.contents l.bodies t k h i in
      let x : ℕ = T.argument (T.first t + k) in
      let z : T.first (T.argument (T.first t + k)) + 0 ≡ T.first (T.argument (T.first t + k)) = omega arith in
      let s = rw (serial_fork T l.contents l.bodies (T.first t + k) w f) at r.order in
      record {
        before = r.before ++ ((T.first t + k) ∷ []);
        after = serial T (suc (T.first t + k)) ++ r.after;
        order = s ∙ rw (
          z,
          append_assoc r.before ((T.first t + k) ∷ []) (serial T (T.first (T.argument (T.first t + k))) ++ (serial T (suc (T.first t + k)) ++ r.after)),
          append_assoc (serial T (T.first (T.argument (T.first t + k)))) (serial T (suc (T.first t + k))) r.after,
        );
        number = omega (arith, sum_over_append (one_fork T) r.before ((T.first t + k) ∷ []), fork_one T (T.first t + k) f, r.number, child_number t k h i f r);
      }

  reached_fork : (t k : ℕ) → t < T.threads → k < T.count t → kind T (T.first t + k) ≡ fork → Reached T t k → Reached T t (suc k)
  unfolding sum_over
  reached_fork t k h i f r =
      let w : T.first t + k < T.actions = action_within T l.contents l.bodies t k h i in
      let z : T.first t + suc k ≡ suc (T.first t + k) = omega arith in
      let child : List ℕ = serial T (T.first (T.argument (T.first t + k))) in
      let s = rw (serial_fork T l.contents l.bodies (T.first t + k) w f) at r.order in
      let v = whole_serial T l.contents l.bodies l.nesting (one_fork T) (T.argument (T.first t + k)) (fork_below_lem T l.contents l.bodies (T.first t + k) w f) in
      record {
        before = r.before ++ ((T.first t + k) ∷ serial T (T.first (T.argument (T.first t + k))));
        after = r.after;
        order = s ∙ rw (
          z,
          append_assoc r.before ((T.first t + k) ∷ serial T (T.first (T.argument (T.first t + k)))) (serial T (suc (T.first t + k)) ++ r.after),
          append_assoc (serial T (T.first (T.argument (T.first t + k)))) (serial T (suc (T.first t + k))) r.after,
        );
        number = omega (arith, sum_over_append (one_fork T) r.before ((T.first t + k) ∷ serial T (T.first (T.argument (T.first t + k)))), v, r.number, fork_part_fork T (one_fork T) t k f);
      }

  reached_plain : (t k : ℕ) → t < T.threads → k < T.count t → is end (kind T (T.first t + k)) ≡ false → is fork (kind T (T.first t + k)) ≡ false → Reached T t k → Reached T t (suc k)
  unfolding sum_over
  reached_plain t k h i e f r =
      let w : T.first t + k < T.actions = action_within T l.contents l.bodies t k h i in
      let z : T.first t + suc k ≡ suc (T.first t + k) = omega arith in
      let s = rw (serial_step T l.contents l.bodies (T.first t + k) w e f) at r.order in
      record {
        before = r.before ++ ((T.first t + k) ∷ []);
        after = r.after;
        order = s ∙ rw (z, append_assoc r.before ((T.first t + k) ∷ []) (serial T (suc (T.first t + k)) ++ r.after));
        number = omega (arith, sum_over_append (one_fork T) r.before ((T.first t + k) ∷ []), r.number, fork_part_step T (one_fork T) t k f);
      }

  reached_on : (t k : ℕ) → t < T.threads → k < T.count t → Reached T t 0 → Reached T t k
  reached_on t zero h i r = r
  reached_on t (suc k) h i r = go (is fork (kind T (T.first t + k))) refl (reached_on t k h (omega arith) r)
    where
      o : owner T (T.first t + k) ≡ owner T (T.first t + suc k)
      o = owner_at T l.contents t k h (omega arith) ∙ sym (owner_at T l.contents t (suc k) h i)

      e : is end (kind T (T.first t + k)) ≡ false
      e = no_end T l.contents l.bodies (T.first t + k) (T.first t + suc k) (omega arith) (action_within T l.contents l.bodies t (suc k) h i) o

      go : (q : Bool) → is fork (kind T (T.first t + k)) ≡ q → Reached T t k → Reached T t (suc k)
      go true q p = reached_fork t k h (omega arith) (is_true fork (kind T (T.first t + k)) q) p
      go false q p = reached_plain t k h (omega arith) e q p

  reached_below : (n t : ℕ) → t < n → t < T.threads → Reached T t 0
  reached_below zero t p h = absurd (omega arith)
  reached_below (suc n) zero p h = reached_root
  reached_below (suc n) (suc t) p h = go (fork_exists T l.contents l.bodies l.nesting l.forking (suc t) (omega arith) h) (reached_below n)
    where
      go : (x : ℕ) × (x < T.actions) × (kind T x ≡ fork) × (T.argument x ≡ suc t) → ((u : ℕ) → u < n → u < T.threads → Reached T u 0) → Reached T (suc t) 0
      go (x, w, f, e) ih =
          let u : ℕ = owner T x in
          let b : owner T x < T.threads = owner_below_lem T l.contents x w in
          let k : ℕ = x - T.first (owner T x) in
          let z : T.first (owner T x) + (x - T.first (owner T x)) ≡ x = omega (arith, owner_first T l.contents x w) in
          let i : x - T.first (owner T x) < T.count (owner T x) = omega (arith, owner_first T l.contents x w, owner_end T l.contents x w) in
          let r : Reached T (owner T x) (x - T.first (owner T x)) = reached_on (owner T x) (x - T.first (owner T x)) b i (ih (owner T x) (omega (arith, fork_above T l.contents l.bodies x w f, e)) b) in
          rw (z, e) at (reached_child (owner T x) (x - T.first (owner T x)) b i (rw z f) r)

  -- what the walk from thread 0 up gives each child
  pub number_child_is : (t k : ℕ) → t < T.threads → k < T.count t → kind T (T.first t + k) ≡ fork
      → new_number T (T.argument (T.first t + k)) ≡ suc (new_number T t + fork_part T (one_fork T) t k)
  number_child_is t k h i f = child_number t k h i f (reached_on t k h i (reached_below (suc t) t (omega arith) h))

  pub number_root_is : new_number T 0 ≡ 0
  number_root_is = root_number

  -- and the sizes, from the highest thread down: each fork adds its child's
  pub size_fork : (t k : ℕ) → kind T (T.first t + k) ≡ fork → fork_part T (one_fork T) t (suc k) ≡ fork_part T (one_fork T) t k + size_of T (T.argument (T.first t + k))
  size_fork t k f = omega (arith, fork_part_fork T (one_fork T) t k f, fork_one T (T.first t + k) f)

  pub size_plain : (t k : ℕ) → is fork (kind T (T.first t + k)) ≡ false → fork_part T (one_fork T) t (suc k) ≡ fork_part T (one_fork T) t k
  unfolding one_fork
  size_plain t k f = let z : one_fork T (T.first t + k) ≡ 0 = rw f in omega (arith, fork_part_step T (one_fork T) t k f, z)

  pub size_all : (t : ℕ) → t < T.threads → size_of T t ≡ suc (fork_part T (one_fork T) t (T.count t))
  size_all t h = ap suc (sym (fork_part_whole T l.contents l.bodies l.nesting (one_fork T) t h))
