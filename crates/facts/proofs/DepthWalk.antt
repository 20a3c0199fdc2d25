-- The walk from the highest thread down gives D: a child's depth is in the list when its parent is walked.
use Prim.Native.Nat.{ℕ, zero, suc, ◌+◌, ◌≤◌, ◌<◌, max}
use native.Mathlib.Nat.{suc-pred-eq_of_pos}
use native.Mathlib.Omega.{arith}
use native.Mathlib.Decide.{ℕ_discrete}
use mathlib.Core.Path.{◌≡◌, refl, ap, ◌∙◌}
use mathlib.Core.List.{List, Memᴰ}
use mathlib.Core.Bool.{Bool, true, false}
use lib.ListN.{length, get_or, set, length-set}
use lib.Seq.{get_or-set_same, get_or-set_other}
use Rattle.table.specs.Sum.{pick}
use Rattle.table.specs.Format.{is, kind_of, Table, kind}
use Rattle.table.specs.declared.kinds.Kind.{Kind}
use Rattle.table.specs.declared.kinds.Kind.TheVariants.{Fork as fork, Join as join}
use Rattle.table.specs.Checks.{owner, end_of, open_before}
use Rattle.table.specs.Rules.{ContentRules, BodyRules, NestRules, ForkRules}
use Rattle.table.specs.Level.{level, D}
use Rattle.table.proofs.Tests.{no_way, is_true, same_is}
use Rattle.table.proofs.Bodies.{count_pos, first_within, owner_at, owner_first, after_end, end_within, fork_above, fork_below_lem}
use Rattle.table.proofs.Amounts.{action_within}
use Rattle.table.proofs.Nesting.{fork_once, open_join, open_forked}
use Rattle.table.proofs.Levels.{level_root, level_child, level_bound}
use Rattle.facts.specs.Code.DepthWalk.{Reached, reached, last_after, step_depth, body_depth, thread_walked, thread_depth, depths_down, depth_in, cut16}
use Rattle.facts.proofs.EndLevels.{level_before, level_pos, level_goes, level_joins}

-- rules 4 to 9 and 11, and that there is a thread
pub record WellNested (T : Table) : Type 0 where
  pub contents : ContentRules T
  pub bodies : BodyRules T
  pub nesting : NestRules T
  pub forking : ForkRules T
  pub some : 0 < T.threads

-- ---- lengths

pub step_length : (cut : ℕ → ℕ) (k : Kind) (x : ℕ) (w : Reached) → length (step_depth cut k x w).depths ≡ length w.depths
step_length cut k x w = go (is fork k)
  where
    go : (q : Bool) → length (pick q (set w.depths x (cut (get_or w.depths x 0 + last_after k x w))) w.depths) ≡ length w.depths
    go true = length-set w.depths x (cut (get_or w.depths x 0 + last_after k x w))
    go false = refl

pub body_length : (cut code argument : ℕ → ℕ) (k a : ℕ) (w : Reached) → length (body_depth cut code argument a k w).depths ≡ length w.depths
unfolding body_depth
body_length cut code argument zero a w = refl
body_length cut code argument (suc k) a w =
    body_length cut code argument k (suc a) (step_depth cut (kind_of (code a)) (argument a) w) ∙ step_length cut (kind_of (code a)) (argument a) w

pub thread_length : (cut : ℕ → ℕ) (T : Table) (t : ℕ) (d : List ℕ) → length (thread_depth cut T t d) ≡ length d
thread_length cut T t d =
    length-set (thread_walked cut T t d).depths t (cut (thread_walked cut T t d).last) ∙ body_length cut T.code T.argument (T.count t) (T.first t) (reached d 0)

-- ---- what the list says of the child that an action forks

-- its own depth
abbrev Full : Table → List ℕ → ℕ → Type 0
Full T d a = get_or d (T.argument a) 0 + level T (T.first (T.argument a)) ≡ suc (level T (end_of T (T.argument a)))

-- the depth of its end from thread t's first action
abbrev Half : Table → ℕ → List ℕ → ℕ → Type 0
Half T t d a = get_or d (T.argument a) 0 + level T (T.first t) ≡ suc (level T (end_of T (T.argument a)))

-- the threads from t on are done
abbrev Done : Table → ℕ → List ℕ → Type 0
Done T t d = (a : ℕ) → a < T.actions → kind T a ≡ fork → t ≤ T.argument a → owner T a < t → Full T d a

-- and thread t is walked up to its action i
pub record Inside (T : Table) (t i : ℕ) (w : Reached) : Type 0 where
  pub long : T.threads ≤ length w.depths
  pub outer : (a : ℕ) → a < T.actions → kind T a ≡ fork → t < T.argument a → owner T a < t → Full T w.depths a
  pub ahead : (a : ℕ) → a < T.actions → kind T a ≡ fork → owner T a ≡ t → T.first t + i ≤ a → Full T w.depths a
  pub behind : (a : ℕ) → a < T.actions → kind T a ≡ fork → owner T a ≡ t → a < T.first t + i → Half T t w.depths a

-- what an action may reach is kept whole
abbrev pub Whole : (ℕ → ℕ) → Table → Type 0
Whole cut T = (v : ℕ) → v ≤ T.actions → cut v ≡ v

module _ (cut : ℕ → ℕ) (T : Table) (r : WellNested T) (whole : Whole cut T) (t : ℕ) (h : t < T.threads) where
  some_level : (a : ℕ) → a < T.actions → 0 < level T a
  some_level = level_pos T r.contents r.bodies r.nesting r.forking

  before_first : suc (level_before T t 0) ≡ level T (T.first t)
  unfolding level_before
  before_first = suc-pred-eq_of_pos (some_level (T.first t) (first_within T r.contents t h))

  here : (i : ℕ) → i < T.count t → T.first t + i < T.actions
  here i l = action_within T r.contents r.bodies t i h l

  -- one action
  module _ (i : ℕ) (l : i < T.count t) (w : Reached) (p : Inside T t i w) (q : w.last + level T (T.first t) ≡ suc (level_before T t i)) where
    own : owner T (T.first t + i) ≡ t
    own = owner_at T r.contents t i h l

    last_plain : is join (kind T (T.first t + i)) ≡ false → suc w.last + level T (T.first t) ≡ suc (level T (T.first t + i))
    last_plain j = omega (arith, q, level_goes T r.contents r.bodies r.nesting r.forking t h i l j)

    -- the child that is joined here was forked before, by this thread
    last_join : kind T (T.first t + i) ≡ join → suc (max w.last (get_or w.depths (T.argument (T.first t + i)) 0)) + level T (T.first t) ≡ suc (level T (T.first t + i))
    last_join j =
        let m : Memᴰ (T.argument (T.first t + i)) (open_before T (T.first t + i)) = rw (open_join T r.contents r.bodies r.nesting (T.first t + i) (here i l) j) (mathlib.Core.List.Memᴰ.head refl) in
        let (a, b, k, e, o) = open_forked T r.contents r.bodies r.nesting (T.first t + i) (T.argument (T.first t + i)) (here i l) m in
        let v : Half T t w.depths a = p.behind a (omega (arith, here i l)) k (o ∙ own) b in
        omega (arith, q, level_joins T r.contents r.bodies r.nesting r.forking t h i l j, rw e at v)

    last_right : last_after (kind T (T.first t + i)) (T.argument (T.first t + i)) w + level T (T.first t) ≡ suc (level T (T.first t + i))
    last_right = go (is join (kind T (T.first t + i))) refl
      where
        go : (s : Bool) → is join (kind T (T.first t + i)) ≡ s
            → suc (pick s (max w.last (get_or w.depths (T.argument (T.first t + i)) 0)) w.last) + level T (T.first t) ≡ suc (level T (T.first t + i))
        go true e = last_join (is_true join (kind T (T.first t + i)) e)
        go false e = last_plain e

    -- a fork changes what the list says of its child alone
    at_other : (a v : ℕ) → (T.argument a ≡ T.argument (T.first t + i) → ⊥) → get_or (set w.depths (T.argument (T.first t + i)) v) (T.argument a) 0 ≡ get_or w.depths (T.argument a) 0
    at_other a v d = get_or-set_other w.depths (T.argument (T.first t + i)) (T.argument a) v 0 d

    fork_kept : kind T (T.first t + i) ≡ fork → (v : ℕ) → v + level T (T.first t) ≡ suc (level T (T.first t + i))
        → cut (get_or w.depths (T.argument (T.first t + i)) 0 + v) ≡ get_or w.depths (T.argument (T.first t + i)) 0 + v
    fork_kept f v s =
        let c : ℕ = T.argument (T.first t + i) in
        let b : c < T.threads = fork_below_lem T r.contents r.bodies (T.first t + i) (here i l) f in
        let e = p.ahead (T.first t + i) (here i l) f own (omega arith) in
        let y = level_child T r.contents r.bodies r.nesting r.forking (T.first t + i) (here i l) f in
        whole (get_or w.depths (T.argument (T.first t + i)) 0 + v)
        (omega (
          arith,
          e,
          y,
          s,
          some_level (T.first t) (first_within T r.contents t h),
          level_bound T r.contents r.bodies r.nesting r.forking (end_of T (T.argument (T.first t + i))) (end_within T r.contents (T.argument (T.first t + i)) b),
        ))

    after_fork : kind T (T.first t + i) ≡ fork → (v : ℕ) → v + level T (T.first t) ≡ suc (level T (T.first t + i))
        → Inside T t (suc i) (record { depths = set w.depths (T.argument (T.first t + i)) (get_or w.depths (T.argument (T.first t + i)) 0 + v); last = v })
    after_fork f v s =
        record {
          long = omega (arith, p.long, length-set w.depths c n);
          outer = λ a k g o m. rw (at_other a n (λ e. differ a k g (λ y. absurd (omega (arith, m, ap (owner T) y, own))) e)) (p.outer a k g o m);
          ahead = λ a k g o m. rw (at_other a n (λ e. differ a k g (λ y. absurd (omega (arith, m, y))) e)) (p.ahead a k g o (omega arith));
          behind = λ a k g o m. behind a k g o m (ℕ_discrete a (T.first t + i));
        }
      where
        c : ℕ
        c = T.argument (T.first t + i)

        n : ℕ
        n = get_or w.depths (T.argument (T.first t + i)) 0 + v

        differ : (a : ℕ) → a < T.actions → kind T a ≡ fork → (a ≡ T.first t + i → ⊥) → T.argument a ≡ T.argument (T.first t + i) → ⊥
        differ a k g d e = d (fork_once T r.contents r.bodies r.nesting a (T.first t + i) k (here i l) g f e)

        child : T.argument (T.first t + i) < length w.depths
        child = omega (arith, p.long, fork_below_lem T r.contents r.bodies (T.first t + i) (here i l) f)

        own_half : Half T t (set w.depths (T.argument (T.first t + i)) (get_or w.depths (T.argument (T.first t + i)) 0 + v)) (T.first t + i)
        own_half =
            let e = p.ahead (T.first t + i) (here i l) f own (omega arith) in
            let y = level_child T r.contents r.bodies r.nesting r.forking (T.first t + i) (here i l) f in
            rw (get_or-set_same w.depths (T.argument (T.first t + i)) (get_or w.depths (T.argument (T.first t + i)) 0 + v) 0 child) (omega (arith, e, y, s))

        behind : (a : ℕ) → a < T.actions → kind T a ≡ fork → owner T a ≡ t → a < T.first t + suc i → Dec (a ≡ T.first t + i)
            → Half T t (set w.depths (T.argument (T.first t + i)) (get_or w.depths (T.argument (T.first t + i)) 0 + v)) a
        behind a k g o m (yes e) = rw e own_half
        behind a k g o m (no d) = rw (at_other a (get_or w.depths (T.argument (T.first t + i)) 0 + v) (λ e. differ a k g d e)) (p.behind a k g o (omega (arith, d)))

    after_plain : is fork (kind T (T.first t + i)) ≡ false → (v : ℕ) → Inside T t (suc i) (record { depths = w.depths; last = v })
    after_plain f v =
        record {
          long = p.long;
          outer = p.outer;
          ahead = λ a k g o m. p.ahead a k g o (omega arith);
          behind = λ a k g o m. behind a k g o m (ℕ_discrete a (T.first t + i));
        }
      where
        behind : (a : ℕ) → a < T.actions → kind T a ≡ fork → owner T a ≡ t → a < T.first t + suc i → Dec (a ≡ T.first t + i) → Half T t w.depths a
        behind a k g o m (yes e) = no_way (cc (same_is fork (kind T (T.first t + i)) (rw e at g)))
        behind a k g o m (no d) = p.behind a k g o (omega (arith, d))

    after : Inside T t (suc i) (step_depth cut (kind T (T.first t + i)) (T.argument (T.first t + i)) w)
    after = go (is fork (kind T (T.first t + i))) refl
      where
        v : ℕ
        v = last_after (kind T (T.first t + i)) (T.argument (T.first t + i)) w

        go : (s : Bool) → is fork (kind T (T.first t + i)) ≡ s
            → Inside T t (suc i) (record { depths = pick s (set w.depths (T.argument (T.first t + i)) (cut (get_or w.depths (T.argument (T.first t + i)) 0 + last_after (kind T (T.first t + i)) (T.argument (T.first t + i)) w))) w.depths; last = last_after (kind T (T.first t + i)) (T.argument (T.first t + i)) w })
        go true e =
            let f : kind T (T.first t + i) ≡ fork = is_true fork (kind T (T.first t + i)) e in
            rw (fork_kept f (last_after (kind T (T.first t + i)) (T.argument (T.first t + i)) w) last_right)
            (after_fork f (last_after (kind T (T.first t + i)) (T.argument (T.first t + i)) w) last_right)
        go false e = after_plain e (last_after (kind T (T.first t + i)) (T.argument (T.first t + i)) w)

  -- the rest of the body
  pub record Finished (w : Reached) : Type 0 where
    pub all : Inside T t (T.count t) w
    pub depth : w.last + level T (T.first t) ≡ suc (level T (end_of T t))

  walk_on : (k i : ℕ) (w : Reached) → i + k ≡ T.count t → Inside T t i w → w.last + level T (T.first t) ≡ suc (level_before T t i) → Finished (body_depth cut T.code T.argument (T.first t + i) k w)
  unfolding body_depth level_before
  walk_on zero i w e p q =
      let z : i ≡ T.count t = omega arith in
      record { all = rw z at p; depth = go i z q }
    where
      go : (i : ℕ) → i ≡ T.count t → w.last + level T (T.first t) ≡ suc (level_before T t i) → w.last + level T (T.first t) ≡ suc (level T (end_of T t))
      go zero z q = absurd (omega (arith, count_pos T r.contents t h))
      go (suc i) z q = let y : T.first t + i ≡ end_of T t = omega (arith, after_end T r.contents t h) in rw y at q
  walk_on (suc k) i w e p q =
      let l : i < T.count t = omega arith in
      let z : suc (T.first t + i) ≡ T.first t + suc i = omega arith in
      rw z (walk_on k (suc i) (step_depth cut (kind T (T.first t + i)) (T.argument (T.first t + i)) w) (omega arith) (after i l w p q) (last_right i l w p q))

  -- thread t walked over a list in which the threads above it are done
  module _ (d : List ℕ) (long : T.threads ≤ length d) (done : Done T (suc t) d) where
    pub walk_start : Inside T t 0 (record { depths = d; last = 0 })
    walk_start =
        record {
          long = long;
          outer = λ a k g o m. done a k g o (omega arith);
          ahead = λ a k g o m. done a k g (omega (arith, fork_above T r.contents r.bodies a k g, o)) (omega arith);
          behind = λ a k g o m. absurd (omega (arith, m, ap T.first o, owner_first T r.contents a k));
        }

    walk_end : Finished (thread_walked cut T t d)
    walk_end =
        let z : T.first t + 0 ≡ T.first t = omega arith in
        rw z at (walk_on (T.count t) 0 (record { depths = d; last = 0 }) (omega arith) walk_start (omega (arith, before_first)))

    own_kept : cut (thread_walked cut T t d).last ≡ (thread_walked cut T t d).last
    own_kept =
        whole (thread_walked cut T t d).last
        (omega (
          arith,
          walk_end.depth,
          some_level (T.first t) (first_within T r.contents t h),
          level_bound T r.contents r.bodies r.nesting r.forking (end_of T t) (end_within T r.contents t h),
        ))

    pub thread_own : get_or (thread_depth cut T t d) t 0 + level T (T.first t) ≡ suc (level T (end_of T t))
    thread_own =
        rw (get_or-set_same (thread_walked cut T t d).depths t (cut (thread_walked cut T t d).last) 0 (omega (arith, walk_end.all.long)), own_kept) walk_end.depth

    pub thread_done : Done T t (thread_depth cut T t d)
    thread_done a k g o m = go (ℕ_discrete (T.argument a) t)
      where
        go : Dec (T.argument a ≡ t) → Full T (thread_depth cut T t d) a
        go (yes e) = rw e thread_own
        go (no e) = rw (get_or-set_other (thread_walked cut T t d).depths t (T.argument a) (cut (thread_walked cut T t d).last) 0 e) (walk_end.all.outer a k g (omega (arith, e)) m)

-- ---- all threads

module _ (cut : ℕ → ℕ) (T : Table) (r : WellNested T) (whole : Whole cut T) where
  down_root : (t : ℕ) (d : List ℕ) → t < T.threads → T.threads ≤ length d → Done T (suc t) d
      → get_or (depths_down cut T (suc t) d) 0 0 + level T (T.first 0) ≡ suc (level T (end_of T 0))
  unfolding depths_down
  down_root zero d h long done = thread_own cut T r whole 0 h d long done
  down_root (suc t) d h long done =
      down_root t (thread_depth cut T (suc t) d) (omega arith) (omega (arith, thread_length cut T (suc t) d)) (thread_done cut T r whole (suc t) h d long done)

  -- whatever the list held before
  pub depth_walked : (d : List ℕ) → T.threads ≤ length d → depth_in cut T d ≡ D T
  unfolding D
  depth_walked d long = go T.threads refl
    where
      go : (n : ℕ) → T.threads ≡ n → get_or (depths_down cut T n d) 0 0 ≡ level T (end_of T 0)
      go zero e = absurd (omega (arith, r.some))
      go (suc t) e =
          let none : Done T (suc t) d = λ a k g o m. absurd (omega (arith, o, e, fork_below_lem T r.contents r.bodies a k g)) in
          omega (arith, down_root t d (omega arith) long none, level_root T r.contents r.bodies r.nesting r.forking r.some)

-- in 16 bits
pub depth_cut : (T : Table) → WellNested T → T.actions ≤ 8192 → (d : List ℕ) → T.threads ≤ length d → depth_in cut16 T d ≡ D T
depth_cut T r few d long = depth_walked cut16 T r (λ v h. omega arith) d long

-- ---- a body by itself

-- the walk over a part of the actions is the walk over the whole from where the part begins
pub body_shift : (cut code argument code' argument' : ℕ → ℕ) (f : ℕ) → ((i : ℕ) → code i ≡ code' (f + i)) → ((i : ℕ) → argument i ≡ argument' (f + i))
    → (k a : ℕ) (w : Reached) → body_depth cut code argument a k w ≡ body_depth cut code' argument' (f + a) k w
unfolding body_depth
body_shift cut code argument code' argument' f p q zero a w = refl
body_shift cut code argument code' argument' f p q (suc k) a w =
    let z : f + suc a ≡ suc (f + a) = omega arith in
    rw (p a, q a, ← z) (body_shift cut code argument code' argument' f p q k (suc a) (step_depth cut (kind_of (code' (f + a))) (argument' (f + a)) w))
