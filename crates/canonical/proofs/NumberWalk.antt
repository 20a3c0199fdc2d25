-- The walks give the new numbers.
use Prim.Native.Nat.{ℕ, zero, suc, ◌+◌, ◌≤◌, ◌<◌}
use native.Mathlib.Omega.{arith}
use native.Mathlib.Decide.{ℕ_discrete}
use mathlib.Core.Path.{◌≡◌, refl, sym, ap, ◌∙◌}
use mathlib.Core.List.{List}
use mathlib.Core.Bool.{Bool, true, false}
use lib.ListN.{length, get_or, set, length-set}
use lib.Seq.{get_or-set_same, get_or-set_other}
use Rattle.table.specs.Sum.{pick, sum_to}
use Rattle.table.specs.Format.{is, kind_of, Table, kind}
use Rattle.table.specs.declared.kinds.Kind.{Kind}
use Rattle.table.specs.declared.kinds.Kind.TheVariants.{Fork as fork}
use Rattle.table.specs.Checks.{owner, counts_below}
use Rattle.table.proofs.Tests.{no_way, is_true, same_is}
use Rattle.table.proofs.Bodies.{first_is, first_next, count_pos, body_within, counts_all, body_before, owner_at, owner_end, fork_above, fork_below_lem}
use Rattle.table.proofs.Amounts.{fork_part, fork_part_bound, action_within}
use Rattle.table.proofs.Nesting.{fork_exists}
use Rattle.order.proofs.Lawful.{Lawful}
use Rattle.canonical.specs.Canonical.{new_number}
use Rattle.canonical.specs.Code.NumberWalk.{forked_sizes, sizes_down, Numbered, numbered, step_number, number_body, number_thread, numbers_up, numbers_in}
use Rattle.canonical.proofs.Order.{new_below}
use Rattle.canonical.proofs.Numbering.{one_fork, size_of, number_child_is, number_root_is, size_fork, size_plain, size_all}

-- what the walks may reach is kept whole
abbrev pub WholeTo : (ℕ → ℕ) → Table → Type 0
WholeTo cut T = (v : ℕ) → v ≤ suc T.actions → cut v ≡ v

one_bound : (T : Table) (a : ℕ) → one_fork T a ≤ 1
unfolding one_fork
one_bound T a = go (is fork (kind T a))
  where
    go : (q : Bool) → pick q 1 0 ≤ 1
    go true = omega arith
    go false = omega arith

module _ (cut : ℕ → ℕ) (T : Table) (l : Lawful T) (whole : WholeTo cut T) where
  -- ---- sizes

  abbrev SizesFrom : ℕ → List ℕ → Type 0
  SizesFrom t d = (u : ℕ) → t ≤ u → u < T.threads → get_or d u 0 ≡ size_of T u

  sizes_part : (d : List ℕ) (t : ℕ) → t < T.threads → SizesFrom (suc t) d → (k : ℕ) → k ≤ T.count t → forked_sizes T.code T.argument d (T.first t) k ≡ fork_part T (one_fork T) t k
  unfolding sum_to
  sizes_part d t h s zero i = refl
  sizes_part d t h s (suc k) i = go (is fork (kind T (T.first t + k))) refl (sizes_part d t h s k (omega arith))
    where
      go : (q : Bool) → is fork (kind T (T.first t + k)) ≡ q → forked_sizes T.code T.argument d (T.first t) k ≡ fork_part T (one_fork T) t k
          → forked_sizes T.code T.argument d (T.first t) k + pick (is fork (kind T (T.first t + k))) (get_or d (T.argument (T.first t + k)) 0) 0 ≡ fork_part T (one_fork T) t (suc k)
      go true q ih =
          let f : kind T (T.first t + k) ≡ fork = is_true fork (kind T (T.first t + k)) q in
          let w = action_within T l.contents l.bodies t k h i in
          let above = fork_above T l.contents l.bodies (T.first t + k) w f in
          let o = owner_at T l.contents t k h i in
          let e : get_or d (T.argument (T.first t + k)) 0 ≡ size_of T (T.argument (T.first t + k)) = s (T.argument (T.first t + k)) (omega (arith, above, o)) (fork_below_lem T l.contents l.bodies (T.first t + k) w f) in
          let v : pick (is fork (kind T (T.first t + k))) (get_or d (T.argument (T.first t + k)) 0) 0 ≡ size_of T (T.argument (T.first t + k)) = rw q e in
          omega (arith, ih, v, size_fork T l t k f)
      go false q ih =
          let v : pick (is fork (kind T (T.first t + k))) (get_or d (T.argument (T.first t + k)) 0) 0 ≡ 0 = rw q in
          omega (arith, ih, v, size_plain T l t k q)

  sizes_down_lem : (t : ℕ) (d : List ℕ) → t ≤ T.threads → T.threads ≤ length d → SizesFrom t d → SizesFrom 0 (sizes_down cut T t d)
  unfolding sizes_down
  sizes_down_lem zero d h long s = s
  sizes_down_lem (suc t) d h long s = sizes_down_lem t (set d t (cut (suc (forked_sizes T.code T.argument d (T.first t) (T.count t))))) (omega arith) (omega (arith, length-set d t (cut (suc (forked_sizes T.code T.argument d (T.first t) (T.count t)))))) next
    where
      next : SizesFrom t (set d t (cut (suc (forked_sizes T.code T.argument d (T.first t) (T.count t)))))
      next u p q = go (ℕ_discrete u t)
        where
          go : Dec (u ≡ t) → get_or (set d t (cut (suc (forked_sizes T.code T.argument d (T.first t) (T.count t))))) u 0 ≡ size_of T u
          go (yes e) =
              let p : forked_sizes T.code T.argument d (T.first t) (T.count t) ≡ fork_part T (one_fork T) t (T.count t) = sizes_part d t h s (T.count t) (omega arith) in
              let v : suc (forked_sizes T.code T.argument d (T.first t) (T.count t)) ≡ size_of T t = ap suc p ∙ sym (size_all T l t h) in
              let b = fork_part_bound T l.contents l.bodies l.nesting (one_fork T) 1 (λ a i. one_bound T a) t (T.count t) h (omega arith) in
              let w : cut (suc (forked_sizes T.code T.argument d (T.first t) (T.count t))) ≡ suc (forked_sizes T.code T.argument d (T.first t) (T.count t)) = whole (suc (forked_sizes T.code T.argument d (T.first t) (T.count t))) (omega (arith, p, b)) in
              rw e (get_or-set_same d t (cut (suc (forked_sizes T.code T.argument d (T.first t) (T.count t)))) 0 (omega arith) ∙ w ∙ v)
          go (no e) = get_or-set_other d t u (cut (suc (forked_sizes T.code T.argument d (T.first t) (T.count t)))) 0 e ∙ s u (omega (arith, e)) q

  pub sizes_right : (d : List ℕ) → T.threads ≤ length d → SizesFrom 0 (sizes_down cut T T.threads d)
  sizes_right d long = sizes_down_lem T.threads d (omega arith) long (λ u p q. absurd (omega arith))

  -- ---- numbers

  -- the forks before action a have given their children's numbers, and the root has its own
  record Given (a : ℕ) (new : List ℕ) : Type 0 where
    long : T.threads ≤ length new
    zeroth : get_or new 0 0 ≡ 0
    child : (x : ℕ) → x < a → x < T.actions → kind T x ≡ fork → get_or new (T.argument x) 0 ≡ new_number T (T.argument x)

  -- every thread has an action
  threads_actions : T.threads ≤ T.actions
  threads_actions = go T.threads refl
    where
      go : (n : ℕ) → T.threads ≡ n → n ≤ T.actions
      go zero e = omega arith
      go (suc t) e = omega (arith, firsts_rise t (omega arith), count_pos T l.contents t (omega arith), body_within T l.contents t (omega arith))
        where
          firsts_rise : (u : ℕ) → u < T.threads → u ≤ T.first u
          firsts_rise zero h = omega arith
          firsts_rise (suc u) h = omega (arith, firsts_rise u (omega arith), count_pos T l.contents u (omega arith), first_next T l.contents u h)

  module _ (sizes : List ℕ) (s : SizesFrom 0 sizes) where
    body_given : (k i t next : ℕ) (new : List ℕ) → t < T.threads → i + k ≡ T.count t → next ≡ suc (new_number T t + fork_part T (one_fork T) t i)
        → Given (T.first t + i) new → Given (T.first t + T.count t) (number_body cut T.code T.argument sizes (T.first t + i) k (numbered new next)).new
    unfolding number_body
    body_given zero i t next new h e n g = let z : i ≡ T.count t = omega arith in rw z at g
    body_given (suc k) i t next new h e n g =
        step (is fork (kind T (T.first t + i))) refl
        (λ f. body_given k (suc i) t (next + get_or sizes (T.argument (T.first t + i)) 0) (set new (T.argument (T.first t + i)) (cut next)) h (omega arith) (next_fork f) (given_fork f))
        (λ f. body_given k (suc i) t next new h (omega arith) (n ∙ ap (λ (x : ℕ). suc (new_number T t + x)) (sym (size_plain T l t i f))) (given_plain f))
      where
        here : T.first t + i < T.actions
        here = action_within T l.contents l.bodies t i h (omega arith)

        z : T.first t + suc i ≡ suc (T.first t + i)
        z = omega arith

        next_fork : kind T (T.first t + i) ≡ fork → next + get_or sizes (T.argument (T.first t + i)) 0 ≡ suc (new_number T t + fork_part T (one_fork T) t (suc i))
        next_fork f =
            omega (arith, n, size_fork T l t i f, s (T.argument (T.first t + i)) (omega arith) (fork_below_lem T l.contents l.bodies (T.first t + i) here f))

        given_fork : kind T (T.first t + i) ≡ fork → Given (T.first t + suc i) (set new (T.argument (T.first t + i)) (cut next))
        given_fork f =
            record {
              long = omega (arith, g.long, length-set new (T.argument (T.first t + i)) (cut next));
              zeroth = get_or-set_other new (T.argument (T.first t + i)) 0 (cut next) 0 (λ q. absurd (omega (arith, q, fork_above T l.contents l.bodies (T.first t + i) here f))) ∙ g.zeroth;
              child = λ x p w j. child x p w j (ℕ_discrete (T.argument x) (T.argument (T.first t + i)));
            }
          where
            below : T.argument (T.first t + i) < length new
            below = omega (arith, g.long, fork_below_lem T l.contents l.bodies (T.first t + i) here f)

            own : cut next ≡ new_number T (T.argument (T.first t + i))
            own =
                let e = n ∙ sym (number_child_is T l t i h (omega arith) f) in
                let b = new_below T l (T.argument (T.first t + i)) (fork_below_lem T l.contents l.bodies (T.first t + i) here f) in
                whole next (omega (arith, e, b, threads_actions)) ∙ e

            earlier : (x : ℕ) → x < T.first t + suc i → (T.argument x ≡ T.argument (T.first t + i) → ⊥) → x < T.first t + i
            earlier x p d = go (ℕ_discrete x (T.first t + i))
              where
                go : Dec (x ≡ T.first t + i) → x < T.first t + i
                go (yes q) = absurd (d (ap T.argument q))
                go (no q) = omega (arith, q)

            child : (x : ℕ) → x < T.first t + suc i → x < T.actions → kind T x ≡ fork → Dec (T.argument x ≡ T.argument (T.first t + i)) → get_or (set new (T.argument (T.first t + i)) (cut next)) (T.argument x) 0 ≡ new_number T (T.argument x)
            child x p w j (yes q) = rw q (get_or-set_same new (T.argument (T.first t + i)) (cut next) 0 below ∙ own)
            child x p w j (no q) = get_or-set_other new (T.argument (T.first t + i)) (T.argument x) (cut next) 0 q ∙ g.child x (earlier x p q) w j

        given_plain : is fork (kind T (T.first t + i)) ≡ false → Given (T.first t + suc i) new
        given_plain f = record { long = g.long; zeroth = g.zeroth; child = λ x p w j. go x p w j (ℕ_discrete x (T.first t + i)) }
          where
            go : (x : ℕ) → x < T.first t + suc i → x < T.actions → kind T x ≡ fork → Dec (x ≡ T.first t + i) → get_or new (T.argument x) 0 ≡ new_number T (T.argument x)
            go x p w j (yes q) = no_way (cc (same_is fork (kind T (T.first t + i)) (rw q at j)))
            go x p w j (no q) = g.child x (omega (arith, q)) w j

        step : (q : Bool) → is fork (kind T (T.first t + i)) ≡ q
            → (kind T (T.first t + i) ≡ fork → Given (T.first t + T.count t) (number_body cut T.code T.argument sizes (T.first t + suc i) k (numbered (set new (T.argument (T.first t + i)) (cut next)) (next + get_or sizes (T.argument (T.first t + i)) 0))).new)
            → (is fork (kind T (T.first t + i)) ≡ false → Given (T.first t + T.count t) (number_body cut T.code T.argument sizes (T.first t + suc i) k (numbered new next)).new)
            → Given (T.first t + T.count t) (number_body cut T.code T.argument sizes (suc (T.first t + i)) k (step_number cut sizes (kind T (T.first t + i)) (T.argument (T.first t + i)) (numbered new next))).new
        step true q a b =
            let f : kind T (T.first t + i) ≡ fork = is_true fork (kind T (T.first t + i)) q in
            let y : step_number cut sizes (kind T (T.first t + i)) (T.argument (T.first t + i)) (numbered new next) ≡ numbered (set new (T.argument (T.first t + i)) (cut next)) (next + get_or sizes (T.argument (T.first t + i)) 0) = rw q in
            rw (y, ← z) (a f)
        step false q a b =
            let e : next + 0 ≡ next = omega arith in
            let y : step_number cut sizes (kind T (T.first t + i)) (T.argument (T.first t + i)) (numbered new next) ≡ numbered new next = rw (q, e) in
            rw (y, ← z) (b q)

    -- thread t's own number is there when its body begins
    own_number : (t : ℕ) (new : List ℕ) → t < T.threads → Given (T.first t) new → get_or new t 0 ≡ new_number T t
    own_number zero new h g = g.zeroth ∙ sym (number_root_is T l)
    own_number (suc t) new h g =
        let (x, w, f, e) = fork_exists T l.contents l.bodies l.nesting l.forking (suc t) (omega arith) h in
        let p : owner T x < suc t = omega (arith, fork_above T l.contents l.bodies x w f, e) in
        let b = body_before T l.contents (owner T x) (suc t) p h in
        rw e at (g.child x (omega (arith, b, owner_end T l.contents x w)) w f)

    numbers_up_lem : (k t : ℕ) (new : List ℕ) → t + k ≡ T.threads → Given (counts_below T t) new → Given T.actions (numbers_up cut T sizes t k new)
    unfolding numbers_up sum_to
    numbers_up_lem zero t new e g =
        let z : t ≡ T.threads = omega arith in
        let y : counts_below T t ≡ T.actions = ap (counts_below T) z ∙ counts_all T l.contents in
        rw y at g
    numbers_up_lem (suc k) t new e g =
        let h : t < T.threads = omega arith in
        let f : T.first t ≡ counts_below T t = first_is T l.contents t h in
        let z : T.first t + 0 ≡ T.first t = omega arith in
        let g' : Given (T.first t) new = rw f g in
        let o : get_or new t 0 ≡ new_number T t = own_number t new h g' in
        let d = body_given (T.count t) 0 t (suc (get_or new t 0)) new h (omega arith) (omega (arith, o)) (rw z g') in
        let d' : Given (T.first t + T.count t) (number_thread cut T sizes t new) = rw z at d in
        let y : T.first t + T.count t ≡ counts_below T t + T.count t = omega (arith, f) in
        let d'' : Given (counts_below T t + T.count t) (number_thread cut T sizes t new) = rw y at d' in
        numbers_up_lem k (suc t) (number_thread cut T sizes t new) (omega arith) d''

  -- whatever the two lists held before
  pub numbers_right : (sizes new : List ℕ) → T.threads ≤ length sizes → T.threads ≤ length new → (t : ℕ) → t < T.threads → get_or (numbers_in cut T sizes new) t 0 ≡ new_number T t
  unfolding sum_to
  numbers_right sizes new ls ln t h =
      let d : List ℕ = sizes_down cut T T.threads sizes in
      let start : Given 0 (set new 0 0) =
      record { long = omega (arith, length-set new 0 0); zeroth = get_or-set_same new 0 0 0 (omega (arith, l.some_thread)); child = λ x p w j. absurd (omega arith) } in
      let g : Given T.actions (numbers_in cut T sizes new) = numbers_up_lem (sizes_down cut T T.threads sizes) (sizes_right sizes ls) T.threads 0 (set new 0 0) (omega arith) start in
      go t h g
    where
      go : (t : ℕ) → t < T.threads → Given T.actions (numbers_in cut T sizes new) → get_or (numbers_in cut T sizes new) t 0 ≡ new_number T t
      go zero h g = g.zeroth ∙ sym (number_root_is T l)
      go (suc t) h g =
          let (x, w, f, e) = fork_exists T l.contents l.bodies l.nesting l.forking (suc t) (omega arith) h in
          rw e at (g.child x w w f)

-- ---- lengths

pub step_new_length : (cut : ℕ → ℕ) (sizes : List ℕ) (k : Kind) (x : ℕ) (w : Numbered) → length (step_number cut sizes k x w).new ≡ length w.new
step_new_length cut sizes k x w = go (is fork k)
  where
    go : (q : Bool) → length (pick q (set w.new x (cut w.next)) w.new) ≡ length w.new
    go true = length-set w.new x (cut w.next)
    go false = refl

pub body_new_length : (cut code argument : ℕ → ℕ) (sizes : List ℕ) (k a : ℕ) (w : Numbered) → length (number_body cut code argument sizes a k w).new ≡ length w.new
unfolding number_body
body_new_length cut code argument sizes zero a w = refl
body_new_length cut code argument sizes (suc k) a w =
    body_new_length cut code argument sizes k (suc a) (step_number cut sizes (kind_of (code a)) (argument a) w) ∙ step_new_length cut sizes (kind_of (code a)) (argument a) w

pub sizes_length : (cut : ℕ → ℕ) (T : Table) (t : ℕ) (d : List ℕ) → length (sizes_down cut T t d) ≡ length d
unfolding sizes_down
sizes_length cut T zero d = refl
sizes_length cut T (suc t) d =
    let v : ℕ = cut (suc (forked_sizes T.code T.argument d (T.first t) (T.count t))) in
    sizes_length cut T t (set d t (cut (suc (forked_sizes T.code T.argument d (T.first t) (T.count t))))) ∙ length-set d t (cut (suc (forked_sizes T.code T.argument d (T.first t) (T.count t))))

pub numbers_length : (cut : ℕ → ℕ) (T : Table) (sizes : List ℕ) (k t : ℕ) (new : List ℕ) → length (numbers_up cut T sizes t k new) ≡ length new
unfolding numbers_up
numbers_length cut T sizes zero t new = refl
numbers_length cut T sizes (suc k) t new =
    numbers_length cut T sizes k (suc t) (number_thread cut T sizes t new)
    ∙ body_new_length cut T.code T.argument sizes (T.count t) (T.first t) (numbered new (suc (get_or new t 0)))
