-- A table that is several parts under a new root: the shape, and the rules that it keeps.
use Prim.Native.Nat.{ℕ, zero, suc, ◌+◌, ◌-◌, ◌*◌, ◌≤◌, ◌<◌}
use native.Mathlib.Omega.{arith}
use native.Mathlib.Decide.{dec_lt}
use mathlib.Core.Path.{◌≡◌, refl, sym, ap, ◌∙◌}
use mathlib.Core.List.{List, [], ◌∷◌}
use mathlib.Core.Bool.{Bool, true, false, not, ◌&&◌}
use borrow.Author.Tests.{eq-eqb, lt-ltb, ne_eqb, le-ltb}
use Rattle.table.specs.Sum.{sum_to, any_below}
use Rattle.table.specs.Format.{is, code_of, Table, kind}
use Rattle.table.specs.declared.kinds.Kind.TheVariants.{End as end, Fork as fork, Join as join}
use Rattle.table.specs.Checks.{owner, end_of, kind_unknown, argument_wrong, end_misplaced, forks, forked_below, forked_before, never_forked, open_before, join_not_latest, end_with_open, alloc_of, free_of, with_child, whole, balance, balance_below0}
use Rattle.table.specs.Rules.{ContentRules, BodyRules, NestRules, ForkRules, BalanceRules}
use Rattle.table.proofs.Tests.{no_way, is_true, negative_is}
use Rattle.table.proofs.Sums.{sum_to_le}
use Rattle.table.proofs.Bodies.{first_is, body_within, owner_at, owner_is, owner_below_lem, owner_first, owner_end, after_end, fork_above, join_above, fork_below_lem}
use Rattle.table.proofs.Amounts.{action_within}
use Rattle.table.proofs.Nesting.{any_below_true, some_any_below, forks_true, fork_forks, fork_once, fork_exists}
use Rattle.table.proofs.Peaks.{whole_held}
use Rattle.parts.specs.Copies.{Copies, place_of}
use Rattle.parts.specs.Kept.{Keeps}
use Rattle.parts.proofs.CopyLaws.{copy_within, copy_kind, copy_child}
use Rattle.parts.proofs.ThreadRules.{kind_rule, argument_rule, end_rule, join_rule, close_rule, balance_rule}
use Rattle.parts.proofs.CopyAmounts.{alloc_same, free_same}
use Rattle.parts.proofs.CopyRules.{copy_whole}

-- k parts; part i is the table `part i`, and its threads stand in U from `at i` on. The root forks them in order and joins them in reverse.
pub record Shape (U : Table) (k : ℕ) (part : ℕ → Table) (at : ℕ → ℕ) : Type 0 where
  pub start : at 0 ≡ 1
  pub next : (i : ℕ) → i < k → at (suc i) ≡ at i + (part i).threads
  pub threads : U.threads ≡ at k
  pub contents : ContentRules U
  pub count : U.count 0 ≡ suc (2 * k)
  pub keeps : (i : ℕ) → i < k → Keeps (part i)
  pub copies : (i : ℕ) → i < k → Copies (part i) U (λ x. at i + x)
  pub forked : (i : ℕ) → i < k → kind U i ≡ fork
  pub names : (i : ℕ) → i < k → U.argument i ≡ at i
  pub joined : (i j : ℕ) → i + suc j ≡ k → kind U (k + j) ≡ join
  pub back : (i j : ℕ) → i + suc j ≡ k → U.argument (k + j) ≡ at i
  pub ended : kind U (2 * k) ≡ end
  pub plain : U.argument (2 * k) ≡ 0

module _ (U : Table) (k : ℕ) (part : ℕ → Table) (at : ℕ → ℕ) (w : Shape U k part at) where
  -- ---- where the parts stand

  at_rises : (i d : ℕ) → i + d ≤ k → at i ≤ at (i + d)
  at_rises i zero h = let e : i + 0 ≡ i = omega arith in rw e (omega arith)
  at_rises i (suc d) h =
      let e : i + suc d ≡ suc (i + d) = omega arith in
      rw e (omega (arith, at_rises i d (omega arith), w.next (i + d) (omega arith)))

  at_later : (i j : ℕ) → i < j → j ≤ k → at i + (part i).threads ≤ at j
  at_later i j h l =
      let d : ℕ = j - suc i in
      let e : suc i + d ≡ j = omega arith in
      let r : at (suc i) ≤ at j = rw e at (at_rises (suc i) d (omega arith)) in
      omega (arith, r, w.next i (omega arith))

  pub at_pos : (i : ℕ) → i ≤ k → 0 < at i
  at_pos i h =
      let e : 0 + i ≡ i = omega arith in
      omega (arith, w.start, rw e at (at_rises 0 i (omega arith)))

  pub at_within : (i : ℕ) → i < k → at i < U.threads
  at_within i h = omega (arith, w.threads, at_later i k h (omega arith), (w.keeps i h).some)

  pub some_thread : 0 < U.threads
  some_thread = omega (arith, w.threads, at_pos k (omega arith))

  -- a thread other than the root, as one of a part
  pub record InPart (u : ℕ) : Type 0 where
    pub index : ℕ
    pub thread : ℕ
    pub few : index < k
    pub known : thread < (part index).threads
    pub is_at : at index + thread ≡ u

  in_part_below : (i u : ℕ) → i ≤ k → 0 < u → u < at i → InPart u
  in_part_below zero u h p l = absurd (omega (arith, w.start))
  in_part_below (suc i) u h p l = go (dec_lt u (at i)) (in_part_below i u (omega arith) p)
    where
      go : Dec (u < at i) → (u < at i → InPart u) → InPart u
      go (yes q) ih = ih q
      go (no q) ih = record { index = i; thread = u - at i; few = omega arith; known = omega (arith, w.next i (omega arith), q); is_at = omega (arith, q) }

  pub in_part_lem : (u : ℕ) → 0 < u → u < U.threads → InPart u
  in_part_lem u p h = in_part_below k u (omega arith) p (omega (arith, w.threads))

  -- the parts do not overlap
  pub same_index : (i j t s : ℕ) → i < k → j < k → t < (part i).threads → s < (part j).threads → at i + t ≡ at j + s → i ≡ j
  same_index i j t s h l p q e = go (dec_lt i j) (dec_lt j i)
    where
      go : Dec (i < j) → Dec (j < i) → i ≡ j
      go (yes r) d = absurd (omega (arith, at_later i j r (omega arith)))
      go (no r) (yes d) = absurd (omega (arith, at_later j i d (omega arith)))
      go (no r) (no d) = omega (arith, r, d)

  -- ---- actions

  pub first_root : U.first 0 ≡ 0
  unfolding sum_to
  first_root = first_is U w.contents 0 some_thread

  pub root_within : (i : ℕ) → i ≤ 2 * k → i < U.actions
  root_within i h = omega (arith, w.count, first_root, body_within U w.contents 0 some_thread)

  pub root_owner : (i : ℕ) → i ≤ 2 * k → owner U i ≡ 0
  root_owner i h = owner_is U w.contents 0 i some_thread (omega (arith, first_root)) (omega (arith, w.count, first_root))

  pub root_end : end_of U 0 ≡ 2 * k
  root_end = omega (arith, after_end U w.contents 0 some_thread, w.count, first_root)

  -- an action of the root
  pub data RootAt (i : ℕ) : Type 0 where
    forks_it : i < k → RootAt i
    joins_it : (p j : ℕ) → p + suc j ≡ k → k + j ≡ i → RootAt i
    ends_it : i ≡ 2 * k → RootAt i

  pub root_at : (i : ℕ) → i ≤ 2 * k → RootAt i
  root_at i h = go (dec_lt i k) (dec_lt i (2 * k))
    where
      go : Dec (i < k) → Dec (i < 2 * k) → RootAt i
      go (yes p) d = forks_it p
      go (no p) (yes d) = joins_it (k - suc (i - k)) (i - k) (omega (arith, p)) (omega (arith, p))
      go (no p) (no d) = ends_it (omega (arith, d))

  -- an action of a part
  pub record AtPart (a : ℕ) : Type 0 where
    pub index : ℕ
    pub thread : ℕ
    pub offset : ℕ
    pub few : index < k
    pub known : thread < (part index).threads
    pub inside : offset < (part index).count thread
    pub is_at : U.first (at index + thread) + offset ≡ a
    pub owned : owner U a ≡ at index + thread

  pub data Place (a : ℕ) : Type 0 where
    root : a ≤ 2 * k → Place a
    in_a_part : AtPart a → Place a

  pub place : (a : ℕ) → a < U.actions → Place a
  place a h = go (owner U a) refl
    where
      go : (u : ℕ) → owner U a ≡ u → Place a
      go zero e = root (omega (arith, rw (e, first_root, w.count) at (owner_end U w.contents a h)))
      go (suc u) e =
          let z = in_part_lem (suc u) (omega arith) (rw e at (owner_below_lem U w.contents a h)) in
          let i = z.index in
          let t = z.thread in
          let lo : U.first (at i + t) ≤ a = rw (z.is_at, ← e) (owner_first U w.contents a h) in
          let hi : a < U.first (at i + t) + U.count (at i + t) = rw (z.is_at, ← e) (owner_end U w.contents a h) in
          in_a_part (record {
            index = i;
            thread = t;
            offset = a - U.first (at i + t);
            few = z.few;
            known = z.known;
            inside = omega (arith, lo, hi, (w.copies i z.few).counts t z.known);
            is_at = omega (arith, lo);
            owned = e ∙ sym z.is_at;
          })

  -- what holds of every action
  by_place : (P : ℕ → Type 0)
      → ((i : ℕ) → i < k → P i)
      → ((i j : ℕ) → i + suc j ≡ k → P (k + j))
      → P (2 * k)
      → ((i t o : ℕ) → i < k → t < (part i).threads → o < (part i).count t → P (U.first (at i + t) + o))
      → (a : ℕ) → a < U.actions → P a
  by_place P fs js en ps a h = go (place a h)
    where
      inner : RootAt a → P a
      inner (forks_it l) = fs a l
      inner (joins_it p j e q) = rw q at (js p j e)
      inner (ends_it e) = rw e en

      go : Place a → P a
      go (root l) = inner (root_at a l)
      go (in_a_part z) = rw z.is_at at (ps z.index z.thread z.offset z.few z.known z.inside)

  -- ---- rules 5 to 7

  pub join_bodies : BodyRules U
  unfolding kind_unknown argument_wrong end_misplaced is code_of
  join_bodies =
      record {
        kinds = by_place (λ (a : ℕ). kind_unknown U a ≡ false)
            (λ i h. rw (w.forked i h)) (λ i j e. rw (w.joined i j e)) (rw w.ended)
            (λ i t o h l m. let z = w.keeps i h in kind_rule (part i) U (λ x. at i + x) (w.copies i h) z.contents z.bodies w.contents t o l m);
        arguments = by_place (λ (a : ℕ). argument_wrong U a ≡ false)
            (λ i h. rw (w.forked i h, w.names i h, root_owner i (omega arith), lt-ltb 0 (at i) (at_pos i (omega arith)), lt-ltb (at i) U.threads (at_within i h)))
            (λ i j e. rw (w.joined i j e, w.back i j e, root_owner (k + j) (omega arith), lt-ltb 0 (at i) (at_pos i (omega arith)), lt-ltb (at i) U.threads (at_within i (omega arith))))
            (rw (w.ended, w.plain))
            (λ i t o h l m. let z = w.keeps i h in argument_rule (part i) U (λ x. at i + x) (w.copies i h) z.contents z.bodies w.contents
            (λ a q r. omega (arith, fork_above (part i) z.contents z.bodies a q r))
            (λ a q r. omega (arith, join_above (part i) z.contents z.bodies a q r)) t o l m);
        ends = by_place (λ (a : ℕ). end_misplaced U a ≡ false)
            (λ i h. rw (w.forked i h, root_owner i (omega arith), root_end, ne_eqb i (2 * k) (λ q. absurd (omega arith))))
            (λ i j e. rw (w.joined i j e, root_owner (k + j) (omega arith), root_end, ne_eqb (k + j) (2 * k) (λ q. absurd (omega arith))))
            (rw (w.ended, root_owner (2 * k) (omega arith), root_end, eq-eqb (2 * k) (2 * k) refl))
            (λ i t o h l m. let z = w.keeps i h in end_rule (part i) U (λ x. at i + x) (w.copies i h) z.contents z.bodies w.contents t o l m);
      }

  -- ---- rules 8 and 9

  -- the roots of the first i parts, the latest first
  standing : ℕ → List ℕ
  standing zero = []
  standing (suc i) = at i ∷ standing i

  open_forks_lem : (i : ℕ) → i ≤ k → open_before U i ≡ standing i
  unfolding open_before standing
  open_forks_lem zero h = refl
  open_forks_lem (suc i) h = rw (w.forked i h, w.names i h, open_forks_lem i (omega arith))

  open_joins : (j i : ℕ) → i + j ≡ k → open_before U (k + j) ≡ standing i
  unfolding open_before standing
  open_joins zero i e =
      let p : k + 0 ≡ k = omega arith in
      let q : i ≡ k = omega arith in
      rw (p, q) (open_forks_lem k (omega arith))
  open_joins (suc j) i e =
      let p : k + suc j ≡ suc (k + j) = omega arith in
      rw (p, open_before, w.joined i j e, open_joins j (suc i) (omega arith))

  root_fork : (y : ℕ) → y ≤ 2 * k → kind U y ≡ fork → y < k
  root_fork y m f = inner (root_at y m)
    where
      inner : RootAt y → y < k
      inner (forks_it q) = q
      inner (joins_it p s q r) = no_way (cc (rw r at (w.joined p s q)))
      inner (ends_it q) = no_way (cc w.ended)

  -- a fork in a part is the copy of one
  module _ (i t o : ℕ) (h : i < k) (l : t < (part i).threads) (m : o < (part i).count t) (f : kind U (U.first (at i + t) + o) ≡ fork) where
    old_fork : kind (part i) ((part i).first t + o) ≡ fork
    old_fork =
        let q : kind U (U.first (at i + t) + o) ≡ kind (part i) ((part i).first t + o) = rw ((w.copies i h).codes t o l m) in
        sym q ∙ f

    old_within : (part i).first t + o < (part i).actions
    old_within = let r = w.keeps i h in action_within (part i) r.contents r.bodies t o l m

    old_names : U.argument (U.first (at i + t) + o) ≡ at i + (part i).argument ((part i).first t + o)
    old_names = rw old_fork at ((w.copies i h).arguments t o l m)

    old_above : 0 < (part i).argument ((part i).first t + o)
    old_above = let r = w.keeps i h in omega (arith, fork_above (part i) r.contents r.bodies ((part i).first t + o) old_within old_fork)

    old_below : (part i).argument ((part i).first t + o) < (part i).threads
    old_below = let r = w.keeps i h in fork_below_lem (part i) r.contents r.bodies ((part i).first t + o) old_within old_fork

    -- it does not fork what the root forks
    not_mixed : (y : ℕ) → y < k → U.argument y ≡ U.argument (U.first (at i + t) + o) → ⊥
    not_mixed y n q =
        let s : at y + 0 ≡ at i + (part i).argument ((part i).first t + o) = omega (arith, w.names y n, q, old_names) in
        let z : y ≡ i = same_index y i 0 ((part i).argument ((part i).first t + o)) n h (w.keeps y n).some old_below s in
        absurd (omega (arith, ap at z, s, old_above))

  once_in_lem : (i t o s p : ℕ) (h : i < k) (l : t < (part i).threads) (m : o < (part i).count t) (l' : s < (part i).threads) (m' : p < (part i).count s)
      → kind U (U.first (at i + t) + o) ≡ fork → kind U (U.first (at i + s) + p) ≡ fork
      → U.argument (U.first (at i + t) + o) ≡ U.argument (U.first (at i + s) + p) → U.first (at i + t) + o ≡ U.first (at i + s) + p
  once_in_lem i t o s p h l m l' m' f g e =
      let r = w.keeps i h in
      let a : ℕ = (part i).first t + o in
      let x : ℕ = (part i).first s + p in
      let same : a ≡ x = fork_once (part i) r.contents r.bodies r.nesting a x (old_within i t o h l m f) (old_within i s p h l' m' g) (old_fork i t o h l m f) (old_fork i s p h l' m' g)
      (omega (arith, e, old_names i t o h l m f, old_names i s p h l' m' g)) in
      let u : t ≡ s = sym (owner_at (part i) r.contents t o l m) ∙ ap (owner (part i)) same ∙ owner_at (part i) r.contents s p l' m' in
      omega (arith, same, ap (part i).first u, ap (λ (v : ℕ). U.first (at i + v)) u)

  forks_once : (a x : ℕ) → a < U.actions → x < U.actions → kind U a ≡ fork → kind U x ≡ fork → U.argument a ≡ U.argument x → a ≡ x
  forks_once a x h l i j e = go (place a h) (place x l)
    where
      mixed : (y v : ℕ) → y < k → (z : AtPart v) → kind U v ≡ fork → U.argument y ≡ U.argument v → ⊥
      mixed y v m z f q = not_mixed z.index z.thread z.offset z.few z.known z.inside (rw z.is_at f) y m (rw z.is_at q)

      go : Place a → Place x → a ≡ x
      go (root m) (root n) =
          let p : a < k = root_fork a m i in
          let q : x < k = root_fork x n j in
          same_index a x 0 0 p q (w.keeps a p).some (w.keeps x q).some (omega (arith, w.names a p, w.names x q))
      go (root m) (in_a_part z) = absurd (mixed a x (root_fork a m i) z j e)
      go (in_a_part z) (root m) = absurd (mixed x a (root_fork x m j) z i (sym e))
      go (in_a_part z) (in_a_part v) =
          let zf : kind U (U.first (at z.index + z.thread) + z.offset) ≡ fork = rw z.is_at i in
          let vf : kind U (U.first (at v.index + v.thread) + v.offset) ≡ fork = rw v.is_at j in
          let s : at z.index + (part z.index).argument ((part z.index).first z.thread + z.offset) ≡ at v.index + (part v.index).argument ((part v.index).first v.thread + v.offset) =
          sym (rw z.is_at at (old_names z.index z.thread z.offset z.few z.known z.inside zf)) ∙ e ∙ rw v.is_at at (old_names v.index v.thread v.offset v.few v.known v.inside vf) in
          let t : z.index ≡ v.index = same_index z.index v.index _ _ z.few v.few
          (old_below z.index z.thread z.offset z.few z.known z.inside zf) (old_below v.index v.thread v.offset v.few v.known v.inside vf) s in
          let b : U.first (at z.index + v.thread) + v.offset ≡ x = rw t v.is_at in
          omega (
            arith,
            z.is_at,
            b,
            once_in_lem z.index z.thread z.offset v.thread v.offset z.few z.known z.inside (rw t v.known) (rw t v.inside) zf (rw b j) (rw (z.is_at, b) e),
          )

  pub join_nesting : NestRules U
  unfolding forked_before forked_below join_not_latest end_with_open is code_of standing
  join_nesting =
      record {
        once = λ a h. once a h (is fork (kind U a)) refl (any_below (forks U (U.argument a)) a) refl;
        latest = by_place (λ (a : ℕ). join_not_latest U a ≡ false)
            (λ i h. rw (w.forked i h))
            (λ i j e. rw (w.joined i j e, w.back i j e, open_joins j (suc i) (omega arith), eq-eqb (at i) (at i) refl))
            (rw w.ended)
            (λ i t o h l m. let z = w.keeps i h in join_rule (part i) U (λ x. at i + x) (w.copies i h) z.contents z.bodies w.contents join_bodies z.nesting t o l m);
        joined = by_place (λ (a : ℕ). end_with_open U a ≡ false)
            (λ i h. rw (w.forked i h))
            (λ i j e. rw (w.joined i j e))
            (let p : 2 * k ≡ k + k = omega arith in rw (w.ended, p, open_joins k 0 (omega arith)))
            (λ i t o h l m. let z = w.keeps i h in close_rule (part i) U (λ x. at i + x) (w.copies i h) z.contents z.bodies w.contents join_bodies z.nesting t o l m);
      }
    where
      once : (a : ℕ) → a < U.actions → (q : Bool) → is fork (kind U a) ≡ q → (r : Bool) → any_below (forks U (U.argument a)) a ≡ r → (is fork (kind U a) && any_below (forks U (U.argument a)) a) ≡ false
      once a h true q true r =
          let (x, l, s) = any_below_true (forks U (U.argument a)) a r in
          let (i, p) = forks_true U (U.argument a) x s in
          absurd (omega (arith, forks_once x a (omega arith) h i (is_true fork (kind U a) q) p))
      once a h true q false r = rw (q, r)
      once a h false q r s = rw q

  -- ---- rule 11

  pub join_forking : ForkRules U
  unfolding never_forked forked_below
  join_forking = record { forked = λ u p h. go u (in_part_lem u p h) }
    where
      some_fork : (u x : ℕ) → x < U.actions → kind U x ≡ fork → U.argument x ≡ u → not (any_below (forks U u) U.actions) ≡ false
      some_fork u x h f e = rw (some_any_below (forks U u) U.actions x h (fork_forks U u x f e))

      at_thread : (i t u : ℕ) → i < k → t < (part i).threads → at i + t ≡ u → not (any_below (forks U u) U.actions) ≡ false
      at_thread i zero u h l e = some_fork u i (root_within i (omega arith)) (w.forked i h) (omega (arith, w.names i h))
      at_thread i (suc t) u h l e =
          let r = w.keeps i h in
          let (x, q, j, v) = fork_exists (part i) r.contents r.bodies r.nesting r.forking (suc t) (omega arith) l in
          let y = w.copies i h in
          some_fork u (place_of (part i) U (λ z. at i + z) x) (copy_within (part i) U (λ z. at i + z) y r.contents r.bodies w.contents join_bodies x q)
          (copy_kind (part i) U (λ z. at i + z) y r.contents r.bodies w.contents join_bodies x q ∙ j)
          (copy_child (part i) U (λ z. at i + z) y r.contents r.bodies w.contents join_bodies x q j ∙ ap (λ z. at i + z) v ∙ e)

      go : (u : ℕ) → InPart u → not (any_below (forks U u) U.actions) ≡ false
      go u z = at_thread z.index z.thread u z.few z.known z.is_at

  -- ---- rule 10

  -- what a part's root comes to in the whole
  pub part_whole : (own : Table → ℕ → ℕ) → ((i : ℕ) → i < k → (t o : ℕ) → t < (part i).threads → o < (part i).count t → own U (U.first (at i + t) + o) ≡ own (part i) ((part i).first t + o))
      → (i : ℕ) → i < k → whole U (own U) (at i) ≡ whole (part i) (own (part i)) 0
  part_whole own same i h =
      let r = w.keeps i h in
      let z : at i + 0 ≡ at i = omega arith in
      rw z at (copy_whole (part i) U (λ x. at i + x) (w.copies i h) r.contents r.bodies w.contents join_bodies (own (part i)) (own U) (same i h) 0 r.some)

  pub part_alloc : (i : ℕ) → i < k → whole U (alloc_of U) (at i) ≡ whole (part i) (alloc_of (part i)) 0
  part_alloc = part_whole alloc_of (λ i h. let r = w.keeps i h in alloc_same (part i) U (λ x. at i + x) (w.copies i h) r.contents r.bodies w.contents join_bodies)

  pub part_free : (i : ℕ) → i < k → whole U (free_of U) (at i) ≡ whole (part i) (free_of (part i)) 0
  part_free = part_whole free_of (λ i h. let r = w.keeps i h in free_same (part i) U (λ x. at i + x) (w.copies i h) r.contents r.bodies w.contents join_bodies)

  pub part_held : (i : ℕ) → i < k → whole U (free_of U) (at i) ≤ whole U (alloc_of U) (at i)
  part_held i h =
      let r = w.keeps i h in
      omega (arith, part_alloc i h, part_free i h, whole_held (part i) r.contents r.bodies r.nesting r.balances 0 r.some)

  pub root_here : (i : ℕ) → U.first 0 + i ≡ i
  root_here i = omega (arith, first_root)

  one_held : (i : ℕ) → i ≤ 2 * k → with_child U join (free_of U) (whole U (free_of U)) (U.first 0 + i) ≤ with_child U join (alloc_of U) (whole U (alloc_of U)) (U.first 0 + i)
  unfolding alloc_of free_of is code_of
  one_held i h = rw (root_here i) (go (root_at i h))
    where
      go : RootAt i → with_child U join (free_of U) (whole U (free_of U)) i ≤ with_child U join (alloc_of U) (whole U (alloc_of U)) i
      go (forks_it q) = rw (w.forked i q) (omega arith)
      go (joins_it p j q r) = rw (← r, w.joined p j q, w.back p j q) (omega (arith, part_held p (omega arith)))
      go (ends_it q) = rw (q, w.ended) (omega arith)

  root_balance : (a : ℕ) → a ≤ 2 * k → balance_below0 U a ≡ false
  unfolding balance_below0 balance
  root_balance a h =
      let p : suc a - U.first 0 ≡ suc a = omega (arith, first_root) in
      rw (root_owner a h, p, negative_is) (le-ltb _ _ (sum_to_le _ _ (suc a) (λ i q. one_held i (omega arith))))

  pub join_balances : BalanceRules U
  join_balances =
      record {
        balanced = by_place (λ (a : ℕ). balance_below0 U a ≡ false)
            (λ i h. root_balance i (omega arith)) (λ i j e. root_balance (k + j) (omega arith)) (root_balance (2 * k) (omega arith))
            (λ i t o h l m. let z = w.keeps i h in balance_rule (part i) U (λ x. at i + x) (w.copies i h) z.contents z.bodies w.contents join_bodies z.nesting z.balances t o l m);
      }

  -- "The result passes every table check": 4 to 11
  pub shape_keeps : Keeps U
  shape_keeps =
      record { contents = w.contents; bodies = join_bodies; nesting = join_nesting; forking = join_forking; balances = join_balances; some = some_thread }
