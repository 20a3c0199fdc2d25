-- S1, D and N of several parts under a new root, from the parts'.
use Prim.Native.Nat.{ℕ, zero, suc, pred, ◌+◌, ◌-◌, ◌*◌, ◌≤◌, ◌<◌, max}
use native.Mathlib.Omega.{arith}
use native.Mathlib.Decide.{dec_lt}
use mathlib.Core.Path.{◌≡◌, refl, ap, ◌∙◌}
use mathlib.Core.List.{List, [], ◌∷◌, map}
use mathlib.Core.Bool.{false}
use lib.ListN.{length}
use lib.IntN.{pos}
use borrow.Author.Tests.{le-ltb}
use Rattle.table.specs.Sum.{sum_to, greatest, greatest_to}
use Rattle.table.specs.Format.{is, code_of, Table, kind}
use Rattle.table.specs.declared.kinds.Kind.TheVariants.{End as end, Fork as fork}
use Rattle.table.specs.Checks.{end_of, alloc_of, free_of, whole, balance}
use Rattle.table.specs.Serial.{S1}
use Rattle.table.specs.Level.{level, D}
use Rattle.table.specs.Nested.{nest, N}
use Rattle.table.specs.Load.{facts_of}
use Rattle.table.proofs.Tests.{no_way}
use Rattle.table.proofs.Bodies.{count_pos, first_within, end_within, after_end, owner_of_end, end_kind}
use Rattle.table.proofs.Amounts.{fork_part, fork_part_fork, fork_part_step, fork_part_whole, whole_is}
use Rattle.table.proofs.Peaks.{top_at, peak_at, peak_thread, whole_held}
use Rattle.table.proofs.Levels.{level_root, level_child}
use Rattle.table.proofs.NestedThreads.{nest_root, nest_child, nest_most, nested_under}
use Rattle.parts.specs.Copies.{place_of}
use Rattle.parts.specs.Kept.{Keeps}
use Rattle.parts.specs.Joined.{deepest}
use Rattle.facts.specs.Weigh.{left_of, weigh}
use Rattle.facts.specs.declared.Weighed.{Weighed}
use Rattle.joining.specs.Joining.{peak_from}
use Rattle.parts.proofs.CopyLaws.{copy_first, copy_end, copy_level}
use Rattle.parts.proofs.CopyRules.{copy_nest}
use Rattle.parts.proofs.CopyAmounts.{copy_peak}
use Rattle.parts.proofs.RootLevels.{level_after, after_deepest, After, Brackets, bracket_levels}
use Rattle.parts.proofs.JoinShape.{Shape, RootAt, forks_it, joins_it, ends_it, root_at, in_part_lem, first_root, root_here, root_end, root_within, root_owner, part_alloc, part_free, shape_keeps}

-- ---- what a thread leaves

no_amount : (T : Table) (a : ℕ) → kind T a ≡ end → (alloc_of T a ≡ 0) × (free_of T a ≡ 0)
unfolding alloc_of free_of is code_of
no_amount T a e = (rw e, rw e)

module _ (T : Table) (r : Keeps T) where
  -- what is left was held at the end
  pub left_peak : left_of T ≤ S1 T
  unfolding S1 greatest_to is code_of
  left_peak = rw (peak_thread T r.contents r.bodies r.nesting r.balances 0 r.some) (go (T.count 0) refl)
    where
      go : (k : ℕ) → T.count 0 ≡ k → left_of T ≤ greatest_to (top_at T (peak_at T) 0) k
      go zero e = absurd (omega (arith, count_pos T r.contents 0 r.some))
      go (suc j) e =
          let a : ℕ = T.first 0 + j in
          let last : end_of T 0 ≡ a = omega (arith, after_end T r.contents 0 r.some) in
          let ended : kind T a ≡ end = rw last at (end_kind T r.contents r.bodies 0 r.some) in
          let no_fork : is fork (kind T a) ≡ false = rw ended in
          let up : fork_part T (alloc_of T) 0 (suc j) ≡ whole T (alloc_of T) 0 = rw e at (fork_part_whole T r.contents r.bodies r.nesting (alloc_of T) 0 r.some) in
          let down : fork_part T (free_of T) 0 (suc j) ≡ whole T (free_of T) 0 = rw e at (fork_part_whole T r.contents r.bodies r.nesting (free_of T) 0 r.some) in
          omega (arith, no_amount T a ended, up, down, fork_part_step T (alloc_of T) 0 j no_fork, fork_part_step T (free_of T) 0 j no_fork)

  -- "final balance": that after the root's end
  pub left_final : balance T (end_of T 0) ≡ pos (left_of T)
  unfolding balance
  left_final =
      let p : suc (end_of T 0) - T.first 0 ≡ T.count 0 = omega (arith, after_end T r.contents 0 r.some) in
      rw (
        owner_of_end T r.contents 0 r.some,
        p,
        ← whole_is T r.contents r.bodies (alloc_of T) 0 r.some,
        ← whole_is T r.contents r.bodies (free_of T) 0 r.some,
        le-ltb (whole T (alloc_of T) 0) (whole T (free_of T) 0) (whole_held T r.contents r.bodies r.nesting r.balances 0 r.some),
      )

after_all : (l : List ℕ) → 0 < length l → level_after 0 l ≡ deepest 1 l
after_all [] h = absurd (omega arith)
after_all (d ∷ l) h = omega (arith, after_deepest l d 0 1)

-- the tables of n parts from p on
unfoldable pub tables_from : (ℕ → Table) → ℕ → ℕ → List Table
tables_from part p zero = []
tables_from part p (suc n) = part p ∷ tables_from part (suc p) n

module _ (U : Table) (k : ℕ) (part : ℕ → Table) (at : ℕ → ℕ) (w : Shape U k part at) where
  whole_keeps : Keeps U
  whole_keeps = shape_keeps U k part at w

  -- ---- S1

  -- what the first i parts leave
  held_before : ℕ → ℕ
  held_before i = sum_to (λ (j : ℕ). left_of (part j)) i

  abbrev top : ℕ → ℕ
  top i = top_at U (peak_at U) 0 i

  fork_part_lem : (own : ℕ → ℕ) → ((a : ℕ) → kind U a ≡ fork → own a ≡ 0) → (i : ℕ) → i < k → fork_part U own 0 (suc i) ≡ fork_part U own 0 i + whole U own (at i)
  fork_part_lem own none i h =
      let f : kind U (U.first 0 + i) ≡ fork = rw (root_here U k part at w i) (w.forked i h) in
      let q : U.argument (U.first 0 + i) ≡ at i = rw (root_here U k part at w i) (w.names i h) in
      omega (arith, rw q at (fork_part_fork U own 0 i f), none (U.first 0 + i) f)

  fork_alloc : (a : ℕ) → kind U a ≡ fork → alloc_of U a ≡ 0
  unfolding alloc_of is code_of
  fork_alloc a e = rw e

  fork_free : (a : ℕ) → kind U a ≡ fork → free_of U a ≡ 0
  unfolding free_of is code_of
  fork_free a e = rw e

  part_left : (i : ℕ) → i < k → whole U (alloc_of U) (at i) ≡ whole U (free_of U) (at i) + left_of (part i)
  part_left i h =
      let r = w.keeps i h in
      omega (arith, part_alloc U k part at w i h, part_free U k part at w i h, whole_held (part i) r.contents r.bodies r.nesting r.balances 0 r.some)

  held_forks : (i : ℕ) → i ≤ k → fork_part U (alloc_of U) 0 i ≡ fork_part U (free_of U) 0 i + held_before i
  unfolding held_before sum_to
  held_forks zero h = refl
  held_forks (suc i) h =
      let p : fork_part U (alloc_of U) 0 (suc i) ≡ fork_part U (alloc_of U) 0 i + whole U (alloc_of U) (at i) = fork_part_lem (alloc_of U) fork_alloc i h in
      let q : fork_part U (free_of U) 0 (suc i) ≡ fork_part U (free_of U) 0 i + whole U (free_of U) (at i) = fork_part_lem (free_of U) fork_free i h in
      omega (arith, p, q, held_forks i (omega arith), part_left i h)

  -- from the last fork on nothing is drawn or given back
  quiet : (i : ℕ) → k ≤ i → i ≤ 2 * k → (is fork (kind U i) ≡ false) × (alloc_of U i ≡ 0) × (free_of U i ≡ 0)
  unfolding alloc_of free_of is code_of
  quiet i h l = go (root_at U k part at w i l)
    where
      go : RootAt U k part at w i → (is fork (kind U i) ≡ false) × (alloc_of U i ≡ 0) × (free_of U i ≡ 0)
      go (forks_it q) = absurd (omega arith)
      go (joins_it p j q r) = rw (← r, w.joined p j q) (refl, refl, refl)
      go (ends_it q) = rw (q, w.ended) (refl, refl, refl)

  held_joins : (j : ℕ) → j ≤ suc k → fork_part U (alloc_of U) 0 (k + j) ≡ fork_part U (free_of U) 0 (k + j) + held_before k
  held_joins zero h = let e : k + 0 ≡ k = omega arith in rw e (held_forks k (omega arith))
  held_joins (suc j) h =
      let e : k + suc j ≡ suc (k + j) = omega arith in
      let x = root_here U k part at w (k + j) in
      let (f, a, g) = quiet (k + j) (omega arith) (omega arith) in
      let f' : is fork (kind U (U.first 0 + (k + j))) ≡ false = rw x f in
      let a' : alloc_of U (U.first 0 + (k + j)) ≡ 0 = rw x a in
      let g' : free_of U (U.first 0 + (k + j)) ≡ 0 = rw x g in
      rw e (omega (arith, fork_part_step U (alloc_of U) 0 (k + j) f', fork_part_step U (free_of U) 0 (k + j) f', a', g', held_joins j (omega arith)))

  part_peak : (i : ℕ) → i < k → peak_at U (at i) ≡ S1 (part i)
  unfolding S1
  part_peak i h =
      let r = w.keeps i h in
      let z : at i + 0 ≡ at i = omega arith in
      let e : place_of (part i) U (λ x. at i + x) ((part i).first 0) ≡ U.first (at i) = rw z at (copy_first (part i) U (λ x. at i + x) (w.copies i h) r.contents r.bodies w.contents whole_keeps.bodies 0 r.some) in
      rw e at (copy_peak (part i) U (λ x. at i + x) (w.copies i h) r.contents r.bodies w.contents whole_keeps.bodies ((part i).first 0) (first_within (part i) r.contents 0 r.some))

  top_fork : (i : ℕ) → i < k → top i ≡ held_before i + S1 (part i)
  unfolding is code_of
  top_fork i h = rw (root_here U k part at w i, w.forked i h, w.names i h, part_peak i h) (omega (arith, held_forks i (omega arith)))

  top_join : (j : ℕ) → j ≤ k → top (k + j) ≡ held_before k
  top_join j h =
      let x = root_here U k part at w (k + j) in
      let (f, a, g) = quiet (k + j) (omega arith) (omega arith) in
      rw (x, f) (omega (arith, held_joins j (omega arith)))

  held_top : held_before k ≤ greatest_to top k
  unfolding held_before sum_to greatest_to
  held_top = go k refl
    where
      go : (i : ℕ) → i ≡ k → held_before i ≤ greatest_to top i
      go zero e = omega arith
      go (suc i) e = omega (arith, top_fork i (omega arith), left_peak (part i) (w.keeps i (omega arith)))

  top_joins : (j : ℕ) → j ≤ suc k → greatest_to top (k + j) ≡ greatest_to top k
  unfolding greatest_to
  top_joins zero h = let e : k + 0 ≡ k = omega arith in rw e
  top_joins (suc j) h =
      let e : k + suc j ≡ suc (k + j) = omega arith in
      rw e (omega (arith, top_joins j (omega arith), top_join j (omega arith), held_top))

  abbrev weights : ℕ → ℕ → List Weighed
  weights p m = map weigh (tables_from part p m)

  peaks_from : (m p : ℕ) → p + m ≡ k → max (greatest_to top p) (peak_from (held_before p) (weights p m)) ≡ greatest_to top k
  unfolding greatest_to peak_from tables_from held_before sum_to facts_of
  peaks_from zero p e = let q : p ≡ k = omega arith in rw q (omega arith)
  peaks_from (suc m) p e = omega (arith, peaks_from m (suc p) (omega arith), top_fork p (omega arith))

  pub join_peak : S1 U ≡ peak_from 0 (weights 0 k)
  unfolding S1 greatest_to held_before sum_to
  join_peak =
      let r = whole_keeps in
      let e : U.count 0 ≡ k + suc k = omega (arith, w.count) in
      let q : peak_at U 0 ≡ greatest_to top (k + suc k) = peak_thread U r.contents r.bodies r.nesting r.balances 0 r.some ∙ ap (greatest_to top) e in
      omega (arith, q, top_joins (suc k) (omega arith), peaks_from k 0 (omega arith))

  -- ---- N

  part_nest : (i t : ℕ) → i < k → t < (part i).threads → nest U (at i + t) ≡ suc (nest (part i) t)
  part_nest i t h l =
      let r = w.keeps i h in
      let u = whole_keeps in
      let z : at i + 0 ≡ at i = omega arith in
      let v : nest U (at i) ≡ suc (nest U 0) = rw (w.names i h, root_owner U k part at w i (omega arith)) at (nest_child U u.contents u.bodies u.nesting u.forking i (root_within U k part at w i (omega arith)) (w.forked i h)) in
      let s : nest U (at i + 0) ≡ suc 1 = rw z (omega (arith, v, nest_root U u.contents u.bodies u.nesting u.forking u.some)) in
      omega (arith, copy_nest (part i) U (λ x. at i + x) (w.copies i h) r.contents r.bodies u.contents u.bodies r.nesting r.forking u.nesting u.forking 1 s t l)

  greatest_part : (m p i : ℕ) → p ≤ i → i < p + m → N (part i) ≤ greatest (λ (x : Weighed). x.facts.nested) (weights p m)
  unfolding greatest tables_from facts_of
  greatest_part zero p i h l = absurd (omega arith)
  greatest_part (suc m) p i h l = go (dec_lt p i) (λ (q : suc p ≤ i). greatest_part m (suc p) i q (omega arith))
    where
      go : Dec (p < i) → (suc p ≤ i → N (part i) ≤ greatest (λ (x : Weighed). x.facts.nested) (weights (suc p) m)) → N (part i) ≤ max (N (part p)) (greatest (λ (x : Weighed). x.facts.nested) (weights (suc p) m))
      go (yes q) ih = omega (arith, ih q)
      go (no q) ih = let e : i ≡ p = omega (arith, q) in rw e (omega arith)

  greatest_parts : (m p B : ℕ) → ((i : ℕ) → p ≤ i → i < p + m → N (part i) ≤ B) → greatest (λ (x : Weighed). x.facts.nested) (weights p m) ≤ B
  unfolding greatest tables_from facts_of
  greatest_parts zero p B h = omega arith
  greatest_parts (suc m) p B h = omega (arith, h p (omega arith) (omega arith), greatest_parts m (suc p) B (λ i l q. h i (omega arith) (omega arith)))

  pub join_nested : N U ≡ suc (greatest (λ (x : Weighed). x.facts.nested) (weights 0 k))
  join_nested =
      let u = whole_keeps in
      let B : ℕ = greatest (λ (x : Weighed). x.facts.nested) (weights 0 k) in
      let above : N U ≤ suc B = nested_under U (suc B) (λ t h. go t h) in
      let below : B ≤ pred (N U) = greatest_parts k 0 (pred (N U)) (λ i l m.
      let h : i < k = omega arith in
      nested_under (part i) (pred (N U)) (λ t q. omega (arith, part_nest i t h q, nest_most U (at i + t) (inside i t h q)))) in
      let some : 1 ≤ N U = omega (arith, nest_root U u.contents u.bodies u.nesting u.forking u.some, nest_most U 0 u.some) in
      omega arith
    where
      inside : (i t : ℕ) → i < k → t < (part i).threads → at i + t < U.threads
      inside i t h q = (w.copies i h).within t q

      go : (t : ℕ) → t < U.threads → nest U t ≤ suc (greatest (λ (x : Weighed). x.facts.nested) (weights 0 k))
      go zero h = let u = whole_keeps in omega (arith, nest_root U u.contents u.bodies u.nesting u.forking u.some)
      go (suc t) h =
          let z = in_part_lem U k part at w (suc t) (omega arith) h in
          rw (← z.is_at) (omega (arith, part_nest z.index z.thread z.few z.known, nest_most (part z.index) z.thread z.known, greatest_part k 0 z.index (omega arith) (omega (arith, z.few))))

  -- ---- D

  part_depth : (i : ℕ) → i < k → level U (end_of U (at i)) + 1 ≡ level U (U.first (at i)) + D (part i)
  unfolding D
  part_depth i h =
      let r = w.keeps i h in
      let u = whole_keeps in
      let f : ℕ → ℕ = λ x. at i + x in
      let z : at i + 0 ≡ at i = omega arith in
      let v : level U (U.first (at i)) ≡ suc (level U i) = rw (w.names i h) at (level_child U u.contents u.bodies u.nesting u.forking i (root_within U k part at w i (omega arith)) (w.forked i h)) in
      let e : place_of (part i) U (λ x. at i + x) ((part i).first 0) ≡ U.first (at i) = rw z at (copy_first (part i) U (λ x. at i + x) (w.copies i h) r.contents r.bodies u.contents u.bodies 0 r.some) in
      let g : place_of (part i) U (λ x. at i + x) (end_of (part i) 0) ≡ end_of U (at i) = rw z at (copy_end (part i) U (λ x. at i + x) (w.copies i h) r.contents r.bodies u.contents u.bodies 0 r.some) in
      let q : level U (end_of U (at i)) ≡ level U i + level (part i) (end_of (part i) 0) = rw g at (copy_level (part i) U (λ x. at i + x) (w.copies i h) r.contents r.bodies u.contents u.bodies r.nesting r.forking u.nesting u.forking
      (level U i) (rw e v) (end_of (part i) 0) (end_within (part i) r.contents 0 r.some)) in
      omega (arith, q, v)

  abbrev depths : ℕ → ℕ → List ℕ
  depths p m = map (λ (x : Weighed). x.facts.depth) (weights p m)

  depths_length : (m p : ℕ) → length (depths p m) ≡ m
  unfolding tables_from
  depths_length zero p = refl
  depths_length (suc m) p = ap suc (depths_length m (suc p))

  brackets : (m p : ℕ) → p + m ≡ k → Brackets U whole_keeps.contents whole_keeps.bodies whole_keeps.nesting whole_keeps.forking p (depths p m)
  unfolding Brackets tables_from facts_of
  brackets zero p e = tt
  brackets (suc m) p e =
      let h : p < k = omega arith in
      let q : suc p + 2 * length (depths (suc p) m) ≡ k + m = omega (arith, depths_length m (suc p)) in
      (w.forked p h, root_within U k part at w p (omega arith), rw (w.names p h) (part_depth p h), brackets m (suc p) (omega arith), rw q (w.joined p m e), rw (q, w.names p h) (w.back p m e))

  pub join_depth : 0 < k → D U ≡ suc (deepest 1 (depths 0 k))
  unfolding D is code_of
  join_depth some =
      let u = whole_keeps in
      let l : List ℕ = depths 0 k in
      let first : After U u.contents u.bodies u.nesting u.forking 0 0 =
      record {
        within = root_within U k part at w 0 (omega arith);
        goes = λ j. rw (first_root U k part at w) at (level_root U u.contents u.bodies u.nesting u.forking u.some);
        joins = λ j. no_way (cc (w.forked 0 some));
      } in
      let e : 0 + 2 * length (depths 0 k) ≡ 2 * k = omega (arith, depths_length k 0) in
      let z = bracket_levels U u.contents u.bodies u.nesting u.forking l 0 0 (brackets k 0 (omega arith)) (rw e (root_within U k part at w (2 * k) (omega arith))) first in
      let y : After U u.contents u.bodies u.nesting u.forking (level_after 0 l) (2 * k) = rw e at z in
      rw (root_end U k part at w) (y.goes (rw w.ended) ∙ ap suc (after_all l (omega (arith, depths_length k 0))))
