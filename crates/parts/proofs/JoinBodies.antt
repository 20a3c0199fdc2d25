-- The joined bodies, read as a table, have the shape of their parts under a new root.
use Prim.Native.Nat.{ℕ, zero, suc, ◌+◌, ◌-◌, ◌*◌, ◌≤◌, ◌<◌}
use native.Mathlib.Omega.{arith}
use native.Mathlib.Decide.{dec_lt}
use mathlib.Core.Path.{◌≡◌, refl, ap, ◌∙◌}
use mathlib.Core.List.{List, [], ◌∷◌, ◌++◌, map, flatten}
use lib.ListN.{length, get_or, length-append, get_or-append}
use lib.Seq.{get_or-append-add, get_or-append_seam}
use Rattle.table.specs.Format.{kind_of, Table}
use Rattle.table.specs.Rules.{ContentRules}
use Rattle.table.specs.Written.{Action, body_in}
use Rattle.parts.specs.Copies.{renamed_action}
use Rattle.parts.specs.Kept.{Keeps}
use Rattle.parts.specs.Joined.{offsets, forks, joins_back, root_body, part_bodies, joined_bodies}
use Rattle.table.proofs.ReadBack.{Reads, none}
use Rattle.parts.proofs.Built.{Placed, built_contents, placed_copies, flatten_append, from_length, body_inside}
use Rattle.parts.proofs.PartsPlaced.{threads_before, map_length, map_at, part_at}
use Rattle.parts.proofs.JoinShape.{Shape}
use Rattle.table.proofs.Bodies.{count_pos}

-- a list of bodies that are the table's
pub record Bodied (T : Table) (bs : List (List Action)) : Type 0 where
  pub size : length bs ≡ T.threads
  pub body : (t : ℕ) → t < T.threads → get_or bs t [] ≡ body_in T t

-- ---- the root's body

pub offsets_length : (o : ℕ) (bss : List (List (List Action))) → length (offsets o bss) ≡ length bss
unfolding offsets
offsets_length o [] = refl
offsets_length o (bs ∷ bss) = ap suc (offsets_length (o + length bs) bss)

offsets_at : (bss : List (List (List Action))) (o i : ℕ) → i < length bss → get_or (offsets o bss) i 0 ≡ o + threads_before i bss
unfolding offsets threads_before
offsets_at [] o i h = absurd (omega arith)
offsets_at (bs ∷ bss) o zero h = omega arith
offsets_at (bs ∷ bss) o (suc i) h = omega (arith, offsets_at bss (o + length bs) i (omega arith))

forks_length : (os : List ℕ) → length (forks os) ≡ length os
unfolding forks
forks_length [] = refl
forks_length (o ∷ os) = ap suc (forks_length os)

forks_at : (os : List ℕ) (i : ℕ) → i < length os → get_or (forks os) i none ≡ record { code = 4; argument = get_or os i 0 }
unfolding forks
forks_at [] i h = absurd (omega arith)
forks_at (o ∷ os) zero h = refl
forks_at (o ∷ os) (suc i) h = forks_at os i (omega arith)

joins_length : (os : List ℕ) → length (joins_back os) ≡ length os
unfolding joins_back
joins_length [] = refl
joins_length (o ∷ os) = omega (arith, length-append (joins_back os) (record { code = 5; argument = o } ∷ []), joins_length os)

joins_at : (os : List ℕ) (i j : ℕ) → i + suc j ≡ length os → get_or (joins_back os) j none ≡ record { code = 5; argument = get_or os i 0 }
unfolding joins_back
joins_at [] i j e = absurd (omega arith)
joins_at (o ∷ os) zero j e =
    let q : j ≡ length (joins_back os) = omega (arith, joins_length os) in
    rw q (get_or-append_seam (joins_back os) (record { code = 5; argument = o }) [] none)
joins_at (o ∷ os) (suc i) j e =
    get_or-append (joins_back os) (record { code = 5; argument = o } ∷ []) none j (omega (arith, joins_length os)) ∙ joins_at os i j (omega arith)

module _ (os : List ℕ) where
  pub root_length : length (root_body os) ≡ suc (2 * length os)
  root_length =
      omega (arith, length-append (forks os) (joins_back os ++ (none ∷ [])), length-append (joins_back os) (none ∷ []), forks_length os, joins_length os)

  root_forks : (i : ℕ) → i < length os → get_or (root_body os) i none ≡ record { code = 4; argument = get_or os i 0 }
  root_forks i h = get_or-append (forks os) (joins_back os ++ (none ∷ [])) none i (omega (arith, forks_length os)) ∙ forks_at os i h

  root_joins : (i j : ℕ) → i + suc j ≡ length os → get_or (root_body os) (length os + j) none ≡ record { code = 5; argument = get_or os i 0 }
  root_joins i j e =
      let q : length os + j ≡ length (forks os) + j = omega (arith, forks_length os) in
      rw (q, get_or-append-add (forks os) (joins_back os ++ (none ∷ [])) j none)
      (get_or-append (joins_back os) (none ∷ []) none j (omega (arith, joins_length os)) ∙ joins_at os i j e)

  root_last : get_or (root_body os) (2 * length os) none ≡ none
  root_last =
      let q : 2 * length os ≡ length (forks os) + length (joins_back os) = omega (arith, forks_length os, joins_length os) in
      rw (q, get_or-append-add (forks os) (joins_back os ++ (none ∷ [])) (length (joins_back os)) none) (get_or-append_seam (joins_back os) none [] none)

-- ---- where the parts stand

before_next : (bss : List (List (List Action))) (i : ℕ) → i < length bss → threads_before (suc i) bss ≡ threads_before i bss + length (get_or bss i [])
unfolding threads_before
before_next [] i h = absurd (omega arith)
before_next (bs ∷ bss) zero h = omega (arith, none_before bss)
  where
    none_before : (bss : List (List (List Action))) → threads_before 0 bss ≡ 0
    none_before bss = refl
before_next (bs ∷ bss) (suc i) h = omega (arith, before_next bss i (omega arith))

parts_length : (bss : List (List (List Action))) (o : ℕ) → length (part_bodies o bss) ≡ threads_before (length bss) bss
unfolding part_bodies threads_before
parts_length [] o = refl
parts_length (bs ∷ bss) o =
    omega (arith, length-append (map (map (renamed_action (λ x. o + x))) bs) (part_bodies (o + length bs) bss), map_length (map (renamed_action (λ x. o + x))) bs, parts_length bss (o + length bs))

-- the actions of all parts
unfoldable pub actions_over : List (List (List Action)) → ℕ
actions_over [] = 0
actions_over (bs ∷ bss) = length (flatten bs) + actions_over bss

renamed_actions : (g : Action → Action) (bs : List (List Action)) → length (flatten (map (map g) bs)) ≡ length (flatten bs)
unfolding flatten
renamed_actions g [] = refl
renamed_actions g (b ∷ bs) =
    omega (arith, length-append (map g b) (flatten (map (map g) bs)), length-append b (flatten bs), Rattle.parts.proofs.Built.map_length g b, renamed_actions g bs)

parts_actions : (bss : List (List (List Action))) (o : ℕ) → length (flatten (part_bodies o bss)) ≡ actions_over bss
unfolding part_bodies actions_over flatten
parts_actions [] o = refl
parts_actions (bs ∷ bss) o =
    let g : List (List Action) = map (map (renamed_action (λ x. o + x))) bs in
    let p : length (flatten (g ++ part_bodies (o + length bs) bss)) ≡ length (flatten g ++ flatten (part_bodies (o + length bs) bss)) = ap length (flatten_append g (part_bodies (o + length bs) bss)) in
    omega (arith, p, length-append (flatten g) (flatten (part_bodies (o + length bs) bss)), renamed_actions (renamed_action (λ x. o + x)) bs, parts_actions bss (o + length bs))

pub joined_actions : (bss : List (List (List Action))) → length (flatten (joined_bodies bss)) ≡ suc (2 * length bss) + actions_over bss
unfolding joined_bodies flatten
joined_actions bss =
    omega (arith, length-append (root_body (offsets 1 bss)) (flatten (part_bodies 1 bss)), root_length (offsets 1 bss), offsets_length 1 bss, parts_actions bss 1)

pub joined_threads : (bss : List (List (List Action))) → length (joined_bodies bss) ≡ suc (threads_before (length bss) bss)
unfolding joined_bodies
joined_threads bss = ap suc (parts_length bss 1)

-- no body is empty where no part has an empty one
bodies_some : (bss : List (List (List Action))) (o : ℕ) → ((i t : ℕ) → i < length bss → t < length (get_or bss i []) → 0 < length (get_or (get_or bss i []) t []))
    → (t : ℕ) → t < length (part_bodies o bss) → 0 < length (get_or (part_bodies o bss) t [])
unfolding part_bodies
bodies_some [] o h t l = absurd (omega arith)
bodies_some (bs ∷ bss) o h t l = go (dec_lt t (length bs)) (bodies_some bss (o + length bs) (λ i u p q. h (suc i) u (omega arith) q))
  where
    g : List Action → List Action
    g = map (renamed_action (λ x. o + x))

    first_length : length (map (map (renamed_action (λ x. o + x))) bs) ≡ length bs
    first_length = map_length (map (renamed_action (λ x. o + x))) bs

    go : Dec (t < length bs) → ((u : ℕ) → u < length (part_bodies (o + length bs) bss) → 0 < length (get_or (part_bodies (o + length bs) bss) u []))
        → 0 < length (get_or (map (map (renamed_action (λ x. o + x))) bs ++ part_bodies (o + length bs) bss) t [])
    go (yes p) ih =
        rw (
          get_or-append (map (map (renamed_action (λ x. o + x))) bs) (part_bodies (o + length bs) bss) [] t (omega (arith, first_length)),
          map_at (map (renamed_action (λ x. o + x))) bs t p,
          Rattle.parts.proofs.Built.map_length (renamed_action (λ x. o + x)) (get_or bs t []),
        )
        (h 0 t (omega arith) p)
    go (no p) ih =
        let u : ℕ = t - length bs in
        let e : t ≡ length (map (map (renamed_action (λ x. o + x))) bs) + u = omega (arith, first_length, p) in
        let q : u < length (part_bodies (o + length bs) bss) = omega (arith, p, length-append (map (map (renamed_action (λ x. o + x))) bs) (part_bodies (o + length bs) bss), first_length) in
        rw (e, get_or-append-add (map (map (renamed_action (λ x. o + x))) bs) (part_bodies (o + length bs) bss) u []) (ih u q)

joined_later : (bss : List (List (List Action))) (t : ℕ) → get_or (joined_bodies bss) (suc t) [] ≡ get_or (part_bodies 1 bss) t []
unfolding joined_bodies
joined_later bss t = refl

-- ---- a table that has the joined bodies

module _ (U : Table) (bss : List (List (List Action))) (r : Reads U (joined_bodies bss)) (part : ℕ → Table)
    (bodied : (i : ℕ) → i < length bss → Bodied (part i) (get_or bss i [])) (keeps : (i : ℕ) → i < length bss → Keeps (part i)) where
  abbrev k : ℕ
  k = length bss

  abbrev at : ℕ → ℕ
  at i = 1 + threads_before i bss

  root_there : (i : ℕ) → i ≤ 2 * k → (i < length (flatten (joined_bodies bss))) × (get_or (flatten (joined_bodies bss)) i none ≡ get_or (root_body (offsets 1 bss)) i none)
  unfolding joined_bodies flatten
  root_there i h =
      let l : i < length (root_body (offsets 1 bss)) = omega (arith, root_length (offsets 1 bss), offsets_length 1 bss) in
      (omega (arith, l, length-append (root_body (offsets 1 bss)) (flatten (part_bodies 1 bss))), get_or-append (root_body (offsets 1 bss)) (flatten (part_bodies 1 bss)) none i l)

  root_is : (i : ℕ) (x : Action) → i ≤ 2 * k → get_or (root_body (offsets 1 bss)) i none ≡ x → (U.code i ≡ x.code) × (U.argument i ≡ x.argument)
  root_is i x h e =
      let q : get_or (flatten (joined_bodies bss)) i none ≡ x = (root_there i h).1 ∙ e in
      (r.codes i (root_there i h).0 ∙ ap (λ (y : Action). y.code) q, r.arguments i (root_there i h).0 ∙ ap (λ (y : Action). y.argument) q)

  fork_is : (i : ℕ) → i < k → (U.code i ≡ 4) × (U.argument i ≡ at i)
  fork_is i h =
      let z = root_is i (record { code = 4; argument = get_or (offsets 1 bss) i 0 }) (omega arith) (root_forks (offsets 1 bss) i (omega (arith, offsets_length 1 bss))) in
      (z.0, z.1 ∙ offsets_at bss 1 i h)

  join_is : (i j : ℕ) → i + suc j ≡ k → (U.code (k + j) ≡ 5) × (U.argument (k + j) ≡ at i)
  join_is i j e =
      let s : length (offsets 1 bss) ≡ k = offsets_length 1 bss in
      let q = root_joins (offsets 1 bss) i j (omega (arith, s)) in
      let z = root_is (k + j) (record { code = 5; argument = get_or (offsets 1 bss) i 0 }) (omega arith) (rw s at q) in
      (z.0, z.1 ∙ offsets_at bss 1 i (omega arith))

  end_is : (U.code (2 * k) ≡ 0) × (U.argument (2 * k) ≡ 0)
  end_is = root_is (2 * k) none (omega arith) (rw (offsets_length 1 bss) at (root_last (offsets 1 bss)))

  part_body : (i t : ℕ) → i < k → t < (part i).threads → get_or (joined_bodies bss) (1 + threads_before i bss + t) [] ≡ map (renamed_action (λ x. 1 + threads_before i bss + x)) (body_in (part i) t)
  unfolding joined_bodies
  part_body i t h l =
      let z = bodied i h in
      let e : 1 + threads_before i bss + t ≡ suc (threads_before i bss + t) = omega arith in
      rw e (part_at bss 1 i t h (omega (arith, z.size)) ∙ ap (map (renamed_action (λ x. 1 + threads_before i bss + x))) (z.body t l))

  before_rises : (d i : ℕ) → i + d ≤ k → threads_before i bss ≤ threads_before (i + d) bss
  before_rises zero i h = let e : i + 0 ≡ i = omega arith in rw e (omega arith)
  before_rises (suc d) i h =
      let e : i + suc d ≡ suc (i + d) = omega arith in
      rw e (omega (arith, before_rises d i (omega arith), before_next bss (i + d) (omega arith)))

  part_inside : (i t : ℕ) → i < k → t < (part i).threads → 1 + threads_before i bss + t < length (joined_bodies bss)
  part_inside i t h l =
      let d : ℕ = k - suc i in
      let e : suc i + d ≡ k = omega arith in
      let q : threads_before (suc i) bss ≤ threads_before k bss = rw e at (before_rises d (suc i) (omega arith)) in
      omega (arith, joined_threads bss, before_next bss i h, (bodied i h).size, q)

  placed : (i : ℕ) → i < k → Placed (part i) (joined_bodies bss) (λ x. 1 + threads_before i bss + x)
  placed i h = record { within = λ t l. part_inside i t h l; apart = λ t u l m e. omega arith; bodies = λ t l. part_body i t h l }

  root_body_lem : get_or (joined_bodies bss) 0 [] ≡ root_body (offsets 1 bss)
  unfolding joined_bodies
  root_body_lem = refl

  contents : ContentRules U
  contents = built_contents U (joined_bodies bss) r go
    where
      some_body : (i t : ℕ) → i < k → t < length (get_or bss i []) → 0 < length (get_or (get_or bss i []) t [])
      some_body i t h l =
          let z = bodied i h in
          let q : t < (part i).threads = omega (arith, z.size) in
          rw (z.body t q, from_length (part i) ((part i).first t) ((part i).count t)) (count_pos (part i) (keeps i h).contents t q)

      go : (t : ℕ) → t < length (joined_bodies bss) → 0 < length (get_or (joined_bodies bss) t [])
      go zero h = rw root_body_lem (omega (arith, root_length (offsets 1 bss)))
      go (suc t) h = rw (joined_later bss t) (bodies_some bss 1 some_body t (omega (arith, joined_threads bss, parts_length bss 1)))

  pub joined_shape : Shape U (length bss) part (λ i. 1 + threads_before i bss)
  unfolding kind_of threads_before
  joined_shape =
      record {
        start = omega arith;
        next = λ i h. omega (arith, before_next bss i h, (bodied i h).size);
        threads = omega (arith, r.threads, joined_threads bss);
        contents = contents;
        count = omega (arith, r.counts 0 (omega (arith, joined_threads bss)), ap length root_body_lem, root_length (offsets 1 bss), offsets_length 1 bss);
        keeps = keeps;
        copies = λ i h. placed_copies (part i) U (joined_bodies bss) r (λ x. 1 + threads_before i bss + x) (placed i h);
        forked = λ i h. rw (fork_is i h).0;
        names = λ i h. (fork_is i h).1;
        joined = λ i j e. rw (join_is i j e).0;
        back = λ i j e. (join_is i j e).1;
        ended = rw end_is.0;
        plain = end_is.1;
      }
