-- The bodies of the new threads from their sizes, and how sizes come from sizes: what a loop upward over the new threads keeps.
use Prim.Native.Nat.{ℕ, zero, suc, ◌+◌, ◌-◌, ◌*◌, ◌≤◌, ◌<◌}
use native.Mathlib.Omega.{arith}
use native.Mathlib.Decide.{dec_lt}
use mathlib.Core.Path.{◌≡◌, refl, sym, ap, ◌∙◌}
use mathlib.Core.List.Memᴰ
use mathlib.Core.List.{List, [], ◌∷◌, ◌++◌, Memᴰ}
use mathlib.Core.Bool.{Bool, true, false}
use mathlib.Core.Logic.{◌⊎◌, inl, inr}
use borrow.Author.Tests.{le-leb, lt-leb}
use lib.ListN.{length, get_or, length-append, get_or-append}
use lib.Seq.{get_or-append-add}
use Rattle.table.specs.Sum.{pick}
use Rattle.table.specs.Format.{Table}
use Rattle.table.specs.Written.{Action}
use Rattle.filling.specs.Filled.{big, dummies, new_threads, half, leaf, fork2, tree_of, tree_at, trees_along}
use Rattle.filling.specs.TreeSizes.{sizes_of, tree_body, sizes_at, sizes_along}
use Rattle.filling.proofs.Trees.{tree_induction, tree_one, tree_more, tree_length, dummies_two}
use Rattle.filling.proofs.Roots.{Rooted, rooted_bound}

sizes_one : (f d : ℕ) → d ≤ 1 → sizes_of (suc f) d ≡ d ∷ []
unfolding sizes_of
sizes_one f d h = rw (le-leb d 1 h)

sizes_more : (f d : ℕ) → 1 < d → sizes_of (suc f) d ≡ d ∷ (sizes_of f (half d) ++ sizes_of f (d - half d))
unfolding sizes_of
sizes_more f d h = rw (lt-leb d 1 h)

body_one : (c e : ℕ) → e ≤ 1 → tree_body c e ≡ leaf
unfolding tree_body
body_one c e h = rw (le-leb e 1 h)

body_more : (c e : ℕ) → 1 < e → tree_body c e ≡ fork2 (suc c) (c + 2 * half e)
unfolding tree_body
body_more c e h = rw (lt-leb e 1 h)

-- a list of bodies is what its sizes say, from thread c on
pub record Sized (c : ℕ) (t : List (List Action)) (s : List ℕ) : Type 0 where
  pub same_length : length s ≡ length t
  pub body : (j : ℕ) → j < length s → get_or t j [] ≡ tree_body (c + j) (get_or s j 0)
  pub some : (j : ℕ) → j < length s → 1 ≤ get_or s j 0
  -- the sizes of the two children
  pub children : (j : ℕ) → j < length s → 1 < get_or s j 0
      → (j + 2 * half (get_or s j 0) < length s) × (get_or s (suc j) 0 ≡ half (get_or s j 0)) × (get_or s (j + 2 * half (get_or s j 0)) 0 ≡ get_or s j 0 - half (get_or s j 0))

-- thread j is a child of a lower one
pub record Reached (s : List ℕ) (j : ℕ) : Type 0 where
  pub parent : ℕ
  pub lower : parent < j
  pub splits : 1 < get_or s parent 0
  pub is_child : (j ≡ suc parent) ⊎ (j ≡ parent + 2 * half (get_or s parent 0))

get_d_front : (s t : List ℕ) (j : ℕ) → j < length s → get_or (s ++ t) j 0 ≡ get_or s j 0
get_d_front s t j h = get_or-append s t 0 j h

get_d_back : (s t : List ℕ) (i j : ℕ) → i ≡ length s + j → get_or (s ++ t) i 0 ≡ get_or t j 0
get_d_back s t i j e = ap (λ (v : ℕ). get_or (s ++ t) v 0) e ∙ get_or-append-add s t j 0

-- one after the other
pub sized_append : (c d : ℕ) (t u : List (List Action)) (s r : List ℕ) → d ≡ c + length t → Sized c t s → Sized d u r → Sized c (t ++ u) (s ++ r)
sized_append c d t u s r e x y =
    record {
      same_length = omega (arith, length-append s r, length-append t u, x.same_length, y.same_length);
      body = λ j h. body_at j h (dec_lt j (length s));
      some = λ j h. some_at j h (dec_lt j (length s));
      children = λ j h k. children_at j h k (dec_lt j (length s));
    }
  where
    over : (j : ℕ) → j < length (s ++ r) → (j < length s → ⊥) → (j - length s < length r) × (j ≡ length s + (j - length s))
    over j h q = (omega (arith, length-append s r, q), omega (arith, q))

    body_at : (j : ℕ) → j < length (s ++ r) → Dec (j < length s) → get_or (t ++ u) j [] ≡ tree_body (c + j) (get_or (s ++ r) j 0)
    body_at j h (yes q) = rw (get_d_front s r j q, get_or-append t u [] j (omega (arith, x.same_length))) (x.body j q)
    body_at j h (no q) =
        let (w, z) = over j h q in
        let i : ℕ = j - length s in
        let z' : j ≡ length t + i = omega (arith, x.same_length, z) in
        let v : c + j ≡ d + i = omega (arith, x.same_length, z) in
        ap (λ (m : ℕ). get_or (t ++ u) m []) z' ∙ get_or-append-add t u i [] ∙ y.body i w ∙ rw (v, get_d_back s r j i z)

    some_at : (j : ℕ) → j < length (s ++ r) → Dec (j < length s) → 1 ≤ get_or (s ++ r) j 0
    some_at j h (yes q) = rw (get_d_front s r j q) (x.some j q)
    some_at j h (no q) = let (w, z) = over j h q in rw (get_d_back s r j (j - length s) z) (y.some (j - length s) w)

    children_at : (j : ℕ) → j < length (s ++ r) → 1 < get_or (s ++ r) j 0 → Dec (j < length s)
        → (j + 2 * half (get_or (s ++ r) j 0) < length (s ++ r)) × (get_or (s ++ r) (suc j) 0 ≡ half (get_or (s ++ r) j 0)) × (get_or (s ++ r) (j + 2 * half (get_or (s ++ r) j 0)) 0 ≡ get_or (s ++ r) j 0 - half (get_or (s ++ r) j 0))
    children_at j h k (yes q) =
        let g : get_or (s ++ r) j 0 ≡ get_or s j 0 = get_d_front s r j q in
        let (a, b, e) = x.children j q (rw g at k) in
        let two : 2 ≤ 2 * half (get_or s j 0) = omega (arith, rw g at k) in
        rw g (
          omega (arith, a, length-append s r),
          get_d_front s r (suc j) (omega (arith, a, two)) ∙ b,
          get_d_front s r (j + 2 * half (get_or s j 0)) a ∙ e,
        )
    children_at j h k (no q) =
        let (w, z) = over j h q in
        let i : ℕ = j - length s in
        let g : get_or (s ++ r) j 0 ≡ get_or r i 0 = get_d_back s r j i z in
        let (a, b, e) = y.children i w (rw g at k) in
        rw g (
          omega (arith, a, z, length-append s r),
          get_d_back s r (suc j) (suc i) (omega (arith, z)) ∙ b,
          get_d_back s r (j + 2 * half (get_or r i 0)) (i + 2 * half (get_or r i 0)) (omega (arith, z)) ∙ e,
        )

some_there : (r : List ℕ) → 1 ≤ get_or r 0 0 → 0 < length r
some_there [] h = h
some_there (x ∷ r) h = omega arith

sizes_root : (f d : ℕ) → 1 ≤ d → d ≤ f → get_or (sizes_of f d) 0 0 ≡ d
unfolding sizes_of
sizes_root zero d h i = absurd (omega arith)
sizes_root (suc f) d h i = go (lib.Dec.leb d 1)
  where
    go : (q : Bool) → get_or (pick q (d ∷ []) (d ∷ (sizes_of f (half d) ++ sizes_of f (d - half d)))) 0 0 ≡ d
    go true = refl
    go false = refl

pub tree_sized : (f c d : ℕ) → 1 ≤ d → d ≤ f → Sized c (tree_of f c d) (sizes_of f d)
tree_sized f c d one fuel = tree_induction (λ f c d. 1 ≤ d → d ≤ f → Sized c (tree_of f c d) (sizes_of f d))
    (λ f c d e i j.
    rw (tree_one f c d (omega arith), sizes_one f d (omega arith))
    (record {
      same_length = refl;
      body = λ k h. let z : k ≡ 0 = omega arith in rw z (sym (body_one (c + 0) d (omega arith)));
      some = λ k h. let z : k ≡ 0 = omega arith in rw z i;
      children = λ k h m. let z : k ≡ 0 = omega arith in absurd (omega (arith, rw z at m));
    }))
    (λ f c d e p q i j.
    let left : List ℕ = sizes_of f (half d) in
    let right : List ℕ = sizes_of f (d - half d) in
    let ll : length (tree_of f (suc c) (half d)) + 1 ≡ 2 * half d = tree_length f (suc c) (half d) (omega arith) (omega arith) in
    let x : Sized (suc c) (tree_of f (suc c) (half d)) left = p (omega arith) (omega arith) in
    let y : Sized (c + 2 * half d) (tree_of f (c + 2 * half d) (d - half d)) right = q (omega arith) (omega arith) in
    rw (tree_more f c d e, sizes_more f d e)
    (with_root c d (tree_of f (suc c) (half d)) (tree_of f (c + 2 * half d) (d - half d)) left right e ll (sizes_root f (half d) (omega arith) (omega arith)) (sizes_root f (d - half d) (omega arith) (omega arith)) x y))
    f c d one fuel one fuel
  where
    with_root : (c d : ℕ) (t u : List (List Action)) (s r : List ℕ) → 1 < d → length t + 1 ≡ 2 * half d → get_or s 0 0 ≡ half d → get_or r 0 0 ≡ d - half d
        → Sized (suc c) t s → Sized (c + 2 * half d) u r → Sized c (fork2 (suc c) (c + 2 * half d) ∷ (t ++ u)) (d ∷ (s ++ r))
    with_root c d t u s r e ll ls lr x y =
        let z : Sized (suc c) (t ++ u) (s ++ r) = sized_append (suc c) (c + 2 * half d) t u s r (omega arith) x y in
        record {
          same_length = ap suc z.same_length;
          body = body_at z;
          some = some_at z;
          children = children_at z;
        }
      where
        body_at : Sized (suc c) (t ++ u) (s ++ r) → (j : ℕ) → j < length (d ∷ (s ++ r)) → get_or (fork2 (suc c) (c + 2 * half d) ∷ (t ++ u)) j [] ≡ tree_body (c + j) (get_or (d ∷ (s ++ r)) j 0)
        body_at z zero h = let v : c + 0 ≡ c = omega arith in rw v (sym (body_more c d e))
        body_at z (suc j) h = let v : c + suc j ≡ suc c + j = omega arith in rw v (z.body j (omega arith))

        some_at : Sized (suc c) (t ++ u) (s ++ r) → (j : ℕ) → j < length (d ∷ (s ++ r)) → 1 ≤ get_or (d ∷ (s ++ r)) j 0
        some_at z zero h = omega arith
        some_at z (suc j) h = z.some j (omega arith)

        children_at : Sized (suc c) (t ++ u) (s ++ r) → (j : ℕ) → j < length (d ∷ (s ++ r)) → 1 < get_or (d ∷ (s ++ r)) j 0
            → (j + 2 * half (get_or (d ∷ (s ++ r)) j 0) < length (d ∷ (s ++ r))) × (get_or (d ∷ (s ++ r)) (suc j) 0 ≡ half (get_or (d ∷ (s ++ r)) j 0))
            × (get_or (d ∷ (s ++ r)) (j + 2 * half (get_or (d ∷ (s ++ r)) j 0)) 0 ≡ get_or (d ∷ (s ++ r)) j 0 - half (get_or (d ∷ (s ++ r)) j 0))
        children_at z zero h k =
            let n : length s + 1 ≡ 2 * half d = omega (arith, x.same_length) in
            let v : 0 + 2 * half d ≡ suc (length s + 0) = omega (arith, n) in
            let m : 0 < length r = some_there r (omega (arith, lr)) in (
              omega (arith, n, m, length-append s r),
              get_d_front s r 0 (omega (arith, n)) ∙ ls,
              ap (λ (w : ℕ). get_or (d ∷ (s ++ r)) w 0) v ∙ get_or-append-add s r 0 0 ∙ lr,
            )
        children_at z (suc j) h k =
            let (a, b, g) = z.children j (omega arith) k in
            let v : suc j + 2 * half (get_or (s ++ r) j 0) ≡ suc (j + 2 * half (get_or (s ++ r) j 0)) = omega arith in
            (omega (arith, a), b, ap (λ (w : ℕ). get_or (d ∷ (s ++ r)) w 0) v ∙ g)

-- ---- every thread of a tree but its root is a child of a lower one

reached_front : (s r : List ℕ) (j : ℕ) → j < length s → Reached s j → Reached (s ++ r) j
reached_front s r j h x =
    let g : get_or (s ++ r) x.parent 0 ≡ get_or s x.parent 0 = get_d_front s r x.parent (omega (arith, x.lower)) in
    record { parent = x.parent; lower = x.lower; splits = rw g x.splits; is_child = rw g x.is_child }

reached_back : (s r : List ℕ) (i j : ℕ) → j ≡ length s + i → Reached r i → Reached (s ++ r) j
reached_back s r i j e x =
    let p : ℕ = length s + x.parent in
    let g : get_or (s ++ r) p 0 ≡ get_or r x.parent 0 = get_d_back s r p x.parent refl in
    record { parent = p; lower = omega (arith, x.lower); splits = rw g x.splits; is_child = rw g (shift x.is_child) }
  where
    shift : (i ≡ suc x.parent) ⊎ (i ≡ x.parent + 2 * half (get_or r x.parent 0)) → (j ≡ suc (length s + x.parent)) ⊎ (j ≡ length s + x.parent + 2 * half (get_or r x.parent 0))
    shift (inl q) = inl (omega arith)
    shift (inr q) = inr (omega arith)

reached_under : (d : ℕ) (s : List ℕ) (j : ℕ) → Reached s j → Reached (d ∷ s) (suc j)
reached_under d s j x = reached_back (d ∷ []) s j (suc j) (omega arith) x

sizes_length : (f d : ℕ) → 1 ≤ d → d ≤ f → length (sizes_of f d) + 1 ≡ 2 * d
sizes_length f d h i = omega (arith, (tree_sized f 0 d h i).same_length, tree_length f 0 d h i)

pub tree_reached : (f d : ℕ) → 1 ≤ d → d ≤ f → (j : ℕ) → 0 < j → j < length (sizes_of f d) → Reached (sizes_of f d) j
tree_reached f d one fuel = tree_induction (λ f c d. 1 ≤ d → d ≤ f → (j : ℕ) → 0 < j → j < length (sizes_of f d) → Reached (sizes_of f d) j)
    (λ f c d e i k j p h. absurd (omega (arith, ap length (sizes_one f d (omega arith)))))
    (λ f c d e left right i k j p h.
    rw (sizes_more f d e)
    (by f d e j (sizes_length f (half d) (omega arith) (omega arith)) p (rw (sizes_more f d e) at h) (left (omega arith) (omega arith)) (right (omega arith) (omega arith))))
    f 0 d one fuel one fuel
  where
    by : (f d : ℕ) → 1 < d → (j : ℕ) → length (sizes_of f (half d)) + 1 ≡ 2 * half d → 0 < j → j < length (d ∷ (sizes_of f (half d) ++ sizes_of f (d - half d)))
        → ((j : ℕ) → 0 < j → j < length (sizes_of f (half d)) → Reached (sizes_of f (half d)) j) → ((j : ℕ) → 0 < j → j < length (sizes_of f (d - half d)) → Reached (sizes_of f (d - half d)) j)
        → Reached (d ∷ (sizes_of f (half d) ++ sizes_of f (d - half d))) j
    by f d e zero n p h left right = absurd (omega arith)
    by f d e (suc j) n p h left right = go (dec_lt j (length s)) (dec_lt 0 j) (dec_lt (length s) j)
      where
        s : List ℕ
        s = sizes_of f (half d)

        r : List ℕ
        r = sizes_of f (d - half d)

        go : Dec (j < length s) → Dec (0 < j) → Dec (length s < j) → Reached (d ∷ (s ++ r)) (suc j)
        go (yes a) (yes b) v = reached_under d (s ++ r) j (reached_front s r j a (left j b a))
        go (yes a) (no b) v = record { parent = 0; lower = omega arith; splits = e; is_child = inl (omega (arith, b)) }
        go (no a) b (yes v) = reached_under d (s ++ r) j (reached_back s r (j - length s) j (omega arith) (right (j - length s) (omega arith) (omega (arith, length-append s r))))
        go (no a) b (no v) = record { parent = 0; lower = omega arith; splits = e; is_child = inr (omega (arith, a, v, n)) }

-- ---- along serial order

module _ (T : Table) (K : ℕ) (some : 1 ≤ K) where
  at_sized : (c a : ℕ) → Sized c (tree_at T K c a) (sizes_at T K a)
  at_sized c a = go (big T K a) refl
    where
      go : (q : Bool) → big T K a ≡ q → Sized c (tree_at T K c a) (sizes_at T K a)
      go true e = rw e (tree_sized (dummies T K a) c (dummies T K a) (omega (arith, dummies_two T K some a e)) (omega arith))
      go false e =
          rw e
          (record {
            same_length = refl;
            body = λ j h. absurd (omega arith);
            some = λ j h. absurd (omega arith);
            children = λ j h. absurd (omega arith);
          })

  at_length : (a : ℕ) → length (sizes_at T K a) ≡ new_threads T K a
  unfolding new_threads
  at_length a = go (big T K a) refl
    where
      go : (q : Bool) → big T K a ≡ q → length (sizes_at T K a) ≡ new_threads T K a
      go true e =
          let two : 2 ≤ dummies T K a = dummies_two T K some a e in
          rw e (omega (arith, sizes_length (dummies T K a) (dummies T K a) (omega (arith, two)) (omega arith), two))
      go false e = rw e

  -- the new threads' bodies, and their sizes from each other
  pub along_sized : (l : List ℕ) (c : ℕ) → Sized c (trees_along T K c l) (sizes_along T K l)
  unfolding trees_along sizes_along
  along_sized [] c =
      record {
        same_length = refl;
        body = λ j h. absurd (omega arith);
        some = λ j h. absurd (omega arith);
        children = λ j h. absurd (omega arith);
      }
  along_sized (a ∷ l) c =
      sized_append c (c + new_threads T K a) (tree_at T K c a) (trees_along T K (c + new_threads T K a) l) (sizes_at T K a) (sizes_along T K l)
      (omega (arith, at_length a, (at_sized c a).same_length)) (at_sized c a) (along_sized l (c + new_threads T K a))

  -- thread j is the root of a big alloc's tree
  pub record IsRoot (r : ℕ → ℕ) (c : ℕ) (l : List ℕ) (j : ℕ) : Type 0 where
    pub action : ℕ
    pub there : Memᴰ action l
    pub is_big : big T K action ≡ true
    pub at : r action ≡ c + j
    pub size : get_or (sizes_along T K l) j 0 ≡ dummies T K action

  -- so a loop that puts d at each root and, upward, the halves at each thread's children, has every size when it comes to it
  pub along_reached : (r : ℕ → ℕ) (l : List ℕ) (c j : ℕ) → Rooted (new_threads T K) r c l → j < length (sizes_along T K l) → IsRoot r c l j ⊎ Reached (sizes_along T K l) j
  unfolding sizes_along Rooted
  along_reached r [] c j p h = absurd (omega arith)
  along_reached r (a ∷ l) c j p h = go (dec_lt j (length s)) (big T K a) refl (λ i k. along_reached r l (c + new_threads T K a) i p.1 k)
    where
      s : List ℕ
      s = sizes_at T K a

      t : List ℕ
      t = sizes_along T K l

      later : IsRoot r (c + new_threads T K a) l (j - length s) ⊎ Reached t (j - length s) → (j < length s → ⊥) → IsRoot r c (a ∷ l) j ⊎ Reached (s ++ t) j
      later (inl x) q =
          inl
          (record {
            action = x.action;
            there = Memᴰ.tail x.there;
            is_big = x.is_big;
            at = x.at ∙ omega (arith, q, at_length a);
            size = get_d_back s t j (j - length s) (omega (arith, q)) ∙ x.size;
          })
      later (inr x) q = inr (reached_back s t (j - length s) j (omega (arith, q)) x)

      s_is : big T K a ≡ true → s ≡ sizes_of (dummies T K a) (dummies T K a)
      s_is e = rw e

      here : big T K a ≡ true → j < length s → Dec (0 < j) → IsRoot r c (a ∷ l) j ⊎ Reached (s ++ t) j
      here e q (yes d) = inr (reached_front s t j q (rw (s_is e) (tree_reached (dummies T K a) (dummies T K a) (omega (arith, dummies_two T K some a e)) (omega arith) j d (rw (s_is e) at q))))
      here e q (no d) =
          let z : j ≡ 0 = omega (arith, d) in
          let w : get_or s 0 0 ≡ dummies T K a = rw (s_is e) (sizes_root (dummies T K a) (dummies T K a) (omega (arith, dummies_two T K some a e)) (omega arith)) in
          inl
          (record {
            action = a;
            there = Memᴰ.head refl;
            is_big = e;
            at = omega (arith, p.0, z);
            size = get_d_front s t j q ∙ rw z w;
          })

      go : Dec (j < length s) → (q : Bool) → big T K a ≡ q
          → ((i : ℕ) → i < length t → IsRoot r (c + new_threads T K a) l i ⊎ Reached t i) → IsRoot r c (a ∷ l) j ⊎ Reached (s ++ t) j
      go (yes q) true e ih = here e q (dec_lt 0 j)
      go (yes q) false e ih = let z : length s ≡ 0 = rw e in absurd (omega (arith, q, z))
      go (no q) b e ih = later (ih (j - length s) (omega (arith, q, length-append s t))) q

  -- and at its root the tree of a big alloc has the alloc's dummies
  pub root_size : (r : ℕ → ℕ) (l : List ℕ) (c a : ℕ) → Rooted (new_threads T K) r c l → Memᴰ a l → big T K a ≡ true → get_or (sizes_along T K l) (r a - c) 0 ≡ dummies T K a
  unfolding sizes_along Rooted
  root_size r [] c a p m e = absurd (Memᴰ.not-nil m)
  root_size r (x ∷ l) c a p m e = go (Memᴰ.cases_cons m) (λ i. root_size r l (c + new_threads T K x) a p.1 i e)
    where
      go : (a ≡ x) ⊎ Memᴰ a l → (Memᴰ a l → get_or (sizes_along T K l) (r a - (c + new_threads T K x)) 0 ≡ dummies T K a)
          → get_or (sizes_at T K x ++ sizes_along T K l) (r a - c) 0 ≡ dummies T K a
      go (inl q) ih =
          let two : 2 ≤ dummies T K a = dummies_two T K some a e in
          let z : r a - c ≡ 0 = omega (arith, p.0, ap r q) in
          let w : sizes_at T K x ≡ sizes_of (dummies T K a) (dummies T K a) = rw (← q, e) in
          let n : 0 < length (sizes_of (dummies T K a) (dummies T K a)) = omega (arith, sizes_length (dummies T K a) (dummies T K a) (omega (arith, two)) (omega arith)) in
          rw (z, w, get_d_front (sizes_of (dummies T K a) (dummies T K a)) (sizes_along T K l) 0 n) (sizes_root (dummies T K a) (dummies T K a) (omega (arith, two)) (omega arith))
      go (inr i) ih =
          let (lo, hi) = rooted_bound (new_threads T K) r l (c + new_threads T K x) a p.1 i in
          get_d_back (sizes_at T K x) (sizes_along T K l) (r a - c) (r a - (c + new_threads T K x)) (omega (arith, at_length x, lo)) ∙ ih i
