-- Tables that a renaming makes of each other have the same canonical form.
use Prim.Native.Nat.{ℕ, zero, suc, ◌+◌, ◌<◌}
use native.Mathlib.Omega.{arith}
use mathlib.Core.Path.{◌≡◌, refl, ap, ◌∙◌}
use mathlib.Core.List.Memᴰ
use mathlib.Core.List.{List, [], ◌∷◌, map, Memᴰ}
use mathlib.Core.Bool.{Bool, true, false}
use mathlib.Core.Logic.{⊎_elim}
use lib.Dec.{eqb}
use borrow.Author.Tests.{eqb-true, eqb-false, eq-eqb, ne_eqb}
use Rattle.table.specs.Sum.{pick}
use Rattle.table.specs.Format.{is, Table, kind}
use Rattle.table.specs.declared.kinds.Kind.{Kind}
use Rattle.table.specs.declared.kinds.Kind.TheVariants.{End as end, Work as work, Alloc as alloc, Free as free, Fork as fork, Join as join, Unknown as unknown}
use Rattle.table.specs.Rules.{ContentRules, BodyRules}
use Rattle.table.specs.Serial.{serial_order}
use Rattle.table.proofs.Tests.{is_true}
use Rattle.table.proofs.Bodies.{first_within, fork_below_lem, join_below}
use Rattle.table.proofs.Amounts.{action_within}
use Rattle.table.proofs.Serial.{serial_below}
use Rattle.table.specs.Written.{action_at, actions_from, body_in}
use Rattle.parts.specs.Copies.{renamed, renamed_action, place_of}
use Rattle.canonical.specs.Renames.{Renames}
use Rattle.canonical.specs.Canonical.{forks_in, thread_order, new_number, canonical_bodies}
use Rattle.order.specs.Words.{place_in}
use Rattle.parts.proofs.CopyLaws.{copy_serial, copy_kind, copy_child, copy_first}

Each : (ℕ → Type 0) → List ℕ → Type 0
Each P l = (x : ℕ) → Memᴰ x l → P x

map_same {ℓ} : {A : Type ℓ} (f g : ℕ → A) (l : List ℕ) → ((x : ℕ) → Memᴰ x l → f x ≡ g x) → map f l ≡ map g l
map_same f g [] h = refl
map_same f g (x ∷ l) h = rw (h x (Memᴰ.head refl), map_same f g l (λ y m. h y (Memᴰ.tail m)))

map-map {ℓ} : {A : Type ℓ} (f : ℕ → A) (g : ℕ → ℕ) (l : List ℕ) → map f (map g l) ≡ map (λ (x : ℕ). f (g x)) l
map-map f g [] = refl
map-map f g (x ∷ l) = rw (map-map f g l)

-- a place in a list whose elements are renamed one to one
place_map : (f : ℕ → ℕ) (n x : ℕ) (l : List ℕ) → ((t u : ℕ) → t < n → u < n → f t ≡ f u → t ≡ u) → x < n → ((y : ℕ) → Memᴰ y l → y < n)
    → place_in (f x) (map f l) ≡ place_in x l
unfolding place_in
place_map f n x [] apart h below = refl
place_map f n x (y ∷ l) apart h below = go (eqb x y) refl (place_map f n x l apart h (λ z m. below z (Memᴰ.tail m)))
  where
    go : (t : Bool) → eqb x y ≡ t → place_in (f x) (map f l) ≡ place_in x l → pick (eqb (f x) (f y)) 0 (suc (place_in (f x) (map f l))) ≡ pick t 0 (suc (place_in x l))
    go true e ih = rw (eq-eqb (f x) (f y) (ap f (eqb-true x y e)))
    go false e ih = rw (ne_eqb (f x) (f y) (λ q. eqb-false x y e (apart x y h (below y (Memᴰ.head refl)) q)), ih)

module _ (T : Table) (c : ContentRules T) (b : BodyRules T) where
  forks_below : (l : List ℕ) → ((a : ℕ) → Memᴰ a l → a < T.actions) → (t : ℕ) → Memᴰ t (forks_in T l) → t < T.threads
  unfolding forks_in
  forks_below [] h t m = absurd (Memᴰ.not-nil m)
  forks_below (a ∷ l) h t m = go (is fork (kind T a)) refl m (forks_below l (λ x i. h x (Memᴰ.tail i)) t)
    where
      go : (q : Bool) → is fork (kind T a) ≡ q → Memᴰ t (pick q (T.argument a ∷ forks_in T l) (forks_in T l)) → (Memᴰ t (forks_in T l) → t < T.threads) → t < T.threads
      go true e m ih = ⊎_elim (λ (p : t ≡ T.argument a). rw p (fork_below_lem T c b a (h a (Memᴰ.head refl)) (is_true fork (kind T a) e))) ih (Memᴰ.cases_cons m)
      go false e m ih = ih m

  pub order_below : 0 < T.threads → (t : ℕ) → Memᴰ t (thread_order T) → t < T.threads
  unfolding thread_order
  order_below h t m =
      ⊎_elim (λ (p : t ≡ 0). rw p h)
      (forks_below (serial_order T) (serial_below T c b (T.first 0) (first_within T c 0 h)) t)
      (Memᴰ.cases_cons m)

module _ (T U : Table) (r : Renames T U) (some : 0 < T.threads) (c : ContentRules T) (b : BodyRules T) (d : ContentRules U) (e : BodyRules U) where
  abbrev f : ℕ → ℕ
  f = r.to

  forks_map : (l : List ℕ) → ((a : ℕ) → Memᴰ a l → a < T.actions) → forks_in U (map (place_of T U f) l) ≡ map f (forks_in T l)
  unfolding forks_in
  forks_map [] h = refl
  forks_map (a ∷ l) h = go (is fork (kind T a)) refl (forks_map l (λ x i. h x (Memᴰ.tail i)))
    where
      w : a < T.actions
      w = h a (Memᴰ.head refl)

      go : (q : Bool) → is fork (kind T a) ≡ q → forks_in U (map (place_of T U f) l) ≡ map f (forks_in T l) → forks_in U (map (place_of T U f) (a ∷ l)) ≡ map f (forks_in T (a ∷ l))
      go true q ih = rw (copy_kind T U f r.copies c b d e a w, q, copy_child T U f r.copies c b d e a w (is_true fork (kind T a) q), ih)
      go false q ih = rw (copy_kind T U f r.copies c b d e a w, q) ih

  pub order_renamed : thread_order U ≡ map f (thread_order T)
  unfolding thread_order
  order_renamed =
      let z : T.first 0 < T.actions = first_within T c 0 some in
      let s : serial_order U ≡ map (place_of T U f) (serial_order T) = rw (copy_first T U f r.copies c b d e 0 some, r.root) at (copy_serial T U f r.copies c b d e (T.first 0) z) in
      rw (s, forks_map (serial_order T) (serial_below T c b (T.first 0) z), r.root)

  new_same : (t : ℕ) → t < T.threads → new_number U (f t) ≡ new_number T t
  new_same t h = rw order_renamed (place_map f T.threads t (thread_order T) r.copies.apart h (order_below T c b some))

  -- an action of the copy, renamed, is the action renamed
  argument_same : (t i : ℕ) → t < T.threads → i < T.count t → (j : Kind) → kind T (T.first t + i) ≡ j
      → renamed (new_number U) j (renamed f j (T.argument (T.first t + i))) ≡ renamed (new_number T) j (T.argument (T.first t + i))
  argument_same t i h k end q = refl
  argument_same t i h k work q = refl
  argument_same t i h k alloc q = refl
  argument_same t i h k free q = refl
  argument_same t i h k fork q = new_same (T.argument (T.first t + i)) (fork_below_lem T c b (T.first t + i) (action_within T c b t i h k) q)
  argument_same t i h k join q = new_same (T.argument (T.first t + i)) (join_below T c b (T.first t + i) (action_within T c b t i h k) q)
  argument_same t i h k unknown q = refl

  action_same : (t i : ℕ) → t < T.threads → i < T.count t
      → renamed_action (new_number U) (action_at U (U.first (f t) + i)) ≡ renamed_action (new_number T) (action_at T (T.first t + i))
  action_same t i h k =
      let p : U.argument (U.first (f t) + i) ≡ renamed f (kind T (T.first t + i)) (T.argument (T.first t + i)) = r.copies.arguments t i h k in
      rw (r.copies.codes t i h k, p, argument_same t i h k (kind T (T.first t + i)) refl)

  rest_same : (k t i : ℕ) → t < T.threads → i + k ≡ T.count t
      → map (renamed_action (new_number U)) (actions_from U (U.first (f t) + i) k) ≡ map (renamed_action (new_number T)) (actions_from T (T.first t + i) k)
  unfolding actions_from
  rest_same zero t i h q = refl
  rest_same (suc k) t i h q =
      let x : suc (U.first (f t) + i) ≡ U.first (f t) + suc i = omega arith in
      let y : suc (T.first t + i) ≡ T.first t + suc i = omega arith in
      rw (action_same t i h (omega arith), x, y, rest_same k t (suc i) h (omega arith))

  body_same : (t : ℕ) → t < T.threads → map (renamed_action (new_number U)) (body_in U (f t)) ≡ map (renamed_action (new_number T)) (body_in T t)
  body_same t h =
      let x : U.first (f t) + 0 ≡ U.first (f t) = omega arith in
      let y : T.first t + 0 ≡ T.first t = omega arith in
      rw (r.copies.counts t h) (rw (x, y) at (rest_same (T.count t) t 0 h (omega arith)))

  pub bodies_same : canonical_bodies U ≡ canonical_bodies T
  unfolding canonical_bodies
  bodies_same =
      ap (map (λ (u : ℕ). map (renamed_action (new_number U)) (body_in U u))) order_renamed
      ∙ map-map (λ (u : ℕ). map (renamed_action (new_number U)) (body_in U u)) f (thread_order T)
      ∙ map_same (λ (t : ℕ). map (renamed_action (new_number U)) (body_in U (f t))) (λ (t : ℕ). map (renamed_action (new_number T)) (body_in T t)) (thread_order T)
      (λ t m. body_same t (order_below T c b some t m))
