-- The serial order of the filled-out table: that of the table as given, each big alloc with its fork, its tree and its join in front.
use Prim.Native.Nat.{ℕ, suc, ◌+◌, ◌-◌, ◌<◌}
use native.Mathlib.Nat.{add-zero}
use native.Mathlib.Omega.{arith}
use mathlib.Core.Path.{◌≡◌, refl, sym, ap, ◌∙◌}
use mathlib.Core.List.{List, [], ◌∷◌, ◌++◌, append_assoc}
use mathlib.Core.Bool.{Bool, true, false}
use lib.ListN.{length}
use Rattle.table.specs.Sum.{pick}
use Rattle.table.specs.Format.{is, code_of, Table, kind}
use Rattle.table.specs.declared.kinds.Kind.TheVariants.{Join as join}
use Rattle.table.specs.Checks.{owner}
use Rattle.table.specs.Rules.{ContentRules, BodyRules}
use Rattle.table.specs.Serial.{serial, serial_order}
use Rattle.table.proofs.Bodies.{owner_at, body_within, count_pos}
use Rattle.table.proofs.Serial.{serial_end, serial_fork, serial_step}
use Rattle.table.proofs.Amounts.{action_within, along_serial}
use Rattle.filling.specs.Filled.{big, root_of, in_front, filled_from}
use Rattle.filling.proofs.Fills.{Fills, c, b, old_below, start, placed, placed_kind, placed_argument, placed_within, placed_next_lem, front_fork, front_root, front_join, front_two}

module _ (T : Table) (K : ℕ) (U : Table) (x : Fills T K U) where
  -- where the group of action a begins
  abbrev pub start_of : ℕ → ℕ
  start_of a = start T K U x (owner T a) (a - T.first (owner T a))

  -- where it stands itself
  abbrev pub place_of : ℕ → ℕ
  place_of a = start_of a + length (in_front T K a)

  -- what runs before it
  abbrev pub runs : ℕ → List ℕ
  runs a = pick (big T K a) (start_of a ∷ (serial U (U.first (root_of T K a)) ++ (suc (start_of a) ∷ []))) []

  unfoldable pub expand : List ℕ → List ℕ
  expand [] = []
  expand (a ∷ l) = runs a ++ (place_of a ∷ expand l)

  expand_append : (l r : List ℕ) → expand (l ++ r) ≡ expand l ++ expand r
  unfolding expand
  expand_append [] r = refl
  expand_append (a ∷ l) r = rw (expand_append l r) (sym (append_assoc (runs a) (place_of a ∷ expand l) (expand r)))

  abbrev c_t : ContentRules T
  c_t = x.lawful.contents

  abbrev b_t : BodyRules T
  b_t = x.lawful.bodies

  pub start_is : (t i : ℕ) → t < T.threads → i < T.count t → start_of (T.first t + i) ≡ start T K U x t i
  start_is t i h k =
      let z : T.first t + i - T.first t ≡ i = omega arith in
      rw (owner_at T c_t t i h k, z)

  pub place_is : (t i : ℕ) → (h : t < T.threads) → (k : i < T.count t) → place_of (T.first t + i) ≡ placed T K U x t i h k
  place_is t i h k = rw (start_is t i h k)

  pub place_in : (t i : ℕ) → (h : t < T.threads) → (k : i < T.count t) → placed T K U x t i h k < U.actions
  place_in t i h k = omega (arith, placed_within T K U x t i h k, body_within U (c T K U x) t (omega (arith, x.reads.threads, old_below T K U x t h)))

  group_serial : (t i : ℕ) → (h : t < T.threads) → (k : i < T.count t) → serial U (start T K U x t i) ≡ runs (T.first t + i) ++ serial U (placed T K U x t i h k)
  unfolding is code_of
  group_serial t i h k = go (big T K a) refl
    where
      a : ℕ
      a = T.first t + i

      y : ℕ
      y = start T K U x t i

      go : (q : Bool) → big T K a ≡ q → serial U y ≡ runs a ++ serial U (placed T K U x t i h k)
      go true e =
          let two : placed T K U x t i h k ≡ suc (suc y) = front_two T K U x t i h k e in
          let w : suc (suc y) < U.actions = omega (arith, two, place_in t i h k) in
          let j : kind U (suc y) ≡ join = front_join T K U x t i h k e in
          let p : serial U y ≡ y ∷ (serial U (U.first (root_of T K a)) ++ serial U (suc y)) =
          rw (front_root T K U x t i h k e) at (serial_fork U (c T K U x) (b T K U x) y (omega arith) (front_fork T K U x t i h k e)) in
          let q : serial U (suc y) ≡ suc y ∷ serial U (suc (suc y)) = serial_step U (c T K U x) (b T K U x) (suc y) (omega arith) (rw j) (rw j) in
          rw (two, p, q, e, start_is t i h k) (ap (λ (l : List ℕ). y ∷ l) (sym (append_assoc (serial U (U.first (root_of T K a))) (suc y ∷ []) (serial U (suc (suc y))))))
      go false e = let z : placed T K U x t i h k ≡ y = rw e (omega arith) in rw (z, e)

  -- the serial order from an action of T on
  pub filled_serial : (t i : ℕ) → t < T.threads → i < T.count t → serial U (start T K U x t i) ≡ expand (serial T (T.first t + i))
  unfolding expand filled_from is code_of
  filled_serial =
      along_serial T c_t b_t (λ t i. serial U (start T K U x t i) ≡ expand (serial T (T.first t + i)))
      (λ t i h e k.
      let w : i < T.count t = omega arith in
      let p : ℕ = placed T K U x t i h w in
      let s : serial U p ≡ p ∷ [] = serial_end U (c T K U x) (b T K U x) p (place_in t i h w) (placed_kind T K U x t i h w ∙ k) in
      rw (group_serial t i h w, s, serial_end T c_t b_t (T.first t + i) (action_within T c_t b_t t i h w) k, place_is t i h w))
      (λ t i h e k child next.
      let w : i < T.count t = omega arith in
      let a : ℕ = T.first t + i in
      let d : ℕ = T.argument a in
      let p : ℕ = placed T K U x t i h w in
      let z : U.first d + 0 ≡ U.first d = omega arith in
      let s : serial U p ≡ p ∷ (serial U (U.first d) ++ serial U (suc p)) =
      rw (placed_argument T K U x t i h w) at (serial_fork U (c T K U x) (b T K U x) p (place_in t i h w) (placed_kind T K U x t i h w ∙ k)) in
      let q : serial U (U.first d) ≡ expand (serial T (T.first d)) = rw (z, add-zero) at child in
      let r : serial U (suc p) ≡ expand (serial T (suc a)) = let y : T.first t + suc i ≡ suc a = omega arith in rw (placed_next_lem T K U x t i h w, y) at next in
      rw (group_serial t i h w, s, q, r, serial_fork T c_t b_t a (action_within T c_t b_t t i h w) k, place_is t i h w, expand_append (serial T (T.first d)) (serial T (suc a))))
      (λ t i h e k j next.
      let w : i < T.count t = omega arith in
      let a : ℕ = T.first t + i in
      let p : ℕ = placed T K U x t i h w in
      let pk : kind U p ≡ kind T a = placed_kind T K U x t i h w in
      let s : serial U p ≡ p ∷ serial U (suc p) = serial_step U (c T K U x) (b T K U x) p (place_in t i h w) (rw pk k) (rw pk j) in
      let r : serial U (suc p) ≡ expand (serial T (suc a)) = let y : T.first t + suc i ≡ suc a = omega arith in rw (placed_next_lem T K U x t i h w, y) at next in
      rw (group_serial t i h w, s, r, serial_step T c_t b_t a (action_within T c_t b_t t i h w) k j, place_is t i h w))

  -- of the whole table
  pub filled_order : serial_order U ≡ expand (serial_order T)
  unfolding filled_from
  filled_order =
      let h : 0 < T.threads = x.lawful.some_thread in
      let z : U.first 0 + 0 ≡ U.first 0 = omega arith in
      rw (z, add-zero) at (filled_serial 0 0 h (count_pos T c_t 0 h))
