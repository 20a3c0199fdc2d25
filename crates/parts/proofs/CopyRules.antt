-- Open children, amounts and nested levels of a copy, and the rules of its actions.
use Prim.Native.Nat.{ℕ, zero, suc, ◌+◌, ◌≤◌, ◌<◌}
use native.Mathlib.Omega.{arith}
use mathlib.Core.Path.{◌≡◌, refl, ◌∙◌}
use mathlib.Core.List.{List, [], ◌∷◌, map}
use mathlib.Core.Bool.{Bool, true, false}
use Rattle.table.specs.Sum.{sum_to}
use Rattle.table.specs.Format.{is, Table, kind}
use Rattle.table.specs.declared.kinds.Kind.{Kind}
use Rattle.table.specs.declared.kinds.Kind.TheVariants.{End as end, Work as work, Alloc as alloc, Free as free, Fork as fork, Join as join, Unknown as unknown}
use Rattle.table.specs.Checks.{owner, tail, opened, open_before, with_child, whole, part_of}
use Rattle.table.specs.Rules.{ContentRules, BodyRules, NestRules, ForkRules}
use Rattle.table.specs.Nested.{nest}
use Rattle.table.proofs.Sums.{sum_to_cong}
use Rattle.table.proofs.Tests.{is_true}
use Rattle.table.proofs.Serial.{downward}
use Rattle.table.proofs.Bodies.{first_is, first_next, after_end, end_kind, owner_at, join_above, join_below, fork_above, owner_below_lem}
use Rattle.table.proofs.Amounts.{whole_is, action_within}
use Rattle.table.proofs.Nesting.{fork_exists}
use Rattle.table.proofs.NestedThreads.{nest_root, nest_child}
use Rattle.parts.specs.Copies.{renamed, Copies, place_of}
use Rattle.parts.proofs.CopyLaws.{copy_child, copy_within, copy_kind, copy_owner}

pub opens_first : (T : Table) → ContentRules T → BodyRules T → (t : ℕ) → t < T.threads → open_before T (T.first t) ≡ []
unfolding open_before sum_to
opens_first T c b zero h = rw (first_is T c zero h)
opens_first T c b (suc t) h =
    let l : t < T.threads = omega arith in
    rw (first_next T c t h, ← after_end T c t l, open_before, end_kind T c b t l)

map_tail : (f : ℕ → ℕ) (l : List ℕ) → tail (map f l) ≡ map f (tail l)
map_tail f [] = refl
map_tail f (x ∷ l) = refl

opened_map : (f : ℕ → ℕ) (k : Kind) (x : ℕ) (l : List ℕ) → opened k (renamed f k x) (map f l) ≡ map f (opened k x l)
opened_map f end x l = refl
opened_map f work x l = refl
opened_map f alloc x l = refl
opened_map f free x l = refl
opened_map f fork x l = refl
opened_map f join x l = map_tail f l
opened_map f unknown x l = refl

module _ (T U : Table) (f : ℕ → ℕ) (y : Copies T U f) (c : ContentRules T) (b : BodyRules T) (d : ContentRules U) (e : BodyRules U) where
  pub same_kind : (t i : ℕ) → t < T.threads → i < T.count t → kind U (U.first (f t) + i) ≡ kind T (T.first t + i)
  same_kind t i h k = rw (y.codes t i h k)

  pub copy_open : (t k : ℕ) → t < T.threads → k < T.count t → open_before U (U.first (f t) + k) ≡ map f (open_before T (T.first t + k))
  unfolding open_before
  copy_open t zero h k =
      let p : U.first (f t) + 0 ≡ U.first (f t) = omega arith in
      let q : T.first t + 0 ≡ T.first t = omega arith in
      rw (p, q, opens_first T c b t h, opens_first U d e (f t) (y.within t h))
  copy_open t (suc i) h k =
      let l : i < T.count t = omega arith in
      let p : U.first (f t) + suc i ≡ suc (U.first (f t) + i) = omega arith in
      let q : T.first t + suc i ≡ suc (T.first t + i) = omega arith in
      rw (p, q, same_kind t i h l, y.arguments t i h l, copy_open t i h l)
      (opened_map f (kind T (T.first t + i)) (T.argument (T.first t + i)) (open_before T (T.first t + i)))

  -- amounts that agree action by action agree of threads
  module _ (own own' : ℕ → ℕ) (same : (t i : ℕ) → t < T.threads → i < T.count t → own' (U.first (f t) + i) ≡ own (T.first t + i)) where
    Alike : ℕ → Type 0
    Alike t = whole U own' (f t) ≡ whole T own t

    part_alike : (t k : ℕ) → t < T.threads → k ≤ T.count t → ((x : ℕ) → t < x → x < T.threads → Alike x) → part_of U own' (f t) k ≡ part_of T own t k
    unfolding Alike
    part_alike t k h l below = sum_to_cong _ _ k (λ i j. go i (omega arith) (is join (kind T (T.first t + i))) refl)
      where
        go : (i : ℕ) → i < T.count t → (q : Bool) → is join (kind T (T.first t + i)) ≡ q
            → with_child U join own' (whole U own') (U.first (f t) + i) ≡ with_child T join own (whole T own) (T.first t + i)
        go i j true q =
            let a : ℕ = T.first t + i in
            let w : a < T.actions = action_within T c b t i h j in
            let z : kind T a ≡ join = is_true join (kind T a) q in
            let p : U.argument (U.first (f t) + i) ≡ f (T.argument a) = rw z at (y.arguments t i h j) in
            let o : t < T.argument a = rw (owner_at T c t i h j) at (join_above T c b a w z) in
            rw (same_kind t i h j, q, p, same t i h j, below (T.argument a) o (join_below T c b a w z))
        go i j false q = rw (same_kind t i h j, q, same t i h j)

    pub copy_whole : (t : ℕ) → t < T.threads → whole U own' (f t) ≡ whole T own t
    unfolding Alike
    copy_whole = downward Alike T.threads (λ t h below.
        rw (whole_is T c b own t h, whole_is U d e own' (f t) (y.within t h), y.counts t h) (part_alike t (T.count t) h (omega arith) below))

    pub copy_part : (t k : ℕ) → t < T.threads → k ≤ T.count t → part_of U own' (f t) k ≡ part_of T own t k
    unfolding Alike
    copy_part t k h l = part_alike t k h l (λ x i j. copy_whole x j)

  -- nested levels
  module _ (n : NestRules T) (o : ForkRules T) (n' : NestRules U) (o' : ForkRules U) (base : ℕ) (start : nest U (f 0) ≡ suc base) where
    nest_below : (k t : ℕ) → t < k → t < T.threads → nest U (f t) ≡ base + nest T t
    nest_below zero t i h = absurd (omega arith)
    nest_below (suc k) zero i h = omega (arith, start, nest_root T c b n o h)
    nest_below (suc k) (suc t) i h = go (fork_exists T c b n o (suc t) (omega arith) h) (nest_below k)
      where
        go : (x : ℕ) × (x < T.actions) × (kind T x ≡ fork) × (T.argument x ≡ suc t) → ((u : ℕ) → u < k → u < T.threads → nest U (f u) ≡ base + nest T u) → nest U (f (suc t)) ≡ base + nest T (suc t)
        go (x, w, z, p) ih =
            let g : ℕ = place_of T U f x in
            let u : ℕ = owner T x in
            let q = fork_above T c b x w z in
            let v : nest U (U.argument g) ≡ suc (nest U (owner U g)) = nest_child U d e n' o' g (copy_within T U f y c b d e x w) (copy_kind T U f y c b d e x w ∙ z) in
            let v' : nest U (f (suc t)) ≡ suc (nest U (owner U g)) = rw (copy_child T U f y c b d e x w z, p) at v in
            let ow : owner U g ≡ f u = copy_owner T U f y c b d e x w in
            omega (arith, rw ow at v', rw p at (nest_child T c b n o x w z), ih u (omega arith) (owner_below_lem T c x w))

    pub copy_nest : (t : ℕ) → t < T.threads → nest U (f t) ≡ base + nest T t
    copy_nest t h = nest_below (suc t) t (omega arith) h
