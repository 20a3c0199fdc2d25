-- What a copy of a table inside another carries over: serial order, levels, open children, nested levels, amounts.
use Prim.Native.Nat.{ℕ, zero, suc, ◌+◌, ◌-◌, ◌<◌, max}
use native.Mathlib.Omega.{arith}
use mathlib.Core.Path.{◌≡◌, refl, sym, ap, ◌∙◌}
use mathlib.Core.List.{List, [], ◌∷◌, ◌++◌, map}
use mathlib.Core.Bool.{Bool, true, false}
use Rattle.table.specs.Format.{is, Table, kind}
use Rattle.table.specs.declared.kinds.Kind.TheVariants.{End as end, Fork as fork, Join as join}
use Rattle.table.specs.Checks.{owner, end_of}
use Rattle.table.specs.Rules.{ContentRules, BodyRules, NestRules, ForkRules}
use Rattle.table.specs.Serial.{serial}
use Rattle.table.specs.Level.{level}
use Rattle.table.proofs.Tests.{is_true, fork_no_end}
use Rattle.table.proofs.Bodies.{owner_at, owner_below_lem, owner_first, owner_end, owner_of_first, owner_of_end, body_within, after_end, count_pos, next_owner, next_within, fork_below_lem, join_below, end_within}
use Rattle.table.proofs.Serial.{serial_end, serial_fork, serial_step, serial_induction}
use Rattle.table.proofs.Rank.{rank, rank_child, rank_rises, rank_join}
use Rattle.table.proofs.Levels.{by_place, level_root, level_child, level_step, level_join}
use Rattle.parts.specs.Copies.{renamed, Copies, place_of}

map_append : (g : ℕ → ℕ) (l r : List ℕ) → map g (l ++ r) ≡ map g l ++ map g r
map_append g [] r = refl
map_append g (x ∷ l) r = ap (λ (q : List ℕ). g x ∷ q) (map_append g l r)

module _ (T U : Table) (f : ℕ → ℕ) (y : Copies T U f) (c : ContentRules T) (b : BodyRules T) (d : ContentRules U) (e : BodyRules U) where
  abbrev g : ℕ → ℕ
  g = place_of T U f

  abbrev offset : ℕ → ℕ
  offset a = a - T.first (owner T a)

  offset_below : (a : ℕ) → a < T.actions → offset a < T.count (owner T a)
  offset_below a h = omega (arith, owner_first T c a h, owner_end T c a h)

  offset_back : (a : ℕ) → a < T.actions → T.first (owner T a) + offset a ≡ a
  offset_back a h = omega (arith, owner_first T c a h)

  pub copy_within : (a : ℕ) → a < T.actions → g a < U.actions
  copy_within a h =
      let t = owner T a in
      let l : t < T.threads = owner_below_lem T c a h in
      omega (arith, offset_below a h, y.counts t l, body_within U d (f t) (y.within t l))

  pub copy_owner : (a : ℕ) → a < T.actions → owner U (g a) ≡ f (owner T a)
  copy_owner a h =
      let t = owner T a in
      let l : t < T.threads = owner_below_lem T c a h in
      owner_at U d (f t) (offset a) (y.within t l) (omega (arith, offset_below a h, y.counts t l))

  pub copy_code : (a : ℕ) → a < T.actions → U.code (g a) ≡ T.code a
  copy_code a h = y.codes (owner T a) (offset a) (owner_below_lem T c a h) (offset_below a h) ∙ ap T.code (offset_back a h)

  pub copy_kind : (a : ℕ) → a < T.actions → kind U (g a) ≡ kind T a
  copy_kind a h = rw (copy_code a h)

  pub copy_argument : (a : ℕ) → a < T.actions → U.argument (g a) ≡ renamed f (kind T a) (T.argument a)
  copy_argument a h = rw (offset_back a h) at (y.arguments (owner T a) (offset a) (owner_below_lem T c a h) (offset_below a h))

  pub copy_child : (a : ℕ) → a < T.actions → kind T a ≡ fork → U.argument (g a) ≡ f (T.argument a)
  copy_child a h k = rw k at (copy_argument a h)

  pub copy_joined : (a : ℕ) → a < T.actions → kind T a ≡ join → U.argument (g a) ≡ f (T.argument a)
  copy_joined a h k = rw k at (copy_argument a h)

  pub copy_first : (t : ℕ) → t < T.threads → g (T.first t) ≡ U.first (f t)
  copy_first t h = rw (owner_of_first T c t h) (omega arith)

  pub copy_end : (t : ℕ) → t < T.threads → g (end_of T t) ≡ end_of U (f t)
  copy_end t h =
      rw (owner_of_end T c t h) (omega (arith, after_end T c t h, after_end U d (f t) (y.within t h), y.counts t h, count_pos T c t h))

  pub copy_next : (a : ℕ) → a < T.actions → is end (kind T a) ≡ false → g (suc a) ≡ suc (g a)
  copy_next a h k = rw (next_owner T c b a h k) (omega (arith, owner_first T c a h))

  -- serial order
  pub copy_serial : (a : ℕ) → a < T.actions → serial U (g a) ≡ map g (serial T a)
  copy_serial = serial_induction T c b (λ a. serial U (g a) ≡ map g (serial T a))
      (λ a h k. rw (serial_end T c b a h k) (serial_end U d e (g a) (copy_within a h) (copy_kind a h ∙ k)))
      (λ a h k p q.
      rw (serial_fork T c b a h k, map_append g (serial T (T.first (T.argument a))) (serial T (suc a)))
      (serial_fork U d e (g a) (copy_within a h) (copy_kind a h ∙ k)
      ∙ rw (copy_child a h k, ← copy_first (T.argument a) (fork_below_lem T c b a h k), ← copy_next a h (fork_no_end k), p, q)))
      (λ a h k j p.
      rw (serial_step T c b a h k j)
      (serial_step U d e (g a) (copy_within a h) (rw (copy_kind a h) k) (rw (copy_kind a h) j) ∙ rw (← copy_next a h k, p)))

  -- levels: as many higher as the copy's first action is
  module _ (n : NestRules T) (o : ForkRules T) (n' : NestRules U) (o' : ForkRules U) (base : ℕ) (start : level U (g (T.first 0)) ≡ suc base) where
    abbrev Shifted : ℕ → Type 0
    Shifted a = level U (g a) ≡ base + level T a

    one_rank : (k : ℕ) → ((x : ℕ) → x < T.actions → rank T x < k → Shifted x) → (a : ℕ) → a < T.actions → rank T a < suc k → Shifted a
    one_rank k below a h r = by_place T c b n o (λ (x : ℕ). rank T x < suc k → Shifted x) root child next a h r
      where
        root : 0 < T.threads → rank T (T.first 0) < suc k → Shifted (T.first 0)
        root z q = omega (arith, start, level_root T c b n o z)

        child : (x : ℕ) → x < T.actions → kind T x ≡ fork → rank T (T.first (T.argument x)) < suc k → Shifted (T.first (T.argument x))
        child x i j q =
            let u : U.first (U.argument (g x)) ≡ g (T.first (T.argument x)) = rw (copy_child x i j) (sym (copy_first (T.argument x) (fork_below_lem T c b x i j))) in
            let v : level U (U.first (U.argument (g x))) ≡ suc (level U (g x)) = level_child U d e n' o' (g x) (copy_within x i) (copy_kind x i ∙ j) in
            let w : level U (g (T.first (T.argument x))) ≡ suc (level U (g x)) = rw u at v in
            omega (arith, level_child T c b n o x i j, below x i (omega (arith, rank_child T c b n o x i j)))

        next : (x : ℕ) → x < T.actions → is end (kind T x) ≡ false → rank T (suc x) < suc k → Shifted (suc x)
        next x i j q = go (is join (kind T (suc x))) refl
          where
            l : suc x < T.actions
            l = next_within T c b x i j

            earlier : Shifted x
            earlier = below x i (omega (arith, rank_rises T c b n o x (suc x) (omega arith) l (sym (next_owner T c b x i j))))

            no_end : is end (kind U (g x)) ≡ false
            no_end = rw (copy_kind x i) j

            go : (t : Bool) → is join (kind T (suc x)) ≡ t → Shifted (suc x)
            go true z =
                let m : kind T (suc x) ≡ join = is_true join (kind T (suc x)) z in
                let t : ℕ = T.argument (suc x) in
                let s : t < T.threads = join_below T c b (suc x) l m in
                let ends : Shifted (end_of T t) = below (end_of T t) (end_within T c t s) (omega (arith, rank_join T c b n o (suc x) l m)) in
                let m' : kind U (suc (g x)) ≡ join = rw (← copy_next x i j) (copy_kind (suc x) l ∙ m) in
                let p : U.argument (suc (g x)) ≡ f t = rw (← copy_next x i j) (copy_joined (suc x) l m) in
                let v : level U (suc (g x)) ≡ suc (max (level U (g x)) (level U (end_of U (U.argument (suc (g x)))))) = level_join U d e n' o' (g x) (copy_within x i) no_end m' in
                let w : level U (g (suc x)) ≡ suc (max (level U (g x)) (level U (g (end_of T t)))) = rw (copy_next x i j, copy_end t s, ← p) v in
                omega (arith, level_join T c b n o x i j m, earlier, ends)
            go false z =
                let z' : is join (kind U (suc (g x))) ≡ false = rw (← copy_next x i j, copy_kind (suc x) l) z in
                let v : level U (g (suc x)) ≡ suc (level U (g x)) = rw (copy_next x i j) (level_step U d e n' o' (g x) (copy_within x i) no_end z') in
                omega (arith, level_step T c b n o x i j z, earlier)

    at_rank : (k a : ℕ) → a < T.actions → rank T a < k → Shifted a
    at_rank zero a h r = absurd (omega arith)
    at_rank (suc k) a h r = one_rank k (at_rank k) a h r

    pub copy_level : (a : ℕ) → a < T.actions → level U (g a) ≡ base + level T a
    copy_level a h = at_rank (suc (rank T a)) a h (omega arith)
