-- Rows of threads cut into lines: what the walk along a row says of the lines, and back.
use mathlib.Core.Path.{◌≡◌, refl, ap, ◌∙◌}
use Prim.Native.Nat.{ℕ}
use mathlib.Core.List.Memᴰ
use mathlib.Core.List.{List, [], ◌∷◌, ◌++◌, map, flatten, Memᴰ}
use mathlib.Core.Bool.{Bool, true, false}
use mathlib.Core.Logic.Iff
use mathlib.Core.Logic.{◌⊎◌, inl, inr, ◌↔◌}
use lib.ListN.{get_or}
use borrow.Author.Tests.{eqb-true}
use Rattle.table.specs.Sum.{pick}
use Rattle.table.proofs.Tests.{no_way, and_both}
use Rattle.schedule.specs.Machine.{ready, held}
use Rattle.schedule.proofs.Linked.Once.{Once}
use Rattle.order.specs.Words.{member}
use Rattle.order.proofs.Words.{and_of, not_exactly, never_true, not_both, member_exactly}
use Rattle.deques.specs.Deques.{bottom}
use Rattle.deques.specs.DequeWalk.{is_ready, once_in, in_lines, bottoms_along}
use Rattle.deques.specs.Lines.{prepend, cut_after, is_held}
use Rattle.deques.proofs.Cut.{LastPasses}

pub once_in_exactly : (l : List ℕ) → (once_in l ≡ true) ↔ Once l
unfolding once_in Once
once_in_exactly [] = ((λ e. tt), (λ e. refl))
once_in_exactly (t ∷ l) = and_of (Iff.trans (not_exactly (member t l)) (there, back)) (once_in_exactly l)
  where
    there : member t l ≡ false → Memᴰ t l → ⊥
    there e m = not_both (member t l) ((member_exactly t l).1 m) e

    back : (Memᴰ t l → ⊥) → member t l ≡ false
    back n = never_true (member t l) (λ e. n ((member_exactly t l).0 e))

module _ (f : ℕ → Bool) (status : List ℕ) where
  abbrev pub Ready : ℕ → Type 0
  Ready t = get_or status t 0 ≡ ready

  unfoldable pub AllReady : List ℕ → Type 0
  AllReady [] = Unit {0}
  AllReady (t ∷ l) = Ready t × AllReady l

  -- a line: its first thread held or ready, the others ready, its last alone a bottom
  abbrev pub GoodLine : List ℕ → Type 0
  GoodLine [] = ⊥
  GoodLine (t ∷ l) = ((get_or status t 0 ≡ held) ⊎ Ready t) × (AllReady l × LastPasses f (t ∷ l))

  unfoldable pub Good : List (List ℕ) → Type 0
  Good [] = Unit {0}
  Good (k ∷ ks) = GoodLine k × Good ks

  -- ---- from the walk to the lines

  abbrev From : Bool → List (List ℕ) → Type 0
  From true ks = Good ks
  From false [] = ⊥
  From false (k ∷ ks) = AllReady k × (LastPasses f k × Good ks)

  -- the tests of a thread: held where a line begins, or ready
  at_thread : (t : ℕ) (b : Bool) → pick (is_held status t) b (is_ready status t) ≡ true → ((b ≡ true) × (get_or status t 0 ≡ held)) ⊎ Ready t
  at_thread t b e = go (is_held status t) refl e
    where
      go : (q : Bool) → is_held status t ≡ q → pick q b (is_ready status t) ≡ true → ((b ≡ true) × (get_or status t 0 ≡ held)) ⊎ Ready t
      go true i j = inl (j, eqb-true (get_or status t 0) held i)
      go false i j = inr (eqb-true (get_or status t 0) ready j)

  last_more : (t : ℕ) (k : List ℕ) → f t ≡ false → LastPasses f k → LastPasses f (t ∷ k)
  last_more t [] e p = absurd p
  last_more t (u ∷ k) e p = (e, p)

  -- the last of a line of one
  ends : (b : Bool) (t : ℕ) (ks : List (List ℕ)) → ((b ≡ true) × (get_or status t 0 ≡ held)) ⊎ Ready t → f t ≡ true → Good ks → From b ((t ∷ []) ∷ ks)
  unfolding Good AllReady
  ends true t ks (inl i) e g = ((inl i.1, (tt, e)), g)
  ends true t ks (inr i) e g = ((inr i, (tt, e)), g)
  ends false t ks (inl i) e g = no_way (cc i.0)
  ends false t ks (inr i) e g = ((i, tt), (e, g))

  -- a thread before the rest of its line
  joins : (b : Bool) (t : ℕ) (ks : List (List ℕ)) → ((b ≡ true) × (get_or status t 0 ≡ held)) ⊎ Ready t → f t ≡ false → From false ks → From b (prepend t ks)
  unfolding Good AllReady
  joins b t [] i e g = absurd g
  joins true t (k ∷ ks) (inl i) e g = ((inl i.1, (g.0, last_more t k e g.1.0)), g.1.1)
  joins true t (k ∷ ks) (inr i) e g = ((inr i, (g.0, last_more t k e g.1.0)), g.1.1)
  joins false t (k ∷ ks) (inl i) e g = no_way (cc i.0)
  joins false t (k ∷ ks) (inr i) e g = ((i, g.0), (last_more t k e g.1.0, g.1.1))

  walk_from : (b : Bool) (row : List ℕ) → in_lines f status b row ≡ true → From b (cut_after f row)
  unfolding in_lines cut_after Good
  walk_from true [] e = tt
  walk_from false [] e = no_way cc
  walk_from b (t ∷ l) e =
      let x = and_both (pick (is_held status t) b (is_ready status t)) (in_lines f status (f t) l) e in
      go (f t) refl (at_thread t b x.0) (walk_from (f t) l x.1)
    where
      go : (q : Bool) → f t ≡ q → ((b ≡ true) × (get_or status t 0 ≡ held)) ⊎ Ready t → From q (cut_after f l) → From b (pick q ((t ∷ []) ∷ cut_after f l) (prepend t (cut_after f l)))
      go true i j g = ends b t (cut_after f l) j i g
      go false i j g = joins b t (cut_after f l) j i g

  pub walk_good : (row : List ℕ) → in_lines f status true row ≡ true → Good (cut_after f row)
  walk_good row e = walk_from true row e

  -- ---- and back

  ready_walk : (b : Bool) (l r : List ℕ) → AllReady l → LastPasses f l → in_lines f status b (l ++ r) ≡ in_lines f status true r
  unfolding in_lines AllReady
  ready_walk b [] r g p = absurd p
  ready_walk b (t ∷ []) r g p = rw (g.0, p)
  ready_walk b (t ∷ u ∷ l) r g p = rw (g.0, p.0) (ready_walk false (u ∷ l) r g.1 p.1)

  line_walk : (k r : List ℕ) → GoodLine k → in_lines f status true (k ++ r) ≡ in_lines f status true r
  unfolding in_lines AllReady
  line_walk [] r g = absurd g
  line_walk (t ∷ l) r (inr i, (a, p)) = ready_walk true (t ∷ l) r (i, a) p
  line_walk (t ∷ []) r (inl i, (a, p)) = rw (i, p)
  line_walk (t ∷ u ∷ l) r (inl i, (a, p)) = rw (i, p.0) (ready_walk false (u ∷ l) r a p.1)

  pub good_walk : (ks : List (List ℕ)) → Good ks → in_lines f status true (flatten ks) ≡ true
  unfolding flatten Good in_lines
  good_walk [] g = refl
  good_walk (k ∷ ks) g = line_walk k (flatten ks) g.0 ∙ good_walk ks g.1

  -- ---- the bottoms

  line_bottoms : (k r : List ℕ) → LastPasses f k → bottoms_along f (k ++ r) ≡ bottom k ∷ bottoms_along f r
  unfolding bottoms_along bottom
  line_bottoms [] r p = absurd p
  line_bottoms (t ∷ []) r p = rw p
  line_bottoms (t ∷ u ∷ k) r p = rw p.0 (line_bottoms (u ∷ k) r p.1)

  good_last : (k : List ℕ) → GoodLine k → LastPasses f k
  good_last [] g = absurd g
  good_last (t ∷ l) g = g.1.1

  pub good_bottoms : (ks : List (List ℕ)) → Good ks → bottoms_along f (flatten ks) ≡ map bottom ks
  unfolding flatten Good bottoms_along
  good_bottoms [] g = refl
  good_bottoms (k ∷ ks) g = line_bottoms k (flatten ks) (good_last k g.0) ∙ ap (bottom k ∷◌) (good_bottoms ks g.1)

  -- ---- who stands in them

  pub ready_in : (l : List ℕ) → AllReady l → (t : ℕ) → Memᴰ t l → Ready t
  unfolding AllReady
  ready_in [] a t m = absurd (Memᴰ.not-nil m)
  ready_in (u ∷ l) a t m = go (Memᴰ.cases_cons m) (ready_in l a.1 t)
    where
      go : (t ≡ u) ⊎ Memᴰ t l → (Memᴰ t l → Ready t) → Ready t
      go (inl e) ih = rw e a.0
      go (inr n) ih = ih n

  in_line : (k : List ℕ) → GoodLine k → (t : ℕ) → Memᴰ t k → (get_or status t 0 ≡ held) ⊎ Ready t
  in_line [] g t m = absurd g
  in_line (u ∷ l) g t m = go (Memᴰ.cases_cons m)
    where
      go : (t ≡ u) ⊎ Memᴰ t l → (get_or status t 0 ≡ held) ⊎ Ready t
      go (inl e) = rw e g.0
      go (inr n) = inr (ready_in l g.1.0 t n)

  pub good_stands : (ks : List (List ℕ)) → Good ks → (t : ℕ) → Memᴰ t (flatten ks) → (get_or status t 0 ≡ held) ⊎ Ready t
  unfolding flatten Good AllReady
  good_stands [] g t m = absurd (Memᴰ.not-nil m)
  good_stands (k ∷ ks) g t m = go (Memᴰ.append_cases k m) (good_stands ks g.1 t)
    where
      go : Memᴰ t k ⊎ Memᴰ t (flatten ks) → (Memᴰ t (flatten ks) → (get_or status t 0 ≡ held) ⊎ Ready t) → (get_or status t 0 ≡ held) ⊎ Ready t
      go (inl n) ih = in_line k g.0 t n
      go (inr n) ih = ih n

-- a row is its lines laid end to end
pub cut_flatten : (f : ℕ → Bool) (row : List ℕ) → flatten (cut_after f row) ≡ row
unfolding cut_after flatten
cut_flatten f [] = refl
cut_flatten f (t ∷ l) = go (f t) (cut_flatten f l)
  where
    joined : (ks : List (List ℕ)) → flatten (prepend t ks) ≡ t ∷ flatten ks
    joined [] = refl
    joined (k ∷ ks) = refl

    go : (q : Bool) → flatten (cut_after f l) ≡ l → flatten (pick q ((t ∷ []) ∷ cut_after f l) (prepend t (cut_after f l))) ≡ t ∷ l
    go true e = ap (t ∷◌) e
    go false e = joined (cut_after f l) ∙ ap (t ∷◌) e
