-- The second pass over plain lists: from action to action, the children that stand open and the marks of the threads forked are those of the rules.
use Rattle.std.specs.Prelude.{Err, Ok, Result, None, Some, Option, ⊤}
use Rattle.table.specs.declared.Refusal.{Refusal}
use mathlib.Core.Path.{◌≡◌, refl, sym, ap, ◌∙◌}
use Prim.Native.Nat.{ℕ, zero, suc, ◌+◌, ◌≤◌, ◌<◌}
use mathlib.Core.List.{List, [], ◌∷◌}
use mathlib.Core.Bool.{Bool, true, false, not, ◌&&◌}
use native.Mathlib.Numerals.{add-one}
use native.Mathlib.Decide.{ℕ_discrete}
use native.Mathlib.Omega.{arith}
use borrow.Author.Tests.{eq-eqb, ne_eqb}
use lib.ListN.{length, get_or, set, replicate, length-set, length-replicate}
use lib.Seq.{get_or-set_same, get_or-set_other}
use lib.Dec.{eqb}
use Rattle.table.specs.Sum.{pick, any_below}
use Rattle.table.specs.Format.{code_of, is, Table, kind}
use Rattle.table.specs.declared.kinds.Kind.{Kind}
use Rattle.table.specs.declared.kinds.Kind.TheVariants.{End as end, Work as work, Alloc as alloc, Free as free, Fork as fork, Join as join, Unknown as unknown}
use Rattle.table.specs.Pass.{try_at, refusal}
use Rattle.table.specs.Checks.{forks, forked_below, forked_before, opened, open_before, is_latest, is_empty, join_not_latest, end_with_open, second_pass}
use Rattle.checks.specs.Code.Steps.{Nesting, nest, nest_at}
use Rattle.table.proofs.Tests.{no_way, same_is}

-- ---- how many threads are marked

unfoldable pub count : List Bool → ℕ
count [] = 0
count (b ∷ l) = pick b 1 0 + count l

count_length : (l : List Bool) → count l ≤ length l
unfolding count
count_length [] = omega arith
count_length (true ∷ l) = omega (arith, count_length l)
count_length (false ∷ l) = omega (arith, count_length l)

-- a mark more
count_set : (l : List Bool) (x : ℕ) → x < length l → get_or l x false ≡ false → count (set l x true) ≡ suc (count l)
unfolding count
count_set [] x h e = absurd (omega arith)
count_set (b ∷ l) zero h e = rw e (omega arith)
count_set (b ∷ l) (suc x) h e = omega (arith, count_set l x (omega arith) e)

-- ---- one action

-- what the pass's checks say at an action of kind k with argument x, where the children l stand open and b says whether x was forked
abbrev verdict : Kind → ℕ → List ℕ → Bool → ℕ → Result ⊤ Refusal
verdict k x l b a =
    pick (is fork k && b) (Err (refusal 8 a))
    (pick (is join k && not (is_latest x l)) (Err (refusal 9 a))
    (pick (is end k && not (is_empty l)) (Err (refusal 9 a)) (Ok tt)))

-- an action opens a child, or it opens none, or a check applies
data Step (k : Kind) (x : ℕ) (l : List ℕ) (forked : List Bool) (a : ℕ) : Type 0 where
  opens : k ≡ fork → get_or forked x false ≡ false → nest_at k x l forked ≡ nest None (x ∷ l) (set forked x true)
      → verdict k x l (get_or forked x false) a ≡ Ok tt → Step k x l forked a
  keeps : is fork k ≡ false → length (opened k x l) ≤ length l → nest_at k x l forked ≡ nest None (opened k x l) forked
      → verdict k x l (get_or forked x false) a ≡ Ok tt → Step k x l forked a
  stops : (number : ℕ) → nest_at k x l forked ≡ nest (Some number) l forked
      → verdict k x l (get_or forked x false) a ≡ Err (refusal number a) → Step k x l forked a

step : (k : Kind) (x : ℕ) (l : List ℕ) (forked : List Bool) (a : ℕ) → Step k x l forked a
unfolding is code_of nest_at
step end x [] forked a = keeps refl (omega arith) refl refl
step end x (d ∷ l) forked a = stops 9 refl refl
step work x l forked a = keeps refl (omega arith) refl refl
step alloc x l forked a = keeps refl (omega arith) refl refl
step free x l forked a = keeps refl (omega arith) refl refl
step fork x l forked a = go (get_or forked x false) refl
  where
    go : (b : Bool) → get_or forked x false ≡ b → Step fork x l forked a
    go true e = stops 8 (rw e) (rw e)
    go false e = opens refl e (rw e) (rw e)
step join x [] forked a = stops 9 refl refl
step join x (d ∷ l) forked a = go (eqb x d) refl
  where
    go : (b : Bool) → eqb x d ≡ b → Step join x (d ∷ l) forked a
    go true e = keeps refl (omega arith) (rw e) (rw e)
    go false e = stops 9 (rw e) (rw e)
step unknown x l forked a = keeps refl (omega arith) refl refl

-- ---- from action to action

-- before action a, the list l has the open children, and the marks tell the threads forked; every open child is marked, which is why there is room
pub record Stacked (T : Table) (a : ℕ) (l : List ℕ) (forked : List Bool) : Type 0 where
  pub size : length forked ≡ 1024
  pub children : l ≡ open_before T a
  pub marks : (t : ℕ) → get_or forked t false ≡ forked_below T a t
  pub room : length l ≤ count forked

unmarked_all : (n t : ℕ) → get_or (replicate n false) t false ≡ false
unmarked_all zero t = refl
unmarked_all (suc n) zero = refl
unmarked_all (suc n) (suc t) = unmarked_all n t

pub stacked_first : (T : Table) → Stacked T 0 [] (replicate 1024 false)
unfolding open_before forked_below any_below
stacked_first T =
    record {
      size = length-replicate 1024 false;
      children = refl;
      marks = unmarked_all 1024;
      room = omega arith;
    }

module _ (T : Table) (a : ℕ) (l : List ℕ) (forked : List Bool) (s : Stacked T a l forked) where
  pub stacked_room : (x : ℕ) → x < 1024 → get_or forked x false ≡ false → length l < 1024
  stacked_room x h e =
      let n : x < length forked = omega (arith, s.size) in
      omega (arith, s.room, s.size, count_set forked x n e, count_length (set forked x true), length-set forked x true)

  verdict_is : try_at (second_pass T).checks a ≡ verdict (kind T a) (T.argument a) l (get_or forked (T.argument a) false) a
  unfolding try_at forked_before join_not_latest end_with_open
  verdict_is = rw (s.children, s.marks (T.argument a))

  next_opens : kind T a ≡ fork → T.argument a < 1024 → get_or forked (T.argument a) false ≡ false
      → Stacked T (a + 1) (T.argument a ∷ l) (set forked (T.argument a) true)
  unfolding open_before forked_below any_below
  next_opens k h e =
      let x : ℕ = T.argument a in
      let n : x < length forked = omega (arith, s.size) in
      record {
        size = simp length-set s.size;
        children = rw (add-one, open_before, k, ← s.children);
        marks = λ t. rw add-one (go x n t (ℕ_discrete t x));
        room = omega (arith, s.room, count_set forked x n e);
      }
    where
      go : (x : ℕ) → x < length forked → (t : ℕ) → Dec (t ≡ x) → get_or (set forked x true) t false ≡ pick (is fork (kind T a) && eqb x t) true (any_below (forks T t) a)
      go x n t (yes q) = rw (q, get_or-set_same forked x true false n, same_is fork (kind T a) k, eq-eqb x x refl)
      go x n t (no d) = rw (get_or-set_other forked x t true false d, same_is fork (kind T a) k, ne_eqb x t (λ q. d (sym q))) (s.marks t)

  next_keeps : is fork (kind T a) ≡ false → length (opened (kind T a) (T.argument a) l) ≤ length l
      → Stacked T (a + 1) (opened (kind T a) (T.argument a) l) forked
  unfolding open_before forked_below any_below
  next_keeps f h =
      record {
        size = s.size;
        children = rw (add-one, open_before, ← s.children);
        marks = λ t. rw (add-one, any_below, f) (s.marks t);
        room = omega (arith, s.room);
      }

  module _ (number : Option ℕ) (l' : List ℕ) (forked' : List Bool) (e : nest number l' forked' ≡ nest_at (kind T a) (T.argument a) l forked) where
    number_is : {N : Nesting} → nest_at (kind T a) (T.argument a) l forked ≡ N → number ≡ N.number
    number_is n = ap (λ (w : Nesting). w.number) (e ∙ n)

    stack_is : {N : Nesting} → nest_at (kind T a) (T.argument a) l forked ≡ N → l' ≡ N.stack
    stack_is n = ap (λ (w : Nesting). w.stack) (e ∙ n)

    forked_is : {N : Nesting} → nest_at (kind T a) (T.argument a) l forked ≡ N → forked' ≡ N.forked
    forked_is n = ap (λ (w : Nesting). w.forked) (e ∙ n)

    pub stacked_stops : {n : ℕ} → number ≡ Some n → try_at (second_pass T).checks a ≡ Err (refusal n a)
    stacked_stops {n} d = verdict_is ∙ go (step (kind T a) (T.argument a) l forked a)
      where
        go : Step (kind T a) (T.argument a) l forked a → verdict (kind T a) (T.argument a) l (get_or forked (T.argument a) false) a ≡ Err (refusal n a)
        go (opens k m w v) = let q : None ≡ Some n = sym (number_is w) ∙ d in no_way (cc)
        go (keeps f h w v) = let q : None ≡ Some n = sym (number_is w) ∙ d in no_way (cc)
        go (stops k w v) = let q : Some k ≡ Some n = sym (number_is w) ∙ d in let p : k ≡ n = cc in rw p at v

    module _ (z : number ≡ None) where
      absent : {n : ℕ} {A : Type 0} → number ≡ Some n → A
      absent {n} d = let q : None ≡ Some n = sym z ∙ d in no_way (cc)

      pub stacked_passes : try_at (second_pass T).checks a ≡ Ok tt
      stacked_passes = verdict_is ∙ go (step (kind T a) (T.argument a) l forked a)
        where
          go : Step (kind T a) (T.argument a) l forked a → verdict (kind T a) (T.argument a) l (get_or forked (T.argument a) false) a ≡ Ok tt
          go (opens k m n v) = v
          go (keeps f h n v) = v
          go (stops k n v) = absent (number_is n)

      pub stacked_next : (kind T a ≡ fork → T.argument a < 1024) → Stacked T (a + 1) l' forked'
      stacked_next b = go (step (kind T a) (T.argument a) l forked a)
        where
          go : Step (kind T a) (T.argument a) l forked a → Stacked T (a + 1) l' forked'
          go (opens k m n v) = rw (stack_is n, forked_is n) (next_opens k (b k) m)
          go (keeps f h n v) = rw (stack_is n, forked_is n) (next_keeps f h)
          go (stops k n v) = absent (number_is n)
