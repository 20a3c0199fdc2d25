-- The rule with b, turn by turn: a row with one more turn keeps it exactly where the row does and no worker's count since another's latest turn comes to more than b; and one worker's always
-- comes to 1 at most.
use mathlib.Core.Path.{◌≡◌, refl, sym, ap, ◌∙◌}
use mathlib.Core.Logic.{◌↔◌, ◌⊎◌, inl, inr, ⊎_elim}
use Prim.Native.Nat.{ℕ, zero, suc, ◌+◌, ◌≤◌, ◌<◌}
use native.Mathlib.Omega.{arith}
use native.Mathlib.Decide.{ℕ_discrete, dec_le}
use mathlib.Core.List.Memᴰ
use mathlib.Core.List.{List, [], ◌∷◌, ◌++◌, append_assoc, append-nil}
use mathlib.Core.Bool.{Bool, true, false}
use lib.Dec.{eqb}
use lib.ListN.{length}
use borrow.Author.Tests.{eq-eqb, ne_eqb}
use Rattle.table.specs.Sum.{pick}
use Rattle.table.proofs.Tests.{no_way}
use Rattle.schedule.specs.Memory.{count_in, Keeps}
use Rattle.order.proofs.Lists.{Below}
use Rattle.bounds.proofs.Ages.{count_in_nil, count_in_append, count_in_own, count_in_other}
use Rattle.pace.specs.Since.{since_latest, asked_of, Asks, after_latest}

-- ---- counting

pub count_more : (v w : ℕ) (l : List ℕ) → count_in v l ≤ count_in v (w ∷ l)
unfolding count_in
count_more v w l = omega arith

-- no more turns of one worker than turns
pub count_length : (v : ℕ) (l : List ℕ) → count_in v l ≤ length l
unfolding count_in
count_length v [] = omega arith
count_length v (w ∷ l) = go (eqb w v) (count_length v l)
  where
    go : (q : Bool) → count_in v l ≤ length l → pick q 1 0 + count_in v l ≤ suc (length l)
    go true h = omega (arith, h)
    go false h = omega (arith, h)

-- who has no turn is not there
pub count_below_lem : (p x : ℕ) (l : List ℕ) → Below p l → p ≤ x → count_in x l ≡ 0
unfolding count_in
count_below_lem p x [] h i = refl
count_below_lem p x (w ∷ l) h i =
    count_in_other x w l (λ e. omega (arith, h w (Memᴰ.head refl))) ∙ count_below_lem p x l (λ v m. h v (Memᴰ.tail m)) i

-- ---- since the latest turn

pub since_none : (x w : ℕ) (l : List ℕ) → count_in x l ≡ 0 → since_latest x w l ≡ 0
unfolding since_latest count_in
since_none x w [] z = refl
since_none x w (v ∷ l) z = go (eqb v x) z (since_none x w l)
  where
    go : (q : Bool) → pick q 1 0 + count_in x l ≡ 0 → (count_in x l ≡ 0 → since_latest x w l ≡ 0)
        → pick (eqb (since_latest x w l) 0) (pick q (1 + count_in w l) 0) (since_latest x w l) ≡ 0
    go true z ih = no_way (omega arith)
    go false z ih = rw (ih (omega arith))

-- a turn of x with none after it is its latest
pub since_at : (x w : ℕ) (front stretch : List ℕ) → count_in x stretch ≡ 0 → since_latest x w (front ++ x ∷ stretch) ≡ 1 + count_in w stretch
unfolding since_latest
since_at x w [] stretch z = rw (since_none x w stretch z, eq-eqb x x refl)
since_at x w (v ∷ front) stretch z = rw (since_at x w front stretch z, ne_eqb (1 + count_in w stretch) 0 (λ e. omega arith))

-- a row as it stands around the latest turn of x
pub record Latest (x : ℕ) (row : List ℕ) : Type 0 where
  pub front : List ℕ
  pub stretch : List ℕ
  pub whole : row ≡ front ++ x ∷ stretch
  pub none : count_in x stretch ≡ 0

pub latest_of : (x : ℕ) (row : List ℕ) → (count_in x row ≡ 0) ⊎ Latest x row
unfolding count_in
latest_of x [] = inl refl
latest_of x (v ∷ row) = go (ℕ_discrete v x) (latest_of x row)
  where
    go : Dec (v ≡ x) → (count_in x row ≡ 0) ⊎ Latest x row → (count_in x (v ∷ row) ≡ 0) ⊎ Latest x (v ∷ row)
    go d (inr h) = inr (record { front = v ∷ h.front; stretch = h.stretch; whole = ap (v ∷◌) h.whole; none = h.none })
    go (yes e) (inl z) = inr (record { front = []; stretch = row; whole = ap (◌∷ row) e; none = z })
    go (no d) (inl z) = inl (count_in_other x v row d ∙ z)

pub since_below : (p x w : ℕ) (l : List ℕ) → Below p l → p ≤ x → since_latest x w l ≡ 0
since_below p x w l h i = since_none x w l (count_below_lem p x l h i)

-- no turn comes to more than one more than the worker's turns
pub since_most : (x w : ℕ) (l : List ℕ) → since_latest x w l ≤ 1 + count_in w l
since_most x w l = ⊎_elim (λ (n : count_in x l ≡ 0). omega (arith, since_none x w l n)) at_latest (latest_of x l)
  where
    at_latest : Latest x l → since_latest x w l ≤ 1 + count_in w l
    at_latest h =
        let e : since_latest x w l ≡ 1 + count_in w h.stretch = ap (since_latest x w) h.whole ∙ since_at x w h.front h.stretch h.none in
        let c : count_in w l ≡ count_in w h.front + count_in w (x ∷ h.stretch) = ap (count_in w) h.whole ∙ count_in_append w h.front (x ∷ h.stretch) in
        omega (arith, count_more w x h.stretch)

-- who has no turn comes to 1 at most
pub since_new : (x w : ℕ) (l : List ℕ) → count_in w l ≡ 0 → since_latest x w l ≤ 1
since_new x w l z = omega (arith, since_most x w l)

-- a worker and itself
pub since_own : (w : ℕ) (l : List ℕ) → since_latest w w l ≤ 1
since_own w l = ⊎_elim (λ (n : count_in w l ≡ 0). omega (arith, since_none w w l n))
    (λ (h : Latest w l). omega (arith, ap (since_latest w w) h.whole ∙ since_at w w h.front h.stretch h.none, h.none)) (latest_of w l)

-- ---- one more turn

pub since_snoc : (x w : ℕ) (row : List ℕ) (u : ℕ)
    → since_latest x w (row ++ u ∷ []) ≡ pick (eqb u x) 1 (pick (eqb (since_latest x w row) 0) 0 (since_latest x w row + pick (eqb u w) 1 0))
unfolding since_latest count_in
since_snoc x w [] u = refl
since_snoc x w (v ∷ row) u =
    step (eqb u x) (eqb v x) (since_latest x w row) (count_in w row) (pick (eqb u w) 1 0) (since_snoc x w row u) (count_in_append w row (u ∷ []))
  where
    step : (q r : Bool) (s c e : ℕ) {s' c' : ℕ} → s' ≡ pick q 1 (pick (eqb s 0) 0 (s + e)) → c' ≡ c + (e + 0)
        → pick (eqb s' 0) (pick r (1 + c') 0) s' ≡ pick q 1 (pick (eqb (pick (eqb s 0) (pick r (1 + c) 0) s) 0) 0 (pick (eqb s 0) (pick r (1 + c) 0) s + e))
    step true r s c e a d = rw a
    step false true zero c e a d = rw (a, d, ne_eqb (1 + c) 0 (λ z. omega arith)) (omega arith)
    step false false zero c e a d = rw a
    step false r (suc s) c e a d =
        let n : eqb (suc s) 0 ≡ false = ne_eqb (suc s) 0 (λ z. omega arith) in
        let m : eqb (suc s + e) 0 ≡ false = ne_eqb (suc s + e) 0 (λ z. omega arith) in
        let f : _ ≡ suc s + e = rw n at a in
        rw (f, m, n, n)

-- whose turn was the latest
pub after_nil : 0 ≡ after_latest []
unfolding after_latest
after_nil = refl

pub after_snoc : (row : List ℕ) (u : ℕ) → after_latest (row ++ u ∷ []) ≡ 1 + u
unfolding after_latest
after_snoc [] u = refl
after_snoc (v ∷ row) u = rw (after_snoc row u, ne_eqb (1 + u) 0 (λ z. omega arith))

-- ---- the rule of a row with one more turn

-- a row's end
data Ending : List ℕ → Type 0 where
  empty : Ending []
  up_to : (l : List ℕ) (u : ℕ) → Ending (l ++ u ∷ [])

ending : (l : List ℕ) → Ending l
ending [] = empty
ending (w ∷ l) = go (ending l)
  where
    go : {l : List ℕ} → Ending l → Ending (w ∷ l)
    go empty = up_to [] w
    go (up_to l u) = up_to (w ∷ l) u

never_empty : (l : List ℕ) (u : ℕ) {A : Type 0} → l ++ u ∷ [] ≡ [] → A
never_empty [] u e = no_way (cc)
never_empty (v ∷ l) u e = no_way (cc)

same_ends : (l k : List ℕ) (u v : ℕ) → l ++ u ∷ [] ≡ k ++ v ∷ [] → (l ≡ k) × (u ≡ v)
same_ends [] [] u v e = (refl, cc)
same_ends [] (y ∷ k) u v e = let f : [] ≡ k ++ v ∷ [] = cc in never_empty k v (sym f)
same_ends (x ∷ l) [] u v e = let f : l ++ u ∷ [] ≡ [] = cc in never_empty l u f
same_ends (x ∷ l) (y ∷ k) u v e =
    let f : l ++ u ∷ [] ≡ k ++ v ∷ [] = cc in
    let g : x ≡ y = cc in
    let r : (l ≡ k) × (u ≡ v) = same_ends l k u v f in
    ((cc), r.1)

module _ (b : ℕ) (row : List ℕ) (w : ℕ) where
  front_keeps : Keeps b (row ++ w ∷ []) → Keeps b row
  unfolding Keeps
  front_keeps h front stretch rest x v e z =
      h front stretch (rest ++ w ∷ []) x v (ap (λ (l : List ℕ). l ++ w ∷ []) e ∙ append_assoc (front ++ x ∷ stretch) rest (w ∷ [])) z

  keeps_asks : Keeps b (row ++ w ∷ []) → Asks b row w
  unfolding Keeps Asks asked_of
  keeps_asks h x = go (ℕ_discrete x w) (latest_of x row)
    where
      go : Dec (x ≡ w) → (count_in x row ≡ 0) ⊎ Latest x row → pick (eqb x w) 0 (since_latest x w row) ≤ b
      go (yes e) l = rw (eq-eqb x w e) (omega arith)
      go (no d) (inl z) = rw (ne_eqb x w d, since_none x w row z) (omega arith)
      go (no d) (inr l) =
          let e : since_latest x w row ≡ 1 + count_in w l.stretch = ap (since_latest x w) l.whole ∙ since_at x w l.front l.stretch l.none in
          let whole : row ++ w ∷ [] ≡ l.front ++ x ∷ (l.stretch ++ w ∷ []) ++ [] =
          ap (λ (k : List ℕ). k ++ w ∷ []) l.whole ∙ append_assoc l.front (x ∷ l.stretch) (w ∷ []) ∙ sym (append-nil (l.front ++ x ∷ (l.stretch ++ w ∷ []))) in
          let none : count_in x (l.stretch ++ w ∷ []) ≡ 0 = omega (arith, count_in_append x l.stretch (w ∷ []), count_in_other x w [] (λ f. d (sym f)), l.none, count_in_nil x) in
          rw (ne_eqb x w d) (omega (arith, h l.front (l.stretch ++ w ∷ []) [] x w whole none, count_in_append w l.stretch (w ∷ []), count_in_own w []))

  asks_keeps : Keeps b row → Asks b row w → Keeps b (row ++ w ∷ [])
  unfolding Keeps Asks asked_of
  asks_keeps h a front stretch rest x v e z = go (ending rest) e
    where
      at_end_lem : {s : List ℕ} → Ending s → count_in x s ≡ 0 → row ++ w ∷ [] ≡ front ++ x ∷ s → count_in v s ≤ b
      at_end_lem empty z e = omega (arith, count_in_nil v)
      at_end_lem (up_to s u) z e =
          let r : (row ≡ front ++ x ∷ s) × (w ≡ u) = same_ends row (front ++ x ∷ s) w u (e ∙ sym (append_assoc front (x ∷ s) (u ∷ []))) in
          let none : count_in x s ≡ 0 = omega (arith, count_in_append x s (u ∷ [])) in
          let apart : x ≡ w → ⊥ = λ f. let g : count_in x (u ∷ []) ≡ suc (count_in x []) = rw (f ∙ r.1) (count_in_own u []) in omega (arith, count_in_append x s (u ∷ [])) in
          let asked : since_latest x w row ≤ b = rw (ne_eqb x w apart) at (a x) in
          let since : since_latest x w row ≡ 1 + count_in w s = ap (since_latest x w) r.0 ∙ since_at x w front s none in
          let earlier : count_in v s ≤ b = h front s [] x v (r.0 ∙ sym (append-nil (front ++ x ∷ s))) none in
          by_worker (ℕ_discrete u v) r.1 since asked earlier
        where
          by_worker : Dec (u ≡ v) → w ≡ u → since_latest x w row ≡ 1 + count_in w s → since_latest x w row ≤ b → count_in v s ≤ b → count_in v (s ++ u ∷ []) ≤ b
          by_worker (yes f) g since asked earlier =
              let i : count_in w s ≡ count_in v s = ap (λ (k : ℕ). count_in k s) (g ∙ f) in
              let j : count_in v (u ∷ []) ≡ 1 = rw f (count_in_own v [] ∙ ap suc (count_in_nil v)) in
              omega (arith, count_in_append v s (u ∷ []))
          by_worker (no d) g since asked earlier = omega (arith, count_in_append v s (u ∷ []), count_in_other v u [] d, count_in_nil v)

      go : {rest : List ℕ} → Ending rest → row ++ w ∷ [] ≡ front ++ x ∷ stretch ++ rest → count_in v stretch ≤ b
      go empty e = at_end_lem (ending stretch) z (e ∙ append-nil (front ++ x ∷ stretch))
      go (up_to rest u) e =
          let r : (row ≡ front ++ x ∷ stretch ++ rest) × (w ≡ u) =
          same_ends row (front ++ x ∷ stretch ++ rest) w u (e ∙ sym (append_assoc (front ++ x ∷ stretch) rest (u ∷ []))) in
          h front stretch rest x v r.0 z

  -- a row with one more turn keeps the rule exactly where the row does and the turn comes to no more than b
  pub keeps_snoc : Keeps b (row ++ w ∷ []) ↔ (Keeps b row × Asks b row w)
  keeps_snoc = ((λ h. (front_keeps h, keeps_asks h)), (λ h. asks_keeps h.0 h.1))

-- ---- somebody may always go on

-- a turn before the latest changes nothing
since_cons : (x w v : ℕ) (l : List ℕ) → Latest x l → since_latest x w (v ∷ l) ≡ since_latest x w l
unfolding since_latest
since_cons x w v l h =
    let e : since_latest x w l ≡ 1 + count_in w h.stretch = ap (since_latest x w) h.whole ∙ since_at x w h.front h.stretch h.none in
    rw (ne_eqb (since_latest x w l) 0 (λ z. omega arith))

-- The order of latest turns: where w has had no turn since x's latest, and has had one since y's, y has had none since x's.
older : (x y w : ℕ) (row : List ℕ) → since_latest x w row ≤ 1 → 2 ≤ since_latest y w row → since_latest x y row ≤ 1
unfolding since_latest
older x y w [] i j = omega arith
older x y w (v ∷ l) i j = go (latest_of x l) (latest_of y l) (ℕ_discrete v x) (ℕ_discrete v y) (older x y w l)
  where
    go : (count_in x l ≡ 0) ⊎ Latest x l → (count_in y l ≡ 0) ⊎ Latest y l → Dec (v ≡ x) → Dec (v ≡ y)
        → (since_latest x w l ≤ 1 → 2 ≤ since_latest y w l → since_latest x y l ≤ 1) → since_latest x y (v ∷ l) ≤ 1
    go (inr h) (inr k) d f ih = rw (since_cons x y v l h) (ih (rw (since_cons x w v l h) at i) (rw (since_cons y w v l k) at j))
    go (inr h) (inl z) d f ih = rw (since_cons x y v l h) (since_new x y l z)
    go (inl z) k (no d) f ih = rw (since_none x y (v ∷ l) (count_in_other x v l d ∙ z)) (omega arith)
    go (inl z) k (yes d) f ih =
        let none : count_in w l ≡ 0 = omega (arith, since_at x w [] l z, rw d at i) in
        absurd (later k f none)
      where
        later : (count_in y l ≡ 0) ⊎ Latest y l → Dec (v ≡ y) → count_in w l ≡ 0 → ⊥
        later (inr k) f none = omega (arith, since_new y w l none, rw (since_cons y w v l k) at j)
        later (inl q) (yes f) none = omega (arith, since_at y w [] l q, rw f at j)
        later (inl q) (no f) none = omega (arith, rw (since_none y w (v ∷ l) (count_in_other y v l f ∙ q)) at j)

-- of the first p workers, one has had no turn since the latest of each
pub record Oldest (p : ℕ) (row : List ℕ) : Type 0 where
  pub worker : ℕ
  pub below : worker < p
  pub waits : (x : ℕ) → x < p → since_latest x worker row ≤ 1

pub oldest : (p : ℕ) (row : List ℕ) → 1 ≤ p → Oldest p row
oldest zero row i = absurd (omega arith)
oldest (suc zero) row i =
    record { worker = 0; below = omega arith; waits = λ x j. let e : x ≡ 0 = omega arith in rw e (since_own 0 row) }
oldest (suc (suc p)) row i = go (oldest (suc p) row (omega arith))
  where
    go : Oldest (suc p) row → Oldest (suc (suc p)) row
    go o = by_new (dec_le (since_latest (suc p) o.worker row) 1)
      where
        by_new : Dec (since_latest (suc p) o.worker row ≤ 1) → Oldest (suc (suc p)) row
        by_new (yes k) =
            record {
              worker = o.worker;
              below = omega (arith, o.below);
              waits = λ x j. at x j (ℕ_discrete x (suc p));
            }
          where
            at : (x : ℕ) → x < suc (suc p) → Dec (x ≡ suc p) → since_latest x o.worker row ≤ 1
            at x j (yes e) = rw e k
            at x j (no d) = o.waits x (omega arith)
        by_new (no k) =
            record {
              worker = suc p;
              below = omega arith;
              waits = λ x j. at x j (ℕ_discrete x (suc p));
            }
          where
            at : (x : ℕ) → x < suc (suc p) → Dec (x ≡ suc p) → since_latest x (suc p) row ≤ 1
            at x j (yes e) = rw e (since_own (suc p) row)
            at x j (no d) = older x (suc p) o.worker row (o.waits x (omega arith)) (omega arith)

-- The rule never stops everybody: for every p and b at least 1 and every row of workers below p, one of them is asked no more than b, and the row with its turn keeps the rule.
pub never_stopped : (p b : ℕ) (row : List ℕ) → 1 ≤ p → 1 ≤ b → Below p row → (w : ℕ) × ((w < p) × Asks b row w)
unfolding Asks asked_of
never_stopped p b row i j h = let o : Oldest p row = oldest p row i in (o.worker, (o.below, (λ x. go x (dec_le p x))))
  where
    go : (x : ℕ) → Dec (p ≤ x) → asked_of x (oldest p row i).worker row ≤ b
    go x d = by_self (eqb x (oldest p row i).worker) d
      where
        by_self : (q : Bool) → Dec (p ≤ x) → pick q 0 (since_latest x (oldest p row i).worker row) ≤ b
        by_self true d = omega arith
        by_self false (yes k) = omega (arith, since_below p x (oldest p row i).worker row h k)
        by_self false (no k) = omega (arith, (oldest p row i).waits x (omega arith))
