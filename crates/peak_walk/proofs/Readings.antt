-- What the loops along the actions read and add, against the table's own words.
use Rattle.std.proofs.Common.{◌≡◌, ℕ, suc, ◌+◌, ◌-◌, ◌<◌, ◌≤◌, max, Bool, true, false, ◌||◌, ltb, List, ap, ◌∙◌, add-one, arith}
use Rattle.table.specs.Sum.{pick, greatest_to}
use Rattle.table.specs.Format.{is, kind_of, code_at, argument_at, own_amount, threads_of, actions_of, bodies_from, Table, kind, table_of}
use Rattle.table.specs.declared.kinds.Kind.{Kind}
use Rattle.table.specs.declared.kinds.Kind.TheVariants.{End as end, Alloc as alloc, Free as free, Fork as fork}
use Rattle.table.specs.Checks.{alloc_of, free_of}
use Rattle.table.proofs.ReadBack.{argument_short}
use Rattle.schedule.specs.Machine.{drawn}
use Rattle.peaks.specs.Rests.{stretch_begins, rests, drawn_at, drawn_before, stretch}
use Rattle.peak_walk.specs.Along.{since_rest, rise_along}
use Rattle.peak_walk.specs.Code.Walk.{may_after}
use Rattle.peak_walk.proofs.Walked.{may_is}
use Rattle.peak_walk.proofs.RiseAlong.{since_small, drawn_small}

-- ---- sizes

own_few : (q : Bool) (x : ℕ) → x < 16777216 → pick q x 0 ≤ 16777215
own_few true x h = omega arith
own_few false x h = omega arith

drawn_few : (K x : ℕ) → x ≤ 16777215 → drawn K x ≤ 16777215
drawn_few K x h = go (ltb K x)
  where
    go : (q : Bool) → pick q 0 x ≤ 16777215
    go true = omega arith
    go false = h

alloc_few : (s : List ℕ) (a : ℕ) → alloc_of (table_of s) a ≤ 16777215
unfolding alloc_of
alloc_few s a = own_few (is alloc (kind (table_of s) a)) ((table_of s).argument a) (argument_short s a)

free_few : (s : List ℕ) (a : ℕ) → free_of (table_of s) a ≤ 16777215
unfolding free_of
free_few s a = own_few (is free (kind (table_of s) a)) ((table_of s).argument a) (argument_short s a)

-- what is drawn before an action and at it
pub drawn_fits : (s : List ℕ) (K a x y : ℕ) → a < 65536 → x ≡ drawn_before (table_of s) K a → y ≡ drawn_at (table_of s) K a → x + y < 2199023255552
drawn_fits s K a x y h e f =
    omega (
      arith,
      e,
      f,
      drawn_small (table_of s) K (λ i. drawn_few K (alloc_of (table_of s) i) (alloc_few s i)) a,
      drawn_few K (alloc_of (table_of s) a) (alloc_few s a),
    )

pub up_fits : (s : List ℕ) (a x y : ℕ) → a < 65536 → x ≡ since_rest (table_of s) (alloc_of (table_of s)) a → y ≡ alloc_of (table_of s) a → x + y < 2199023255552
up_fits s a x y h e f = omega (arith, e, f, since_small (table_of s) (alloc_of (table_of s)) (alloc_few s) a, alloc_few s a)

pub down_fits : (s : List ℕ) (a x y : ℕ) → a < 65536 → x ≡ since_rest (table_of s) (free_of (table_of s)) a → y ≡ free_of (table_of s) a → x + y < 2199023255552
down_fits s a x y h e f = omega (arith, e, f, since_small (table_of s) (free_of (table_of s)) (free_few s) a, free_few s a)

-- ---- an action as it is read

module _ (s : List ℕ) (n a k : ℕ) (e : n ≡ threads_of s) (c : k ≡ code_at (bodies_from s n) a) where
  pub kind_read : kind_of k ≡ kind (table_of s) a
  unfolding table_of
  kind_read = rw (c, e)

  module _ (x : ℕ) (f : x ≡ argument_at (bodies_from s n) a) where
    pub alloc_read : (y : ℕ) → y ≡ own_amount alloc (kind_of k) x → y ≡ alloc_of (table_of s) a
    unfolding table_of alloc_of
    alloc_read y h = h ∙ rw (c, f, e)

    pub free_read : (y : ℕ) → y ≡ own_amount free (kind_of k) x → y ≡ free_of (table_of s) a
    unfolding table_of free_of
    free_read y h = h ∙ rw (c, f, e)

-- the same by the list of actions that the table's bytes hold
pub read_code : (l s : List ℕ) (n a : ℕ) {k : ℕ} → l ≡ bodies_from s n → k ≡ code_at l a → k ≡ code_at (bodies_from s n) a
read_code l s n a e h = rw e at h

pub read_argument : (l s : List ℕ) (n a : ℕ) {x : ℕ} → l ≡ bodies_from s n → x ≡ argument_at l a → x ≡ argument_at (bodies_from s n) a
read_argument l s n a e h = rw e at h

pub may_in : (l s : List ℕ) (n a : ℕ) (resting q : Bool) → l ≡ bodies_from s n → q ≡ may_after (code_at l) resting a → q ≡ may_after (code_at (bodies_from s n)) resting a
may_in l s n a resting q e h = rw e at h

pub ends_in : (K : Kind) (k : ℕ) (q : Bool) → K ≡ kind_of k → q ≡ (is end K || is fork K) → q ≡ (is end (kind_of k) || is fork (kind_of k))
ends_in K k q e h = rw e at h

pub drawn_read : (s : List ℕ) (K a x y : ℕ) → x ≡ alloc_of (table_of s) a → y ≡ drawn K x → y ≡ drawn_at (table_of s) K a
drawn_read s K a x y e h = h ∙ ap (drawn K) e

pub rests_read : (s : List ℕ) (n a : ℕ) (q : Bool) → n ≡ threads_of s → q ≡ may_after (code_at (bodies_from s n)) true a → q ≡ rests (table_of s) (suc a)
unfolding table_of
rests_read s n a q e h = (rw e at h) ∙ may_is (table_of s) true a

-- ---- an action more

pub drawn_next : (T : Table) (K a x y z : ℕ) (k : Kind) (q : Bool) → k ≡ kind T a → x ≡ drawn_before T K a → y ≡ drawn_at T K a → q ≡ (is end k || is fork k) → z ≡ pick q 0 (x + y)
    → z ≡ drawn_before T K (a + 1)
unfolding drawn_before stretch_begins
drawn_next T K a x y z k q c e f g h = rw (add-one a) (h ∙ rw (g, c, e, f))

pub since_next : (T : Table) (own : ℕ → ℕ) (a x y z : ℕ) (q : Bool) → x ≡ since_rest T own a → y ≡ own a → q ≡ rests T (suc a) → z ≡ pick q 0 (x + y) → z ≡ since_rest T own (a + 1)
unfolding since_rest
since_next T own a x y z q e f g h = rw (add-one a) (h ∙ rw (g, e, f))

pub greatest_more : (f : ℕ → ℕ) (a best x v : ℕ) → best ≡ greatest_to f a → x ≡ f a → v ≡ max best x → v ≡ greatest_to f (a + 1)
unfolding greatest_to
greatest_more f a best x v e g h = rw (add-one a) (h ∙ rw (e, g))

-- ---- all of them

pub stretch_whole : (s : List ℕ) (K a m best : ℕ) → best ≡ greatest_to (λ i. drawn_before (table_of s) K i + drawn_at (table_of s) K i) a → a ≡ m → m ≡ actions_of s → best ≡ stretch (table_of s) K
unfolding stretch table_of
stretch_whole s K a m best e f g = e ∙ rw (f, g)

pub rise_whole : (s : List ℕ) (a m best : ℕ) → best ≡ greatest_to (λ i. since_rest (table_of s) (alloc_of (table_of s)) i - since_rest (table_of s) (free_of (table_of s)) i) a → a ≡ m → m ≡ actions_of s
    → best ≡ rise_along (table_of s)
unfolding rise_along table_of
rise_whole s a m best e f g = e ∙ rw (f, g)
