-- The canonical form of a table is a renaming of it.
use Prim.Native.Nat.{ℕ, zero, suc, ◌≤◌, ◌<◌}
use native.Mathlib.Omega.{arith}
use mathlib.Core.Path.{◌≡◌, refl, ap, ◌∙◌}
use mathlib.Core.List.{List, [], ◌∷◌, ◌++◌, map, flatten, Memᴰ}
use mathlib.Core.Bool.{Bool, true, false}
use mathlib.Core.Logic.{◌⊎◌, inl, inr}
use native.Mathlib.Decide.{dec_lt}
use lib.Dec.{eqb}
use lib.ListN.{length, get_or}
use borrow.Author.Tests.{eqb-true, eqb-false}
use Rattle.table.specs.Sum.{pick}
use Rattle.table.specs.Format.{Table, kind, table_of}
use Rattle.table.specs.declared.kinds.Kind.TheVariants.{Fork as fork, Join as join}
use Rattle.table.specs.Checks.{owner, open_before}
use Rattle.table.specs.Rules.{ContentRules, BodyRules, NestRules, ForkRules, BalanceRules}
use Rattle.table.proofs.Bodies.{count_pos, owner_below_lem, owner_first, fork_below_lem, owner_of_first}
use Rattle.table.proofs.Nesting.{open_join, open_forked}
use Rattle.order.specs.Words.{place_in}
use Rattle.order.specs.Order.{number_of}
use Rattle.order.proofs.Lawful.{Lawful}
use Rattle.order.proofs.Numbers.{number_child, number_rises}
use Rattle.order.proofs.Words.{Ascends}
use Rattle.table.specs.Written.{Action, actions_from, body_in, written}
use Rattle.parts.specs.Copies.{Copies, renamed_action}
use Rattle.canonical.specs.Renames.{Renames}
use Rattle.canonical.specs.Canonical.{thread_order, new_number, canonical_bodies}
use Rattle.table.proofs.ReadBack.{Reads, read_back}
use Rattle.parts.proofs.Built.{Placed, built_contents, placed_copies}
use Rattle.canonical.proofs.Order.{begins, order_ascends, order_all, order_length_lem, new_back, new_below, new_once, new_at, thread_at}
use Rattle.parts.proofs.Short.{Short, ShortActions, short_append, short_at, body_short}
use Rattle.canonical.proofs.Renaming.{order_below, bodies_same}
use Rattle.parts.proofs.WholeRules.{whole_bodies, whole_nesting, whole_forks, whole_balances}

map_length : (f : ℕ → List Action) (l : List ℕ) → length (map f l) ≡ length l
map_length f [] = refl
map_length f (x ∷ l) = ap suc (map_length f l)

map_at : (f : ℕ → List Action) (l : List ℕ) (i : ℕ) → i < length l → get_or (map f l) i [] ≡ f (get_or l i 0)
map_at f [] i h = absurd (omega arith)
map_at f (x ∷ l) zero h = refl
map_at f (x ∷ l) (suc i) h = map_at f l i (omega arith)

body_length : (f : ℕ → ℕ) (T : Table) (a k : ℕ) → length (map (renamed_action f) (actions_from T a k)) ≡ k
unfolding actions_from
body_length f T a zero = refl
body_length f T a (suc k) = ap suc (body_length f T (suc a) k)

-- along a list that ascends a lower value has a lower place
ascends_lower : (f : ℕ → ℕ) (l : List ℕ) → Ascends f l → (x y : ℕ) → Memᴰ x l → Memᴰ y l → f x < f y → place_in x l < place_in y l
unfolding Ascends place_in
ascends_lower f [] p x y m k h = absurd (mathlib.Core.List.Memᴰ.not-nil m)
ascends_lower f (z ∷ l) p x y m k h = go (eqb x z) (eqb y z) refl refl (mathlib.Core.List.Memᴰ.cases_cons m) (mathlib.Core.List.Memᴰ.cases_cons k) (ascends_lower f l p.1 x y)
  where
    go : (s t : Bool) → eqb x z ≡ s → eqb y z ≡ t → (x ≡ z) ⊎ Memᴰ x l → (y ≡ z) ⊎ Memᴰ y l → (Memᴰ x l → Memᴰ y l → f x < f y → place_in x l < place_in y l)
        → pick s 0 (suc (place_in x l)) < pick t 0 (suc (place_in y l))
    go true true u v i j ih = absurd (omega (arith, h, ap f (eqb-true x z u), ap f (eqb-true y z v)))
    go true false u v i j ih = omega arith
    go false true u v (inl i) j ih = absurd (eqb-false x z u i)
    go false true u v (inr i) j ih = absurd (omega (arith, h, p.0 x i, ap f (eqb-true y z v)))
    go false false u v (inl i) j ih = absurd (eqb-false x z u i)
    go false false u v (inr i) (inl j) ih = absurd (eqb-false y z v j)
    go false false u v (inr i) (inr j) ih = omega (arith, ih i j h)

module _ (T : Table) (l : Lawful T) (short : Short T) where
  listed_short : (ts : List ℕ) → ((t : ℕ) → Memᴰ t ts → t < T.threads) → ShortActions (flatten (map (λ (t : ℕ). map (renamed_action (new_number T)) (body_in T t)) ts))
  unfolding ShortActions flatten
  listed_short [] h = tt
  listed_short (t ∷ ts) h =
      short_append (map (renamed_action (new_number T)) (body_in T t)) (flatten (map (λ (t : ℕ). map (renamed_action (new_number T)) (body_in T t)) ts))
      (body_short T l.contents l.bodies short (new_number T) (λ u p. omega (arith, new_below T l u p, l.few_threads)) t (h t (mathlib.Core.List.Memᴰ.head refl)))
      (listed_short ts (λ u m. h u (mathlib.Core.List.Memᴰ.tail m)))

  form_short : ShortActions (flatten (canonical_bodies T))
  unfolding canonical_bodies
  form_short = listed_short (thread_order T) (order_below T l.contents l.bodies l.some_thread)

  abbrev pub form : Table
  form = table_of (written (canonical_bodies T))

  new : ℕ → ℕ
  new = new_number T

  pub form_reads : Reads form (canonical_bodies T)
  form_reads = read_back (canonical_bodies T) (short_at (flatten (canonical_bodies T)) form_short)

  form_length : length (canonical_bodies T) ≡ T.threads
  unfolding canonical_bodies
  form_length = map_length _ (thread_order T) ∙ order_length_lem T l

  form_body : (i : ℕ) → i < T.threads → get_or (canonical_bodies T) i [] ≡ map (renamed_action (new_number T)) (body_in T (get_or (thread_order T) i 0))
  unfolding canonical_bodies
  form_body i h = map_at (λ (t : ℕ). map (renamed_action (new_number T)) (body_in T t)) (thread_order T) i (omega (arith, order_length_lem T l))

  placed : Placed T (canonical_bodies T) (new_number T)
  placed =
      record {
        within = λ t h. omega (arith, new_below T l t h, form_length);
        apart = new_once T l;
        bodies = λ t h. form_body (new_number T t) (new_below T l t h) ∙ ap (λ (u : ℕ). map (renamed_action (new_number T)) (body_in T u)) (new_back T l t h);
      }

  pub form_copies : Copies T form (new_number T)
  form_copies = placed_copies T form (canonical_bodies T) form_reads (new_number T) placed

  pub form_threads : form.threads ≡ T.threads
  form_threads = form_reads.threads ∙ form_length

  pub form_contents : ContentRules form
  form_contents = built_contents form (canonical_bodies T) form_reads (λ i h.
      let k : i < T.threads = omega (arith, form_length) in
      let t : ℕ = get_or (thread_order T) i 0 in
      rw (form_body i k, body_length (new_number T) T (T.first t) (T.count t)) (count_pos T l.contents t (thread_at T l i k)))

  onto : (u : ℕ) → u < form.threads → (t : ℕ) × (t < T.threads) × (new_number T t ≡ u)
  onto u h =
      let k : u < T.threads = omega (arith, form_threads) in
      (get_or (thread_order T) u 0, thread_at T l u k, new_at T l u k)

  -- children come after their parents
  rising_fork : (a : ℕ) → a < T.actions → kind T a ≡ fork → new_number T (owner T a) < new_number T (T.argument a)
  rising_fork a h k =
      let t : ℕ = owner T a in
      let w : t < T.threads = owner_below_lem T l.contents a h in
      let u = fork_below_lem T l.contents l.bodies a h k in
      let le : number_of T (T.first t) ≤ number_of T a = along (dec_lt (T.first t) a) in
      ascends_lower (begins T l) (thread_order T) (order_ascends T l) t (T.argument a) (order_all T l t w) (order_all T l (T.argument a) u)
      (omega (arith, le, number_child T l a h k))
    where
      along : Dec (T.first (owner T a) < a) → number_of T (T.first (owner T a)) ≤ number_of T a
      along (yes p) = omega (arith, number_rises T l (T.first (owner T a)) a p h (owner_of_first T l.contents (owner T a) (owner_below_lem T l.contents a h)))
      along (no p) = let e : T.first (owner T a) ≡ a = omega (arith, p, owner_first T l.contents a h) in omega (arith, ap (number_of T) e)

  rising_join : (a : ℕ) → a < T.actions → kind T a ≡ join → new_number T (owner T a) < new_number T (T.argument a)
  rising_join a h k =
      let m : Memᴰ (T.argument a) (open_before T a) = rw (open_join T l.contents l.bodies l.nesting a h k) (mathlib.Core.List.Memᴰ.head refl) in
      let (x, i, p, q, o) = open_forked T l.contents l.bodies l.nesting a (T.argument a) h m in
      rw (q, o) at (rising_fork x (omega arith) p)

  pub form_bodies : BodyRules form
  form_bodies = whole_bodies T form (new_number T) form_copies l.contents l.bodies form_contents onto rising_fork rising_join

  pub form_nesting : NestRules form
  form_nesting = whole_nesting T form (new_number T) form_copies l.contents l.bodies form_contents onto form_bodies l.nesting

  root_new : new_number T 0 ≡ 0
  unfolding thread_order place_in
  root_new = refl

  pub form_forking : ForkRules form
  form_forking = whole_forks T form (new_number T) form_copies l.contents l.bodies form_contents onto form_bodies l.nesting l.forking root_new

  pub form_balances : BalanceRules form
  form_balances = whole_balances T form (new_number T) form_copies l.contents l.bodies form_contents onto form_bodies l.nesting l.balances

  pub form_renames : Renames T form
  form_renames = record { to = new_number T; root = root_new; threads = form_threads; copies = form_copies }

  -- "doing it twice changes nothing"
  pub form_twice : canonical_bodies form ≡ canonical_bodies T
  form_twice = bodies_same T form form_renames l.some_thread l.contents l.bodies form_contents form_bodies
