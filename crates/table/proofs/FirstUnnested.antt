-- A table is refused with 9 at action a exactly when no earlier check applies and a is the first action that breaks the paper's sentence on joins and ends.
use Rattle.std.specs.Prelude.{Err, Ok, Result, ⊤}
use Rattle.table.specs.declared.Facts.{Facts}
use mathlib.Core.Path.{◌≡◌, refl, sym, ◌∙◌, ap}
use mathlib.Core.Logic.{◌↔◌, ◌⊎◌, inl, inr}
use Prim.Native.Nat.{ℕ, zero, suc, ◌+◌, ◌-◌, ◌≤◌, ◌<◌}
use mathlib.Core.List.{List, [], ◌∷◌}
use mathlib.Core.Bool.{Bool, true, false, not, ◌&&◌}
use mathlib.Core.Option.{some}
use native.Mathlib.Decide.{ℕ_discrete}
use native.Mathlib.Omega.{arith}
use lib.ListN.{get_elem?}
use borrow.Author.Tests.{not-true, not-false}
use Rattle.table.specs.Sum.{any_below}
use Rattle.table.specs.Format.{is, Table, kind, table_of}
use Rattle.table.specs.declared.kinds.Kind.TheVariants.{End as end, Fork as fork, Join as join}
use Rattle.table.specs.Pass.{Check, Pass, or_else, refusal, try_at, try_from, try_pass, first_found}
use Rattle.table.specs.Checks.{owner, forks, forked_below, forked_before, tail, open_before, is_latest, is_empty, join_not_latest, end_with_open, head_pass, entries_pass, total_pass, first_pass, second_pass, forked_pass, balance_pass, passes}
use Rattle.table.specs.Rules.{ContentRules, BodyRules}
use Rattle.table.specs.JobTable.{Sized, InBody, Latest, BreaksNesting, not_latest, left_unjoined, FirstUnnested}
use Rattle.table.specs.Load.{TableValues, values_of, loaded}
use Rattle.table.specs.Cases.{swapped, refused, cases, worked}
use Rattle.table.specs.declared.Refusal.{Refusal}
use Rattle.table.proofs.Tests.{no_way, and_both, is_true, same_is}
use Rattle.table.proofs.Trying.{Each, each_at, Leads, found, found_at, try_at_nothing, try_at_at, nothing_try_from, try_from_split, Lowest, try_from_at, Silent}
use Rattle.table.proofs.Passes.{head_rules, content_rules, body_rules, found_exactly, refused_exactly}
use Rattle.table.proofs.Nesting.{is_latest_true, and_second, any_below_true, forks_true, fork_not_later, once_below}
use Rattle.table.proofs.Unjoined.{in_body, body_owner, body_action, NestedBelow, OpenForks, open_unjoined}
use Rattle.table.proofs.WellFormed.{head_sized, contents_laid, laid_contents, bodies_exactly}
use Rattle.table.proofs.WellNested.{head_latest, latest_head, empty_none, is_latest_head}

-- ---- what is settled below a

-- checks 8 and 9 do not apply below m (9 at joins is enough)
record SilentBelow (T : Table) (m : ℕ) : Type 0 where
  once : (j : ℕ) → j < m → forked_before T j ≡ false
  latest : (j : ℕ) → j < m → join_not_latest T j ≡ false

module _ (T : Table) where
  not_forked : (y : ℕ) → ((x : ℕ) → x < y → kind T x ≡ fork → kind T y ≡ fork → T.argument x ≡ T.argument y → ⊥) → forked_before T y ≡ false
  unfolding forked_before forked_below
  not_forked y n = go (is fork (kind T y)) refl (any_below (forks T (T.argument y)) y) refl
    where
      go : (s : Bool) → is fork (kind T y) ≡ s → (t : Bool) → any_below (forks T (T.argument y)) y ≡ t → (s && t) ≡ false
      go false e t d = refl
      go true e false d = refl
      go true e true d =
          let (x, l, p) = any_below_true (forks T (T.argument y)) y d in
          let (i, q) = forks_true T (T.argument y) x p in
          absurd (n x l i (is_true fork (kind T y) e) q)

  silent_nested : (m : ℕ) → SilentBelow T m → NestedBelow T m
  unfolding open_before join_not_latest
  silent_nested m n =
      record {
        once = once_below T m n.once;
        latest = λ j h k. rw k (is_latest_true (T.argument j) (open_before T j) (not-false _ (and_second _ _ (n.latest j h) (same_is join (kind T j) k))));
      }

-- ---- check 9 at an action is the sentence broken there

module _ (T : Table) (c : ContentRules T) (b : BodyRules T) (a : ℕ) (h : a < T.actions) (n : NestedBelow T a) where
  opens : OpenForks T (owner T a) a (open_before T a)
  opens = open_unjoined T c b a n a (omega arith) h

  here : InBody T (owner T a) a
  here = in_body T c (owner T a) a h refl

  -- the sentence is broken where a check 9 applies
  join_breaks : join_not_latest T a ≡ true → BreaksNesting T a
  unfolding join_not_latest
  join_breaks e =
      let (k, l) = and_both (is join (kind T a)) (not (is_latest (T.argument a) (open_before T a))) e in
      not_latest (owner T a) (T.argument a) (record { within = here; of_kind_lem = is_true join (kind T a) k; named = refl })
      (λ q. no_way (cc (l, is_latest_head (T.argument a) (open_before T a) (tail (open_before T a)) (latest_head T (owner T a) a (T.argument a) (open_before T a) opens q))))

  end_breaks : end_with_open T a ≡ true → BreaksNesting T a
  unfolding end_with_open
  end_breaks e = go (open_before T a) refl (not-true _ p.1)
    where
      p : (is end (kind T a) ≡ true) × (not (is_empty (open_before T a)) ≡ true)
      p = and_both (is end (kind T a)) (not (is_empty (open_before T a))) e

      go : (l : List ℕ) → open_before T a ≡ l → is_empty l ≡ false → BreaksNesting T a
      go [] q r = no_way (cc)
      go (d ∷ l) q r =
          let u : Latest T (owner T a) a d = head_latest T (owner T a) a d (open_before T a) l opens q in
          left_unjoined (owner T a) d u.action here (is_true end (kind T a) p.0) u.unjoined

  -- .. and applies where it is broken
  breaks_applies : BreaksNesting T a → (join_not_latest T a ≡ true) ⊎ (end_with_open T a ≡ true)
  unfolding join_not_latest end_with_open
  breaks_applies (not_latest t d q none) = inl (rw (same_is join (kind T a) q.of_kind_lem) (go (is_latest (T.argument a) (open_before T a)) refl))
    where
      o : owner T a ≡ t
      o = body_owner T c t a q.within

      go : (s : Bool) → is_latest (T.argument a) (open_before T a) ≡ s → not s ≡ true
      go false e = refl
      go true e =
          let l : Latest T (owner T a) a (T.argument a) = head_latest T (owner T a) a (T.argument a) (open_before T a) (tail (open_before T a)) opens (is_latest_true (T.argument a) (open_before T a) e) in
          absurd (none (rw (o, q.named) at l))
  breaks_applies (left_unjoined t d x i k u) = inr (rw (same_is end (kind T a) k) (go (open_before T a) refl))
    where
      o : owner T a ≡ t
      o = body_owner T c t a i

      go : (l : List ℕ) → open_before T a ≡ l → not (is_empty l) ≡ true
      go [] e = absurd (empty_none T (owner T a) a (rw e at opens) d x (rw o u))
      go (y ∷ l) e = refl

-- ---- the passes

-- what is found at a place is found in a pass where nothing is found below it
pass_at : (cs : List Check) (k a : ℕ) (r : Refusal) → a < k → ((j : ℕ) → j < a → try_at cs j ≡ Ok tt) → try_at cs a ≡ Err r → try_from cs 0 k ≡ Err r
unfolding try_from
pass_at cs k a r h below e =
    let d : k ≡ a + suc (k - suc a) = omega arith in
    let z : try_from cs 0 a ≡ (Ok tt) = nothing_try_from cs 0 a (λ j l m. below j (omega arith)) in
    let i : 0 + a ≡ a = omega arith in
    rw (d, try_from_split cs 0 a (suc (k - suc a)), z, i, e)

-- the second pass at an action
second_nine : (T : Table) (a : ℕ) → forked_before T a ≡ false → (join_not_latest T a ≡ true) ⊎ (end_with_open T a ≡ true) → try_at (second_pass T).checks a ≡ Err (refusal 9 a)
unfolding try_at
second_nine T a f (inl j) = rw (f, j)
second_nine T a f (inr e) = go (join_not_latest T a) refl
  where
    go : (s : Bool) → join_not_latest T a ≡ s → try_at (second_pass T).checks a ≡ Err (refusal 9 a)
    go true q = rw (f, q)
    go false q = rw (f, q, e)

second_silent : (T : Table) (j : ℕ) → try_at (second_pass T).checks j ≡ Ok tt → (forked_before T j ≡ false) × (join_not_latest T j ≡ false) × (end_with_open T j ≡ false)
second_silent T j e = let q : Silent (second_pass T).checks j = (try_at_nothing (second_pass T).checks j).0 e in (q.0, q.1.0, q.1.1.0)

silent_second : (T : Table) (j : ℕ) → forked_before T j ≡ false → join_not_latest T j ≡ false → end_with_open T j ≡ false → try_at (second_pass T).checks j ≡ Ok tt
silent_second T j f q e = (try_at_nothing (second_pass T).checks j).1 (f, (q, (e, tt)))

-- 9 is found by the second pass alone, after its 8
row_nine : (T : Table) (a j : ℕ) (c : Check) → get_elem? (second_pass T).checks j ≡ some c → c.number ≡ 9 → c.applies a ≡ true → (join_not_latest T a ≡ true) ⊎ (end_with_open T a ≡ true)
row_nine T a =
    each_at (λ c. c.number ≡ 9 → c.applies a ≡ true → (join_not_latest T a ≡ true) ⊎ (end_with_open T a ≡ true)) (second_pass T).checks
    ((λ n t. absurd (omega arith)), ((λ n t. inl t), ((λ n t. inr t), tt)))

-- what a pass finds
pass_finds : (p : Pass) (r : Refusal) → try_pass p ≡ Err r → Lowest p.checks p.from p.places r
unfolding try_pass
pass_finds p r e = try_from_at p.checks p.from p.places r e

row_finds : (cs : List Check) (a n : ℕ) → try_at cs a ≡ Err (refusal n a) → (j : ℕ) × (c : Check) × (get_elem? cs j ≡ some c) × (c.number ≡ n) × (c.applies a ≡ true)
row_finds cs a n e =
    let l : Leads (found a) cs (refusal n a) = try_at_at cs a (refusal n a) e in
    let (t, q) = found_at (l.element.applies a) (refusal l.element.number a) (refusal n a) l.finds in
    (l.index, l.element, l.there, ap (λ (x : Refusal). x.number) q, t)

-- a pass with no row of that number finds none of it
pass_without : (n a : ℕ) (p : Pass) → Each (λ c. c.number ≡ n → ⊥) p.checks → try_pass p ≡ Err (refusal n a) → ⊥
pass_without n a p f e =
    let (j, c, there, k, t) = row_finds p.checks a n (pass_finds p (refusal n a) e).here in
    each_at (λ c. c.number ≡ n → ⊥) p.checks f j c there k

either : (f g : Result ⊤ Refusal) (r : Refusal) → or_else f g ≡ Err r → (f ≡ Err r) ⊎ ((f ≡ Ok tt) × (g ≡ Err r))
either (Ok _) g r e = inr (refl, e)
either (Err q) g r e = inl e

-- a pass that cannot have found it, and so found nothing
passed_by : (n a : ℕ) (p : Pass) (g : Result ⊤ Refusal) → Each (λ c. c.number ≡ n → ⊥) p.checks → or_else (try_pass p) g ≡ Err (refusal n a) → (try_pass p ≡ Ok tt) × (g ≡ Err (refusal n a))
passed_by n a p g f e = go (either (try_pass p) g (refusal n a) e)
  where
    go : (try_pass p ≡ Err (refusal n a)) ⊎ ((try_pass p ≡ Ok tt) × (g ≡ Err (refusal n a))) → (try_pass p ≡ Ok tt) × (g ≡ Err (refusal n a))
    go (inl q) = absurd (pass_without n a p f q)
    go (inr q) = q

record PassesNine (s : List ℕ) (a : ℕ) : Type 0 where
  head : try_pass (head_pass s) ≡ Ok tt
  entries : try_pass (entries_pass (table_of s)) ≡ Ok tt
  total : try_pass (total_pass (table_of s)) ≡ Ok tt
  first : try_pass (first_pass (table_of s)) ≡ Ok tt
  second : try_pass (second_pass (table_of s)) ≡ Err (refusal 9 a)

passes_nine : (s : List ℕ) (a : ℕ) → (first_found (passes s) ≡ Err (refusal 9 a)) ↔ PassesNine s a
unfolding passes first_found
passes_nine s a = (to, from)
  where
    T : Table
    T = table_of s

    after : Result ⊤ Refusal
    after = or_else (try_pass (forked_pass T)) (or_else (try_pass (balance_pass T)) (Ok tt))

    last : or_else (try_pass (second_pass T)) after ≡ Err (refusal 9 a) → try_pass (second_pass T) ≡ Err (refusal 9 a)
    last e = go (either (try_pass (second_pass T)) after (refusal 9 a) e)
      where
        go : (try_pass (second_pass T) ≡ Err (refusal 9 a)) ⊎ ((try_pass (second_pass T) ≡ Ok tt) × (after ≡ Err (refusal 9 a))) → try_pass (second_pass T) ≡ Err (refusal 9 a)
        go (inl q) = q
        go (inr q) =
            let f = passed_by 9 a (forked_pass T) (or_else (try_pass (balance_pass T)) (Ok tt)) ((λ n. omega arith), tt) q.1 in
            let b = passed_by 9 a (balance_pass T) (Ok tt) ((λ n. omega arith), tt) f.1 in
            no_way (cc b.1)

    to : first_found (passes s) ≡ Err (refusal 9 a) → PassesNine s a
    to e =
        let h = passed_by 9 a (head_pass s) _ ((λ n. omega arith), ((λ n. omega arith), ((λ n. omega arith), tt))) e in
        let c = passed_by 9 a (entries_pass T) _ ((λ n. omega arith), tt) h.1 in
        let t = passed_by 9 a (total_pass T) _ ((λ n. omega arith), tt) c.1 in
        let f = passed_by 9 a (first_pass T) _ ((λ n. omega arith), ((λ n. omega arith), ((λ n. omega arith), tt))) t.1 in
        record { head = h.0; entries = c.0; total = t.0; first = f.0; second = last f.1 }

    from : PassesNine s a → first_found (passes s) ≡ Err (refusal 9 a)
    from p = rw (p.head, p.entries, p.total, p.first, p.second)

-- ---- the statement

module _ (s : List ℕ) (a : ℕ) where
  abbrev T : Table
  T = table_of s

  some_thread : Sized s → 0 < T.threads
  unfolding table_of
  some_thread z = z.threads_least

  to_words : PassesNine s a → FirstUnnested s a
  unfolding try_pass
  to_words p =
      let z : Sized s = (head_sized s).0 ((head_rules s).0 p.head) in
      let c : ContentRules T = (content_rules T).0 (p.entries, p.total) in
      let b : BodyRules T = (body_rules T).0 p.first in
      let w : Lowest (second_pass T).checks 0 T.actions (refusal 9 a) = pass_finds (second_pass T) (refusal 9 a) p.second in
      let below : (j : ℕ) → j < a → (forked_before T j ≡ false) × (join_not_latest T j ≡ false) × (end_with_open T j ≡ false) =
      λ j l. second_silent T j (w.below j (omega arith) l) in
      let silent : (m : ℕ) → m ≤ a → SilentBelow T m = λ m l. record { once = λ j k. (below j (omega arith)).0; latest = λ j k. (below j (omega arith)).1 } in
      let (j, k, there, n, t) = row_finds (second_pass T).checks a 9 w.here in
      record {
        sized = z;
        laid = contents_laid T (some_thread z) c;
        formed = (bodies_exactly T c).0 b;
        once = λ x y i j. fork_not_later T x y ((silent a (omega arith)).once y j) i;
        kept = λ x l q. kept x l (breaks_applies T c b x (omega (arith, w.high)) (silent_nested T x (silent x (omega arith))) q) (below x l);
        breaks = here (row_nine T a j k there n t) c b (omega (arith, w.high)) (silent_nested T a (silent a (omega arith)));
      }
    where
      kept : (x : ℕ) → x < a → (join_not_latest T x ≡ true) ⊎ (end_with_open T x ≡ true) → (forked_before T x ≡ false) × (join_not_latest T x ≡ false) × (end_with_open T x ≡ false) → ⊥
      kept x l (inl e) q = no_way (cc q.1)
      kept x l (inr e) q = no_way (cc q.2)

      here : (join_not_latest T a ≡ true) ⊎ (end_with_open T a ≡ true) → (c : ContentRules T) → BodyRules T → a < T.actions → NestedBelow T a → BreaksNesting T a
      here (inl e) c b h n = join_breaks T c b a h n e
      here (inr e) c b h n = end_breaks T c b a h n e

  -- below a nothing breaks the sentence, and so no check of the second pass applies there
  silent_below : (c : ContentRules T) → BodyRules T → a < T.actions
      → ((x y : ℕ) → x < y → y < a → kind T x ≡ fork → kind T y ≡ fork → T.argument x ≡ T.argument y → ⊥)
      → ((x : ℕ) → x < a → BreaksNesting T x → ⊥) → (m : ℕ) → m ≤ a → SilentBelow T m
  silent_below c b h once kept zero l = record { once = λ j k. absurd (omega arith); latest = λ j k. absurd (omega arith) }
  silent_below c b h once kept (suc m) l = go (silent_below c b h once kept m (omega arith))
    where
      go : SilentBelow T m → SilentBelow T (suc m)
      go n =
          record {
            once = λ j k. not_forked T j (λ x i. once x j i (omega arith));
            latest = λ j k. at j k (ℕ_discrete j m);
          }
        where
          still : (q : Bool) → join_not_latest T m ≡ q → q ≡ false
          still false e = refl
          still true e = absurd (kept m (omega arith) (join_breaks T c b m (omega arith) (silent_nested T m n) e))

          at : (j : ℕ) → j < suc m → Dec (j ≡ m) → join_not_latest T j ≡ false
          at j k (yes e) = rw e (still (join_not_latest T m) refl)
          at j k (no e) = n.latest j (omega (arith, e))

  within : (c : ContentRules T) → BreaksNesting T a → a < T.actions
  within c (not_latest t d q e) = body_action T c t a q.within
  within c (left_unjoined t d x i k u) = body_action T c t a i

  no_fork : BreaksNesting T a → kind T a ≡ fork → ⊥
  no_fork (not_latest t d q e) k = no_way (cc q.of_kind_lem)
  no_fork (left_unjoined t d x i j u) k = no_way (cc)

  from_words : FirstUnnested s a → PassesNine s a
  unfolding try_pass
  from_words f =
      let c : ContentRules T = laid_contents T (some_thread f.sized) f.laid f.formed in
      let b : BodyRules T = (bodies_exactly T c).1 f.formed in
      let h : a < T.actions = within c f.breaks in
      let silent : (m : ℕ) → m ≤ a → SilentBelow T m = silent_below c b h f.once f.kept in
      let e = (content_rules T).1 c in
      record {
        head = (head_rules s).1 ((head_sized s).1 f.sized);
        entries = e.0;
        total = e.1;
        first = (body_rules T).1 b;
        second =
            pass_at (second_pass T).checks T.actions a (refusal 9 a) h
            (λ j l. silent_second T j ((silent a (omega arith)).once j l) ((silent a (omega arith)).latest j l) (no_end j l c b h (silent j (omega arith)) (end_with_open T j) refl))
            (second_nine T a (not_forked T a (λ x l i j q. no_fork f.breaks j)) (breaks_applies T c b a h (silent_nested T a (silent a (omega arith))) f.breaks));
      }
    where
      no_end : (j : ℕ) → j < a → (c : ContentRules T) → BodyRules T → a < T.actions → SilentBelow T j → (q : Bool) → end_with_open T j ≡ q → end_with_open T j ≡ false
      no_end j l c b h n false e = e
      no_end j l c b h n true e = absurd (f.kept j l (end_breaks T c b j (omega arith) (silent_nested T j n) e))

-- "A join names the latest child that its thread has forked and not yet joined; at its end a thread has none left unjoined.": 9 exactly at the first action that breaks it, where no earlier check applies
pub refused_nine : (s : List ℕ) (a : ℕ) → (loaded s ≡ Err (refusal 9 a)) ↔ FirstUnnested s a
refused_nine s a =
    let e = refused_exactly s (refusal 9 a) in
    let f = found_exactly (passes s) (refusal 9 a) in
    let p = passes_nine s a in (
      (λ h. to_words s a (p.0 (f.1 (e.0 h)))),
      (λ w. e.1 (f.0 (p.1 (from_words s a w)))),
    )

swapped_row : values_of (loaded swapped) ≡ (refused swapped 9 2).values
unfolding cases
swapped_row = cc worked

-- "Thread 0 of E with its two joins swapped: 9 at action 2"
pub swapped_unnested : FirstUnnested swapped 2
swapped_unnested = (refused_nine swapped 2).0 (go (loaded swapped) refl)
  where
    go : (a : Result Facts Refusal) → loaded swapped ≡ a → loaded swapped ≡ Err (refusal 9 2)
    go (Ok f) e =
        let v : values_of (loaded swapped) ≡ (refused swapped 9 2).values = swapped_row in
        absurd (omega (arith, ap (λ (v : TableValues). v.number) v, ap (λ (a : Result Facts Refusal). (values_of a).number) e))
    go (Err r) e =
        let v : values_of (loaded swapped) ≡ (refused swapped 9 2).values = swapped_row in
        let n : r.number ≡ 9 = sym (ap (λ (a : Result Facts Refusal). (values_of a).number) e) ∙ ap (λ (v : TableValues). v.number) v in
        let q : r.place ≡ 2 = sym (ap (λ (a : Result Facts Refusal). (values_of a).place) e) ∙ ap (λ (v : TableValues). v.place) v in
        let d : r ≡ refusal 9 2 = λ i. record { number = n i; place = q i } in
        e ∙ ap Err d
