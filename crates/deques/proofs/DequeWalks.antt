-- One walk along the lines tests the clauses on the deques: `deques_stand` is true exactly where the deques that are read off the links keep their statements and the links describe them.
use mathlib.Core.Path.{◌≡◌, refl, sym, ap, ap₂, subst, ◌∙◌}
use Prim.Native.Nat.{ℕ, ◌+◌, ◌≤◌, ◌<◌}
use mathlib.Core.List.{List, [], ◌∷◌, ◌++◌, map, flatten, Memᴰ}
use mathlib.Core.Bool.{Bool, true, false, ◌&&◌, ◌||◌}
use mathlib.Core.Logic.Iff
use mathlib.Core.Logic.{◌⊎◌, inl, inr, ◌↔◌}
use native.Mathlib.Omega.{arith}
use native.Mathlib.Decide.{ℕ_discrete, dec_lt, dec_le}
use lib.ListN.{get_or, get_or-eq_default}
use lib.Dec.{ltb, eqb}
use borrow.Author.Tests.{eqb-true, ne_eqb, eq-eqb, lt-ltb, le-ltb}
use Rattle.table.specs.Sum.{pick}
use Rattle.table.specs.Format.{Table}
use Rattle.table.specs.Rules.{Rules}
use Rattle.table.proofs.Tests.{no_way}
use Rattle.schedule.specs.declared.Worker.{Worker}
use Rattle.schedule.specs.Machine.{State, ready, held, nobody}
use Rattle.schedule.specs.Memory.{count_in}
use Rattle.schedule.specs.Links.{Links, list_of, laid, LinkedAs}
use Rattle.order.specs.Words.{member, agree}
use Rattle.order.proofs.Lawful.{Lawful, lawful}
use Rattle.order.proofs.Words.{and_of, or_exactly, agree_exactly, agree_of, all_below_exactly, member_exactly}
use Rattle.schedule.specs.Record.{bytes_of, table_in, links_in}
use Rattle.schedule.proofs.Sound.Facts.{Facts}
use Rattle.schedule.proofs.Linked.Once.{Once}
use Rattle.schedule.proofs.Linked.Links.{laid_linked}
use Rattle.deques.specs.Deques.{Deque, bottom, Deques, over}
use Rattle.deques.specs.declared.DequeRun.{DequeRun}
use Rattle.deques.specs.DequeRecord.{bottoms_in, deques_in, deques_of, lines_for, bottoms_for}
use Rattle.deques.specs.DequeSound.{SoundDeques, deque_sound}
use Rattle.deques.specs.DequeWalk.{is_ready, in_lines, bottoms_along, deques_stand, deque_tested}
use Rattle.deques.specs.Lines.{line, lines_of, bottoms_of, thread_of, cut_after, deque_of, holder_of, is_held, linked_in, deques_from}
use Rattle.deques.specs.Partition.{occurs, owns, owned_by, InUse, AllInUse, ready_at, PlacedDeques}
use Rattle.deques.proofs.ActCommon.{CommonIn}
use Rattle.deques.proofs.Cut.{LastPasses, AllSeen}
use Rattle.deques.proofs.DequeTurns.{Kept, with_serial, serial_facts}
use Rattle.deques.proofs.Counts.{counted_in, count_append, in_counted, once_counts, lines_count, held_among}
use Rattle.deques.proofs.Standing.{in_deque, standing, lines_once}
use Rattle.deques.proofs.Read.{LaidDeques, holder_at, all_seen, list_read}
use Rattle.deques.proofs.DequeTests.{same_links_exactly, record_exactly, deque_sound_exactly}
use Rattle.deques.proofs.Walks.{once_in_exactly, AllReady, GoodLine, Good, walk_good, good_walk, good_bottoms, good_stands, ready_in, cut_flatten}

module _ (T : Table) (l : Lawful T) (p K : ℕ) (st : State) (c : CommonIn T p K st) where
  abbrev status : List ℕ
  status = st.status

  abbrev workers : List Worker
  workers = st.workers

  abbrev hold : ℕ → ℕ
  hold = thread_of st.workers

  known : Facts T p K (with_serial T l st)
  known = serial_facts T l p K st c

  -- a thread that is held or ready is one of the table's
  stands_low : (t : ℕ) → (get_or st.status t 0 ≡ held) ⊎ (get_or st.status t 0 ≡ ready) → t < T.threads
  stands_low t s = go (dec_lt t T.threads) (dec_lt t 1024) s
    where
      go : Dec (t < T.threads) → Dec (t < 1024) → (get_or st.status t 0 ≡ held) ⊎ (get_or st.status t 0 ≡ ready) → t < T.threads
      go (yes i) j s = i
      go (no i) (yes j) (inl e) = absurd (omega (arith, e, known.unused_status t (omega (arith, i)) j))
      go (no i) (yes j) (inr e) = absurd (omega (arith, e, known.unused_status t (omega (arith, i)) j))
      go (no i) (no j) (inl e) = absurd (omega (arith, e, get_or-eq_default st.status 0 {n = t} (omega (arith, j, known.status_size))))
      go (no i) (no j) (inr e) = absurd (omega (arith, e, get_or-eq_default st.status 0 {n = t} (omega (arith, j, known.status_size))))

  -- the worker that holds a held thread
  record Holds (t w : ℕ) : Type 0 where
    few : w < 16
    holds : (get_or st.workers w nobody).holds ≡ true
    thread : (get_or st.workers w nobody).thread ≡ t

  holder_is : (t w : ℕ) → Holds t w → holder_of t st.workers ≡ w
  holder_is t w h =
      holder_at t st.workers w (omega (arith, h.few, known.holding.worker_size)) h.holds h.thread
      (λ v i q r. known.holding.holder_once v w (omega (arith, i, known.holding.worker_size)) h.few q h.holds (r ∙ sym h.thread))

  held_by : (t : ℕ) → get_or st.status t 0 ≡ held → Holds t (holder_of t st.workers)
  held_by t e =
      let (w, i, h, q) = known.holding.held_holder t (stands_low t (inl e)) e in
      let x : Holds t w = record { few = i; holds = h; thread = q } in
      subst (Holds t) (sym (holder_is t w x)) x

  module _ (f : ℕ → Bool) where
    abbrev dq : List ℕ → Deque
    dq = deque_of (is_held st.status) (λ t. holder_of t st.workers)

    abbrev Line : List ℕ → Type 0
    Line = GoodLine f st.status

    abbrev Lines : List (List ℕ) → Type 0
    Lines = Good f st.status

    unready : (t : ℕ) → get_or st.status t 0 ≡ ready → is_held st.status t ≡ false
    unready t e = ne_eqb (get_or st.status t 0) held (λ z. omega (arith, e, z))

    -- ---- the deque of a line

    line_back : (k : List ℕ) → Line k → line hold (dq k) ≡ k
    line_back [] g = absurd g
    line_back (t ∷ k) (inl e, g) =
        let h : Holds t (holder_of t st.workers) = held_by t e in
        rw (eq-eqb (get_or st.status t 0) held e, lt-ltb (holder_of t st.workers) 16 h.few) (ap (◌∷ k) h.thread)
    line_back (t ∷ k) (inr e, g) = rw (unready t e)

    line_in_use : (k : List ℕ) → Line k → InUse (dq k)
    line_in_use [] g = absurd g
    line_in_use (t ∷ k) (inl e, g) = rw (eq-eqb (get_or st.status t 0) held e) (inl (held_by t e).few)
    line_in_use (t ∷ k) (inr e, g) = rw (unready t e) (inr (refl, refl))

    ready_none : (t : ℕ) (k : List ℕ) → AllReady f st.status k → (get_or st.status t 0 ≡ ready → ⊥) → count_in t k ≡ 0
    ready_none t k a n = go (dec_le 1 (count_in t k))
      where
        go : Dec (1 ≤ count_in t k) → count_in t k ≡ 0
        go (yes i) = absurd (n (ready_in f st.status k a t (in_counted t k i)))
        go (no i) = omega (arith, i)

    line_count : (t : ℕ) → (get_or st.status t 0 ≡ held → ⊥) → (k : List ℕ) → Line k → count_in t (dq k).threads ≡ count_in t k
    unfolding count_in
    line_count t n [] g = absurd g
    line_count t n (u ∷ k) (inl e, g) = rw (eq-eqb (get_or st.status u 0) held e, ne_eqb u t (λ z. n (ap (λ (x : ℕ). get_or st.status x 0) (sym z) ∙ e))) (omega arith)
    line_count t n (u ∷ k) (inr e, g) = rw (unready u e)

    line_held : (t : ℕ) → get_or st.status t 0 ≡ held → (k : List ℕ) → Line k → count_in t (dq k).threads ≡ 0
    unfolding AllReady
    line_held t i [] g = absurd g
    line_held t i (u ∷ k) (inl e, g) = rw (eq-eqb (get_or st.status u 0) held e) (ready_none t k g.0 (λ z. omega (arith, i, z)))
    line_held t i (u ∷ k) (inr e, g) = rw (unready u e) (ready_none t (u ∷ k) (e, g.0) (λ z. omega (arith, i, z)))

    -- a worker that holds t owns the line that t stands in
    line_owns : (t w : ℕ) → Holds t w → get_or st.status t 0 ≡ held → (k : List ℕ) → Line k → owns w (dq k) ≡ count_in t k
    unfolding count_in AllReady
    line_owns t w h i [] g = absurd g
    line_owns t w h i (u ∷ k) (inl e, g) =
        let z : count_in t k ≡ 0 = ready_none t k g.0 (λ z. omega (arith, i, z)) in
        rw (eq-eqb (get_or st.status u 0) held e, z) (go (ℕ_discrete u t))
      where
        go : Dec (u ≡ t) → pick (eqb (holder_of u st.workers) w) 1 0 ≡ pick (eqb u t) 1 0 + 0
        go (yes q) = rw (q, holder_is t w h, eq-eqb w w refl, eq-eqb t t refl) (omega arith)
        go (no q) = rw (ne_eqb u t q, ne_eqb (holder_of u st.workers) w (λ r. q (sym (held_by u e).thread ∙ ap (thread_of st.workers) r ∙ h.thread))) (omega arith)
    line_owns t w h i (u ∷ k) (inr e, g) =
        let z : count_in t (u ∷ k) ≡ 0 = ready_none t (u ∷ k) (e, g.0) (λ z. omega (arith, i, z)) in
        rw (unready u e, ne_eqb 16 w (λ r. omega (arith, r, h.few))) (sym z)

    line_free : (w : ℕ) → w < 16 → (get_or st.workers w nobody).holds ≡ false → (k : List ℕ) → Line k → owns w (dq k) ≡ 0
    line_free w i n [] g = absurd g
    line_free w i n (u ∷ k) (inl e, g) =
        rw (eq-eqb (get_or st.status u 0) held e, ne_eqb (holder_of u st.workers) w (λ r. no_way (cc ((held_by u e).holds, ap (λ (x : ℕ). (get_or st.workers x nobody).holds) r))))
    line_free w i n (u ∷ k) (inr e, g) = rw (unready u e, ne_eqb 16 w (λ r. omega (arith, r, i)))

    -- ---- of all lines

    lines_back : (ks : List (List ℕ)) → Lines ks → lines_of hold (map dq ks) ≡ flatten ks
    unfolding lines_of flatten Good
    lines_back [] g = refl
    lines_back (k ∷ ks) g = ap₂ ◌++◌ (line_back k g.0) (lines_back ks g.1)

    bottoms_back : (ks : List (List ℕ)) → Lines ks → bottoms_of hold (map dq ks) ≡ map bottom ks
    unfolding bottoms_of Good
    bottoms_back [] g = refl
    bottoms_back (k ∷ ks) g = ap₂ ◌∷◌ (ap bottom (line_back k g.0)) (bottoms_back ks g.1)

    all_in_use : (ks : List (List ℕ)) → Lines ks → AllInUse (map dq ks)
    unfolding AllInUse Good
    all_in_use [] g = tt
    all_in_use (k ∷ ks) g = (line_in_use k g.0, all_in_use ks g.1)

    all_count : (t : ℕ) → (get_or st.status t 0 ≡ held → ⊥) → (ks : List (List ℕ)) → Lines ks → occurs t (map dq ks) ≡ count_in t (flatten ks)
    unfolding occurs flatten Good count_in
    all_count t n [] g = refl
    all_count t n (k ∷ ks) g = omega (arith, line_count t n k g.0, all_count t n ks g.1, count_append t k (flatten ks))

    all_held : (t : ℕ) → get_or st.status t 0 ≡ held → (ks : List (List ℕ)) → Lines ks → occurs t (map dq ks) ≡ 0
    unfolding occurs Good
    all_held t i [] g = refl
    all_held t i (k ∷ ks) g = omega (arith, line_held t i k g.0, all_held t i ks g.1)

    all_owns : (t w : ℕ) → Holds t w → get_or st.status t 0 ≡ held → (ks : List (List ℕ)) → Lines ks → owned_by w (map dq ks) ≡ count_in t (flatten ks)
    unfolding owned_by flatten Good count_in
    all_owns t w h i [] g = refl
    all_owns t w h i (k ∷ ks) g = omega (arith, line_owns t w h i k g.0, all_owns t w h i ks g.1, count_append t k (flatten ks))

    all_free : (w : ℕ) → w < 16 → (get_or st.workers w nobody).holds ≡ false → (ks : List (List ℕ)) → Lines ks → owned_by w (map dq ks) ≡ 0
    unfolding owned_by Good
    all_free w i n [] g = refl
    all_free w i n (k ∷ ks) g = omega (arith, line_free w i n k g.0, all_free w i n ks g.1)

    -- ---- the walk gives the statements

    module _ (row : List ℕ) (once : Once row) (walk : in_lines f st.status true row ≡ true)
        (marks : (t : ℕ) → t < T.threads → member t row ≡ (is_ready st.status t || is_held st.status t)) where
      good : Lines (cut_after f row)
      good = walk_good f st.status row walk

      none_in : (t : ℕ) → (Memᴰ t row → ⊥) → count_in t row ≡ 0
      none_in t n = go (dec_le 1 (count_in t row))
        where
          go : Dec (1 ≤ count_in t row) → count_in t row ≡ 0
          go (yes i) = absurd (n (in_counted t row i))
          go (no i) = omega (arith, i)

      -- a thread that stands is in the row, once
      one_in : (t : ℕ) → t < T.threads → (is_ready st.status t || is_held st.status t) ≡ true → count_in t row ≡ 1
      one_in t i e =
          let m : Memᴰ t row = (member_exactly t row).0 (marks t i ∙ e) in
          omega (arith, counted_in t row m, once_counts row once t)

      count_row : (t : ℕ) → count_in t (flatten (cut_after f row)) ≡ count_in t row
      count_row t = ap (count_in t) (cut_flatten f row)

      or_left : (a b : Bool) → a ≡ true → (a || b) ≡ true
      or_left a b e = (or_exactly a b).1 (inl e)

      or_right : (a b : Bool) → b ≡ true → (a || b) ≡ true
      or_right a b e = (or_exactly a b).1 (inr e)

      in_row : (t : ℕ) → Memᴰ t row → (get_or st.status t 0 ≡ held) ⊎ (get_or st.status t 0 ≡ ready)
      in_row t m = good_stands f st.status (cut_after f row) good t (subst (λ (z : List ℕ). Memᴰ t z) (sym (cut_flatten f row)) m)

      pub walk_placed : PlacedDeques T.threads st.status st.workers (map dq (cut_after f row))
      walk_placed =
          record {
            once = λ t i. at t i (ℕ_discrete (get_or st.status t 0) held) (ℕ_discrete (get_or st.status t 0) ready);
            none = λ t i.
                all_count t (λ e. omega (arith, i, stands_low t (inl e))) (cut_after f row) good ∙ count_row t
                ∙ none_in t (λ m. omega (arith, i, stands_low t (in_row t m)));
            owned = λ w i. who w i (get_or st.workers w nobody).holds refl;
            in_use = all_in_use (cut_after f row) good;
          }
        where
          at : (t : ℕ) → t < T.threads → Dec (get_or st.status t 0 ≡ held) → Dec (get_or st.status t 0 ≡ ready) → occurs t (map dq (cut_after f row)) ≡ ready_at st.status t
          at t i (yes e) r = rw e (all_held t e (cut_after f row) good)
          at t i (no e) (yes r) =
              rw r (all_count t e (cut_after f row) good ∙ count_row t ∙ one_in t i (or_left (is_ready st.status t) (is_held st.status t) (eq-eqb (get_or st.status t 0) ready r)))
          at t i (no e) (no r) =
              rw (ne_eqb (get_or st.status t 0) ready r) (all_count t e (cut_after f row) good ∙ count_row t ∙ none_in t (λ m. neither (in_row t m)))
            where
              neither : (get_or st.status t 0 ≡ held) ⊎ (get_or st.status t 0 ≡ ready) → ⊥
              neither (inl z) = e z
              neither (inr z) = r z

          who : (w : ℕ) → w < 16 → (b : Bool) → (get_or st.workers w nobody).holds ≡ b → owned_by w (map dq (cut_after f row)) ≡ pick b 1 0
          who w i true h =
              let t : ℕ = (get_or st.workers w nobody).thread in
              let e : get_or st.status t 0 ≡ held = known.holding.holder_held w i h in
              all_owns t w (record { few = i; holds = h; thread = refl }) e (cut_after f row) good ∙ count_row t
              ∙ one_in t (known.holding.holder_thread w i h) (or_right (is_ready st.status t) (is_held st.status t) (eq-eqb (get_or st.status t 0) held e))
          who w i false h = all_free w i h (cut_after f row) good

      pub walk_lines : lines_of hold (map dq (cut_after f row)) ≡ row
      walk_lines = lines_back (cut_after f row) good ∙ cut_flatten f row

      pub walk_bottoms : bottoms_of hold (map dq (cut_after f row)) ≡ bottoms_along f row
      walk_bottoms = bottoms_back (cut_after f row) good ∙ sym (good_bottoms f st.status (cut_after f row) good) ∙ ap (bottoms_along f) (cut_flatten f row)

  -- ---- and the statements give the walk

  module _ (first second : Links) (ds : List Deque) (P : PlacedDeques T.threads st.status st.workers ds) (L : LaidDeques first second (thread_of st.workers) ds) where
    abbrev D : Deques
    D = over st ds

    X : Kept T p K (over st ds)
    X = record { common = c; placed = P }

    abbrev f2 : ℕ → Bool
    f2 = linked_in second

    all_ready : (k : List ℕ) → ((t : ℕ) → Memᴰ t k → get_or st.status t 0 ≡ ready) → AllReady f2 st.status k
    unfolding AllReady
    all_ready [] h = tt
    all_ready (t ∷ k) h = (h t (mathlib.Core.List.Memᴰ.head refl), all_ready k (λ u m. h u (mathlib.Core.List.Memᴰ.tail m)))

    good_lines : (es : List Deque) → AllInUse es → AllSeen f2 (is_held st.status) (λ t. holder_of t st.workers) hold es
        → ((t : ℕ) → 1 ≤ occurs t es → get_or st.status t 0 ≡ ready) → Good f2 st.status (map (line hold) es)
    unfolding AllInUse AllSeen Good occurs
    good_lines [] m s h = tt
    good_lines (d ∷ es) m s h = (good m.0, good_lines es m.1 s.1 (λ t i. h t (omega (arith, i))))
      where
        readies : (t : ℕ) → Memᴰ t d.threads → get_or st.status t 0 ≡ ready
        readies t n = h t (omega (arith, counted_in t d.threads n))

        good : InUse d → GoodLine f2 st.status (line hold d)
        good (inl i) = owned s.0.last
          where
            owned : LastPasses f2 (line hold d) → GoodLine f2 st.status (line hold d)
            owned = rw (lt-ltb d.owner 16 i) (λ z. (inl (eqb-true (get_or st.status (hold d.owner) 0) held (s.0.owner i).0), (all_ready d.threads readies, z)))
        good (inr i) = free d.threads refl s.0.last
          where
            free : (k : List ℕ) → d.threads ≡ k → LastPasses f2 (line hold d) → GoodLine f2 st.status (line hold d)
            free [] e z = no_way (cc (i.1, e))
            free (t ∷ k) e z =
                let q : line hold d ≡ t ∷ k = rw (le-ltb d.owner 16 (omega (arith, i.0))) e in
                subst (GoodLine f2 st.status) (sym q) (
                  inr (readies t (subst (λ (z : List ℕ). Memᴰ t z) (sym e) (mathlib.Core.List.Memᴰ.head refl))),
                  (all_ready k (λ u n. readies u (subst (λ (z : List ℕ). Memᴰ u z) (sym e) (mathlib.Core.List.Memᴰ.tail n))), subst (LastPasses f2) q z),
                )

    lines_good : Good f2 st.status (map (line hold) ds)
    lines_good = good_lines ds P.in_use (all_seen T l p K first second D X L [] ds refl) (λ t i. (in_deque T l p K D X t i).1)

    flat : (es : List Deque) → flatten (map (line hold) es) ≡ lines_of hold es
    unfolding flatten lines_of
    flat [] = refl
    flat (d ∷ es) = ap (line hold d ++◌) (flat es)

    lasts : (es : List Deque) → map bottom (map (line hold) es) ≡ bottoms_of hold es
    unfolding bottoms_of
    lasts [] = refl
    lasts (d ∷ es) = ap (bottom (line hold d) ∷◌) (lasts es)

    pub stand_row : list_of first ≡ lines_of hold ds
    stand_row = list_read T l p K first second D X L

    pub stand_once : Once (lines_of hold ds)
    stand_once = lines_once T l p K D X

    pub stand_walk : in_lines f2 st.status true (lines_of hold ds) ≡ true
    stand_walk = ap (in_lines f2 st.status true) (sym (flat ds)) ∙ good_walk f2 st.status (map (line hold) ds) lines_good

    pub stand_bottoms : bottoms_along f2 (lines_of hold ds) ≡ bottoms_of hold ds
    stand_bottoms = ap (bottoms_along f2) (sym (flat ds)) ∙ good_bottoms f2 st.status (map (line hold) ds) lines_good ∙ lasts ds

    among : (t w : ℕ) → w < 16 → hold w ≡ t → (es : List Deque) → 1 ≤ owned_by w es → 1 ≤ held_among hold t es
    unfolding owned_by held_among
    among t w i e [] h = absurd (omega arith)
    among t w i e (d ∷ es) h = go (eqb d.owner w) refl (among t w i e es) h
      where
        go : (q : Bool) → eqb d.owner w ≡ q → (1 ≤ owned_by w es → 1 ≤ held_among hold t es) → 1 ≤ pick q 1 0 + owned_by w es
            → 1 ≤ pick (ltb d.owner 16 && eqb (hold d.owner) t) 1 0 + held_among hold t es
        go true j ih k =
            let o : d.owner ≡ w = eqb-true d.owner w j in
            rw (o, lt-ltb w 16 i, eq-eqb (hold w) t e) (omega arith)
        go false j ih k = omega (arith, ih (omega (arith, k)))

    pub stand_marks : (t : ℕ) → t < T.threads → agree (member t (lines_of hold ds)) (is_ready st.status t || is_held st.status t) ≡ true
    stand_marks t i =
        (agree_of (member_exactly t (lines_of hold ds)) (Iff.trans (or_exactly (is_ready st.status t) (is_held st.status t)) (read, back))).1 (
          (λ m. (standing T l p K D X t m).1),
          (λ s. in_counted t (lines_of hold ds) (some s)),
        )
      where
        read : (is_ready st.status t ≡ true) ⊎ (is_held st.status t ≡ true) → (get_or st.status t 0 ≡ ready) ⊎ (get_or st.status t 0 ≡ held)
        read (inl e) = inl (eqb-true (get_or st.status t 0) ready e)
        read (inr e) = inr (eqb-true (get_or st.status t 0) held e)

        back : (get_or st.status t 0 ≡ ready) ⊎ (get_or st.status t 0 ≡ held) → (is_ready st.status t ≡ true) ⊎ (is_held st.status t ≡ true)
        back (inl e) = inl (eq-eqb (get_or st.status t 0) ready e)
        back (inr e) = inr (eq-eqb (get_or st.status t 0) held e)

        some : (get_or st.status t 0 ≡ ready) ⊎ (get_or st.status t 0 ≡ held) → 1 ≤ count_in t (lines_of hold ds)
        some (inl e) =
            let o : occurs t ds ≡ 1 = P.once t i ∙ ap (λ (q : Bool). pick {A = ℕ} q 1 0) (eq-eqb (get_or st.status t 0) ready e) in
            omega (arith, o, lines_count hold t ds)
        some (inr e) =
            let h : Holds t (holder_of t st.workers) = held_by t e in
            let w : ℕ = holder_of t st.workers in
            let o : owned_by w ds ≡ 1 = P.owned w h.few ∙ ap (λ (q : Bool). pick {A = ℕ} q 1 0) h.holds in
            omega (arith, among t w h.few h.thread ds (omega (arith, o)), lines_count hold t ds)

  -- ---- both ways

  abbrev Stand : Links → Links → Type 0
  Stand first second =
      PlacedDeques T.threads st.status st.workers (deques_from first second st.status st.workers)
      × ((first ≡ laid (lines_of hold (deques_from first second st.status st.workers)))
      × (second ≡ laid (bottoms_of hold (deques_from first second st.status st.workers))))

  pub stand_exactly : (first second : Links) → (deques_stand T.threads st.status first second ≡ true) ↔ Stand first second
  unfolding deques_stand deques_from
  stand_exactly first second =
      Iff.trans
      (and_of (once_in_exactly row)
      (and_of Iff.rfl
      (and_of (all_below_exactly (λ t. agree (member t row) (is_ready st.status t || is_held st.status t)) T.threads)
      (and_of (same_links_exactly first (laid row))
      (same_links_exactly second (laid (bottoms_along f3 row))))))) (
        (λ (a, (b, (d, (e, g)))). there a b (λ t i. (agree_exactly _ _).0 (d t i)) e g),
        (λ (P, (e, g)). back P e g),
      )
    where
      row : List ℕ
      row = list_of first

      f3 : ℕ → Bool
      f3 = linked_in second

      there : Once (list_of first) → in_lines (linked_in second) st.status true (list_of first) ≡ true
          → ((t : ℕ) → t < T.threads → member t (list_of first) ≡ (is_ready st.status t || is_held st.status t)) → first ≡ laid (list_of first)
          → second ≡ laid (bottoms_along (linked_in second) (list_of first)) → Stand first second
      there a b d e g = (
        walk_placed (linked_in second) (list_of first) a b d,
        (
          e ∙ ap laid (sym (walk_lines (linked_in second) (list_of first) a b d)),
          g ∙ ap laid (sym (walk_bottoms (linked_in second) (list_of first) a b d)),
        ),
      )

      back : (P : PlacedDeques T.threads st.status st.workers (deques_from first second st.status st.workers))
          → first ≡ laid (lines_of hold (deques_from first second st.status st.workers))
          → second ≡ laid (bottoms_of hold (deques_from first second st.status st.workers))
          → Once (list_of first)
          × ((in_lines (linked_in second) st.status true (list_of first) ≡ true)
          × (((t : ℕ) → t < T.threads → agree (member t (list_of first)) (is_ready st.status t || is_held st.status t) ≡ true)
          × ((first ≡ laid (list_of first)) × (second ≡ laid (bottoms_along (linked_in second) (list_of first))))))
      back P e g =
          let ds : List Deque = deques_from first second st.status st.workers in
          let L : LaidDeques first second (thread_of st.workers) ds =
          record {
            lines = subst (λ (k : Links). LinkedAs k (lines_of hold ds)) (sym e) (laid_linked (lines_of hold ds));
            bottoms = subst (λ (k : Links). LinkedAs k (bottoms_of hold ds)) (sym g) (laid_linked (bottoms_of hold ds));
          }
          in
          subst (λ (z : List ℕ).
          Once z
          × ((in_lines (linked_in second) st.status true z ≡ true)
          × (((t : ℕ) → t < T.threads → agree (member t z) (is_ready st.status t || is_held st.status t) ≡ true)
          × ((first ≡ laid z) × (second ≡ laid (bottoms_along (linked_in second) z))))))
          (sym (stand_row first second ds P L)) (
            stand_once first second ds P L,
            (stand_walk first second ds P L, (stand_marks first second ds P L, (e, g ∙ ap laid (sym (stand_bottoms first second ds P L))))),
          )

-- ---- of a record

module _ (r : DequeRun) where
  stands : (h : Rules (bytes_of r.run)) → CommonIn (table_in r.run) r.run.workers r.run.quota (deques_of r).state
      → (deques_stand (table_in r.run).threads r.run.status (links_in r.run) (bottoms_in r) ≡ true)
      ↔ (PlacedDeques (table_in r.run).threads r.run.status r.run.worker (deques_in r)
      × ((links_in r.run ≡ laid (lines_for (deques_of r))) × (bottoms_in r ≡ laid (bottoms_for (deques_of r)))))
  stands h x = stand_exactly (table_in r.run) (lawful (bytes_of r.run) h) r.run.workers r.run.quota (deques_of r).state x (links_in r.run) (bottoms_in r)

  pub deque_tested_exactly : (deque_tested r ≡ true) ↔ SoundDeques r
  unfolding deque_tested
  deque_tested_exactly =
      Iff.trans (and_of (record_exactly r) Iff.rfl) (
        (λ (((a, (b, (c, d))), (e, (f, g))), t).
            let s = (stands a c).0 t in
            record {
              steady = record { table = a; settings = b; common = c; set = d; table_length = e; table_rest = f; placed = s.0; lines = s.1.0; bottoms = s.1.1 };
              turns = g;
            }),
        (λ s.
            let x = s.steady in
            (((x.table, (x.settings, (x.common, x.set))), (x.table_length, (x.table_rest, s.turns))), (stands x.table x.common).1 (x.placed, (x.lines, x.bottoms)))),
      )

-- the test by one walk is the test
pub deque_tested_is : (r : DequeRun) → deque_tested r ≡ deque_sound r
deque_tested_is r = (agree_exactly (deque_tested r) (deque_sound r)).0 ((agree_of (deque_tested_exactly r) (deque_sound_exactly r)).1 ((λ s. s), (λ s. s)))
