-- A pace that stands for a row: it lets a worker have the next turn exactly where the row with that turn keeps the rule, it stands for that row after the turn, and it never stops everybody.
use mathlib.Core.Path.{◌≡◌, refl, sym, ap, ◌∙◌}
use mathlib.Core.Logic.Iff
use mathlib.Core.Logic.{◌↔◌, ◌⊎◌, inl, inr, ⊎_elim}
use Prim.Native.Nat.{ℕ, zero, suc, ◌+◌, ◌*◌, ◌-◌, ◌^◌, ◌<◌, ◌≤◌, max}
use native.Mathlib.Omega.{arith}
use native.Mathlib.Decide.{ℕ_discrete, dec_lt}
use native.Mathlib.Nat.{max-le, le-max_left, le-max_right}
use mathlib.Core.List.Memᴰ
use mathlib.Core.List.{List, [], ◌∷◌, ◌++◌, Memᴰ}
use mathlib.Core.Bool.{Bool, true, false}
use lib.ListN.{get_or, set, replicate, length-set}
use lib.Seq.{get_or-set_other}
use lib.Dec.{ltb, eqb}
use borrow.Author.Tests.{eq-eqb, ne_eqb, leb-true, le-leb, lt-ltb, le-ltb}
use Rattle.table.specs.Sum.{pick}
use Rattle.table.proofs.Tests.{no_way}
use Rattle.schedule.specs.Memory.{count_in, Keeps}
use Rattle.order.proofs.Lists.{get_d_alike}
use Rattle.pace.specs.Since.{since_latest, asked_of, Asks}
use Rattle.pace.specs.Pace.{one_more, asked, may, may_number, took, blank, start_pace, kept_in, Paced}
use Rattle.pace.specs.Stands.{StandsFor}
use Rattle.pace.proofs.Rows.{keeps_snoc, since_below, since_new, since_snoc, after_nil, after_snoc, never_stopped}
use Rattle.pace.proofs.Steps.{asked_in, start_20, start_41, start_0, one_more_counts}
use Rattle.pace.proofs.Cells.{most_least, most_each, took_long, took_past_counters, took_kept, took_after, took_self, took_latest, took_counts, took_others}

module _ (l : List ℕ) (p b : ℕ) (row : List ℕ) (h : StandsFor l p b row) where
  -- ---- the next turn

  -- the number that is asked of worker w is the least with which its turn keeps the rule
  pub asked_exactly : (w : ℕ) → w < 16 → (c : ℕ) → (asked l w ≤ c) ↔ Asks c row w
  unfolding Asks asked_of
  asked_exactly w i c = ((λ j x. above j x (dec_lt x 16)), (λ j. rw (asked_in l w i) (most_least 16 (16 * w) l c (λ x k. rw (h.counters w x i k) (j x)))))
    where
      above : asked l w ≤ c → (x : ℕ) → Dec (x < 16) → asked_of x w row ≤ c
      above j x (yes k) = omega (arith, h.counters w x i k, most_each 16 (16 * w) l x k, asked_in l w i)
      above j x (no k) = past (eqb x w)
        where
          past : (q : Bool) → pick q 0 (since_latest x w row) ≤ c
          past true = omega arith
          past false = omega (arith, since_below p x w row h.below (omega (arith, h.few_workers)))

  may_asked : (w : ℕ) → (may l w ≡ true) ↔ (asked l w ≤ b)
  unfolding may
  may_asked w = ((λ e. omega (arith, leb-true (asked l w) (get_or l 256 0) e, h.bound)), (λ i. le-leb (asked l w) (get_or l 256 0) (omega (arith, h.bound))))

  -- Exactness: of a row that keeps the rule, worker w may have the next turn exactly where the row with that turn keeps it too.
  pub may_exactly : Keeps b row → (w : ℕ) → w < 16 → (may l w ≡ true) ↔ Keeps b (row ++ w ∷ [])
  may_exactly k w i = (
    (λ e. (keeps_snoc b row w).1 (k, (asked_exactly w i b).0 ((may_asked w).0 e))),
    (λ m. (may_asked w).1 ((asked_exactly w i b).1 ((keeps_snoc b row w).0 m).1)),
  )

  -- the same, with the number that is answered
  pub number_exactly : Keeps b row → (w : ℕ) → (may_number l w ≡ 0) ↔ ((w < p) × Keeps b (row ++ w ∷ []))
  unfolding may_number
  number_exactly k w = ((λ e. from (dec_lt w p) (may l w) refl e), (λ m. back m.0 ((may_exactly k w (omega (arith, m.0, h.few_workers))).1 m.1)))
    where
      from : Dec (w < p) → (q : Bool) → may l w ≡ q → ◌≡◌ {A = ℕ} (pick (ltb w (get_or l 257 0)) (pick q 0 60) 30) 0 → (w < p) × Keeps b (row ++ w ∷ [])
      from (no i) q f e =
          let z : ◌≡◌ {A = ℕ} 30 0 = rw (h.workers, le-ltb w p (omega arith)) at e in
          absurd (omega arith)
      from (yes i) true f e = (i, (may_exactly k w (omega (arith, h.few_workers))).0 f)
      from (yes i) false f e =
          let z : ◌≡◌ {A = ℕ} 60 0 = rw (h.workers, lt-ltb w p i) at e in
          absurd (omega arith)

      back : w < p → may l w ≡ true → ◌≡◌ {A = ℕ} (pick (ltb w (get_or l 257 0)) (pick (may l w) 0 60) 30) 0
      back i f = rw (h.workers, lt-ltb w p i, f)

  -- who has had no turn since each other's latest may go on, and so may anybody who has had none at all
  pub waiting_may : (w : ℕ) → w < 16 → ((x : ℕ) → since_latest x w row ≤ 1) → may l w ≡ true
  unfolding Asks asked_of
  waiting_may w i none = (may_asked w).1 ((asked_exactly w i b).1 (λ x. go (eqb x w) (none x)))
    where
      go : {n : ℕ} (q : Bool) → n ≤ 1 → pick q 0 n ≤ b
      go true k = omega arith
      go false k = omega (arith, k, h.some_bound)

  pub new_may : (w : ℕ) → w < 16 → count_in w row ≡ 0 → may l w ≡ true
  new_may w i z = waiting_may w i (λ x. since_new x w row z)

  -- It never stops everybody.
  pub somebody_may : (w : ℕ) × ((w < p) × (may l w ≡ true))
  somebody_may =
      let o = never_stopped p b row h.some_worker h.some_bound h.below in
      (o.0, (o.1.0, (may_asked o.0).1 ((asked_exactly o.0 (omega (arith, o.1.0, h.few_workers)) b).1 o.1.1)))

  -- ---- a turn is counted

  module _ (u : ℕ) (i : u < p) (fits : asked l u < 2 ^ 32 - 1) where
    small : u < 16
    small = omega (arith, h.few_workers)

    -- of the row with the turn
    asked_of_self : (w : ℕ) (r : List ℕ) → asked_of w w r ≡ 0
    unfolding asked_of
    asked_of_self w r = rw (eq-eqb w w refl)

    asked_of_other : (x w : ℕ) → (x ≡ w → ⊥)
        → asked_of x w (row ++ u ∷ []) ≡ pick (eqb u x) 1 (pick (eqb (asked_of x w row) 0) 0 (asked_of x w row + pick (eqb u w) 1 0))
    unfolding asked_of
    asked_of_other x w d = rw (ne_eqb x w d) (since_snoc x w row u)

    at : (w x : ℕ) → w < 16 → x < 16 → get_or (took l u) (16 * w + x) 0 ≡ asked_of x w (row ++ u ∷ [])
    at w x a c = go (ℕ_discrete x w) (ℕ_discrete x u) (ℕ_discrete w u)
      where
        counts : (n : ℕ) → n < 2 ^ 32 - 1 → one_more n ≡ pick (eqb n 0) 0 (n + 1)
        counts zero k = refl
        counts (suc n) k = one_more_counts (suc n) (λ z. omega arith) (λ z. omega arith) ∙ rw (ne_eqb (suc n) 0 (λ z. omega arith))

        stays : (n : ℕ) → n ≡ pick (eqb n 0) 0 (n + 0)
        stays zero = refl
        stays (suc n) = rw (ne_eqb (suc n) 0 (λ z. omega arith)) (omega arith)

        go : Dec (x ≡ w) → Dec (x ≡ u) → Dec (w ≡ u) → get_or (took l u) (16 * w + x) 0 ≡ asked_of x w (row ++ u ∷ [])
        go (yes e) (yes f) g =
            let s : 16 * w + x ≡ 16 * u + u = omega arith in
            rw (s, e) (took_self l h.long u small ∙ sym (asked_of_self w (row ++ u ∷ [])))
        go (yes e) (no f) g =
            let n : w ≡ u → ⊥ = λ z. f (e ∙ z) in
            took_others l h.long u small w x a c f n ∙ h.counters w x a c ∙ rw e (asked_of_self w row ∙ sym (asked_of_self w (row ++ u ∷ [])))
        go (no d) (yes f) g =
            took_latest l h.long u small w x a c f (λ z. d (f ∙ sym z)) ∙ sym (asked_of_other x w d ∙ rw (eq-eqb u x (sym f)))
        go (no d) (no f) (yes g) =
            let lt : asked_of x w row < 2 ^ 32 - 1 = omega (arith, h.counters w x a c, most_each 16 (16 * w) l x c, asked_in l w a, ap (asked l) g) in
            took_counts l h.long u small w x a c f g ∙ ap (λ (v : ℕ). one_more v) (h.counters w x a c) ∙ counts (asked_of x w row) lt
            ∙ sym (asked_of_other x w d ∙ rw (ne_eqb u x (λ z. f (sym z)), eq-eqb u w (sym g)))
        go (no d) (no f) (no g) =
            took_others l h.long u small w x a c f g ∙ h.counters w x a c ∙ stays (asked_of x w row)
            ∙ sym (asked_of_other x w d ∙ rw (ne_eqb u x (λ z. f (sym z)), ne_eqb u w (λ z. g (sym z))))

    below_snoc : (w : ℕ) → Memᴰ w (row ++ u ∷ []) → w < p
    below_snoc w m = ⊎_elim (λ (n : Memᴰ w row). h.below w n) (λ (n : Memᴰ w (u ∷ [])). rw (Memᴰ.eq_of_singleton n) i) (Memᴰ.append_cases row m)

    max_exactly : (n m c : ℕ) → ((n ≤ c) × (m ≤ c)) ↔ (max n m ≤ c)
    max_exactly n m c = ((λ k. max-le k.0 k.1), (λ k. (omega (arith, le-max_left n m), omega (arith, le-max_right n m))))

    kept_snoc : (c : ℕ) → Keeps c (row ++ u ∷ []) ↔ (kept_in (took l u) ≤ c)
    kept_snoc c =
        let e : max (kept_in l) (asked l u) ≡ kept_in (took l u) = ap (max (kept_in l)) (asked_in l u small) ∙ sym (took_kept l h.long u small) in
        rw (← e) (Iff.trans (keeps_snoc c row u) (Iff.trans (Iff.and (h.kept c) (Iff.symm (asked_exactly u small c))) (max_exactly (kept_in l) (asked l u) c)))

    -- A pace that counts a turn stands for the row with it.
    pub took_stands : StandsFor (took l u) p b (row ++ u ∷ [])
    took_stands =
        record {
          long = took_long l h.long u small;
          bound = took_past_counters l h.long u small 256 (omega arith) (λ z. omega arith) (λ z. omega arith) ∙ h.bound;
          workers = took_past_counters l h.long u small 257 (omega arith) (λ z. omega arith) (λ z. omega arith) ∙ h.workers;
          some_worker = h.some_worker;
          few_workers = h.few_workers;
          some_bound = h.some_bound;
          small_bound = h.small_bound;
          below = below_snoc;
          counters = at;
          after = took_after l h.long u small ∙ (let e : u + 1 ≡ 1 + u = omega arith in e) ∙ sym (after_snoc row u);
          kept = kept_snoc;
        }

  -- so does one that lets it by
  pub may_stands : (u : ℕ) → u < p → may l u ≡ true → StandsFor (took l u) p b (row ++ u ∷ [])
  may_stands u i e = took_stands u i (omega (arith, (may_asked u).0 e, h.small_bound))

-- ---- a beginning

asked_nil : (x w : ℕ) → 0 ≡ asked_of x w []
unfolding asked_of since_latest
asked_nil x w = go (eqb x w)
  where
    go : (q : Bool) → ◌≡◌ {A = ℕ} 0 (pick q 0 0)
    go true = refl
    go false = refl

pub keeps_nil : (c : ℕ) → Keeps c []
unfolding Keeps
keeps_nil c [] stretch rest w v e z = no_way (cc)
keeps_nil c (u ∷ front) stretch rest w v e z = no_way (cc)

blank_at : (p b j : ℕ) → j < 256 → get_or (blank p b) j 0 ≡ 0
blank_at p b j i = get_or-set_other (set (replicate 260 0) 256 b) 257 j p 0 (λ e. omega arith) ∙ get_or-set_other (replicate 260 0) 256 j b 0 (λ e. omega arith) ∙ get_d_alike 260 j 0

pub start_stands : (p b : ℕ) (l : List ℕ) → (start_pace p b l).number ≡ 0 → StandsFor (start_pace p b l).pace p b []
start_stands p b l e = go (dec_lt 0 p) (dec_lt 16 p) (dec_lt 0 b) (dec_lt 65535 b)
  where
    go : Dec (0 < p) → Dec (16 < p) → Dec (0 < b) → Dec (65535 < b) → StandsFor (start_pace p b l).pace p b []
    go (no i) j k m = absurd (omega (arith, ap (λ (x : Paced). x.number) (start_20 p b l (inl (omega arith)))))
    go (yes i) (yes j) k m = absurd (omega (arith, ap (λ (x : Paced). x.number) (start_20 p b l (inr j))))
    go (yes i) (no j) (no k) m = absurd (omega (arith, ap (λ (x : Paced). x.number) (start_41 p b l (λ z. omega arith) (omega arith) (inl (omega arith)))))
    go (yes i) (no j) (yes k) (yes m) = absurd (omega (arith, ap (λ (x : Paced). x.number) (start_41 p b l (λ z. omega arith) (omega arith) (inr m))))
    go (yes i) (no j) (yes k) (no m) = rw (start_0 p b l (λ z. omega arith) (omega arith) (λ z. omega arith) (omega arith)) (
        record {
          long = simp length-set;
          bound = refl;
          workers = refl;
          some_worker = omega arith;
          few_workers = omega arith;
          some_bound = omega arith;
          small_bound = omega arith;
          below = λ w n. absurd (Memᴰ.not-nil n);
          counters = λ w x a c. blank_at p b (16 * w + x) (omega arith) ∙ asked_nil x w;
          after = after_nil;
          kept = λ c. ((λ n. omega arith), (λ n. keeps_nil c));
        }
        )
