-- A beginning: what its checks find and how many bytes the filled-out table has, and what is then in the lent buffer.
use Rattle.std.specs.Prelude.{Err, Ok, Result, ⊤}
use mathlib.Core.Path.{◌≡◌, refl, sym, ap, ◌∙◌}
use Prim.Native.Nat.{ℕ, ◌≤◌, ◌<◌}
use native.Mathlib.Omega.{arith}
use mathlib.Core.List.{List, [], ◌∷◌, ◌++◌}
use mathlib.Core.Bool.{Bool, true, false, ◌&&◌}
use lib.Dec.{leb}
use lib.ListN.{length, take, drop, replicate, length-append}
use lib.Seq.{take-append_seam}
use borrow.Author.Tests.{le-ltb, le-leb, lt-leb}
use Rattle.table.specs.Sum.{pick, any_below}
use Rattle.table.specs.Format.{threads_of, actions_of, table_of}
use Rattle.table.specs.Pass.{refusal, or_else, try_at, try_from, try_pass, first_found}
use Rattle.table.specs.Checks.{outside, passes}
use Rattle.table.specs.Rules.{Rules}
use Rattle.table.specs.declared.Refusal.{Refusal}
use Rattle.table.proofs.Tests.{no_way}
use Rattle.table.proofs.Passes.{first_found_append}
use Rattle.table.proofs.Sizes.{Sizes, sizes}
use Rattle.order.specs.Words.{is_nothing}
use Rattle.filling.specs.Filled.{big, filled_out, fill_pass}
use Rattle.filling.specs.Filling.{answer_as, quota_pass, fill_found, filling_of, filled_into}
use Rattle.filling.proofs.Runs.{Runs}
use Rattle.schedule.specs.Begin.{begin_passes}
use Rattle.schedule.proofs.Stores.{Fits}
use Rattle.schedule.proofs.Beginnings.{silent_runs}
use Rattle.soundness.specs.Tested.{Filling, parents_if, next_if, begin_found, begin_filling, begin_answer, begins, begun_into}

-- ---- what is found

module _ (s : List ℕ) (p K : ℕ) where
  found_is : begin_found s p K ≡ or_else (first_found (passes s)) (or_else (pick (outside 1 16 p) (Err (refusal 20 0)) (pick (outside 1 16777215 K) (Err (refusal 21 0)) (Ok tt))) (first_found (fill_pass (table_of s) K ∷ [])))
  unfolding first_found try_pass try_from try_at
  found_is = first_found_append (passes s) (begin_passes (table_of s) p K) ∙ ap (λ (f : Result ⊤ Refusal). or_else (first_found (passes s)) (or_else f (first_found (fill_pass (table_of s) K ∷ [])))) (go (outside 1 16 p) (outside 1 16777215 K))
    where
      go : (b c : Bool) → or_else (pick b (Err (refusal 20 0)) (pick c (Err (refusal 21 0)) (Ok tt))) (Ok tt) ≡ pick b (Err (refusal 20 0)) (pick c (Err (refusal 21 0)) (Ok tt))
      go true c = refl
      go false true = refl
      go false false = refl

  -- with p in its range, what the filling finds
  found_filling : outside 1 16 p ≡ false → begin_found s p K ≡ fill_found s K
  unfolding first_found try_pass try_from try_at
  found_filling h = found_is ∙ rw h (sym (first_found_append (passes s) (quota_pass K ∷ fill_pass (table_of s) K ∷ []) ∙ ap (λ (f : Result ⊤ Refusal). or_else (first_found (passes s)) (or_else f (first_found (fill_pass (table_of s) K ∷ [])))) (go (outside 1 16777215 K))))
    where
      go : (c : Bool) → or_else (pick c (Err (refusal 21 0)) (Ok tt)) (Ok tt) ≡ pick c (Err (refusal 21 0)) (Ok tt)
      go true = refl
      go false = refl

  pub measured : outside 1 16 p ≡ false → filling_of s K ≡ begin_answer s p K
  unfolding filling_of begin_filling
  measured h = rw (found_filling h) (same (fill_found s K))
    where
      same : (f : Result ⊤ Refusal) → answer_as f (pick (is_nothing f && any_below (big (table_of s) K) (table_of s).actions) (length (filled_out s K)) 0)
          ≡ answer_as f (pick (is_nothing f && any_below (big (table_of s) K) (table_of s).actions) (length (filled_out s K)) 0)
      same f = refl

  refused : (x : Refusal) → begin_found s p K ≡ Err x → Err x ≡ begin_answer s p K
  unfolding begin_filling
  refused x h = rw h

  -- by a check of the table
  pub refused_table : (x : Refusal) → first_found (passes s) ≡ Err x → Err x ≡ begin_answer s p K
  refused_table x h = refused x (found_is ∙ rw h)

  -- by 20
  pub refused_workers : first_found (passes s) ≡ Ok tt → outside 1 16 p ≡ true → Err (refusal 20 0) ≡ begin_answer s p K
  refused_workers n o = refused (refusal 20 0) (found_is ∙ rw (n, o))

  -- what the answer says of the checks and of the bytes
  pub answer_refused : {x : Refusal} → Err x ≡ begin_answer s p K → (begin_filling s p K).found ≡ Err x
  answer_refused {x} e = go (begin_filling s p K).found e
    where
      go : (f : Result ⊤ Refusal) → Err x ≡ answer_as f (begin_filling s p K).bytes → f ≡ Err x
      go (Ok _) d = no_way (cc)
      go (Err y) d = let q : x ≡ y = cc in rw q

  abbrev pub accepted_with : ℕ → Filling
  accepted_with k = record { found = Ok tt; bytes = k }

  pub answer_accepted : {k : ℕ} → Ok k ≡ begin_answer s p K → accepted_with k ≡ begin_filling s p K
  answer_accepted {k} e = go (begin_filling s p K).found refl e
    where
      go : (f : Result ⊤ Refusal) → (begin_filling s p K).found ≡ f → Ok k ≡ answer_as f (begin_filling s p K).bytes → accepted_with k ≡ begin_filling s p K
      go (Ok _) g d = let q : k ≡ (begin_filling s p K).bytes = cc in rw (q, g)
      go (Err y) g d = no_way (cc)

-- ---- what is filled in

-- what is promised of the buffer and the two arrays
abbrev pub Fills : List ℕ → ℕ → ℕ → List ℕ → List ℕ → List ℕ → List ℕ → Type 0
Fills s p K out buffer next parents =
    (buffer ≡ begun_into s p K out)
    × ((next ≡ next_if (begins s p K (length out)) (table_of (filled_out s K))) × (parents ≡ parents_if (begins s p K (length out)) (table_of (filled_out s K))))

module _ (s : List ℕ) (p K : ℕ) (out : List ℕ) where
  -- a check applies
  pub fills_nothing : (r : Filling) → r ≡ begin_filling s p K → (x : Refusal) → r.found ≡ Err x → Fills s p K out out (replicate 1024 0) (replicate 1024 0)
  unfolding begin_filling
  fills_nothing r e x d =
      let h : begin_found s p K ≡ Err x = sym (ap (λ (y : Filling). y.found) e) ∙ d in
      rw h (refl, (refl, refl))

  module _ (r : Filling) (e : r ≡ begin_filling s p K) (d : r.found ≡ Ok tt) where
    silent : begin_found s p K ≡ Ok tt
    unfolding begin_filling
    silent = sym (ap (λ (y : Filling). y.found) e) ∙ d

    pub runs : Runs s K
    runs = (silent_runs s p K silent).2

    pub given_rules : Rules s
    given_rules = (silent_runs s p K silent).0

    pub sized : (1 ≤ length (filled_out s K)) × (length (filled_out s K) ≤ 36868)
    sized =
        let z : Sizes (filled_out s K) (threads_of (filled_out s K)) (actions_of (filled_out s K)) = sizes (record { head = runs.rules.head; threads = refl; actions = refl }) in
        (omega (arith, z), omega (arith, z))

    found_fill : fill_found s K ≡ Ok tt
    found_fill =
        let f : Fits p K = (silent_runs s p K silent).1 in
        sym (found_filling s p K (rw (le-ltb p 1 f.some_worker, le-ltb 16 p f.few_workers))) ∙ silent

    any : Bool
    any = any_below (big (table_of s) K) (table_of s).actions

    bytes_is : (begin_filling s p K).bytes ≡ pick any (length (filled_out s K)) 0
    unfolding begin_filling any
    bytes_is = rw silent

    into_is : filled_into s K out ≡ pick (any && leb (length (filled_out s K)) (length out)) (filled_out s K ++ drop (length (filled_out s K)) out) out
    unfolding filled_into any
    into_is = rw found_fill

    module _ (z : r.bytes ≡ 0) where
      none : any ≡ false
      none = go any refl
        where
          go : (b : Bool) → any ≡ b → b ≡ false
          go true w = absurd (omega (arith, z, ap (λ (y : Filling). y.bytes) e, bytes_is ∙ ap (λ (b : Bool). pick b (length (filled_out s K)) 0) w, sized.0))
          go false w = refl

      -- nothing is above K: the table as given runs
      pub given_runs : filled_out s K ≡ s
      unfolding filled_out any
      given_runs = rw none

      pub fills_given : (next parents : List ℕ) → next ≡ next_if true (table_of s) → parents ≡ parents_if true (table_of s) → Fills s p K out out next parents
      fills_given next parents n q =
          let b : begins s p K (length out) ≡ true = rw (silent, bytes_is, none, le-leb 0 (length out) (omega arith)) in
          (rw (silent, into_is, none), (rw (b, given_runs) n, rw (b, given_runs) q))

    module _ (z : r.bytes ≡ 0 → ⊥) where
      some : any ≡ true
      some = go any refl
        where
          go : (b : Bool) → any ≡ b → b ≡ true
          go true w = refl
          go false w = absurd (z (ap (λ (y : Filling). y.bytes) e ∙ bytes_is ∙ ap (λ (b : Bool). pick b (length (filled_out s K)) 0) w))

      pub size_is : r.bytes ≡ length (filled_out s K)
      size_is = ap (λ (y : Filling). y.bytes) e ∙ bytes_is ∙ rw some

      begins_is : begins s p K (length out) ≡ leb (length (filled_out s K)) (length out)
      begins_is = rw (silent, bytes_is, some)

      -- too little room
      pub fills_none : length out < r.bytes → Fills s p K out out (replicate 1024 0) (replicate 1024 0)
      fills_none h =
          let l : leb (length (filled_out s K)) (length out) ≡ false = lt-leb (length (filled_out s K)) (length out) (omega (arith, size_is)) in
          let b : begins s p K (length out) ≡ false = begins_is ∙ l in
          (rw (silent, into_is, some, l), (rw b, rw b))

      module _ (h : r.bytes ≤ length out) where
        enough : leb (length (filled_out s K)) (length out) ≡ true
        enough = le-leb (length (filled_out s K)) (length out) (omega (arith, size_is))

        whole : filled_into s K out ≡ filled_out s K ++ drop (length (filled_out s K)) out
        whole = into_is ∙ rw (some, enough)

        -- the filled-out table stands at the start of the buffer
        pub front_is_lem : (buffer : List ℕ) → buffer ≡ filled_into s K out → take r.bytes buffer ≡ filled_out s K
        front_is_lem buffer b = rw (b, whole, size_is) (take-append_seam (filled_out s K) (drop (length (filled_out s K)) out))

        pub front_within : (buffer : List ℕ) → buffer ≡ filled_into s K out → r.bytes ≤ length buffer
        front_within buffer b = rw (b, whole, length-append (filled_out s K) (drop (length (filled_out s K)) out)) (omega (arith, size_is))

        pub fills_whole : (buffer next parents : List ℕ) → buffer ≡ filled_into s K out → next ≡ next_if true (table_of (filled_out s K)) → parents ≡ parents_if true (table_of (filled_out s K)) → Fills s p K out buffer next parents
        fills_whole buffer next parents b n q =
            let l : begins s p K (length out) ≡ true = begins_is ∙ enough in
            (rw silent b, (rw l n, rw l q))
