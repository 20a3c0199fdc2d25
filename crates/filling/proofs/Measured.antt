-- What is found before anything is built, and what then is known: the cases of `filling_of` and of `filled_into`.
use Rattle.std.specs.Prelude.{Err, Ok, Result, ⊤}
use Prim.Native.Nat.{ℕ, suc, ◌+◌, ◌*◌, ◌≤◌, ◌<◌}
use native.Mathlib.Nat.{zero-add}
use native.Mathlib.Omega.{arith}
use mathlib.Core.Path.{◌≡◌, refl, sym, ap, ◌∙◌}
use mathlib.Core.List.{List, [], ◌∷◌, ◌++◌, flatten}
use mathlib.Core.Bool.{Bool, true, false, ◌&&◌}
use lib.ListN.{length, drop, length-append}
use lib.Dec.{ltb, leb}
use borrow.Author.Tests.{ltb-false, le-leb, lt-leb}
use Rattle.table.specs.Sum.{pick, sum_to, any_below}
use Rattle.table.specs.Format.{Table, table_of, u24_at}
use Rattle.table.specs.Checks.{outside, passes}
use Rattle.table.specs.Pass.{or_else, refusal, try_at, try_from, try_pass, first_found}
use Rattle.table.specs.Rules.{Rules}
use Rattle.table.specs.Written.{table_rows, written}
use Rattle.table.specs.declared.Refusal.{Refusal}
use Rattle.table.proofs.Tests.{no_way, or_neither, and_both}
use Rattle.table.proofs.Trying.{or_else_last}
use Rattle.table.proofs.Passes.{first_found_append, passes_rules}
use Rattle.table.proofs.Nesting.{any_below_true}
use Rattle.table.proofs.Sums.{sum_to_zero, sum_to_part}
use Rattle.order.specs.Words.{is_nothing}
use Rattle.order.proofs.Lawful.{Lawful, lawful}
use Rattle.text.specs.Text.{Buffer, buffer_at, placed}
use Rattle.text.specs.Puts.{put_all, Puts}
use Rattle.text.proofs.Putting.{puts_whole}
use Rattle.text.proofs.Placing.{placed_fits}
use Rattle.filling.specs.declared.Total.{Total}
use Rattle.filling.specs.Filled.{big, new_threads, filled_bodies, filled_out, threads_to, actions_to, fill_pass}
use Rattle.filling.specs.Filling.{total_as, quota_pass, fill_found, fills_out, filling_of, filled_into, answer_as, found_in, bytes_in, answer_of, whole_into, answer_to, answered_in}
use Rattle.filling.specs.Code.Steps.{Ready}
use Rattle.filling.proofs.Trees.{dummies_two, new_threads_lem}
use Rattle.filling.proofs.FilledTable.{Fits, room_exactly, any_false, none_new, fill_size, room_enough}

pub total_full : (T : Table) (K : ℕ) (f : Result ⊤ Refusal) {x : Refusal} → Err x ≡ total_as T K f → f ≡ Err x
total_full T K (Ok _) e = no_way (cc)
total_full T K (Err y) {x} e = let q : x ≡ y = cc in rw q

-- where nothing is found, the counts are these
pub total_silent : (T : Table) (K : ℕ) (f : Result ⊤ Refusal) {t : Total} → Ok t ≡ total_as T K f
    → (f ≡ Ok tt) × ((t.threads ≡ threads_to T K T.actions) × (t.actions ≡ actions_to T K T.actions))
total_silent T K (Ok _) {t} e =
    let q : t ≡ record { threads = threads_to T K T.actions; actions = actions_to T K T.actions } = cc in
    rw q (refl, (refl, refl))
total_silent T K (Err x) e = no_way (cc)

module _ (s : List ℕ) (K : ℕ) where
  abbrev T : Table
  T = table_of s

  found_is : fill_found s K ≡ or_else (first_found (passes s)) (or_else (try_pass (quota_pass K)) (or_else (try_pass (fill_pass T K)) (Ok tt)))
  unfolding first_found
  found_is = first_found_append (passes s) (quota_pass K ∷ fill_pass T K ∷ [])

  quota_is : try_pass (quota_pass K) ≡ pick (outside 1 16777215 K) (Err (refusal 21 0)) (Ok tt)
  unfolding try_pass try_from try_at
  quota_is = go (outside 1 16777215 K)
    where
      go : (b : Bool) → or_else (pick b (Err (refusal 21 0)) (Ok tt)) (Ok tt) ≡ pick b (Err (refusal 21 0)) (Ok tt)
      go true = refl
      go false = refl

  -- by a check of the table
  pub refused_table : (x : Refusal) → first_found (passes s) ≡ Err x → fill_found s K ≡ Err x
  refused_table x h = found_is ∙ rw h

  -- by 21
  pub refused_quota : first_found (passes s) ≡ Ok tt → outside 1 16777215 K ≡ true → fill_found s K ≡ Err (refusal 21 0)
  refused_quota p o = found_is ∙ rw (p, quota_is, o)

  module _ (p : first_found (passes s) ≡ Ok tt) (o : outside 1 16777215 K ≡ false) where
    pub found_fill : fill_found s K ≡ try_pass (fill_pass T K)
    found_fill = found_is ∙ rw (p, quota_is, o, or_else_last (try_pass (fill_pass T K)))

    ready : try_pass (fill_pass T K) ≡ Ok tt → (n : ℕ) → n ≡ T.threads → Ready s n K
    ready silent n h =
        let r : Rules s = (passes_rules s).0 p in
        let l : Lawful T = lawful s r in
        let fits : Fits T K = (room_exactly T K l.few_threads l.few_actions).0 silent in
        let (low, high) = or_neither (ltb K 1) (ltb 16777215 K) o in
        record {
          rules = r;
          threads = h;
          some = ltb-false K 1 low;
          few = omega (arith, ltb-false 16777215 K high);
          few_threads = fits.threads;
          few_actions = fits.actions;
        }

-- where nothing is found
pub found_ready : (s : List ℕ) (K : ℕ) → fill_found s K ≡ Ok tt → (n : ℕ) → n ≡ (table_of s).threads → Ready s n K
found_ready s K z n h = go (first_found (passes s)) refl (outside 1 16777215 K) refl (try_pass (fill_pass (table_of s) K)) refl
  where
    go : (f : Result ⊤ Refusal) → first_found (passes s) ≡ f → (b : Bool) → outside 1 16777215 K ≡ b → (g : Result ⊤ Refusal) → try_pass (fill_pass (table_of s) K) ≡ g → Ready s n K
    go (Err x) p b o g q = let y : fill_found s K ≡ Err x = found_is s K ∙ rw p in no_way (cc)
    go (Ok _) p true o g q = let y : fill_found s K ≡ Err (refusal 21 0) = found_is s K ∙ rw (p, quota_is s K, o) in no_way (cc)
    go (Ok _) p false o (Err x) q = let y : fill_found s K ≡ Err x = found_fill s K p o ∙ q in no_way (cc)
    go (Ok _) p false o (Ok _) q = ready s K p o q n h

-- ---- how many bytes

pub total_refused : (s : List ℕ) (K : ℕ) {x : Refusal} → Err x ≡ total_as (table_of s) K (fill_found s K) → Err x ≡ filling_of s K
unfolding filling_of
total_refused s K e = rw (total_full (table_of s) K (fill_found s K) e)

module _ (s : List ℕ) (K : ℕ) {t : Total} (e : Ok t ≡ total_as (table_of s) K (fill_found s K)) where
  pub silent : fill_found s K ≡ Ok tt
  silent = (total_silent (table_of s) K (fill_found s K) e).0

  pub total_is : (t.threads ≡ threads_to (table_of s) K (table_of s).actions) × (t.actions ≡ actions_to (table_of s) K (table_of s).actions)
  total_is = (total_silent (table_of s) K (fill_found s K) e).1

  pub is_ready : (n : ℕ) → n ≡ (table_of s).threads → Ready s n K
  is_ready = found_ready s K silent

  pub total_few : (t.threads ≤ 1024) × (t.actions ≤ 8192)
  total_few =
      let r : Ready s (table_of s).threads K = is_ready (table_of s).threads refl in
      (omega (arith, total_is.0, r.few_threads), omega (arith, total_is.1, r.few_actions))

  any : Bool
  any = any_below (big (table_of s) K) (table_of s).actions

  -- nothing is big
  none_big : t.threads ≡ (table_of s).threads → any ≡ false
  unfolding sum_to any
  none_big h = go any refl
    where
      go : (b : Bool) → any ≡ b → b ≡ false
      go true w =
          let (a, i, j) = any_below_true (big (table_of s) K) (table_of s).actions w in
          let some : 1 ≤ K = (is_ready (table_of s).threads refl).some in
          absurd (omega (arith, h, total_is.0, new_threads_lem (table_of s) K some a j, dummies_two (table_of s) K some a j, sum_to_part (new_threads (table_of s) K) (suc a) (table_of s).actions i))
      go false w = refl

  some_big : (t.threads ≡ (table_of s).threads → ⊥) → any ≡ true
  unfolding any
  some_big h = go any refl
    where
      go : (b : Bool) → any ≡ b → b ≡ true
      go true w = refl
      go false w = absurd (h (total_is.0 ∙ omega (arith, sum_to_zero (new_threads (table_of s) K) (table_of s).actions (λ a i. (none_new (table_of s) K a (any_false (big (table_of s) K) (table_of s).actions w a i)).0))))

  pub in_place_filling : t.threads ≡ (table_of s).threads → Ok 0 ≡ filling_of s K
  unfolding filling_of any
  in_place_filling h = rw (silent, none_big h)

  pub whole_filling : (t.threads ≡ (table_of s).threads → ⊥) → Ok (4 + 4 * t.threads + 4 * t.actions) ≡ filling_of s K
  unfolding filling_of any
  whole_filling h =
      let r : Ready s (table_of s).threads K = is_ready (table_of s).threads refl in
      rw (silent, some_big h, total_is.0, total_is.1, fill_size s K r.rules r.some)

-- ---- the buffer

module _ (s : List ℕ) (K : ℕ) (out : List ℕ) (r : Result ℕ Refusal) (e : r ≡ filling_of s K) where
  bytes_as : (f : Result ⊤ Refusal) → bytes_in (answer_as f (pick (is_nothing f && any_below (big (table_of s) K) (table_of s).actions) (length (filled_out s K)) 0))
      ≡ pick (is_nothing f && any_below (big (table_of s) K) (table_of s).actions) (length (filled_out s K)) 0
  bytes_as (Ok _) = refl
  bytes_as (Err x) = refl

  bytes_is : bytes_in r ≡ pick (fills_out s K) (length (filled_out s K)) 0
  unfolding filling_of
  bytes_is = rw e (bytes_as (fill_found s K))

  known : fills_out s K ≡ true → (fill_found s K ≡ Ok tt) × (any_below (big (table_of s) K) (table_of s).actions ≡ true)
  known w =
      let (i, j) = and_both (is_nothing (fill_found s K)) (any_below (big (table_of s) K) (table_of s).actions) w in
      (nothing (fill_found s K) i, j)
    where
      nothing : (f : Result ⊤ Refusal) → is_nothing f ≡ true → f ≡ Ok tt
      nothing (Ok _) q = refl
      nothing (Err x) q = no_way (cc)

  pub untouched : bytes_in r ≡ 0 → out ≡ filled_into s K out
  unfolding filled_into
  untouched z = go (fills_out s K) refl
    where
      go : (b : Bool) → fills_out s K ≡ b → out ≡ pick (b && leb (length (filled_out s K)) (length out)) (filled_out s K ++ drop (length (filled_out s K)) out) out
      go true w =
          let y : Ready s (table_of s).threads K = found_ready s K (known w).0 (table_of s).threads refl in
          let v : bytes_in r ≡ length (filled_out s K) = rw w at bytes_is in
          absurd (omega (arith, fill_size s K y.rules y.some))
      go false w = refl

  fills : (bytes_in r ≡ 0 → ⊥) → fills_out s K ≡ true
  fills h = go (fills_out s K) refl
    where
      go : (b : Bool) → fills_out s K ≡ b → b ≡ true
      go true w = refl
      go false w = absurd (h (rw w at bytes_is))

  module _ (h : bytes_in r ≡ 0 → ⊥) where
    pub build_ready : (n : ℕ) → n ≡ (table_of s).threads → Ready s n K
    build_ready = found_ready s K (known (fills h)).0

    size_is : bytes_in r ≡ length (filled_out s K)
    size_is = rw (fills h) at bytes_is

    pub too_little : length out < bytes_in r → out ≡ filled_into s K out
    unfolding filled_into
    too_little i = rw (fills h, lt-leb (length (filled_out s K)) (length out) (omega (arith, size_is)))

    pub built : (o : List ℕ) (j : ℕ) → bytes_in r ≤ length out → buffer_at o j ≡ put_all (buffer_at out 0) (table_rows (filled_bodies (table_of s) K)) → o ≡ filled_into s K out
    unfolding filled_into filled_out written
    built o j i p =
        let w : filled_out s K ≡ flatten (table_rows (filled_bodies (table_of s) K)) = rw (known (fills h)).1 in
        let u : Puts out 0 o j (table_rows (filled_bodies (table_of s) K)) (length (filled_out s K)) = record { put = p; short = rw w (omega arith) } in
        let (n, q) = puts_whole (omega (arith, size_is)) u in
        rw (fills h, le-leb (length (filled_out s K)) (length out) (omega (arith, size_is)), w) (rw n at q)

-- ---- the whole table in a buffer of 36,868 bytes, in place or filled out

module _ (s : List ℕ) (K : ℕ) (out o : List ℕ) (room : length out ≡ 36868) (r : Result ℕ Refusal) (e : r ≡ filling_of s K) (p : o ≡ filled_into s K out) where
  found_of_filling : found_in r ≡ fill_found s K
  unfolding filling_of
  found_of_filling = rw e (go (fill_found s K) _)
    where
      go : (f : Result ⊤ Refusal) (k : ℕ) → found_in (answer_as f k) ≡ f
      go (Ok _) k = refl
      go (Err x) k = refl

  pub whole_refused : (f : Result ⊤ Refusal) (x : Refusal) → f ≡ found_in r → f ≡ Err x → (Err x ≡ answer_of s K) × (o ≡ whole_into s K out)
  unfolding filled_into
  whole_refused f x d q =
      let z : fill_found s K ≡ Err x = sym found_of_filling ∙ sym d ∙ q in
      (rw z, p ∙ rw z)

  module _ (f : Result ⊤ Refusal) (d : f ≡ found_in r) (q : f ≡ Ok tt) where
    nothing : fill_found s K ≡ Ok tt
    nothing = sym found_of_filling ∙ sym d ∙ q

    y : Ready s (table_of s).threads K
    y = found_ready s K nothing (table_of s).threads refl

    fits : length (filled_out s K) ≤ 36868
    fits = room_enough s K y.rules y.some (record { threads = y.few_threads; actions = y.few_actions })

    pub whole_filled : (bytes_in r ≡ 0 → ⊥) → (Ok (bytes_in r) ≡ answer_of s K) × (o ≡ whole_into s K out)
    unfolding filled_into
    whole_filled h =
        let w : fills_out s K ≡ true = fills s K out r e h in
        let z : bytes_in r ≡ length (filled_out s K) = size_is s K out r e h in
        (rw (nothing, z), p ∙ rw (w, nothing, le-leb (length (filled_out s K)) (length out) (omega (arith, fits))))

    none : bytes_in r ≡ 0 → fills_out s K ≡ false
    none h = go (fills_out s K) refl
      where
        go : (b : Bool) → fills_out s K ≡ b → b ≡ false
        go true w =
            let v : bytes_in r ≡ length (filled_out s K) = rw w at (bytes_is s K out r e) in
            absurd (omega (arith, fill_size s K y.rules y.some))
        go false w = refl

    -- the table as given
    pub whole_in_place : bytes_in r ≡ 0 → (o' : List ℕ) (j : ℕ) → buffer_at o' j ≡ placed o 0 s → (Ok j ≡ answer_of s K) × (o' ≡ whole_into s K out)
    unfolding filled_into filled_out
    whole_in_place h o' j u =
        let w : fills_out s K ≡ false = none h in
        let g : any_below (big (table_of s) K) (table_of s).actions ≡ false = rw nothing at w in
        let same : filled_out s K ≡ s = rw g in
        let k : length s ≤ 36868 = rw same at fits in
        let z : o ≡ out = p ∙ rw w in
        let v : buffer_at o' j ≡ placed out 0 s = rw z at u in
        let b : buffer_at o' j ≡ buffer_at (s ++ drop (length s) out) (length s) = v ∙ placed_fits out 0 s (omega (arith, room)) ∙ simp zero-add in
        (rw (nothing, g) (ap (λ (x : Buffer). Ok x.next) b), rw (nothing, g) (ap (λ (x : Buffer). x.bytes) b))

-- what the program writes lies within its buffer
pub answer_within : (input out o : List ℕ) (r : Result ℕ Refusal) (k : ℕ) → r ≡ answer_to input → r ≡ Ok k → o ≡ answered_in input out → k ≤ length o
unfolding answer_to answered_in
answer_within input out o r k d e w = rw w (go (ltb (length input) 3) (fill_found s K) refl refl)
  where
    s : List ℕ
    s = drop 3 input

    K : ℕ
    K = u24_at input 0

    go : (b : Bool) (f : Result ⊤ Refusal) → ltb (length input) 3 ≡ b → fill_found s K ≡ f → k ≤ length (answered_in input out)
    go true f p q = let y : answer_to input ≡ Err (refusal 33 0) = rw p in no_way (cc)
    go false (Err x) p q = let y : answer_to input ≡ Err x = rw (p, q) in no_way (cc)
    go false (Ok _) p q =
        let y : answer_to input ≡ Ok (length (filled_out s K)) = rw (p, q) in
        let z : Ok (length (filled_out s K)) ≡ Ok k = sym y ∙ sym d ∙ e in
        let u : length (filled_out s K) ≡ k = cc in
        rw (p, q) (omega (arith, u, length-append (filled_out s K) (drop (length (filled_out s K)) out)))
