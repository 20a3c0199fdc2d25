-- What is written is read back.
use Prim.Native.Nat.{ℕ, zero, suc, ◌+◌, ◌*◌, ◌/◌, ◌%◌, ◌≤◌, ◌<◌}
use native.Mathlib.Nat.{mod-lt}
use native.Mathlib.Omega.{arith}
use mathlib.Core.Path.{◌≡◌, refl, ap, ◌∙◌}
use mathlib.Core.List.{List, [], ◌∷◌, ◌++◌, flatten}
use lib.ListN.{length, get_or, take, drop, length-append, get_or-append}
use lib.Seq.{get_or-append-add, get_or-drop}
use Rattle.table.specs.Format.{Table, table_of, bodies_of, u16_at, u24_at, is, kind}
use Rattle.table.specs.declared.kinds.Kind.TheVariants.{Alloc as alloc, Free as free}
use Rattle.table.specs.Checks.{alloc_of, free_of}
use Rattle.table.proofs.Tests.{pick_most}
use Rattle.table.specs.Written.{Action, pair_row, action_row, entry_rows, action_rows, table_rows, written}

-- ---- rows of four

abbrev pub Fours : List (List ℕ) → Type 0
Fours [] = Unit {0}
Fours (r ∷ rs) = (length r ≡ 4) × Fours rs

fours_append : (rs us : List (List ℕ)) → Fours rs → Fours us → Fours (rs ++ us)
fours_append [] us p q = q
fours_append (r ∷ rs) us p q = (p.0, fours_append rs us p.1 q)

row_at : (rs : List (List ℕ)) → Fours rs → (i j : ℕ) → i < length rs → j < 4 → get_or (flatten rs) (4 * i + j) 0 ≡ get_or (get_or rs i []) j 0
unfolding flatten
row_at [] p i j h k = absurd (omega arith)
row_at (r ∷ rs) p zero j h k = let z : 4 * 0 + j ≡ j = omega arith in rw z (get_or-append r (flatten rs) 0 j (omega (arith, p.0)))
row_at (r ∷ rs) p (suc i) j h k =
    let e : 4 * suc i + j ≡ length r + (4 * i + j) = omega (arith, p.0) in
    rw (e, get_or-append-add r (flatten rs) (4 * i + j) 0) (row_at rs p.1 i j (omega arith) k)

fours_length : (rs : List (List ℕ)) → Fours rs → length (flatten rs) ≡ 4 * length rs
unfolding flatten
fours_length [] p = refl
fours_length (r ∷ rs) p = omega (arith, length-append r (flatten rs), p.0, fours_length rs p.1)

entry_fours : (k : ℕ) (bs : List (List Action)) → Fours (entry_rows k bs)
unfolding entry_rows
entry_fours k [] = tt
entry_fours k (b ∷ bs) = (refl, entry_fours (k + length b) bs)

action_fours : (l : List Action) → Fours (action_rows l)
unfolding action_rows
action_fours [] = tt
action_fours (a ∷ l) = (refl, action_fours l)

entry_length : (k : ℕ) (bs : List (List Action)) → length (entry_rows k bs) ≡ length bs
unfolding entry_rows
entry_length k [] = refl
entry_length k (b ∷ bs) = ap suc (entry_length (k + length b) bs)

action_length : (l : List Action) → length (action_rows l) ≡ length l
unfolding action_rows
action_length [] = refl
action_length (a ∷ l) = ap suc (action_length l)

entry_at : (bs : List (List Action)) (k t : ℕ) → t < length bs
    → get_or (entry_rows k bs) t [] ≡ pair_row (k + length (flatten (take t bs))) (length (get_or bs t []))
unfolding entry_rows flatten
entry_at [] k t h = absurd (omega arith)
entry_at (b ∷ bs) k zero h = let z : k + 0 ≡ k = omega arith in rw z
entry_at (b ∷ bs) k (suc t) h =
    let z : k + length (b ++ flatten (take t bs)) ≡ k + length b + length (flatten (take t bs)) = omega (arith, length-append b (flatten (take t bs))) in
    rw z (entry_at bs (k + length b) t (omega arith))

abbrev pub none : Action
none = record { code = 0; argument = 0 }

action_at_lem : (l : List Action) (a : ℕ) → a < length l → get_or (action_rows l) a [] ≡ action_row (get_or l a none)
unfolding action_rows
action_at_lem [] a h = absurd (omega arith)
action_at_lem (x ∷ l) zero h = refl
action_at_lem (x ∷ l) (suc a) h = action_at_lem l a (omega arith)

-- thread t's action i in the bodies put together
pub body_at : (bs : List (List Action)) (t i : ℕ) → t < length bs → i < length (get_or bs t [])
    → get_or (flatten bs) (length (flatten (take t bs)) + i) none ≡ get_or (get_or bs t []) i none
unfolding flatten
body_at [] t i h k = absurd (omega arith)
body_at (b ∷ bs) zero i h k = let z : 0 + i ≡ i = omega arith in rw z (get_or-append b (flatten bs) none i k)
body_at (b ∷ bs) (suc t) i h k =
    let z : length (b ++ flatten (take t bs)) + i ≡ length b + (length (flatten (take t bs)) + i) = omega (arith, length-append b (flatten (take t bs))) in
    rw (z, get_or-append-add b (flatten bs) (length (flatten (take t bs)) + i) none) (body_at bs t i (omega arith) k)

-- ---- the table

pub record Reads (T : Table) (bs : List (List Action)) : Type 0 where
  pub threads : T.threads ≡ length bs
  pub actions : T.actions ≡ length (flatten bs)
  pub firsts : (t : ℕ) → t < length bs → T.first t ≡ length (flatten (take t bs))
  pub counts : (t : ℕ) → t < length bs → T.count t ≡ length (get_or bs t [])
  pub codes : (a : ℕ) → a < length (flatten bs) → T.code a ≡ (get_or (flatten bs) a none).code
  pub arguments : (a : ℕ) → a < length (flatten bs) → T.argument a ≡ (get_or (flatten bs) a none).argument

module _ (bs : List (List Action)) where
  abbrev s : List ℕ
  s = written bs

  fours : Fours (table_rows bs)
  unfolding table_rows
  fours = (refl, fours_append (entry_rows 0 bs) (action_rows (flatten bs)) (entry_fours 0 bs) (action_fours (flatten bs)))

  pub rows_length : length (table_rows bs) ≡ suc (length bs + length (flatten bs))
  unfolding table_rows
  rows_length = rw (length-append (entry_rows 0 bs) (action_rows (flatten bs)), entry_length 0 bs, action_length (flatten bs))

  -- 4 + 4n + 4m bytes
  pub bytes_length : length s ≡ 4 + 4 * length bs + 4 * length (flatten bs)
  unfolding written
  bytes_length = omega (arith, fours_length (table_rows bs) fours, rows_length)

  byte_at : (i j : ℕ) → i ≤ length bs + length (flatten bs) → j < 4 → get_or s (4 * i + j) 0 ≡ get_or (get_or (table_rows bs) i []) j 0
  unfolding written
  byte_at i j h k = row_at (table_rows bs) fours i j (omega (arith, rows_length)) k

  head_row : get_or (table_rows bs) 0 [] ≡ pair_row (length bs) (length (flatten bs))
  unfolding table_rows
  head_row = refl

  entry_row : (t : ℕ) → t < length bs → get_or (table_rows bs) (suc t) [] ≡ pair_row (length (flatten (take t bs))) (length (get_or bs t []))
  unfolding table_rows
  entry_row t h =
      let z : 0 + length (flatten (take t bs)) ≡ length (flatten (take t bs)) = omega arith in
      get_or-append (entry_rows 0 bs) (action_rows (flatten bs)) [] t (omega (arith, entry_length 0 bs)) ∙ entry_at bs 0 t h ∙ rw z

  action_row_lem : (a : ℕ) → a < length (flatten bs) → get_or (table_rows bs) (suc (length bs + a)) [] ≡ action_row (get_or (flatten bs) a none)
  unfolding table_rows
  action_row_lem a h =
      let z : length bs + a ≡ length (entry_rows 0 bs) + a = omega (arith, entry_length 0 bs) in
      rw (z, get_or-append-add (entry_rows 0 bs) (action_rows (flatten bs)) a []) (action_at_lem (flatten bs) a h)

  word_at : (i j x : ℕ) → i ≤ length bs + length (flatten bs) → j < 3 → get_or (get_or (table_rows bs) i []) j 0 ≡ x % 256 → get_or (get_or (table_rows bs) i []) (suc j) 0 ≡ x / 256
      → u16_at s (4 * i + j) ≡ x
  word_at i j x h k p q =
      let z : 4 * i + j + 1 ≡ 4 * i + suc j = omega arith in
      rw (z, byte_at i j h (omega arith), byte_at i (suc j) h (omega arith), p, q) (omega arith)

  pub threads_back : (table_of s).threads ≡ length bs
  unfolding table_of
  threads_back = word_at 0 0 (length bs) (omega arith) (omega arith) (rw head_row) (rw head_row)

  pub actions_back : (table_of s).actions ≡ length (flatten bs)
  unfolding table_of
  actions_back = word_at 0 2 (length (flatten bs)) (omega arith) (omega arith) (rw head_row) (rw head_row)

  pub first_back : (t : ℕ) → t < length bs → (table_of s).first t ≡ length (flatten (take t bs))
  unfolding table_of
  first_back t h =
      let z : 4 + 4 * t ≡ 4 * suc t + 0 = omega arith in
      rw z (word_at (suc t) 0 (length (flatten (take t bs))) (omega arith) (omega arith) (rw (entry_row t h)) (rw (entry_row t h)))

  pub count_back : (t : ℕ) → t < length bs → (table_of s).count t ≡ length (get_or bs t [])
  unfolding table_of
  count_back t h =
      let z : 6 + 4 * t ≡ 4 * suc t + 2 = omega arith in
      rw z (word_at (suc t) 2 (length (get_or bs t [])) (omega arith) (omega arith) (rw (entry_row t h)) (rw (entry_row t h)))

  -- byte j of action a
  in_bodies : (a j : ℕ) → a < length (flatten bs) → j < 4 → get_or (drop (4 + 4 * (table_of s).threads) s) (4 * a + j) 0 ≡ get_or (action_row (get_or (flatten bs) a none)) j 0
  in_bodies a j h k =
      let z : 4 + 4 * length bs + (4 * a + j) ≡ 4 * suc (length bs + a) + j = omega arith in
      rw (threads_back, get_or-drop (4 + 4 * length bs) s (4 * a + j) 0, z, byte_at (suc (length bs + a)) j (omega arith) k, action_row_lem a h)

  pub code_back : (a : ℕ) → a < length (flatten bs) → (table_of s).code a ≡ (get_or (flatten bs) a none).code
  unfolding table_of
  code_back a h =
      let z : 4 * a ≡ 4 * a + 0 = omega arith in
      rw z (in_bodies a 0 h (omega arith))

  -- of arguments that 24 bits can hold
  pub argument_back : (a : ℕ) → a < length (flatten bs) → (get_or (flatten bs) a none).argument < 16777216 → (table_of s).argument a ≡ (get_or (flatten bs) a none).argument
  unfolding table_of
  argument_back a h short =
      let x : ℕ = (get_or (flatten bs) a none).argument in
      let p : 4 * a + 1 + 1 ≡ 4 * a + 2 = omega arith in
      let q : 4 * a + 1 + 2 ≡ 4 * a + 3 = omega arith in
      rw (p, q, in_bodies a 1 h (omega arith), in_bodies a 2 h (omega arith), in_bodies a 3 h (omega arith)) (omega arith)

  pub read_back : ((a : ℕ) → a < length (flatten bs) → (get_or (flatten bs) a none).argument < 16777216) → Reads (table_of s) bs
  read_back short =
      record {
        threads = threads_back;
        actions = actions_back;
        firsts = first_back;
        counts = count_back;
        codes = code_back;
        arguments = λ a h. argument_back a h (short a h);
      }

-- every argument that is read has 24 bits
pub argument_short : (s : List ℕ) (a : ℕ) → (table_of s).argument a < 16777216
unfolding table_of
argument_short s a = mod-lt (u24_at (bodies_of s) _) (omega arith)

-- an alloc's and a free's among them
pub alloc_short : (s : List ℕ) (a : ℕ) → alloc_of (table_of s) a ≤ 16777215
unfolding alloc_of
alloc_short s a = omega (arith, argument_short s a, pick_most (is alloc (kind (table_of s) a)) ((table_of s).argument a))

pub free_short : (s : List ℕ) (a : ℕ) → free_of (table_of s) a ≤ 16777215
unfolding free_of
free_short s a = omega (arith, argument_short s a, pick_most (is free (kind (table_of s) a)) ((table_of s).argument a))
