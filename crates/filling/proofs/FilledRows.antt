-- The rows of the filled-out table, as the code puts them: each thread's body and its length, and the rows that are left from a thread or an action on.
use Prim.Native.Nat.{ℕ, zero, suc, ◌+◌, ◌-◌, ◌*◌, ◌/◌, ◌≤◌, ◌<◌}
use native.Mathlib.Numerals.{add-one}
use native.Mathlib.Omega.{arith}
use mathlib.Core.Path.{◌≡◌, refl, sym, ap, ◌∙◌}
use mathlib.Core.List.{List, [], ◌∷◌, ◌++◌, append_assoc, flatten, foldl-append}
use mathlib.Core.Bool.{Bool, true, false}
use lib.ListN.{length, get_or, drop, length-append, get_or-append}
use lib.Seq.{drop-cons, drop-length, get_or-append-add}
use lib.Dec.{ltb, leb}
use borrow.Author.Tests.{le-leb, lt-leb}
use Rattle.table.specs.Sum.{pick}
use Rattle.table.specs.Format.{Table, table_of}
use Rattle.table.specs.Checks.{alloc_of}
use Rattle.table.specs.Serial.{serial_order}
use Rattle.table.specs.Written.{Action, action_at, action_row, entry_rows, action_rows, table_rows}
use Rattle.table.proofs.ReadBack.{argument_short}
use Rattle.text.specs.Text.{Buffer, buffer_at, placed_next}
use Rattle.text.specs.Puts.{put_all}
use Rattle.rows.specs.Rows.{cut_pair, cut_action}
use Rattle.rows.proofs.Whole.{pair_whole, action_whole, rows_append}
use Rattle.filling.specs.Filled.{act, big, half, leaf, fork2, root_of, in_front, filled_from, filled_body, old_bodies, trees_along, filled_bodies, threads_to, actions_to}
use Rattle.filling.specs.TreeSizes.{sizes_along, tree_body}
use Rattle.filling.specs.Code.Steps.{Ready, size_at, front_rows}
use Rattle.parts.proofs.Built.{flatten_append}
use Rattle.filling.proofs.Roots.{all_serial, trees_length}
use Rattle.filling.proofs.OldThreads.{old_length, old_at, old_all, filled_threads, filled_actions}
use Rattle.filling.proofs.TreeSizes.{Sized, along_sized}
use Rattle.filling.proofs.Numbering.{l, root_between}

-- ---- rows put after rows

pub put_rows : (s o q : List ℕ) (at r k : ℕ) (ts us : List (List ℕ)) → buffer_at o r ≡ put_all (buffer_at s at) ts → buffer_at q k ≡ put_all (buffer_at o r) us
    → buffer_at q k ≡ put_all (buffer_at s at) (ts ++ us)
put_rows s o q at r k ts us e f = f ∙ ap (λ (b : Buffer). put_all b us) e ∙ sym (foldl-append placed_next (buffer_at s at) ts us)

-- ---- one body among all

pub part_length : (bs : List (List Action)) (c : ℕ) → c < length bs → length (get_or bs c []) ≤ length (flatten bs)
unfolding flatten
part_length [] c h = absurd (omega arith)
part_length (b ∷ bs) zero h = omega (arith, length-append b (flatten bs))
part_length (b ∷ bs) (suc c) h = omega (arith, length-append b (flatten bs), part_length bs c (omega arith))

-- ---- the body of a new thread

pub tree_one_rows : (c d : ℕ) → d ≤ 1 → action_rows (tree_body c d) ≡ cut_action 1 0 ∷ cut_action 0 0 ∷ []
unfolding tree_body action_rows
tree_one_rows c d h = rw (le-leb d 1 h)

pub tree_more_rows : (c d x y : ℕ) → 1 < d → c < 1024 → d < 1024 → x ≡ c + 1 → y ≡ c + 2 * ((d + 1) / 2)
    → action_rows (tree_body c d) ≡ cut_action 4 x ∷ cut_action 4 y ∷ cut_action 5 y ∷ cut_action 5 x ∷ cut_action 0 0 ∷ []
unfolding tree_body action_rows
tree_more_rows c d x y h i j p q =
    let z : x ≡ suc c = omega arith in
    let f : x < 16777216 = omega arith in
    let g : y < 16777216 = omega arith in
    rw (lt-leb d 1 h, ← z, ← q, action_whole (act 4 x) f, action_whole (act 4 y) g, action_whole (act 5 y) g, action_whole (act 5 x) f)

pub tree_length_is : (c d : ℕ) → length (tree_body c d) ≡ pick (leb d 1) 2 5
unfolding tree_body
tree_length_is c d = go (leb d 1)
  where
    go : (q : Bool) → length (pick q leaf (fork2 (suc c) (c + 2 * half d))) ≡ pick q 2 5
    go true = refl
    go false = refl

module _ (s : List ℕ) (n K : ℕ) (r : Ready s n K) where
  abbrev T : Table
  T = table_of s

  abbrev bs : List (List Action)
  bs = filled_bodies T K

  abbrev trees : List (List Action)
  trees = trees_along T K T.threads (serial_order T)

  abbrev N : ℕ
  N = threads_to T K T.actions

  pub count_bodies : length bs ≡ N
  count_bodies = filled_threads T (l s n K r) K r.some

  pub count_actions : length (flatten bs) ≡ actions_to T K T.actions
  count_actions = filled_actions T (l s n K r) K r.some

  pub count_trees : length trees + T.threads ≡ N
  count_trees = omega (arith, trees_length T K r.some (serial_order T) T.threads, all_serial T (l s n K r) (Rattle.filling.specs.Filled.new_threads T K))

  pub body_own : (c : ℕ) → c < T.threads → get_or bs c [] ≡ filled_body T K c
  unfolding filled_bodies
  body_own c h =
      let z : 0 + c ≡ c = omega arith in
      get_or-append (old_bodies T K 0 T.threads) trees [] c (omega (arith, old_length T K T.threads 0))
      ∙ rw z at (old_at T K T.threads 0 c h)

  pub tree_at_lem : (c : ℕ) → T.threads ≤ c → c < N → get_or trees (c - T.threads) [] ≡ tree_body c (size_at T K c)
  tree_at_lem c low high =
      let v : Sized T.threads trees (sizes_along T K (serial_order T)) = along_sized T K r.some (serial_order T) T.threads in
      let z : T.threads + (c - T.threads) ≡ c = omega arith in
      rw z at (v.body (c - T.threads) (omega (arith, v.same_length, count_trees)))

  pub body_new : (c : ℕ) → T.threads ≤ c → c < N → get_or bs c [] ≡ tree_body c (size_at T K c)
  unfolding filled_bodies
  body_new c low high =
      let z : c ≡ length (old_bodies T K 0 T.threads) + (c - T.threads) = omega (arith, old_length T K T.threads 0) in
      ap (λ (i : ℕ). get_or (old_bodies T K 0 T.threads ++ trees) i []) z ∙ get_or-append-add (old_bodies T K 0 T.threads) trees (c - T.threads) [] ∙ tree_at_lem c low high

  -- ---- an action with what it gets in front of it

  pub step_rows : (a x root k y : ℕ) → a < T.actions → x ≡ alloc_of T a → root ≡ root_of T K a → k ≡ T.code a → y ≡ T.argument a
      → action_rows (in_front T K a ++ (action_at T a ∷ [])) ≡ front_rows K x root ++ (cut_action k y ∷ [])
  unfolding action_rows big
  step_rows a x root k y h e f p q =
      let few : root < 16777216 = omega (arith, (root_between s n K r a h).1, r.few_threads) in
      rw (← e, ← f, p, q, action_whole (action_at T a) (argument_short s a)) (go few (ltb K x))
    where
      go : root < 16777216 → (b : Bool) → action_rows (pick b (act 4 root ∷ act 5 root ∷ []) [] ++ (action_at T a ∷ [])) ≡ pick b (cut_action 4 root ∷ cut_action 5 root ∷ []) [] ++ (action_row (action_at T a) ∷ [])
      go few true = rw (action_whole (act 4 root) few, action_whole (act 5 root) few)
      go few false = refl

  pub left_from : (a : ℕ) → a < T.actions
      → action_rows (filled_from T K a (T.actions - a)) ≡ action_rows (in_front T K a ++ (action_at T a ∷ [])) ++ action_rows (filled_from T K (a + 1) (T.actions - (a + 1)))
  unfolding filled_from
  left_from a h =
      let z : T.actions - a ≡ suc (T.actions - (a + 1)) = omega arith in
      let rest : List Action = filled_from T K (suc a) (T.actions - suc a) in
      rw (z, add-one a) (ap action_rows (sym (append_assoc (in_front T K a) (action_at T a ∷ []) rest)) ∙ rows_append (in_front T K a ++ (action_at T a ∷ [])) rest)

  pub left_none : (a : ℕ) → a ≡ T.actions → action_rows (filled_from T K a (T.actions - a)) ≡ []
  unfolding filled_from action_rows
  left_none a e = let z : T.actions - a ≡ 0 = omega arith in rw z

  -- how many actions it is
  pub front_length : (a k x : ℕ) → x ≡ alloc_of T a → length (filled_from T K a (suc k)) ≡ pick (ltb K x) 3 1 + length (filled_from T K (a + 1) k)
  unfolding filled_from big
  front_length a k x e = rw (add-one a, ← e) (go (ltb K x))
    where
      go : (b : Bool) → length (pick b (act 4 (root_of T K a) ∷ act 5 (root_of T K a) ∷ []) [] ++ (action_at T a ∷ filled_from T K (suc a) k)) ≡ pick b 3 1 + length (filled_from T K (suc a) k)
      go true = omega arith
      go false = omega arith

  -- ---- the trees that are left

  pub trees_from : (c : ℕ) → T.threads ≤ c → c < N
      → action_rows (flatten (drop (c - T.threads) trees)) ≡ action_rows (tree_body c (size_at T K c)) ++ action_rows (flatten (drop (c + 1 - T.threads) trees))
  unfolding flatten
  trees_from c low high =
      let z : c + 1 - T.threads ≡ suc (c - T.threads) = omega arith in
      let d : drop (c - T.threads) trees ≡ get_or trees (c - T.threads) [] ∷ drop (suc (c - T.threads)) trees = drop-cons trees (c - T.threads) [] (omega (arith, count_trees)) in
      rw (z, d, tree_at_lem c low high, rows_append (tree_body c (size_at T K c)) (flatten (drop (suc (c - T.threads)) trees)))

  pub trees_none : (c : ℕ) → c ≡ N → action_rows (flatten (drop (c - T.threads) trees)) ≡ []
  unfolding flatten action_rows
  trees_none c e =
      let z : c - T.threads ≡ length trees = omega (arith, count_trees) in
      rw (z, drop-length trees)

  -- ---- the entries that are left

  pub entries_from : (c k d : ℕ) → c < N → k < 65536 → d ≡ length (get_or bs c []) → d < 65536
      → entry_rows k (drop c bs) ≡ cut_pair k d ∷ entry_rows (k + d) (drop (c + 1) bs)
  unfolding entry_rows
  entries_from c k d h i e j =
      let q : drop c bs ≡ get_or bs c [] ∷ drop (suc c) bs = drop-cons bs c [] (omega (arith, count_bodies)) in
      rw (q, add-one c, ← e, pair_whole k d i j)

  pub entries_none : (c k : ℕ) → c ≡ N → entry_rows k (drop c bs) ≡ []
  unfolding entry_rows
  entries_none c k e =
      let z : c ≡ length bs = omega (arith, count_bodies) in
      rw (z, drop-length bs)

  pub entries_length : (c : ℕ) → c < N → length (flatten (drop c bs)) ≡ length (get_or bs c []) + length (flatten (drop (c + 1) bs))
  unfolding flatten
  entries_length c h =
      let q : drop c bs ≡ get_or bs c [] ∷ drop (suc c) bs = drop-cons bs c [] (omega (arith, count_bodies)) in
      rw (q, add-one c) (length-append (get_or bs c []) (flatten (drop (suc c) bs)))

  pub body_short : (c : ℕ) → c < N → length (get_or bs c []) ≤ 8192
  body_short c h = omega (arith, part_length bs c (omega (arith, count_bodies)), count_actions, r.few_actions)

  -- ---- the whole table

  pub whole_rows : cut_pair N (actions_to T K T.actions) ∷ (entry_rows 0 bs ++ (action_rows (filled_from T K 0 T.actions) ++ action_rows (flatten trees))) ≡ table_rows bs
  unfolding table_rows filled_bodies
  whole_rows =
      let f : flatten (old_bodies T K 0 T.threads ++ trees) ≡ filled_from T K 0 T.actions ++ flatten trees = flatten_append (old_bodies T K 0 T.threads) trees ∙ rw (old_all T (l s n K r) K) in
      rw (pair_whole N (actions_to T K T.actions) (omega (arith, r.few_threads)) (omega (arith, r.few_actions)), ← count_bodies, ← count_actions, f, rows_append (filled_from T K 0 T.actions) (flatten trees))
