-- The rows that code puts are the rows of what is written, where the numbers fit.
use mathlib.Core.Path.{◌≡◌, refl, sym, ap, ◌∙◌}
use Prim.Native.Nat.{ℕ, zero, suc, ◌+◌, ◌-◌, ◌/◌, ◌%◌, ◌≤◌, ◌<◌}
use mathlib.Core.List.{List, [], ◌∷◌, ◌++◌, map, flatten}
use native.Mathlib.Omega.{arith}
use lib.ListN.{length}
use Rattle.table.specs.Sum.{sum_to}
use Rattle.table.specs.Format.{Table, kind, bodies_of, first_of, count_of, table_of}
use Rattle.table.specs.Checks.{counts_below}
use Rattle.table.specs.Rules.{ContentRules}
use Rattle.table.proofs.Sums.{sum_to_part}
use Rattle.table.proofs.Bodies.{first_is, counts_all, body_within}
use Rattle.table.specs.Written.{Action, action_at, pair_row, action_row, entry_rows, action_rows, actions_from, body_in}
use Rattle.parts.specs.Copies.{renamed, renamed_action}
use Rattle.parts.specs.Joined.{bodies_from, bodies_in}
use Rattle.parts.proofs.Built.{from_length, map_length}
use Rattle.rows.specs.Rows.{cut_pair, cut_action, renamed_rows, shifted_entries}

pub pair_whole : (a b : ℕ) → a < 65536 → b < 65536 → cut_pair a b ≡ pair_row a b
pair_whole a b h k =
    let p : a / 256 % 256 ≡ a / 256 = omega arith in
    let q : b / 256 % 256 ≡ b / 256 = omega arith in
    rw (p, q)

pub action_whole : (x : Action) → x.argument < 16777216 → cut_action x.code x.argument ≡ action_row x
action_whole x h = let p : x.argument / 65536 % 256 ≡ x.argument / 65536 = omega arith in rw p

pub rows_append : (l r : List Action) → action_rows (l ++ r) ≡ action_rows l ++ action_rows r
unfolding action_rows
rows_append [] r = refl
rows_append (x ∷ l) r = ap (λ (q : List (List ℕ)). action_row x ∷ q) (rows_append l r)

-- k actions from a on, renamed, are put as they are written
pub rows_written : (s : List ℕ) (f : ℕ → ℕ) (k a : ℕ) → ((b : ℕ) → a ≤ b → b < a + k → renamed f (kind (table_of s) b) ((table_of s).argument b) < 16777216)
    → renamed_rows (bodies_of s) f a k ≡ action_rows (map (renamed_action f) (actions_from (table_of s) a k))
unfolding renamed_rows action_rows actions_from table_of
rows_written s f zero a h = refl
rows_written s f (suc k) a h =
    rw (action_whole (renamed_action f (action_at (table_of s) a)) (h a (omega arith) (omega arith)), rows_written s f k (suc a) (λ b l m. h b (omega arith) (omega arith)))

-- ---- all of a table

map_append : (g : Action → Action) (l r : List Action) → map g (l ++ r) ≡ map g l ++ map g r
map_append g [] r = refl
map_append g (x ∷ l) r = ap (λ (q : List Action). g x ∷ q) (map_append g l r)

actions_split : (T : Table) (k j a : ℕ) → actions_from T a (k + j) ≡ actions_from T a k ++ actions_from T (a + k) j
unfolding actions_from
actions_split T zero j a =
    let p : 0 + j ≡ j = omega arith in
    let q : a + 0 ≡ a = omega arith in
    rw (p, q)
actions_split T (suc k) j a =
    let p : suc k + j ≡ suc (k + j) = omega arith in
    let q : a + suc k ≡ suc a + k = omega arith in
    rw (p, q) (ap (λ (l : List Action). action_at T a ∷ l) (actions_split T k j (suc a)))

-- the bodies one after another are all actions
module _ (T : Table) (c : ContentRules T) where
  bodies_flat : (k t n : ℕ) → t + k ≤ T.threads → n + counts_below T t ≡ counts_below T (t + k) → flatten (bodies_from T t k) ≡ actions_from T (counts_below T t) n
  unfolding bodies_from flatten sum_to actions_from
  bodies_flat zero t n h e =
      let p : t + 0 ≡ t = omega arith in
      let q : n ≡ 0 = omega (arith, rw p at e) in
      rw q
  bodies_flat (suc k) t n h e =
      let l : t < T.threads = omega arith in
      let p : t + suc k ≡ suc t + k = omega arith in
      let f : T.first t ≡ counts_below T t = first_is T c t l in
      let e' : n + counts_below T t ≡ counts_below T (suc t + k) = rw p at e in
      let m : counts_below T (suc t) ≤ counts_below T (suc t + k) = sum_to_part T.count (suc t) (suc t + k) (omega arith) in
      let j : ℕ = n - T.count t in
      let s : n ≡ T.count t + j = omega (arith, m, e') in
      let ih = bodies_flat k (suc t) j (omega arith) (omega (arith, s, e')) in
      rw (s, actions_split T (T.count t) j (counts_below T t), ih, f)

  pub all_actions : flatten (bodies_in T) ≡ actions_from T 0 T.actions
  unfolding sum_to
  all_actions =
      let z : 0 + T.threads ≡ T.threads = omega arith in
      bodies_flat T.threads 0 T.actions (omega arith) (rw z (omega (arith, counts_all T c)))

pub flat_map : (g : Action → Action) (bs : List (List Action)) → flatten (map (map g) bs) ≡ map g (flatten bs)
unfolding flatten
flat_map g [] = refl
flat_map g (b ∷ bs) = rw (flat_map g bs) (sym (map_append g b (flatten bs)))

-- all actions of a part
pub part_rows : (s : List ℕ) (f : ℕ → ℕ) → ContentRules (table_of s) → ((b : ℕ) → b < (table_of s).actions → renamed f (kind (table_of s) b) ((table_of s).argument b) < 16777216)
    → renamed_rows (bodies_of s) f 0 (table_of s).actions ≡ action_rows (flatten (map (map (renamed_action f)) (bodies_in (table_of s))))
part_rows s f c h =
    rows_written s f (table_of s).actions 0 (λ b l m. h b (omega arith))
    ∙ ap action_rows (sym (flat_map (renamed_action f) (bodies_in (table_of s)) ∙ ap (map (renamed_action f)) (all_actions (table_of s) c)))

-- ---- entries

entry_step : (s : List ℕ) (o t : ℕ) (r : List ℕ) → cut_pair (o + (table_of s).first t) ((table_of s).count t) ≡ r → (l k : List (List ℕ)) → l ≡ k
    → cut_pair (o + first_of s t) (count_of s t) ∷ l ≡ r ∷ k
unfolding table_of
entry_step s o t r e l k p = rw (e, p)

pub entries_written : (s : List ℕ) (g : Action → Action) → ContentRules (table_of s) → (o : ℕ) → o + (table_of s).actions < 65536 → (k t : ℕ) → t + k ≤ (table_of s).threads
    → shifted_entries s o t k ≡ entry_rows (o + counts_below (table_of s) t) (map (map g) (bodies_from (table_of s) t k))
unfolding shifted_entries entry_rows bodies_from sum_to
entries_written s g c o h zero t l = refl
entries_written s g c o h (suc k) t l =
    let T : Table = table_of s in
    let m : t < (table_of s).threads = omega arith in
    let f : (table_of s).first t ≡ counts_below (table_of s) t = first_is (table_of s) c t m in
    let b = body_within (table_of s) c t m in
    let z : length (map g (body_in (table_of s) t)) ≡ (table_of s).count t = map_length g (body_in (table_of s) t) ∙ from_length (table_of s) ((table_of s).first t) ((table_of s).count t) in
    let w : cut_pair (o + (table_of s).first t) ((table_of s).count t) ≡ pair_row (o + counts_below (table_of s) t) (length (map g (body_in (table_of s) t))) = pair_whole (o + (table_of s).first t) ((table_of s).count t) (omega (arith, b)) (omega (arith, b)) ∙ ap (λ (i : ℕ). pair_row (o + i) ((table_of s).count t)) f ∙ ap (λ (i : ℕ). pair_row (o + counts_below (table_of s) t) i) (sym z) in
    let q : o + counts_below (table_of s) t + length (map g (body_in (table_of s) t)) ≡ o + (counts_below (table_of s) t + (table_of s).count t) = omega (arith, z) in
    entry_step s o t (pair_row (o + counts_below (table_of s) t) (length (map g (body_in (table_of s) t)))) w (shifted_entries s o (suc t) k) _
    (entries_written s g c o h k (suc t) (omega arith) ∙ ap (λ (i : ℕ). entry_rows i (map (map g) (bodies_from (table_of s) (suc t) k))) (sym q))
