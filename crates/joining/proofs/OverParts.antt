-- Rows that are put part by part, where a number runs on by each part's size: the rows of the parts that are left are what is left.
use mathlib.Core.Path.{◌≡◌, refl, ap, ◌∙◌}
use Prim.Native.Nat.{ℕ, suc, ◌+◌, ◌≤◌, ◌<◌}
use mathlib.Core.List.{List, [], ◌∷◌, ◌++◌}
use native.Mathlib.Omega.{arith}
use lib.ListN.{length, get_or, drop}
use lib.Seq.{drop-cons, drop-length}
use Rattle.table.specs.Format.{threads_of, actions_of, bodies_of}
use Rattle.text.specs.Text.{buffer_at}
use Rattle.text.specs.Puts.{put_all}
use Rattle.rows.specs.Rows.{cut_action, renamed_rows, moved_by, shifted_entries}
use Rattle.rows.proofs.Rest.{Rest, rest_all, rest_rows}
use Rattle.joining.specs.Code.Rows.{starts_over, entries_over, moved_over, fork_rows, threads_over, actions_over}

pub record Over (rows : ℕ → List (List ℕ) → List (List ℕ)) (own : List ℕ → ℕ → List (List ℕ)) (size : List ℕ → ℕ) (total : List (List ℕ) → ℕ) : Type 0 where
  pub none : (o : ℕ) → rows o [] ≡ []
  pub more : (o : ℕ) (s : List ℕ) (ps : List (List ℕ)) → rows o (s ∷ ps) ≡ own s o ++ rows (o + size s) ps
  pub total_more : (s : List ℕ) (ps : List (List ℕ)) → total (s ∷ ps) ≡ size s + total ps

pub record Inv (rows : ℕ → List (List ℕ) → List (List ℕ)) (total : List (List ℕ) → ℕ) (out₀ : List ℕ) (at₀ o₀ : ℕ) (ps : List (List ℕ)) (out : List ℕ) (at o i : ℕ) : Type 0 where
  pub within : i ≤ length ps
  pub counted : o + total (drop i ps) ≡ o₀ + total ps
  pub left : Rest out₀ at₀ (rows o₀ ps) out at (rows o (drop i ps))

pub start : (rows : ℕ → List (List ℕ) → List (List ℕ)) (total : List (List ℕ) → ℕ) (out : List ℕ) (at o : ℕ) (ps : List (List ℕ)) → Inv rows total out at o ps out at o 0
start rows total out at o ps = record { within = omega arith; counted = refl; left = rest_all out at (rows o ps) }

module _ {rows : ℕ → List (List ℕ) → List (List ℕ)} {own : List ℕ → ℕ → List (List ℕ)} {size : List ℕ → ℕ} {total : List (List ℕ) → ℕ} (law : Over rows own size total) {out₀ : List ℕ} {at₀ o₀ : ℕ} {ps : List (List ℕ)} {out : List ℕ} {at o i : ℕ} (v : Inv rows total out₀ at₀ o₀ ps out at o i) where
  split : i < length ps → drop i ps ≡ get_or ps i [] ∷ drop (suc i) ps
  split h = drop-cons ps i [] h

  -- the number runs on within the total
  pub runs : i < length ps → (part : List ℕ) → part ≡ get_or ps i [] → o + size part ≤ o₀ + total ps
  runs h part e =
      let q : total (drop i ps) ≡ size part + total (drop (suc i) ps) = rw (split h, e) (law.total_more (get_or ps i []) (drop (suc i) ps)) in
      omega (arith, v.counted, q)

  pub again : i < length ps → (part : List ℕ) → part ≡ get_or ps i [] → (x : ℕ) → x ≡ size part → (out' : List ℕ) (at' : ℕ) → length out' ≡ length out
      → buffer_at out' at' ≡ put_all (buffer_at out at) (own part o) → Inv rows total out₀ at₀ o₀ ps out' at' (o + x) (i + 1)
  again h part e x f out' at' l p =
      let z : i + 1 ≡ suc i = omega arith in
      let q : rows o (drop i ps) ≡ own part o ++ rows (o + x) (drop (suc i) ps) = rw (split h, f, e) (law.more o (get_or ps i []) (drop (suc i) ps)) in
      let t : total (drop i ps) ≡ x + total (drop (suc i) ps) = rw (split h, f, e) (law.total_more (get_or ps i []) (drop (suc i) ps)) in
      record { within = omega arith; counted = rw z (omega (arith, v.counted, t)); left = rw z (rest_rows (own part o) (rw q at v.left) l p) }

  pub ends : length ps ≤ i → buffer_at out at ≡ put_all (buffer_at out₀ at₀) (rows o₀ ps)
  ends h =
      let z : i ≡ length ps = omega (arith, v.within) in
      let q : drop i ps ≡ [] = ap (λ (j : ℕ). drop j ps) z ∙ drop-length ps in
      let e : put_all (buffer_at out at) (rows o []) ≡ put_all (buffer_at out₀ at₀) (rows o₀ ps) = rw q at v.left.same in
      rw (law.none o) at e

-- ---- the entries, the actions, the root's forks

pub over_entries : Over entries_over (λ s o. shifted_entries s o 0 (threads_of s)) actions_of actions_over
unfolding entries_over actions_over
over_entries = record { none = λ o. refl; more = λ o s ps. refl; total_more = λ s ps. refl }

pub over_moved : Over moved_over (λ s o. renamed_rows (bodies_of s) (moved_by o) 0 (actions_of s)) threads_of threads_over
unfolding moved_over threads_over
over_moved = record { none = λ o. refl; more = λ o s ps. refl; total_more = λ s ps. refl }

pub over_forks : Over (λ o ps. fork_rows (starts_over o ps)) (λ s o. cut_action 4 o ∷ []) threads_of threads_over
unfolding fork_rows starts_over threads_over
over_forks = record { none = λ o. refl; more = λ o s ps. refl; total_more = λ s ps. refl }
