-- A table whose bodies keep the rules one by one keeps rules 4 to 7 and 9.
use Prim.Native.Nat.{ℕ, zero, suc, ◌+◌, ◌-◌, ◌≤◌, ◌<◌}
use native.Mathlib.Omega.{arith}
use native.Mathlib.Decide.{dec_lt}
use mathlib.Core.Path.{◌≡◌, refl, sym, ap, ◌∙◌}
use mathlib.Core.List.{List, [], flatten}
use mathlib.Core.Bool.{false}
use lib.Dec.{eqb}
use borrow.Author.Tests.{eq-eqb, ne_eqb}
use lib.ListN.{length, get_or}
use Rattle.table.specs.Format.{is, Table, kind}
use Rattle.table.specs.declared.kinds.Kind.TheVariants.{End as end}
use Rattle.table.specs.Checks.{owner, end_of, kind_unknown, argument_wrong, differ, end_misplaced, open_before, join_not_latest, end_with_open}
use Rattle.table.specs.Rules.{ContentRules, BodyRules}
use Rattle.table.proofs.Bodies.{after_end, owner_at, owner_below_lem, owner_first, owner_end}
use Rattle.table.specs.Written.{Action}
use Rattle.table.proofs.ReadBack.{Reads, none, body_at}
use Rattle.parts.proofs.Built.{body_inside, built_contents}
use Rattle.filling.proofs.Bodies.{kind_in, each_at, EachBody, body_of, Fit, end_some, end_before, end_there, open_at, open_next, nests_at, Good}
use Rattle.parts.proofs.CopyRules.{opens_first}

module _ (U : Table) (bs : List (List Action)) (r : Reads U bs) where
  -- action i of body t
  there : (t i : ℕ) → t < length bs → i < length (get_or bs t []) → get_or (flatten bs) (U.first t + i) none ≡ get_or (get_or bs t []) i none
  there t i h k = rw (r.firsts t h) (body_at bs t i h k)

  inside : (t i : ℕ) → t < length bs → i < length (get_or bs t []) → U.first t + i < length (flatten bs)
  inside t i h k = rw (r.firsts t h) (body_inside bs t i h k)

  pub code_at : (t i : ℕ) → t < length bs → i < length (get_or bs t []) → U.code (U.first t + i) ≡ (get_or (get_or bs t []) i none).code
  code_at t i h k = r.codes (U.first t + i) (inside t i h k) ∙ ap (λ (x : Action). x.code) (there t i h k)

  pub kind_at : (t i : ℕ) → t < length bs → i < length (get_or bs t []) → kind U (U.first t + i) ≡ kind_in (get_or (get_or bs t []) i none)
  kind_at t i h k = rw (code_at t i h k)

  pub argument_at_lem : (t i : ℕ) → t < length bs → i < length (get_or bs t []) → U.argument (U.first t + i) ≡ (get_or (get_or bs t []) i none).argument
  argument_at_lem t i h k = r.arguments (U.first t + i) (inside t i h k) ∙ ap (λ (x : Action). x.argument) (there t i h k)

  module _ (g : EachBody (Good (length bs)) 0 bs) where
    pub good : (t : ℕ) → t < length bs → Good (length bs) t (get_or bs t [])
    good t h = let z : 0 + t ≡ t = omega arith in rw z at (body_of (Good (length bs)) bs 0 t g h)

    pub contents : ContentRules U
    contents = built_contents U bs r (λ t h. end_some (get_or bs t []) (good t h).ends)

    -- an action by its thread and its place in the body
    pub record At (a : ℕ) : Type 0 where
      pub thread : ℕ
      pub place : ℕ
      pub known : thread < length bs
      pub within : place < length (get_or bs thread [])
      pub is_at : U.first thread + place ≡ a
      pub owned : owner U a ≡ thread

    pub at_of : (a : ℕ) → a < U.actions → At a
    at_of a h =
        let t : ℕ = owner U a in
        let k : t < length bs = omega (arith, owner_below_lem U contents a h, r.threads) in
        let lo : U.first t ≤ a = owner_first U contents a h in
        let hi : a < U.first t + U.count t = owner_end U contents a h in
        record { thread = t; place = a - U.first t; known = k; within = omega (arith, lo, hi, r.counts t k); is_at = omega (arith, lo); owned = refl }

    own : (t i : ℕ) → t < length bs → i < length (get_or bs t []) → owner U (U.first t + i) ≡ t
    own t i h k = owner_at U contents t i (omega (arith, r.threads)) (omega (arith, r.counts t h))

    kind_rule : (t i : ℕ) → t < length bs → i < length (get_or bs t []) → kind_unknown U (U.first t + i) ≡ false
    unfolding kind_unknown
    kind_rule t i h k = rw (kind_at t i h k) (each_at (Fit t (length bs)) (get_or bs t []) i (good t h).fit k).known

    argument_rule : (t i : ℕ) → t < length bs → i < length (get_or bs t []) → argument_wrong U (U.first t + i) ≡ false
    unfolding argument_wrong
    argument_rule t i h k =
        rw (own t i h k, kind_at t i h k, argument_at_lem t i h k, r.threads, (each_at (Fit t (length bs)) (get_or bs t []) i (good t h).fit k).fits)

    end_rule : (t i : ℕ) → t < length bs → i < length (get_or bs t []) → end_misplaced U (U.first t + i) ≡ false
    unfolding end_misplaced
    end_rule t i h k = rw (own t i h k, kind_at t i h k) (go (dec_lt (suc i) (length (get_or bs t []))))
      where
        e : suc (end_of U t) ≡ U.first t + U.count t
        e = after_end U contents t (omega (arith, r.threads))

        go : Dec (suc i < length (get_or bs t [])) → differ (is end (kind_in (get_or (get_or bs t []) i none))) (eqb (U.first t + i) (end_of U t)) ≡ false
        go (yes q) =
            rw (end_before (get_or bs t []) i (good t h).ends q, ne_eqb (U.first t + i) (end_of U t) (λ z. omega (arith, e, r.counts t h)))
        go (no q) =
            rw (end_there (get_or bs t []) i (good t h).ends (omega (arith, q)), eq-eqb (U.first t + i) (end_of U t) (omega (arith, e, q, r.counts t h)))

    pub bodies : BodyRules U
    bodies =
        record {
          kinds = λ a h. let z = at_of a h in rw z.is_at at (kind_rule z.thread z.place z.known z.within);
          arguments = λ a h. let z = at_of a h in rw z.is_at at (argument_rule z.thread z.place z.known z.within);
          ends = λ a h. let z = at_of a h in rw z.is_at at (end_rule z.thread z.place z.known z.within);
        }

    open_at_lem : (t i : ℕ) → t < length bs → i < length (get_or bs t []) → open_before U (U.first t + i) ≡ open_at [] (get_or bs t []) i
    unfolding open_before
    open_at_lem t zero h k = let p : U.first t + 0 ≡ U.first t = omega arith in rw p (opens_first U contents bodies t (omega (arith, r.threads)))
    open_at_lem t (suc i) h k =
        let p : U.first t + suc i ≡ suc (U.first t + i) = omega arith in
        let l : i < length (get_or bs t []) = omega arith in
        rw (p, open_before, kind_at t i h l, argument_at_lem t i h l, open_at_lem t i h l) (sym (open_next (get_or bs t []) [] i l))

    join_rule : (t i : ℕ) → t < length bs → i < length (get_or bs t []) → join_not_latest U (U.first t + i) ≡ false
    unfolding join_not_latest
    join_rule t i h k = rw (kind_at t i h k, argument_at_lem t i h k, open_at_lem t i h k) (nests_at (get_or bs t []) [] i (good t h).nests k).0

    close_rule : (t i : ℕ) → t < length bs → i < length (get_or bs t []) → end_with_open U (U.first t + i) ≡ false
    unfolding end_with_open
    close_rule t i h k = rw (kind_at t i h k, open_at_lem t i h k) (nests_at (get_or bs t []) [] i (good t h).nests k).1

    pub built_latest : (a : ℕ) → a < U.actions → join_not_latest U a ≡ false
    built_latest a h = let z = at_of a h in rw z.is_at at (join_rule z.thread z.place z.known z.within)

    pub built_joined : (a : ℕ) → a < U.actions → end_with_open U a ≡ false
    built_joined a h = let z = at_of a h in rw z.is_at at (close_rule z.thread z.place z.known z.within)
