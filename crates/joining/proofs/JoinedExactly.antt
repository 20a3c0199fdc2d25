-- Exactly when each answer is given; what is written passes every table check with the facts of the answer.
use Rattle.std.specs.Prelude.{Err, Ok, Result, ⊤}
use mathlib.Core.Path.{◌≡◌, refl, ap, ◌∙◌}
use Prim.Native.Nat.{ℕ, zero, suc, ◌+◌, ◌*◌, ◌<◌}
use mathlib.Core.List.{List, [], ◌∷◌, map}
use mathlib.Core.Bool.{Bool, true, false}
use mathlib.Core.Logic.Iff
use mathlib.Core.Logic.{◌↔◌, ◌⊎◌, inl, inr}
use native.Mathlib.Omega.{arith}
use lib.ListN.{length, get_or}
use Rattle.table.specs.Format.{table_of, threads_of, actions_of}
use Rattle.table.specs.Pass.{first_found, refusal}
use Rattle.table.specs.Checks.{passes}
use Rattle.table.specs.Load.{loaded, facts_of}
use Rattle.table.specs.declared.Facts.{Facts}
use Rattle.table.specs.declared.Refusal.{Refusal}
use Rattle.table.proofs.Passes.{found_exactly, passes_rules, accepted_exactly, accepted_facts, refused_exactly}
use Rattle.table.proofs.Sizes.{Sizes, sizes}
use Rattle.joining.specs.Joining.{joined_bytes, weighed, joined_facts}
use Rattle.joining.specs.Answers.{parts_of, parts_wrong, first_refused, too_large, joined_with, joined}
use Rattle.joining.proofs.JoinAnswers.{lent, few_of}
use Rattle.joining.proofs.JoinedWhole.{joined_whole}
use Rattle.joining.proofs.Splits.{parts_length}
use Rattle.joining.specs.declared.JoinError.{JoinError}
use Rattle.joining.specs.declared.JoinError.TheVariants.{Whole, InPart}

-- a table is accepted
abbrev pub Accepts : List ℕ → Type 0
Accepts s = loaded s ≡ Ok (facts_of (table_of s))

-- the first i parts are accepted
abbrev pub AcceptedTo : List (List ℕ) → ℕ → Type 0
AcceptedTo ps i = (j : ℕ) → j < i → Accepts (get_or ps j [])

-- every part is
abbrev pub AllAccepted : List (List ℕ) → Type 0
AllAccepted ps = AcceptedTo ps (length ps)

-- "each part's own number and place, first part first": part i is there, it is refused with r, and those before it are accepted
pub record RefusedFirst (ps : List (List ℕ)) (i : ℕ) (r : Refusal) : Type 0 where
  pub there : i < length ps
  pub refused : loaded (get_or ps i []) ≡ Err r
  pub before : AcceptedTo ps i

-- the joined table's facts, from the parts alone
abbrev pub whole_facts : List ℕ → List ℕ → Facts
whole_facts ls s = joined_facts (map weighed (parts_of ls s))

-- each answer is given exactly when its words say
pub record Exactly (ls s : List ℕ) : Type 0 where
  -- 47: "no part, above 16, or lengths that don't add up"
  pub wrong : (joined ls s ≡ Err (Whole (refusal 47 0))) ↔ (parts_wrong ls s ≡ true)
  -- "then each part's own number and place"
  pub in_part_lem : (i : ℕ) (r : Refusal) → (joined ls s ≡ Err (InPart i r)) ↔ ((parts_wrong ls s ≡ false) × RefusedFirst (parts_of ls s) i r)
  -- "then 48 the joined table passes a limit"
  pub large : (joined ls s ≡ Err (Whole (refusal 48 0))) ↔ ((parts_wrong ls s ≡ false) × AllAccepted (parts_of ls s) × (too_large (whole_facts ls s) ≡ true))
  -- none of these, and the facts from the parts alone
  pub written : (f : Facts) → (joined ls s ≡ Ok f) ↔ ((parts_wrong ls s ≡ false) × AllAccepted (parts_of ls s) × (too_large (whole_facts ls s) ≡ false) × (whole_facts ls s ≡ f))
  -- the parts as a whole are refused with no other number or place
  pub no_other : (r : Refusal) → joined ls s ≡ Err (Whole r) → (r ≡ refusal 47 0) ⊎ (r ≡ refusal 48 0)

-- ---- a part

module _ (s : List ℕ) where
  accepted_found : Accepts s ↔ (first_found (passes s) ≡ Ok tt)
  accepted_found = Iff.trans (accepted_exactly s) (Iff.symm (passes_rules s))

  refused_found : (r : Refusal) → (loaded s ≡ Err r) ↔ (first_found (passes s) ≡ Err r)
  refused_found r = Iff.trans (refused_exactly s r) (Iff.symm (found_exactly (passes s) r))

-- ---- all parts

accepted_more : (s : List ℕ) (ps : List (List ℕ)) (i : ℕ) → Accepts s → AcceptedTo ps i → AcceptedTo (s ∷ ps) (suc i)
accepted_more s ps i e a zero l = e
accepted_more s ps i e a (suc j) l = a j (omega arith)

-- all are accepted, or one is the first that is not
data Became (ps : List (List ℕ)) : Type 0 where
  all : AllAccepted ps → Became ps
  one : (i : ℕ) (r : Refusal) → RefusedFirst ps i r → Became ps

became : (ps : List (List ℕ)) → Became ps
became [] = all (λ i l. absurd (omega arith))
became (s ∷ ps) = go (first_found (passes s)) refl (became ps)
  where
    go : (f : Result ⊤ Refusal) → first_found (passes s) ≡ f → Became ps → Became (s ∷ ps)
    go (Ok _) e (all a) = all (accepted_more s ps (length ps) ((accepted_found s).1 e) a)
    go (Ok _) e (one i r p) = one (suc i) r (record { there = omega (arith, p.there); refused = p.refused; before = accepted_more s ps i ((accepted_found s).1 e) p.before })
    go (Err r) e w = one 0 r (record { there = omega arith; refused = (refused_found s r).1 e; before = λ j l. absurd (omega arith) })

none_refused : (ps : List (List ℕ)) (k : ℕ) (x : Result Facts JoinError) → AllAccepted ps → first_refused k ps x ≡ x
unfolding first_refused
none_refused [] k x h = refl
none_refused (s ∷ ps) k x h = rw ((accepted_found s).0 (h 0 (omega arith))) (none_refused ps (suc k) x (λ i l. h (suc i) (omega arith)))

one_refused : (ps : List (List ℕ)) (k i : ℕ) (r : Refusal) (x : Result Facts JoinError) → RefusedFirst ps i r → first_refused k ps x ≡ Err (InPart (k + i) r)
unfolding first_refused
one_refused [] k i r x p = absurd (omega (arith, p.there))
one_refused (s ∷ ps) k zero r x p = let z : k + 0 ≡ k = omega arith in rw ((refused_found s r).0 p.refused, z)
one_refused (s ∷ ps) k (suc i) r x p =
    let z : k + suc i ≡ suc k + i = omega arith in
    rw ((accepted_found s).0 (p.before 0 (omega arith)), z)
    (one_refused ps (suc k) i r x (record { there = omega (arith, p.there); refused = p.refused; before = λ j l. p.before (suc j) (omega arith) }))

-- ---- the answer

-- a rule for each answer
data Answered (ls s : List ℕ) : Result Facts JoinError → Type 0 where
  by_wrong : parts_wrong ls s ≡ true → Answered ls s (Err (Whole (refusal 47 0)))
  by_part : (i : ℕ) (r : Refusal) → parts_wrong ls s ≡ false → RefusedFirst (parts_of ls s) i r → Answered ls s (Err (InPart i r))
  by_limit : parts_wrong ls s ≡ false → AllAccepted (parts_of ls s) → too_large (whole_facts ls s) ≡ true → Answered ls s (Err (Whole (refusal 48 0)))
  by_facts : parts_wrong ls s ≡ false → AllAccepted (parts_of ls s) → too_large (whole_facts ls s) ≡ false → Answered ls s (Ok (whole_facts ls s))

module _ (ls s : List ℕ) where
  -- what a rule names is the answer
  named : {x : Result Facts JoinError} → Answered ls s x → joined ls s ≡ x
  unfolding joined
  named (by_wrong e) = rw e
  named (by_part i r e p) = let z : 0 + i ≡ i = omega arith in rw (e, one_refused (parts_of ls s) 0 i r (joined_with (whole_facts ls s)) p, z)
  named (by_limit e a t) = rw (e, none_refused (parts_of ls s) 0 (joined_with (whole_facts ls s)) a, t)
  named (by_facts e a t) = rw (e, none_refused (parts_of ls s) 0 (joined_with (whole_facts ls s)) a, t)

  -- some rule names it
  rule : Answered ls s (joined ls s)
  rule = go (parts_wrong ls s) refl (became (parts_of ls s)) (too_large (whole_facts ls s)) refl
    where
      go : (b : Bool) → parts_wrong ls s ≡ b → Became (parts_of ls s) → (t : Bool) → too_large (whole_facts ls s) ≡ t → Answered ls s (joined ls s)
      go true e w t f = rw (named (by_wrong e)) (by_wrong e)
      go false e (one i r p) t f = rw (named (by_part i r e p)) (by_part i r e p)
      go false e (all a) true f = rw (named (by_limit e a f)) (by_limit e a f)
      go false e (all a) false f = rw (named (by_facts e a f)) (by_facts e a f)

  ruled : (x : Result Facts JoinError) → joined ls s ≡ x → Answered ls s x
  ruled x e = rw e at rule

  wrong_ruled : Answered ls s (Err (Whole (refusal 47 0))) → parts_wrong ls s ≡ true
  wrong_ruled (by_wrong e) = e

  part_ruled : {i : ℕ} {r : Refusal} → Answered ls s (Err (InPart i r)) → (parts_wrong ls s ≡ false) × RefusedFirst (parts_of ls s) i r
  part_ruled (by_part i r e p) = (e, p)

  limit_ruled : Answered ls s (Err (Whole (refusal 48 0))) → (parts_wrong ls s ≡ false) × AllAccepted (parts_of ls s) × (too_large (whole_facts ls s) ≡ true)
  limit_ruled (by_limit e a t) = (e, a, t)

  facts_ruled : {f : Facts} → Answered ls s (Ok f) → (parts_wrong ls s ≡ false) × AllAccepted (parts_of ls s) × (too_large (whole_facts ls s) ≡ false) × (whole_facts ls s ≡ f)
  facts_ruled (by_facts e a t) = (e, a, t, refl)

  refused_ruled : {r : Refusal} → Answered ls s (Err (Whole r)) → (r ≡ refusal 47 0) ⊎ (r ≡ refusal 48 0)
  refused_ruled (by_wrong e) = inl refl
  refused_ruled (by_limit e a t) = inr refl

  pub joined_exactly : Exactly ls s
  joined_exactly =
      record {
        wrong = ((λ h. wrong_ruled (ruled _ h)), (λ e. named (by_wrong e)));
        in_part_lem = λ i r. ((λ h. part_ruled (ruled _ h)), (λ p. named (by_part i r p.0 p.1)));
        large = ((λ h. limit_ruled (ruled _ h)), (λ p. named (by_limit p.0 p.1 p.2)));
        written = λ f. ((λ h. facts_ruled (ruled _ h)), (λ p. named (by_facts p.0 p.1 p.2) ∙ ap Ok p.3));
        no_other = λ r h. refused_ruled (ruled _ h);
      }

  -- "The result passes every table check", with the facts of the answer
  pub joined_passes : (f : Facts) → joined ls s ≡ Ok f → loaded (joined_bytes (parts_of ls s)) ≡ Ok f
  joined_passes f h =
      let e = (joined_exactly.written f).0 h in
      let v = lent ls s e.0 in
      let k = few_of _ _ e.2 in
      joined_whole (parts_of ls s) (omega (arith, v.some, parts_length ls s)) (λ i l. (facts_of (table_of (get_or (parts_of ls s) i [])), e.1 i l)) k.0 k.1 ∙ ap Ok e.3

  -- head, entries and actions
  pub joined_size_lem : (f : Facts) → joined ls s ≡ Ok f → length (joined_bytes (parts_of ls s)) ≡ 4 + 4 * f.threads + 4 * f.actions
  unfolding facts_of table_of
  joined_size_lem f h =
      let p = joined_passes f h in
      let e = accepted_facts (joined_bytes (parts_of ls s)) f p in
      let r = (accepted_exactly (joined_bytes (parts_of ls s))).0 (p ∙ ap Ok e) in
      let z : Sizes (joined_bytes (parts_of ls s)) (threads_of (joined_bytes (parts_of ls s))) (actions_of (joined_bytes (parts_of ls s))) =
      sizes (record { head = r.head; threads = refl; actions = refl }) in
      rw e z.total
