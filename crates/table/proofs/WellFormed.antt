-- Checks 1 to 7 against the sentences: sizes, bodies that follow each other, kinds, arguments, one end in each body. Both ways.
use mathlib.Core.Path.{◌≡◌, refl, sym, ◌∙◌}
use mathlib.Core.Logic.{◌↔◌}
use Prim.Native.Nat.{ℕ, zero, suc, ◌+◌, ◌*◌, ◌≤◌, ◌<◌}
use mathlib.Core.List.{List}
use mathlib.Core.Bool.{Bool, true, false, ◌&&◌}
use native.Mathlib.Decide.{ℕ_discrete}
use native.Mathlib.Omega.{arith}
use borrow.Author.Tests.{le-ltb, lt-ltb, le-leb, leb-true, ltb-true, eqb-true, eq-eqb, ne_eqb, not-false}
use lib.Dec.{ltb, eqb}
use lib.ListN.{length}
use Rattle.table.specs.Sum.{sum_to}
use Rattle.table.specs.Format.{code_of, kind_of, is, Table, kind, threads_of, actions_of}
use Rattle.table.specs.declared.kinds.Kind.{Kind}
use Rattle.table.specs.declared.kinds.Kind.TheVariants.{End as end, Work as work, Alloc as alloc, Free as free, Fork as fork, Join as join, Unknown as unknown}
use Rattle.table.specs.Checks.{outside, counts_below, entry_wrong, total_wrong, owner, end_of, kind_unknown, argument_fits, argument_wrong, differ, end_misplaced}
use Rattle.table.specs.Rules.{HeadRules, ContentRules, BodyRules}
use Rattle.table.specs.Code.Steps.{Headed}
use Rattle.table.specs.JobTable.{Sized, InBody, LaidOut, Argument, OneEnd, WellFormed}
use Rattle.table.proofs.Tests.{no_way, and_both, is_true, same_is}
use Rattle.table.proofs.Sizes.{Sizes, sizes}
use Rattle.table.proofs.Bodies.{first_is, first_next, last_ends, after_end, end_within, owner_of_end, owner_below_lem, kind_known, end_kind, end_last}
use Rattle.table.proofs.Unjoined.{in_body, body_owner, body_action}

-- ---- the head

pub not_outside : (low high x : ℕ) → low ≤ x → x ≤ high → outside low high x ≡ false
not_outside low high x h k = rw (le-ltb x low h) (le-ltb high x k)

pub head_sized : (s : List ℕ) → HeadRules s ↔ Sized s
head_sized s = (to, from)
  where
    to : HeadRules s → Sized s
    to h =
        let d : Headed s (threads_of s) (actions_of s) = record { head = h; threads = refl; actions = refl } in
        let z : Sizes s (threads_of s) (actions_of s) = sizes d in
        record {
          threads_least = z.threads_low;
          threads_most = z.threads_high;
          actions_least = z.actions_low;
          actions_most = z.actions_high;
          bytes = z.total;
        }

    from : Sized s → HeadRules s
    from z =
        record {
          long = le-ltb (length s) 4 (omega (arith, z.bytes));
          ranged = rw (not_outside 1 1024 (threads_of s) z.threads_least z.threads_most) (not_outside 1 8192 (actions_of s) z.actions_least z.actions_most);
          sized = rw (eq-eqb (length s) (4 + 4 * threads_of s + 4 * actions_of s) z.bytes);
        }

-- ---- the contents

pub contents_laid : (T : Table) → 0 < T.threads → ContentRules T → LaidOut T
unfolding sum_to
contents_laid T h c = record { begins = first_is T c 0 h; follows = first_next T c; closes = last_ends T c }

module _ (T : Table) (h : 0 < T.threads) (l : LaidOut T) (w : WellFormed T) where
  laid_first : (t : ℕ) → t < T.threads → T.first t ≡ counts_below T t
  unfolding sum_to
  laid_first zero k = l.begins
  laid_first (suc t) k = omega (arith, l.follows t k, laid_first t (omega arith))

  laid_total : counts_below T T.threads ≡ T.actions
  unfolding sum_to
  laid_total = go T.threads refl
    where
      go : (n : ℕ) → T.threads ≡ n → counts_below T n ≡ T.actions
      go zero e = absurd (omega arith)
      go (suc t) e = omega (arith, l.closes t (sym e), laid_first t (omega arith))

  pub laid_contents : ContentRules T
  unfolding entry_wrong total_wrong
  laid_contents =
      record {
        entries = λ t k.
            let i : InBody T t (w.ended t k).action = (w.ended t k).within in
            rw (eq-eqb (T.first t) (counts_below T t) (laid_first t k)) (ne_eqb (T.count t) 0 (λ e. omega (arith, i.from, i.below)));
        total = rw (eq-eqb (counts_below T T.threads) T.actions laid_total);
      }

-- ---- kinds and arguments

code_known : (k : ℕ) → (is unknown (kind_of k) ≡ false) ↔ (k ≤ 5)
unfolding is code_of kind_of
code_known zero = ((λ h. omega arith), (λ h. refl))
code_known (suc zero) = ((λ h. omega arith), (λ h. refl))
code_known (suc (suc zero)) = ((λ h. omega arith), (λ h. refl))
code_known (suc (suc (suc zero))) = ((λ h. omega arith), (λ h. refl))
code_known (suc (suc (suc (suc zero)))) = ((λ h. omega arith), (λ h. refl))
code_known (suc (suc (suc (suc (suc zero))))) = ((λ h. omega arith), (λ h. refl))
code_known (suc (suc (suc (suc (suc (suc k)))))) = ((λ h. no_way (cc)), (λ h. absurd (omega arith)))

module _ (T : Table) (t : ℕ) where
  child_fits : (x : ℕ) → ((ltb t x && ltb x T.threads) ≡ true) ↔ ((t < x) × (x < T.threads))
  child_fits x = (
    (λ h.
        let (p, q) = and_both (ltb t x) (ltb x T.threads) h in
        (ltb-true t x p, ltb-true x T.threads q)),
    (λ h. rw (lt-ltb t x h.0) (lt-ltb x T.threads h.1)),
  )

  argument_fits_lem : (k : Kind) (x : ℕ) → (k ≡ unknown → ⊥) → (argument_fits k t T.threads x ≡ true) ↔ Argument T t k x
  argument_fits_lem end x u = (eqb-true x 0, eq-eqb x 0)
  argument_fits_lem work x u = (eqb-true x 0, eq-eqb x 0)
  argument_fits_lem alloc x u = (leb-true 1 x, le-leb 1 x)
  argument_fits_lem free x u = (leb-true 1 x, le-leb 1 x)
  argument_fits_lem fork x u = child_fits x
  argument_fits_lem join x u = child_fits x
  argument_fits_lem unknown x u = absurd (u refl)

-- ---- both ways

differ_same : (s t : Bool) → s ≡ t → differ s t ≡ false
differ_same true t e = rw (sym e)
differ_same false t e = sym e

module _ (T : Table) (c : ContentRules T) where
  end_in_body : (t : ℕ) → t < T.threads → InBody T t (end_of T t)
  end_in_body t h = in_body T c t (end_of T t) (end_within T c t h) (owner_of_end T c t h)

  bodies_formed : BodyRules T → WellFormed T
  unfolding kind_unknown argument_wrong
  bodies_formed b =
      record {
        kinds = λ a h. (code_known (T.code a)).0 (b.kinds a h);
        arguments = λ t a i.
            let h : a < T.actions = body_action T c t a i in
            let f : argument_fits (kind T a) (owner T a) T.threads (T.argument a) ≡ true = not-false _ (b.arguments a h) in
            (argument_fits_lem T t (kind T a) (T.argument a) (kind_known T c b a h)).0 (rw (body_owner T c t a i) at f);
        ended = λ t h.
            record {
              action = end_of T t;
              within = end_in_body t h;
              ends = end_kind T c b t h;
              only = λ a i k. rw (body_owner T c t a i) at (end_last T c b a (body_action T c t a i) k);
              last = λ a i. omega (arith, i.below, after_end T c t h);
            };
      }

  formed_bodies : WellFormed T → BodyRules T
  unfolding kind_unknown argument_wrong end_misplaced
  formed_bodies w =
      record {
        kinds = λ a h. (code_known (T.code a)).1 (w.kinds a h);
        arguments = λ a h.
            rw ((argument_fits_lem T (owner T a) (kind T a) (T.argument a) (known a h)).1 (w.arguments (owner T a) a (here a h)));
        ends = λ a h. differ_same _ _ (ends a h (ℕ_discrete a (w.ended (owner T a) (owner_below_lem T c a h)).action));
      }
    where
      here : (a : ℕ) → a < T.actions → InBody T (owner T a) a
      here a h = in_body T c (owner T a) a h refl

      known : (a : ℕ) → a < T.actions → kind T a ≡ unknown → ⊥
      known a h e = no_way (cc ((code_known (T.code a)).1 (w.kinds a h), same_is unknown (kind T a) e))

      last_is : (t : ℕ) (h : t < T.threads) → (w.ended t h).action ≡ end_of T t
      last_is t h =
          let o : OneEnd T t = w.ended t h in
          let i : InBody T t o.action = o.within in
          omega (arith, o.last (end_of T t) (end_in_body t h), i.below, after_end T c t h)

      ends : (a : ℕ) (h : a < T.actions) → Dec (a ≡ (w.ended (owner T a) (owner_below_lem T c a h)).action) → is end (kind T a) ≡ eqb a (end_of T (owner T a))
      ends a h (yes e) =
          let t : ℕ = owner T a in
          let l : t < T.threads = owner_below_lem T c a h in
          same_is end (kind T a) (rw e (w.ended t l).ends) ∙ sym (eq-eqb a (end_of T t) (e ∙ last_is t l))
      ends a h (no d) = no_end (is end (kind T a)) refl ∙ sym (ne_eqb a (end_of T t) (λ e. d (e ∙ sym (last_is t l))))
        where
          t : ℕ
          t = owner T a

          l : t < T.threads
          l = owner_below_lem T c a h

          no_end : (s : Bool) → is end (kind T a) ≡ s → s ≡ false
          no_end true e = absurd (d ((w.ended t l).only a (here a h) (is_true end (kind T a) e)))
          no_end false e = refl

  pub bodies_exactly : BodyRules T ↔ WellFormed T
  bodies_exactly = (bodies_formed, formed_bodies)
