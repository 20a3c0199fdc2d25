use mathlib.Core.Path.{◌≡◌, refl, sym, ◌∙◌}
use Prim.Native.Nat.{ℕ, ◌+◌, ◌≤◌, ◌<◌}
use mathlib.Core.List.{List, [], ◌∷◌, ◌++◌}
use mathlib.Core.Bool.{Bool, true, false, ◌||◌, or_assoc, or-false, or-true}
use native.Mathlib.Decide.{ℕ_discrete}
use native.Mathlib.Numerals.{add-one}
use native.Mathlib.Omega.{arith}
use borrow.Author.Tests.{lt-ltb, le-ltb, eq-eqb, ne_eqb}
use lib.Dec.{ltb, eqb}
use lib.ListN.{length, get_or, take, set, replicate, length-set, length-replicate, length-take}
use lib.Seq.{take-suc, get_or-take, get_or-set_same, get_or-set_other}
use Rattle.table.proofs.Tests.{no_way}
use Rattle.order.specs.Words.{all_in, member}
use Rattle.order.proofs.Lists.{get_d_alike, get_d_member}
use Rattle.order.proofs.Words.{and_exactly, all_in_exactly, never_true, not_both}
use Rattle.soundness.proofs.listed.mark_listed.Invariants.{Inv}
use Rattle.soundness.proofs.listed.mark_listed.Goals as goal

all_in_snoc : (f : ℕ → Bool) (l : List ℕ) (x : ℕ) → all_in f l ≡ true → f x ≡ true → all_in f (l ++ x ∷ []) ≡ true
unfolding all_in
all_in_snoc f [] x h e = rw e
all_in_snoc f (y ∷ l) x h e =
    let p : (f y ≡ true) × (all_in f l ≡ true) = (and_exactly (f y) (all_in f l)).0 h in
    rw p.0 (all_in_snoc f l x p.1 e)

member_snoc : (y : ℕ) (l : List ℕ) (x : ℕ) → member y (l ++ x ∷ []) ≡ (member y l || eqb y x)
unfolding member
member_snoc y [] x = or-false (eqb y x)
member_snoc y (z ∷ l) x = rw (member_snoc y l x) (sym (or_assoc (eqb y z) (member y l) (eqb y x)))

start : (n : ℕ) (list : List ℕ) (len : ℕ) (marks : List Bool) → (n ≤ 1024) × (len ≤ 1024) × (length list ≡ 1024) → marks ≡ replicate 1024 false
    → Inv n list len marks 0
unfolding all_in member
start n list len marks h e =
    record {
      threads = h.0;
      places = h.1;
      size = h.2;
      room = rw e (length-replicate 1024 false);
      within = omega arith;
      below = refl;
      marked = λ t. rw e (get_d_alike 1024 t false);
    }

module _ (n : ℕ) (list : List ℕ) (len : ℕ) (marks : List Bool) (i : ℕ) (p : Inv n list len marks i) where
  again : i < len → get_or list i 0 < n → Inv n list len (set marks (get_or list i 0) true) (i + 1)
  again h e =
      record {
        threads = p.threads;
        places = p.places;
        size = p.size;
        room = simp length-set p.room;
        within = omega arith;
        below = rw one_more (all_in_snoc _ (take i list) (get_or list i 0) p.below (lt-ltb _ _ e));
        marked = λ t. rw one_more (at t (ℕ_discrete t (get_or list i 0)));
      }
    where
      one_more : take (i + 1) list ≡ take i list ++ get_or list i 0 ∷ []
      one_more = rw add-one (take-suc list i 0 (omega (arith, p.size, p.places)))

      at : (t : ℕ) → Dec (t ≡ get_or list i 0) → get_or (set marks (get_or list i 0) true) t false ≡ member t (take i list ++ get_or list i 0 ∷ [])
      at t (yes d) =
          rw (
            d,
            get_or-set_same marks (get_or list i 0) true false (omega (arith, p.threads, p.room)),
            member_snoc (get_or list i 0) (take i list) (get_or list i 0),
            eq-eqb (get_or list i 0) (get_or list i 0) refl,
          ) (sym (or-true (member (get_or list i 0) (take i list))))
      at t (no d) =
          rw (
            get_or-set_other marks (get_or list i 0) t true false d,
            member_snoc t (take i list) (get_or list i 0),
            ne_eqb t (get_or list i 0) d,
          ) (p.marked t ∙ sym (or-false (member t (take i list))))

  stops : i < len → n ≤ get_or list i 0 → false ≡ all_in (λ t. ltb t n) (take len list)
  stops h e =
      let m : i < length (take len list) = simp length-take (omega (arith, p.size, p.places)) in
      sym (never_true _ (λ q. not_both (ltb (get_or list i 0) n)
      (rw (get_or-take len list i 0 h) at ((all_in_exactly (λ t. ltb t n) (take len list)).0 q (get_or (take len list) i 0) (get_d_member (take len list) i 0 m)))
      (le-ltb (get_or list i 0) n e)))

  ends : len ≤ i → (true ≡ all_in (λ t. ltb t n) (take len list)) × (true ≡ true → (t : ℕ) → get_or marks t false ≡ member t (take len list))
  ends h =
      let z : i ≡ len = omega arith in
      (sym (rw z at p.below), (λ e t. rw z at (p.marked t)))

pub overflow_cast-threads : goal.overflow_cast-threads
overflow_cast-threads c = omega (arith, c.requires.n_bound.0)

pub loop-i-init : goal.loop-i-init
loop-i-init c = start _ c.args.list.now _ c.args.marks.now c.requires.n_bound c.requires.marks_value

pub offset_bounds-list-i : goal.offset_bounds-list-i
offset_bounds-list-i c = omega arith

pub bounds-list-i : goal.bounds-list-i
bounds-list-i c = omega arith

pub returns-then-threads-t : goal.returns-then-threads-t
returns-then-threads-t c = record { value = stops _ c.args.list.now _ _ _ c.loop-i.invariant c.loop-i-test.true c.if-threads-t.true; false_after = (λ e. no_way (cc)) }

pub overflow_cast-marks : goal.overflow_cast-marks
overflow_cast-marks c = omega arith

pub bounds-marks-t : goal.bounds-marks-t
bounds-marks-t c = omega arith

pub loop-i-preserved : goal.loop-i-preserved
loop-i-preserved c =
    again _ c.args.list.now _ _ _ c.loop-i.invariant c.loop-i-test.true c.if-threads-t.false

pub returns : goal.returns
returns c = let both = ends _ c.args.list.now _ _ _ c.loop-i.invariant c.loop-i-test.false in record { value = both.0; false_after = both.1 }
