-- Equal forms exactly when one table becomes the other by renaming threads.
use Prim.Native.Nat.{ℕ, ◌+◌, ◌<◌}
use native.Mathlib.Omega.{arith}
use mathlib.Core.Path.{◌≡◌, refl, sym, ap, ◌∙◌}
use mathlib.Core.Logic.{◌↔◌}
use lib.ListN.{get_or}
use Rattle.table.specs.Format.{Table, kind, kind_of}
use Rattle.table.specs.declared.kinds.Kind.{Kind}
use Rattle.table.specs.declared.kinds.Kind.TheVariants.{End as end, Work as work, Alloc as alloc, Free as free, Fork as fork, Join as join, Unknown as unknown}
use Rattle.table.proofs.Bodies.{fork_below_lem, join_below}
use Rattle.table.proofs.Amounts.{action_within}
use Rattle.order.proofs.Lawful.{Lawful}
use Rattle.table.specs.Written.{written}
use Rattle.parts.proofs.Short.{Short}
use Rattle.parts.specs.Copies.{renamed, Copies}
use Rattle.canonical.specs.Renames.{Renames}
use Rattle.canonical.specs.Canonical.{thread_order, new_number, canonical_bodies}
use Rattle.canonical.proofs.Order.{new_back, new_at, thread_at}
use Rattle.canonical.proofs.Renaming.{bodies_same}
use Rattle.canonical.proofs.FormRenames.{form, form_copies, form_threads, form_renames}

-- ---- one renaming after another

renamed_both : (f g : ℕ → ℕ) (k : Kind) (x : ℕ) → renamed g k (renamed f k x) ≡ renamed (λ y. g (f y)) k x
renamed_both f g end x = refl
renamed_both f g work x = refl
renamed_both f g alloc x = refl
renamed_both f g free x = refl
renamed_both f g fork x = refl
renamed_both f g join x = refl
renamed_both f g unknown x = refl

pub renames_both : (T U W : Table) → Renames T U → Renames U W → Renames T W
renames_both T U W r s =
    let f : ℕ → ℕ = r.to in
    let g : ℕ → ℕ = s.to in
    let a = r.copies in
    let b = s.copies in
    record {
      to = λ t. g (f t);
      root = ap g r.root ∙ s.root;
      threads = s.threads ∙ r.threads;
      copies =
          record {
            within = λ t h. b.within (f t) (a.within t h);
            apart = λ t u h k e. a.apart t u h k (b.apart (f t) (f u) (a.within t h) (a.within u k) e);
            counts = λ t h. b.counts (f t) (a.within t h) ∙ a.counts t h;
            codes = λ t i h k. b.codes (f t) i (a.within t h) (omega (arith, a.counts t h)) ∙ a.codes t i h k;
            arguments = λ t i h k.
                let p : W.argument (W.first (g (f t)) + i) ≡ renamed g (kind U (U.first (f t) + i)) (U.argument (U.first (f t) + i)) = b.arguments (f t) i (a.within t h) (omega (arith, a.counts t h)) in
                let q : kind U (U.first (f t) + i) ≡ kind T (T.first t + i) = ap kind_of (a.codes t i h k) in
                p ∙ rw (q, a.arguments t i h k) (renamed_both f g (kind T (T.first t + i)) (T.argument (T.first t + i)));
          };
    }

-- ---- from the form back to the table

back_root : (T : Table) → get_or (thread_order T) 0 0 ≡ 0
unfolding thread_order
back_root T = refl

module _ (T : Table) (l : Lawful T) (s : Short T) where
  abbrev back : ℕ → ℕ
  back i = get_or (thread_order T) i 0

  abbrev C : Table
  C = form T l s

  back_argument : (t i : ℕ) → t < T.threads → i < T.count t → (k : Kind) → kind T (T.first t + i) ≡ k
      → T.argument (T.first t + i) ≡ renamed back k (renamed (new_number T) k (T.argument (T.first t + i)))
  back_argument t i h j end q = refl
  back_argument t i h j work q = refl
  back_argument t i h j alloc q = refl
  back_argument t i h j free q = refl
  back_argument t i h j fork q = sym (new_back T l (T.argument (T.first t + i)) (fork_below_lem T l.contents l.bodies (T.first t + i) (action_within T l.contents l.bodies t i h j) q))
  back_argument t i h j join q = sym (new_back T l (T.argument (T.first t + i)) (join_below T l.contents l.bodies (T.first t + i) (action_within T l.contents l.bodies t i h j) q))
  back_argument t i h j unknown q = refl

  y : Copies T C (new_number T)
  y = form_copies T l s

  inside : (u : ℕ) → u < C.threads → u < T.threads
  inside u h = omega (arith, form_threads T l s)

  count_back : (u : ℕ) → u < C.threads → T.count (back u) ≡ C.count u
  count_back u h = sym (y.counts (back u) (thread_at T l u (inside u h))) ∙ ap C.count (new_at T l u (inside u h))

  pub back_renames : Renames C T
  back_renames =
      record {
        to = back;
        root = root;
        threads = sym (form_threads T l s);
        copies =
            record {
              within = λ u h. thread_at T l u (inside u h);
              apart = λ u v h k e. sym (new_at T l u (inside u h)) ∙ ap (new_number T) e ∙ new_at T l v (inside v k);
              counts = count_back;
              codes = λ u i h k. codes u i h k;
              arguments = λ u i h k. arguments u i h k;
            };
      }
    where
      root : back 0 ≡ 0
      root = back_root T

      codes : (u i : ℕ) → u < C.threads → i < C.count u → T.code (T.first (back u) + i) ≡ C.code (C.first u + i)
      codes u i h k =
          sym (y.codes (back u) i (thread_at T l u (inside u h)) (omega (arith, count_back u h)))
          ∙ ap (λ (v : ℕ). C.code (C.first v + i)) (new_at T l u (inside u h))

      arguments : (u i : ℕ) → u < C.threads → i < C.count u → T.argument (T.first (back u) + i) ≡ renamed back (kind C (C.first u + i)) (C.argument (C.first u + i))
      arguments u i h k =
          let t : ℕ = back u in
          let w : t < T.threads = thread_at T l u (inside u h) in
          let j : i < T.count t = omega (arith, count_back u h) in
          let e : C.first u + i ≡ C.first (new_number T t) + i = ap (λ (v : ℕ). C.first v + i) (sym (new_at T l u (inside u h))) in
          let q : kind C (C.first (new_number T t) + i) ≡ kind T (T.first t + i) = ap kind_of (y.codes t i w j) in
          rw (e, q, y.arguments t i w j) (back_argument t i w j (kind T (T.first t + i)) refl)

-- "equal bytes in this form exactly when one becomes the other by renaming threads"
pub forms_equal : (T U : Table) → Lawful T → Short T → Lawful U → Short U → (written (canonical_bodies T) ≡ written (canonical_bodies U)) ↔ Renames T U
forms_equal T U l s k r =
    ((λ e. renames_both T (form T l s) U (form_renames T l s) (subst_form e)), (λ q. ap written (sym (bodies_same T U q l.some_thread l.contents l.bodies k.contents k.bodies))))
  where
    subst_form : written (canonical_bodies T) ≡ written (canonical_bodies U) → Renames (form T l s) U
    subst_form e = rw e (back_renames U k r)
