-- "every thread of the table is exactly one of these ..", "A worker owns one deque while it holds a thread and otherwise none": kept by every turn.
use mathlib.Core.Path.{◌≡◌, refl, sym, subst}
use Prim.Native.Nat.{ℕ, suc, ◌+◌, ◌≤◌, ◌<◌}
use mathlib.Core.List.{List, [], ◌∷◌}
use mathlib.Core.Bool.{Bool, true, false}
use native.Mathlib.Omega.{arith}
use native.Mathlib.Decide.{ℕ_discrete, dec_lt}
use lib.ListN.{length, get_or, set}
use lib.Seq.{get_or-set_same, get_or-set_other}
use lib.Dec.{eqb}
use borrow.Author.Tests.{eqb-true, ne_eqb, eq-eqb}
use Rattle.table.specs.Sum.{pick}
use Rattle.schedule.specs.declared.Worker.{Worker}
use Rattle.schedule.specs.Memory.{count_in}
use Rattle.schedule.specs.Machine.{ready, held, nobody}
use Rattle.deques.specs.Deques.{Deque, deque, nothing, place_of, own, push, disown}
use Rattle.deques.specs.Partition.{ready_at, holds_at, PlacedDeques, occurs, owned_by, owns, AllInUse}
use Rattle.deques.proofs.Placed.{own_occurs, own_owned, own_in_use}

-- ---- statuses and workers, place by place

pub ready_here : (status : List ℕ) (t x : ℕ) → t < length status → ready_at (set status t x) t ≡ pick (eqb x ready) 1 0
ready_here status t x h = rw (get_or-set_same status t x 0 h)

pub ready_there : (status : List ℕ) (t x u : ℕ) → (u ≡ t → ⊥) → ready_at (set status t x) u ≡ ready_at status u
ready_there status t x u n = rw (get_or-set_other status t u x 0 n)

pub holds_here : (workers : List Worker) (w : ℕ) (y : Worker) → w < length workers → holds_at (set workers w y) w ≡ pick y.holds 1 0
holds_here workers w y h = rw (get_or-set_same workers w y nobody h)

pub holds_there : (workers : List Worker) (w : ℕ) (y : Worker) (v : ℕ) → (v ≡ w → ⊥) → holds_at (set workers w y) v ≡ holds_at workers v
holds_there workers w y v n = rw (get_or-set_other workers w v y nobody n)

-- ---- what the deques of a run keep

-- where worker w is released and its deque not yet: the threads of e are ready and in no deque
pub record Releasing (n : ℕ) (e : ℕ → ℕ) (w : ℕ) (status : List ℕ) (workers : List Worker) (ds : List Deque) : Type 0 where
  pub once : (t : ℕ) → t < n → occurs t ds + e t ≡ ready_at status t
  pub none : (t : ℕ) → n ≤ t → occurs t ds ≡ 0
  pub mine : owned_by w ds ≡ 1
  pub free : holds_at workers w ≡ 0
  pub others : (v : ℕ) → v < 16 → (v ≡ w → ⊥) → owned_by v ds ≡ holds_at workers v
  pub in_use : AllInUse ds

mine_owner : (w : ℕ) (ds : List Deque) → (owned_by w ds ≡ 0 → ⊥) → (get_or ds (place_of w ds) nothing).owner ≡ w
unfolding place_of owned_by
mine_owner w [] n = absurd (n refl)
mine_owner w (d ∷ ds) n = go (eqb d.owner w) refl (mine_owner w ds)
  where
    go : (q : Bool) → eqb d.owner w ≡ q → ((owned_by w ds ≡ 0 → ⊥) → (get_or ds (place_of w ds) nothing).owner ≡ w)
        → (get_or (d ∷ ds) (pick q 0 (suc (place_of w ds))) nothing).owner ≡ w
    go true e ih = eqb-true d.owner w e
    go false e ih = ih (λ z. n (rw (e, z)))

pub one_is : (x : ℕ) → pick {A = ℕ} (eqb x x) 1 0 ≡ 1
one_is x = rw (eq-eqb x x refl)

pub none_is : (x y : ℕ) → (x ≡ y → ⊥) → pick {A = ℕ} (eqb x y) 1 0 ≡ 0
none_is x y n = rw (ne_eqb x y n)

pub pick_one : (q : Bool) → pick {A = ℕ} q 1 0 ≤ 1
pick_one true = omega arith
pick_one false = omega arith

module _ (n w : ℕ) (few : w < 16) (status : List ℕ) (workers : List Worker) (ds : List Deque) (small : n ≤ length status) (wide : w < length workers) where
  abbrev mine_of : Deque
  mine_of = get_or ds (place_of w ds) nothing

  -- the worker's deque comes to another owner or none
  owners : (f : Deque → Deque) (o v : ℕ) → v < 16 → (f mine_of).owner ≡ o → owned_by w ds ≡ 1 → owned_by v (own w f ds) + pick (eqb w v) 1 0 ≡ pick (eqb o v) 1 0 + owned_by v ds
  owners f o v i e m =
      let some : owned_by w ds ≡ 0 → ⊥ = λ z. omega (arith, z, m) in
      let a : owned_by v (own w f ds) + owns v mine_of ≡ owns v (f mine_of) + owned_by v ds = own_owned w f v i ds some in
      let b : owned_by v (own w f ds) + pick (eqb w v) 1 0 ≡ owns v (f mine_of) + owned_by v ds = subst (λ (k : ℕ). owned_by v (own w f ds) + pick (eqb k v) 1 0 ≡ owns v (f mine_of) + owned_by v ds) (mine_owner w ds some) a in
      subst (λ (k : ℕ). owned_by v (own w f ds) + pick (eqb w v) 1 0 ≡ pick (eqb k v) 1 0 + owned_by v ds) e b

  -- it keeps its owner, which holds a thread
  keeps : (f : Deque → Deque) (y : Worker) → (f mine_of).owner ≡ w → y.holds ≡ true → (e : ℕ → ℕ) → Releasing n e w status workers ds
      → (v : ℕ) → v < 16 → owned_by v (own w f ds) ≡ holds_at (set workers w y) v
  keeps f y o h e x v i = go (ℕ_discrete v w)
    where
      go : Dec (v ≡ w) → owned_by v (own w f ds) ≡ holds_at (set workers w y) v
      go (yes z) = rw (z, holds_here workers w y wide, h) (omega (arith, owners f w w few o x.mine, one_is w, x.mine))
      go (no z) = rw (holds_there workers w y v z) (omega (arith, owners f w v i o x.mine, none_is w v (λ q. z (sym q)), x.others v i z))

  -- it is given up or leaves
  gives : (f : Deque → Deque) → (f mine_of).owner ≡ 16 → (e : ℕ → ℕ) → Releasing n e w status workers ds → (v : ℕ) → v < 16 → owned_by v (own w f ds) ≡ holds_at workers v
  gives f o e x v i = go (ℕ_discrete v w)
    where
      go : Dec (v ≡ w) → owned_by v (own w f ds) ≡ holds_at workers v
      go (yes z) = rw z (omega (arith, owners f 16 w few o x.mine, one_is w, none_is 16 w (λ q. omega arith), x.mine, x.free))
      go (no z) = omega (arith, owners f 16 v i o x.mine, none_is w v (λ q. z (sym q)), none_is 16 v (λ q. omega arith), x.others v i z)

  -- the deque's top thread is held
  pub pop : (t2 : ℕ) (l : List ℕ) (y : Worker) → y.holds ≡ true → mine_of.threads ≡ t2 ∷ l → Releasing n (λ u. 0) w status workers ds
      → PlacedDeques n (set status t2 held) (set workers w y) (own w (λ d. deque w l) ds)
  unfolding count_in
  pop t2 l y h m x =
      record {
        once = λ u i. at u i (ℕ_discrete u t2);
        none = λ u i. omega (arith, count u, x.none u i);
        owned = keeps (λ d. deque w l) y refl h (λ u. 0) x;
        in_use = own_in_use w (λ d. deque w l) (λ d i. omega arith) ds x.in_use;
      }
    where
      some : owned_by w ds ≡ 0 → ⊥
      some z = omega (arith, z, x.mine)

      count : (u : ℕ) → occurs u (own w (λ d. deque w l) ds) + pick (eqb t2 u) 1 0 ≡ occurs u ds
      count u =
          let a : occurs u (own w (λ d. deque w l) ds) + count_in u (t2 ∷ l) ≡ count_in u l + occurs u ds =
          subst (λ (k : List ℕ). occurs u (own w (λ d. deque w l) ds) + count_in u k ≡ count_in u l + occurs u ds) m (own_occurs w (λ d. deque w l) u ds some) in
          omega (arith, a)

      below : t2 < n
      below = go (dec_lt t2 n)
        where
          go : Dec (t2 < n) → t2 < n
          go (yes i) = i
          go (no i) = absurd (omega (arith, count t2, one_is t2, x.none t2 (omega (arith, i))))

      at : (u : ℕ) → u < n → Dec (u ≡ t2) → occurs u (own w (λ d. deque w l) ds) ≡ ready_at (set status t2 held) u
      at u i (yes e) =
          rw (e, ready_here status t2 held (omega (arith, below, small))) (omega (arith, count t2, one_is t2, x.once t2 below, pick_one (eqb (get_or status t2 0) ready)))
      at u i (no e) = rw (ready_there status t2 held u e) (omega (arith, count u, none_is t2 u (λ z. e (sym z)), x.once u i))

  -- "with none there, its deque leaves the list"
  pub leaves : mine_of.threads ≡ [] → Releasing n (λ u. 0) w status workers ds → PlacedDeques n status workers (own w disown ds)
  leaves m x =
      record {
        once = λ u i. omega (arith, count u, x.once u i);
        none = λ u i. omega (arith, count u, x.none u i);
        owned = gives disown refl (λ u. 0) x;
        in_use = own_in_use w disown (λ d i. omega arith) ds x.in_use;
      }
    where
      count : (u : ℕ) → occurs u (own w disown ds) ≡ occurs u ds
      count u = omega (arith, own_occurs w disown u ds (λ z. omega (arith, z, x.mine)))

  -- thread t comes on top, and the owner holds a thread or gives the deque up
  pushes : (f : Deque → Deque) (t u : ℕ) → (f mine_of).threads ≡ t ∷ mine_of.threads → owned_by w ds ≡ 1 → occurs u (own w f ds) ≡ pick (eqb t u) 1 0 + occurs u ds
  unfolding count_in
  pushes f t u e m =
      let a : occurs u (own w f ds) + count_in u mine_of.threads ≡ count_in u (t ∷ mine_of.threads) + occurs u ds =
      subst (λ (k : List ℕ). occurs u (own w f ds) + count_in u mine_of.threads ≡ count_in u k + occurs u ds) e (own_occurs w f u ds (λ z. omega (arith, z, m))) in
      omega (arith, a)

  -- a quota stop
  pub stops : (t : ℕ) → t < n → Releasing n (λ u. pick (eqb t u) 1 0) w status workers ds → PlacedDeques n status workers (own w (λ d. disown (push t d)) ds)
  stops t b x =
      record {
        once = λ u i. omega (arith, pushes (λ d. disown (push t d)) t u refl x.mine, x.once u i);
        none = λ u i. omega (arith, pushes (λ d. disown (push t d)) t u refl x.mine, x.none u i, none_is t u (λ q. omega arith));
        owned = gives (λ d. disown (push t d)) refl (λ u. pick (eqb t u) 1 0) x;
        in_use = own_in_use w (λ d. disown (push t d)) (λ d i. omega arith) ds x.in_use;
      }

  -- a fork: t on top, c held
  pub forks : (t c : ℕ) (y : Worker) → y.holds ≡ true → t < n → c < n → (t ≡ c → ⊥) → Releasing n (λ u. pick (eqb t u) 1 0 + pick (eqb c u) 1 0) w status workers ds
      → PlacedDeques n (set status c held) (set workers w y) (own w (push t) ds)
  forks t c y h b k o x =
      record {
        once = λ u i. at u i (ℕ_discrete u c);
        none = λ u i. omega (arith, pushes (push t) t u refl x.mine, x.none u i, none_is t u (λ q. omega arith));
        owned = keeps (push t) y (mine_owner w ds (λ z. omega (arith, z, x.mine))) h (λ u. pick (eqb t u) 1 0 + pick (eqb c u) 1 0) x;
        in_use = own_in_use w (push t) (λ d i. i) ds x.in_use;
      }
    where
      at : (u : ℕ) → u < n → Dec (u ≡ c) → occurs u (own w (push t) ds) ≡ ready_at (set status c held) u
      at u i (yes e) =
          rw (e, ready_here status c held (omega (arith, k, small)))
          (omega (arith, pushes (push t) t c refl x.mine, x.once c k, one_is c, none_is t c o, pick_one (eqb (get_or status c 0) ready)))
      at u i (no e) =
          rw (ready_there status c held u e) (omega (arith, pushes (push t) t u refl x.mine, x.once u i, none_is c u (λ z. e (sym z))))

  -- the parent that it woke is held
  pub wakes : (u : ℕ) (y : Worker) → y.holds ≡ true → u < n → Releasing n (λ v. 0 + pick (eqb u v) 1 0) w status workers ds → PlacedDeques n (set status u held) (set workers w y) ds
  wakes u y h b x =
      record {
        once = λ v i. at v i (ℕ_discrete v u);
        none = x.none;
        owned = λ v i. who v i (ℕ_discrete v w);
        in_use = x.in_use;
      }
    where
      at : (v : ℕ) → v < n → Dec (v ≡ u) → occurs v ds ≡ ready_at (set status u held) v
      at v i (yes e) = rw (e, ready_here status u held (omega (arith, b, small))) (omega (arith, x.once u b, one_is u, pick_one (eqb (get_or status u 0) ready)))
      at v i (no e) = rw (ready_there status u held v e) (omega (arith, x.once v i, none_is u v (λ z. e (sym z))))

      who : (v : ℕ) → v < 16 → Dec (v ≡ w) → owned_by v ds ≡ holds_at (set workers w y) v
      who v i (yes e) = rw (e, holds_here workers w y wide, h) x.mine
      who v i (no e) = rw (holds_there workers w y v e) (x.others v i e)

  -- the top thread is ready
  pub top_ready : (t2 : ℕ) (l : List ℕ) → mine_of.threads ≡ t2 ∷ l → Releasing n (λ u. 0) w status workers ds → (t2 < n) × (get_or status t2 0 ≡ ready)
  unfolding count_in
  top_ready t2 l m x = (below, is_ready_lem (eqb (get_or status t2 0) ready) refl)
    where
      some : 1 ≤ occurs t2 ds
      some =
          let a : occurs t2 (own w disown ds) + count_in t2 (t2 ∷ l) ≡ count_in t2 (t2 ∷ l) + occurs t2 ds =
          subst (λ (k : List ℕ). occurs t2 (own w disown ds) + count_in t2 k ≡ count_in t2 k + occurs t2 ds) m (own_occurs w disown t2 ds (λ z. omega (arith, z, x.mine))) in
          let b : occurs t2 (own w (λ d. deque w []) ds) + count_in t2 (t2 ∷ l) ≡ 0 + occurs t2 ds =
          subst (λ (k : List ℕ). occurs t2 (own w (λ d. deque w []) ds) + count_in t2 k ≡ 0 + occurs t2 ds) m (own_occurs w (λ d. deque w []) t2 ds (λ z. omega (arith, z, x.mine))) in
          omega (arith, b, one_is t2)

      below : t2 < n
      below = go (dec_lt t2 n)
        where
          go : Dec (t2 < n) → t2 < n
          go (yes i) = i
          go (no i) = absurd (omega (arith, some, x.none t2 (omega (arith, i))))

      is_ready_lem : (q : Bool) → eqb (get_or status t2 0) ready ≡ q → get_or status t2 0 ≡ ready
      is_ready_lem true e = eqb-true (get_or status t2 0) ready e
      is_ready_lem false e = absurd (let z : occurs t2 ds + 0 ≡ pick {A = ℕ} false 1 0 = rw e at (x.once t2 below) in omega (arith, z, some))
