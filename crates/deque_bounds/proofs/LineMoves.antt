-- What each move does to a line: a fork, a pop, a waking, a steal.
use mathlib.Core.Path.{◌≡◌, refl, sym, ap, subst, ◌∙◌}
use Prim.Native.Nat.{ℕ, suc, ◌+◌, ◌≤◌, ◌<◌}
use mathlib.Core.List.{List, [], ◌∷◌, Memᴰ}
use mathlib.Core.Bool.{false}
use mathlib.Core.Logic.{◌⊎◌, inl, inr}
use native.Mathlib.Omega.{arith}
use native.Mathlib.Decide.{ℕ_discrete, dec_lt}
use Rattle.table.specs.Format.{Table, kind}
use Rattle.table.specs.declared.kinds.Kind.TheVariants.{Fork as fork}
use Rattle.table.specs.Checks.{owner, end_of}
use Rattle.table.specs.Nested.{nest}
use Rattle.table.proofs.Tests.{no_way}
use Rattle.table.proofs.Bodies.{fork_above}
use Rattle.table.proofs.Nesting.{fork_once}
use Rattle.schedule.specs.Machine.{State, next_of}
use Rattle.order.specs.Order.{number_of}
use Rattle.order.proofs.Lawful.{Lawful}
use Rattle.order.proofs.Words.{Ascends}
use Rattle.deques.specs.Deques.{is_empty, bottom, above}
use Rattle.deque_bounds.proofs.Lines.{Live, Link, NoLiveChildBut, Parted, Chained, Light, Falls, Moved, link_keeps, chained_keeps, link_number, link_nest}
use Rattle.deques.proofs.Bottoms.{bottom_top}

-- no child is thread 0
pub some_child : (T : Table) (l : Lawful T) (x : ℕ) → x < T.actions → kind T x ≡ fork → T.argument x ≡ 0 → ⊥
some_child T l x h k e = omega (arith, fork_above T l.contents l.bodies x h k, e)

-- a thread with one below it does not wait
pub no_child_waits : (T : Table) (l : Lawful T) (J : ℕ → ℕ) (st : State) (t y : ℕ) (k : List ℕ) → Chained T J st 0 (t ∷ y ∷ k)
    → (x : ℕ) → x < T.actions → kind T x ≡ fork → owner T x ≡ t → Live st (T.argument x) → ⊥
unfolding Chained NoLiveChildBut
no_child_waits T l J st t y k c x h f o v = some_child T l x h f (c.1 x h f o v)

module _ (T : Table) (l : Lawful T) (J : ℕ → ℕ) (falls : Falls T J) {K : ℕ} (w t a q : ℕ) (st s : State) (m : Moved T K w t a q st s) (within : a < T.actions) (owned : owner T a ≡ t) where
  -- ---- a fork: the child comes above

  module _ (forks : kind T a ≡ fork) (over : next_of s t ≡ suc a)
      (childless : (x : ℕ) → x < T.actions → kind T x ≡ fork → owner T x ≡ T.argument a → Live st (T.argument x) → ⊥) where
    abbrev c : ℕ
    c = T.argument a

    lower : t < c
    lower = omega (arith, fork_above T l.contents l.bodies a within forks, owned)

    born_of : (x : ℕ) → x < T.actions → kind T x ≡ fork → Live s (T.argument x) → Live st (T.argument x) ⊎ (x ≡ a)
    born_of x h k v = go (m.born (T.argument x) v)
      where
        go : Live st (T.argument x) ⊎ ((kind T a ≡ fork) × (T.argument x ≡ T.argument a)) → Live st (T.argument x) ⊎ (x ≡ a)
        go (inl i) = inl i
        go (inr (i, e)) = inr (fork_once T l.contents l.bodies l.nesting x a h within k i e)

    child_no_child : NoLiveChildBut T s 0 c
    unfolding NoLiveChildBut
    child_no_child x h k o v = go (born_of x h k v)
      where
        go : Live st (T.argument x) ⊎ (x ≡ a) → T.argument x ≡ 0
        go (inl i) = absurd (childless x h k o i)
        go (inr e) = absurd (omega (arith, lower, sym o ∙ ap (owner T) e ∙ owned))

    pub chained_fork : (k : List ℕ) → ((v : ℕ) → Memᴰ v k → v ≡ t → ⊥) → Chained T J st 0 (t ∷ k) → Chained T J s 0 (c ∷ t ∷ k)
    unfolding Chained Parted NoLiveChildBut
    chained_fork k n r = (record { action = a; within = within; forks = forks; names = refl; owned = owned; next = over }, child_no_child, parent k n r)
      where
        parent : (k : List ℕ) → ((v : ℕ) → Memᴰ v k → v ≡ t → ⊥) → Chained T J st 0 (t ∷ k) → Chained T J s c (t ∷ k)
        parent [] n r = λ x h f o v d. part x h f o d (born_of x h f v)
          where
            part : (x : ℕ) → x < T.actions → kind T x ≡ fork → owner T x ≡ t → (T.argument x ≡ c → ⊥) → Live st (T.argument x) ⊎ (x ≡ a) → suc (J (next_of s t)) ≤ J (end_of T (T.argument x))
            part x h f o d (inl i) = omega (arith, r x h f o i (some_child T l x h f), falls (next_of st t) (next_of s t) m.next_up)
            part x h f o d (inr e) = absurd (d (ap T.argument e))
        parent (y ∷ k) n r = (
          link_keeps T l J w t a q st s m within owned t y (n y (Memᴰ.head refl)) r.0,
          (λ x h f o v. part x h f o (born_of x h f v)),
          chained_keeps T l J w t a q st s m within owned t (y ∷ k) n r.2,
        )
          where
            part : (x : ℕ) → x < T.actions → kind T x ≡ fork → owner T x ≡ t → Live st (T.argument x) ⊎ (x ≡ a) → T.argument x ≡ c
            part x h f o (inl i) = absurd (some_child T l x h f (r.1 x h f o i))
            part x h f o (inr e) = ap T.argument e

    pub light_fork : (far : ℕ) (k : List ℕ) → number_of T (next_of st t) ≤ number_of T (next_of s c) → Light T far J st (t ∷ k) → Light T far J s (c ∷ t ∷ k)
    unfolding Light
    light_fork far k i r = rw (bottom_top c t k) (omega (arith, r, falls (next_of st t) (next_of s c) i))

  -- ---- a pop: the thread above has ended

  module _ (no_fork : kind T a ≡ fork → ⊥) (gone : Live s t → ⊥) where
    was : (c : ℕ) → Live s c → (c ≡ t → ⊥) × Live st c
    was c v = ((λ e. gone (subst (Live s) e v)), go (m.born c v))
      where
        go : Live st c ⊎ ((kind T a ≡ fork) × (c ≡ T.argument a)) → Live st c
        go (inl i) = i
        go (inr i) = absurd (no_fork i.0)

    pub chained_pop : (y : ℕ) (k : List ℕ) → ((v : ℕ) → Memᴰ v (y ∷ k) → v ≡ t → ⊥) → Chained T J st 0 (t ∷ y ∷ k) → Chained T J s 0 (y ∷ k)
    unfolding Chained Parted NoLiveChildBut
    chained_pop y k n r = at k n r.2
      where
        at : (k : List ℕ) → ((v : ℕ) → Memᴰ v (y ∷ k) → v ≡ t → ⊥) → Chained T J st t (y ∷ k) → Chained T J s 0 (y ∷ k)
        at [] n r = λ x h f o v d.
            let z : next_of s y ≡ next_of st y = m.next_others y (n y (Memᴰ.head refl)) in
            rw z (r x h f o (was (T.argument x) v).1 (was (T.argument x) v).0)
        at (z ∷ k) n r = (
          link_keeps T l J w t a q st s m within owned y z (n z (Memᴰ.tail (Memᴰ.head refl))) r.0,
          (λ x h f o v. absurd ((was (T.argument x) v).0 (r.1 x h f o (was (T.argument x) v).1))),
          chained_keeps T l J w t a q st s m within owned y (z ∷ k) (λ v i. n v (Memᴰ.tail i)) r.2,
        )

    pub light_pop : (far y : ℕ) (k : List ℕ) → (y ≡ t → ⊥) → number_of T (next_of st t) ≤ number_of T (next_of st y) → Light T far J st (t ∷ y ∷ k) → Light T far J s (y ∷ k)
    unfolding Light
    light_pop far y k n i r =
        let z : next_of s y ≡ next_of st y = m.next_others y n in
        let r' : suc (J (next_of st t)) ≤ nest T (bottom (y ∷ k)) + far = rw (bottom_top t y k) at r in
        rw z (omega (arith, r', falls (next_of st t) (next_of st y) i))

-- ---- a steal: J' counts one more up to the start

-- nestings fall by one from thread to thread
pub above_nest : (T : Table) (l : Lawful T) (J : ℕ → ℕ) (st : State) (e : ℕ) (k : List ℕ) → Chained T J st e k → is_empty (above k) ≡ false → nest T (bottom (above k)) ≡ suc (nest T (bottom k))
unfolding Chained above bottom
above_nest T l J st e [] c i = no_way cc
above_nest T l J st e (t ∷ []) c i = no_way cc
above_nest T l J st e (t ∷ y ∷ []) c i = link_nest T l J st t y c.0
above_nest T l J st e (t ∷ y ∷ z ∷ k) c i = above_nest T l J st t (y ∷ z ∷ k) c.2 refl

module _ (T : Table) (l : Lawful T) (J J' : ℕ → ℕ) (falls : Falls T J) (start : ℕ) (up : (x : ℕ) → number_of T x < number_of T start → J' x ≡ suc (J x))
    (flat : (x : ℕ) → number_of T start ≤ number_of T x → J' x ≡ J x) (st s : State) (same : (u : ℕ) → next_of s u ≡ next_of st u) (still : (c : ℕ) → Live s c → Live st c)
    (ends : (v x : ℕ) → Live st v → x < T.actions → kind T x ≡ fork → owner T x ≡ v → Live st (T.argument x) → number_of T (end_of T (T.argument x)) < number_of T (next_of st v)) where
  pub more : (x : ℕ) → J' x ≤ suc (J x)
  more x = go (dec_lt (number_of T x) (number_of T start))
    where
      go : Dec (number_of T x < number_of T start) → J' x ≤ suc (J x)
      go (yes i) = omega (arith, up x i)
      go (no i) = omega (arith, flat x (omega arith))

  pub no_less : (x : ℕ) → J x ≤ J' x
  no_less x = go (dec_lt (number_of T x) (number_of T start))
    where
      go : Dec (number_of T x < number_of T start) → J x ≤ J' x
      go (yes i) = omega (arith, up x i)
      go (no i) = omega (arith, flat x (omega arith))

  pub falls_more : Falls T J'
  falls_more a b i = go (dec_lt (number_of T a) (number_of T start))
    where
      go : Dec (number_of T a < number_of T start) → J' b ≤ J' a
      go (yes j) = omega (arith, up a j, more b, falls a b i)
      go (no j) = omega (arith, flat a (omega arith), flat b (omega arith), falls a b i)

  link_same : (x y : ℕ) → Link T st x y → Link T s x y
  link_same x y k = record { action = k.action; within = k.within; forks = k.forks; names = k.names; owned = k.owned; next = same y ∙ k.next }

  no_child_same : (e t : ℕ) → NoLiveChildBut T st e t → NoLiveChildBut T s e t
  unfolding NoLiveChildBut
  no_child_same e t k x h f o v = k x h f o (still (T.argument x) v)

  pub parted_more : (e t : ℕ) → Live st t → Parted T J st e t → Parted T J' s e t
  unfolding Parted
  parted_more e t alive k x h f o v d =
      let i : suc (J (next_of st t)) ≤ J (end_of T (T.argument x)) = k x h f o (still (T.argument x) v) d in
      let z : next_of s t ≡ next_of st t = same t in
      rw z (go i (ends t x alive h f o (still (T.argument x) v)) (dec_lt (number_of T (next_of st t)) (number_of T start)))
    where
      go : suc (J (next_of st t)) ≤ J (end_of T (T.argument x)) → number_of T (end_of T (T.argument x)) < number_of T (next_of st t)
          → Dec (number_of T (next_of st t) < number_of T start) → suc (J' (next_of st t)) ≤ J' (end_of T (T.argument x))
      go i j (yes n) = omega (arith, i, up (next_of st t) n, up (end_of T (T.argument x)) (omega arith))
      go i j (no n) = omega (arith, i, flat (next_of st t) (omega arith), no_less (end_of T (T.argument x)))

  pub chained_more : (e : ℕ) (k : List ℕ) → ((v : ℕ) → Memᴰ v k → Live st v) → Chained T J st e k → Chained T J' s e k
  unfolding Chained
  chained_more e [] n c = tt
  chained_more e (t ∷ []) n c = parted_more e t (n t (Memᴰ.head refl)) c
  chained_more e (t ∷ y ∷ k) n c = (link_same t y c.0, no_child_same e t c.1, chained_more t (y ∷ k) (λ v i. n v (Memᴰ.tail i)) c.2)

  -- the line that is robbed
  pub chained_above : (e : ℕ) (k : List ℕ) → Chained T J st e k → Chained T J' s e (above k)
  unfolding Chained above NoLiveChildBut Parted
  chained_above e [] c = tt
  chained_above e (t ∷ []) c = tt
  chained_above e (t ∷ y ∷ []) c = alone (no_child_same e t c.1)
    where
      alone : NoLiveChildBut T s e t → Parted T J' s e t
      alone k x h f o v d = absurd (d (k x h f o v))
  chained_above e (t ∷ y ∷ z ∷ k) c = (link_same t y c.0, no_child_same e t c.1, chained_above t (y ∷ z ∷ k) c.2)

  -- the thread stolen
  pub chained_stolen : (e t : ℕ) (k : List ℕ) → ((v : ℕ) → Memᴰ v (t ∷ k) → Live st v) → (e ≡ 0) ⊎ Link T st e t → start ≡ next_of st (bottom (t ∷ k)) → Chained T J st e (t ∷ k)
      → Parted T J' s 0 (bottom (t ∷ k))
  unfolding Chained bottom Parted
  chained_stolen e t [] n g i c = go g
    where
      go : (e ≡ 0) ⊎ Link T st e t → Parted T J' s 0 t
      go (inl z) x h f o v d = parted_more e t (n t (Memᴰ.head refl)) c x h f o v (λ b. d (b ∙ z))
      go (inr z) x h f o v d = at (ℕ_discrete (T.argument x) e)
        where
          at : Dec (T.argument x ≡ e) → suc (J' (next_of s t)) ≤ J' (end_of T (T.argument x))
          at (yes b) =
              let y : next_of s t ≡ next_of st t = same t in
              let y2 : number_of T start ≡ number_of T (next_of st t) = ap (number_of T) i in
              let y3 : number_of T (next_of st t) ≡ suc (number_of T (end_of T e)) = link_number T l J st e t z in
              rw (y, b)
              (omega (arith, flat (next_of st t) (omega (arith, y2)), up (end_of T e) (omega (arith, y2, y3)), falls (end_of T e) (next_of st t) (omega (arith, y3))))
          at (no b) = parted_more e t (n t (Memᴰ.head refl)) c x h f o v b
  chained_stolen e t (y ∷ k) n g i c = chained_stolen t y k (λ v j. n v (Memᴰ.tail j)) (inr c.0) i c.2

  pub light_above : (far e : ℕ) (k : List ℕ) → Chained T J st e k → Light T far J st k → Light T far J' s (above k)
  unfolding Light above
  light_above far e [] c r = tt
  light_above far e (t ∷ []) c r = tt
  light_above far e (t ∷ y ∷ k) c r =
      let z : next_of s t ≡ next_of st t = same t in
      let n : nest T (bottom (t ∷ above (y ∷ k))) ≡ suc (nest T (bottom (t ∷ y ∷ k))) = above_nest T l J st e (t ∷ y ∷ k) c refl in
      rw z (omega (arith, r, n, more (next_of st t)))

  pub light_stolen : (far t : ℕ) (k : List ℕ) → start ≡ next_of st (bottom (t ∷ k)) → number_of T (next_of st t) ≤ number_of T start → Light T far J st (t ∷ k)
      → suc (J' (next_of s (bottom (t ∷ k)))) ≤ nest T (bottom (t ∷ k)) + far
  unfolding Light
  light_stolen far t k i h r =
      let z : next_of s (bottom (t ∷ k)) ≡ start = same (bottom (t ∷ k)) ∙ sym i in
      rw z (omega (arith, r, flat start (omega arith), falls (next_of st t) start h))

  pub light_beyond : (far : ℕ) (k : List ℕ) → ((v : ℕ) → Memᴰ v k → number_of T start ≤ number_of T (next_of st v)) → Light T far J st k → Light T far J' s k
  unfolding Light
  light_beyond far [] n r = tt
  light_beyond far (t ∷ k) n r =
      let z : next_of s t ≡ next_of st t = same t in
      rw z (omega (arith, r, flat (next_of st t) (n t (Memᴰ.head refl))))

  pub light_far : (far : ℕ) (k : List ℕ) → Light T far J st k → Light T (suc far) J' s k
  unfolding Light
  light_far far [] r = tt
  light_far far (t ∷ k) r =
      let z : next_of s t ≡ next_of st t = same t in
      rw z (omega (arith, r, more (next_of st t)))

pub ascends_bottom : (f : ℕ → ℕ) (t : ℕ) (k : List ℕ) → Ascends f (t ∷ k) → f t ≤ f (bottom (t ∷ k))
unfolding Ascends bottom
ascends_bottom f t [] c = omega arith
ascends_bottom f t (y ∷ k) c = omega (arith, ascends_bottom f y k c.1, c.0 y (Memᴰ.head refl))
