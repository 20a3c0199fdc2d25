-- An action of a worker keeps the lines, their order and what parts a child from its parent; a wait and a waking find the deque empty.
use mathlib.Core.Path.{◌≡◌, refl, sym, ap, ap₂, subst, ◌∙◌}
use Prim.Native.Nat.{ℕ, suc, ◌+◌, ◌≤◌, ◌<◌}
use mathlib.Core.List.Memᴰ
use mathlib.Core.List.{List, [], ◌∷◌, ◌++◌, append_assoc, Memᴰ}
use mathlib.Core.Bool.{true, false}
use mathlib.Core.Logic.{◌⊎◌, inl, inr}
use native.Mathlib.Omega.{arith}
use native.Mathlib.Decide.{ℕ_discrete, dec_lt}
use borrow.Author.Tests.{lt-ltb}
use Rattle.table.specs.Format.{is, Table, kind}
use Rattle.table.specs.declared.kinds.Kind.TheVariants.{End as end, Fork as fork, Join as join}
use Rattle.table.specs.Checks.{owner, end_of}
use Rattle.table.specs.Nested.{nest}
use Rattle.table.proofs.Tests.{no_way, fork_no_end}
use Rattle.table.proofs.Bodies.{fork_above, fork_below_lem, next_owner, next_within, owner_of_first, first_within, end_last}
use Rattle.table.specs.Level.{fork_below}
use Rattle.table.proofs.Nesting.{fork_once, fork_found}
use Rattle.table.proofs.NestedThreads.{nest_child}
use Rattle.schedule.specs.declared.Worker.{Worker}
use Rattle.schedule.specs.Memory.{count_in}
use Rattle.schedule.specs.Machine.{State, ready, held, waiting, ended, unborn, next_of, status_of, worker_of}
use Rattle.order.specs.Order.{number_of}
use Rattle.schedule.specs.Sound.{is_done}
use Rattle.order.proofs.Lawful.{Lawful}
use Rattle.order.proofs.Numbers.{number_once, number_child}
use Rattle.order.proofs.Words.{Ascends}
use Rattle.schedule.proofs.Sound.Facts.{Facts}
use Rattle.schedule.proofs.Sound.Done.{done_low, undone_unborn, unborn_first, next_below, owner_of_next, between_unborn}
use Rattle.schedule.proofs.Preservation.Releases.{Acting, acting}
use Rattle.schedule.proofs.Linked.Waiting.{awaited, none_between, child_left}
use Rattle.deques.specs.Deques.{Deque, deque, bottom, Deques, over, act_deques}
use Rattle.deques.specs.Partition.{occurs, owned_by}
use Rattle.deques.specs.Lines.{line, lines_of}
use Rattle.deques.proofs.Placed.{lines_same}
use Rattle.deques.proofs.DequeTurns.{Kept, with_serial, serial_facts, acts}
use Rattle.deques.proofs.Flat.{lines_append}
use Rattle.deque_bounds.proofs.Lines.{Live, Link, NoLiveChildBut, Parted, Chained, Light, Moved, parted_keeps, chained_top, light_top}
use Rattle.deque_bounds.proofs.LineMoves.{some_child, no_child_waits, chained_fork, light_fork, chained_pop, light_pop}
use Rattle.deque_bounds.proofs.Between.{in_fork, unborn_childless, join_forks}
use Rattle.deque_bounds.proofs.ActionLeaves.{ActionLeaves, stays, forks, pops, drops, leaves, wakes, stops, action_leaves}
use Rattle.deques.proofs.Counts.{counted_in, occurs_append, owned_append, Stands, stands}
use Rattle.deques.proofs.Standing.{in_deque, is_owner, standing}
use Rattle.deque_bounds.proofs.SerialLines.{held_by, AllLines, SerialLines, standing_live, asc_mid, asc_replace, all_append, all_front, all_head, all_cons, all_keeps}

no_child_parted : (T : Table) (J : ℕ → ℕ) (s : State) (e t : ℕ) → NoLiveChildBut T s e t → Parted T J s e t
unfolding NoLiveChildBut Parted
no_child_parted T J s e t r x h f o v d = absurd (d (r x h f o v))

chained_parted : (T : Table) (J : ℕ → ℕ) (s : State) (e t : ℕ) (k : List ℕ) → Chained T J s e (t ∷ k) → Parted T J s e t
unfolding Chained
chained_parted T J s e t [] c = c
chained_parted T J s e t (y ∷ k) c = no_child_parted T J s e t c.1

pub one_line : (T : Table) (J : ℕ → ℕ) (s : State) (t : ℕ) → Parted T J s 0 t → Chained T J s 0 (t ∷ [])
unfolding Chained
one_line T J s t c = c

pub two_links : (T : Table) (J : ℕ → ℕ) (s : State) (t y : ℕ) (k : List ℕ) → Chained T J s 0 (t ∷ y ∷ k) → Link T s t y
unfolding Chained
two_links T J s t y k c = c.0

light_one : (T : Table) (far : ℕ) (J : ℕ → ℕ) (s : State) (t : ℕ) → Light T far J s (t ∷ []) → suc (J (next_of s t)) ≤ nest T t + far
unfolding Light bottom
light_one T far J s t c = c

pub one_light : (T : Table) (far : ℕ) (J : ℕ → ℕ) (s : State) (t : ℕ) → suc (J (next_of s t)) ≤ nest T t + far → Light T far J s (t ∷ [])
unfolding Light bottom
one_light T far J s t c = c

asc_none : (g : ℕ → ℕ) → Ascends g []
unfolding Ascends
asc_none g = tt

asc_one : (g : ℕ → ℕ) (t : ℕ) → Ascends g (t ∷ [])
unfolding Ascends
asc_one g t = ((λ y m. absurd (Memᴰ.not-nil m)), tt)

asc_two : (g : ℕ → ℕ) (c t : ℕ) → g c < g t → Ascends g (c ∷ t ∷ [])
unfolding Ascends
asc_two g c t h = ((λ y m. at y (Memᴰ.cases_cons m)), ((λ y m. absurd (Memᴰ.not-nil m)), tt))
  where
    at : (y : ℕ) → (y ≡ t) ⊎ Memᴰ y [] → g c < g y
    at y (inl e) = rw e h
    at y (inr m) = absurd (Memᴰ.not-nil m)

only : (P : ℕ → Type 0) (t m : ℕ) → Memᴰ m (t ∷ []) → P t → P m
only P t m i h = go (Memᴰ.cases_cons i)
  where
    go : (m ≡ t) ⊎ Memᴰ m [] → P m
    go (inl e) = subst P (sym e) h
    go (inr z) = absurd (Memᴰ.not-nil z)

module _ (T : Table) (l : Lawful T) (p K : ℕ) (few : p ≤ 16) (w : ℕ) (below : w < p) (far : ℕ) (J : ℕ → ℕ) (st : State) (front : List Deque) (k : List ℕ) (rest : List Deque)
    (clear : owned_by w front ≡ 0) (alone : owned_by w rest ≡ 0) (I : SerialLines T p K far J (over st (front ++ deque w k ∷ rest))) (h : (worker_of st w).holds ≡ true) where
  abbrev t : ℕ
  t = (worker_of st w).thread

  abbrev a : ℕ
  a = next_of st t

  abbrev q : ℕ
  q = (worker_of st w).quota

  abbrev ds : List Deque
  ds = front ++ deque w k ∷ rest

  abbrev A : List ℕ
  A = lines_of (held_by st) front

  abbrev B : List ℕ
  B = lines_of (held_by st) rest

  abbrev num : State → ℕ → ℕ
  num s v = number_of T (next_of s v)

  pub f : Facts T p K (with_serial T l st)
  f = serial_facts T l p K st I.kept.common

  pub X : Acting T w t a (with_serial T l st)
  X = acting T l p K w t a (with_serial T l st) f (omega arith) h refl refl

  pub w16 : w < 16
  w16 = omega (arith, few, below)

  ready_not : (v : ℕ) → 1 ≤ occurs v ds → v ≡ t → ⊥
  ready_not v i e = omega (arith, (in_deque T l p K (over st ds) I.kept v i).1, X.taken, ap (status_of st) e)

  owner_not : (v o : ℕ) → o < 16 → 1 ≤ owned_by o ds → (1 ≤ owned_by w front → ⊥) → (1 ≤ owned_by w rest → ⊥) → (1 ≤ owned_by o front) ⊎ (1 ≤ owned_by o rest) → held_by st o ≡ v → v ≡ t → ⊥
  owner_not v o i j n1 n2 s e z = go s
    where
      same : o ≡ w
      same = f.holding.holder_once o w i w16 (is_owner T l p K (over st ds) I.kept o i j) h (e ∙ z)

      go : (1 ≤ owned_by o front) ⊎ (1 ≤ owned_by o rest) → ⊥
      go (inl y) = n1 (subst (λ (b : ℕ). 1 ≤ owned_by b front) same y)
      go (inr y) = n2 (subst (λ (b : ℕ). 1 ≤ owned_by b rest) same y)

  occurs_parts : (v : ℕ) → occurs v ds ≡ occurs v front + (count_in v k + occurs v rest)
  unfolding occurs
  occurs_parts v = occurs_append v front (deque w k ∷ rest)

  owned_parts : (o : ℕ) → owned_by o front + owned_by o rest ≤ owned_by o ds
  unfolding owned_by
  owned_parts o = omega (arith, owned_append o front (deque w k ∷ rest))

  pub apart_front : (v : ℕ) → Memᴰ v A → v ≡ t → ⊥
  apart_front v m = go (stands (held_by st) v front m)
    where
      go : Stands (held_by st) v front → v ≡ t → ⊥
      go (inl i) = ready_not v (omega (arith, i, occurs_parts v))
      go (inr (o, i, j, e)) = owner_not v o i (omega (arith, j, owned_parts o)) (λ y. omega (arith, y, clear)) (λ y. omega (arith, y, alone)) (inl j) e

  pub apart_rest : (v : ℕ) → Memᴰ v B → v ≡ t → ⊥
  apart_rest v m = go (stands (held_by st) v rest m)
    where
      go : Stands (held_by st) v rest → v ≡ t → ⊥
      go (inl i) = ready_not v (omega (arith, i, occurs_parts v))
      go (inr (o, i, j, e)) = owner_not v o i (omega (arith, j, owned_parts o)) (λ y. omega (arith, y, clear)) (λ y. omega (arith, y, alone)) (inr j) e

  in_k : (v : ℕ) → Memᴰ v k → 1 ≤ occurs v ds
  in_k v m = omega (arith, counted_in v k m, occurs_parts v)

  pub apart_k : (v : ℕ) → Memᴰ v k → v ≡ t → ⊥
  apart_k v m = ready_not v (in_k v m)

  pub tops : (t2 : ℕ) (j : List ℕ) → k ≡ t2 ∷ j → (status_of st t2 ≡ ready) × (t2 < T.threads)
  tops t2 j e =
      let z : (t2 < T.threads) × (status_of st t2 ≡ ready) = in_deque T l p K (over st ds) I.kept t2 (in_k t2 (subst (λ (b : List ℕ). Memᴰ t2 b) (sym e) (Memᴰ.head refl))) in
      (z.1, z.0)

  apart_R : (v : ℕ) → Memᴰ v (k ++ B) → v ≡ t → ⊥
  apart_R v m = go (Memᴰ.append_cases k m)
    where
      go : Memᴰ v k ⊎ Memᴰ v B → v ≡ t → ⊥
      go (inl i) = apart_k v i
      go (inr i) = apart_rest v i

  -- the lines, with the worker's own in the middle
  pub lines_are : lines_of (held_by st) ds ≡ A ++ (t ∷ (k ++ B))
  unfolding lines_of
  lines_are = lines_append (held_by st) front (deque w k ∷ rest) ∙ rw (lt-ltb w 16 w16) refl

  rising : Ascends (num st) (A ++ (t ∷ (k ++ B)))
  rising = subst (Ascends (num st)) lines_are I.order

  beyond : (v : ℕ) → Memᴰ v (k ++ B) → num st t < num st v
  beyond = (asc_mid (num st) (num st) A (k ++ B) t rising).0

  pub in_lines : (v : ℕ) → Memᴰ v (k ++ B) → Memᴰ v (lines_of (held_by st) ds)
  in_lines v m = subst (λ (b : List ℕ). Memᴰ v b) (sym lines_are) (Memᴰ.append_right A (Memᴰ.tail m))

  pub parts : AllLines T far J st front × AllLines T far J st (deque w k ∷ rest)
  parts = all_front T far J st front (deque w k ∷ rest) I.lines

  pub mine : Chained T J st 0 (t ∷ k) × Light T far J st (t ∷ k) × AllLines T far J st rest
  mine = rw (lt-ltb w 16 w16) at (all_head T far J st (deque w k) rest parts.1)

  -- ---- put together, for whatever the deque in the middle becomes

  module _ (s : State) (m : Moved T K w t a q st s) where
    lines_become : (mid : List Deque) → lines_of (held_by s) (front ++ (mid ++ rest)) ≡ A ++ (lines_of (held_by s) mid ++ B)
    lines_become mid =
        lines_append (held_by s) front (mid ++ rest)
        ∙ ap₂ ◌++◌ (lines_same w w16 (held_by st) (held_by s) others front clear) (lines_append (held_by s) mid rest ∙ ap (lines_of (held_by s) mid ++◌) (lines_same w w16 (held_by st) (held_by s) others rest alone))
      where
        others : (v : ℕ) → (v ≡ w → ⊥) → held_by s v ≡ held_by st v
        others v n = ap (λ (b : Worker). b.thread) (m.worker_others v n)

    same_A : (v : ℕ) → Memᴰ v A → num s v ≡ num st v
    same_A v i = ap (number_of T) (m.next_others v (apart_front v i))

    same_R : (v : ℕ) → Memᴰ v (k ++ B) → num s v ≡ num st v
    same_R v i = ap (number_of T) (m.next_others v (apart_R v i))

    together : (D : List Deque) → Kept T p K (over s D) → (mid : List Deque) → D ≡ front ++ (mid ++ rest) → AllLines T far J s mid → (M : List ℕ) → lines_of (held_by s) mid ≡ M ++ k
        → Ascends (num s) M → ((v : ℕ) → Memᴰ v M → num st t ≤ num s v) → ((v z : ℕ) → Memᴰ v M → Memᴰ z (k ++ B) → num s v < num s z)
        → (kind T a ≡ join → Parted T J s 0 t) → SerialLines T p K far J (over s D)
    together D c mid e r M i up low cross waited =
        record {
          kept = c;
          falls = I.falls;
          lines =
              subst (AllLines T far J s) (sym e)
              (all_append T far J s front (mid ++ rest) (all_keeps T l far J w t a q st s m X.action X.owned front clear apart_front parts.0)
              (all_append T far J s mid rest r (all_keeps T l far J w t a q st s m X.action X.owned rest alone apart_rest mine.2)));
          order =
              subst (Ascends (num s)) (sym (ap (lines_of (held_by s)) e ∙ lines_become mid ∙ ap (λ (b : List ℕ). A ++ (b ++ B)) i ∙ ap (A ++◌) (append_assoc M k B)))
              (asc_replace (num st) (num s) A (k ++ B) M t rising same_A same_R up low cross);
          waiters = λ u n z. wait u n (m.waits u z);
        }
      where
        wait : (u : ℕ) → u < T.threads → (status_of st u ≡ waiting) ⊎ ((u ≡ t) × (kind T a ≡ join)) → Parted T J s 0 u
        wait u n (inl z) = parted_keeps T l J w t a q st s m X.action X.owned 0 u (λ y. omega (arith, z, X.taken, ap (status_of st) y)) (I.waiters u n z)
        wait u n (inr (z, j)) = subst (Parted T J s 0) (sym z) (waited j)

  -- ---- the cases

  abbrev Step : Deques → Type 0
  Step D = ActionLeaves T K w t a q st front k rest D

  pub owned_line : (s : State) (o t2 : ℕ) (j : List ℕ) → o < 16 → held_by s o ≡ t2 → line (held_by s) (deque o j) ≡ t2 ∷ j
  owned_line s o t2 j i e = rw (lt-ltb o 16 i) (ap (λ (z : ℕ). z ∷ j) e)

  flat_one : (s : State) (d : Deque) → lines_of (held_by s) (d ∷ []) ≡ line (held_by s) d
  unfolding lines_of
  flat_one s d = append-nil (line (held_by s) d)
    where
      append-nil : (k : List ℕ) → k ++ [] ≡ k
      append-nil [] = refl
      append-nil (x ∷ k) = ap (x ∷◌) (append-nil k)

  none_lines : (s : State) → AllLines T far J s []
  unfolding AllLines
  none_lines s = tt

  -- the deque in the middle has line L
  mid_lines : (s : State) (d : Deque) (L : List ℕ) → line (held_by s) d ≡ L → Chained T J s 0 L → Light T far J s L → AllLines T far J s (d ∷ [])
  mid_lines s d L e c i = all_cons T far J s d [] (subst (Chained T J s 0) (sym e) c) (subst (Light T far J s) (sym e) i) (none_lines s)

  lines_nil : (s : State) → lines_of (held_by s) [] ≡ []
  unfolding lines_of
  lines_nil s = refl

  module _ (D : Deques) (c : Kept T p K D) where
    abbrev s : State
    s = D.state

    one_thread : Moved T K w t a q st s → (kind T a ≡ fork → ⊥) → num st t ≤ num s t → ((v : ℕ) → Memᴰ v (k ++ B) → num s t < num s v) → (d : Deque) → line (held_by s) d ≡ t ∷ k
        → D.deques ≡ front ++ d ∷ rest → SerialLines T p K far J D
    one_thread m n up cross d e z =
        let top : Chained T J s 0 (t ∷ k) = chained_top T l J w t a q st s m X.action X.owned I.falls n k apart_k mine.0 in
        together s m D.deques c (d ∷ []) z
        (mid_lines s d (t ∷ k) e top (light_top T l J w t a q st s m X.action X.owned I.falls n far k mine.1))
        (t ∷ []) (flat_one s d ∙ e) (asc_one (num s) t) (λ v i. only (λ (b : ℕ). num st t ≤ num s b) t v i up) (λ v y i j. only (λ (b : ℕ). num s b < num s y) t v i (cross y j))
        (λ j. chained_parted T J s 0 t k top)

    -- a stop: the next action is the same
    at_stop : Moved T K w t a q st s → (kind T a ≡ fork → ⊥) → next_of s t ≡ a → D.deques ≡ front ++ deque 16 (t ∷ k) ∷ rest → SerialLines T p K far J D
    at_stop m n e z = one_thread m n (rw e (omega arith)) (λ v i. rw e (omega (arith, beyond v i, same_R s m v i))) (deque 16 (t ∷ k)) refl z

    -- it goes on: the next action is the next in serial order
    at_stay : Moved T K w t a q st s → (kind T a ≡ fork → ⊥) → held_by s w ≡ t → num s t ≡ suc (number_of T a) → D.deques ≡ front ++ deque w k ∷ rest → SerialLines T p K far J D
    at_stay m n e i z = one_thread m n (omega (arith, i)) cross (deque w k) (owned_line s w t k w16 e) z
      where
        g : Facts T p K (with_serial T l s)
        g = serial_facts T l p K s c.common

        cross : (v : ℕ) → Memᴰ v (k ++ B) → num s t < num s v
        cross v j = at (ℕ_discrete (num s t) (num s v))
          where
            vb : v < T.threads
            vb = (standing T l p K (over st ds) I.kept v (in_lines v j)).0

            at : Dec (num s t ≡ num s v) → num s t < num s v
            at (no b) = omega (arith, i, beyond v j, same_R s m v j, b)
            at (yes b) =
                let y : next_of s t ≡ next_of s v = number_once T l (next_of s t) (next_of s v) (next_below T l p K (with_serial T l s) g t X.thread) (next_below T l p K (with_serial T l s) g v vb) b in
                absurd (apart_R v j (sym (owner_of_next T l p K (with_serial T l s) g v vb) ∙ ap (owner T) (sym y) ∙ owner_of_next T l p K (with_serial T l s) g t X.thread))

    at_leave : k ≡ [] → Moved T K w t a q st s → (kind T a ≡ fork → ⊥) → D.deques ≡ front ++ rest → SerialLines T p K far J D
    at_leave e m n z =
        together s m D.deques c [] z (none_lines s) [] (lines_nil s ∙ sym e) (asc_none (num s)) (λ v i. absurd (Memᴰ.not-nil i)) (λ v y i j. absurd (Memᴰ.not-nil i))
        (λ j. chained_parted T J s 0 t k (chained_top T l J w t a q st s m X.action X.owned I.falls n k apart_k mine.0))

    at_pop : (t2 : ℕ) (j : List ℕ) → k ≡ t2 ∷ j → Moved T K w t a q st s → kind T a ≡ end → (Live s t → ⊥) → held_by s w ≡ t2 → D.deques ≡ front ++ deque w j ∷ rest → SerialLines T p K far J D
    at_pop t2 j e m n dead i z =
        let mem : (v : ℕ) → Memᴰ v (t2 ∷ j) → Memᴰ v k = λ v y. subst (λ (b : List ℕ). Memᴰ v b) (sym e) y in
        let apart : (v : ℕ) → Memᴰ v (t2 ∷ j) → v ≡ t → ⊥ = λ v y. apart_k v (mem v y) in
        let ch : Chained T J st 0 (t ∷ t2 ∷ j) = subst (λ (b : List ℕ). Chained T J st 0 (t ∷ b)) e mine.0 in
        let li : Light T far J st (t ∷ t2 ∷ j) = subst (λ (b : List ℕ). Light T far J st (t ∷ b)) e mine.1 in
        let up : num st t < num st t2 = beyond t2 (Memᴰ.append_left B (mem t2 (Memᴰ.head refl))) in
        together s m D.deques c (deque w j ∷ []) z
        (mid_lines s (deque w j) (t2 ∷ j) (owned_line s w t2 j w16 i)
        (chained_pop T l J I.falls w t a q st s m X.action X.owned (λ b. no_way cc) dead t2 j apart ch)
        (light_pop T l J I.falls w t a q st s m X.action X.owned (λ b. no_way cc) dead far t2 j (apart t2 (Memᴰ.head refl)) (omega (arith, up)) li))
        [] (flat_one s (deque w j) ∙ owned_line s w t2 j w16 i ∙ sym e) (asc_none (num s)) (λ v i. absurd (Memᴰ.not-nil i)) (λ v y i j. absurd (Memᴰ.not-nil i))
        (λ b. no_way cc)

    at_fork : Moved T K w t a q st s → kind T a ≡ fork → held_by s w ≡ T.argument a → next_of s t ≡ suc a → D.deques ≡ front ++ deque w (t ∷ k) ∷ rest → SerialLines T p K far J D
    at_fork m n i e z =
        together s m D.deques c (deque w (t ∷ k) ∷ []) z
        (mid_lines s (deque w (t ∷ k)) (x ∷ t ∷ k) (owned_line s w x (t ∷ k) w16 i)
        (chained_fork T l J I.falls w t a q st s m X.action X.owned n e (unborn_childless T l p K (with_serial T l st) f x unforked) k apart_k mine.0)
        (light_fork T l J I.falls w t a q st s m X.action X.owned n e (unborn_childless T l p K (with_serial T l st) f x unforked) far k (omega (arith, low)) mine.1))
        (x ∷ t ∷ []) (flat_one s (deque w (t ∷ k)) ∙ owned_line s w x (t ∷ k) w16 i)
        (asc_two (num s) x t high) (λ v y. lows v (Memᴰ.cases_cons y)) (λ v y r b. highs v y b (Memᴰ.cases_cons r)) (λ b. no_way cc)
      where
        x : ℕ
        x = T.argument a

        xb : x < T.threads
        xb = fork_below_lem T l.contents l.bodies a X.action n

        xt : x ≡ t → ⊥
        xt y = omega (arith, fork_above T l.contents l.bodies a X.action n, X.owned, y)

        unforked : status_of st x ≡ unborn
        unforked = undone_unborn T l p K (with_serial T l st) f a X.action n X.undone

        first : next_of s x ≡ T.first x
        first = m.next_others x xt ∙ unborn_first T l p K (with_serial T l st) f x xb unforked

        low : num s x ≡ suc (num st t)
        low = ap (number_of T) first ∙ number_child T l a X.action n

        here : num s t ≡ number_of T (suc a)
        here = ap (number_of T) e

        high : num s x < num s t
        high =
            omega (arith, ap (number_of T) first, here, in_fork T l a (T.first x) X.action n (first_within T l.contents x xb) (owner_of_first T l.contents x xb))

        lows : (v : ℕ) → (v ≡ x) ⊎ Memᴰ v (t ∷ []) → num st t ≤ num s v
        lows v (inl y) = rw y (omega (arith, low))
        lows v (inr y) = only (λ (b : ℕ). num st t ≤ num s b) t v y (omega (arith, low, high))

        past : (y : ℕ) → Memᴰ y (k ++ B) → num s t < num s y
        past y b = at (dec_lt (num s t) (num s y)) (ℕ_discrete (num s t) (num s y))
          where
            yb : y < T.threads
            yb = (standing T l p K (over st ds) I.kept y (in_lines y b)).0

            yn : next_of st y < T.actions
            yn = next_below T l p K (with_serial T l st) f y yb

            yo : owner T (next_of st y) ≡ y
            yo = owner_of_next T l p K (with_serial T l st) f y yb

            no_ends : is end (kind T a) ≡ false
            no_ends = fork_no_end n

            at : Dec (num s t < num s y) → Dec (num s t ≡ num s y) → num s t < num s y
            at (yes g) d = g
            at (no g) (yes d) =
                let r : suc a ≡ next_of st y = number_once T l (suc a) (next_of st y) (next_within T l.contents l.bodies a X.action no_ends) yn (sym here ∙ d ∙ same_R s m y b) in
                absurd (apart_R y b (sym yo ∙ ap (owner T) (sym r) ∙ next_owner T l.contents l.bodies a X.action no_ends ∙ X.owned))
            at (no g) (no d) =
                let r : status_of st (owner T (next_of st y)) ≡ unborn =
                between_unborn T l p K (with_serial T l st) f a X.action n X.undone (next_of st y) yn (beyond y b) (omega (arith, g, d, here, same_R s m y b)) in
                absurd ((standing_live T l p K (over st ds) I.kept y (in_lines y b)).0 (rw yo at r))

        highs : (v y : ℕ) → Memᴰ y (k ++ B) → (v ≡ x) ⊎ Memᴰ v (t ∷ []) → num s v < num s y
        highs v y b (inl r) = rw r (omega (arith, high, past y b))
        highs v y b (inr r) = only (λ (i : ℕ). num s i < num s y) t v r (past y b)

  -- a waiting thread is none's parent below it
  pub wake_empty : (u : ℕ) → u < T.threads → status_of st u ≡ waiting → awaited T st u ≡ t → k ≡ []
  wake_empty u ub uw ua = go k refl
    where
      go : (j : List ℕ) → k ≡ j → k ≡ []
      go [] e = e
      go (y ∷ j) e =
          let L : Link T st t y = two_links T J st t y j (subst (λ (b : List ℕ). Chained T J st 0 (t ∷ b)) e mine.0) in
          let (x, i, r, nm, o) = join_forks T l p K (with_serial T l st) f (next_of st u) (next_below T l p K (with_serial T l st) f u ub) (f.wait_join u ub uw) in
          let same : x ≡ L.action =
          fork_once T l.contents l.bodies l.nesting x L.action (omega (arith, i, next_below T l p K (with_serial T l st) f u ub)) L.within r L.forks (nm ∙ ua ∙ sym L.names) in
          let uy : u ≡ y = sym (owner_of_next T l p K (with_serial T l st) f u ub) ∙ sym o ∙ ap (owner T) same ∙ L.owned in
          absurd (omega (arith, uw, (tops y j e).0, ap (status_of st) uy))

  -- and no thread with one below it has an open child
  pub wait_empty : kind T a ≡ join → (status_of st (T.argument a) ≡ ended → ⊥) → k ≡ []
  wait_empty n z = go k refl
    where
      go : (j : List ℕ) → k ≡ j → k ≡ []
      go [] e = e
      go (y ∷ j) e =
          let (x, i, r, nm, o) = join_forks T l p K (with_serial T l st) f a X.action n in
          let xb : x < T.actions = omega (arith, i, X.action) in
          let ox : owner T x ≡ t = o ∙ X.owned in
          let b : status_of st (T.argument x) ≡ unborn → ⊥ = λ u. unborn_not x xb r ox i u in
          absurd (no_child_waits T l J st t y j (subst (λ (b : List ℕ). Chained T J st 0 (t ∷ b)) e mine.0) x xb r ox (b, (λ u. z (sym (ap (status_of st) nm) ∙ u))))
        where
          unborn_not : (x : ℕ) → x < T.actions → kind T x ≡ fork → owner T x ≡ t → x < a → status_of st (T.argument x) ≡ unborn → ⊥
          unborn_not x xb r ox i u =
              let d : is_done T st x ≡ true = done_low T (with_serial T l st) x (rw ox i) in
              let p : 0 < T.argument x = omega (arith, fork_above T l.contents l.bodies x xb r) in
              let y : is_done T st (fork_below T T.actions (T.argument x)) ≡ false = f.unborn_fork (T.argument x) p (fork_below_lem T l.contents l.bodies x xb r) u in
              let v : is_done T st x ≡ false = rw (fork_found T l.contents l.bodies l.nesting x xb r) at y in
              no_way (cc)

  pub at_wake : (D : Deques) → Kept T p K D → (u : ℕ) → u < T.threads → status_of st u ≡ waiting → awaited T st u ≡ t → Moved T K w t a q st D.state → kind T a ≡ end → held_by D.state w ≡ u
      → D.deques ≡ front ++ deque w k ∷ rest → SerialLines T p K far J D
  unfolding Parted
  at_wake D c u ub uw ua m n i z =
      together s m D.deques c (deque w k ∷ []) z
      (mid_lines s (deque w k) (u ∷ []) ln
      (one_line T J s u (parted_keeps T l J w t a q st s m X.action X.owned 0 u ut parted))
      (one_light T far J s u light))
      (u ∷ []) (flat_one s (deque w k) ∙ ln ∙ ap (λ (b : List ℕ). u ∷ b) (sym empty)) (asc_one (num s) u)
      (λ v y. only (λ (b : ℕ). num st t ≤ num s b) u v y (omega (arith, here, left)))
      (λ v y r b. only (λ (i : ℕ). num s i < num s y) u v r (past y b)) (λ b. no_way cc)
    where
      s : State
      s = D.state

      empty : k ≡ []
      empty = wake_empty u ub uw ua

      ln : line (held_by s) (deque w k) ≡ u ∷ []
      ln = owned_line s w u k w16 i ∙ ap (λ (b : List ℕ). u ∷ b) empty

      ut : u ≡ t → ⊥
      ut y = omega (arith, uw, X.taken, ap (status_of st) y)

      parted : Parted T J st 0 u
      parted = I.waiters u ub uw

      here : num s u ≡ num st u
      here = ap (number_of T) (m.next_others u ut)

      left : num st t < num st u
      left = subst (λ (b : ℕ). num st b < num st u) ua (child_left T l p K (with_serial T l st) f u ub uw)

      last : a ≡ end_of T t
      last = end_last T l.contents l.bodies a X.action n ∙ ap (end_of T) X.owned

      alive : Live st t
      alive = ((λ e. omega (arith, X.taken, e)), (λ e. omega (arith, X.taken, e)))

      parts_at : (x : ℕ) → x < T.actions → kind T x ≡ fork → owner T x ≡ u → Live st (T.argument x) → suc (J (next_of st u)) ≤ J (end_of T (T.argument x))
      parts_at x xb r xo v = parted x xb r xo v (some_child T l x xb r)

      light : suc (J (next_of s u)) ≤ nest T u + far
      light =
          let (x, j, r, nm, o) = join_forks T l p K (with_serial T l st) f (next_of st u) (next_below T l p K (with_serial T l st) f u ub) (f.wait_join u ub uw) in
          let xb : x < T.actions = omega (arith, j, next_below T l p K (with_serial T l st) f u ub) in
          let xo : owner T x ≡ u = o ∙ owner_of_next T l p K (with_serial T l st) f u ub in
          let xn : T.argument x ≡ t = nm ∙ ua in
          let g1 : nest T (T.argument x) ≡ suc (nest T (owner T x)) = nest_child T l.contents l.bodies l.nesting l.forking x xb r in
          let g2 : nest T t ≡ suc (nest T u) = sym (ap (nest T) xn) ∙ g1 ∙ ap (λ (b : ℕ). suc (nest T b)) xo in
          let g3 : suc (J (next_of st u)) ≤ J (end_of T (T.argument x)) = parts_at x xb r xo (subst (Live st) (sym xn) alive) in
          let g4 : end_of T (T.argument x) ≡ next_of st t = ap (end_of T) xn ∙ sym last in
          let g5 : suc (J (next_of st u)) ≤ J (next_of st t) = subst (λ (b : ℕ). suc (J (next_of st u)) ≤ J b) g4 g3 in
          let g6 : suc (J (next_of st t)) ≤ nest T t + far = light_one T far J st t (subst (λ (b : List ℕ). Light T far J st (t ∷ b)) empty mine.1) in
          let g7 : next_of s u ≡ next_of st u = m.next_others u ut in
          rw g7 (omega (arith, g2, g5, g6))

      past : (y : ℕ) → Memᴰ y (k ++ B) → num s u < num s y
      past y b = at (dec_lt (num st y) (num st u)) (ℕ_discrete (num st y) (num st u))
        where
          st_y : (y < T.threads) × ((status_of st y ≡ ready) ⊎ (status_of st y ≡ held))
          st_y = standing T l p K (over st ds) I.kept y (in_lines y b)

          live_y : Live st y
          live_y = standing_live T l p K (over st ds) I.kept y (in_lines y b)

          not_u : (status_of st y ≡ ready) ⊎ (status_of st y ≡ held) → y ≡ u → ⊥
          not_u (inl r) e = omega (arith, r, uw, ap (status_of st) e)
          not_u (inr r) e = omega (arith, r, uw, ap (status_of st) e)

          at : Dec (num st y < num st u) → Dec (num st y ≡ num st u) → num s u < num s y
          at (yes g) d =
              absurd (none_between T l p K (with_serial T l st) f u ub uw y (f.live_listed y st_y.0 live_y.0 live_y.1) (subst (λ (b : ℕ). num st b < num st y) (sym ua) (beyond y b)) g)
          at (no g) (yes d) =
              let r : next_of st y ≡ next_of st u =
              number_once T l (next_of st y) (next_of st u) (next_below T l p K (with_serial T l st) f y st_y.0) (next_below T l p K (with_serial T l st) f u ub) d in
              absurd (not_u st_y.1 (sym (owner_of_next T l p K (with_serial T l st) f y st_y.0) ∙ ap (owner T) r ∙ owner_of_next T l p K (with_serial T l st) f u ub))
          at (no g) (no d) = omega (arith, g, d, here, same_R s m y b)

  pub stepped : ActionLeaves T K w t a q st front k rest (act_deques T K w st ds).after
  stepped = action_leaves T l p K few w below st I.kept.common h front k rest clear tops

  pub act_serial_lines : SerialLines T p K far J (act_deques T K w st ds).after
  act_serial_lines = go (act_deques T K w st ds).after (acts T l p K few w below st I.kept.common ds I.kept.placed h) stepped
    where
      go : (D : Deques) → Kept T p K D → Step D → SerialLines T p K far J D
      go D c (stays m n e i d z y) = at_stay D c m n e i z
      go D c (forks m n e i d z) = at_fork D c m n e i z
      go D c (pops t2 j e m n dead i d z) = at_pop D c t2 j e m n dead i z
      go D c (drops t2 j e n y) = no_way (cc (wait_empty n y))
      go D c (leaves e m n i y z) = at_leave D c e m n z
      go D c (wakes u ub uw ua m n dead i d z) = at_wake D c u ub uw ua m n i z
      go D c (stops m n i e z) = at_stop D c m n e z
