-- The deques that stand in two lists of links are those that are read off them.
use mathlib.Core.Path.{◌≡◌, refl, sym, ap, subst, ◌∙◌}
use Prim.Native.Nat.{ℕ, zero, suc, ◌+◌, ◌≤◌, ◌<◌}
use mathlib.Core.List.{List, [], ◌∷◌, ◌++◌, map, append_assoc, Memᴰ}
use mathlib.Core.Bool.{Bool, true, false, ◌&&◌, ◌||◌}
use mathlib.Core.Logic.{◌⊎◌, inl, inr}
use native.Mathlib.Omega.{arith}
use lib.ListN.{length, get_or}
use lib.Dec.{ltb, eqb}
use borrow.Author.Tests.{eqb-true, eqb-false, ne_eqb, eq-eqb, lt-ltb}
use Rattle.table.specs.Sum.{pick}
use Rattle.table.specs.Format.{Table}
use Rattle.table.proofs.Tests.{no_way, and_both}
use Rattle.schedule.specs.declared.Worker.{Worker}
use Rattle.schedule.specs.Memory.{count_in}
use Rattle.schedule.specs.Machine.{held, nobody, worker_of}
use Rattle.schedule.specs.Links.{no_thread, Links, LinkedAs, list_of, head_of, left_after}
use Rattle.order.proofs.Lawful.{Lawful}
use Rattle.order.proofs.Lists.{Below}
use Rattle.schedule.proofs.Sound.Facts.{Facts}
use Rattle.schedule.proofs.Linked.Once.{Once}
use Rattle.schedule.proofs.Linked.Neighbours.{left_after_out, left_after_in}
use Rattle.schedule.proofs.Linked.Links.{walk_linked}
use Rattle.deques.specs.Deques.{Deque, is_empty, bottom, above, Deques}
use Rattle.deques.specs.Lines.{line, lines_of, bottoms_of, thread_of, cut_after, deque_of, holder_of, is_held, linked_in, deques_from}
use Rattle.deques.specs.Partition.{occurs, owned_by, InUse, AllInUse}
use Rattle.deques.proofs.Placed.{bottom_counts}
use Rattle.deques.proofs.Flat.{lines_append}
use Rattle.deques.proofs.Cut.{LastPasses, Seen, AllSeen, deques_back}
use Rattle.deques.proofs.DequeTurns.{Kept, with_serial, serial_facts}
use Rattle.deques.proofs.Counts.{counted_in, occurs_append, owned_append, count_append, count_self, in_counted, once_counts, line_some, bottoms_count, in_use_front, in_use_rest}
use Rattle.deques.proofs.Standing.{in_deque, is_owner, lines_once, lines_small, bottoms_small}

-- both links describe their lists
pub record LaidDeques (first second : Links) (hold : ℕ → ℕ) (ds : List Deque) : Type 0 where
  pub lines : LinkedAs first (lines_of hold ds)
  pub bottoms : LinkedAs second (bottoms_of hold ds)

module _ (k : Links) (l : List ℕ) (h : LinkedAs k l) (b : Below no_thread l) (t : ℕ) (i : t < no_thread) where
  pub linked_in_lem : Memᴰ t l → linked_in k t ≡ true
  unfolding linked_in left_after
  linked_in_lem m = rw (h.lefts t i, h.leftmost) (go l b m)
    where
      after : (x : ℕ) (l : List ℕ) → Below no_thread (x ∷ l) → Memᴰ t l → ltb (left_after x l t) no_thread ≡ true
      after x l b m = lt-ltb (left_after x l t) no_thread (b (left_after x l t) (left_after_in x t l m))

      go : (l : List ℕ) → Below no_thread l → Memᴰ t l → (ltb (left_after no_thread l t) no_thread || eqb (head_of l) t) ≡ true
      go [] b m = absurd (mathlib.Core.List.Memᴰ.not-nil m)
      go (x ∷ l) b m = at (eqb x t) refl (mathlib.Core.List.Memᴰ.cases_cons m)
        where
          at : (q : Bool) → eqb x t ≡ q → (t ≡ x) ⊎ Memᴰ t l → (ltb (pick q no_thread (left_after x l t)) no_thread || q) ≡ true
          at true e n = refl
          at false e (inl z) = absurd (eqb-false x t e (sym z))
          at false e (inr n) = rw (after x l b n)

  pub linked_out : (Memᴰ t l → ⊥) → linked_in k t ≡ false
  unfolding linked_in
  linked_out n = rw (h.lefts t i, h.leftmost, left_after_out no_thread t l n) (go l n)
    where
      go : (l : List ℕ) → (Memᴰ t l → ⊥) → eqb (head_of l) t ≡ false
      go [] n = ne_eqb no_thread t (λ e. omega arith)
      go (x ∷ l) n = ne_eqb x t (λ e. n (mathlib.Core.List.Memᴰ.head (sym e)))

pub holder_at : (t : ℕ) (l : List Worker) (w : ℕ) → w < length l → (get_or l w nobody).holds ≡ true → (get_or l w nobody).thread ≡ t
    → ((v : ℕ) → v < length l → (get_or l v nobody).holds ≡ true → (get_or l v nobody).thread ≡ t → v ≡ w) → holder_of t l ≡ w
unfolding holder_of
holder_at t [] w i h e o = absurd (omega arith)
holder_at t (x ∷ l) zero i h e o = rw (h, eq-eqb x.thread t e)
holder_at t (x ∷ l) (suc w) i h e o = go (x.holds && eqb x.thread t) refl (holder_at t l w (omega arith) h e (λ v j q r. less v (o (suc v) (omega arith) q r)))
  where
    less : (v : ℕ) → suc v ≡ suc w → v ≡ w
    less v z = omega arith

    go : (b : Bool) → (x.holds && eqb x.thread t) ≡ b → holder_of t l ≡ w → pick b 0 (suc (holder_of t l)) ≡ suc w
    go true z ih =
        let y = and_both x.holds (eqb x.thread t) z in
        let r : 0 ≡ suc w = o 0 (omega arith) y.0 (eqb-true x.thread t y.1) in
        absurd (omega arith)
    go false z ih = ap suc ih

last_passes : (f : ℕ → Bool) (l : List ℕ) → is_empty l ≡ false → f (bottom l) ≡ true → ((x : ℕ) → Memᴰ x (above l) → f x ≡ false) → LastPasses f l
unfolding bottom above
last_passes f [] e b a = no_way cc
last_passes f (x ∷ []) e b a = b
last_passes f (x ∷ y ∷ l) e b a = (a x (mathlib.Core.List.Memᴰ.head refl), last_passes f (y ∷ l) refl b (λ z m. a z (mathlib.Core.List.Memᴰ.tail m)))

module _ (T : Table) (l : Lawful T) (p K : ℕ) (first second : Links) (D : Deques) (X : Kept T p K D) (L : LaidDeques first second (thread_of D.state.workers) D.deques) where
  abbrev ds : List Deque
  ds = D.deques

  abbrev workers : List Worker
  workers = D.state.workers

  abbrev hold : ℕ → ℕ
  hold = thread_of D.state.workers

  known : Facts T p K (with_serial T l D.state)
  known = serial_facts T l p K D.state X.common

  once : Once (lines_of hold ds)
  once = lines_once T l p K D X

  low : Below 1024 (lines_of hold ds)
  low = lines_small T l p K D X

  b_low : Below 1024 (bottoms_of hold ds)
  b_low = bottoms_small T l p K D X

  -- a deque among the others
  module _ (front : List Deque) (d : Deque) (rest : List Deque) (whole : ds ≡ front ++ d ∷ rest) where
    in_use : InUse d × AllInUse rest
    unfolding AllInUse
    in_use = in_use_rest front (d ∷ rest) (subst (λ (z : List Deque). AllInUse z) whole X.placed.in_use)

    in_front_lem : AllInUse front
    in_front_lem = in_use_front front (d ∷ rest) (subst (λ (z : List Deque). AllInUse z) whole X.placed.in_use)

    some : is_empty (line hold d) ≡ false
    some = line_some hold d in_use.0

    count_lines : (v : ℕ) → count_in v (lines_of hold ds) ≡ count_in v (lines_of hold front) + (count_in v (line hold d) + count_in v (lines_of hold rest))
    unfolding lines_of
    count_lines v =
        let e : count_in v (lines_of hold ds) ≡ count_in v (lines_of hold front ++ (line hold d ++ lines_of hold rest)) = ap (λ (z : List Deque). count_in v (lines_of hold z)) whole ∙ ap (count_in v) (lines_append hold front (d ∷ rest)) in
        omega (arith, e, count_append v (lines_of hold front) (line hold d ++ lines_of hold rest), count_append v (line hold d) (lines_of hold rest))

    bottoms_split : (f : List Deque) → bottoms_of hold (f ++ d ∷ rest) ≡ bottoms_of hold f ++ (bottom (line hold d) ∷ bottoms_of hold rest)
    unfolding bottoms_of
    bottoms_split [] = refl
    bottoms_split (y ∷ f) = ap (bottom (line hold y) ∷◌) (bottoms_split f)

    bottoms_are : bottoms_of hold ds ≡ bottoms_of hold front ++ (bottom (line hold d) ∷ bottoms_of hold rest)
    bottoms_are = ap (bottoms_of hold) whole ∙ bottoms_split front

    count_bottoms : (v : ℕ) → count_in v (bottoms_of hold ds) ≤ count_in v (lines_of hold front) + (pick (eqb (bottom (line hold d)) v) 1 0 + count_in v (lines_of hold rest))
    unfolding count_in
    count_bottoms v =
        let e : count_in v (bottoms_of hold ds) ≡ count_in v (bottoms_of hold front ++ (bottom (line hold d) ∷ bottoms_of hold rest)) = ap (count_in v) bottoms_are in
        omega (arith, e, count_append v (bottoms_of hold front) (bottom (line hold d) ∷ bottoms_of hold rest), bottoms_count hold v front in_front_lem, bottoms_count hold v rest in_use.1)

    passes : linked_in second (bottom (line hold d)) ≡ true
    passes =
        let m : Memᴰ (bottom (line hold d)) (bottoms_of hold ds) = subst (λ (z : List ℕ). Memᴰ (bottom (line hold d)) z) (sym bottoms_are) (mathlib.Core.List.Memᴰ.append_right (bottoms_of hold front) (mathlib.Core.List.Memᴰ.head refl)) in
        linked_in_lem second (bottoms_of hold ds) L.bottoms b_low (bottom (line hold d)) (b_low (bottom (line hold d)) m) m

    others : (x : ℕ) → Memᴰ x (above (line hold d)) → linked_in second x ≡ false
    others x m =
        let c : 1 ≤ count_in x (above (line hold d)) = counted_in x (above (line hold d)) m in
        let i : Memᴰ x (lines_of hold ds) = in_counted x (lines_of hold ds) (omega (arith, c, count_lines x, bottom_counts x (line hold d) some)) in
        linked_out second (bottoms_of hold ds) L.bottoms b_low x (low x i)
        (λ n. omega (arith, c, counted_in x (bottoms_of hold ds) n, count_bottoms x, count_lines x, bottom_counts x (line hold d) some, once_counts (lines_of hold ds) once x))

    its_owner : d.owner < 16 → (is_held D.state.status (hold d.owner) ≡ true) × (holder_of (hold d.owner) workers ≡ d.owner)
    unfolding owned_by
    its_owner h =
        let e : owned_by d.owner ds ≡ owned_by d.owner front + (pick (eqb d.owner d.owner) 1 0 + owned_by d.owner rest) = ap (owned_by d.owner) whole ∙ owned_append d.owner front (d ∷ rest) in
        let n : 1 ≤ owned_by d.owner ds = omega (arith, e, ap (λ (z : Bool). pick {A = ℕ} z 1 0) (eq-eqb d.owner d.owner refl)) in
        let y : (worker_of D.state d.owner).holds ≡ true = is_owner T l p K D X d.owner h n in (
          eq-eqb (get_or D.state.status (hold d.owner) 0) held (known.holding.holder_held d.owner h y),
          holder_at (hold d.owner) workers d.owner (omega (arith, h, known.holding.worker_size)) y refl
              (λ v i q r. known.holding.holder_once v d.owner (omega (arith, i, known.holding.worker_size)) h q y r),
        )

    its_top : (t : ℕ) (k : List ℕ) → d.threads ≡ t ∷ k → is_held D.state.status t ≡ false
    unfolding occurs
    its_top t k e =
        let c : occurs t ds ≡ occurs t front + (count_in t d.threads + occurs t rest) = ap (occurs t) whole ∙ occurs_append t front (d ∷ rest) in
        let n : 1 ≤ occurs t ds = omega (arith, c, ap (count_in t) e, count_self t k) in
        ne_eqb (get_or D.state.status t 0) held (λ z. omega (arith, z, (in_deque T l p K D X t n).1))

    seen : Seen (linked_in second) (is_held D.state.status) (λ t. holder_of t workers) hold d
    seen = record { last = last_passes (linked_in second) (line hold d) some passes others; owner = its_owner; top = its_top }

  pub all_seen : (front rest : List Deque) → ds ≡ front ++ rest → AllSeen (linked_in second) (is_held D.state.status) (λ t. holder_of t workers) hold rest
  unfolding AllSeen
  all_seen front [] e = tt
  all_seen front (d ∷ rest) e = (seen front d rest e, all_seen (front ++ d ∷ []) rest (e ∙ sym (append_assoc front (d ∷ []) rest)))

  pub list_read : list_of first ≡ lines_of hold ds
  list_read = walk_linked first.left first.right first.head (lines_of hold ds) L.lines once low

  pub deques_read : deques_from first second D.state.status D.state.workers ≡ D.deques
  unfolding deques_from
  deques_read =
      ap (λ (z : List ℕ). map (deque_of (is_held D.state.status) (λ t. holder_of t workers)) (cut_after (linked_in second) z)) list_read
      ∙ deques_back (linked_in second) (is_held D.state.status) (λ t. holder_of t workers) hold ds X.placed.in_use (all_seen [] ds refl)
