-- A turn on arrays in which the deques stand is the turn of DFDeques: the same reply, everything fits, and the deques after the turn stand in the arrays after it.
use Rattle.std.specs.Prelude.{Ok}
use mathlib.Core.Path.{◌≡◌, refl, sym, ap, subst, ◌∙◌}
use Prim.Native.Nat.{ℕ, suc, ◌+◌, ◌≤◌, ◌<◌}
use mathlib.Core.List.{List, [], ◌∷◌}
use mathlib.Core.Bool.{Bool, true, false, ◌&&◌}
use mathlib.Core.Logic.{◌⊎◌, inl, inr}
use native.Mathlib.Omega.{arith}
use lib.ListN.{length, get_or, set}
use lib.Seq.{get_or-set_same, get_or-set_other, set-get_or, set-set}
use lib.Dec.{ltb, eqb}
use borrow.Author.Tests.{eq-eqb, lt-ltb}
use Rattle.table.specs.Sum.{pick}
use Rattle.table.specs.Format.{table_of}
use Rattle.table.specs.Rules.{Rules}
use Rattle.table.specs.Pass.{first_found}
use Rattle.table.proofs.Tests.{no_way}
use Rattle.schedule.specs.declared.Worker.{Worker}
use Rattle.schedule.specs.declared.Reply.TheVariants.{Idle}
use Rattle.schedule.specs.Machine.{State, ready, nobody, worker_of, taken, counted}
use Rattle.schedule.specs.Links.{no_thread, LinkedAs}
use Rattle.schedule.specs.Begin.{setting_passes}
use Rattle.schedule.specs.Parents.{Parents}
use Rattle.order.proofs.Lawful.{Lawful, lawful}
use Rattle.schedule.proofs.Sound.Facts.{Facts}
use Rattle.schedule.proofs.Stores.{setting_fits}
use Rattle.order.proofs.Lists.{Below}
use Rattle.schedule.proofs.Linked.Once.{Once}
use Rattle.array_machine.specs.declared.Totals.{Totals}
use Rattle.array_machine.specs.Arrays.{Arrays, second_of}
use Rattle.array_machine.specs.Turn.{Outcome, moved}
use Rattle.deques.specs.Deques.{Deque, deque, nothing, is_empty, bottom, robbed, over, DequeStep, steps, act_deques, steal, deque_turn}
use Rattle.deques.specs.Partition.{owned_by, InUse, AllInUse}
use Rattle.deques.specs.Lines.{lines_of, bottoms_of, thread_of}
use Rattle.deques.proofs.Bottoms.{line_bottom}
use Rattle.deques.proofs.Placed.{robbed_lines}
use Rattle.deques.proofs.Counts.{owned_append, in_use_rest}
use Rattle.deques.proofs.DequeTurns.{Kept, with_serial, serial_facts, taken_common, b_below, b_ready, stolen}
use Rattle.deques.proofs.Standing.{is_owner, lines_once, lines_small, bottoms_once, bottoms_small}
use Rattle.stealing.specs.Stealing.{along_by, robbed_links, robbed_arrays, robbed_totals, deque_in, steal_on, deque_on}
use Rattle.stealing.proofs.Words.{along_linked}
use Rattle.stealing.proofs.Room.{state_at}
use Rattle.stealing.proofs.Acts.{LaidOut, Follows, linked_by_lem, acts_follow}
use Rattle.stealing.proofs.Robs.{Place, NoPlace, place, robbed_bottoms}

-- what a test with a known outcome chooses
goes_there : (i j k f : Bool) (o v z y : Outcome) → i ≡ true → j ≡ true → k ≡ true → f ≡ true → pick i (pick (j && k) (pick f o v) z) y ≡ o
goes_there i j k f o v z y a b c d = rw (a, b, c, d)

goes_idle : (i j : Bool) (o z y : Outcome) → i ≡ true → j ≡ false → pick i (pick j o z) y ≡ z
goes_idle i j o z y a b = rw (a, b)

module _ (s : List ℕ) (rules : Rules s) (p K : ℕ) (begins : first_found (setting_passes p K) ≡ Ok tt) (parents : List ℕ) (par : Parents (table_of s) parents)
    (w : ℕ) (below : w < p) (A : Arrays) (totals : Totals) (workers : List Worker) (turns : ℕ) (ds : List Deque)
    (X : Kept (table_of s) p K (over (state_at A totals workers turns) ds)) (L : LaidOut A totals (thread_of workers) ds) (c : ℕ) (c16 : c < 16) where
  abbrev st : State
  st = state_at A totals workers turns

  abbrev worker : Worker
  worker = get_or workers w nobody

  abbrev hold : ℕ → ℕ
  hold = thread_of workers

  laws : Lawful (table_of s)
  laws = lawful s rules

  few : p ≤ 16
  few = (setting_fits p K begins).few_workers

  w16 : w < 16
  w16 = omega (arith, few, below)

  f : Facts (table_of s) p K (with_serial (table_of s) laws st)
  f = serial_facts (table_of s) laws p K st X.common

  wide : w < length workers
  wide = omega (arith, f.holding.worker_size, w16)

  once : Once (lines_of hold ds)
  once = lines_once (table_of s) laws p K (over st ds) X

  low : Below 1024 (lines_of hold ds)
  low = lines_small (table_of s) laws p K (over st ds) X

  b_once : Once (bottoms_of hold ds)
  b_once = bottoms_once (table_of s) laws p K (over st ds) X

  b_low : Below 1024 (bottoms_of hold ds)
  b_low = bottoms_small (table_of s) laws p K (over st ds) X

  along : along_by c A.over totals.first ≡ get_or (bottoms_of hold ds) c no_thread
  along = along_linked (second_of A totals) (bottoms_of hold ds) L.bottoms b_once b_low c

  -- ---- an idle turn

  idle : Follows w workers turns (moved Idle A totals worker) (steps Idle (over st ds))
  idle =
      record {
        fits = refl;
        reply = refl;
        state = ap (λ (z : List Worker). state_at A totals z turns) (sym (set-get_or workers w nobody));
        laid = subst (λ (z : List Worker). LaidOut A totals (thread_of z) ds) (sym (set-get_or workers w nobody)) L;
      }

  idle_when : (b : ℕ) → along_by c A.over totals.first ≡ b → (ltb b no_thread && eqb (get_or A.status b 0) ready) ≡ false → is_empty (get_or ds c nothing).threads ≡ true
      → Follows w workers turns (steal_on (table_of s) K parents c A totals worker) (steal (table_of s) K w c (over st ds))
  unfolding steal_on steal
  idle_when b e n i =
      rw i (subst (λ (o : Outcome). Follows w workers turns o (steps Idle (over st ds))) (sym (goes_idle _ _ _ _ _ (lt-ltb c 16 c16) (ap (λ (z : ℕ). ltb z no_thread && eqb (get_or A.status z 0) ready) e ∙ n))) idle)

  no_place : NoPlace hold c ds → Follows w workers turns (steal_on (table_of s) K parents c A totals worker) (steal (table_of s) K w c (over st ds))
  no_place n = idle_when no_thread (along ∙ n.1) refl (ap is_empty n.0)

  -- ---- the deque at the place

  module _ (g : Place w hold c ds) where
    abbrev o : ℕ
    o = g.owner

    abbrev l : List ℕ
    l = g.threads

    here : InUse (deque g.owner g.threads)
    unfolding AllInUse
    here = (in_use_rest g.front (deque g.owner g.threads ∷ g.rest) (subst (λ (z : List Deque). AllInUse z) g.whole X.placed.in_use)).0

    owns_it : (v : ℕ) → owned_by v ds ≡ owned_by v g.front + (pick (eqb g.owner v) 1 0 + owned_by v g.rest)
    unfolding owned_by
    owns_it v = ap (owned_by v) g.whole ∙ owned_append v g.front (deque g.owner g.threads ∷ g.rest)

    -- an owned empty deque: its owner's thread is no ready one
    empty : is_empty g.threads ≡ true → Follows w workers turns (steal_on (table_of s) K parents c A totals worker) (steal (table_of s) K w c (over st ds))
    unfolding bottom
    empty e = go here g.threads refl e
      where
        go : InUse (deque g.owner g.threads) → (k : List ℕ) → g.threads ≡ k → is_empty k ≡ true
            → Follows w workers turns (steal_on (table_of s) K parents c A totals worker) (steal (table_of s) K w c (over st ds))
        go m (x ∷ k) i z = no_way cc
        go (inr (q, n)) [] i z = no_way (cc)
        go (inl q) [] i z =
            let b : get_or (bottoms_of hold ds) c no_thread ≡ hold g.owner = g.bottom_there ∙ rw (lt-ltb g.owner 16 q, i) in
            let n : owned_by g.owner ds ≡ owned_by g.owner g.front + (1 + owned_by g.owner g.rest) =
            owns_it g.owner ∙ ap (λ (z : ℕ). owned_by g.owner g.front + (z + owned_by g.owner g.rest)) (rw (eq-eqb g.owner g.owner refl)) in
            let y : (worker_of st g.owner).holds ≡ true = is_owner (table_of s) laws p K (over st ds) X g.owner q (omega (arith, n)) in
            idle_when (hold g.owner) (along ∙ b)
            (rw (lt-ltb (hold g.owner) 1024 (omega (arith, f.holding.holder_thread g.owner q y, laws.few_threads)), f.holding.holder_held g.owner q y))
            (ap is_empty (g.there ∙ i))

    -- a steal
    module _ (free : (get_or workers w nobody).holds ≡ false) (some : is_empty g.threads ≡ false) where
      abbrev b : ℕ
      b = bottom (get_or ds c nothing).threads

      b_is : bottom g.threads ≡ b
      b_is = ap bottom (sym g.there)

      some_there : is_empty (get_or ds c nothing).threads ≡ false
      some_there = ap is_empty g.there ∙ some

      found : along_by c A.over totals.first ≡ b
      found = along ∙ g.bottom_there ∙ line_bottom (ltb g.owner 16) (hold g.owner) g.threads some ∙ b_is

      b_small : b < (table_of s).threads
      b_small = b_below (table_of s) laws p K few w below c (over st ds) X free some_there

      b_is_ready : get_or A.status b 0 ≡ ready
      b_is_ready = b_ready (table_of s) laws p K few w below c (over st ds) X free some_there (eqb (get_or A.status b 0) ready) refl

      abbrev y : Worker
      y = record { holds = true; thread = bottom (get_or ds c nothing).threads; quota = K }

      abbrev workers' : List Worker
      workers' = set workers w (record { holds = true; thread = bottom (get_or ds c nothing).threads; quota = K })

      own0 : owned_by w ds ≡ 0
      own0 = X.placed.owned w w16 ∙ rw free

      same : (v : ℕ) → (v ≡ w → ⊥) → thread_of workers' v ≡ thread_of workers v
      same v n = ap (λ (z : Worker). z.thread) (get_or-set_other workers w v y nobody n)

      thief : get_or workers' w nobody ≡ y
      thief = get_or-set_same workers w y nobody wide

      holds_b : thread_of workers' w ≡ b
      holds_b = ap (λ (z : Worker). z.thread) thief

      other : g.owner ≡ w → ⊥
      other e = omega (arith, own0, owns_it w, ap (λ (z : Bool). pick {A = ℕ} z 1 0) (eq-eqb g.owner w e))

      few_owners : g.owner ≤ 16
      few_owners = go here
        where
          go : InUse (deque g.owner g.threads) → g.owner ≤ 16
          go (inl q) = omega (arith, q)
          go (inr (q, n)) = omega (arith, q)

      bottoms_after : LinkedAs (robbed_links b A totals) (bottoms_of (thread_of workers') (robbed w c ds))
      bottoms_after =
          subst (λ (z : ℕ). LinkedAs (robbed_links z A totals) (bottoms_of (thread_of workers') (robbed w c ds))) b_is
          (linked_by_lem _ _ _ (ap (bottoms_of (thread_of workers')) g.robbing)
          (robbed_bottoms w w16 hold (thread_of workers') same g.front g.rest g.owner g.threads (omega (arith, own0, owns_it w)) (omega (arith, own0, owns_it w)) other few_owners some (holds_b ∙ sym b_is)
          (subst (λ (z : List Deque). AllInUse z) g.whole X.placed.in_use) A totals (subst (λ (z : List Deque). LaidOut A totals hold z) g.whole L)
          (subst (λ (z : List Deque). Once (lines_of hold z)) g.whole once) (subst (λ (z : List Deque). Below 1024 (lines_of hold z)) g.whole low)
          (subst (λ (z : List Deque). Once (bottoms_of hold z)) g.whole b_once) (subst (λ (z : List Deque). Below 1024 (bottoms_of hold z)) g.whole b_low)))

      laid_after : LaidOut (robbed_arrays b A totals) (robbed_totals b A totals) (thread_of workers') (robbed w c ds)
      laid_after =
          record {
            lines = linked_by_lem _ _ _ (robbed_lines w w16 hold (thread_of workers') same c ds own0 X.placed.in_use some_there holds_b) L.lines;
            bottoms = bottoms_after;
          }

      kept_after : Kept (table_of s) p K (over (state_at (robbed_arrays b A totals) (robbed_totals b A totals) workers' turns) (robbed w c ds))
      unfolding taken
      kept_after =
          record {
            common = taken_common (table_of s) laws p K w few below st X.common free K b (omega arith) b_small b_is_ready;
            placed = stolen (table_of s) laws p K few w below c (over st ds) X free some_there;
          }

      abbrev acted : Outcome
      acted = deque_in (table_of s) K parents (robbed_arrays b A totals) (robbed_totals b A totals) y

      follows : Follows w workers' turns acted (act_deques (table_of s) K w (taken K w b st) (robbed w c ds))
      unfolding taken
      follows =
          subst (λ (z : Worker). Follows w workers' turns (deque_in (table_of s) K parents (robbed_arrays b A totals) (robbed_totals b A totals) z)
          (act_deques (table_of s) K w (state_at (robbed_arrays b A totals) (robbed_totals b A totals) workers' turns) (robbed w c ds))) thief
          (acts_follow s rules p K begins parents par w below (robbed_arrays b A totals) (robbed_totals b A totals) workers' turns (robbed w c ds) kept_after laid_after (ap (λ (z : Worker). z.holds) thief))

      follows_on : Follows w workers turns acted (act_deques (table_of s) K w (taken K w b st) (robbed w c ds))
      follows_on =
          record {
            fits = follows.fits;
            reply = follows.reply;
            state = follows.state ∙ ap (λ (z : List Worker). state_at acted.arrays acted.totals z turns) (set-set workers w y acted.worker);
            laid = subst (λ (z : List Worker). LaidOut acted.arrays acted.totals (thread_of z) (act_deques (table_of s) K w (taken K w b st) (robbed w c ds)).after.deques) (set-set workers w y acted.worker) follows.laid;
          }

      steals : Follows w workers turns (steal_on (table_of s) K parents c A totals worker) (steal (table_of s) K w c (over st ds))
      unfolding steal_on steal
      steals =
          rw (some_there, found)
          (subst (λ (z : Outcome). Follows w workers turns z (act_deques (table_of s) K w (taken K w b st) (robbed w c ds)))
          (sym (goes_there _ _ _ _ _ _ _ _ (lt-ltb c 16 c16) (lt-ltb b 1024 (omega (arith, b_small, laws.few_threads))) (eq-eqb (get_or A.status b 0) ready b_is_ready) follows.fits))
          follows_on)

  pub steal_follows : (get_or workers w nobody).holds ≡ false → Follows w workers turns (steal_on (table_of s) K parents c A totals worker) (steal (table_of s) K w c (over st ds))
  steal_follows free = go (place w hold c ds)
    where
      at : (g : Place w hold c ds) (q : Bool) → is_empty g.threads ≡ q → Follows w workers turns (steal_on (table_of s) K parents c A totals worker) (steal (table_of s) K w c (over st ds))
      at g true e = empty g e
      at g false e = steals g free e

      go : NoPlace hold c ds ⊎ Place w hold c ds → Follows w workers turns (steal_on (table_of s) K parents c A totals worker) (steal (table_of s) K w c (over st ds))
      go (inl n) = no_place n
      go (inr g) = at g (is_empty g.threads) refl

  -- ---- the whole turn

  counts : {z : Outcome} {r : DequeStep} → Follows w workers turns z r → Follows w workers (suc turns) z (steps r.reply (over (counted r.after.state) r.after.deques))
  counts F = record { fits = F.fits; reply = F.reply; state = ap (λ (z : State). counted z) F.state; laid = F.laid }

  -- "Each turn equals that definition": on the arrays in which the deques stand
  pub turn_follows : Follows w workers (suc turns) (deque_on (table_of s) K parents c A totals worker) (deque_turn (table_of s) K w c (over st ds))
  unfolding deque_on deque_turn
  turn_follows = go (get_or workers w nobody).holds refl
    where
      go : (q : Bool) → (get_or workers w nobody).holds ≡ q → Follows w workers (suc turns) (deque_on (table_of s) K parents c A totals worker) (deque_turn (table_of s) K w c (over st ds))
      go true e = rw e (counts (acts_follow s rules p K begins parents par w below A totals workers turns ds X L e))
      go false e = rw e (counts (steal_follows e))
