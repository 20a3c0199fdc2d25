-- A turn in lent memory, way by way: without room for it, with a thread that is none of the arrays', idle, and with a thread on which the worker goes on.
use mathlib.Core.Path.{◌≡◌, refl, sym, ap, subst, ◌∙◌}
use Prim.Native.Nat.{ℕ, ◌+◌, ◌^◌, ◌≤◌, ◌<◌}
use native.Mathlib.Numerals.{add-one}
use mathlib.Core.List.{List, [], ◌∷◌}
use mathlib.Core.Bool.{Bool, true, false, not, ◌&&◌, ◌||◌}
use borrow.Author.Tests.{lt-ltb, le-ltb, ltb-true, ltb-false, eqb-true, eqb-false, eq-eqb, ne_eqb}
use lib.Dec.{ltb, eqb}
use lib.ListN.{get_or, set}
use lib.Seq.{set-get_or}
use Rattle.table.specs.Sum.{pick}
use Rattle.table.specs.Format.{Table, threads_of, bodies_from, code_at, argument_at, table_of, kind}
use Rattle.table.proofs.Tests.{and_both, no_way}
use Rattle.schedule.specs.declared.Worker.{Worker}
use Rattle.schedule.specs.declared.Reply.{Reply}
use Rattle.schedule.specs.declared.Reply.TheVariants.{Idle}
use Rattle.schedule.specs.Machine.{ready, held}
use Rattle.schedule.specs.Links.{no_thread, Sought, seek}
use Rattle.table.specs.Checks.{max_threads}
use Rattle.schedule.proofs.Linked.Searches.{seek_ready}
use Rattle.array_machine.specs.Arrays.{with_statuses}
use Rattle.array_machine.specs.Turn.{Outcome, moved, unfit, act_on, act_in, seat, seat_of, seat_in, step_from, step_on}
use Rattle.array_machine.specs.Counted.{counting, busy_after, room_for, turn_on, passed_along}
use Rattle.std.specs.Prelude.{Err, None, Ok, Option, Result, Some, ⊤}
use Rattle.std.specs.Result.{IsErr, IsErrAnd}
use Rattle.run_memory.specs.Memory.{Memory, memory, worker_in, moved_in, memory_after, hindrance, told, turn_left, taken_in, turn_in, passed_over, unless, thread_in}
use Rattle.run_memory.specs.Code.Acts.{Gone, gone, went_to, went_in, seated_status, seated_worker, acted}

-- the memory with this number of turns taken
abbrev pub counted : ℕ → Memory → Memory
counted x M =
    memory M.settings M.parents M.arrays M.holds M.threads M.quotas M.heads (get_or M.totals 0 0 ∷ get_or M.totals 1 0 ∷ x ∷ [])

-- its heads written out, as those of the blocks are
abbrev pub heads_out : Memory → Memory
heads_out M =
    memory M.settings M.parents M.arrays M.holds M.threads M.quotas (get_or M.heads 0 0 ∷ get_or M.heads 1 0 ∷ get_or M.heads 2 0 ∷ []) M.totals

-- what the test for room says
pub room : {f : Bool} (turns busy w : ℕ) (holds : Bool) → f ≡ true → f ≡ room_for turns busy holds w → (turns + 1 < 2 ^ 64) × ((w < 16) × (holds ≡ false → busy + 2 ^ w < 65536))
unfolding room_for
room turns busy w holds e d =
    let p = and_both (ltb (turns + 1) (2 ^ 64)) (ltb w 16 && (holds || ltb (busy + 2 ^ w) 65536)) (sym d ∙ e) in
    let q = and_both (ltb w 16) (holds || ltb (busy + 2 ^ w) 65536) p.1 in
    (ltb-true (turns + 1) (2 ^ 64) p.0, (ltb-true w 16 q.0, λ h. ltb-true (busy + 2 ^ w) 65536 (rw h at q.1)))

-- a truth value that is none is written as 0
none_held : (x : ℕ) → not (eqb x 0) ≡ false → x ≡ 0
none_held x e = go (eqb x 0) refl e
  where
    go : (b : Bool) → eqb x 0 ≡ b → not b ≡ false → x ≡ 0
    go true d h = eqb-true x 0 d
    go false d h = no_way (cc)

module _ (s : List ℕ) (w : ℕ) (M : Memory) where
  abbrev T : Table
  T = table_of s

  abbrev K : ℕ
  K = get_or M.settings 1 0

  abbrev worker : Worker
  worker = worker_in M w

  abbrev pub found : ℕ
  found = (seek max_threads M.arrays.status M.arrays.over (moved_in M).totals.first).thread

  abbrev o : Outcome
  o = step_on T K M.parents M.arrays (moved_in M).totals worker

  abbrev pub has_room : Bool
  has_room = room_for (moved_in M).turns (moved_in M).busy worker.holds w

  pub without_room : {f : Bool} → f ≡ false → f ≡ has_room → told 32 Idle M ≡ taken_in s w M
  unfolding turn_left turn_on
  without_room e d = rw (← d, e)

  module _ {f : Bool} (r : f ≡ true) (d : f ≡ has_room) where
    unfits : o.fits ≡ false → told 32 Idle M ≡ taken_in s w M
    unfolding turn_left turn_on
    unfits h = rw (← d, r, h)

    counts : o.fits ≡ true → told 0 o.reply (memory_after M w (counting w (moved_in M) worker o)) ≡ taken_in s w M
    unfolding turn_left turn_on
    counts h = rw (← d, r, h)

    -- the worker's own thread is none
    pub no_thread_lem : worker.holds ≡ true → no_thread ≤ get_or M.threads w 0 → told 32 Idle M ≡ taken_in s w M
    unfolding step_on step_from seat_of act_in
    no_thread_lem h t = unfits none
      where
        none : o.fits ≡ false
        none = rw (h, le-ltb (get_or M.threads w 0) no_thread t)

    -- no thread is ready
    pub idles : worker.holds ≡ false → no_thread ≤ found → told 0 Idle (counted ((moved_in M).turns + 1) (heads_out M)) ≡ taken_in s w M
    unfolding step_on step_from seat_of busy_after
    idles h t =
        ap (told 0 Idle) (sym after) ∙ ap (λ (x : Outcome). told 0 x.reply (memory_after M w (counting w (moved_in M) worker x))) (sym idle) ∙ counts (ap (λ (x : Outcome). x.fits) idle)
      where
        idle : o ≡ moved Idle M.arrays (moved_in M).totals worker
        idle = rw (h, le-ltb found no_thread t)

        after : memory_after M w (counting w (moved_in M) worker (moved Idle M.arrays (moved_in M).totals worker)) ≡ counted ((moved_in M).turns + 1) (heads_out M)
        after =
            let z : get_or M.holds w 0 ≡ 0 = none_held _ h in
            let a : set M.holds w 0 ≡ M.holds = ap (set M.holds w) (sym z) ∙ set-get_or M.holds w 0 in
            rw (h, a, set-get_or M.threads w 0, set-get_or M.quotas w 0, add-one)

    module _ (t : ℕ) (e : t ≡ pick worker.holds (get_or M.threads w 0) found) (l : t < no_thread) where
      seated : seat_in K M.arrays (moved_in M).totals worker ≡ seat (seated_status M w t) (seated_worker M w t)
      unfolding seat_of
      seated = go worker.holds refl e
        where
          go : (b : Bool) → worker.holds ≡ b → t ≡ pick b (get_or M.threads w 0) found
              → pick worker.holds (seat M.arrays.status worker) (pick (ltb found no_thread) (seat (set M.arrays.status found held) (record { holds = true; thread = found; quota = K })) (seat M.arrays.status worker))
              ≡ seat (seated_status M w t) (seated_worker M w t)
          go true h q = rw (h, q)
          go false h q =
              let m : ltb found no_thread ≡ true = ap (λ (x : ℕ). ltb x no_thread) (sym q) ∙ lt-ltb t no_thread l in
              rw (h, m, q)

      abbrev pub there : Outcome
      there = let a : ℕ = get_or M.arrays.next t 0 in
          act_on (kind T a) T K M.parents t a (T.argument a) (with_statuses (seated_status M w t) M.arrays) (moved_in M).totals (seated_worker M w t)

      acts : act_in T K M.parents (with_statuses (seated_status M w t) M.arrays) (moved_in M).totals (seated_worker M w t) ≡ there
      unfolding act_in
      acts = rw (lt-ltb t no_thread l)

      from_there : o ≡ pick there.fits there (unfit M.arrays (moved_in M).totals worker)
      unfolding step_on step_from
      from_there = rw (seated, acts)

      abbrev gone_as : Bool → Gone
      gone_as b = pick b (record { fits = true; reply = there.reply; memory = went_to M w there }) (record { fits = false; reply = Idle; memory = M })

      abbrev step_as : Bool → Outcome
      step_as b = pick b there (unfit M.arrays (moved_in M).totals worker)

      pub stays_unfit : there.fits ≡ false → told 32 Idle M ≡ taken_in s w M
      stays_unfit c = unfits (ap (λ (x : Outcome). x.fits) from_there ∙ ap (λ (x : Bool). (step_as x).fits) c)

      pub goes_there : there.fits ≡ true → told 0 there.reply (memory_after M w (counting w (moved_in M) worker there)) ≡ taken_in s w M
      goes_there c =
          let f : o ≡ there = from_there ∙ ap (λ (x : Bool). step_as x) c in
          ap (λ (x : Outcome). told 0 x.reply (memory_after M w (counting w (moved_in M) worker x))) (sym f) ∙ counts (ap (λ (x : Outcome). x.fits) f ∙ c)

      module _ (g : Option Reply) (M' : Memory) (q : gone g M' ≡ acted (kind T (get_or M.arrays.next t 0)) T w t (get_or M.arrays.next t 0) (T.argument (get_or M.arrays.next t 0)) M) where
        pub goes_unfit : g ≡ None → told 32 Idle M' ≡ taken_in s w M
        unfolding went_in
        goes_unfit h = go there.fits refl
          where
            unfit_there : (gone g M').fits ≡ false
            unfit_there = ap (λ (x : Option Reply). (gone x M').fits) h

            same : M' ≡ (gone g M').memory
            same = sym (ap (λ (x : Option Reply). (gone x M').memory) h)

            go : (b : Bool) → there.fits ≡ b → told 32 Idle M' ≡ taken_in s w M
            go true c =
                let k : (gone g M').fits ≡ true = ap (λ (x : Gone). x.fits) q ∙ ap (λ (x : Bool). (gone_as x).fits) c in
                no_way (cc (k, unfit_there))
            go false c =
                let k : M' ≡ M = same ∙ ap (λ (x : Gone). x.memory) q ∙ ap (λ (x : Bool). (gone_as x).memory) c in
                ap (told 32 Idle) k ∙ stays_unfit c

        pub goes : (x : Reply) → g ≡ Some x → told 0 x (counted ((moved_in M).turns + 1) M') ≡ taken_in s w M
        unfolding went_in
        goes x h = go there.fits refl
          where
            after : counted ((moved_in M).turns + 1) (went_to M w there) ≡ memory_after M w (counting w (moved_in M) worker there)
            after = rw add-one

            as_gone : gone (Some x) M' ≡ gone g M'
            as_gone = sym (ap (λ (y : Option Reply). gone y M') h)

            go : (b : Bool) → there.fits ≡ b → told 0 x (counted ((moved_in M).turns + 1) M') ≡ taken_in s w M
            go false c =
                let k : true ≡ false = ap (λ (y : Gone). y.fits) (as_gone ∙ q) ∙ ap (λ (y : Bool). (gone_as y).fits) c in
                no_way (cc (k))
            go true c =
                let k : gone (Some x) M' ≡ record { fits = true; reply = there.reply; memory = went_to M w there } =
                as_gone ∙ q ∙ ap (λ (y : Bool). gone_as y) c in
                ap (λ (y : Gone). told 0 y.reply (counted ((moved_in M).turns + 1) y.memory)) k ∙ ap (told 0 there.reply) after ∙ goes_there c

-- ---- before it is taken

module _ (s : List ℕ) (w : ℕ) (M : Memory) {n : ℕ} (e : n ≡ hindrance (moved_in M).turns (get_or M.settings 0 0) w (get_or M.arrays.status 0 0)) where
  pub hindered : (n ≡ 0 → ⊥) → told n Idle M ≡ turn_in s w M
  unfolding turn_in
  hindered h = rw (← e, ne_eqb n 0 h)

  pub goes_on : n ≡ 0 → taken_in s w M ≡ turn_in s w M
  unfolding turn_in
  goes_on h = rw (← e, eq-eqb n 0 h)

-- of what stands in the memory
pub asked_hindrance : {n t t' p p' r r' : ℕ} (w : ℕ) → t ≡ t' → p ≡ p' → r ≡ r' → n ≡ hindrance t p w r → n ≡ hindrance t' p' w r'
asked_hindrance w a b c e = rw (← a, ← b, ← c) e

pub asked_room : {f h h' : Bool} {t t' b b' : ℕ} (w : ℕ) → t ≡ t' → b ≡ b' → h ≡ h' → f ≡ room_for t b h w → f ≡ room_for t' b' h' w
asked_room w p q r e = rw (← p, ← q, ← r) e

-- ---- the thread that was found

-- for a worker with one, and for one without
pub own_thread : {h k : Bool} {t x : ℕ} (y : ℕ) → h ≡ true → h ≡ k → t ≡ pick k x y → 1024 ≤ t → 1024 ≤ x
own_thread {h} {k} {t} {x} y e d q l = subst (λ (z : ℕ). 1024 ≤ z) (q ∙ ap (λ (b : Bool). pick b x y) (sym d ∙ e)) l

pub sought_thread : {h k : Bool} {t y : ℕ} (x : ℕ) → h ≡ false → h ≡ k → t ≡ pick k x y → 1024 ≤ t → 1024 ≤ y
sought_thread {h} {k} {t} {y} x e d q l = subst (λ (z : ℕ). 1024 ≤ z) (q ∙ ap (λ (b : Bool). pick b x y) (sym d ∙ e)) l

-- one that is taken is ready
pub taken_ready : {k : Bool} {t : ℕ} (x : ℕ) (status right : List ℕ) (u : ℕ) → t ≡ pick k x (seek 1024 status right u).thread → t < 1024 → k ≡ false → get_or status t 0 ≡ ready
taken_ready {k} {t} x status right u q l h =
    let e : t ≡ (seek 1024 status right u).thread = q ∙ ap (λ (b : Bool). pick b x (seek 1024 status right u).thread) h in
    ap (λ (y : ℕ). get_or status y 0) e ∙ seek_ready 1024 status right u (subst (λ (y : ℕ). y < 1024) e l)

-- the table's actions, as they are handed on
module _ (s : List ℕ) {l : List ℕ} {n : ℕ} (e : l ≡ bodies_from s n) (d : n ≡ threads_of s) where
  pub codes : (table_of s).code ≡ code_at l
  unfolding table_of
  codes = rw (e, d)

  pub arguments : (table_of s).argument ≡ argument_at l
  unfolding table_of
  arguments = rw (e, d)

-- ---- how many threads are passed over

pub and_none : (b : Bool) → (b && false) ≡ false
and_none true = refl
and_none false = refl

-- where the turn is refused, it says none
pub passes_none : (counting : Bool) (number x : ℕ) → eqb number 0 ≡ false → ◌≡◌ {A = ℕ} 0 (pick (counting && eqb number 0) x 0)
passes_none counting number x e = rw (e, and_none counting)

module _ (M : Memory) (w : ℕ) where
  abbrev second : Sought
  second = seek max_threads M.arrays.status M.arrays.over (moved_in M).totals.first

  abbrev whole : Sought
  whole = seek max_threads M.arrays.status M.arrays.right (moved_in M).totals.leftmost

  -- nor where none is taken
  pub passes_idle : (counting : Bool) → no_thread ≤ second.thread → ◌≡◌ {A = ℕ} 0 (pick (counting && true) (passed_over M w) 0)
  passes_idle true l = rw (le-ltb second.thread no_thread l)
  passes_idle false l = refl

  pub passes : (counting : Bool) (t : ℕ) → t ≡ pick (worker_in M w).holds (get_or M.threads w 0) second.thread → t < no_thread
      → pick counting (passed_along (worker_in M w).holds whole) 0 ≡ pick (counting && true) (passed_over M w) 0
  unfolding passed_along
  passes false t e l = refl
  passes true t e l = go (worker_in M w).holds refl e
    where
      go : (b : Bool) → (worker_in M w).holds ≡ b → t ≡ pick b (get_or M.threads w 0) second.thread
          → pick (worker_in M w).holds 0 (pick (ltb whole.thread no_thread) whole.passed 0)
          ≡ pick (ltb second.thread no_thread) (pick (worker_in M w).holds 0 (pick (ltb whole.thread no_thread) whole.passed 0)) 0
      go true h q = rw h (both (ltb second.thread no_thread))
        where
          both : (b : Bool) → ◌≡◌ {A = ℕ} 0 (pick b 0 0)
          both true = refl
          both false = refl
      go false h q =
          let m : ltb second.thread no_thread ≡ true = ap (λ (x : ℕ). ltb x no_thread) (sym q) ∙ lt-ltb t no_thread l in
          rw (m, h)

pub passed_as : {h k : Bool} (b : Bool) (x : Sought) {p : ℕ} → h ≡ k → p ≡ pick b (passed_along h x) 0 → p ≡ pick b (passed_along k x) 0
passed_as b x e d = d ∙ ap (λ (y : Bool). pick b (passed_along y x) 0) e

-- ---- what the code's answers say

-- of the test of what hinders a turn
pub free : (n : ℕ) {r : Result ⊤ ℕ} {u : ⊤} → r ≡ unless n → r ≡ Ok u → n ≡ 0
free n {r} {u} e d = go (eqb n 0) refl (sym d ∙ e)
  where
    go : (b : Bool) → eqb n 0 ≡ b → Ok u ≡ pick {A = Result ⊤ ℕ} b (Ok tt) (Err n) → n ≡ 0
    go true h q = eqb-true n 0 h
    go false h q = no_way (cc (q))

pub refused_as : (n : ℕ) {r : Result ⊤ ℕ} {k : ℕ} → r ≡ unless n → r ≡ Err k → (k ≡ n) × (k ≡ 0 → ⊥)
refused_as n {r} {k} e d = go (eqb n 0) refl (sym d ∙ e)
  where
    go : (b : Bool) → eqb n 0 ≡ b → Err k ≡ pick {A = Result ⊤ ℕ} b (Ok tt) (Err n) → (k ≡ n) × (k ≡ 0 → ⊥)
    go true h q = no_way (cc (q))
    go false h q = let p : k ≡ n = cc (q) in (p, λ z. eqb-false n 0 h (sym p ∙ z))

-- of the thread to go on with
pub thread_there : (x : ℕ) {r : Option ℕ} {t : ℕ} → r ≡ thread_in x → r ≡ Some t → (t ≡ x) × (t < no_thread)
thread_there x {r} {t} e d = go (ltb x no_thread) refl (sym d ∙ e)
  where
    go : (b : Bool) → ltb x no_thread ≡ b → Some t ≡ pick {A = Option ℕ} b (Some x) None → (t ≡ x) × (t < no_thread)
    go true h q = let p : t ≡ x = cc (q) in (p, subst (λ (y : ℕ). y < no_thread) (sym p) (ltb-true x no_thread h))
    go false h q = no_way (cc (q))

pub thread_gone : (x : ℕ) {r : Option ℕ} → r ≡ thread_in x → r ≡ None → no_thread ≤ x
thread_gone x {r} e d = go (ltb x no_thread) refl (sym d ∙ e)
  where
    go : (b : Bool) → ltb x no_thread ≡ b → None ≡ pick {A = Option ℕ} b (Some x) None → no_thread ≤ x
    go true h q = no_way (cc (q))
    go false h q = ltb-false x no_thread h

-- of a refusal that `?` hands on
pub err_is : {A : Type 0} (r : Result A ℕ) {x : ℕ} → IsErr r × IsErrAnd r (λ y. y ≡ x) → r ≡ Err x
err_is (Ok y) h = absurd h.1
err_is (Err y) h = ap (λ (z : ℕ). Err z) h.1
