-- A turn of a worker that goes on with its thread, in lent memory, way by way: with a thread that is none of the arrays', by a move of DFDeques' own, and by AsyncDF's turn.
use mathlib.Core.Path.{◌≡◌, refl, sym, ap, subst, ◌∙◌}
use Prim.Native.Nat.{ℕ, zero, suc, ◌+◌, ◌^◌, ◌≤◌, ◌<◌}
use native.Mathlib.Numerals.{add-one}
use mathlib.Core.List.{List, [], ◌∷◌}
use mathlib.Core.Bool.{Bool, true, false, not, ◌&&◌, ◌||◌}
use borrow.Author.Tests.{lt-ltb, le-ltb, not-true}
use lib.Dec.{ltb, eqb}
use lib.ListN.{get_or, set}
use Rattle.table.specs.Sum.{pick}
use Rattle.table.specs.Format.{Table, kind_of, kind, table_of}
use Rattle.table.specs.declared.kinds.Kind.{Kind}
use Rattle.table.specs.declared.kinds.Kind.TheVariants.{Join as join}
use Rattle.table.proofs.Tests.{and_both, no_way}
use Rattle.schedule.specs.declared.Worker.{Worker}
use Rattle.schedule.specs.declared.Reply.{Reply}
use Rattle.schedule.specs.declared.Reply.TheVariants.{Idle, Done, Wait}
use Rattle.schedule.specs.Machine.{waiting, ended}
use Rattle.array_machine.specs.Turn.{Outcome, unfit, next_fits, waits_in, act_on, act_in, seat_of, step_from, step_on}
use Rattle.array_machine.specs.Counted.{Left, unmoved, room_for, counting, turn_on}
use Rattle.run_memory.specs.Memory.{Memory, memory, worker_in, moved_in, memory_after, Told, told, turn_left, turn_in}
use Rattle.run_memory.specs.Blocks.{Bytes, Words, Numbers, Sums, gathered}
use Rattle.run_memory.specs.Places.{totalled}
use Rattle.run_memory.specs.Code.Acts.{went_to}
use Rattle.run_memory.proofs.Takes.{and_none}
use Rattle.deques.specs.Lines.{linked_in}
use Rattle.array_machine.specs.Arrays.{second_of}
use Rattle.stealing.specs.Stealing.{leaves_on, wakes_on, forks_on, deque_by, deque_in, deque_on, deque_turn_on}
use Rattle.stealing.specs.StealingMemory.{deque_taken_in}
use Rattle.stealing.specs.Code.{Going, left_behind, forked_off, ended_in}

-- the memory with this number of turns taken
abbrev pub counted : ℕ → Memory → Memory
counted x M =
    memory M.settings M.parents M.arrays M.holds M.threads M.quotas M.heads (get_or M.totals 0 0 ∷ get_or M.totals 1 0 ∷ x ∷ [])

differ : false ≡ true → ⊥
differ e = no_way (cc)

module _ (s : List ℕ) (w c : ℕ) (M : Memory) (g : Going M w) where
  abbrev T : Table
  T = table_of s

  abbrev K : ℕ
  K = get_or M.settings 1 0

  abbrev worker : Worker
  worker = worker_in M w

  abbrev t : ℕ
  t = get_or M.threads w 0

  abbrev a : ℕ
  a = get_or M.arrays.next (get_or M.threads w 0) 0

  abbrev x : ℕ
  x = (table_of s).argument (get_or M.arrays.next (get_or M.threads w 0) 0)

  abbrev room : Bool
  room = room_for (moved_in M).turns (moved_in M).busy (worker_in M w).holds w

  has_room : room ≡ true
  unfolding room_for
  has_room = rw (g.holds, lt-ltb ((moved_in M).turns + 1) (2 ^ 64) g.room, lt-ltb w 16 g.few)

  -- what is left of the memory by an outcome
  abbrev left_by : Outcome → Left
  left_by o = pick (room && o.fits) (counting w (moved_in M) worker o) (unmoved M.arrays (moved_in M) worker)

  abbrev told_by : Outcome → Told
  told_by o = turn_left M w (left_by o)

  by_held : deque_taken_in s w c M ≡ told_by (deque_in T K M.parents M.arrays (moved_in M).totals worker)
  unfolding deque_turn_on deque_on
  by_held = rw g.holds

  unfits : (o : Outcome) → o.fits ≡ false → told_by o ≡ told 32 Idle M
  unfolding turn_left
  unfits o e = rw (e, and_none room)

  fits : (o : Outcome) → o.fits ≡ true → told_by o ≡ told 0 o.reply (memory_after M w (counting w (moved_in M) worker o))
  unfolding turn_left
  fits o e = rw (e, has_room)

  -- its thread is none of the arrays'
  pub no_thread_lem : 1024 ≤ t → told 32 Idle M ≡ deque_taken_in s w c M
  unfolding deque_in
  no_thread_lem l = sym (by_held ∙ unfits _ none)
    where
      none : (deque_in T K M.parents M.arrays (moved_in M).totals worker).fits ≡ false
      none = rw (le-ltb t 1024 l)

  module _ (l : t < 1024) where
    abbrev here : Outcome
    here = deque_by (kind T a) T K M.parents t a x M.arrays (moved_in M).totals worker

    by_here : deque_taken_in s w c M ≡ told_by here
    unfolding deque_in
    by_here = by_held ∙ ap told_by at
      where
        at : deque_in T K M.parents M.arrays (moved_in M).totals worker ≡ here
        at = rw (lt-ltb t 1024 l)

    -- a move of its own
    module _ (o : Outcome) (e : here ≡ o) where
      pub stays : o.fits ≡ false → told 32 Idle M ≡ deque_taken_in s w c M
      stays f = sym (by_here ∙ ap told_by e ∙ unfits o f)

      pub goes : {X : Memory} {r : Reply} → o.fits ≡ true → r ≡ o.reply → X ≡ went_to M w o → told 0 r (counted ((moved_in M).turns + 1) X) ≡ deque_taken_in s w c M
      goes {X} {r} f q d = (λ i. told 0 (q i) (counted ((moved_in M).turns + 1) (d i))) ∙ ap (told 0 o.reply) after ∙ sym (by_here ∙ ap told_by e ∙ fits o f)
        where
          after : counted ((moved_in M).turns + 1) (went_to M w o) ≡ memory_after M w (counting w (moved_in M) worker o)
          after = rw add-one

    -- AsyncDF's action
    pub plain : here ≡ act_on (kind T a) T K M.parents t a x M.arrays (moved_in M).totals worker → turn_in s w M ≡ deque_taken_in s w c M
    unfolding turn_in turn_on step_on step_from seat_of act_in
    plain e = turned ∙ both (act_on (kind T a) T K M.parents t a x M.arrays (moved_in M).totals worker) ∙ sym (by_here ∙ ap told_by e)
      where
        turned : turn_in s w M ≡ told_by (pick (act_on (kind T a) T K M.parents t a x M.arrays (moved_in M).totals worker).fits (act_on (kind T a) T K M.parents t a x M.arrays (moved_in M).totals worker) (unfit M.arrays (moved_in M).totals worker))
        turned = rw (g.free, g.holds, lt-ltb t 1024 l)

        both : (o : Outcome) → told_by (pick o.fits o (unfit M.arrays (moved_in M).totals worker)) ≡ told_by o
        both o = go o.fits refl
          where
            go : (q : Bool) → o.fits ≡ q → told_by (pick q o (unfit M.arrays (moved_in M).totals worker)) ≡ told_by o
            go true f = refl
            go false f = unfits (unfit M.arrays (moved_in M).totals worker) refl ∙ sym (unfits o f)

    -- ---- by kind

    abbrev here_by : Kind → Outcome
    here_by k = deque_by k T K M.parents t a x M.arrays (moved_in M).totals worker

    -- the code of the action that was read
    at_code : (n : ℕ) → T.code a ≡ n → here ≡ here_by (kind_of n)
    at_code n e = ap (λ (k : ℕ). here_by (kind_of k)) e

    abbrev last : Bool
    last = linked_in (second_of M.arrays (moved_in M).totals) t || not (ltb (get_or M.arrays.right t 0) 1024)

    -- whether the deque leaves or the worker goes on with the top thread
    leaves : (reply : Reply) (y : ℕ) → here ≡ leaves_on reply t y M.arrays (moved_in M).totals worker
        → {X : Memory} → X ≡ left_behind t y w M → told 0 reply (counted ((moved_in M).turns + 1) X) ≡ deque_taken_in s w c M
    unfolding leaves_on
    leaves reply y e {X} d = go last refl
      where
        go : (q : Bool) → last ≡ q → told 0 reply (counted ((moved_in M).turns + 1) X) ≡ deque_taken_in s w c M
        go true j = goes (leaves_on reply t y M.arrays (moved_in M).totals worker) e (rw j) (rw j) (d ∙ rw j)
        go false j = goes (leaves_on reply t y M.arrays (moved_in M).totals worker) e (rw j) (rw j) (d ∙ rw j)

    pub ends : {X : Memory} → T.code a ≡ 0 → X ≡ ended_in T t w M → told 0 (Done t a) (counted ((moved_in M).turns + 1) X) ≡ deque_taken_in s w c M
    unfolding kind_of deque_by wakes_on
    ends {X} e d = go (waits_in T M.arrays.next (set M.arrays.status t ended) (get_or M.parents t 0) t) refl
      where
        go : (p : Bool) → waits_in T M.arrays.next (set M.arrays.status t ended) (get_or M.parents t 0) t ≡ p → told 0 (Done t a) (counted ((moved_in M).turns + 1) X) ≡ deque_taken_in s w c M
        go true i = goes (wakes_on (Done t a) t (get_or M.parents t 0) M.arrays (moved_in M).totals worker) (at_code 0 e ∙ rw i) refl refl (d ∙ rw i)
        go false i = leaves (Done t a) ended (at_code 0 e ∙ rw i) (d ∙ rw i)

    module _ (e : T.code a ≡ 4) {f : Bool} (d : f ≡ (next_fits a && ltb x 1024)) where
      fork_here : here ≡ forks_on t a x M.arrays (moved_in M).totals worker
      unfolding kind_of deque_by
      fork_here = at_code 4 e

      pub fork_unfit : f ≡ false → told 32 Idle M ≡ deque_taken_in s w c M
      unfolding forks_on
      fork_unfit h = stays (forks_on t a x M.arrays (moved_in M).totals worker) fork_here (rw (← d, h))

      pub fork_goes : {X : Memory} → f ≡ true → X ≡ forked_off t a x w M → told 0 (Done t a) (counted ((moved_in M).turns + 1) X) ≡ deque_taken_in s w c M
      unfolding forks_on
      fork_goes h q = goes (forks_on t a x M.arrays (moved_in M).totals worker) fork_here (rw (← d, h)) (rw (← d, h)) q

    module _ (e : T.code a ≡ 5) {f : Bool} (d : f ≡ (ltb x 1024 && not (eqb (get_or M.arrays.status x 0) ended))) where
      pub join_waits : {X : Memory} → f ≡ true → X ≡ left_behind t waiting w M → told 0 (Wait t x) (counted ((moved_in M).turns + 1) X) ≡ deque_taken_in s w c M
      unfolding kind_of deque_by
      join_waits h q =
          let b = and_both (ltb x 1024) (not (eqb (get_or M.arrays.status x 0) ended)) (sym d ∙ h) in
          leaves (Wait t x) waiting (at_code 5 e ∙ rw (b.0, not-true (eqb (get_or M.arrays.status x 0) ended) b.1)) q

      pub join_plain : f ≡ false → turn_in s w M ≡ deque_taken_in s w c M
      unfolding kind_of deque_by act_on
      join_plain h = plain (at_code 5 e ∙ go (ltb x 1024) refl (eqb (get_or M.arrays.status x 0) ended) refl ∙ sym (ap (λ (k : ℕ). act_on (kind_of k) T K M.parents t a x M.arrays (moved_in M).totals worker) e))
        where
          go : (p : Bool) → ltb x 1024 ≡ p → (q : Bool) → eqb (get_or M.arrays.status x 0) ended ≡ q
              → here_by join ≡ act_on join T K M.parents t a x M.arrays (moved_in M).totals worker
          go true i true j = rw (i, j)
          go true i false j = absurd (differ (sym (sym d ∙ h) ∙ rw (i, j)))
          go false i q j = rw i

    pub other_plain : (T.code a ≡ 0 → ⊥) → (T.code a ≡ 4 → ⊥) → (T.code a ≡ 5 → ⊥) → turn_in s w M ≡ deque_taken_in s w c M
    unfolding kind_of deque_by
    other_plain i j k = plain (go (T.code a) i j k)
      where
        go : (n : ℕ) → (n ≡ 0 → ⊥) → (n ≡ 4 → ⊥) → (n ≡ 5 → ⊥) → here_by (kind_of n) ≡ act_on (kind_of n) T K M.parents t a x M.arrays (moved_in M).totals worker
        go zero i j k = absurd (i refl)
        go (suc zero) i j k = refl
        go (suc (suc zero)) i j k = refl
        go (suc (suc (suc zero))) i j k = refl
        go (suc (suc (suc (suc zero)))) i j k = absurd (j refl)
        go (suc (suc (suc (suc (suc zero))))) i j k = absurd (k refl)
        go (suc (suc (suc (suc (suc (suc n)))))) i j k = refl

-- ---- as the code says it

-- one turn more was counted
pub counted_as : (B : Bytes) (W : Words) (N : Numbers) (S : Sums) {y : Reply} {Z : Sums} {v : Told} → Z ≡ totalled 2 (S.turns + 1) S → told 0 y (counted (S.turns + 1) (gathered B W N S)) ≡ v → told 0 y (gathered B W N Z) ≡ v
counted_as B W N S {y} e d = ap (λ (Q : Sums). told 0 y (gathered B W N Q)) e ∙ d

-- of a thread and an action that were read
module _ (s : List ℕ) (w c : ℕ) (M : Memory) (g : Going M w) {t0 a0 : ℕ} (p : t0 ≡ get_or M.threads w 0) (q : a0 ≡ get_or M.arrays.next t0 0) where
  action_is : a0 ≡ get_or M.arrays.next (get_or M.threads w 0) 0
  action_is = q ∙ ap (λ (z : ℕ). get_or M.arrays.next z 0) p

  pub no_thread_read : 1024 ≤ t0 → told 32 Idle M ≡ deque_taken_in s w c M
  no_thread_read l = no_thread_lem s w c M g (subst (λ (z : ℕ). 1024 ≤ z) p l)

  module _ (l : t0 < 1024) {k : ℕ} (i : k ≡ (table_of s).code a0) where
    small : get_or M.threads w 0 < 1024
    small = subst (λ (z : ℕ). z < 1024) p l

    code_is : (table_of s).code (get_or M.arrays.next (get_or M.threads w 0) 0) ≡ k
    code_is = ap (table_of s).code (sym action_is) ∙ sym i

    pub ends_read : {X : Memory} → k ≡ 0 → X ≡ ended_in (table_of s) t0 w M → told 0 (Done t0 a0) (counted ((moved_in M).turns + 1) X) ≡ deque_taken_in s w c M
    ends_read {X} e d =
        (λ j. told 0 (Done (p j) (action_is j)) (counted ((moved_in M).turns + 1) X))
        ∙ ends s w c M g small (code_is ∙ e) (d ∙ ap (λ (z : ℕ). ended_in (table_of s) z w M) p)

    pub other_read : (k ≡ 0 → ⊥) → (k ≡ 4 → ⊥) → (k ≡ 5 → ⊥) → turn_in s w M ≡ deque_taken_in s w c M
    other_read e f h = other_plain s w c M g small (λ z. e (sym code_is ∙ z)) (λ z. f (sym code_is ∙ z)) (λ z. h (sym code_is ∙ z))

    module _ {x0 : ℕ} (b : x0 ≡ (table_of s).argument a0) where
      argument_is : x0 ≡ (table_of s).argument (get_or M.arrays.next (get_or M.threads w 0) 0)
      argument_is = b ∙ ap (table_of s).argument action_is

      module _ (e : k ≡ 4) {f : Bool} (d : f ≡ (next_fits a0 && ltb x0 1024)) where
        test_is : f ≡ (next_fits (get_or M.arrays.next (get_or M.threads w 0) 0) && ltb ((table_of s).argument (get_or M.arrays.next (get_or M.threads w 0) 0)) 1024)
        test_is = d ∙ (λ j. next_fits (action_is j) && ltb (argument_is j) 1024)

        pub fork_unfit_read : f ≡ false → told 32 Idle M ≡ deque_taken_in s w c M
        fork_unfit_read h = fork_unfit s w c M g small (code_is ∙ e) test_is h

        pub fork_read : {X : Memory} → f ≡ true → X ≡ forked_off t0 a0 x0 w M → told 0 (Done t0 a0) (counted ((moved_in M).turns + 1) X) ≡ deque_taken_in s w c M
        fork_read {X} h v =
            (λ j. told 0 (Done (p j) (action_is j)) (counted ((moved_in M).turns + 1) X))
            ∙ fork_goes s w c M g small (code_is ∙ e) test_is h (v ∙ (λ j. forked_off (p j) (action_is j) (argument_is j) w M))

      module _ (e : k ≡ 5) {f : Bool} (d : f ≡ (ltb x0 1024 && not (eqb (get_or M.arrays.status x0 0) ended))) where
        runs_is : f ≡ (ltb ((table_of s).argument (get_or M.arrays.next (get_or M.threads w 0) 0)) 1024 && not (eqb (get_or M.arrays.status ((table_of s).argument (get_or M.arrays.next (get_or M.threads w 0) 0)) 0) ended))
        runs_is = d ∙ (λ j. ltb (argument_is j) 1024 && not (eqb (get_or M.arrays.status (argument_is j) 0) ended))

        pub wait_read : {X : Memory} → f ≡ true → X ≡ left_behind t0 waiting w M → told 0 (Wait t0 x0) (counted ((moved_in M).turns + 1) X) ≡ deque_taken_in s w c M
        wait_read {X} h v =
            (λ j. told 0 (Wait (p j) (argument_is j)) (counted ((moved_in M).turns + 1) X))
            ∙ join_waits s w c M g small (code_is ∙ e) runs_is h (v ∙ ap (λ (z : ℕ). left_behind z waiting w M) p)

        pub join_read : f ≡ false → turn_in s w M ≡ deque_taken_in s w c M
        join_read h = join_plain s w c M g small (code_is ∙ e) runs_is h
