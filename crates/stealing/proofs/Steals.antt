-- A steal in lent memory, way by way: with a choice that is no place, with no ready bottom there, with an action that does not fit, and written before the action. The turn then goes on as that of a worker
-- that holds the stolen thread.
use mathlib.Core.Path.{◌≡◌, refl, sym, ap, ◌∙◌}
use Prim.Native.Nat.{ℕ, zero, suc, ◌+◌, ◌-◌, ◌^◌, ◌≤◌, ◌<◌}
use native.Mathlib.Numerals.{add-one}
use native.Mathlib.Omega.{arith}
use native.Mathlib.Decide.{ℕ_discrete}
use mathlib.Core.List.{List, [], ◌∷◌}
use mathlib.Core.Bool.{Bool, true, false, not, ◌&&◌, ◌||◌}
use borrow.Author.Tests.{lt-ltb, le-ltb, ltb-true, eqb-true, eq-eqb, ne_eqb}
use lib.Dec.{ltb, eqb}
use lib.ListN.{length, get_or, set}
use lib.Seq.{get_or-set_same, get_or-set_other, set-set, set-get_or}
use Rattle.table.specs.Sum.{pick}
use Rattle.table.specs.Format.{Table, table_of}
use Rattle.table.proofs.Tests.{and_both, no_way}
use Rattle.schedule.specs.declared.Worker.{Worker}
use Rattle.schedule.specs.declared.Reply.TheVariants.{Idle}
use Rattle.schedule.specs.Machine.{ready, held, ended}
use Rattle.schedule.specs.Links.{no_thread}
use Rattle.array_machine.specs.Turn.{Outcome, moved, unfit}
use Rattle.array_machine.specs.Counted.{busy_after, room_for, counting}
use Rattle.run_memory.specs.Memory.{Memory, memory, worker_in, moved_in, memory_after, hindrance, told, turn_left}
use Rattle.stealing.specs.Stealing.{along_by, steal_on, deque_on, deque_turn_on}
use Rattle.stealing.specs.StealingMemory.{deque_hindrance, deque_taken_in, deque_turn_in}
use Rattle.stealing.specs.Code.{Going, thief, stolen_on, stolen_in}
use Rattle.stealing.proofs.Goes.{counted}

-- ---- what a steal keeps

-- the set of workers, once the turn is over
busy_joined : (busy w : ℕ) (q : Bool) → busy_after (busy_after busy false true w) true q w ≡ busy_after busy false q w
unfolding busy_after
busy_joined busy w true = refl
busy_joined busy w false = omega arith

stolen_lives : (status : List ℕ) (b : ℕ) → eqb (get_or (set status b held) b 0) ended ≡ false
stolen_lives [] b = refl
stolen_lives (x ∷ status) zero = refl
stolen_lives (x ∷ status) (suc b) = stolen_lives status b

-- which threads have ended
pub same_ended : (status : List ℕ) (b : ℕ) → get_or status b 0 ≡ ready → (x : ℕ) → eqb (get_or (set status b held) x 0) ended ≡ eqb (get_or status x 0) ended
same_ended status b e x = go (ℕ_discrete x b)
  where
    go : Dec (x ≡ b) → eqb (get_or (set status b held) x 0) ended ≡ eqb (get_or status x 0) ended
    go (yes q) = rw q (stolen_lives status b ∙ rw e)
    go (no d) = rw (get_or-set_other status b x held 0 d)

-- what the test for room says
pub record Roomy (M : Memory) (w : ℕ) : Type 0 where
  pub few : w < 16
  pub turns : (moved_in M).turns + 1 < 2 ^ 64
  pub bit : (worker_in M w).holds ≡ false → (moved_in M).busy + 2 ^ w < 65536

pub roomy : {f : Bool} (M : Memory) (w : ℕ) → f ≡ true → f ≡ room_for (moved_in M).turns (moved_in M).busy (worker_in M w).holds w → Roomy M w
unfolding room_for
roomy M w e d =
    let p = and_both (ltb ((moved_in M).turns + 1) (2 ^ 64)) (ltb w 16 && ((worker_in M w).holds || ltb ((moved_in M).busy + 2 ^ w) 65536)) (sym d ∙ e) in
    let q = and_both (ltb w 16) ((worker_in M w).holds || ltb ((moved_in M).busy + 2 ^ w) 65536) p.1 in
    record {
      few = ltb-true w 16 q.0;
      turns = ltb-true ((moved_in M).turns + 1) (2 ^ 64) p.0;
      bit = λ h. ltb-true ((moved_in M).busy + 2 ^ w) 65536 (rw h at q.1);
    }

pub ready_read : {f : Bool} (status : List ℕ) (b : ℕ) → f ≡ true → f ≡ (ltb b 1024 && eqb (get_or status b 0) ready) → (b < 1024) × (get_or status b 0 ≡ ready)
ready_read status b e d =
    let p = and_both (ltb b 1024) (eqb (get_or status b 0) ready) (sym d ∙ e) in
    (ltb-true b 1024 p.0, eqb-true (get_or status b 0) ready p.1)

-- a truth value that is none is written as 0
none_held : (x : ℕ) → not (eqb x 0) ≡ false → x ≡ 0
none_held x e = go (eqb x 0) refl e
  where
    go : (b : Bool) → eqb x 0 ≡ b → not b ≡ false → x ≡ 0
    go true d h = eqb-true x 0 d
    go false d h = no_way (cc)

module _ (s : List ℕ) (w c : ℕ) (M : Memory) where
  abbrev T : Table
  T = table_of s

  abbrev worker : Worker
  worker = worker_in M w

  abbrev o : Outcome
  o = deque_on T (get_or M.settings 1 0) M.parents c M.arrays (moved_in M).totals worker

  pub without_room : {f : Bool} → f ≡ false → f ≡ room_for (moved_in M).turns (moved_in M).busy worker.holds w → told 32 Idle M ≡ deque_taken_in s w c M
  unfolding turn_left deque_turn_on
  without_room e d = rw (← d, e)

  module _ (r : Roomy M w) (h : worker.holds ≡ false) where
    has_room : room_for (moved_in M).turns (moved_in M).busy worker.holds w ≡ true
    unfolding room_for
    has_room = rw (h, lt-ltb ((moved_in M).turns + 1) (2 ^ 64) r.turns, lt-ltb w 16 r.few, lt-ltb ((moved_in M).busy + 2 ^ w) 65536 (r.bit h))

    unfits : (v : Outcome) → o ≡ v → v.fits ≡ false → told 32 Idle M ≡ deque_taken_in s w c M
    unfolding turn_left deque_turn_on
    unfits v e f = rw (has_room, e, f)

    counts : (v : Outcome) → o ≡ v → v.fits ≡ true → deque_taken_in s w c M ≡ told 0 v.reply (memory_after M w (counting w (moved_in M) worker v))
    unfolding turn_left deque_turn_on
    counts v e f = rw (has_room, e, f)

    -- no place of sixteen
    pub too_far : 16 ≤ c → told 32 Idle M ≡ deque_taken_in s w c M
    unfolding deque_on steal_on
    too_far l = unfits (unfit M.arrays (moved_in M).totals worker) (rw (h, le-ltb c 16 l)) refl

    module _ (l : c < 16) {b : ℕ} (q : b ≡ along_by c M.arrays.over (moved_in M).totals.first) {f : Bool} (d : f ≡ (ltb b no_thread && eqb (get_or M.arrays.status b 0) ready)) where
      -- "if there is none or it is empty, the turn is idle"
      pub idles : f ≡ false → told 0 Idle (counted ((moved_in M).turns + 1) (memory M.settings M.parents M.arrays M.holds M.threads M.quotas (get_or M.heads 0 0 ∷ get_or M.heads 1 0 ∷ get_or M.heads 2 0 ∷ []) M.totals)) ≡ deque_taken_in s w c M
      unfolding deque_on steal_on busy_after
      idles e = ap (told 0 Idle) (sym after) ∙ sym (counts (moved Idle M.arrays (moved_in M).totals worker) (rw (h, lt-ltb c 16 l, ← q, ← d, e)) refl)
        where
          after : memory_after M w (counting w (moved_in M) worker (moved Idle M.arrays (moved_in M).totals worker))
              ≡ counted ((moved_in M).turns + 1) (memory M.settings M.parents M.arrays M.holds M.threads M.quotas (get_or M.heads 0 0 ∷ get_or M.heads 1 0 ∷ get_or M.heads 2 0 ∷ []) M.totals)
          after =
              let z : get_or M.holds w 0 ≡ 0 = none_held _ h in
              let a : set M.holds w 0 ≡ M.holds = ap (set M.holds w) (sym z) ∙ set-get_or M.holds w 0 in
              rw (h, a, set-get_or M.threads w 0, set-get_or M.quotas w 0, add-one)

      module _ (e : f ≡ true) {g : Bool} (v : g ≡ (stolen_on T b M).fits) where
        taken_as : o ≡ pick (stolen_on T b M).fits (stolen_on T b M) (unfit M.arrays (moved_in M).totals worker)
        unfolding deque_on steal_on
        taken_as = rw (h, lt-ltb c 16 l, ← q, ← d, e)

        pub steal_unfit : g ≡ false → told 32 Idle M ≡ deque_taken_in s w c M
        steal_unfit z = unfits (unfit M.arrays (moved_in M).totals worker) (taken_as ∙ rw (← v, z)) refl

        -- the turn, once the steal is written
        module _ (z : g ≡ true) (i : length M.holds ≡ 16) (j : length M.threads ≡ 16) (k : length M.quotas ≡ 16) where
          abbrev M' : Memory
          M' = stolen_in b w M

          seated : worker_in M' w ≡ thief b M
          seated =
              let a : get_or M'.holds w 0 ≡ 1 = get_or-set_same M.holds w 1 0 (omega (arith, r.few, i)) in
              let t : get_or M'.threads w 0 ≡ b = get_or-set_same M.threads w b 0 (omega (arith, r.few, j)) in
              let u : get_or M'.quotas w 0 ≡ get_or M.settings 1 0 = get_or-set_same M.quotas w (get_or M.settings 1 0) 0 (omega (arith, r.few, k)) in
              λ n. record { holds = not (eqb (a n) 0); thread = t n; quota = u n }

          turned : deque_taken_in s w c M' ≡ turn_left M' w (counting w (moved_in M') (thief b M) (stolen_on T b M))
          unfolding deque_turn_on deque_on room_for
          turned =
              ap (λ (x : Worker). turn_left M' w (deque_turn_on T (get_or M.settings 1 0) M.parents w c M'.arrays (moved_in M') x)) seated
              ∙ rw (lt-ltb ((moved_in M).turns + 1) (2 ^ 64) r.turns, lt-ltb w 16 r.few, ← v, z)

          -- all that the turn writes is written over what the steal wrote
          after : memory_after M' w (counting w (moved_in M') (thief b M) (stolen_on T b M)) ≡ memory_after M w (counting w (moved_in M) worker (stolen_on T b M))
          after =
              rw (h, busy_joined (moved_in M).busy w (stolen_on T b M).worker.holds, set-set M.holds w 1 (pick (stolen_on T b M).worker.holds 1 0), set-set M.threads w b (stolen_on T b M).worker.thread, set-set M.quotas w (get_or M.settings 1 0) (stolen_on T b M).worker.quota)

          pub steals : deque_taken_in s w c M' ≡ deque_taken_in s w c M
          unfolding turn_left
          steals =
              turned ∙ ap (told 0 (stolen_on T b M).reply) after ∙ sym (counts (stolen_on T b M) (taken_as ∙ rw (← v, z)) (sym v ∙ z))

          -- and it is one of a worker that holds a thread
          pub stolen_going : hindrance (moved_in M).turns (get_or M.settings 0 0) w (get_or M.arrays.status 0 0) ≡ 0 → Going M' w
          unfolding hindrance
          stolen_going n =
              record {
                few = r.few;
                holds = ap (λ (x : Worker). x.holds) seated;
                room = r.turns;
                free = rw (same_ended M.arrays.status b (ready_read M.arrays.status b e d).1 0) n;
              }

-- ---- before it is taken

module _ (turns p w c root : ℕ) where
  -- 49 comes after the others
  choice_last : deque_hindrance turns p w c root ≡ pick (eqb (hindrance turns p w root) 0) (pick (ltb c p) 0 49) (hindrance turns p w root)
  unfolding hindrance deque_hindrance
  choice_last = go (eqb turns (2 ^ 64 - 1)) (ltb w p) (eqb root ended)
    where
      go : (x y z : Bool) → let n : ℕ = pick x 32 (pick y (pick z 31 0) 30) in ◌≡◌ {A = ℕ} (pick x 32 (pick y (pick z 31 (pick (ltb c p) 0 49)) 30)) (pick (eqb n 0) (pick (ltb c p) 0 49) n)
      go true y z = refl
      go false false z = refl
      go false true true = refl
      go false true false = refl

  pub hindered_before : {n : ℕ} → n ≡ hindrance turns p w root → (n ≡ 0 → ⊥) → n ≡ deque_hindrance turns p w c root
  hindered_before {n} e h = rw (choice_last, ← e, ne_eqb n 0 h)

  module _ (e : hindrance turns p w root ≡ 0) where
    pub choice_here : c < p → 0 ≡ deque_hindrance turns p w c root
    choice_here h = rw (choice_last, e, lt-ltb c p h)

    pub choice_none : p ≤ c → 49 ≡ deque_hindrance turns p w c root
    choice_none h = rw (choice_last, e, le-ltb c p h)

  pub none_before : deque_hindrance turns p w c root ≡ 0 → hindrance turns p w root ≡ 0
  none_before e = go (eqb (hindrance turns p w root) 0) refl
    where
      go : (b : Bool) → eqb (hindrance turns p w root) 0 ≡ b → hindrance turns p w root ≡ 0
      go true d = eqb-true (hindrance turns p w root) 0 d
      go false d = sym (choice_last ∙ rw d) ∙ e

module _ (s : List ℕ) (w c : ℕ) (M : Memory) {n : ℕ} (e : n ≡ deque_hindrance (moved_in M).turns (get_or M.settings 0 0) w c (get_or M.arrays.status 0 0)) where
  pub hindered : (n ≡ 0 → ⊥) → told n Idle M ≡ deque_turn_in s w c M
  unfolding deque_turn_in
  hindered h = rw (← e, ne_eqb n 0 h)

  pub goes_on : n ≡ 0 → deque_taken_in s w c M ≡ deque_turn_in s w c M
  unfolding deque_turn_in
  goes_on h = rw (← e, eq-eqb n 0 h)

-- of what stands in the memory
pub asked_hindrance : {n t t' p p' r r' : ℕ} (w c : ℕ) → t ≡ t' → p ≡ p' → r ≡ r' → n ≡ deque_hindrance t p w c r → n ≡ deque_hindrance t' p' w c r'
asked_hindrance w c x y z e = e ∙ (λ i. deque_hindrance (x i) (y i) w c (z i))
