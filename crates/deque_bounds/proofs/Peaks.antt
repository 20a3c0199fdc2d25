-- The highest memory held so far is what was held after some front part of the row: so what bounds memory held after every front part bounds the peak.
use mathlib.Core.Path.{◌≡◌, refl, sym, ap, subst, ◌∙◌}
use Prim.Native.Nat.{ℕ, ◌+◌, ◌-◌, ◌*◌, ◌≤◌, max}
use mathlib.Core.List.Memᴰ
use mathlib.Core.List.{List, [], ◌∷◌, ◌++◌, Memᴰ, append_assoc}
use mathlib.Core.Bool.{Bool, true, false}
use native.Mathlib.Omega.{arith}
use lib.ListN.{get_or}
use lib.Dec.{leb, eqb}
use Rattle.table.specs.Format.{Table, kind}
use Rattle.table.specs.declared.kinds.Kind.{Kind}
use Rattle.table.specs.declared.kinds.Kind.TheVariants.{End as end, Work as work, Alloc as alloc, Free as free, Fork as fork, Join as join, Unknown as unknown}
use Rattle.table.specs.Nested.{N}
use Rattle.table.specs.Serial.{S1}
use Rattle.schedule.specs.Machine.{State, ended, next_of, status_of, worker_of, parent_of, waits_for, woken, Stepped, act, act_by, taken, drawn}
use Rattle.schedule.specs.Memory.{Keeps, limit}
use Rattle.order.proofs.Lawful.{Lawful, Within}
use Rattle.schedule.proofs.Preservation.Turns.{either}
use Rattle.schedule.proofs.Preservation.Starts.{start_held}
use Rattle.deques.specs.Deques.{Deque, Deques, over, nothing, is_empty, bottom, robbed, place_of, goes_to, goes_on, let_go, DequeStep, act_deques, steal, deque_turn}
use Rattle.deques.specs.DequeRuns.{Pair}
use Rattle.deques.specs.Deques.{start_deques}
use Rattle.deques.specs.DequeCalls.{row_deques}
use Rattle.deque_bounds.specs.DequeRows.{leaps}
use Rattle.deque_bounds.proofs.SerialLinesTurns.{BelowAll}
use Rattle.deque_bounds.proofs.DequeLimits.{held_near}
use Rattle.deque_bounds.proofs.StealsWithinTurns.{workers_of}
use Rattle.deque_bounds.proofs.LeapLimits.{held_within}

-- the highest of s is that of st, or what s holds
abbrev Tops : State → State → Type 0
Tops st s = s.highest ≤ max st.highest s.held

act_tops : (k : Kind) (T : Table) (K w t a x : ℕ) (st : State) → Tops st (act_by k T K w t a x st).state
unfolding act_by woken
act_tops end T K w t a x st = either (λ (s : State). Tops st s) (waits_for T _ (parent_of T t) t) _ _ (λ i. omega arith) (λ i. omega arith)
act_tops work T K w t a x st = omega arith
act_tops alloc T K w t a x st = either (λ (s : Stepped). Tops st s.state) (leb (drawn K x) (worker_of st w).quota) _ _ (λ i. omega arith) (λ i. omega arith)
act_tops free T K w t a x st = omega arith
act_tops fork T K w t a x st = omega arith
act_tops join T K w t a x st = either (λ (s : Stepped). Tops st s.state) (eqb (status_of st x) ended) _ _ (λ i. omega arith) (λ i. omega arith)
act_tops unknown T K w t a x st = omega arith

-- what the worker then takes changes neither
goes_same : (q w : ℕ) (st : State) (ds : List Deque) (k : List ℕ) → ((goes_to q w st ds k).state.highest ≡ st.highest) × ((goes_to q w st ds k).state.held ≡ st.held)
unfolding taken
goes_same q w st ds [] = (refl, refl)
goes_same q w st ds (t ∷ k) = (refl, refl)

pub go_same : (k : Kind) (b : Bool) (q w t x u : ℕ) (st : State) (ds : List Deque) → ((let_go k b q w t x u st ds).state.highest ≡ st.highest) × ((let_go k b q w t x u st ds).state.held ≡ st.held)
unfolding let_go goes_on taken
go_same end true q w t x u st ds = (refl, refl)
go_same end false q w t x u st ds = goes_same q w st ds (get_or ds (place_of w ds) nothing).threads
go_same work b q w t x u st ds = (refl, refl)
go_same alloc b q w t x u st ds = (refl, refl)
go_same free b q w t x u st ds = (refl, refl)
go_same fork b q w t x u st ds = (refl, refl)
go_same join b q w t x u st ds = goes_same q w st ds (get_or ds (place_of w ds) nothing).threads
go_same unknown b q w t x u st ds = (refl, refl)

acts_tops : (T : Table) (K w : ℕ) (st : State) (ds : List Deque) → Tops st (act_deques T K w st ds).after.state
unfolding act_deques act
acts_tops T K w st ds =
    let t : ℕ = (worker_of st w).thread in
    let a : ℕ = next_of st t in
    let s : State = (act_by (kind T a) T K w t a (T.argument a) st).state in
    let g : Tops st s = act_tops (kind T a) T K w t a (T.argument a) st in
    either (λ (D : Deques). Tops st D.state) (worker_of s w).holds (over s ds) _ (λ i. g)
    (λ i. let (e, r) = go_same (kind T a) (waits_for T st (parent_of T t) t) (worker_of st w).quota w t (T.argument a) (parent_of T t) s ds in omega (arith, g, e, r))

turn_tops : (T : Table) (K w c : ℕ) (D : Deques) → Tops D.state (deque_turn T K w c D).after.state
unfolding deque_turn steal taken
turn_tops T K w c D =
    either (λ (s : DequeStep). Tops D.state s.after.state) (worker_of D.state w).holds _ _ (λ e. acts_tops T K w D.state D.deques)
    (λ e. either (λ (s : DequeStep). Tops D.state s.after.state) (is_empty (get_or D.deques c nothing).threads) _ _ (λ i. omega arith)
    (λ i. acts_tops T K w (taken K w (bottom (get_or D.deques c nothing).threads) D.state) (robbed w c D.deques)))

-- what bounds all front parts bounds the peak
pub peak_within_lem : (T : Table) (K most : ℕ) (row : List Pair) (D : Deques) → D.state.highest ≤ most
    → ((front rest : List Pair) → front ++ rest ≡ row → (row_deques T K D front).state.held ≤ most) → (row_deques T K D row).state.highest ≤ most
unfolding row_deques
peak_within_lem T K most [] D h f = h
peak_within_lem T K most (g ∷ row) D h f =
    let E : Deques = (deque_turn T K g.worker g.choice D).after in
    let z : E.state.held ≤ most = f (g ∷ []) row refl in
    peak_within_lem T K most row E (omega (arith, h, z, turn_tops T K g.worker g.choice D)) (λ front rest e. f (g ∷ front) rest (ap (g ∷◌) e))

start_highest : (T : Table) (l : Lawful T) (most : ℕ) → (start_deques T).state.highest ≤ most
start_highest T l most = omega (arith, (start_held T l).1)

-- the limit by places, of the peak
pub peak_near : (T : Table) (l : Lawful T) (p K : ℕ) → p ≤ 16 → Within T K → (row : List Pair) → BelowAll p row → ((g : Pair) → Memᴰ g row → g.choice ≡ 0)
    → (row_deques T K (start_deques T) row).state.highest ≤ S1 T + K * (N T - 1)
peak_near T l p K few small row h z =
    peak_within_lem T K (S1 T + K * (N T - 1)) row (start_deques T) (start_highest T l (S1 T + K * (N T - 1)))
    (λ front rest e. held_near T l p K few small front (λ g m. h g (inside front rest e g m)) (λ g m. z g (inside front rest e g m)))
  where
    inside : (front rest : List Pair) → front ++ rest ≡ row → (g : Pair) → Memᴰ g front → Memᴰ g row
    inside front rest e g m = subst (λ (k : List Pair). Memᴰ g k) e (Memᴰ.append_left rest m)

-- the limit by leaps, of the peak: a front part keeps the rule, and has no leap where the whole has none
pub keeps_front : (b : ℕ) (front rest : List Pair) → Keeps b (workers_of (front ++ rest)) → Keeps b (workers_of front)
unfolding Keeps
keeps_front b front rest k before stretch after w v e z =
    k before stretch (after ++ workers_of rest) w v (maps front rest ∙ rw e (simp append_assoc)) z
  where
    maps : (f r : List Pair) → workers_of (f ++ r) ≡ workers_of f ++ workers_of r
    maps [] r = refl
    maps (g ∷ f) r = ap (g.worker ∷◌) (maps f r)

pub leaps_front : (T : Table) (K : ℕ) (front rest : List Pair) (D : Deques) → leaps T K D front ≤ leaps T K D (front ++ rest)
unfolding leaps
leaps_front T K [] rest D = omega arith
leaps_front T K (g ∷ front) rest D = omega (arith, leaps_front T K front rest (deque_turn T K g.worker g.choice D).after)

pub peak_limit : (T : Table) (l : Lawful T) (p K b : ℕ) → p ≤ 16 → Within T K → 2 ≤ p → 1 ≤ b → (row : List Pair) → BelowAll p row → Keeps b (workers_of row) → leaps T K (start_deques T) row ≡ 0
    → (row_deques T K (start_deques T) row).state.highest ≤ limit T p K b
peak_limit T l p K b few small two some row h r z =
    peak_within_lem T K (limit T p K b) row (start_deques T) (start_highest T l (limit T p K b))
    (λ front rest e. held_within T l p K b few small two some front (λ g m. h g (subst (λ (k : List Pair). Memᴰ g k) e (Memᴰ.append_left rest m)))
    (keeps_front b front rest (subst (λ (k : List Pair). Keeps b (workers_of k)) (sym e) r))
    (let y : leaps T K (start_deques T) (front ++ rest) ≡ 0 = subst (λ (k : List Pair). leaps T K (start_deques T) k ≡ 0) (sym e) z in omega (arith, y, leaps_front T K front rest (start_deques T))))
