-- A turn ends a thread exactly where its reply says so, whatever the memory holds: an action of that thread was done, and it is an end.
use mathlib.Core.Path.{◌≡◌, refl, sym, ap, subst, ◌∙◌}
use Prim.Native.Nat.{ℕ, zero, suc, ◌+◌, ◌<◌}
use native.Mathlib.Omega.{arith}
use native.Mathlib.Decide.{ℕ_discrete}
use mathlib.Core.List.{List, [], ◌∷◌}
use mathlib.Core.Bool.{Bool, true, false, ◌&&◌}
use borrow.Author.Tests.{eqb-true, eq-eqb}
use denote.Enum.Declared.{tag_of}
use types.Run.{OneOf, miss}
use lib.ListN.{length, get_or, set, length-set}
use lib.Seq.{get_or-set_same, get_or-set_other}
use lib.Dec.{leb, ltb, eqb}
use Rattle.table.specs.Sum.{pick}
use Rattle.table.specs.Format.{is, Table, kind, table_of}
use Rattle.table.specs.declared.kinds.Kind.{Kind}
use Rattle.table.specs.declared.kinds.Kind.TheVariants.{End as end, Work as work, Alloc as alloc, Free as free, Fork as fork, Join as join, Unknown as unknown}
use Rattle.table.specs.Checks.{max_threads}
use Rattle.table.proofs.Tests.{no_way, and_both, is_true, same_is}
use Rattle.schedule.specs.declared.Worker.{Worker}
use Rattle.schedule.specs.declared.Reply.{Reply}
use Rattle.schedule.specs.declared.Reply.TheVariants.{Idle, Done}
use Rattle.schedule.specs.Machine.{ready, held, waiting, ended, drawn}
use Rattle.schedule.specs.Links.{no_thread, seek}
use Rattle.schedule.specs.Listing.{thread_in}
use Rattle.schedule.specs.Listing.{action_in as action_done}
use Rattle.schedule.specs.contracts.Reply.{the_type}
use Rattle.array_machine.specs.declared.Totals.{Totals}
use Rattle.array_machine.specs.declared.Moved.{Moved}
use Rattle.array_machine.specs.Arrays.{Arrays, action_in, amount_in, with_statuses}
use Rattle.array_machine.specs.Turn.{Outcome, moved, next_fits, amount_fits, waits_in, act_on, act_in, Seat, seat, seat_of, seat_in, step_from, step_on}
use Rattle.array_machine.specs.Counted.{Left, unmoved, room_for, counting, turn_on}
use Rattle.run_memory.specs.Memory.{Memory, worker_in, moved_in, memory_after, hindrance, Told, told, turn_left, turn_in}
use Rattle.run_memory.specs.Runs.{ends_root}

-- no action was done
abbrev pub Undone : Reply → Type 0
Undone x = (t a : ℕ) → x ≡ Done t a → ⊥

-- so it is where the reply is not taken apart
pub not_done : {x : Reply} → OneOf (0 ∷ 2 ∷ 3 ∷ []) (tag_of the_type x) → Undone x
not_done k t a e = miss (0 ∷ 2 ∷ 3 ∷ []) 1 tt (subst (λ (y : Reply). OneOf (0 ∷ 2 ∷ 3 ∷ []) (tag_of the_type y)) e k)

-- thread u has not ended
abbrev pub Unended : ℕ → List ℕ → Type 0
Unended u l = get_or l u 0 ≡ ended → ⊥

-- the reply says no end of thread u
abbrev pub Unending : Table → ℕ → Reply → Type 0
Unending T u x = (a : ℕ) → x ≡ Done u a → kind T a ≡ end → ⊥

-- a turn from these statuses to those ends thread u where its reply says so, and not where it does not
pub record Ends (T : Table) (u : ℕ) (l : List ℕ) (x : Reply) (l' : List ℕ) : Type 0 where
  pub long : length l' ≡ length l
  pub keep : Unending T u x → Unended u l → Unended u l'
  pub ends : (a : ℕ) → x ≡ Done u a → kind T a ≡ end → u < length l → get_or l' u 0 ≡ ended

-- ---- what the reply says of the root, once it is taken apart

module _ (T : Table) {x : Reply} {t a : ℕ} (e : x ≡ Done t a) where
  pub says_no_end : ends_root T t a ≡ false → Unending T 0 x
  unfolding ends_root
  says_no_end f b d k =
      let q : Done t a ≡ Done 0 b = sym e ∙ d in
      let i : eqb t 0 ≡ true = eq-eqb t 0 (ap thread_in q) in
      let j : is end (kind T a) ≡ true = same_is end (kind T a) (ap (λ (y : ℕ). kind T y) (ap action_done q) ∙ k) in
      no_way (cc (i, j, f))

  pub says_end : ends_root T t a ≡ true → (x ≡ Done 0 a) × (kind T a ≡ end)
  unfolding ends_root
  says_end f =
      let (i, j) = and_both (eqb t 0) (is end (kind T a)) f in
      (e ∙ ap (λ (y : ℕ). Done y a) (eqb-true t 0 i), is_true end (kind T a) j)

-- ---- statuses

-- a thread has not ended where another status is written, or that of another thread
pub kept : (l : List ℕ) (t v u : ℕ) → (v ≡ ended → t ≡ u → ⊥) → Unended u l → Unended u (set l t v)
kept [] t v u a b = b
kept (x ∷ l) zero v zero a b = λ e. a e refl
kept (x ∷ l) zero v (suc u) a b = b
kept (x ∷ l) (suc t) v zero a b = b
kept (x ∷ l) (suc t) v (suc u) a b = kept l t v u (λ e f. a e (ap suc f)) b

pub not_ready : (t u : ℕ) → ready ≡ ended → t ≡ u → ⊥
not_ready t u e = absurd (omega (arith, e))

pub not_waiting : (t u : ℕ) → waiting ≡ ended → t ≡ u → ⊥
not_waiting t u e = absurd (omega (arith, e))

pub not_held : (t u : ℕ) → held ≡ ended → t ≡ u → ⊥
not_held t u e = absurd (omega (arith, e))

-- an action of another kind is no end
other_kind : (T : Table) {t u a b : ℕ} {k : Kind} → (k ≡ end → ⊥) → kind T a ≡ k → Done t a ≡ Done u b → kind T b ≡ end → ⊥
other_kind T n q d e = n (sym q ∙ ap (λ (y : ℕ). kind T y) (ap action_done d) ∙ e)

-- ---- an action

pub record Leaves (T : Table) (u : ℕ) (A : Arrays) (o : Outcome) : Type 0 where
  pub so : Ends T u A.status o.reply o.arrays.status

module _ (T : Table) (u : ℕ) where
  -- one of two
  either : (b : Bool) {A : Arrays} {x y : Outcome} → Leaves T u A x → Leaves T u A y → Leaves T u A (pick b x y)
  either true f g = f
  either false f g = g

  -- nothing was done, and no status was written
  pub idle_ends : {l : List ℕ} → Ends T u l Idle l
  idle_ends = record { long = refl; keep = λ n h. h; ends = λ a e k i. no_way (cc e) }

  same : {b : Bool} {A : Arrays} {totals : Totals} {worker : Worker} → Leaves T u A (record { fits = b; reply = Idle; arrays = A; totals = totals; worker = worker })
  same = record { so = idle_ends }

  -- nothing was done, and another status was written
  stops : {r : Reply} → Undone r → (t v : ℕ) → ((x : ℕ) → v ≡ ended → t ≡ x → ⊥) → {A A' : Arrays} {totals : Totals} {worker : Worker} → A'.status ≡ set A.status t v
      → Leaves T u A (moved r A' totals worker)
  stops d t v n {A} e =
      record {
        so = record {
          long = rw e (length-set A.status t v);
          keep = λ m h. rw e (kept A.status t v u (n u) h);
          ends = λ a f k i. absurd (d u a f);
        };
      }

  -- an action of another kind was done, and no status was written
  does : {t a : ℕ} {k : Kind} → (k ≡ end → ⊥) → kind T a ≡ k → {A A' : Arrays} {totals : Totals} {worker : Worker} → A'.status ≡ A.status → Leaves T u A (moved (Done t a) A' totals worker)
  does n q e = record { so = record { long = ap length e; keep = λ m h. rw e h; ends = λ b f k i. absurd (other_kind T n q f k) } }

  forks : {t a : ℕ} (x : ℕ) → kind T a ≡ fork → {A A' : Arrays} {totals : Totals} {worker : Worker} → A'.status ≡ set (set A.status t ready) x ready
      → Leaves T u A (moved (Done t a) A' totals worker)
  forks {t} {a} x q {A} e =
      record {
        so = record {
          long = rw e (length-set (set A.status t ready) x ready ∙ length-set A.status t ready);
          keep = λ m h. rw e (kept (set A.status t ready) x ready u (not_ready x u) (kept A.status t ready u (not_ready t u) h));
          ends = λ b f k i. absurd (other_kind T (λ z. no_way (cc z)) q f k);
        };
      }

  -- an end was done, and the parent perhaps woken, which waits
  ends_thread : (t a v : ℕ) (b : Bool) → kind T a ≡ end → {A A' : Arrays} {totals : Totals} {worker : Worker} → (b ≡ true → get_or (set A.status t ended) v 0 ≡ waiting)
      → A'.status ≡ pick b (set (set A.status t ended) v ready) (set A.status t ended) → Leaves T u A (moved (Done t a) A' totals worker)
  ends_thread t a v b q {A} w e =
      record { so = record { long = ap length e ∙ size b; keep = λ m h z. keeps b (λ f. m a (ap (λ (y : ℕ). Done y a) f) q) h (ap (λ (l : List ℕ). get_or l u 0) (sym e) ∙ z); ends = λ c f k i. ap (λ (l : List ℕ). get_or l u 0) e ∙ over b w (ap thread_in f) i } }
    where
      size : (b : Bool) → length (pick b (set (set A.status t ended) v ready) (set A.status t ended)) ≡ length A.status
      size true = length-set (set A.status t ended) v ready ∙ length-set A.status t ended
      size false = length-set A.status t ended

      keeps : (b : Bool) → (t ≡ u → ⊥) → Unended u A.status → Unended u (pick b (set (set A.status t ended) v ready) (set A.status t ended))
      keeps true n h = kept (set A.status t ended) v ready u (not_ready v u) (kept A.status t ended u (λ _. n) h)
      keeps false n h = kept A.status t ended u (λ _. n) h

      here : t ≡ u → u < length A.status → get_or (set A.status t ended) u 0 ≡ ended
      here f i = rw f (get_or-set_same A.status u ended 0 i)

      over : (b : Bool) → (b ≡ true → get_or (set A.status t ended) v 0 ≡ waiting) → t ≡ u → u < length A.status
          → get_or (pick b (set (set A.status t ended) v ready) (set A.status t ended)) u 0 ≡ ended
      over true w f i = apart (ℕ_discrete v u)
        where
          apart : Dec (v ≡ u) → get_or (set (set A.status t ended) v ready) u 0 ≡ ended
          apart (yes z) = absurd (omega (arith, w refl, here f i, ap (λ (y : ℕ). get_or (set A.status t ended) y 0) z))
          apart (no z) = get_or-set_other (set A.status t ended) v u ready 0 (λ q. z (sym q)) ∙ here f i
      over false w f i = here f i

  waits_so : (next status : List ℕ) (v t : ℕ) → waits_in T next status v t ≡ true → get_or status v 0 ≡ waiting
  unfolding waits_in
  waits_so next status v t e = eqb-true (get_or status v 0) waiting (and_both (eqb (get_or status v 0) waiting) _ e).0

  pub act_ends : (K : ℕ) (parents : List ℕ) (t a x : ℕ) (A : Arrays) (totals : Totals) (worker : Worker) (k : Kind) → kind T a ≡ k → Leaves T u A (act_on k T K parents t a x A totals worker)
  unfolding act_on
  act_ends K parents t a x A totals worker end q =
      ends_thread t a (get_or parents t 0) (waits_in T A.next (set A.status t ended) (get_or parents t 0) t) q (waits_so A.next (set A.status t ended) (get_or parents t 0) t) refl
  act_ends K parents t a x A totals worker work q = either (next_fits a) (does (λ z. no_way (cc z)) q refl) same
  act_ends K parents t a x A totals worker alloc q =
      either (leb (drawn K x) worker.quota) (either (next_fits a && (amount_fits (totals.held + x) && amount_fits (amount_in A t + x))) (does (λ z. no_way (cc z)) q refl) same)
      (stops (λ y b e. no_way (cc e)) t ready (λ y. not_ready t y) refl)
  act_ends K parents t a x A totals worker free q = either (next_fits a && (leb x totals.held && leb x (amount_in A t))) (does (λ z. no_way (cc z)) q refl) same
  act_ends K parents t a x A totals worker fork q = either (next_fits a && ltb x max_threads) (forks x q refl) same
  act_ends K parents t a x A totals worker join q =
      either (ltb x max_threads)
      (either (eqb (get_or A.status x 0) ended) (either (next_fits a && amount_fits (amount_in A t + amount_in A x)) (does (λ z. no_way (cc z)) q refl) same)
      (stops (λ y b e. no_way (cc e)) t waiting (λ y. not_waiting t y) refl))
      same
  act_ends K parents t a x A totals worker unknown q = same

  in_ends : (K : ℕ) (parents : List ℕ) (A : Arrays) (totals : Totals) (worker : Worker) → Leaves T u A (act_in T K parents A totals worker)
  unfolding act_in
  in_ends K parents A totals worker =
      either (ltb worker.thread max_threads)
      (act_ends K parents worker.thread (action_in A worker.thread) (T.argument (action_in A worker.thread)) A totals worker (kind T (action_in A worker.thread)) refl) same

  -- ---- a turn

  seat_long : (K t : ℕ) (status : List ℕ) (worker : Worker) → length (seat_of K status t worker).status ≡ length status
  unfolding seat_of
  seat_long K t status worker = go worker.holds (ltb t no_thread)
    where
      go : (b c : Bool) → length (pick b (seat status worker) (pick c (seat (set status t held) (record { holds = true; thread = t; quota = K })) (seat status worker))).status ≡ length status
      go true c = refl
      go false true = length-set status t held
      go false false = refl

  seat_keeps : (K t : ℕ) (status : List ℕ) (worker : Worker) → Unended u status → Unended u (seat_of K status t worker).status
  unfolding seat_of
  seat_keeps K t status worker h = go worker.holds (ltb t no_thread)
    where
      go : (b c : Bool) → Unended u (pick b (seat status worker) (pick c (seat (set status t held) (record { holds = true; thread = t; quota = K })) (seat status worker))).status
      go true c = h
      go false true = kept status t held u (not_held t u) h
      go false false = h

  step_ends : (K : ℕ) (parents : List ℕ) (A : Arrays) (totals : Totals) (worker : Worker) → Leaves T u A (step_on T K parents A totals worker)
  unfolding step_on step_from
  step_ends K parents A totals worker =
      let t : ℕ = (seek max_threads A.status A.over totals.first).thread in
      let y : Seat = seat_in K A totals worker in
      let z : Ends T u y.status (act_in T K parents (with_statuses y.status A) totals y.worker).reply (act_in T K parents (with_statuses y.status A) totals y.worker).arrays.status = (in_ends K parents (with_statuses y.status A) totals y.worker).so in
      let n : length y.status ≡ length A.status = seat_long K t A.status worker in
      let o : Outcome = act_in T K parents (with_statuses y.status A) totals y.worker in
      let there : Leaves T u A o =
      record { so = record { long = z.long ∙ n; keep = λ m h. z.keep m (seat_keeps K t A.status worker h); ends = λ a e k i. z.ends a e k (subst (λ (j : ℕ). u < j) (sym n) i) } } in
      either y.worker.holds (either o.fits there same) same

  turned_ends : (K : ℕ) (parents : List ℕ) (w : ℕ) (A : Arrays) (m : Moved) (worker : Worker)
      → Ends T u A.status (turn_on T K parents w A m worker).reply (turn_on T K parents w A m worker).arrays.status
  unfolding turn_on
  turned_ends K parents w A m worker = go (room_for m.turns m.busy worker.holds w && o.fits)
    where
      o : Outcome
      o = step_on T K parents A m.totals worker

      go : (b : Bool) → let z : Left = pick b (counting w m worker o) (unmoved A m worker) in Ends T u A.status z.reply z.arrays.status
      go true = (step_ends K parents A m.totals worker).so
      go false = idle_ends

-- what a turn leaves in memory, refused or taken: `z` is what it would leave
pub left_ends : (T : Table) (M : Memory) (w u number : ℕ) (b : Bool) (z : Left) → Ends T u M.arrays.status z.reply z.arrays.status
    → let t : Told = pick b (turn_left M w z) (told number Idle M) in Ends T u M.arrays.status t.reply t.memory.arrays.status
unfolding turn_left
left_ends T M w u number b z h = go b z.fits
  where
    go : (b c : Bool) → let t : Told = pick b (pick c (told 0 z.reply (memory_after M w z)) (told 32 Idle M)) (told number Idle M) in
        Ends T u M.arrays.status t.reply t.memory.arrays.status
    go true true = h
    go true false = idle_ends T u
    go false c = idle_ends T u

-- of a turn in memory
pub turn_ends : (s : List ℕ) (w : ℕ) (M : Memory) (u : ℕ) → Ends (table_of s) u M.arrays.status (turn_in s w M).reply (turn_in s w M).memory.arrays.status
unfolding turn_in
turn_ends s w M u =
    let number : ℕ = hindrance (moved_in M).turns (get_or M.settings 0 0) w (get_or M.arrays.status 0 0) in
    left_ends (table_of s) M w u number (eqb number 0) (turn_on (table_of s) (get_or M.settings 1 0) M.parents w M.arrays (moved_in M) (worker_in M w))
    (turned_ends (table_of s) u (get_or M.settings 1 0) M.parents w M.arrays (moved_in M) (worker_in M w))
