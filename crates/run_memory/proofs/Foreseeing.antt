-- A turn in lent memory as a preview shows it, way by way: refused, idle, and with a thread on which the worker goes on.
use mathlib.Core.Path.{◌≡◌, refl, sym, ap, ◌∙◌}
use Prim.Native.Nat.{ℕ, ◌+◌, ◌-◌, ◌^◌, ◌≤◌, ◌<◌}
use native.Mathlib.Omega.{arith}
use native.Mathlib.Decide.{dec_lt}
use mathlib.Core.List.{List}
use mathlib.Core.Bool.{Bool, true, false, ◌&&◌}
use borrow.Author.Tests.{le-ltb, eqb-false, ne_eqb}
use lib.Dec.{ltb, eqb, lit<}
use lib.ListN.{length, get_or}
use lib.Seq.{get_or-set_same}
use Rattle.table.specs.Sum.{pick}
use Rattle.table.specs.Format.{Table, kind, table_of}
use Rattle.table.proofs.Tests.{no_way}
use Rattle.schedule.specs.declared.Reply.TheVariants.{Idle}
use Rattle.schedule.specs.Machine.{ready, ended}
use Rattle.schedule.specs.Links.{no_thread}
use Rattle.array_machine.specs.Turn.{Outcome}
use Rattle.array_machine.specs.Counted.{Left, room_for, turn_on}
use Rattle.run_memory.specs.declared.preview.Foreseen.{Foreseen}
use Rattle.std.specs.Prelude.{Err, None, Option, Result, Some}
use Rattle.run_memory.specs.declared.preview.Seen.{Seen}
use Rattle.run_memory.specs.Memory.{Memory, worker_in, moved_in, hindrance, Told, told, turn_left, taken_in, turn_in, passed_over}
use Rattle.run_memory.specs.Preview.{would, foreseen_as, foreseen_in}
use Rattle.run_memory.specs.Code.Acts.{seated_status, seated_quota, seated_worker}
use Rattle.run_memory.specs.Code.Seen.{seeing, unseen, seen_of, seen_in}
use Rattle.run_memory.proofs.ListActs.{seated_ended}
use Rattle.run_memory.proofs.Takes.{has_room, found, without_room, idles, passes_idle, there, stays_unfit, goes_there, hindered, goes_on}
use Rattle.run_memory.proofs.Seeing.{before_taken}

-- an action that fits
abbrev fitting : Outcome → Option Seen
fitting o = seeing o.reply o.totals.held o.totals.highest o.worker.quota

seen_fits : (o : Outcome) {z : Option Seen} {y : Seen} → z ≡ seen_of o → z ≡ Some y → (o.fits ≡ true) × (Some y ≡ fitting o)
seen_fits o {z} {y} e h = go o.fits refl
  where
    go : (b : Bool) → o.fits ≡ b → (o.fits ≡ true) × (Some y ≡ fitting o)
    go true d = (d, sym h ∙ e ∙ ap (λ (v : Bool). pick v (fitting o) unseen) d)
    go false d =
        let k : Some y ≡ unseen = sym h ∙ e ∙ ap (λ (v : Bool). pick v (fitting o) unseen) d in
        no_way (cc (k))

-- with how many threads are passed over
abbrev with_passed : ℕ → Option Seen → Result Foreseen ℕ
with_passed k None = Err 32
with_passed k (Some v) = would v.reply k v.held v.highest v.quota

seen_unfit : (o : Outcome) {z : Option Seen} → z ≡ seen_of o → z ≡ None → o.fits ≡ false
seen_unfit o {z} e h = go o.fits refl
  where
    go : (b : Bool) → o.fits ≡ b → o.fits ≡ false
    go false d = d
    go true d =
        let k : unseen ≡ fitting o = sym h ∙ e ∙ ap (λ (v : Bool). pick v (fitting o) unseen) d in
        no_way (cc (k))

module _ (s : List ℕ) (w : ℕ) (M : Memory) where
  abbrev shown : Result Foreseen ℕ
  shown = foreseen_as (taken_in s w M) (passed_over M w) w

  abbrev number : ℕ
  number = hindrance (moved_in M).turns (get_or M.settings 0 0) w (get_or M.arrays.status 0 0)

  abbrev z : Left
  z = turn_on (table_of s) (get_or M.settings 1 0) M.parents w M.arrays (moved_in M) (worker_in M w)

  as_shown : {t : Told} → t ≡ taken_in s w M → foreseen_as t (passed_over M w) w ≡ shown
  as_shown e = ap (λ (t : Told). foreseen_as t (passed_over M w) w) e

  -- there is no worker from 16 on
  without_worker : 16 ≤ w → told 32 Idle M ≡ taken_in s w M
  unfolding room_for
  without_worker h = without_room s w M refl (sym none)
    where
      and-false : (b : Bool) → (b && false) ≡ false
      and-false true = refl
      and-false false = refl

      none : has_room s w M ≡ false
      none = rw (le-ltb w 16 h) (and-false (ltb ((moved_in M).turns + 1) (2 ^ 64)))

  pub no_worker_lem : 16 ≤ w → Err 32 ≡ shown
  no_worker_lem h = as_shown (without_worker h)

  -- so that a turn that is taken is one of sixteen workers'
  pub few : (turn_in s w M).number ≡ 0 → w < 16
  unfolding turn_in
  few e = go (dec_lt w 16)
    where
      go : Dec (w < 16) → w < 16
      go (yes h) = h
      go (no h) = absurd (stuck (eqb number 0) refl)
        where
          stuck : (b : Bool) → eqb number 0 ≡ b → ⊥
          stuck true d = let x : ◌≡◌ {A = ℕ} 32 0 = ap (λ (t : Told). t.number) (without_worker (omega arith)) ∙ (rw d at e) in omega (arith, x)
          stuck false d = eqb-false number 0 d (rw d at e)

  pub refuses : told 32 Idle M ≡ taken_in s w M → Err 32 ≡ shown
  refuses e = as_shown e

  module _ {f : Bool} (r : f ≡ true) (d : f ≡ has_room s w M) where
    pub is_idle : (worker_in M w).holds ≡ false → no_thread ≤ found s w M → would Idle 0 (get_or M.totals 0 0) (get_or M.totals 1 0) (get_or M.quotas w 0) ≡ shown
    is_idle h l =
        ap (λ (k : ℕ). would Idle k (get_or M.totals 0 0) (get_or M.totals 1 0) (get_or M.quotas w 0)) (passes_idle M w true l) ∙ as_shown (idles s w M r d h l)

    module _ (t : ℕ) (e : t ≡ pick (worker_in M w).holds (get_or M.threads w 0) (found s w M)) (l : t < no_thread) (y : (worker_in M w).holds ≡ false → get_or M.arrays.status t 0 ≡ ready)
        {z : Option Seen} {a quota : ℕ} (i : a ≡ get_or M.arrays.next t 0) (q : quota ≡ seated_quota M w) (g : z ≡ seen_in (kind (table_of s) a) (table_of s) t a ((table_of s).argument a) quota M) where
      abbrev o : Outcome
      o = there s w M r d t e l

      -- the thread is not taken, and the same is seen
      seen_there : z ≡ seen_of o
      seen_there =
          let T : Table = table_of s in
          let b : ℕ = get_or M.arrays.next t 0 in
          let x : ℕ = T.argument b in
          g ∙ (λ j. seen_in (kind T (i j)) T t (i j) (T.argument (i j)) (q j) M)
          ∙ sym (before_taken T (get_or M.settings 1 0) M.parents M.arrays (moved_in M).totals (seated_worker M w t) (seated_status M w t) t b x
          (seated_ended (worker_in M w).holds M.arrays.status t x y) (kind T b))

      pub is_unfit : z ≡ None → Err 32 ≡ shown
      is_unfit h = refuses (stays_unfit s w M r d t e l (seen_unfit o seen_there h))

      pub goes : {k : ℕ} {y : Seen} → z ≡ Some y → k ≡ passed_over M w → w < length M.quotas → would y.reply k y.held y.highest y.quota ≡ shown
      goes {k} {y} h p n =
          let f = seen_fits o seen_there h in
          ap (with_passed k) f.1
          ∙ ap (λ (v : ℕ). would o.reply v o.totals.held o.totals.highest o.worker.quota) p
          ∙ ap (λ (v : ℕ). would o.reply (passed_over M w) o.totals.held o.totals.highest v) (sym (get_or-set_same M.quotas w o.worker.quota 0 n))
          ∙ as_shown (goes_there s w M r d t e l f.0)

  -- ---- what refuses it

  -- is a number of two digits
  pub small_number : (turn_in s w M).number < 100
  unfolding turn_in turn_left hindrance
  small_number = go (eqb (moved_in M).turns (2 ^ 64 - 1)) refl (ltb w (get_or M.settings 0 0)) refl (eqb (get_or M.arrays.status 0 0) ended) refl z.fits refl
    where
      go : (x : Bool) → eqb (moved_in M).turns (2 ^ 64 - 1) ≡ x → (y : Bool) → ltb w (get_or M.settings 0 0) ≡ y → (q : Bool) → eqb (get_or M.arrays.status 0 0) ended ≡ q
          → (f : Bool) → z.fits ≡ f → (turn_in s w M).number < 100
      go true a y b q c f d = rw a (lit< tt)
      go false a false b q c f d = rw (a, b) (lit< tt)
      go false a true b true c f d = rw (a, b, c) (lit< tt)
      go false a true b false c true d = rw (a, b, c, d) (lit< tt)
      go false a true b false c false d = rw (a, b, c, d) (lit< tt)

  -- ---- before it is taken

  module _ {k : ℕ} (e : k ≡ number) where
    pub is_hindered : (k ≡ 0 → ⊥) → Err k ≡ foreseen_in s w M
    unfolding foreseen_in
    is_hindered h =
        ap (λ (b : Bool). pick {A = Result Foreseen ℕ} b (would Idle (passed_over M w) (get_or M.totals 0 0) (get_or M.totals 1 0) (get_or M.quotas w 0)) (Err k)) (sym (ne_eqb k 0 h))
        ∙ ap (λ (t : Told). foreseen_as t (passed_over M w) w) (hindered s w M e h)

    pub is_taken : k ≡ 0 → {p : Result Foreseen ℕ} → p ≡ shown → p ≡ foreseen_in s w M
    unfolding foreseen_in
    is_taken h d = d ∙ ap (λ (t : Told). foreseen_as t (passed_over M w) w) (goes_on s w M e h)
