-- For any numbers whatever: a turn of DFDeques fits where AsyncDF's action fits, and the links have no part in it, so that the test can be made before a steal writes; what does not fit moves nothing.
use mathlib.Core.Path.{◌≡◌, refl, ◌∙◌}
use Prim.Native.Nat.{ℕ, ◌+◌}
use mathlib.Core.List.{List}
use mathlib.Core.Bool.{Bool, true, false, not, ◌&&◌, ◌||◌}
use lib.ListN.{get_or, set}
use lib.Dec.{ltb, leb, eqb}
use Rattle.table.specs.Sum.{pick}
use Rattle.table.specs.Format.{Table, kind}
use Rattle.table.specs.declared.kinds.Kind.{Kind}
use Rattle.table.specs.declared.kinds.Kind.TheVariants.{End as end, Work as work, Alloc as alloc, Free as free, Fork as fork, Join as join, Unknown as unknown}
use Rattle.table.specs.Checks.{max_threads}
use Rattle.table.proofs.Tests.{no_way}
use Rattle.schedule.specs.declared.Worker.{Worker}
use Rattle.schedule.specs.declared.Reply.{Reply}
use Rattle.schedule.specs.declared.Reply.TheVariants.{Idle}
use Rattle.schedule.specs.Machine.{drawn, ready, held, ended}
use Rattle.schedule.specs.Links.{no_thread, Links}
use Rattle.schedule.proofs.Preservation.Turns.{either}
use Rattle.array_machine.specs.declared.Totals.{Totals}
use Rattle.array_machine.specs.Arrays.{Arrays, second_of, action_in, amount_in, relinked, headed, with_statuses}
use Rattle.array_machine.specs.Turn.{Outcome, moved, unfit, next_fits, amount_fits, waits_in, act_on, act_in}
use Rattle.deques.specs.Lines.{linked_in}
use Rattle.stealing.specs.Stealing.{along_by, leaves_on, wakes_on, forks_on, deque_by, deque_in, robbed_arrays, robbed_totals, steal_on, deque_on}

-- ---- what a choice fits

both_fit : (b : Bool) (o v : Outcome) → o.fits ≡ true → v.fits ≡ true → (pick b o v).fits ≡ true
both_fit true o v e f = e
both_fit false o v e f = f

same_fit : (b : Bool) (o v o' v' : Outcome) → o.fits ≡ o'.fits → v.fits ≡ v'.fits → (pick b o v).fits ≡ (pick b o' v').fits
same_fit true o v o' v' e f = e
same_fit false o v o' v' e f = f

module _ (T : Table) (K : ℕ) (parents : List ℕ) (t a x : ℕ) (A : Arrays) (totals : Totals) (worker : Worker) where
  leaves_fit : (reply : Reply) (y : ℕ) → (leaves_on reply t y A totals worker).fits ≡ true
  unfolding leaves_on
  leaves_fit reply y = both_fit (linked_in (second_of A totals) t || not (ltb (get_or A.right t 0) max_threads)) _ _ refl refl

  wakes_fit : (reply : Reply) (u : ℕ) → (wakes_on reply t u A totals worker).fits ≡ true
  unfolding wakes_on
  wakes_fit reply u = refl

  -- the same test as AsyncDF's
  pub fits_same : (k : Kind) → (deque_by k T K parents t a x A totals worker).fits ≡ (act_on k T K parents t a x A totals worker).fits
  unfolding deque_by act_on forks_on
  fits_same end =
      both_fit (waits_in T A.next (set A.status t ended) (get_or parents t 0) t) _ _ (wakes_fit _ (get_or parents t 0)) (leaves_fit _ ended)
  fits_same work = refl
  fits_same alloc = refl
  fits_same free = refl
  fits_same fork = same_fit (next_fits a && ltb x max_threads) _ _ _ _ refl refl
  fits_same join = go (ltb x max_threads) (eqb (get_or A.status x 0) ended) refl refl
    where
      go : (b c : Bool) → ltb x max_threads ≡ b → eqb (get_or A.status x 0) ended ≡ c → (deque_by join T K parents t a x A totals worker).fits ≡ (act_on join T K parents t a x A totals worker).fits
      go true true e f = rw (e, f)
      go true false e f = rw (e, f) (leaves_fit _ _)
      go false c e f = rw e
  fits_same unknown = refl

  -- whatever the links
  pub fits_apart : (k : Kind) (l m : Links) → (act_on k T K parents t a x (relinked l m A) (headed l m totals) worker).fits ≡ (act_on k T K parents t a x A totals worker).fits
  unfolding act_on
  fits_apart end l m = refl
  fits_apart work l m = same_fit (next_fits a) _ _ _ _ refl refl
  fits_apart alloc l m =
      same_fit (leb (drawn K x) worker.quota) _ _ _ _ (same_fit (next_fits a && (amount_fits (totals.held + x) && amount_fits (amount_in A t + x))) _ _ _ _ refl refl) refl
  fits_apart free l m = same_fit (next_fits a && (leb x totals.held && leb x (amount_in A t))) _ _ _ _ refl refl
  fits_apart fork l m = same_fit (next_fits a && ltb x max_threads) _ _ _ _ refl refl
  fits_apart join l m =
      same_fit (ltb x max_threads) _ _ _ _
      (same_fit (eqb (get_or A.status x 0) ended) _ _ _ _ (same_fit (next_fits a && amount_fits (amount_in A t + amount_in A x)) _ _ _ _ refl refl) refl) refl
  fits_apart unknown l m = refl

-- a steal's action fits where AsyncDF's would, of a worker that has taken b: nothing that the steal links is looked at
pub steal_fits : (T : Table) (K : ℕ) (parents : List ℕ) (b : ℕ) (A : Arrays) (totals : Totals) (worker : Worker)
    → (deque_in T K parents (robbed_arrays b A totals) (robbed_totals b A totals) worker).fits ≡ (act_in T K parents (with_statuses (set A.status b held) A) totals worker).fits
unfolding deque_in act_in
steal_fits T K parents b A totals worker =
    let t : ℕ = worker.thread in
    let a : ℕ = action_in A t in
    same_fit (ltb worker.thread max_threads) _ _ _ _
    (fits_same T K parents worker.thread (action_in A worker.thread) (T.argument (action_in A worker.thread)) (robbed_arrays b A totals) (robbed_totals b A totals) worker (kind T (action_in A worker.thread))
    ∙ fits_apart T K parents worker.thread (action_in A worker.thread) (T.argument (action_in A worker.thread)) (with_statuses (set A.status b held) A) totals worker (kind T (action_in A worker.thread)) _ _) refl

-- ---- what does not fit moves nothing

abbrev pub Whole : Arrays → Totals → Worker → Outcome → Type 0
Whole A totals worker o = o.fits ≡ false → o ≡ unfit A totals worker

module _ (A : Arrays) (totals : Totals) (worker : Worker) where
  whole_fits : (o : Outcome) → o.fits ≡ true → Whole A totals worker o
  whole_fits o e f = no_way (cc)

  chosen : (b : Bool) (o v : Outcome) → Whole A totals worker o → Whole A totals worker v → Whole A totals worker (pick b o v)
  chosen true o v e f = e
  chosen false o v e f = f

  module _ (T : Table) (K : ℕ) (parents : List ℕ) (t a x : ℕ) where
    act_whole : (k : Kind) → Whole A totals worker (act_on k T K parents t a x A totals worker)
    unfolding act_on
    act_whole end = whole_fits _ refl
    act_whole work = chosen (next_fits a) _ _ (whole_fits _ refl) (λ e. refl)
    act_whole alloc =
        chosen (leb (drawn K x) worker.quota) _ _ (chosen (next_fits a && (amount_fits (totals.held + x) && amount_fits (amount_in A t + x))) _ _ (whole_fits _ refl) (λ e. refl)) (whole_fits _ refl)
    act_whole free = chosen (next_fits a && (leb x totals.held && leb x (amount_in A t))) _ _ (whole_fits _ refl) (λ e. refl)
    act_whole fork = chosen (next_fits a && ltb x max_threads) _ _ (whole_fits _ refl) (λ e. refl)
    act_whole join =
        chosen (ltb x max_threads) _ _
        (chosen (eqb (get_or A.status x 0) ended) _ _ (chosen (next_fits a && amount_fits (amount_in A t + amount_in A x)) _ _ (whole_fits _ refl) (λ e. refl)) (whole_fits _ refl)) (λ e. refl)
    act_whole unknown = whole_fits _ refl

    deque_whole : (k : Kind) → Whole A totals worker (deque_by k T K parents t a x A totals worker)
    unfolding deque_by forks_on
    deque_whole end =
        chosen (waits_in T A.next (set A.status t ended) (get_or parents t 0) t) _ _ (whole_fits _ (wakes_fit T K parents t a x A totals worker _ (get_or parents t 0)))
        (whole_fits _ (leaves_fit T K parents t a x A totals worker _ ended))
    deque_whole work = act_whole work
    deque_whole alloc = act_whole alloc
    deque_whole free = act_whole free
    deque_whole fork = chosen (next_fits a && ltb x max_threads) _ _ (whole_fits _ refl) (λ e. refl)
    deque_whole join =
        chosen (ltb x max_threads) _ _
        (chosen (eqb (get_or A.status x 0) ended) _ _ (act_whole join) (whole_fits _ (leaves_fit T K parents t a x A totals worker _ _))) (λ e. refl)
    deque_whole unknown = act_whole unknown

  in_whole : (T : Table) (K : ℕ) (parents : List ℕ) → Whole A totals worker (deque_in T K parents A totals worker)
  unfolding deque_in
  in_whole T K parents =
      chosen (ltb worker.thread max_threads) _ _ (deque_whole T K parents worker.thread (action_in A worker.thread) (T.argument (action_in A worker.thread)) (kind T (action_in A worker.thread))) (λ e. refl)

  picked : (o : Outcome) → Whole A totals worker (pick o.fits o (unfit A totals worker))
  picked o = either (λ (z : Outcome). Whole A totals worker z) o.fits o (unfit A totals worker) (λ e. whole_fits o e) (λ e f. refl)

  steal_whole : (T : Table) (K : ℕ) (parents : List ℕ) (c : ℕ) → Whole A totals worker (steal_on T K parents c A totals worker)
  unfolding steal_on
  steal_whole T K parents c =
      let b : ℕ = along_by c A.over totals.first in
      let acts : Outcome = deque_in T K parents (robbed_arrays b A totals) (robbed_totals b A totals) (record { holds = true; thread = b; quota = K }) in
      chosen (ltb c 16) (pick (ltb b no_thread && eqb (get_or A.status b 0) ready) (pick acts.fits acts (unfit A totals worker)) (moved Idle A totals worker)) (unfit A totals worker)
      (chosen (ltb b no_thread && eqb (get_or A.status b 0) ready) (pick acts.fits acts (unfit A totals worker)) (moved Idle A totals worker) (picked acts) (whole_fits (moved Idle A totals worker) refl)) (λ e. refl)

  -- "A refused turn hands back its record untouched"
  pub turn_whole : (T : Table) (K : ℕ) (parents : List ℕ) (c : ℕ) → Whole A totals worker (deque_on T K parents c A totals worker)
  unfolding deque_on
  turn_whole T K parents c = chosen worker.holds (deque_in T K parents A totals worker) (steal_on T K parents c A totals worker) (in_whole T K parents) (steal_whole T K parents c)
