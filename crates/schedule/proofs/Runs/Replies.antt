-- One turn's amounts: memory held moves by what the reply says was done, and its highest follows it.
use mathlib.Core.Path.{◌≡◌, refl, ap}
use Prim.Native.Nat.{ℕ, ◌+◌, ◌≤◌, ◌<◌, max}
use native.Mathlib.Omega.{arith}
use mathlib.Core.List.{Memᴰ}
use mathlib.Core.Bool.{Bool, true, false}
use lib.ListN.{length, get_or}
use lib.Dec.{leb, eqb}
use lib.Seq.{get_or-set_same}
use borrow.Author.Tests.{eqb-false}
use Rattle.table.specs.Sum.{pick}
use Rattle.table.specs.Format.{code_of, is, Table, kind}
use Rattle.table.specs.declared.kinds.Kind.{Kind}
use Rattle.table.specs.declared.kinds.Kind.TheVariants.{End as end, Work as work, Alloc as alloc, Free as free, Fork as fork, Join as join, Unknown as unknown}
use Rattle.table.specs.Checks.{alloc_of, free_of}
use Rattle.schedule.specs.declared.Worker.{Worker}
use Rattle.schedule.specs.Machine.{State, drawn, Stepped, with_status, with_list, released, ready, held, ended, next_of, status_of, worker_of, nobody}
use Rattle.schedule.specs.Machine.{without, waits_for, parent_of, woken, act_by, act, leftmost, taken, turn_free, turn_of}
use Rattle.schedule.specs.Memory.{of_reply}
use Rattle.order.proofs.Lists.{get_d_member}
use Rattle.order.proofs.Lawful.{Lawful}
use Rattle.schedule.proofs.Linked.Searches.{leftmost_within}
use Rattle.schedule.proofs.Sound.Facts.{Facts}
use Rattle.schedule.proofs.Sound.Shares.{free_held}

-- ---- what a step does to the amounts

pub record Amounts (T : Table) (st : State) (s : Stepped) : Type 0 where
  pub moves : s.state.held + of_reply (free_of T) s.reply ≡ st.held + of_reply (alloc_of T) s.reply
  pub tops : s.state.highest ≡ max st.highest s.state.held

-- nothing moves: no action was done, or one of a kind that neither draws nor gives back
still : (T : Table) (st : State) (s : Stepped) → st.held ≤ st.highest → s.state.held ≡ st.held → s.state.highest ≡ st.highest
    → of_reply (free_of T) s.reply ≡ of_reply (alloc_of T) s.reply → Amounts T st s
still T st s above h g r = record { moves = omega arith; tops = omega arith }

woken_same : (T : Table) (t : ℕ) (st : State) → ((woken T t st).held ≡ st.held) × ((woken T t st).highest ≡ st.highest)
unfolding woken
woken_same T t st = go (waits_for T st (parent_of T t) t)
  where
    go : (b : Bool) → ((pick b (with_status (parent_of T t) ready st) st).held ≡ st.held) × ((pick b (with_status (parent_of T t) ready st) st).highest ≡ st.highest)
    go true = (refl, refl)
    go false = (refl, refl)

module _ (T : Table) (K w t a x : ℕ) (st : State) (above : st.held ≤ st.highest) (argument : T.argument a ≡ x) where
  draws : (k : Kind) → kind T a ≡ k → (alloc_of T a ≡ pick (is alloc k) x 0) × (free_of T a ≡ pick (is free k) x 0)
  unfolding alloc_of free_of
  draws k e = (rw (e, argument), rw (e, argument))

  -- an action that neither draws nor gives back
  no_amount : (k : Kind) → kind T a ≡ k → is alloc k ≡ false → is free k ≡ false → free_of T a ≡ alloc_of T a
  no_amount k e p q = let d = draws k e in rw (d.0, d.1, p, q)

  alloc_amounts : kind T a ≡ alloc → (b : Bool) → leb (drawn K x) (worker_of st w).quota ≡ b → Amounts T st (act_by alloc T K w t a x st)
  unfolding act_by is code_of
  alloc_amounts e true q = let d = draws alloc e in rw q (record { moves = omega (arith, d.0, d.1); tops = refl })
  alloc_amounts e false q = rw q (still T st _ above refl refl refl)

  join_amounts : kind T a ≡ join → (b : Bool) → eqb (status_of st x) ended ≡ b → Amounts T st (act_by join T K w t a x st)
  unfolding act_by is code_of
  join_amounts e true q = rw q (still T st _ above refl refl (no_amount join e refl refl))
  join_amounts e false q = rw q (still T st _ above refl refl refl)

  act_amounts : (k : Kind) → kind T a ≡ k → (k ≡ free → x ≤ st.held) → Amounts T st (act_by k T K w t a x st)
  unfolding act_by is code_of
  act_amounts end e h =
      let s = woken_same T t (with_list (without t st.list) (released w t ended st)) in
      still T st _ above s.0 s.1 (no_amount end e refl refl)
  act_amounts work e h = still T st _ above refl refl (no_amount work e refl refl)
  act_amounts alloc e h = alloc_amounts e (leb (drawn K x) (worker_of st w).quota) refl
  act_amounts free e h = let d = draws free e in record { moves = omega (arith, d.0, d.1, h refl); tops = refl }
  act_amounts fork e h = still T st _ above refl refl (no_amount fork e refl refl)
  act_amounts join e h = join_amounts e (eqb (status_of st x) ended) refl
  act_amounts unknown e h = still T st _ above refl refl refl

module _ (T : Table) (l : Lawful T) (p K : ℕ) (few : p ≤ 16) (w : ℕ) (below : w < p) (st : State) (f : Facts T p K st) where
  -- worker w goes on with its thread
  held_amounts : (worker_of st w).holds ≡ true → Amounts T st (act T K w st)
  unfolding act
  held_amounts e =
      let t : ℕ = (worker_of st w).thread in
      let a : ℕ = next_of st t in
      let s : status_of st t ≡ held = f.holding.holder_held w (omega arith) e in
      act_amounts T K w t a (T.argument a) st f.above refl (kind T a) refl
      (free_held T l p K st f t (f.holding.holder_thread w (omega arith) e) (λ q. omega arith))

  -- worker w takes a thread of the list
  taken_amounts : (t : ℕ) → Memᴰ t st.list → Amounts T st (act T K w (taken K w t st))
  unfolding act taken
  taken_amounts t m =
      let st' : State = taken K w t st in
      let e : (worker_of st' w).thread ≡ t =
      ap (λ (x : Worker). x.thread) (get_or-set_same st.workers w (record { holds = true; thread = t; quota = K }) nobody (omega (arith, f.holding.worker_size))) in
      let u : ℕ = (worker_of st' w).thread in
      let a : ℕ = next_of st u in
      let q : Amounts T st' (act_by (kind T a) T K w u a (T.argument a) st') =
      act_amounts T K w u a (T.argument a) st' f.above refl (kind T a) refl
      (free_held T l p K st f u (rw e (f.list_below t m)) (λ z. f.list_unended t m (rw e at z))) in
      record { moves = q.moves; tops = q.tops }

  free_amounts : (b : Bool) → eqb (leftmost st.status st.list) (length st.list) ≡ b → Amounts T st (turn_free T K w st)
  unfolding turn_free
  free_amounts true e = rw e (still T st _ f.above refl refl refl)
  free_amounts false e =
      let i : ℕ = leftmost st.status st.list in
      let h : i < length st.list = omega (arith, leftmost_within st.status st.list, eqb-false i (length st.list) e) in
      rw e (taken_amounts (get_or st.list i 0) (get_d_member st.list i 0 h))

  pub turn_amounts : Amounts T st (turn_of T K w st)
  unfolding turn_of
  turn_amounts = go (worker_of st w).holds refl
    where
      go : (b : Bool) → (worker_of st w).holds ≡ b → Amounts T st (turn_of T K w st)
      go true e = let q = held_amounts e in rw e (record { moves = q.moves; tops = q.tops })
      go false e = let q = free_amounts (eqb (leftmost st.status st.list) (length st.list)) refl in rw e (record { moves = q.moves; tops = q.tops })
