-- A turn is local: what it does to the state of a run, it does to the part of the one worker.
use mathlib.Core.Path.{◌≡◌, refl, ap, ◌∙◌}
use Prim.Native.Nat.{ℕ, ◌<◌}
use mathlib.Core.List.{[], ◌∷◌}
use mathlib.Core.Bool.{Bool, true, false}
use lib.ListN.{length, get_or, set}
use lib.Seq.{get_or-set_same, set-get_or, set-set}
use lib.Dec.{leb, eqb}
use Rattle.table.specs.Format.{Table, kind}
use Rattle.table.specs.declared.kinds.Kind.{Kind}
use Rattle.table.specs.declared.kinds.Kind.TheVariants.{End as end, Work as work, Alloc as alloc, Free as free, Fork as fork, Join as join, Unknown as unknown}
use Rattle.schedule.specs.declared.Worker.{Worker}
use Rattle.schedule.specs.Machine.{State, Stepped, drawn, stepped, with_list, released, ended, next_of, status_of, worker_of, nobody, counted}
use Rattle.schedule.specs.Machine.{without, waits_for, parent_of, woken, act_by, act, leftmost, taken, turn_free, turn_of}
use Rattle.array_machine.proofs.Parts.{turn_body}

-- ---- the part of one worker

-- the state with worker w alone
abbrev pub part_of : ℕ → State → State
part_of w st =
    record { next = st.next; status = st.status; amounts = st.amounts; list = st.list; workers = worker_of st w ∷ []; held = st.held; highest = st.highest; turns = 0 }

-- what a part became, put back
abbrev pub put_back : ℕ → State → Stepped → Stepped
put_back w st s =
    stepped s.reply
    (record {
      next = s.state.next;
      status = s.state.status;
      amounts = s.state.amounts;
      list = s.state.list;
      workers = set st.workers w (worker_of s.state 0);
      held = s.state.held;
      highest = s.state.highest;
      turns = st.turns;
    })

same_workers : (w : ℕ) (st : State) → set st.workers w (worker_of st w) ≡ st.workers
same_workers w st = set-get_or st.workers w nobody

module _ (T : Table) (K w : ℕ) (st : State) where
  act_local : (k : Kind) (t a x : ℕ) → act_by k T K w t a x st ≡ put_back w st (act_by k T K 0 t a x (part_of w st))
  unfolding act_by woken waits_for
  act_local end t a x = go (waits_for T (with_list (without t st.list) (released w t ended st)) (parent_of T t) t) refl
    where
      go : (q : Bool) → waits_for T (with_list (without t st.list) (released w t ended st)) (parent_of T t) t ≡ q
          → act_by end T K w t a x st ≡ put_back w st (act_by end T K 0 t a x (part_of w st))
      go true e = rw e refl
      go false e = rw e refl
  act_local work t a x = rw (same_workers w st)
  act_local alloc t a x = go (leb (drawn K x) (worker_of st w).quota) refl
    where
      go : (q : Bool) → leb (drawn K x) (worker_of st w).quota ≡ q → act_by alloc T K w t a x st ≡ put_back w st (act_by alloc T K 0 t a x (part_of w st))
      go true e = rw e refl
      go false e = rw e refl
  act_local free t a x = rw (same_workers w st)
  act_local fork t a x = refl
  act_local join t a x = go (eqb (status_of st x) ended) refl
    where
      go : (q : Bool) → eqb (status_of st x) ended ≡ q → act_by join T K w t a x st ≡ put_back w st (act_by join T K 0 t a x (part_of w st))
      go true e = rw (e, same_workers w st)
      go false e = rw e refl
  act_local unknown t a x = rw (same_workers w st)

  pub goes_local : act T K w st ≡ put_back w st (act T K 0 (part_of w st))
  unfolding act
  goes_local =
      let t : ℕ = (worker_of st w).thread in
      let a : ℕ = next_of st t in
      act_local (kind T a) t a (T.argument a)

module _ (T : Table) (K w : ℕ) (st : State) (h : w < length st.workers) where
  -- taking a thread is local too
  taken_local : (t : ℕ) → act T K w (taken K w t st) ≡ put_back w st (act T K 0 (taken K 0 t (part_of w st)))
  unfolding taken
  taken_local t =
      let v : Worker = record { holds = true; thread = t; quota = K } in
      let e : get_or (set st.workers w v) w nobody ≡ v = get_or-set_same st.workers w v nobody h in
      goes_local T K w (taken K w t st) ∙ rw (e, set-set st.workers w v)

  free_local : turn_free T K w st ≡ put_back w st (turn_free T K 0 (part_of w st))
  unfolding turn_free
  free_local = go (eqb (leftmost st.status st.list) (length st.list)) refl
    where
      go : (q : Bool) → eqb (leftmost st.status st.list) (length st.list) ≡ q → turn_free T K w st ≡ put_back w st (turn_free T K 0 (part_of w st))
      go true e = rw (e, same_workers w st)
      go false e = rw e (taken_local (get_or st.list (leftmost st.status st.list) 0))

  body_local : turn_body T K w st ≡ put_back w st (turn_body T K 0 (part_of w st))
  unfolding turn_body
  body_local = go (worker_of st w).holds refl
    where
      go : (q : Bool) → (worker_of st w).holds ≡ q → turn_body T K w st ≡ put_back w st (turn_body T K 0 (part_of w st))
      go true e = rw e (goes_local T K w st)
      go false e = rw e free_local

  pub turn_local : turn_of T K w st ≡ (let b : Stepped = put_back w st (turn_body T K 0 (part_of w st)) in stepped b.reply (counted b.state))
  unfolding turn_of turn_body
  turn_local = ap (λ (b : Stepped). stepped b.reply (counted b.state)) body_local
