-- The links of both lists along a turn: what an action writes into them makes them those of the lists after it, and a search along the second list finds the leftmost ready thread.
use mathlib.Core.Path.{◌≡◌, refl, sym, ap, subst, ◌∙◌}
use Prim.Native.Nat.{ℕ}
use mathlib.Core.List.{List}
use mathlib.Core.Bool.{true}
use Rattle.table.specs.Format.{Table, kind, table_of}
use Rattle.table.specs.declared.kinds.Kind.{Kind}
use Rattle.table.specs.declared.kinds.Kind.TheVariants.{End as end, Work as work, Alloc as alloc, Free as free, Fork as fork, Join as join, Unknown as unknown}
use Rattle.schedule.specs.declared.Worker.{Worker}
use Rattle.schedule.specs.Machine.{State, Stepped, stepped, waits_for, act_by, act}
use Rattle.schedule.specs.Links.{no_thread, Links, LinkedAs, first_ready, seek}
use Rattle.schedule.specs.Actives.{actives}
use Rattle.schedule.specs.Code.LinkMoves.{links_by, actives_by}
use Rattle.schedule.specs.Record.{state_of}
use Rattle.schedule.proofs.Sound.Facts.{Facts}
use Rattle.order.proofs.Lists.{Below}
use Rattle.schedule.proofs.Linked.Once.{Once}
use Rattle.schedule.proofs.Linked.Links.{laid_linked, linked_laid, walk_linked}
use Rattle.schedule.proofs.Linked.ActiveMoves.{list_once, list_small}
use Rattle.schedule.proofs.Linked.LinkMoves.{act_links, act_actives}
use Rattle.schedule.proofs.Linked.Searches.{second_finds}
use Rattle.schedule.proofs.Preservation.Turns.{act_facts}
use Rattle.array_machine.specs.declared.Totals.{Totals}
use Rattle.array_machine.specs.Arrays.{Arrays, links_of, second_of, listed_in, action_in}
use Rattle.array_machine.specs.Turn.{Outcome}
use Rattle.array_machine.proofs.Parts.{state_over, state_in, Chained, Sits}
use Rattle.array_machine.proofs.Local.{part_of, put_back, goes_local}
use Rattle.array_machine.proofs.Seats.{run, laws, known, fits, worker_few, holds}

-- what an action of kind k with argument x leaves: the state that the machine's leaves, over whatever list, and both links as the kind moves them
pub record ActedBy (k : Kind) (T : Table) (K x : ℕ) (A : Arrays) (totals : Totals) (worker : Worker) (o : Outcome) : Type 0 where
  pub fits : o.fits ≡ true
  pub state : (list : List ℕ)
      → stepped o.reply (state_over o.arrays (act_by k T K 0 worker.thread (action_in A worker.thread) x (state_over A list totals worker)).state.list o.totals o.worker)
      ≡ act_by k T K 0 worker.thread (action_in A worker.thread) x (state_over A list totals worker)
  pub list_links : links_of o.arrays o.totals ≡ links_by k worker.thread x (links_of A totals)
  pub second_links : (list : List ℕ) → second_of o.arrays o.totals ≡ actives_by k T worker.thread x (state_over A list totals worker) (second_of A totals)

-- what the worker's action leaves
abbrev pub Acted : Table → ℕ → Arrays → Totals → Worker → Outcome → Type 0
Acted T K A totals worker o =
    let a : ℕ = action_in A worker.thread in
    ActedBy (kind T a) T K (T.argument a) A totals worker o

-- equal links describe the same lists
pub linked_as : (k k' : Links) (l : List ℕ) → k ≡ k' → LinkedAs k' l → LinkedAs k l
linked_as k k' l e h = subst (λ (x : Links). LinkedAs x l) (sym e) h

-- the second list's moves see the next actions and the statuses alone
of_part : (k : Kind) (T : Table) (t x w : ℕ) (st : State) (l : Links) → actives_by k T t x st l ≡ actives_by k T t x (part_of w st) l
unfolding actives_by waits_for
of_part end T t x w st l = refl
of_part work T t x w st l = refl
of_part alloc T t x w st l = refl
of_part free T t x w st l = refl
of_part fork T t x w st l = refl
of_part join T t x w st l = refl
of_part unknown T t x w st l = refl

module _ {s : List ℕ} {n K : ℕ} {A : Arrays} {totals : Totals} {worker : Worker} (q : Sits s n K A totals worker) where
  abbrev list : List ℕ
  list = listed_in A totals

  once : Once list
  once = list_once (table_of s) (laws q) q.p K (state_of (run q)) (known q)

  pub small : Below no_thread list
  small = list_small (table_of s) (laws q) q.p K (state_of (run q)) (known q)

  -- ---- a search

  pub found : (seek no_thread A.status A.over totals.first).thread ≡ first_ready A.status list
  found = second_finds A.under A.over totals.first A.status list q.chained.second_links once small

  -- ---- an action

  module _ (h : worker.holds ≡ true) {o : Outcome} (a : Acted (table_of s) K A totals worker o) where
    abbrev whole : State
    whole = state_of (run q)

    abbrev after : Stepped
    after = act (table_of s) K 0 (state_in A totals worker)

    abbrev kind_here : Kind
    kind_here = kind (table_of s) (action_in A worker.thread)

    abbrev argument_here : ℕ
    argument_here = (table_of s).argument (action_in A worker.thread)

    part_is : part_of q.w whole ≡ state_in A totals worker
    part_is = ap (λ (x : Worker). state_in A totals x) q.own

    -- the machine's action on the whole state
    whole_after : act (table_of s) K q.w whole ≡ put_back q.w whole after
    whole_after = goes_local (table_of s) K q.w whole ∙ ap (λ (x : State). put_back q.w whole (act (table_of s) K 0 x)) part_is

    same_list : (act (table_of s) K q.w whole).state.list ≡ after.state.list
    same_list = ap (λ (x : Stepped). x.state.list) whole_after

    same_status : (act (table_of s) K q.w whole).state.status ≡ after.state.status
    same_status = ap (λ (x : Stepped). x.state.status) whole_after

    facts_after : Facts (table_of s) q.p K (act (table_of s) K q.w whole).state
    facts_after = act_facts (table_of s) (laws q) q.p K (fits q).few_workers q.w q.below whole (known q) (holds q h)

    once_after : Once after.state.list
    once_after = rw same_list at (list_once (table_of s) (laws q) q.p K _ facts_after)

    small_after : Below no_thread after.state.list
    small_after = rw same_list at (list_small (table_of s) (laws q) q.p K _ facts_after)

    linked : LinkedAs (links_of o.arrays o.totals) after.state.list
    linked =
        linked_as _ _ after.state.list a.list_links
        (rw (same_list, q.own) at
        (act_links (table_of s) (laws q) q.p K q.w (worker_few q) whole (known q) (holds q h) (links_of A totals)
        (linked_as _ _ list q.chained.list_links (laid_linked list))))

    read_back : listed_in o.arrays o.totals ≡ after.state.list
    read_back = walk_linked o.arrays.left o.arrays.right o.totals.leftmost after.state.list linked once_after small_after

    second : LinkedAs (second_of o.arrays o.totals) (actives after.state.status after.state.list)
    second =
        linked_as _ _ (actives after.state.status after.state.list)
        (a.second_links list
        ∙ ap (λ (x : State). actives_by kind_here (table_of s) worker.thread argument_here x (second_of A totals)) (sym part_is)
        ∙ sym (of_part kind_here (table_of s) worker.thread argument_here q.w whole (second_of A totals)))
        (rw (same_list, same_status, q.own) at
        (act_actives (table_of s) (laws q) q.p K q.w (worker_few q) whole (known q) (holds q h) (second_of A totals) q.chained.second_links))

    -- the machine's action, by its kind
    acted_state : stepped o.reply (state_over o.arrays after.state.list o.totals o.worker) ≡ after
    unfolding act
    acted_state = a.state list

    pub acted_body : stepped o.reply (state_in o.arrays o.totals o.worker) ≡ after
    acted_body = rw read_back acted_state

    pub acted_chained : Chained o.arrays o.totals
    acted_chained =
        record {
          list_links = rw read_back (linked_laid (links_of o.arrays o.totals) after.state.list linked);
          second_links = subst (λ (x : List ℕ). LinkedAs (second_of o.arrays o.totals) (actives o.arrays.status x)) (sym read_back)
              (subst (λ (x : List ℕ). LinkedAs (second_of o.arrays o.totals) (actives x after.state.list)) (sym (ap (λ (x : Stepped). x.state.status) acted_state)) second);
        }
