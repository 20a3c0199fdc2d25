-- An action does to the rest of a state what it does whatever the list is; so what it keeps of a run with a list, it keeps of any.
use mathlib.Core.Path.{◌≡◌, refl, subst}
use Prim.Native.Nat.{ℕ, ◌≤◌, ◌<◌}
use mathlib.Core.List.{List}
use mathlib.Core.Bool.{Bool, true, false}
use lib.Dec.{leb, eqb}
use Rattle.table.specs.Sum.{pick}
use Rattle.table.specs.Format.{Table, kind}
use Rattle.table.specs.declared.kinds.Kind.{Kind}
use Rattle.table.specs.declared.kinds.Kind.TheVariants.{End as end, Work as work, Alloc as alloc, Free as free, Fork as fork, Join as join, Unknown as unknown}
use Rattle.schedule.specs.Machine.{State, ended, status_of, worker_of, parent_of, next_of, with_list, with_status, released, waits_for, woken, Stepped, stepped, act_by, act, left_of, without, drawn}
use Rattle.schedule.specs.Sound.{Common, SoundState}
use Rattle.order.proofs.Lawful.{Lawful}
use Rattle.schedule.proofs.Sound.Facts.{Facts, facts, sound_facts}
use Rattle.schedule.proofs.Preservation.Turns.{act_facts}
use Rattle.schedule.proofs.SerialLive.{serial_live, listed_live}

-- ---- whatever the list is

pub record Beside (T : Table) (K w : ℕ) (l : List ℕ) (st : State) : Type 0 where
  pub list : List ℕ
  pub same : act T K w (with_list l st) ≡ stepped (act T K w st).reply (with_list list (act T K w st).state)

picked : (q : Bool) (l : List ℕ) (y z y' z' : Stepped) → y ≡ stepped y'.reply (with_list l y'.state) → z ≡ stepped z'.reply (with_list l z'.state)
    → pick q y z ≡ stepped (pick q y' z').reply (with_list l (pick q y' z').state)
picked true l y z y' z' e f = e
picked false l y z y' z' e f = f

module _ (T : Table) (K w t a x : ℕ) (l : List ℕ) (st : State) where
  by_kind : (k : Kind) → (l' : List ℕ) × (act_by k T K w t a x (with_list l st) ≡ stepped (act_by k T K w t a x st).reply (with_list l' (act_by k T K w t a x st).state))
  unfolding act_by woken waits_for
  by_kind end = (without t l, go (waits_for T (released w t ended st) (parent_of T t) t))
    where
      go : (q : Bool)
          → stepped {- -} (act_by end T K w t a x st).reply (pick q (with_status (parent_of T t) 1 (with_list (without t l) (released w t ended st))) (with_list (without t l) (released w t ended st)))
          ≡ stepped (act_by end T K w t a x st).reply
          (with_list (without t l) (pick q (with_status (parent_of T t) 1 (with_list (without t st.list) (released w t ended st))) (with_list (without t st.list) (released w t ended st))))
      go true = refl
      go false = refl
  by_kind work = (l, refl)
  by_kind alloc = (l, picked (leb (drawn K x) (worker_of st w).quota) l _ _ _ _ refl refl)
  by_kind free = (l, refl)
  by_kind fork = (left_of x t l, refl)
  by_kind join = (l, picked (eqb (status_of st x) ended) l _ _ _ _ refl refl)
  by_kind unknown = (l, refl)

pub beside : (T : Table) (K w : ℕ) (l : List ℕ) (st : State) → Beside T K w l st
unfolding act
beside T K w l st =
    let t : ℕ = (worker_of st w).thread in
    let a : ℕ = next_of st t in
    let (l', e) = by_kind T K w t a (T.argument a) l st (kind T a) in
    record { list = l'; same = e }

-- ---- what any kind of run keeps, an action keeps

abbrev pub CommonIn : Table → ℕ → ℕ → State → Type 0
CommonIn T p K st = Common T p K st.next st.status st.amounts st.workers st.held st.highest

pub act_common : (T : Table) → Lawful T → (p K : ℕ) → p ≤ 16 → (w : ℕ) → w < p → (st : State) → CommonIn T p K st → (worker_of st w).holds ≡ true → CommonIn T p K (act T K w st).state
act_common T l p K few w b st c h =
    let g : List ℕ = serial_live T st.next st.status l in
    let s : SoundState T p K (with_list g st) = record { common = c; listed = listed_live T st.next st.status l c.placed } in
    let f : Facts T p K (act T K w (with_list g st)).state = act_facts T l p K few w b (with_list g st) (facts T l p K (with_list g st) s) h in
    let y : Beside T K w g st = beside T K w g st in
    let f' : Facts T p K (with_list y.list (act T K w st).state) = subst (λ (z : Stepped). Facts T p K z.state) y.same f in
    (sound_facts T l p K _ f').common
