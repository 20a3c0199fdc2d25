-- A thread goes on within its body: its next action, neither a fork nor an end, is done, and the state stays sound.
use mathlib.Core.Path.{◌≡◌, refl, ◌∙◌}
use Prim.Native.Nat.{ℕ, suc, ◌+◌, ◌-◌, ◌≤◌, ◌<◌}
use mathlib.Core.List.{List}
use mathlib.Core.Bool.{false}
use native.Mathlib.Omega.{arith}
use lib.ListN.{length, set, length-set}
use lib.Seq.{get_or-set_same, get_or-set_other}
use Rattle.table.specs.Format.{is, Table, kind}
use Rattle.table.specs.declared.kinds.Kind.TheVariants.{End as end, Alloc as alloc, Free as free, Fork as fork, Join as join}
use Rattle.table.specs.Checks.{owner, end_of, alloc_of, free_of}
use Rattle.table.specs.Level.{fork_below}
use Rattle.table.proofs.Tests.{no_way, same_is}
use Rattle.table.proofs.Bodies.{end_kind, next_within, next_owner}
use Rattle.schedule.specs.declared.Worker.{Worker}
use Rattle.schedule.specs.Machine.{State, held, waiting, ended, next_of, status_of, amount_of, advanced}
use Rattle.schedule.specs.Sound.{is_done}
use Rattle.order.specs.Order.{number_of}
use Rattle.order.proofs.Lawful.{Lawful}
use Rattle.order.proofs.Words.{Ascends}
use Rattle.schedule.proofs.Sound.Facts.{Holding, Facts}
use Rattle.order.proofs.Numbers.{number_once, number_step}
use Rattle.schedule.proofs.Sound.Done.{next_below, owner_of_next, next_depends}
use Rattle.schedule.proofs.Preservation.Does.{Does, over_does, does_ordered, does_amount, does_fork}
use Rattle.order.proofs.Lists.{set_each}
use Rattle.schedule.proofs.Sound.Sharing.{Shared}
use Rattle.schedule.proofs.Preservation.ShareMoves.{Progressed, over_progressed, shared_same, shared_alloc, shared_free, shared_join}
use Rattle.schedule.proofs.Preservation.ListMoves.{ascends_along}

-- ---- going on

-- the next action of thread t is done, with what it changes of workers and amounts
abbrev pub gone_on : ℕ → List Worker → List ℕ → ℕ → ℕ → State → State
gone_on t ws ms h g st =
    record { next = set st.next t (suc (next_of st t)); status = st.status; amounts = ms; list = st.list; workers = ws; held = h; highest = g; turns = st.turns }

-- a thread that goes on: its next action is neither an end nor a fork, and a join only of an ended child
pub record Goes (T : Table) (st : State) (t a : ℕ) : Type 0 where
  pub below : t < T.threads
  pub status : status_of st t ≡ held
  pub next : next_of st t ≡ a
  pub no_end : is end (kind T a) ≡ false
  pub no_fork : is fork (kind T a) ≡ false
  pub joined : kind T a ≡ join → status_of st (T.argument a) ≡ ended

-- actions i and j are in serial order where the next ones of threads x and y were
abbrev Follows : Table → State → ℕ → ℕ → ℕ → ℕ → Type 0
Follows T st x i y j = x < T.threads → y < T.threads → number_of T (next_of st x) < number_of T (next_of st y) → number_of T i < number_of T j

module _ (T : Table) (l : Lawful T) (p K : ℕ) (st : State) (f : Facts T p K st) (t a : ℕ) (o : Goes T st t a) (ws : List Worker) (ms : List ℕ) (h g : ℕ) where
  next_fits : t < length st.next
  next_fits = omega (arith, f.next_size, l.few_threads, o.below)

  inside : a < T.actions
  inside = rw o.next at (next_below T l p K st f t o.below)

  own : owner T a ≡ t
  own = rw o.next at (owner_of_next T l p K st f t o.below)

  -- a thread's next action, which is another than a where the thread is another than t
  each : (P : ℕ → ℕ → Type 0) → P t (suc a) → ((u : ℕ) → (u ≡ t → ⊥) → P u (next_of st u)) → (u : ℕ) → P u (next_of (gone_on t ws ms h g st) u)
  each P b q = set_each st.next t (suc (next_of st t)) 0 P next_fits (rw o.next b) q

  -- the same actions are done as before, and action a
  does : Does T a st (gone_on t ws ms h g st)
  does =
      over_does T st (gone_on t ws ms h g st) t a own o.next (λ e. omega (arith, o.status)) (λ u. refl)
      (get_or-set_same st.next t (suc (next_of st t)) 0 next_fits ∙ rw o.next) (λ u d. get_or-set_other st.next t u (suc (next_of st t)) 0 d)

  -- no fork is done
  gone_fork : (u : ℕ) → 0 < u → u < T.threads → is_done T (gone_on t ws ms h g st) (fork_below T T.actions u) ≡ is_done T st (fork_below T T.actions u)
  gone_fork u i j = does_fork T l p K st f a inside (gone_on t ws ms h g st) does u i j (λ k e. no_way (cc (o.no_fork, same_is fork (kind T a) k)))

  not_last : a ≡ end_of T t → ⊥
  not_last e = no_way (cc (o.no_end, same_is end (kind T a) (rw e (end_kind T l.contents l.bodies t o.below))))

  -- the number of t's next action rises by one, and no other thread's next action has that number
  number_after : number_of T (suc a) ≡ suc (number_of T (next_of st t))
  number_after = rw o.next (number_step T l a inside o.no_end o.no_fork)

  number_apart : (u : ℕ) → (u ≡ t → ⊥) → u < T.threads → number_of T (suc a) ≡ number_of T (next_of st u) → ⊥
  number_apart u d i e =
      let q : suc a ≡ next_of st u = number_once T l (suc a) (next_of st u) (next_within T l.contents l.bodies a inside o.no_end) (next_below T l p K st f u i) e in
      d (cc (owner_of_next T l p K st f u i, next_owner T l.contents l.bodies a inside o.no_end, own))

  -- the list stays in serial order
  gone_follows : (x y : ℕ) → Follows T st x (next_of (gone_on t ws ms h g st) x) y (next_of (gone_on t ws ms h g st) y)
  gone_follows x y =
      each (λ x i. Follows T st x i y (next_of (gone_on t ws ms h g st) y))
      (each (λ y j. Follows T st t (suc a) y j)
      (λ i j q. absurd (omega arith))
      (λ y d i j q. omega (arith, number_after, number_apart y d j)) y)
      (λ x d. each (λ y j. Follows T st x (next_of st x) y j)
      (λ i j q. omega (arith, number_after))
      (λ y n i j q. q) y)
      x

  gone_serial : Ascends (λ u. number_of T (next_of (gone_on t ws ms h g st) u)) st.list
  gone_serial = ascends_along _ _ st.list (λ x y m n. gone_follows x y (f.list_below x m) (f.list_below y n)) f.serial

  pub gone_facts : Holding T p K st.status ws → Shared T (advanced t st).next st.status ms → h + free_of T a ≡ st.held + alloc_of T a → h ≤ g → Facts T p K (gone_on t ws ms h g st)
  gone_facts k s e b =
      record {
        next_size = rw (length-set st.next t (suc (next_of st t))) f.next_size;
        status_size = f.status_size;
        next_low = each (λ u y. u < T.threads → T.first u ≤ y) (λ i. omega (arith, f.next_low t i, o.next)) (λ u d. f.next_low u);
        next_high = each (λ u y. u < T.threads → y ≤ end_of T u) (λ i. omega (arith, f.next_high t i, o.next, not_last)) (λ u d. f.next_high u);
        ordered =
            does_ordered T l p K st f a inside (gone_on t ws ms h g st) does
            (rw o.next at (next_depends T l p K st f t o.below (λ s. omega (arith, o.status)) (rw o.next o.joined)));
        status_known = f.status_known;
        root_born = f.root_born;
        unborn_fork = λ u i j s. cc (gone_fork u i j, f.unborn_fork u i j s);
        fork_unborn = λ u i j s. f.fork_unborn u i j (cc (gone_fork u i j));
        ended_last = each (λ u y. u < T.threads → status_of st u ≡ ended → y ≡ end_of T u) (λ i s. no_way (cc o.status)) (λ u d. f.ended_last u);
        list_below = f.list_below;
        list_born = f.list_born;
        list_unended = f.list_unended;
        live_listed = f.live_listed;
        serial = gone_serial;
        wait_join = each (λ u y. u < T.threads → status_of st u ≡ waiting → kind T y ≡ join) (λ i s. no_way (cc o.status)) (λ u d. f.wait_join u);
        wait_open =
            each (λ u y. u < T.threads → status_of st u ≡ waiting → status_of st (T.argument y) ≡ ended → ⊥) (λ i s. no_way (cc o.status)) (λ u d. f.wait_open u);
        holding = k;
        amount = does_amount T l p K st f a inside (gone_on t ws ms h g st) does e;
        above = b;
        shared = s;
        unused_status = f.unused_status;
        unused_next = each (λ u y. T.threads ≤ u → u < 1024 → y ≡ 0) (λ i j. absurd (omega (arith, o.below))) (λ u d. f.unused_next u);
      }

-- ---- the amounts of the threads, by the kind of the action

module _ (T : Table) (l : Lawful T) (p K : ℕ) (st : State) (f : Facts T p K st) (t a : ℕ) (o : Goes T st t a) where
  live : status_of st t ≡ ended → ⊥
  live e = omega (arith, o.status)

  goes : Does T a st (advanced t st)
  goes = does T l p K st f t a o st.workers st.amounts st.held st.highest

  progressed : Progressed T t st (advanced t st)
  progressed =
      over_progressed T p K st (advanced t st) f t a o.below o.next live (λ u. refl)
      (get_or-set_same st.next t (suc (next_of st t)) 0 (omega (arith, f.next_size, l.few_threads, o.below)) ∙ rw o.next)
      (λ u d. get_or-set_other st.next t u (suc (next_of st t)) 0 d)

  pub work_shared : alloc_of T a ≡ 0 → free_of T a ≡ 0 → is join (kind T a) ≡ false → Shared T (advanced t st).next st.status st.amounts
  work_shared = shared_same T l p K st f t a o.below o.next live (advanced t st) goes progressed

  pub alloc_shared : kind T a ≡ alloc → Shared T (advanced t st).next st.status (set st.amounts t (amount_of st t + T.argument a))
  alloc_shared = shared_alloc T l p K st f t a o.below o.next live (advanced t st) goes progressed

  pub free_shared : kind T a ≡ free → Shared T (advanced t st).next st.status (set st.amounts t (amount_of st t - T.argument a))
  free_shared = shared_free T l p K st f t a o.below o.next live (advanced t st) goes progressed

  pub join_shared : kind T a ≡ join
      → Shared T (advanced t st).next st.status (set (set st.amounts t (amount_of st t + amount_of st (T.argument a))) (T.argument a) 0)
  join_shared k = shared_join T l p K st f t a o.below o.next live (advanced t st) goes progressed k (o.joined k)
