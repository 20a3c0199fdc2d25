-- In a state that keeps what DFDeques keeps no thread stands twice in the lines or among the bottoms.
use mathlib.Core.Path.{◌≡◌, refl, sym, subst, ◌∙◌}
use Prim.Native.Nat.{ℕ, ◌+◌, ◌≤◌, ◌<◌}
use mathlib.Core.List.{List, Memᴰ}
use mathlib.Core.Bool.{Bool, true, false}
use mathlib.Core.Logic.{◌⊎◌, inl, inr}
use native.Mathlib.Omega.{arith}
use native.Mathlib.Decide.{dec_lt, dec_le}
use lib.Dec.{eqb}
use borrow.Author.Tests.{eqb-true}
use Rattle.table.specs.Sum.{pick}
use Rattle.table.specs.Format.{Table}
use Rattle.schedule.specs.Memory.{count_in}
use Rattle.schedule.specs.Machine.{State, ready, held, status_of, worker_of}
use Rattle.order.proofs.Lawful.{Lawful}
use Rattle.order.proofs.Lists.{Below}
use Rattle.schedule.proofs.Sound.Facts.{Facts}
use Rattle.schedule.proofs.Linked.Once.{Once}
use Rattle.deques.specs.Deques.{Deque, Deques}
use Rattle.deques.specs.Lines.{lines_of, bottoms_of, thread_of}
use Rattle.deques.specs.Partition.{occurs, owned_by}
use Rattle.deques.proofs.Kept.{pick_one}
use Rattle.deques.proofs.DequeTurns.{Kept, with_serial, serial_facts}
use Rattle.deques.proofs.Counts.{counted_in, in_counted, counts_once, Stands, stands, held_among, lines_count, Holder, held_some, held_few, bottoms_count}

module _ (T : Table) (l : Lawful T) (p K : ℕ) (D : Deques) (k : Kept T p K D) where
  abbrev st : State
  st = D.state

  abbrev ds : List Deque
  ds = D.deques

  abbrev hold : ℕ → ℕ
  hold = thread_of D.state.workers

  known : Facts T p K (with_serial T l D.state)
  known = serial_facts T l p K D.state k.common

  pub in_deque : (v : ℕ) → 1 ≤ occurs v D.deques → (v < T.threads) × (status_of D.state v ≡ ready)
  in_deque v i = (low (dec_lt v T.threads), is_ready_lem (eqb (status_of D.state v) ready) refl)
    where
      low : Dec (v < T.threads) → v < T.threads
      low (yes j) = j
      low (no j) = absurd (omega (arith, i, k.placed.none v (omega (arith, j))))

      is_ready_lem : (q : Bool) → eqb (status_of D.state v) ready ≡ q → status_of D.state v ≡ ready
      is_ready_lem true e = eqb-true (status_of D.state v) ready e
      is_ready_lem false e = absurd (let z : occurs v D.deques ≡ pick {A = ℕ} false 1 0 = rw e at (k.placed.once v (low (dec_lt v T.threads))) in omega (arith, z, i))

  pub is_owner : (o : ℕ) → o < 16 → 1 ≤ owned_by o D.deques → (worker_of D.state o).holds ≡ true
  is_owner o h i = go (worker_of D.state o).holds refl
    where
      go : (q : Bool) → (worker_of D.state o).holds ≡ q → q ≡ true
      go true e = refl
      go false e = absurd (let z : owned_by o D.deques ≡ pick {A = ℕ} false 1 0 = rw e at (k.placed.owned o h) in omega (arith, z, i))

  -- a thread in a line is ready or held
  pub standing : (v : ℕ) → Memᴰ v (lines_of (thread_of D.state.workers) D.deques) → (v < T.threads) × ((status_of D.state v ≡ ready) ⊎ (status_of D.state v ≡ held))
  standing v m = go (stands (thread_of D.state.workers) v D.deques m)
    where
      go : Stands (thread_of D.state.workers) v D.deques → (v < T.threads) × ((status_of D.state v ≡ ready) ⊎ (status_of D.state v ≡ held))
      go (inl i) = ((in_deque v i).0, inl (in_deque v i).1)
      go (inr (o, h, i, e)) =
          let q : (worker_of D.state o).holds ≡ true = is_owner o h i in
          (subst (λ (z : ℕ). z < T.threads) e (known.holding.holder_thread o h q), inr (subst (λ (z : ℕ). status_of D.state z ≡ held) e (known.holding.holder_held o h q)))

  -- an owner's thread is held
  owner_held : (t : ℕ) → Holder hold t ds → status_of st t ≡ held
  owner_held t (v, i, e, n) = subst (λ (z : ℕ). status_of st z ≡ held) e (known.holding.holder_held v i (is_owner v i n))

  occurs_few : (t : ℕ) → occurs t ds ≤ 1
  occurs_few t = go (dec_lt t T.threads)
    where
      go : Dec (t < T.threads) → occurs t ds ≤ 1
      go (yes h) = omega (arith, k.placed.once t h, pick_one (eqb (status_of st t) ready))
      go (no h) = omega (arith, k.placed.none t (omega arith))

  lines_few : (t : ℕ) → count_in t (lines_of hold ds) ≤ 1
  lines_few t = rw (lines_count hold t ds) (go (held_some hold t ds))
    where
      go : (held_among hold t ds ≡ 0) ⊎ Holder hold t ds → held_among hold t ds + occurs t ds ≤ 1
      go (inl e) = omega (arith, occurs_few t)
      go (inr (v, i, e, n)) = at (dec_le 1 (occurs t ds))
        where
          few : held_among hold t ds ≤ owned_by v ds
          few = held_few hold t v ds (λ u j q m.
              known.holding.holder_once u v j i (is_owner u j m) (is_owner v i n) (q ∙ sym e))

          at : Dec (1 ≤ occurs t ds) → held_among hold t ds + occurs t ds ≤ 1
          at (yes j) = absurd (omega (arith, (in_deque t j).1, owner_held t (v, i, e, n)))
          at (no j) = omega (arith, few, k.placed.owned v i, pick_one (worker_of st v).holds)

  pub lines_once : Once (lines_of hold ds)
  lines_once = counts_once (lines_of hold ds) lines_few

  pub lines_small : Below 1024 (lines_of hold ds)
  lines_small t m = omega (arith, (standing t m).0, l.few_threads)

  -- a thread that is neither ready nor held
  pub lines_out : (t : ℕ) → (status_of st t ≡ ready → ⊥) → (status_of st t ≡ held → ⊥) → Memᴰ t (lines_of hold ds) → ⊥
  lines_out t a b m = go (standing t m).1
    where
      go : (status_of st t ≡ ready) ⊎ (status_of st t ≡ held) → ⊥
      go (inl e) = a e
      go (inr e) = b e

  bottoms_few : (t : ℕ) → count_in t (bottoms_of hold ds) ≤ 1
  bottoms_few t = omega (arith, lines_few t, bottoms_count hold t ds k.placed.in_use)

  pub bottoms_once : Once (bottoms_of hold ds)
  bottoms_once = counts_once (bottoms_of hold ds) bottoms_few

  pub bottom_in : (t : ℕ) → Memᴰ t (bottoms_of hold ds) → Memᴰ t (lines_of hold ds)
  bottom_in t m = in_counted t (lines_of hold ds) (omega (arith, counted_in t (bottoms_of hold ds) m, bottoms_count hold t ds k.placed.in_use))

  pub bottoms_small : Below 1024 (bottoms_of hold ds)
  bottoms_small t m = lines_small t (bottom_in t m)
