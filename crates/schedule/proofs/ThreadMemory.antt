-- Who holds the memory (change request N9): of every sound record the amounts of the threads come to memory held, and each is its thread's balance so far, or 0 once it is joined.
use mathlib.Core.Path.{◌≡◌, sym, ◌∙◌}
use Prim.Native.Nat.{ℕ, suc, ◌+◌, ◌-◌, ◌≤◌, ◌<◌}
use native.Mathlib.Decide.{dec_lt}
use native.Mathlib.Omega.{arith}
use mathlib.Core.Bool.{true, false, ◌&&◌}
use mathlib.Core.List.{List, Memᴰ}
use lib.ListN.{get_or}
use lib.Dec.{ltb, eqb}
use lib.IntN.{pos, sub_ℕ}
use borrow.Author.Tests.{lt-ltb, le-ltb, eqb-true}
use Rattle.table.specs.Sum.{pick, sum_to}
use Rattle.table.specs.Format.{is, Table, kind}
use Rattle.table.specs.declared.kinds.Kind.TheVariants.{Free as free, Join as join}
use Rattle.table.specs.Checks.{alloc_of, free_of, whole, balance}
use Rattle.table.proofs.Sums.{sum_to_cong}
use Rattle.table.proofs.Tests.{and_both, is_true}
use Rattle.table.proofs.Bodies.{owner_at, join_above}
use Rattle.table.proofs.Nesting.{any_below_true}
use Rattle.table.proofs.Amounts.{whole_is}
use Rattle.table.proofs.Peaks.{part_held}
use Rattle.schedule.specs.declared.Run.{Run}
use Rattle.schedule.specs.Machine.{State, unborn, ended, next_of, status_of, amount_of}
use Rattle.schedule.specs.Record.{state_of, table_in}
use Rattle.schedule.specs.Begin.{start_state}
use Rattle.schedule.specs.Sound.{Steady, joined_in, share_in, balance_to, is_done, progress, is_joined, share}
use Rattle.schedule.specs.Memory.{row_state, row_memory}
use Rattle.order.proofs.Lawful.{Lawful}
use Rattle.order.proofs.Words.{never_true}
use Rattle.order.proofs.Totals.{sum_to_front}
use Rattle.schedule.proofs.Sound.Facts.{Facts}
use Rattle.schedule.proofs.Preservation.Starts.{start_facts}
use Rattle.schedule.proofs.Sound.Done.{unborn_first}
use Rattle.schedule.proofs.Sound.Shares.{progress_ended, progress_next, progress_within, joined_ended, held_shares, share_held, free_share}
use Rattle.schedule.proofs.Runs.Rows.{row_facts, row_held}
use Rattle.schedule.proofs.Stores.{steady_lawful, steady_facts}

-- a difference that does not stop at 0
difference : (x y : ℕ) → y ≤ x → sub_ℕ x y ≡ pos (x - y)
difference x y h = rw (le-ltb x y h)

-- no action joins the root: a join's argument is above its own thread
unjoined_root : (T : Table) → Lawful T → (st : State) → is_joined T st 0 ≡ false
unfolding joined_in
unjoined_root T l st = never_true (is_joined T st 0) none
  where
    none : is_joined T st 0 ≡ true → ⊥
    none j =
        let (a, h, x) = any_below_true (λ a. is join (kind T a) && (eqb (T.argument a) 0 && is_done T st a)) T.actions j in
        let (k, y) = and_both (is join (kind T a)) (eqb (T.argument a) 0 && is_done T st a) x in
        let (e, d) = and_both (eqb (T.argument a) 0) (is_done T st a) y in
        omega (arith, join_above T l.contents l.bodies a h (is_true join (kind T a) k), eqb-true (T.argument a) 0 e)

-- ---- in a sound state

module _ (T : Table) (l : Lawful T) (p K : ℕ) (st : State) (f : Facts T p K st) where
  -- an amount is the thread's share, and 0 from n on
  amount_share : (t : ℕ) → amount_of st t ≡ pick (ltb t T.threads) (share T st t) 0
  amount_share t = go (dec_lt t T.threads)
    where
      go : Dec (t < T.threads) → amount_of st t ≡ pick (ltb t T.threads) (share T st t) 0
      go (yes h) = rw (lt-ltb t T.threads h) (f.shared.each t h)
      go (no h) = rw (le-ltb t T.threads (omega (arith, h))) (f.shared.rest t (omega (arith, h)))

  pub amounts_total : sum_to (amount_of st) 1024 ≡ st.held
  amounts_total =
      sum_to_cong (amount_of st) (λ t. pick (ltb t T.threads) (share T st t) 0) 1024 (λ t h. amount_share t)
      ∙ sum_to_front (share T st) T.threads 1024 l.few_threads
      ∙ sym (held_shares T l p K st f)

  pub amount_held : (t : ℕ) → amount_of st t ≤ st.held
  amount_held t = go (dec_lt t T.threads)
    where
      go : Dec (t < T.threads) → amount_of st t ≤ st.held
      go (yes h) = rw (f.shared.each t h) (share_held T l p K st f t h)
      go (no h) = rw (f.shared.rest t (omega (arith, h))) (omega arith)

  pub free_amount : (t : ℕ) → t < T.threads → (status_of st t ≡ ended → ⊥) → kind T (next_of st t) ≡ free → T.argument (next_of st t) ≤ amount_of st t
  free_amount t h e k = rw (f.shared.each t h) (free_share T l p K st f t h e k)

  -- of a thread that is not joined, by how many of its actions are done
  unjoined_amount : (t k : ℕ) → t < T.threads → is_joined T st t ≡ false → progress T st t ≡ k → amount_of st t ≡ balance_to T t k
  unfolding share_in
  unjoined_amount t k h j e = f.shared.each t h ∙ rw (j, e)

  joined_amount : (t : ℕ) → t < T.threads → is_joined T st t ≡ true → amount_of st t ≡ 0
  unfolding share_in
  joined_amount t h j = f.shared.each t h ∙ rw j

  -- a thread that has not ended is not joined
  live_unjoined : (t : ℕ) → t < T.threads → (status_of st t ≡ ended → ⊥) → is_joined T st t ≡ false
  live_unjoined t h n = never_true (is_joined T st t) (λ j. n (joined_ended T l p K st f t h j))

  unborn_amount : (t : ℕ) → t < T.threads → status_of st t ≡ unborn → amount_of st t ≡ 0
  unfolding sum_to
  unborn_amount t h e =
      let n : status_of st t ≡ ended → ⊥ = λ q. omega arith in
      unjoined_amount t 0 h (live_unjoined t h n) (omega (arith, progress_next T l p K st f t h n, unborn_first T l p K st f t h e))

  -- "A thread's balance after an action": after the last one that is done
  balance_amount : (t k : ℕ) → t < T.threads → is_joined T st t ≡ false → progress T st t ≡ suc k → balance T (T.first t + k) ≡ pos (amount_of st t)
  unfolding balance
  balance_amount t k h j e =
      let b : suc k ≤ T.count t = omega (arith, progress_within T l p K st f t h) in
      let m : suc (T.first t + k) - T.first t ≡ suc k = omega arith in
      rw (owner_at T l.contents t k h b, m, unjoined_amount t (suc k) h j e)
      (difference _ _ (part_held T l.contents l.bodies l.nesting l.balances t (suc k) h b))

  final_amount : (t : ℕ) → t < T.threads → is_joined T st t ≡ false → status_of st t ≡ ended → amount_of st t ≡ whole T (alloc_of T) t - whole T (free_of T) t
  final_amount t h j e =
      rw (whole_is T l.contents l.bodies (alloc_of T) t h, whole_is T l.contents l.bodies (free_of T) t h)
      (unjoined_amount t (T.count t) h j (progress_ended T l p K st f t e))

-- ---- of a sound record

module _ (r : Run) (h : Steady r) where
  -- "The total over all threads equals the memory held"; held is "allocs done less frees done", which the record's clause `held_right_lem` says with no word of threads
  pub total_held : sum_to (λ t. get_or r.amounts t 0) 1024 ≡ r.held
  total_held = amounts_total (table_in r) (steady_lawful r h) r.workers r.quota (state_of r) (steady_facts r h)

  -- so no thread holds more than is held
  pub amount_within : (t : ℕ) → get_or r.amounts t 0 ≤ r.held
  amount_within = amount_held (table_in r) (steady_lawful r h) r.workers r.quota (state_of r) (steady_facts r h)

  -- "the thread's balance so far": after the last of its actions done, its k-th from 0
  pub amount_balance : (t k : ℕ) → t < (table_in r).threads → is_joined (table_in r) (state_of r) t ≡ false → progress (table_in r) (state_of r) t ≡ suc k
      → balance (table_in r) ((table_in r).first t + k) ≡ pos (get_or r.amounts t 0)
  amount_balance = balance_amount (table_in r) (steady_lawful r h) r.workers r.quota (state_of r) (steady_facts r h)

  -- ".. or from 0 once it is joined"
  pub joined_nothing : (t : ℕ) → t < (table_in r).threads → is_joined (table_in r) (state_of r) t ≡ true → get_or r.amounts t 0 ≡ 0
  joined_nothing = joined_amount (table_in r) (steady_lawful r h) r.workers r.quota (state_of r) (steady_facts r h)

  pub unborn_nothing : (t : ℕ) → t < (table_in r).threads → status_of (state_of r) t ≡ unborn → get_or r.amounts t 0 ≡ 0
  unborn_nothing = unborn_amount (table_in r) (steady_lawful r h) r.workers r.quota (state_of r) (steady_facts r h)

  pub unused_nothing : (t : ℕ) → (table_in r).threads ≤ t → get_or r.amounts t 0 ≡ 0
  unused_nothing = (steady_facts r h).shared.rest

  -- an ended thread keeps its final balance until it is joined, the root for good
  pub ended_keeps : (t : ℕ) → t < (table_in r).threads → is_joined (table_in r) (state_of r) t ≡ false → status_of (state_of r) t ≡ ended
      → get_or r.amounts t 0 ≡ whole (table_in r) (alloc_of (table_in r)) t - whole (table_in r) (free_of (table_in r)) t
  ended_keeps = final_amount (table_in r) (steady_lawful r h) r.workers r.quota (state_of r) (steady_facts r h)

  pub root_keeps : status_of (state_of r) 0 ≡ ended → get_or r.amounts 0 0 ≡ whole (table_in r) (alloc_of (table_in r)) 0 - whole (table_in r) (free_of (table_in r)) 0
  root_keeps = ended_keeps 0 (steady_lawful r h).some_thread (unjoined_root (table_in r) (steady_lawful r h) (state_of r))

-- ---- of a row of turns

-- after any row of turns from the beginning the amounts come to the row's memory, which is read off its replies alone
pub row_total : (T : Table) → Lawful T → (p K : ℕ) → p ≤ 16 → (row : List ℕ) → ((w : ℕ) → Memᴰ w row → w < p)
    → sum_to (amount_of (row_state T K (start_state T) row)) 1024 ≡ row_memory T K row
row_total T l p K few row h =
    let f : Facts T p K (start_state T) = start_facts T l p K in
    amounts_total T l p K (row_state T K (start_state T) row) (row_facts T l p K few (start_state T) f row h) ∙ row_held T l p K few row h
