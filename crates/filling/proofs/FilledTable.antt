-- The filled-out table, as bytes: it passes every check (fill-rules), its counts (fill-counts) and size (fill-size, room-enough), when 44 is silent (room-exactly), and that nothing big leaves the table as given (in_place).
use Rattle.std.specs.Prelude.{Ok}
use Prim.Native.Nat.{ℕ, zero, suc, ◌+◌, ◌*◌, ◌≤◌, ◌<◌}
use native.Mathlib.Omega.{arith}
use mathlib.Core.Path.{◌≡◌, refl, ◌∙◌}
use mathlib.Core.List.{List, flatten}
use mathlib.Core.Bool.{Bool, true, false, ◌&&◌, ◌||◌}
use mathlib.Core.Logic.{◌↔◌}
use lib.Dec.{eqb, ltb}
use borrow.Author.Tests.{ltb-true, ltb-false, le-ltb, eq-eqb, eqb-true, not-false}
use lib.ListN.{length}
use Rattle.table.specs.Sum.{pick, sum_to, sum_over, any_below}
use Rattle.table.specs.Format.{Table, table_of, threads_of, actions_of}
use Rattle.table.specs.Pass.{try_pass}
use Rattle.table.specs.Checks.{alloc_of}
use Rattle.table.specs.Rules.{HeadRules, Rules}
use Rattle.table.proofs.Sums.{sum_to_zero, sum_to_part}
use Rattle.table.proofs.Tests.{no_way, or_neither}
use Rattle.table.proofs.Nesting.{any_below_true, some_any_below}
use Rattle.table.proofs.Passes.{try_pass_from_0}
use Rattle.order.proofs.Lawful.{Lawful, lawful}
use Rattle.table.specs.Written.{Action, written}
use Rattle.filling.specs.Filled.{big, new_threads, new_actions, filled_bodies, filled_out, threads_to, actions_to, size_of_table, overfull, fill_pass}
use Rattle.table.proofs.ReadBack.{read_back, bytes_length, threads_back, actions_back, argument_short}
use Rattle.table.specs.Serial.{serial_order}
use Rattle.filling.proofs.Bodies.{short_at}
use Rattle.filling.proofs.Roots.{all_serial}
use Rattle.filling.proofs.OldThreads.{filled_threads, filled_actions, filled_good}
use Rattle.filling.proofs.Fills.{Fills, c, b, n, f}
use Rattle.filling.proofs.Balances.{filled_balances}

-- ---- 44

pub none_new : (T : Table) (K a : ℕ) → big T K a ≡ false → (new_threads T K a ≡ 0) × (new_actions T K a ≡ 0)
unfolding new_threads new_actions
none_new T K a e = (rw e, rw e)

-- the filled-out table is within the limits
pub record Fits (T : Table) (K : ℕ) : Type 0 where
  pub threads : threads_to T K T.actions ≤ 1024
  pub actions : actions_to T K T.actions ≤ 8192

module _ (T : Table) (K : ℕ) where
  abbrev Fit : ℕ → Type 0
  Fit k = (threads_to T K k ≤ 1024) × (actions_to T K k ≤ 8192)

  fits_at_lem : (a : ℕ) → overfull T K a ≡ false → big T K a ≡ true → Fit (suc a)
  unfolding overfull
  fits_at_lem a o e =
      let n : ℕ = threads_to T K (suc a) in
      let m : ℕ = actions_to T K (suc a) in
      let o' : (ltb 1024 n || ltb 8192 m) ≡ false = rw e at o in
      let (p, q) = or_neither (ltb 1024 n) (ltb 8192 m) o' in
      (ltb-false 1024 n p, ltb-false 8192 m q)

  -- as long as 44 does not apply
  pub fit_to : (k : ℕ) → T.threads ≤ 1024 → T.actions ≤ 8192 → ((a : ℕ) → a < k → overfull T K a ≡ false) → Fit k
  unfolding sum_to
  fit_to zero n m h = (omega arith, omega arith)
  fit_to (suc k) n m h = go (big T K k) refl (fit_to k n m (λ a i. h a (omega arith)))
    where
      go : (q : Bool) → big T K k ≡ q → Fit k → Fit (suc k)
      go true e ih = fits_at_lem k (h k (omega arith)) e
      go false e (p, q) = let (y, z) = none_new T K k e in (omega arith, omega arith)

  silent_fits : T.threads ≤ 1024 → T.actions ≤ 8192 → ((a : ℕ) → a < T.actions → overfull T K a ≡ false) → Fits T K
  silent_fits n m h = let (p, q) = fit_to T.actions n m h in record { threads = p; actions = q }

  fits_silent : Fits T K → (a : ℕ) → a < T.actions → overfull T K a ≡ false
  unfolding overfull
  fits_silent r a h = go (big T K a)
    where
      n : ℕ
      n = threads_to T K (suc a)

      m : ℕ
      m = actions_to T K (suc a)

      n_low : n ≤ threads_to T K T.actions
      n_low = omega (arith, sum_to_part (new_threads T K) (suc a) T.actions h)

      m_low : m ≤ actions_to T K T.actions
      m_low = omega (arith, sum_to_part (new_actions T K) (suc a) T.actions h)

      go : (q : Bool) → (q && (ltb 1024 n || ltb 8192 m)) ≡ false
      go true = rw (le-ltb 1024 n (omega (arith, n_low, r.threads)), le-ltb 8192 m (omega (arith, m_low, r.actions)))
      go false = refl

  -- 44 is silent exactly where the filled-out table is within the limits
  pub room_exactly : T.threads ≤ 1024 → T.actions ≤ 8192 → (try_pass (fill_pass T K) ≡ Ok tt) ↔ Fits T K
  room_exactly n m =
      let z = try_pass_from_0 T.actions (fill_pass T K).checks in
      ((λ e. silent_fits n m (z.0 e).0), (λ r. z.1 (fits_silent r, tt)))

-- ---- the table

pub any_false : (g : ℕ → Bool) (k : ℕ) → any_below g k ≡ false → (a : ℕ) → a < k → g a ≡ false
any_false g k e a h = go (g a) refl
  where
    go : (q : Bool) → g a ≡ q → q ≡ false
    go true p = no_way (cc (some_any_below g k a h p))
    go false p = refl

module _ (s : List ℕ) (K : ℕ) where
  abbrev T : Table
  T = table_of s

  -- no alloc above K: the table as given
  pub in_place : ((a : ℕ) → a < T.actions → alloc_of T a ≤ K) → filled_out s K ≡ s
  unfolding filled_out big
  in_place h = go (any_below (big T K) T.actions) refl
    where
      go : (q : Bool) → any_below (big T K) T.actions ≡ q → pick q (written (filled_bodies T K)) s ≡ s
      go true e =
          let (a, w, p) = any_below_true (big T K) T.actions e in
          absurd (omega (arith, ltb-true K (alloc_of T a) p, h a w))
      go false e = refl

  module _ (rules : Rules s) (some : 1 ≤ K) where
    l : Lawful T
    l = lawful s rules

    abbrev bs : List (List Action)
    bs = filled_bodies T K

    -- n + Σ (2d - 1) threads, m + Σ (7d - 3) actions
    pub fill_counts : ((table_of (filled_out s K)).threads ≡ threads_to T K T.actions) × ((table_of (filled_out s K)).actions ≡ actions_to T K T.actions)
    unfolding filled_out
    fill_counts = go (any_below (big T K) T.actions) refl
      where
        go : (q : Bool) → any_below (big T K) T.actions ≡ q
            → ((table_of (pick q (written bs) s)).threads ≡ threads_to T K T.actions) × ((table_of (pick q (written bs) s)).actions ≡ actions_to T K T.actions)
        go true e = (threads_back bs ∙ filled_threads T l K some, actions_back bs ∙ filled_actions T l K some)
        go false e = (
          omega (arith, sum_to_zero (new_threads T K) T.actions (λ a h. (none_new T K a (any_false (big T K) T.actions e a h)).0)),
          omega (arith, sum_to_zero (new_actions T K) T.actions (λ a h. (none_new T K a (any_false (big T K) T.actions e a h)).1)),
        )

    -- 4 bytes a head, a thread, an action, whether it is filled out or runs as it is
    pub fill_size : length (filled_out s K) ≡ size_of_table (threads_to T K T.actions) (actions_to T K T.actions)
    unfolding filled_out table_of
    fill_size = go (any_below (big T K) T.actions) refl
      where
        go : (q : Bool) → any_below (big T K) T.actions ≡ q → length (pick q (written bs) s) ≡ size_of_table (threads_to T K T.actions) (actions_to T K T.actions)
        go true e = omega (arith, bytes_length bs, filled_threads T l K some, filled_actions T l K some)
        go false e =
            omega (
              arith,
              eqb-true (length s) (4 + 4 * threads_of s + 4 * actions_of s) (not-false (eqb (length s) (4 + 4 * threads_of s + 4 * actions_of s)) rules.head.sized),
              sum_to_zero (new_threads T K) T.actions (λ a h. (none_new T K a (any_false (big T K) T.actions e a h)).0),
              sum_to_zero (new_actions T K) T.actions (λ a h. (none_new T K a (any_false (big T K) T.actions e a h)).1),
            )

    module _ (fits : Fits T K) where
      -- room for the largest table is room enough
      pub room_enough : length (filled_out s K) ≤ 36868
      room_enough = omega (arith, fill_size, fits.threads, fits.actions)

      -- where something is big
      pub fills : Fills T K (table_of (written bs))
      fills =
          let e = filled_threads T l K some in
          let n : ℕ = length bs in
          let small : n ≤ 16777216 = omega (arith, e, fits.threads) in
          let room' : T.threads + sum_over (new_threads T K) (serial_order T) ≤ n = omega (arith, e, all_serial T l (new_threads T K)) in
          let short : (a : ℕ) → a < T.actions → T.argument a < 16777216 = λ a h. argument_short s a in
          record { lawful = l; some = some; short = short; reads = read_back bs (short_at n bs (filled_good T l K some n short room' small)); small = small }

      head : HeadRules (written bs)
      unfolding table_of
      head =
          let U : Table = table_of (written bs) in
          let n : threads_of (written bs) ≡ length bs = threads_back bs in
          let m : actions_of (written bs) ≡ length (flatten bs) = actions_back bs in
          let p = filled_threads T l K some in
          let q = filled_actions T l K some in
          let lo : 0 < T.threads = l.some_thread in
          let z : length (written bs) ≡ 4 + 4 * threads_of (written bs) + 4 * actions_of (written bs) = omega (arith, bytes_length bs) in
          record {
            long = le-ltb (length (written bs)) 4 (omega (arith, bytes_length bs));
            ranged =
                rw (
                  n,
                  m,
                  le-ltb (length bs) 1 (omega arith),
                  le-ltb 1024 (length bs) (omega (arith, fits.threads)),
                  le-ltb (length (flatten bs)) 1 (omega (arith, some_action)),
                  le-ltb 8192 (length (flatten bs)) (omega (arith, fits.actions)),
                );
            sized = rw (eq-eqb (length (written bs)) (4 + 4 * threads_of (written bs) + 4 * actions_of (written bs)) z);
          }
        where
          some_action : 0 < T.actions
          some_action = omega (arith, Rattle.table.proofs.Bodies.first_within T l.contents 0 l.some_thread)

      filled_rules : Rules (written bs)
      filled_rules =
          let U : Table = table_of (written bs) in
          record {
            head = head;
            contents = c T K U fills;
            bodies = b T K U fills;
            nesting = n T K U fills;
            forking = f T K U fills;
            balances = filled_balances T K U fills;
          }

      -- the filled-out table passes every check
      pub fill_rules : Rules (filled_out s K)
      unfolding filled_out
      fill_rules = go (any_below (big T K) T.actions)
        where
          go : (q : Bool) → Rules (pick q (written bs) s)
          go true = filled_rules
          go false = rules
