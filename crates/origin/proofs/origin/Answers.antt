-- `origin::origin` meets its contract.
use mathlib.Core.Path.{◌≡◌, sym, ◌∙◌, ap}
use Prim.Native.Nat.{ℕ, ◌+◌, ◌-◌, ◌*◌, ◌≤◌, ◌<◌}
use mathlib.Core.List.{List}
use mathlib.Core.Bool.{Bool, true, false}
use native.Mathlib.Numerals.{add-one}
use native.Mathlib.Omega.{arith}
use lib.Dec.{ltb}
use borrow.Author.Tests.{ltb-false, le-leb, lt-leb}
use Rattle.table.specs.Sum.{sum_to, Read}
use Rattle.table.specs.Format.{threads_of, actions_of, Table, table_of}
use Rattle.table.specs.Checks.{outside}
use Rattle.table.proofs.Tests.{or_neither}
use Rattle.filling.specs.Filled.{new_threads}
use Rattle.origin.specs.Origin.{given_threads, bigs_to, put_in, origin_in}
use Rattle.origin.proofs.origin.Goals as goal

in_range : (K : ℕ) → outside 1 16777215 K ≡ false → (1 ≤ K) × (K < 16777216)
in_range K e =
    let (p, q) = or_neither (ltb K 1) (ltb 16777215 K) e in
    (omega (arith, ltb-false K 1 p), omega (arith, ltb-false 16777215 K q))

threads_read : (s : List ℕ) {n : ℕ} → Read (threads_of s) 65536 n → n ≡ (table_of s).threads
unfolding table_of
threads_read s r = r.value

actions_read : (s : List ℕ) {m : ℕ} → Read (actions_of s) 65536 m → m ≡ (table_of s).actions
unfolding table_of
actions_read s r = r.value

given_read : (T : Table) (K n m x g : ℕ) → n ≡ T.threads → m ≡ T.actions → x ≡ sum_to (new_threads T K) m → g ≡ n - x → g ≡ given_threads T K
given_read T K n m x g e f h k =
    let w : sum_to (new_threads T K) m ≡ sum_to (new_threads T K) T.actions = ap (λ (i : ℕ). sum_to (new_threads T K) i) f in
    omega (arith, e, h, k, w)

module _ (T : Table) (K a : ℕ) where
  no_quota_lem : outside 1 16777215 K ≡ true → 65535 ≡ origin_in T K a
  unfolding origin_in
  no_quota_lem e = rw e

  module _ (o : outside 1 16777215 K ≡ false) (m : ℕ) (e : m ≡ T.actions) where
    no_action_lem : m ≤ a → 65535 ≡ origin_in T K a
    unfolding origin_in
    no_action_lem h = rw (o, le-leb T.actions a (omega (arith, e)))

    module _ (h : a < m) (g : ℕ) (f : g ≡ given_threads T K) where
      inside : (p : Bool) → put_in T g a ≡ p → put_in T (given_threads T K) a ≡ p
      inside p q = ap (λ (x : ℕ). put_in T x a) (sym f) ∙ q

      put_in_lem : put_in T g a ≡ true → 65535 ≡ origin_in T K a
      unfolding origin_in
      put_in_lem q = rw (o, lt-leb T.actions a (omega (arith, e)), inside true q)

      stays : put_in T g a ≡ false → (r : ℕ) → r ≡ a - 2 * bigs_to T K (a + 1) → r ≡ origin_in T K a
      unfolding origin_in
      stays q r y = rw (o, lt-leb T.actions a (omega (arith, e)), inside false q) (rw add-one at y)

pub returns-then-outside : goal.returns-then-outside
returns-then-outside c = no_quota_lem (table_of c.args.table.now) _ _ (sym c.outside.ensures ∙ c.if-outside.true)

pub returns-then-m-a : goal.returns-then-m-a
returns-then-m-a c =
    let s = c.args.table.now in
    no_action_lem (table_of s) _ _ (sym c.outside.ensures ∙ c.if-outside.false) _ (actions_read s c.actions-m.ensures) c.if-m-a.true

pub brought-all-requires : goal.brought-all-requires
brought-all-requires c = let s = c.args.table.now in record { n_value = threads_read s c.threads-n.ensures; le_quota = in_range _ (sym c.outside.ensures ∙ c.if-outside.false); k_bound = omega (arith, c.actions-m.ensures.small) }

pub is_put_in-requires : goal.is_put_in-requires
is_put_in-requires c = threads_read c.args.table.now c.threads-n.ensures

pub returns-then-is_put_in : goal.returns-then-is_put_in
returns-then-is_put_in c =
    let s = c.args.table.now in
    let T = table_of s in
    let m = actions_read s c.actions-m.ensures in
    put_in_lem T _ _ (sym c.outside.ensures ∙ c.if-outside.false) _ m c.if-m-a.false _
    (given_read T _ _ _ _ _ (threads_read s c.threads-n.ensures) m c.brought-all.ensures.threads_value c.saturating_sub-given.ensures)
    (sym c.is_put_in.ensures ∙ c.if-is_put_in.true)

pub kept-requires : goal.kept-requires
kept-requires c = let s = c.args.table.now in record { n_value = threads_read s c.threads-n.ensures; le_quota = in_range _ (sym c.outside.ensures ∙ c.if-outside.false); a_bound = omega (arith, c.if-m-a.false, c.actions-m.ensures.small) }

pub returns : goal.returns
returns c =
    let s = c.args.table.now in
    let T = table_of s in
    let m = actions_read s c.actions-m.ensures in
    stays T _ _ (sym c.outside.ensures ∙ c.if-outside.false) _ m c.if-m-a.false _
    (given_read T _ _ _ _ _ (threads_read s c.threads-n.ensures) m c.brought-all.ensures.threads_value c.saturating_sub-given.ensures)
    (sym c.is_put_in.ensures ∙ c.if-is_put_in.false) _ c.kept.ensures.value
