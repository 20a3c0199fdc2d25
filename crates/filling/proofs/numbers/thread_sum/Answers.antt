use mathlib.Core.Path.{◌≡◌, refl, ◌∙◌}
use Prim.Native.Nat.{ℕ, ◌+◌, ◌≤◌, ◌<◌}
use mathlib.Core.List.{List}
use native.Mathlib.Numerals.{add-one}
use native.Mathlib.Omega.{arith}
use Rattle.table.specs.Sum.{sum_to}
use Rattle.table.specs.Format.{Table, table_of}
use Rattle.table.specs.Checks.{owner}
use Rattle.table.proofs.Bodies.{body_within, owner_is}
use Rattle.table.proofs.Amounts.{fork_part, fork_part_whole}
use Rattle.table.proofs.Sums.{sum_to_part}
use Rattle.filling.specs.Filled.{new_threads}
use Rattle.filling.specs.Code.Steps.{Ready, new_of, root_step, Sums}
use Rattle.filling.proofs.Numbering.{l, new_small}
use Rattle.filling.proofs.numbers.thread_sum.Invariants.{Inv}
use Rattle.filling.proofs.numbers.thread_sum.Goals as goal

start : (s : List ℕ) (n K t : ℕ) (sums : List ℕ) (first count : ℕ) → Ready s n K → t < n → Sums (table_of s) K sums (t + 1) → first ≡ (table_of s).first t → count ≡ (table_of s).count t
    → Inv s n K t sums first count 0 0
unfolding sum_to
start s n K t sums first count r h v e f =
    let b : t < (table_of s).threads = omega (arith, r.threads) in
    record {
      ready = r;
      below = b;
      sums_right = v;
      first_is = e;
      count_is = f;
      within = omega arith;
      few = omega (arith, body_within (table_of s) (l s n K r).contents t b, (l s n K r).few_actions);
      counted = refl;
    }

module _ (s : List ℕ) (n K t : ℕ) (sums : List ℕ) (first count total k : ℕ) (i : Inv s n K t sums first count total k) where
  abbrev T : Table
  T = table_of s

  whole_is : fork_part T (new_threads T K) t count ≡ new_of T K t
  whole_is = rw i.count_is (fork_part_whole T (l s n K i.ready).contents (l s n K i.ready).bodies (l s n K i.ready).nesting (new_threads T K) t i.below)

  small : total ≤ 8388608
  small = omega (arith, i.counted, sum_to_part (λ j. root_step T K (T.first t + j)) k count i.within, whole_is, new_small s n K i.ready t i.below)

  asks : k < count → (first + k < T.actions) × Sums T K sums (owner T (first + k) + 1)
  asks h =
      let b = body_within T (l s n K i.ready).contents t i.below in
      let o : owner T (first + k) ≡ t = owner_is T (l s n K i.ready).contents t (first + k) i.below (omega (arith, i.first_is)) (omega (arith, i.first_is, i.count_is)) in
      (omega (arith, b, i.first_is, i.count_is), rw o i.sums_right)

  again : (x : ℕ) → k < count → x ≡ root_step T K (first + k) → Inv s n K t sums first count (total + x) (k + 1)
  unfolding sum_to
  again x h e =
      record {
        ready = i.ready;
        below = i.below;
        sums_right = i.sums_right;
        first_is = i.first_is;
        count_is = i.count_is;
        within = omega arith;
        few = i.few;
        counted = rw add-one (omega (arith, i.counted, rw i.first_is at e));
      }

  done : count ≤ k → total ≡ new_of T K t
  done h =
      let z : k ≡ count = omega (arith, i.within) in
      rw z at i.counted ∙ whole_is

pub loop-k-init : goal.loop-k-init
loop-k-init c =
    start c.args.table.now _ _ _ c.args.sums.now _ _ c.requires.ready c.requires.t_lt_n c.requires.sums c.first-first.ensures.value c.count-count.ensures.value

pub overflow_add-first : goal.overflow_add-first
overflow_add-first c = omega (arith, c.loop-k.invariant.few, c.loop-k-test.true)

pub step-total-requires : goal.step-total-requires
step-total-requires c = let i = c.loop-k.invariant in
    let rest = asks c.args.table.now _ _ _ c.args.sums.now _ _ _ _ i c.loop-k-test.true in record { ready = i.ready; a_bound = rest.0; sums = rest.1 }

pub overflow_add-total : goal.overflow_add-total
overflow_add-total c =
    omega (arith, small c.args.table.now _ _ _ c.args.sums.now _ _ _ _ c.loop-k.invariant, c.step-total.ensures.small)

pub loop-k-preserved : goal.loop-k-preserved
loop-k-preserved c = again _ _ _ _ _ _ _ _ _ c.loop-k.invariant _ c.loop-k-test.true c.step-total.ensures.value

pub returns : goal.returns
returns c = done _ _ _ _ _ _ _ _ _ c.loop-k.invariant c.loop-k-test.false
