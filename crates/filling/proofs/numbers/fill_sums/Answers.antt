use mathlib.Core.Path.{◌≡◌, ◌∙◌}
use Prim.Native.Nat.{ℕ, ◌+◌, ◌-◌, ◌≤◌, ◌<◌}
use mathlib.Core.List.{List}
use native.Mathlib.Omega.{arith}
use native.Mathlib.Decide.{ℕ_discrete}
use lib.ListN.{length, get_or, set, length-set}
use lib.Seq.{get_or-set_same, get_or-set_other}
use Rattle.table.specs.Format.{table_of}
use Rattle.filling.specs.Code.Steps.{Ready, new_of, Sums}
use Rattle.filling.proofs.Numbering.{l}
use Rattle.filling.proofs.numbers.fill_sums.Invariants.{Inv}
use Rattle.filling.proofs.numbers.fill_sums.Goals as goal

start : (s : List ℕ) (n K : ℕ) (sums : List ℕ) → Ready s n K → length sums ≡ 1024 → Inv s n K sums n
start s n K sums r e =
    record {
      ready = r;
      few = omega (arith, r.threads, (l s n K r).few_threads);
      within = omega arith;
      filled = record { size = e; right = λ t h j. absurd (omega (arith, r.threads)) };
    }

module _ (s : List ℕ) (n K : ℕ) (sums : List ℕ) (t : ℕ) (i : Inv s n K sums t) where
  whole : t ≤ 0 → Sums (table_of s) K sums 0
  whole h = let e : t ≡ 0 = omega arith in rw e at i.filled

  module _ (h : 0 < t) where
    above : Sums (table_of s) K sums (t - 1 + 1)
    above = let e : t - 1 + 1 ≡ t = omega arith in rw e i.filled

    again : (total : ℕ) → total ≡ new_of (table_of s) K (t - 1) → Inv s n K (set sums (t - 1) total) (t - 1)
    again total e =
        record {
          ready = i.ready;
          few = i.few;
          within = omega (arith, i.within);
          filled = record { size = simp length-set i.filled.size; right = λ u j k. go u j k (ℕ_discrete u (t - 1)) };
        }
      where
        go : (u : ℕ) → t - 1 ≤ u → u < (table_of s).threads → Dec (u ≡ t - 1) → get_or (set sums (t - 1) total) u 0 ≡ new_of (table_of s) K u
        go u j k (yes p) = rw p (get_or-set_same sums (t - 1) total 0 (omega (arith, i, i.filled.size)) ∙ e)
        go u j k (no p) = get_or-set_other sums (t - 1) u total 0 p ∙ i.filled.right u (omega (arith, p)) k

pub loop-t-init : goal.loop-t-init
loop-t-init c = start c.args.table.now _ _ c.args.sums.now c.requires.ready c.requires.sums_len

pub thread_sum-requires : goal.thread_sum-requires
thread_sum-requires c = let i = c.loop-t.invariant in record { ready = i.ready; t_lt_n = omega (arith, i.within, c.loop-t-test.true); sums = above _ _ _ _ _ i c.loop-t-test.true }

pub offset_bounds-sums-t : goal.offset_bounds-sums-t
offset_bounds-sums-t c = omega (arith, c.loop-t.invariant)

pub bounds-sums-t : goal.bounds-sums-t
bounds-sums-t c = omega (arith, c.loop-t.invariant, c.loop-t-test.true)

pub loop-t-preserved : goal.loop-t-preserved
loop-t-preserved c = again _ _ _ _ _ c.loop-t.invariant c.loop-t-test.true _ c.thread_sum.ensures

pub returns : goal.returns
returns c = whole _ _ _ _ _ c.loop-t.invariant c.loop-t-test.false
