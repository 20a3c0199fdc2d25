use mathlib.Core.Path.{◌≡◌, ◌∙◌}
use Prim.Native.Nat.{ℕ, ◌+◌, ◌-◌, ◌≤◌, ◌<◌}
use mathlib.Core.List.{List}
use native.Mathlib.Omega.{arith}
use native.Mathlib.Decide.{ℕ_discrete}
use lib.ListN.{length, get_or, set, length-set}
use lib.Seq.{get_or-set_same, get_or-set_other}
use Rattle.table.specs.Format.{Table, table_of}
use Rattle.table.specs.Serial.{serial}
use Rattle.soundness.specs.Code.Checks.{Accepted, Lengths}
use Rattle.soundness.proofs.Lookups.{few_threads}
use Rattle.soundness.proofs.numbers.fill_lengths.Invariants.{Inv}
use Rattle.soundness.proofs.numbers.fill_lengths.Goals as goal

start : {s : List ℕ} {n : ℕ} (lengths : List ℕ) → Accepted s n → length lengths ≡ 1024 → Inv (table_of s) n lengths n
start lengths k e =
    record {
      few = few_threads k;
      within = omega arith;
      filled = record { size = e; right = λ t h j. absurd (omega (arith, k.threads)) };
    }

whole : {T : Table} {n : ℕ} {lengths : List ℕ} {t : ℕ} → Inv T n lengths t → t ≤ 0 → Lengths T lengths 0
whole {T} {n} {lengths} {t} i h =
    let e : t ≡ 0 = omega arith in
    rw e at i.filled

module _ (T : Table) (n : ℕ) (lengths : List ℕ) (t : ℕ) (i : Inv T n lengths t) (h : 0 < t) where
  above : Lengths T lengths (t - 1 + 1)
  above =
      let e : t - 1 + 1 ≡ t = omega arith in
      rw e i.filled

  again : (total : ℕ) → total ≡ length (serial T (T.first (t - 1))) → Inv T n (set lengths (t - 1) total) (t - 1)
  again total e =
      record {
        few = i.few;
        within = omega (arith, i.within);
        filled = record { size = simp length-set i.filled.size; right = λ u j k. go u j k (ℕ_discrete u (t - 1)) };
      }
    where
      go : (u : ℕ) → t - 1 ≤ u → u < T.threads → Dec (u ≡ t - 1) → get_or (set lengths (t - 1) total) u 0 ≡ length (serial T (T.first u))
      go u j k (yes p) = rw p (get_or-set_same lengths (t - 1) total 0 (omega (arith, i, i.filled.size)) ∙ e)
      go u j k (no p) = get_or-set_other lengths (t - 1) u total 0 p ∙ i.filled.right u (omega (arith, p)) k

pub loop-t-init : goal.loop-t-init
loop-t-init c = start c.args.lengths.now c.requires.accepted c.requires.lengths_len

pub thread_length-total-requires : goal.thread_length-total-requires
thread_length-total-requires c = let i = c.loop-t.invariant in record { accepted = c.requires.accepted; t_lt_n = omega (arith, i.within, c.loop-t-test.true); lengths = above _ _ _ _ i c.loop-t-test.true }

pub overflow_cast-lengths : goal.overflow_cast-lengths
overflow_cast-lengths c = omega (arith, c.thread_length-total.ensures.small)

pub offset_bounds-lengths-t : goal.offset_bounds-lengths-t
offset_bounds-lengths-t c = omega (arith, c.loop-t.invariant)

pub bounds-lengths-t : goal.bounds-lengths-t
bounds-lengths-t c = omega (arith, c.loop-t.invariant, c.loop-t-test.true)

pub loop-t-preserved : goal.loop-t-preserved
loop-t-preserved c = again _ _ _ _ c.loop-t.invariant c.loop-t-test.true _ c.thread_length-total.ensures.value

pub returns : goal.returns
returns c = whole c.loop-t.invariant c.loop-t-test.false
