use mathlib.Core.Path.{◌≡◌}
use Prim.Native.Nat.{ℕ, suc, ◌+◌, ◌-◌, ◌≤◌, ◌<◌}
use mathlib.Core.List.{List}
use mathlib.Core.Bool.{Bool, true, false}
use native.Mathlib.Omega.{arith}
use lib.ListN.{length}
use lib.Dec.{ltb}
use Rattle.table.specs.Sum.{pick, Read}
use Rattle.table.specs.Format.{table_of}
use Rattle.table.specs.Checks.{alloc_of}
use Rattle.filling.specs.Filled.{filled_from, filled_body}
use Rattle.filling.specs.Code.Steps.{Ready}
use Rattle.table.proofs.Bodies.{body_within}
use Rattle.filling.proofs.Numbering.{l}
use Rattle.filling.proofs.FilledRows.{front_length, body_own, body_short}
use Rattle.filling.proofs.puts.body_count.Invariants.{Inv}
use Rattle.filling.proofs.puts.body_count.Goals as goal

three : (K x w : ℕ) → w ≡ pick (ltb K x) 3 1 → w ≤ 3
three K x w e = go (ltb K x) e
  where
    go : (b : Bool) → w ≡ pick b 3 1 → w ≤ 3
    go true q = omega arith
    go false q = omega arith

start : (s : List ℕ) (n K t first count : ℕ) → Ready s n K → t < n → first ≡ (table_of s).first t → count ≡ (table_of s).count t → Inv s n K t first count 0 0
start s n K t first count r h e f =
    let b : t < (table_of s).threads = omega (arith, r.threads) in
    let y : first + 0 ≡ (table_of s).first t = omega arith in
    let z : count - 0 ≡ (table_of s).count t = omega arith in
    record {
      ready = r;
      below = b;
      first_is = e;
      count_is = f;
      within = omega arith;
      few = omega (arith, body_within (table_of s) (l s n K r).contents t b, (l s n K r).few_actions);
      counted = rw (y, z) (omega arith);
    }

module _ (s : List ℕ) (n K t first count total k : ℕ) (i : Inv s n K t first count total k) where
  whole_few : length (filled_body (table_of s) K t) ≤ 8192
  whole_few = rw (body_own s n K i.ready t i.below) at (body_short s n K i.ready t (omega (arith, i.below)))

  small : total ≤ 8192
  small = omega (arith, i.counted, whole_few)

  again : (x w : ℕ) → k < count → x ≡ alloc_of (table_of s) (first + k) → w ≡ pick (ltb K x) 3 1 → Inv s n K t first count (total + w) (k + 1)
  again x w h e f =
      let y : first + k + 1 ≡ first + (k + 1) = omega arith in
      let z : count - k ≡ suc (count - (k + 1)) = omega arith in
      let b : total + length (filled_from (table_of s) K (first + k) (suc (count - (k + 1)))) ≡ length (filled_body (table_of s) K t) = rw z at i.counted in
      let g : length (filled_from (table_of s) K (first + k) (suc (count - (k + 1)))) ≡ pick (ltb K x) 3 1 + length (filled_from (table_of s) K (first + (k + 1)) (count - (k + 1))) =
      rw y at (front_length s n K i.ready (first + k) (count - (k + 1)) x e) in
      record {
        ready = i.ready;
        below = i.below;
        first_is = i.first_is;
        count_is = i.count_is;
        within = omega arith;
        few = i.few;
        counted = omega (arith, b, g);
      }

  done : count ≤ k → Read (length (filled_body (table_of s) K t)) 65536 total
  unfolding filled_from
  done h =
      let z : count - k ≡ 0 = omega arith in
      let b : total + length (filled_from (table_of s) K (first + k) 0) ≡ length (filled_body (table_of s) K t) = rw z at i.counted in
      record { value = omega (arith, b); small = omega (arith, small) }

pub loop-k-init : goal.loop-k-init
loop-k-init c =
    start c.args.table.now _ _ _ _ _ c.requires.ready c.requires.t_lt_n c.first-first.ensures.value c.count-count.ensures.value

pub overflow_add-first : goal.overflow_add-first
overflow_add-first c = omega (arith, c.loop-k.invariant.few, c.loop-k-test.true)

pub amount-requires : goal.amount-requires
amount-requires c = c.loop-k.invariant.ready.threads

pub overflow_add-total : goal.overflow_add-total
overflow_add-total c = omega (arith, small _ _ _ _ _ _ _ _ c.loop-k.invariant, three c.args.quota c.amount.result _ c.width-total.ensures)

pub loop-k-preserved : goal.loop-k-preserved
loop-k-preserved c = again _ _ _ _ _ _ _ _ c.loop-k.invariant _ _ c.loop-k-test.true c.amount.ensures.value c.width-total.ensures

pub returns : goal.returns
returns c = done _ _ _ _ _ _ _ _ c.loop-k.invariant c.loop-k-test.false
