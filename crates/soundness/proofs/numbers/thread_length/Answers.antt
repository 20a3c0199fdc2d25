use mathlib.Core.Path.{◌≡◌}
use Prim.Native.Nat.{ℕ, ◌+◌, ◌≤◌, ◌<◌}
use mathlib.Core.List.{List}
use native.Mathlib.Omega.{arith}
use lib.ListN.{length}
use Rattle.table.specs.Format.{table_of}
use Rattle.table.specs.Checks.{owner, end_of}
use Rattle.table.specs.Serial.{serial}
use Rattle.table.specs.Sum.{Read}
use Rattle.table.proofs.Bodies.{first_within}
use Rattle.order.proofs.Lawful.{Lawful}
use Rattle.soundness.specs.Code.Checks.{Accepted, Lengths}
use Rattle.soundness.specs.Code.Order.{Inside}
use Rattle.soundness.proofs.Lookups.{accepted_lawful, thread_below, accepted_body}
use Rattle.soundness.proofs.Spans.{inside_owner, end_length, length_small}
use Rattle.soundness.proofs.numbers.thread_length.Invariants.{Inv}
use Rattle.soundness.proofs.numbers.thread_length.Goals as goal

start : (s : List ℕ) (n t last first : ℕ) → Accepted s n → t < n → last ≡ end_of (table_of s) t → first ≡ (table_of s).first t → Inv s t last 1 first
start s n t last first k h d e =
    let lawful : Lawful (table_of s) = accepted_lawful k in
    let below : t < (table_of s).threads = thread_below k h in
    record {
      below = below;
      ends = d;
      from = omega arith;
      upto = omega (arith, (accepted_body k h).some, (accepted_body k h).ends);
      small = length_small (table_of s) lawful ((table_of s).first t) (first_within (table_of s) lawful.contents t below);
      counted = rw e;
    }

module _ (s : List ℕ) (t last total a : ℕ) (i : Inv s t last total a) where
  inside : (n : ℕ) (lengths : List ℕ) → Accepted s n × ((t < n) × Lengths (table_of s) lengths (t + 1)) → a < last
      → Inside (table_of s) (owner (table_of s) a) a × Lengths (table_of s) lengths (owner (table_of s) a + 1)
  inside n lengths p h =
      let g : Inside (table_of s) t a = record { thread = i.below; from = i.from; upto = omega (arith, i.ends) } in
      rw (inside_owner (table_of s) (accepted_lawful p.0) t a g) (g, p.1.1)

  again : (r : ℕ) → a < last → length (serial (table_of s) a) ≡ r + length (serial (table_of s) (a + 1)) → Inv s t last (total + r) (a + 1)
  again r h e =
      record { below = i.below; ends = i.ends; from = omega (arith, i.from); upto = omega arith; small = i.small; counted = omega (arith, i.counted) }

  whole : {n : ℕ} → Accepted s n → last ≤ a → Read (length (serial (table_of s) ((table_of s).first t))) 65536 total
  whole k h =
      let e : a ≡ end_of (table_of s) t = omega (arith, i.ends, i.upto) in
      let c : total + length (serial (table_of s) (end_of (table_of s) t)) ≡ 1 + length (serial (table_of s) ((table_of s).first t)) = rw e at i.counted in
      let v : total ≡ length (serial (table_of s) ((table_of s).first t)) = omega (arith, end_length (table_of s) (accepted_lawful k) t i.below) in
      record { value = v; small = omega (arith, i.small) }

pub end_of-last-requires : goal.end_of-last-requires
end_of-last-requires c = record { rules = c.requires.accepted.rules; t_bound = thread_below c.requires.accepted c.requires.t_lt_n }

pub loop-a-init : goal.loop-a-init
loop-a-init c =
    start c.args.table.now _ _ _ _ c.requires.accepted c.requires.t_lt_n c.end_of-last.ensures c.first-a.ensures.value

pub span-total-requires : goal.span-total-requires
span-total-requires c =
    let both = inside c.args.table.now _ _ _ _ c.loop-a.invariant _ c.args.lengths.now (c.requires.accepted, (c.requires.t_lt_n, c.requires.lengths)) c.loop-a-test.true in
    record { accepted = c.requires.accepted; inside = both.0; lengths = both.1 }

pub overflow_add-total : goal.overflow_add-total
overflow_add-total c = omega (arith, c.loop-a.invariant, c.span-total.ensures)

pub loop-a-preserved : goal.loop-a-preserved
loop-a-preserved c = again _ _ _ _ _ c.loop-a.invariant _ c.loop-a-test.true c.span-total.ensures

pub returns : goal.returns
returns c = whole _ _ _ _ _ c.loop-a.invariant c.requires.accepted c.loop-a-test.false
