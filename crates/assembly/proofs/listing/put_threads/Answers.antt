use Prim.Native.Nat.{ℕ, ◌+◌, ◌*◌, ◌≤◌, ◌<◌}
use native.Mathlib.Numerals.{add-one}
use native.Mathlib.Omega.{arith}
use mathlib.Core.Path.{◌≡◌, refl, ◌∙◌}
use mathlib.Core.List.{List}
use lib.ListN.{length}
use Rattle.table.specs.Sum.{sum_to}
use Rattle.table.specs.Format.{table_of}
use Rattle.text.specs.Puts.{Puts}
use Rattle.text.proofs.Putting.{puts_none, puts_more, puts_within}
use Rattle.assembly.specs.Disassembly.{thread_texts, body_texts, threads_texts}
use borrow.Author.Rules.{rules}
use Rattle.assembly.proofs.listing.put_threads.Invariants.{Inv}
use Rattle.assembly.proofs.listing.put_threads.Goals as goal

start : (out table : List ℕ) (n : ℕ) → Inv out table n out 0 0
unfolding threads_texts
start out table n = record { within = omega arith; long = refl; put = puts_none (12 * 0 + 31 * sum_to (table_of table).count 0) }

module _ (out₀ table : List ℕ) (n : ℕ) (out : List ℕ) (at t : ℕ) (v : Inv out₀ table n out at t) where
  again : {f k r w : ℕ} {o q : List ℕ} → t < n → Puts out at o r (thread_texts t) 12 → f ≡ (table_of table).first t → k ≡ (table_of table).count t → Puts o r q w (body_texts (table_of table) f k) (31 * k)
      → length o ≡ length out → length q ≡ length o → Inv out₀ table n q w (t + 1)
  unfolding threads_texts sum_to
  again {f} {k} {r} {w} {o} {q} h a e d b l m =
      let b' : Puts o r q w (body_texts (table_of table) ((table_of table).first t) ((table_of table).count t)) (31 * (table_of table).count t) = rw (e, d) at b in
      record { within = omega arith; long = m ∙ l ∙ v.long; put = rw add-one (puts_within (omega arith) (puts_more v.put (puts_more a b'))) }

  ends : n ≤ t → Puts out₀ 0 out at (threads_texts (table_of table) n) (12 * n + 31 * sum_to (table_of table).count n)
  ends h =
      let e : t ≡ n = omega (arith, v.within) in
      rw e at v.put

pub loop-t-init : goal.loop-t-init
loop-t-init c = start _ _ _

pub put_thread-at-requires : goal.put_thread-at-requires
put_thread-at-requires c = omega (arith, c.requires.1, c.loop-t-test.true)

pub put_body-at-requires : goal.put_body-at-requires
put_body-at-requires c = (c.requires.0, c.first.ensures.small, c.count.ensures.small)

pub loop-t-preserved : goal.loop-t-preserved
loop-t-preserved c = again _ _ _ _ _ _ c.loop-t.invariant c.loop-t-test.true c.put_thread-at.ensures c.first.ensures.value c.count.ensures.value c.put_body-at.ensures (search rules) (search rules)

pub shape_of-out : goal.shape_of-out
shape_of-out c = omega (arith, c.loop-t.invariant.long)

pub returns : goal.returns
returns c = ends _ _ _ _ _ _ c.loop-t.invariant c.loop-t-test.false
