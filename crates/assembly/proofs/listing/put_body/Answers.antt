use Prim.Native.Nat.{ℕ, ◌+◌, ◌*◌, ◌≤◌, ◌<◌}
use native.Mathlib.Numerals.{add-one}
use native.Mathlib.Omega.{arith}
use mathlib.Core.Path.{◌≡◌, refl, ◌∙◌}
use mathlib.Core.List.{List}
use lib.ListN.{length}
use Rattle.table.specs.Format.{threads_of, table_of, code_at, argument_at, bodies_from, kind_of}
use Rattle.table.proofs.Parts.{code_from, argument_from}
use Rattle.text.specs.Puts.{Puts}
use Rattle.text.proofs.Putting.{puts_none, puts_more, puts_within}
use Rattle.assembly.specs.Disassembly.{action_texts, number_texts, body_texts}
use borrow.Author.Rules.{rules}
use Rattle.assembly.proofs.listing.put_body.Invariants.{Inv}
use Rattle.assembly.proofs.listing.put_body.Goals as goal

start : (out : List ℕ) (at : ℕ) (table : List ℕ) (from count : ℕ) → Inv out at table from count out at 0
unfolding body_texts
start out at table from count = record { within = omega arith; long = refl; put = puts_none 0 }

threads_are : (table : List ℕ) (n : ℕ) → n ≡ threads_of table → n ≡ (table_of table).threads
unfolding table_of
threads_are table n e = e

module _ (out₀ : List ℕ) (at₀ : ℕ) (table : List ℕ) (from count : ℕ) (out : List ℕ) (at i : ℕ) (v : Inv out₀ at₀ table from count out at i) where
  again : {n k x r u : ℕ} {o z : List ℕ} → i < count → n ≡ threads_of table → k ≡ code_at (bodies_from table n) (from + i) → x ≡ argument_at (bodies_from table n) (from + i) → length o ≡ length out
      → Puts out at o r (action_texts (kind_of k) x) 14 → length z ≡ length o → Puts o r z u (number_texts (from + i)) 17 → Inv out₀ at₀ table from count z u (i + 1)
  unfolding body_texts
  again {n} {k} {x} {r} {u} {o} {z} h e c a l p m w =
      let t = threads_are table n e in
      let c' : k ≡ (table_of table).code (from + i) = c ∙ code_from table n t (from + i) in
      let a' : x ≡ (table_of table).argument (from + i) = a ∙ argument_from table n t (from + i) in
      let q : Puts out at o r (action_texts (kind_of ((table_of table).code (from + i))) ((table_of table).argument (from + i))) 14 = rw (c', a') at p in
      record { within = omega arith; long = m ∙ l ∙ v.long; put = rw add-one (puts_within (omega arith) (puts_more v.put (puts_more q w))) }

  ends : count ≤ i → Puts out₀ at₀ out at (body_texts (table_of table) from count) (31 * count)
  ends h =
      let e : i ≡ count = omega (arith, v.within) in
      rw e at v.put

pub loop-i-init : goal.loop-i-init
loop-i-init c = start _ _ _ _ _

pub overflow_add-a : goal.overflow_add-a
overflow_add-a c = omega (arith, c.requires.1, c.requires.2, c.loop-i.invariant.within)

pub put_action-at-requires : goal.put_action-at-requires
put_action-at-requires c = c.argument.ensures.small

pub put_number-at-requires : goal.put_number-at-requires
put_number-at-requires c = omega (arith, c.requires.1, c.requires.2, c.loop-i.invariant.within)

pub loop-i-preserved : goal.loop-i-preserved
loop-i-preserved c = again _ _ _ _ _ _ _ _ c.loop-i.invariant c.loop-i-test.true c.requires.0 refl c.argument.ensures.value (search rules) (rw c.kind.ensures at c.put_action-at.ensures) (search rules) c.put_number-at.ensures

pub shape_of-out : goal.shape_of-out
shape_of-out c = omega (arith, c.loop-i.invariant.long)

pub returns : goal.returns
returns c = ends _ _ _ _ _ _ _ _ c.loop-i.invariant c.loop-i-test.false
