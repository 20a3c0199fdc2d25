-- `assembly::write_text` meets its contract: a buffer with 12 bytes for each thread and 31 for each action has room for the text.
use Rattle.std.specs.Prelude.{Ok}
use Prim.Native.Nat.{ℕ, ◌+◌, ◌*◌, ◌≤◌, ◌<◌}
use native.Mathlib.Omega.{arith}
use mathlib.Core.Path.{◌≡◌, ap, ◌∙◌}
use mathlib.Core.List.{List, ◌++◌}
use lib.ListN.{length, drop}
use Rattle.table.specs.Sum.{sum_to}
use Rattle.table.specs.Format.{threads_of, actions_of, table_of}
use Rattle.text.specs.Puts.{Puts}
use Rattle.text.proofs.Putting.{puts_whole}
use Rattle.assembly.specs.Assembly.{or_short, needing, over, kept_if_short}
use Rattle.assembly.specs.Disassembly.{threads_texts, text_of, most_text}
use Rattle.assembly.specs.Code.Steps.{Listable}
use Rattle.assembly.proofs.Rooms.{fits, lacks, put_in_lem, kept}
use Rattle.assembly.proofs.write_text.Goals as goal
use Rattle.assembly.specs.declared.Short.{Short}
use Rattle.std.specs.Prelude.{Err, Result}
use Rattle.table.specs.declared.Refusal.{Refusal}

-- an answer and a buffer are those of an accepted table
abbrev Answers : List ℕ → List ℕ → Result (Result ℕ Refusal) Short → List ℕ → Type 0
Answers s out x o =
    (x ≡ or_short (length out) (most_text (table_of s)) (Ok (length (text_of (table_of s))))) × (o ≡ kept_if_short (most_text (table_of s)) out (over (text_of (table_of s)) out))

module _ (s out : List ℕ) (n m : ℕ) (e : n ≡ threads_of s) (d : m ≡ actions_of s) where
  size : 12 * n + 31 * m ≡ most_text (table_of s)
  unfolding table_of
  size = omega (arith, e, d)

  short : length out < 12 * n + 31 * m → Answers s out (Err (needing (12 * n + 31 * m))) out
  short h =
      let more : length out < most_text (table_of s) = omega (arith, size, h) in
      (lacks (length out) (most_text (table_of s)) (Ok (length (text_of (table_of s)))) more size, kept (most_text (table_of s)) out (over (text_of (table_of s)) out) more)

  module _ (z : Listable s) (room : 12 * n + 31 * m ≤ length out) where
    whole : (o : List ℕ) (r : ℕ) → Puts out 0 o r (threads_texts (table_of s) n) (12 * n + 31 * sum_to (table_of s).count n)
        → (r ≡ length (text_of (table_of s))) × (o ≡ over (text_of (table_of s)) out)
    unfolding text_of table_of
    whole o r p =
        let p' : Puts out 0 o r (threads_texts (table_of s) (threads_of s)) (12 * threads_of s + 31 * sum_to (table_of s).count (threads_of s)) = rw e at p in
        let q = puts_whole (omega (arith, z.counts, e, d, room)) p' in
        (q.0, q.1 ∙ ap (λ (j : ℕ). text_of (table_of s) ++ drop j out) q.0)

    answers : (o : List ℕ) (r : ℕ) → Puts out 0 o r (threads_texts (table_of s) n) (12 * n + 31 * sum_to (table_of s).count n) → Answers s out (Ok (Ok r)) o
    answers o r p =
        let w = whole o r p in
        let enough : most_text (table_of s) ≤ length out = omega (arith, size, room) in
        (fits (length out) (most_text (table_of s)) enough (ap Ok w.0), put_in_lem (most_text (table_of s)) out enough w.1)

pub overflow_mul-most : goal.overflow_mul-most
overflow_mul-most c = omega (arith, c.threads-n.ensures.small)

pub overflow_mul-most-2 : goal.overflow_mul-most-2
overflow_mul-most-2 c = omega (arith, c.actions.ensures.small)

pub overflow_add-most : goal.overflow_add-most
overflow_add-most c = omega (arith, c.threads-n.ensures.small, c.actions.ensures.small)

pub returns-then-out-most : goal.returns-then-out-most
returns-then-out-most c = let both = short _ _ _ _ c.threads-n.ensures.value c.actions.ensures.value c.if-out-most.true in record { value = both.0; out_after = both.1 }

pub put_threads-requires : goal.put_threads-requires
put_threads-requires c = let v = c.threads-n.ensures.value in (v, rw v c.requires.threads)

pub returns : goal.returns
returns c = let both = answers _ _ _ _ c.threads-n.ensures.value c.actions.ensures.value c.requires c.if-out-most.false _ _ c.put_threads.ensures in record { value = both.0; out_after = both.1 }
