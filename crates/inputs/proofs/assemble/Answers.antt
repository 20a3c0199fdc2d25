-- `inputs::assemble` meets its contract: the text is too long, its front is not as it should be, or the table comes after the front.
use Rattle.std.specs.Prelude.{Err, Ok, Result}
use native.Mathlib.Omega.{arith}
use Prim.Native.Nat.{ℕ, suc, ◌+◌, ◌-◌, ◌≤◌, ◌<◌}
use native.Mathlib.Numerals.{add-one}
use mathlib.Core.Path.{◌≡◌, sym, ◌∙◌}
use mathlib.Core.List.{List}
use borrow.Author.Tests.{lt-ltb, le-ltb}
use lib.ListN.{length, take, drop, length-drop}
use Rattle.table.proofs.Parts.{rest_part}
use Rattle.assembly.specs.Assembly.{longest_text, assembled}
use Rattle.assembly.specs.declared.AssemblyError.TheVariants.{TooLong}
use Rattle.assembly.specs.Unseen.{after_lines}
use Rattle.inputs.specs.Front.{whole, fault, front_of}
use Rattle.inputs.specs.Input.{with_table, filled_with, made, made_in}
use Rattle.inputs.specs.Code.Steps.{ReadsFront, Addable, front_is}
use Rattle.inputs.specs.declared.Wanted.{Wanted}
use Rattle.inputs.specs.declared.front.Front.{Front as Kept}
use Rattle.inputs.specs.declared.read.Read.{Read}
use Rattle.inputs.specs.declared.InputError.{InputError}
use Rattle.inputs.specs.declared.InputError.TheVariants.{Malformed, NoTable}
use borrow.Author.Rules.{rules}
use Rattle.inputs.proofs.assemble.Goals as goal

abbrev Answers : List ℕ → List ℕ → Result ℕ InputError → List ℕ → Type 0
Answers s out r o = (r ≡ made s) × (o ≡ made_in s out)

too_long : (s out : List ℕ) → longest_text < length s → Answers s out (Err (NoTable TooLong)) out
unfolding made made_in
too_long s out h = let e = lt-ltb longest_text (length s) h in (rw e, rw e)

module _ (s out buf : List ℕ) (h : length s ≤ longest_text) {r : Read} (d : ReadsFront s buf r) where
  no_front : {e : Wanted} → r.end ≡ Err e → Answers s out (Err (Malformed (r.lines + 1) e)) out
  unfolding made made_in
  no_front {e} q =
      let x = le-ltb longest_text (length s) h in
      let y : front_of s ≡ fault (suc r.lines) e = sym d.value ∙ rw q in
      (rw (x, y, add-one), rw (x, y))

  module _ (f : Kept) (q : r.end ≡ Ok f) where
    abbrev rest : List ℕ
    rest = take (length s - r.at) (drop r.at s)

    rest_is : rest ≡ after_lines r.lines s
    rest_is = rest_part s r.at ∙ d.rest

    addable : 40970 ≤ length out → Addable rest f buf r.lines out
    addable wide =
        record {
          short = rw (rest_part s r.at) (omega (arith, length-drop r.at s, h));
          passed = omega (arith, d.passed, d.within, h);
          room = record { full = d.full; few = rw q at d.few };
          wide = wide;
        }

    with_table_lem : (x : Result ℕ InputError) (o : List ℕ) → x ≡ with_table (front_is f buf) r.lines rest (assembled rest) → o ≡ filled_with (assembled rest) (front_is f buf) rest out → Answers s out x o
    unfolding made made_in
    with_table_lem x o a b =
        let z = le-ltb longest_text (length s) h in
        let y : front_of s ≡ whole (front_is f buf) r.lines = sym d.value ∙ rw q in
        (rw (z, y) (rw rest_is at a), rw (z, y) (rw rest_is at b))

pub returns-then-text-gt-LONGEST : goal.returns-then-text-gt-LONGEST
returns-then-text-gt-LONGEST c = let both = too_long _ _ c.if-text-gt-LONGEST.true in record { value = both.0; out_after = both.1 }

pub read_front-read-requires : goal.read_front-read-requires
read_front-read-requires c = record { short = c.if-text-gt-LONGEST.false; full = omega arith }

pub overflow_add-result : goal.overflow_add-result
overflow_add-result c = omega (arith, c.read_front-read.ensures.passed, c.read_front-read.ensures.within, c.if-text-gt-LONGEST.false)

pub slice_bounds-add_table-count : goal.slice_bounds-add_table-count
slice_bounds-add_table-count c = omega (arith, c.read_front-read.ensures.within)

pub slice_bounds-add_table-start : goal.slice_bounds-add_table-start
slice_bounds-add_table-start c = omega (arith, c.read_front-read.ensures.within)

pub slice_bounds-add_table-end : goal.slice_bounds-add_table-end
slice_bounds-add_table-end c = omega (arith, c.read_front-read.ensures.within)

pub add_table-requires : goal.add_table-requires
add_table-requires c = addable _ _ _ c.if-text-gt-LONGEST.false c.read_front-read.ensures _ c.in-Ok.is (search rules)

pub returns-in-Err : goal.returns-in-Err
returns-in-Err c = let both = no_front _ _ _ c.if-text-gt-LONGEST.false c.read_front-read.ensures c.in-Err.is in record { value = both.0; out_after = both.1 }

pub returns-in-Ok : goal.returns-in-Ok
returns-in-Ok c = let both = with_table_lem _ _ _ c.if-text-gt-LONGEST.false c.read_front-read.ensures _ c.in-Ok.is _ _ c.add_table.ensures.value c.add_table.ensures.out_after in record { value = both.0; out_after = both.1 }
