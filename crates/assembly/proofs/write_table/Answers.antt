-- `assembly::write_table` meets its contract: check 2, the room, the rows, and what loading them answers.
use Rattle.std.specs.Prelude.{Err, Result}
use Rattle.table.specs.declared.Facts.{Facts}
use Prim.Native.Nat.{ℕ, ◌+◌, ◌*◌, ◌≤◌, ◌<◌}
use native.Mathlib.Omega.{arith}
use mathlib.Core.Path.{◌≡◌, sym, ap, ◌∙◌}
use mathlib.Core.List.{List}
use mathlib.Core.Bool.{true, false}
use lib.ListN.{length, take, drop, length-append}
use lib.Seq.{take_at, length-take-le}
use Rattle.table.specs.Pass.{refusal}
use Rattle.table.specs.Load.{loaded}
use Rattle.table.specs.declared.Refusal.{Refusal}
use Rattle.text.specs.Text.{buffer_at}
use Rattle.text.specs.Puts.{put_all}
use Rattle.assembly.specs.Said.{saids}
use Rattle.assembly.specs.Assembly.{needing, table_rows, table_bytes, over, sizes_outside, refused_at, judged, answered, written_in, bytes_by, or_short, kept_if_short}
use Rattle.assembly.specs.Code.Steps.{Sized}
use Rattle.assembly.specs.declared.Said.{Said}
use Rattle.assembly.proofs.Counts.{totals}
use Rattle.assembly.proofs.TableRows.{in_range, table_put}
use Rattle.assembly.proofs.Rooms.{fits, lacks, put_in_lem, kept}
use Rattle.assembly.proofs.write_table.Goals as goal
use Rattle.assembly.specs.declared.AssemblyError.{AssemblyError}
use Rattle.assembly.specs.declared.AssemblyError.TheVariants.{Refused}
use Rattle.assembly.specs.declared.Short.{Short}
use Rattle.std.specs.Prelude.{Ok}
use Rattle.assembly.specs.Assembly.{counts_of}

rejected : (l : List Said) {y : Result Facts Refusal} {r : Refusal} {j : ℕ} → y ≡ Err r → j ≡ refused_at r l → Err (Refused r j) ≡ judged y l
rejected l {r = r} e q = rw e (ap (λ (i : ℕ). Err (Refused r i)) q)

-- an answer and a buffer are those of a well-formed text of n threads and m actions
abbrev Answers : List Said → ℕ → ℕ → List ℕ → Result (Result ℕ AssemblyError) Short → List ℕ → Type 0
Answers l n m s x o =
    (x ≡ or_short (length s) (bytes_by (Ok (counts_of n m))) (answered (Ok (counts_of n m)) l)) × (o ≡ kept_if_short (bytes_by (Ok (counts_of n m))) s (written_in (Ok (counts_of n m)) l s))

module _ (l : List Said) (n m : ℕ) (s : List ℕ) where
  -- check 2
  outside : sizes_outside n m ≡ true → Answers l n m s (Ok (Err (Refused (refusal 2 0) 0))) s
  outside e =
      let none : bytes_by (Ok (counts_of n m)) ≤ length s = rw e (omega arith) in
      (fits (length s) (bytes_by (Ok (counts_of n m))) none (rw e), put_in_lem (bytes_by (Ok (counts_of n m))) s none (rw e))

  module _ (inside : sizes_outside n m ≡ false) where
    bytes_are : 4 + 4 * n + 4 * m ≡ bytes_by (Ok (counts_of n m))
    bytes_are = rw inside

    short : length s < 4 + 4 * n + 4 * m → Answers l n m s (Err (needing (4 + 4 * n + 4 * m))) s
    short h =
        let more : length s < bytes_by (Ok (counts_of n m)) = rw inside h in
        (lacks (length s) (bytes_by (Ok (counts_of n m))) (answered (Ok (counts_of n m)) l) more bytes_are, kept (bytes_by (Ok (counts_of n m))) s (written_in (Ok (counts_of n m)) l s) more)

module _ (text : List ℕ) (n m : ℕ) (s : List ℕ) (z : Sized text n m) (room : 4 + 4 * n + 4 * m ≤ length s) (inside : sizes_outside n m ≡ false) where
  abbrev lines : List Said
  lines = saids text

  enough : bytes_by (Ok (counts_of n m)) ≤ length s
  enough = rw inside room

  module _ (o : List ℕ) (k : ℕ) (q : buffer_at o k ≡ put_all (buffer_at s 0) (table_rows n m lines)) where
    placed : (k ≡ length (table_bytes lines)) × (o ≡ over (table_bytes lines) s)
    placed =
        let c = totals lines 1 0 0 n m z.counts in
        table_put lines s o n m k (omega (arith, c.threads)) (omega (arith, c.actions)) room q

    bytes : take k o ≡ table_bytes lines
    bytes = rw placed.1 (take_at (table_bytes lines) (drop (length (table_bytes lines)) s) k (sym placed.0))

    within : k ≤ length o
    within = omega (arith, placed.0, ap length placed.1, length-append (table_bytes lines) (drop (length (table_bytes lines)) s))

    answers : {x : Result ℕ AssemblyError} {y : Result Facts Refusal} → y ≡ loaded (take k o) → x ≡ judged y lines → Answers lines n m s (Ok x) o
    answers e d = (
      fits (length s) (bytes_by (Ok (counts_of n m))) enough (rw inside (d ∙ ap (λ (w : Result Facts Refusal). judged w lines) (e ∙ ap loaded bytes))),
      put_in_lem (bytes_by (Ok (counts_of n m))) s enough (rw inside placed.1),
    )

pub returns-then-sizes_outside : goal.returns-then-sizes_outside
returns-then-sizes_outside c = let a = c.args in let both = outside (saids a.text.now) a.counts.threads a.counts.actions a.out.now (sym c.sizes_outside.ensures ∙ c.if-sizes_outside.true) in record { value = both.0; out_after = both.1 }

pub overflow_mul-size : goal.overflow_mul-size
overflow_mul-size c = let a = c.args in let r = in_range a.counts.threads a.counts.actions (sym c.sizes_outside.ensures ∙ c.if-sizes_outside.false) in omega (arith, r.0, r.1)

pub overflow_add-size : goal.overflow_add-size
overflow_add-size c = let a = c.args in let r = in_range a.counts.threads a.counts.actions (sym c.sizes_outside.ensures ∙ c.if-sizes_outside.false) in omega (arith, r.0, r.1)

pub overflow_mul-size-2 : goal.overflow_mul-size-2
overflow_mul-size-2 c = let a = c.args in let r = in_range a.counts.threads a.counts.actions (sym c.sizes_outside.ensures ∙ c.if-sizes_outside.false) in omega (arith, r.0, r.1)

pub overflow_add-size-2 : goal.overflow_add-size-2
overflow_add-size-2 c = let a = c.args in let r = in_range a.counts.threads a.counts.actions (sym c.sizes_outside.ensures ∙ c.if-sizes_outside.false) in omega (arith, r.0, r.1)

pub returns-then-out-size : goal.returns-then-out-size
returns-then-out-size c = let a = c.args in let both = short (saids a.text.now) a.counts.threads a.counts.actions a.out.now (sym c.sizes_outside.ensures ∙ c.if-sizes_outside.false) c.if-out-size.true in record { value = both.0; out_after = both.1 }

pub put_table-k-requires : goal.put_table-k-requires
put_table-k-requires c = c.requires.short

pub slice_bounds-load_in-end : goal.slice_bounds-load_in-end
slice_bounds-load_in-end c = within _ _ _ _ c.requires c.if-out-size.false (sym c.sizes_outside.ensures ∙ c.if-sizes_outside.false) _ _ c.put_table-k.ensures

pub slice_bounds-load_in-end-2 : goal.slice_bounds-load_in-end-2
slice_bounds-load_in-end-2 c = sym (length-take-le _ _ (within _ _ _ _ c.requires c.if-out-size.false (sym c.sizes_outside.ensures ∙ c.if-sizes_outside.false) _ _ c.put_table-k.ensures))

pub refused_at-requires : goal.refused_at-requires
refused_at-requires c = c.requires.short

pub returns-in-Ok : goal.returns-in-Ok
returns-in-Ok c = let both = answers _ _ _ _ c.requires c.if-out-size.false (sym c.sizes_outside.ensures ∙ c.if-sizes_outside.false) _ _ c.put_table-k.ensures c.load_in-loaded.ensures.value
    (rw c.in-Ok.is (ap Ok (placed _ _ _ _ c.requires c.if-out-size.false (sym c.sizes_outside.ensures ∙ c.if-sizes_outside.false) _ _ c.put_table-k.ensures).0)) in record { value = both.0; out_after = both.1 }

pub returns-in-Err : goal.returns-in-Err
returns-in-Err c = let both = answers _ _ _ _ c.requires c.if-out-size.false (sym c.sizes_outside.ensures ∙ c.if-sizes_outside.false) _ _ c.put_table-k.ensures c.load_in-loaded.ensures.value
    (rejected _ c.in-Err.is c.refused_at.ensures) in record { value = both.0; out_after = both.1 }
