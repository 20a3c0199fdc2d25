-- `filling::fill_in` meets its contract: nothing is written where nothing is filled out or the room is too little, else the whole table.
use mathlib.Core.Path.{◌≡◌, refl, sym, ◌∙◌}
use Prim.Native.Nat.{ℕ}
use mathlib.Core.List.{List}
use Rattle.table.specs.Format.{threads_of, table_of}
use Rattle.std.proofs.lemmas.Result.{err_from_is_err_and}
use Rattle.filling.proofs.Measured.{total_refused, total_is, untouched, too_little, build_ready, built}
use Rattle.filling.proofs.fill_in.Goals as goal

threads_is : (s : List ℕ) (n : ℕ) → n ≡ threads_of s → n ≡ (table_of s).threads
unfolding table_of
threads_is s n e = e

pub returns-in_err-total : goal.returns-in_err-total
returns-in_err-total c =
    let s = c.args.table.now in
    let p = err_from_is_err_and c.from_residual.result c.from_residual.ensures.1 in
    let e = total_refused s c.args.quota (sym c.in_err-total.was ∙ c.total_for.ensures.value) in
    record { value = rw (p.1, p.2) e; out_after = untouched s _ c.args.out.now _ e refl; rises_after = c.total_for.ensures.rises_after }

pub returns-then-bytes-eq0 : goal.returns-then-bytes-eq0
returns-then-bytes-eq0 c =
    let e = c.bytes_of-bytes.ensures in
    let z = c.if-bytes-eq0.true in
    record { value = rw z at e; out_after = untouched c.args.table.now _ c.args.out.now _ e z; rises_after = c.total_for.ensures.rises_after }

pub returns-then-out-bytes : goal.returns-then-out-bytes
returns-then-out-bytes c =
    let e = c.bytes_of-bytes.ensures in
    record { value = e; out_after = too_little c.args.table.now _ c.args.out.now _ e c.if-bytes-eq0.false c.if-out-bytes.true; rises_after = c.total_for.ensures.rises_after }

pub build-requires : goal.build-requires
build-requires c =
    let s = c.args.table.now in
    record {
      ready = build_ready s _ c.args.out.now _ c.bytes_of-bytes.ensures c.if-bytes-eq0.false _ (threads_is s _ c.threads-n.ensures.value);
      total = total_is s c.args.quota (sym c.in_ok-total.was ∙ c.total_for.ensures.value);
    }

pub returns : goal.returns
returns c =
    let e = c.bytes_of-bytes.ensures in
    record { value = e; out_after = built c.args.table.now _ c.args.out.now _ e c.if-bytes-eq0.false _ _ c.if-out-bytes.false c.build.ensures; rises_after = (refl, refl) }
