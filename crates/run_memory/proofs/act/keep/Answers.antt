-- `run_memory::act::keep` meets its contract: a thread that is taken is held, and the worker has it.
use mathlib.Core.Path.{◌≡◌, refl, sym, ap, ◌∙◌}
use Prim.Native.Nat.{ℕ}
use mathlib.Core.List.{List}
use Rattle.run_memory.specs.Code.Writes.{having, seated_bytes}
use Rattle.run_memory.specs.Blocks.{Bytes, Words, bytes_in, words_in}
use Rattle.run_memory.proofs.Acts.{seated_own, seated_taken, settled_as, settled_words_as, room_still}
use Rattle.run_memory.proofs.act.keep.Goals.{Joined-not-holds_at, then-not-holds_at, else-not-holds_at}
use Rattle.run_memory.proofs.act.keep.Goals as goal

-- the bytes after the test
seated : (c : Joined-not-holds_at) → bytes_in c.if-not-holds_at.bytes ≡ seated_bytes c.args.w c.args.t (bytes_in c.args.bytes.now)
seated c =
    let B : Bytes = bytes_in c.args.bytes.now in
    elim c.if-not-holds_at.branch [
      | then-not-holds_at z ↦ seated_taken B c.args.w c.args.t (sym c.holds_at.ensures ∙ z.if-not-holds_at.true) (ap (λ (l : List ℕ). bytes_in l) z.bytes-is ∙ z.put_status.ensures)
      | else-not-holds_at z ↦ seated_own B c.args.w c.args.t (sym c.holds_at.ensures ∙ z.if-not-holds_at.false) (ap (λ (l : List ℕ). bytes_in l) z.bytes-is)
    ]

pub settle-requires : goal.settle-requires
settle-requires c =
    room_still c.requires (ap (λ (B : Bytes). B.holds) (seated (goal.at.settle-requires c).Joined-not-holds_at)) refl

pub returns : goal.returns
returns c = let z = having c.args.t c.args.quota in
    let same : ◌≡◌ {A = Words} (words_in c.args.words.now) (words_in c.args.words.now) = refl in record { bytes_after = settled_as c.args.w z (seated (goal.at.returns c).Joined-not-holds_at) c.settle.ensures.bytes_after; words_after = settled_words_as c.args.w z (seated (goal.at.returns c).Joined-not-holds_at) same c.settle.ensures.words_after; numbers_after = c.settle.ensures.numbers_after }
