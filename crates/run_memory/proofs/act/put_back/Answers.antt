-- `run_memory::act::put_back` meets its contract: one write after the other.
use mathlib.Core.Path.{◌≡◌, refl, ap}
use Rattle.schedule.specs.Machine.{nobody}
use Rattle.run_memory.specs.Blocks.{Bytes, Words, words_in}
use Rattle.run_memory.proofs.Acts.{settled_as, settled_words_as, room_still}
use Rattle.run_memory.proofs.act.put_back.Goals as goal

pub let_go-requires : goal.let_go-requires
let_go-requires c =
    room_still c.requires (ap (λ (B : Bytes). B.holds) c.put_status.ensures) refl

pub returns : goal.returns
returns c = let W = words_in c.args.words.now in
    let same : ◌≡◌ {A = Words} W W = refl in record { bytes_after = settled_as c.args.w nobody c.put_status.ensures c.let_go.ensures.bytes_after; words_after = settled_words_as c.args.w nobody c.put_status.ensures same c.let_go.ensures.words_after; numbers_after = c.let_go.ensures.numbers_after }
