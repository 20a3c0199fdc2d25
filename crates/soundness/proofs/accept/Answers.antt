-- `soundness::accept` meets its contract: `accept_in` on working memory of its own.
use Rattle.soundness.proofs.accept.Goals as goal

pub returns : goal.returns
returns c = let e = c.accept_in.ensures in record { value = e.value; filled_after = e.filled_after; next_after = e.next_after; parents_after = e.parents_after }
