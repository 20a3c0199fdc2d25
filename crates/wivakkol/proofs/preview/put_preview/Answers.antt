-- `wivakkol::preview::put_preview` meets its contract: the first five numbers are those of the turn's row.
use Rattle.wivakkol.proofs.preview.put_preview.Goals as goal

pub returns : goal.returns
returns c = rw c.put_reply.ensures
