-- `listing::sheets::put_header` meets its contract: the line of the facts.
use borrow.Author.Rules.{rules}
use Rattle.listing.proofs.sheets.put_header.Goals as goal

pub returns : goal.returns
returns c = rw c.load-loaded.ensures.value at c.put_answer.ensures
