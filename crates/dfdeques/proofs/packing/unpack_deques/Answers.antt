-- `dfdeques::packing::unpack_deques` meets its contract: each part is read where it stands.
use borrow.Author.Rules.{rules}
use Rattle.dfdeques.proofs.packing.unpack_deques.Goals as goal

pub returns : goal.returns
returns c =
    λ i. record { run = c.unpack.ensures i; under = c.row_out.ensures i; over = c.row_out-2.ensures i; first = c.head_at.ensures i }
