-- `joining::given::joined_size` meets its contract: the bytes of a written table, else none.
use Rattle.joining.proofs.given.joined_size.Goals as goal

pub returns-in-Ok : goal.returns-in-Ok
returns-in-Ok c = rw c.in-Ok.is
