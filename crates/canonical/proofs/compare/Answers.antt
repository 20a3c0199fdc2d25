-- `canonical::compare` meets its contract, which is `compare_in`'s.
use Rattle.canonical.proofs.compare.Goals as goal

pub returns : goal.returns
returns c = record { value = c.compare_in.ensures.value; result_value = c.compare_in.ensures.result_value; a_after = c.compare_in.ensures.a_after; b_after = c.compare_in.ensures.b_after }
