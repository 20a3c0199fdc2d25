-- What a write's success says.
use Rattle.std.proofs.Common.{Result, Ok, Err, OnOk}

-- a fact of `Ok` under one that follows
pub on_ok : {T E : Type 0} {P Q : Type 0} (r : Result T E) → (P → Q) → OnOk r P → OnOk r Q
on_ok (Ok _) f p = f p
on_ok (Err _) f p = tt
