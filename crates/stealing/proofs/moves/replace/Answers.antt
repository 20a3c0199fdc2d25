-- `stealing::moves::replace` meets its contract.
use mathlib.Core.Path.{◌≡◌, refl, ap, ◌∙◌}
use mathlib.Core.Bool.{Bool, true, false}
use lib.Dec.{ltb}
use Rattle.table.specs.Sum.{pick}
use Rattle.run_memory.specs.Blocks.{Words}
use Rattle.run_memory.specs.Code.Writes.{unlinked}
use Rattle.stealing.proofs.moves.replace.Goals as goal

-- both write, or neither
both : (b : Bool) (f : Words → Words) (Y W : Words) → pick b (f (pick b Y W)) (pick b Y W) ≡ pick b (f Y) W
both true f Y W = refl
both false f Y W = refl

pub returns : goal.returns
returns c =
    let d = c.args in
    c.unlink.ensures ∙ ap (λ (X : Words). pick (ltb d.k 5) (unlinked d.k d.h d.t X) X) c.link_left.ensures ∙ both (ltb d.k 5) (unlinked d.k d.h d.t) _ _
