-- `peak_walk::parallel::pass_on` meets its contract.
use Rattle.std.proofs.Common.{refl, ◌≡◌, ℕ, ◌+◌, ◌%◌, ◌^◌, max, List}
use Rattle.table.specs.declared.kinds.Kind.{Kind}
use Rattle.peak_walk.specs.Code.Walk.{balance_after}
use Rattle.peak_walk.specs.Code.Parallel.{children_after, pass, passed_on}
use Rattle.peak_walk.proofs.parallel.pass_on.Goals as goal

counted : (bests finals : List ℕ) (k : Kind) (x balance children last b c s m : ℕ) → b ≡ balance_after finals k x balance → c ≡ children_after bests k x children → s ≡ (b + c) % 2 ^ 64
    → m ≡ max last s → pass b c m ≡ passed_on bests finals k x (pass balance children last)
unfolding passed_on
counted bests finals k x balance children last b c s m balance_is children-are sum_is_lem most_is = rw (most_is, sum_is_lem, balance_is, children-are)

pub returns : goal.returns
returns c =
    let g = c.args in
    rw (← c.kind-kind.ensures)
    (counted g.bests.now g.finals.now c.kind-kind.result g.action.argument g.w.balance g.w.children g.w.most c.balance_after-balance.result c.children_after-children.result _
    c.max-most.result c.balance_after-balance.ensures c.children_after-children.ensures refl c.max-most.ensures)
