-- No loader that gives all bytes one kind of answer is the one meant: a worked case of document 01 is accepted, and one is refused.
use Rattle.std.specs.Prelude.{◌≡◌, Err, Ok, Result}
use Rattle.std.proofs.Common.{ap, arith}
use Rattle.table.specs.Load.{TableValues, values_of, loaded}
use Rattle.table.specs.Cases.{E, overfreed, accepted, refused, cases, worked}
use Rattle.table.specs.declared.Facts.{Facts}
use Rattle.table.specs.declared.Refusal.{Refusal}

-- a loader that refuses everything gives no threads for table E, which has 3
pub refuses_all_wrong : (r : Refusal) → loaded E ≡ Err r → ⊥
unfolding cases
refuses_all_wrong r h =
    let row : values_of (loaded E) ≡ (accepted E 3 12 6 8 2).values = cc worked in
    omega (arith, ap (λ (v : TableValues). v.threads) row, ap (λ (a : Result Facts Refusal). (values_of a).threads) h)

-- a loader that accepts everything gives no number for "Alloc 6, free 7, end", which is refused with 10
pub accepts_all_wrong : (f : Facts) → loaded overfreed ≡ Ok f → ⊥
unfolding cases
accepts_all_wrong f h =
    let row : values_of (loaded overfreed) ≡ (refused overfreed 10 1).values = cc worked in
    omega (arith, ap (λ (v : TableValues). v.number) row, ap (λ (a : Result Facts Refusal). (values_of a).number) h)
