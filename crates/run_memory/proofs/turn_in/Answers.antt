-- `run_memory::turn_in` meets its contract: hindered, or taken.
use mathlib.Core.Path.{◌≡◌, refl, sym, ap, ◌∙◌}
use Prim.Native.Nat.{ℕ}
use mathlib.Core.Bool.{Bool, ◌&&◌}
use lib.Dec.{eqb}
use Rattle.std.specs.Prelude.{Err, Result}
use Rattle.table.specs.Sum.{pick}
use Rattle.schedule.specs.declared.Taken.{Taken}
use Rattle.schedule.specs.declared.Reply.TheVariants.{Idle}
use borrow.Author.Tests.{ne_eqb}
use Rattle.run_memory.specs.Memory.{Memory, Told, told, passed_over, number_in, reply_in, passed_in}
use Rattle.run_memory.specs.Blocks.{memory_of}
use Rattle.run_memory.proofs.Takes.{hindered, goes_on, asked_hindrance, free, refused_as, err_is, passes_none}
use Rattle.run_memory.proofs.turn_in.Goals as goal

-- what `?` hands on is a refusal, which moves nothing and passes none over
module _ (r : Result Taken ℕ) {n : ℕ} (e : r ≡ Err n) where
  hands : {M : Memory} {t : Told} → told n Idle M ≡ t → told (number_in r) (reply_in r) M ≡ t
  hands {M} d = ap (λ (y : Result Taken ℕ). told (number_in y) (reply_in y) M) e ∙ d

  numbered : (n ≡ 0 → ⊥) → (k : ℕ) → r ≡ Err k → k ≡ 0 → ⊥
  numbered h k d z = let p : n ≡ k = cc (sym e ∙ d) in h (p ∙ z)

  passes : (counting : Bool) (x : ℕ) → (n ≡ 0 → ⊥) → passed_in r ≡ pick (counting && eqb (number_in r) 0) x 0
  passes counting x h = rw e (passes_none counting n x (ne_eqb n 0 h))

pub returns-in_err-hindrance-clause-sums_after : goal.returns-in_err-hindrance-clause-sums_after
returns-in_err-hindrance-clause-sums_after c =
    let f = refused_as _ c.hindrance.ensures c.in_err-hindrance.was in
    hands c.from_residual.result (err_is _ c.from_residual.ensures)
    (hindered c.args.table.now c.args.w (memory_of c.args.bytes.now c.args.words.now c.args.numbers.now c.args.sums.now) (asked_hindrance c.args.w c.total_at.ensures c.setting_at.ensures c.status_at.ensures f.0) f.1)

pub returns-in_err-hindrance-clause-nonzero : goal.returns-in_err-hindrance-clause-nonzero
returns-in_err-hindrance-clause-nonzero c =
    numbered c.from_residual.result (err_is _ c.from_residual.ensures) (refused_as _ c.hindrance.ensures c.in_err-hindrance.was).1

pub returns-in_err-hindrance-clause-passed_value : goal.returns-in_err-hindrance-clause-passed_value
returns-in_err-hindrance-clause-passed_value c =
    passes c.from_residual.result (err_is _ c.from_residual.ensures) c.args.counting (passed_over (memory_of c.args.bytes.now c.args.words.now c.args.numbers.now c.args.sums.now) c.args.w) (refused_as _ c.hindrance.ensures c.in_err-hindrance.was).1

pub returns-clause-sums_after : goal.returns-clause-sums_after
returns-clause-sums_after c =
    let f = free _ c.hindrance.ensures c.in_ok-hindrance.was in
    c.take.ensures.sums_after ∙ goes_on c.args.table.now c.args.w (memory_of c.args.bytes.now c.args.words.now c.args.numbers.now c.args.sums.now) (asked_hindrance c.args.w c.total_at.ensures c.setting_at.ensures c.status_at.ensures refl) f
