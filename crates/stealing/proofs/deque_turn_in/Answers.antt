-- `stealing::deque_turn_in` meets its contract: 32, 30, 31, 49, then the turn.
use mathlib.Core.Path.{◌≡◌, refl, sym, ap, ◌∙◌}
use Prim.Native.Nat.{ℕ}
use lib.ListN.{get_or}
use Rattle.std.specs.Prelude.{Err, Result}
use Rattle.schedule.specs.declared.Reply.{Reply}
use Rattle.schedule.specs.declared.Reply.TheVariants.{Idle}
use Rattle.run_memory.specs.Memory.{Memory, Told, told, moved_in, number_in}
use Rattle.run_memory.specs.Blocks.{memory_of}
use Rattle.run_memory.proofs.Takes.{free, refused_as, err_is}
use Rattle.stealing.specs.StealingMemory.{said_in}
use Rattle.stealing.proofs.Steals.{asked_hindrance, none_before, hindered, goes_on}
use Rattle.stealing.proofs.deque_turn_in.Goals as goal

-- what `?` hands on is a refusal
module _ (r : Result Reply ℕ) {n : ℕ} (e : r ≡ Err n) where
  hands : {M : Memory} {t : Told} → told n Idle M ≡ t → told (number_in r) (said_in r) M ≡ t
  hands {M} d = ap (λ (y : Result Reply ℕ). told (number_in y) (said_in y) M) e ∙ d

  numbered : (n ≡ 0 → ⊥) → (k : ℕ) → r ≡ Err k → k ≡ 0 → ⊥
  numbered h k d z = let p : n ≡ k = cc (sym e ∙ d) in h (p ∙ z)

pub returns-in_err-hindrance-clause-turn_value : goal.returns-in_err-hindrance-clause-turn_value
returns-in_err-hindrance-clause-turn_value c =
    let f = refused_as _ c.hindrance.ensures c.in_err-hindrance.was in
    hands c.from_residual.result (err_is _ c.from_residual.ensures)
    (hindered c.args.table.now c.args.w c.args.c (memory_of c.args.bytes.now c.args.words.now c.args.numbers.now c.args.sums.now) (asked_hindrance c.args.w c.args.c c.total_at.ensures c.setting_at.ensures c.status_at.ensures f.0) f.1)

pub returns-in_err-hindrance-clause-nonzero : goal.returns-in_err-hindrance-clause-nonzero
returns-in_err-hindrance-clause-nonzero c =
    numbered c.from_residual.result (err_is _ c.from_residual.ensures) (refused_as _ c.hindrance.ensures c.in_err-hindrance.was).1

pub take-requires : goal.take-requires
take-requires c =
    let M = memory_of c.args.bytes.now c.args.words.now c.args.numbers.now c.args.sums.now in
    none_before (moved_in M).turns (get_or M.settings 0 0) c.args.w c.args.c (get_or M.arrays.status 0 0)
    (sym (asked_hindrance c.args.w c.args.c c.total_at.ensures c.setting_at.ensures c.status_at.ensures refl) ∙ free _ c.hindrance.ensures c.in_ok-hindrance.was)

pub returns-clause-turn_value : goal.returns-clause-turn_value
returns-clause-turn_value c =
    c.take.ensures.turn_value ∙ goes_on c.args.table.now c.args.w c.args.c (memory_of c.args.bytes.now c.args.words.now c.args.numbers.now c.args.sums.now) (asked_hindrance c.args.w c.args.c c.total_at.ensures c.setting_at.ensures c.status_at.ensures refl) (free _ c.hindrance.ensures c.in_ok-hindrance.was)
