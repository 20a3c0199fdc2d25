-- `soundness::blank::all_free` meets its contract: of no workers and no threads, a worker that holds one is wrong.
use mathlib.Core.Path.{◌≡◌, refl, ap, ◌∙◌}
use mathlib.Core.Logic.{◌↔◌}
use Prim.Native.Nat.{ℕ}
use native.Mathlib.Omega.{arith}
use mathlib.Core.List.{List}
use mathlib.Core.Bool.{Bool, true, false, ◌&&◌}
use borrow.Author.Rules.{rules}
use borrow.Author.Tests.{eq-eqb}
use lib.ListN.{length, get_or}
use lib.Dec.{eqb}
use Rattle.schedule.specs.declared.Worker.{Worker}
use Rattle.schedule.specs.Machine.{nobody}
use Rattle.schedule.specs.Sound.{worker_right}
use Rattle.order.specs.Words.{all_below}
use Rattle.schedule.specs.Turn.{is_nobody}
use Rattle.order.proofs.Words.{not_both}
use Rattle.schedule.proofs.Sound.Clauses.{nobody_exactly, worker_right_exactly}
use Rattle.order.proofs.Every.{same_truth, all_cong}
use Rattle.soundness.proofs.blank.all_free.Goals.{Start}
use Rattle.soundness.proofs.blank.all_free.Goals as goal

module _ (l : List Worker) (w : ℕ) where
  free_right : (worker_right 0 0 0 l w ≡ true) ↔ (is_nobody (get_or l w nobody) ≡ true)
  free_right = ((λ e. go (get_or l w nobody).holds refl e), (λ e. back ((nobody_exactly _).0 e)))
    where
      back : get_or l w nobody ≡ nobody → worker_right 0 0 0 l w ≡ true
      back e = (worker_right_exactly 0 0 0 l w).1 ((λ y. absurd (not_both _ y (ap (λ (x : Worker). x.holds) e))), λ y. e)

      go : (q : Bool) → (get_or l w nobody).holds ≡ q → worker_right 0 0 0 l w ≡ true → is_nobody (get_or l w nobody) ≡ true
      go true i e = absurd (omega (arith, (((worker_right_exactly 0 0 0 l w).0 e).0 i).0))
      go false i e = (nobody_exactly _).1 (((worker_right_exactly 0 0 0 l w).0 e).1 i)

all_right : (l : List Worker) → length l ≡ 16 → {b : Bool} → b ≡ all_below (worker_right 0 0 0 l) 16
    → b ≡ (eqb (length l) 16 && all_below (λ w. is_nobody (get_or l w nobody)) 16)
all_right l z e =
    e ∙ all_cong _ _ 16 (λ w h. same_truth _ _ (free_right l w).0 (free_right l w).1) ∙ rw (eq-eqb (length l) 16 z)

worker_size : (c : Start) → length c.args.workers ≡ 16
worker_size c = search rules

pub returns : goal.returns
returns c = all_right _ (worker_size (goal.at.returns c).Start) c.workers_right.ensures
