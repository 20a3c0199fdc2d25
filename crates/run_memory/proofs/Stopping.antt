-- Where a run stopped, put into the lent row, is what the run answers to C.
use mathlib.Core.Path.{◌≡◌, refl, ap, ◌∙◌}
use Prim.Native.Nat.{ℕ}
use mathlib.Core.List.{List}
use mathlib.Core.Bool.{Bool}
use borrow.Author.Tests.{ne_eqb}
use Rattle.std.specs.Prelude.{Err, Ok, Result}
use Rattle.schedule.specs.Answers.{Said}
use Rattle.run_memory.specs.declared.runs.Stop.{Stop}
use Rattle.run_memory.specs.Memory.{Memory, said_of, run_row, answer, number_in, said_at}
use Rattle.run_memory.specs.Runs.{Stopped, stopped_as, finished_in, stopped_at}

-- no refusal has the number 0
abbrev pub Numbered : {A : Type 0} → Result A ℕ → Type 0
Numbered r = (n : ℕ) → r ≡ Err n → n ≡ 0 → ⊥

said_as : (r : Result Bool ℕ) → Numbered r → said_at r ≡ said_of (number_in r) (finished_in r)
said_as (Ok over) h = refl
said_as (Err n) h = rw (ne_eqb n 0 (h n refl))

pub stopped_answers : (x : Stop) (M : Memory) {d : Stopped} {number : ℕ} {row : List ℕ} → stopped_at x M ≡ d → Numbered x.finished
    → number ≡ number_in x.finished → row ≡ run_row (said_at x.finished) x.turns → answer number row M ≡ stopped_as d
stopped_answers x M e h n r = (λ i. answer (n i) (r i) M) ∙ ap (λ (y : Said). answer (number_in x.finished) (run_row y x.turns) M) (said_as x.finished h) ∙ ap stopped_as e
