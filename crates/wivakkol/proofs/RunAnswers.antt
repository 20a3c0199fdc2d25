-- On memory in which a record stands, what a run answers to C is the values of the record's run, and the record after it stands in the memory left.
use mathlib.Core.Path.{◌≡◌, refl, ap, ◌∙◌}
use Prim.Native.Nat.{ℕ}
use mathlib.Core.List.{List, [], ◌∷◌}
use mathlib.Core.Bool.{Bool, true, false}
use borrow.Author.Tests.{eqb-true}
use lib.Dec.{eqb}
use Rattle.table.specs.Sum.{pick}
use Rattle.table.specs.Pass.{refusal}
use Rattle.schedule.specs.declared.Ran.{Ran}
use Rattle.schedule.specs.declared.Report.{Report}
use Rattle.schedule.specs.declared.Report.TheVariants.{Finished, Spent, Refused}
use Rattle.schedule.specs.Runs.{list_run, rounds_run}
use Rattle.schedule.specs.Answers.{Values, report_values, Said, nothing, finished, spent}
use Rattle.run_memory.specs.Memory.{Memory, said_code, said_of, run_row, Answer}
use Rattle.run_memory.specs.Stands.{run_in, Stands}
use Rattle.run_memory.specs.Runs.{Stopped, stopped_as, report_of}
use Rattle.run_memory.proofs.RunsRefine.{Runs, list_refines, rounds_refines}
use Rattle.wivakkol.specs.Lent.{lent_list, lent_rounds}

-- the row of the paper's values of a run
abbrev pub values_run : Values → List ℕ
values_run v = v.place ∷ said_code v.said ∷ v.turns ∷ []

-- number and row are those of the report
pub record Reported (number turns : ℕ) (said : Said) (x : Report) : Type 0 where
  pub number_is : number ≡ (report_values x).number
  pub row_is : run_row said turns ≡ values_run (report_values x)

pub reported : (number : ℕ) (over : Bool) (turns : ℕ) → Reported number turns (said_of number over) (report_of number over turns)
reported number over turns = go (eqb number 0) refl over
  where
    go : (b : Bool) → eqb number 0 ≡ b → (o : Bool)
        → Reported number turns (pick b (pick o finished spent) nothing) (pick b (pick o (Finished turns) (Spent turns)) (Refused turns (refusal number 0)))
    go true e true = record { number_is = eqb-true _ _ e; row_is = refl }
    go true e false = record { number_is = eqb-true _ _ e; row_is = refl }
    go false e o = record { number_is = refl; row_is = refl }

-- what is said of an answer: it is the run x of the record
pub record RunAnswers (s : List ℕ) (a : Answer) (x : Ran) : Type 0 where
  pub number : a.number ≡ (report_values x.report).number
  pub row : a.row ≡ values_run (report_values x.report)
  pub record_after : run_in s a.memory ≡ x.run
  pub stands : Stands s a.memory

answers : {s : List ℕ} {d : Stopped} {x : Ran} → Runs s d x → RunAnswers s (stopped_as d) x
answers {s} {d} v =
    let r = reported d.number d.finished d.turns in
    record {
      number = r.number_is ∙ ap (λ (y : Ran). (report_values y.report).number) v.by_value;
      row = r.row_is ∙ ap (λ (y : Ran). values_run (report_values y.report)) v.by_value;
      record_after = ap (λ (y : Ran). y.run) v.by_value;
      stands = v.stands;
    }

module _ (s : List ℕ) (M : Memory) (h : Stands s M) where
  -- a run over a list
  pub list_answers : (l : List ℕ) → RunAnswers s (lent_list s l M) (list_run (run_in s M) l)
  unfolding lent_list
  list_answers l = answers (list_refines s M h l)

  -- a run in rounds
  pub rounds_answers : (limit : ℕ) → RunAnswers s (lent_rounds s limit M) (rounds_run (run_in s M) limit)
  unfolding lent_rounds
  rounds_answers limit = answers (rounds_refines s M h limit)
