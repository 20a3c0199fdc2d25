-- What the calls from C leave in the numbers lent to them. A call's answer is the refusal's number, 0 where there is none; the lent row has the place first and then the call's values,
-- all 0 where the call is refused. Of a table, a quota and a limit of turns both are those of the paper's values (`table_values` of table, `values_for` of quota, `most_values_for` of most); of the
-- useful limit and the quota that fits, which are no paper's, they are read off the answer by value.
use Rattle.std.specs.Prelude.{ℕ, List, [], ◌∷◌, Err, Ok, Result}
use Rattle.useful_limit.specs.declared.Numbers.{Numbers}
use Rattle.table.specs.declared.Refusal.{Refusal}
use Rattle.table.specs.Load.{TableValues}
use Rattle.quota.specs.Quota.{QuotaValues}
use Rattle.most.specs.Most.{MostValues}
use Rattle.useful_limit.specs.declared.Fitted.{Fitted}
use Rattle.useful_limit.specs.declared.Fitted.TheVariants.{Fits, Short}

-- of a table: the place, n, m, S1, D and N
abbrev pub facts_row : TableValues → List ℕ
facts_row v = v.place ∷ v.threads ∷ v.actions ∷ v.peak ∷ v.depth ∷ v.nested ∷ []

-- of a quota: the place and K
abbrev pub quota_row : QuotaValues → List ℕ
quota_row v = v.place ∷ v.quota ∷ []

-- of a limit of turns: the place and L
abbrev pub most_row : MostValues → List ℕ
most_row v = v.place ∷ v.limit ∷ []

-- of the useful limit: the place, the limit, S1, S_p, the parallel peak and the largest draw of a stretch
abbrev pub limit_number : Result Numbers Refusal → ℕ
limit_number (Ok x) = 0
limit_number (Err r) = r.number

abbrev pub limit_row : Result Numbers Refusal → List ℕ
limit_row (Ok x) = 0 ∷ x.memory ∷ x.serial ∷ x.peak ∷ x.parallel ∷ x.stretch ∷ []
limit_row (Err r) = r.place ∷ 0 ∷ 0 ∷ 0 ∷ 0 ∷ 0 ∷ []

-- of the quota that fits: the place, 1 if one fits, the quota and the memory that it needs
abbrev pub fit_number : Result Fitted Refusal → ℕ
fit_number (Ok x) = 0
fit_number (Err r) = r.number

abbrev pub fit_row : Result Fitted Refusal → List ℕ
fit_row (Ok (Fits K X)) = 0 ∷ 1 ∷ K ∷ X ∷ []
fit_row (Ok (Short K X)) = 0 ∷ 0 ∷ K ∷ X ∷ []
fit_row (Err r) = r.place ∷ 0 ∷ 0 ∷ 0 ∷ []
