-- `assembly::place::refused_at` meets its contract: a thread's line or an action's, by the number.
use Prim.Native.Nat.{ℕ}
use mathlib.Core.Path.{◌≡◌, refl, ap, ◌∙◌}
use mathlib.Core.List.{List}
use mathlib.Core.Bool.{Bool, true, false}
use Rattle.table.specs.Sum.{pick}
use Rattle.table.specs.declared.Refusal.{Refusal}
use Rattle.assembly.specs.Assembly.{is_thread, is_action, line_that, names_thread, refused_at}
use Rattle.assembly.specs.Code.Steps.{of_sort}
use Rattle.assembly.specs.declared.Said.{Said}
use Rattle.assembly.proofs.place.refused_at.Goals as goal

either : (t : Bool) (k : ℕ) (l : List Said) → line_that (of_sort t) 1 k l ≡ pick t (line_that is_thread 1 k l) (line_that is_action 1 k l)
either true k l = refl
either false k l = refl

placed : (r : Refusal) (l : List Said) {t : Bool} {j : ℕ} → t ≡ names_thread r.number → j ≡ line_that (of_sort t) 1 r.place l → j ≡ refused_at r l
unfolding refused_at
placed r l {t} e q = q ∙ either t r.place l ∙ ap (λ (b : Bool). pick b (line_that is_thread 1 r.place l) (line_that is_action 1 r.place l)) e

pub line_that-requires : goal.line_that-requires
line_that-requires c = c.requires

pub returns : goal.returns
returns c = placed c.args.refusal _ c.names_thread.ensures c.line_that.ensures
