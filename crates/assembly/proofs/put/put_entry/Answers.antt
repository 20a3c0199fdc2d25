-- `assembly::put::put_entry` meets its contract: a thread has a row, any other line has none.
use Prim.Native.Nat.{ℕ}
use mathlib.Core.Path.{◌≡◌, ap, ◌∙◌}
use mathlib.Core.List.{List}
use Rattle.text.specs.Text.{buffer_at, placed}
use Rattle.text.specs.Puts.{put_all}
use Rattle.assembly.specs.Assembly.{body_count, pair_row, entry_rows}
use Rattle.assembly.specs.declared.Said.{Said}
use Rattle.assembly.specs.declared.Said.TheVariants.{Thread}
use Rattle.assembly.proofs.put.put_entry.Goals as goal

entry : (s o : List ℕ) (at r a count : ℕ) (l : List Said) {x : Said} {t : ℕ} → x ≡ Thread t → count ≡ body_count l → buffer_at o r ≡ placed s at (pair_row a count) → buffer_at o r ≡ put_all (buffer_at s at) (entry_rows x a l)
entry s o at r a count l d e q = rw d (q ∙ ap (λ (j : ℕ). placed s at (pair_row a j)) e)

pub returns-in-Nothing : goal.returns-in-Nothing
returns-in-Nothing c = rw c.in-Nothing.is

pub returns-in-Thread : goal.returns-in-Thread
returns-in-Thread c = entry _ _ _ _ _ _ _ c.in-Thread.is c.body_count-count.ensures.value c.put_pair.ensures

pub returns-in-Action : goal.returns-in-Action
returns-in-Action c = rw c.in-Action.is

pub returns-in-Expects : goal.returns-in-Expects
returns-in-Expects c = rw c.in-Expects.is
