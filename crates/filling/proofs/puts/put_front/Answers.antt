-- `filling::puts::put_front` meets its contract.
use mathlib.Core.Path.{◌≡◌, ap, ◌∙◌}
use Prim.Native.Nat.{ℕ, ◌≤◌, ◌<◌}
use mathlib.Core.List.{List}
use Rattle.table.specs.Format.{code_of}
use Rattle.text.specs.Text.{Buffer, buffer_at, placed, placed_next}
use Rattle.text.specs.Puts.{put_all}
use Rattle.rows.specs.Rows.{cut_action}
use Rattle.filling.specs.Code.Steps.{front_rows}
use borrow.Author.Tests.{le-ltb, lt-ltb}
use Rattle.filling.proofs.puts.put_front.Goals as goal

none : (K x root : ℕ) (b : Buffer) → x ≤ K → b ≡ put_all b (front_rows K x root)
none K x root b h = rw (le-ltb K x h)

two : (K x root : ℕ) (s o q : List ℕ) (at r k : ℕ) → K < x → buffer_at o r ≡ placed s at (cut_action 4 root) → buffer_at q k ≡ placed o r (cut_action 5 root)
    → buffer_at q k ≡ put_all (buffer_at s at) (front_rows K x root)
two K x root s o q at r k h e f = rw (lt-ltb K x h) (f ∙ ap (λ (b : Buffer). placed_next b (cut_action 5 root)) e)

pub returns-then-x-quota : goal.returns-then-x-quota
returns-then-x-quota c = none _ _ _ _ c.if-x-quota.true

pub returns : goal.returns
unfolding code_of
returns c = two _ _ _ c.args.out.now _ _ _ _ _ c.if-x-quota.false c.put_kind-after.ensures c.put_kind.ensures
