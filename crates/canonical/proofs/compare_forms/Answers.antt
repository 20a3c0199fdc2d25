-- `canonical::compare_forms` meets its contract: what lies at the two buffers' starts are the forms.
use mathlib.Core.Path.{◌≡◌, sym, ◌∙◌}
use Prim.Native.Nat.{ℕ, ◌≤◌}
use mathlib.Core.List.{List}
use lib.ListN.{length}
use lib.Seq.{length-take-le}
use Rattle.canonical.specs.Canonical.{canonical}
use Rattle.canonical.specs.Order.{byte_order}
use Rattle.canonical.proofs.ByteOrder.{by_slices}
use Rattle.canonical.proofs.FormPut.{over_within, over_front}
use Rattle.canonical.proofs.compare_forms.Goals.{After-write_form-k, After-write_form-l}
use Rattle.canonical.proofs.compare_forms.Goals as goal

same_order : (a b f g : List ℕ) → a ≡ f → b ≡ g → byte_order a b ≡ byte_order f g
same_order a b f g p q = rw (p, q)

first_within : (c : After-write_form-k) → c.write_form-k.result ≤ length c.write_form-k.new.out
first_within c =
    let d = c.args in
    let w = c.write_form-k.ensures.value in
    over_within (canonical d.first.now) d.a.now _ _ w.0 w.1

second_within : (c : After-write_form-l) → c.write_form-l.result ≤ length c.write_form-l.new.out
second_within c =
    let d = c.args in
    let w = c.write_form-l.ensures.value in
    over_within (canonical d.second.now) d.b.now _ _ w.0 w.1

pub slice_bounds-cmp-end : goal.slice_bounds-cmp-end
slice_bounds-cmp-end c = first_within (goal.at.slice_bounds-cmp-end c).After-write_form-k

pub slice_bounds-cmp-end-2 : goal.slice_bounds-cmp-end-2
slice_bounds-cmp-end-2 c = sym (length-take-le _ _ (first_within (goal.at.slice_bounds-cmp-end-2 c).After-write_form-k))

pub slice_bounds-cmp-end-3 : goal.slice_bounds-cmp-end-3
slice_bounds-cmp-end-3 c = second_within (goal.at.slice_bounds-cmp-end-3 c).After-write_form-l

pub slice_bounds-cmp-end-4 : goal.slice_bounds-cmp-end-4
slice_bounds-cmp-end-4 c = sym (length-take-le _ _ (second_within (goal.at.slice_bounds-cmp-end-4 c).After-write_form-l))

pub returns : goal.returns
returns c = let p = c.write_form-k.ensures.value in
    let q = c.write_form-l.ensures.value in
    let d = c.args in record {
      value = c.cmp.ensures
          ∙ by_slices _ _
          ∙ same_order _ _ (canonical d.first.now) (canonical d.second.now) (over_front (canonical d.first.now) d.a.now _ _ p.0 p.1) (over_front (canonical d.second.now) d.b.now _ _ q.0 q.1);
      a_after = p.1;
      b_after = q.1;
      names_after = c.write_form-l.ensures.names_after;
    }
