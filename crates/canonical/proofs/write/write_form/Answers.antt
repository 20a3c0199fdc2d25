-- `canonical::write::write_form` meets its contract.
use mathlib.Core.Path.{refl, ap, ◌∙◌}
use Prim.Native.Nat.{ℕ, ◌≤◌}
use native.Mathlib.Omega.{arith}
use mathlib.Core.List.{List}
use Rattle.table.specs.Format.{threads_of, table_of}
use Rattle.order.proofs.Lawful.{Lawful}
use lib.ListN.{length}
use Rattle.canonical.proofs.FormPut.{accepts_lawful, form_put}
use Rattle.canonical.proofs.NumbersOf.{numbers_sized}
use Rattle.canonical.proofs.Ordering.{order_sized}
use Rattle.canonical.proofs.write.write_form.Goals as goal

threads_few : (s : List ℕ) → Lawful (table_of s) → threads_of s ≤ 1024
unfolding table_of
threads_few s l = l.few_threads

pub order_in-requires : goal.order_in-requires
order_in-requires c =
    (ap length c.numbers_in.ensures ∙ numbers_sized c.args.table.now, omega (arith, c.threads-n.ensures.value, threads_few c.args.table.now (accepts_lawful c.args.table.now c.requires.0)))

pub put_form-k-requires : goal.put_form-k-requires
put_form-k-requires c =
    omega (arith, ap length c.order_in.ensures, order_sized c.numbers_in.new.new c.threads-n.result, c.threads-n.ensures.value, threads_few c.args.table.now (accepts_lawful c.args.table.now c.requires.0))

pub returns : goal.returns
returns c = record {
  value = form_put c.args.table.now (accepts_lawful c.args.table.now c.requires.0) c.threads-n.result _ _ c.args.out.now c.threads-n.ensures.value c.numbers_in.ensures c.order_in.ensures c.requires.1 _ _
      c.put_form-k.ensures;
  names_after = (refl, refl);
}
