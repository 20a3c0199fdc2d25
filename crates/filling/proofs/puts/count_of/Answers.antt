-- `filling::puts::count_of` meets its contract.
use mathlib.Core.Path.{◌≡◌, sym, ◌∙◌}
use Prim.Native.Nat.{ℕ, ◌≤◌, ◌<◌}
use mathlib.Core.List.{List, []}
use native.Mathlib.Omega.{arith}
use lib.ListN.{length, get_or}
use lib.Dec.{leb}
use Rattle.table.specs.Sum.{pick, Read}
use Rattle.table.specs.Format.{table_of}
use Rattle.filling.specs.Filled.{filled_body, filled_bodies, threads_to}
use Rattle.filling.specs.Code.Steps.{Ready, Sizes, size_at}
use borrow.Author.Tests.{le-leb, lt-leb}
use Rattle.filling.proofs.FilledRows.{body_own, body_new, tree_length_is}
use Rattle.filling.proofs.puts.count_of.Goals as goal

module _ (s : List ℕ) (n K c : ℕ) (sums : List ℕ) (p : Ready s n K × ((c < threads_to (table_of s) K (table_of s).actions) × Sizes (table_of s) K sums)) where
  own : (x : ℕ) → c < n → Read (length (filled_body (table_of s) K c)) 65536 x → Read (length (get_or (filled_bodies (table_of s) K) c [])) 65536 x
  own x h v = rw (body_own s n K p.0 c (omega (arith, p.0.threads))) v

  new : (x : ℕ) → n ≤ c → x ≡ pick (leb (get_or sums c 0) 1) 2 5 → x < 65536 → Read (length (get_or (filled_bodies (table_of s) K) c [])) 65536 x
  new x h e f =
      let low : (table_of s).threads ≤ c = omega (arith, p.0.threads) in
      let z : get_or sums c 0 ≡ size_at (table_of s) K c = p.1.1 c low p.1.0 in
      rw (body_new s n K p.0 c low p.1.0) (record { value = rw z at e ∙ sym (tree_length_is c (size_at (table_of s) K c)); small = f })

pub returns-then-c-n : goal.returns-then-c-n
returns-then-c-n c = own c.args.table.now _ _ _ c.args.sums.now (c.requires.ready, (c.requires.c_bound, c.requires.sizes)) _ c.if-c-n.true c.body_count.ensures

pub returns-then-sums-c-le1 : goal.returns-then-sums-c-le1
returns-then-sums-c-le1 c = new c.args.table.now _ _ _ c.args.sums.now (c.requires.ready, (c.requires.c_bound, c.requires.sizes)) _ c.if-c-n.false (rw (le-leb (get_or c.args.sums.now c.args.c 0) 1 c.if-sums-c-le1.true)) (omega arith)

pub returns-else-sums-c-le1 : goal.returns-else-sums-c-le1
returns-else-sums-c-le1 c = new c.args.table.now _ _ _ c.args.sums.now (c.requires.ready, (c.requires.c_bound, c.requires.sizes)) _ c.if-c-n.false (rw (lt-leb (get_or c.args.sums.now c.args.c 0) 1 c.if-sums-c-le1.false)) (omega arith)
