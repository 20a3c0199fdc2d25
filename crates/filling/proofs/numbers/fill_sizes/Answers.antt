use mathlib.Core.Path.{◌≡◌}
use Prim.Native.Nat.{ℕ, ◌+◌, ◌*◌, ◌≤◌, ◌<◌}
use mathlib.Core.List.{List}
use native.Mathlib.Omega.{arith}
use lib.ListN.{get_or}
use Rattle.table.specs.Format.{table_of}
use Rattle.filling.specs.Filled.{half, threads_to}
use Rattle.filling.specs.Code.Steps.{Ready, Sums, RootsTo, Sizes, split_at}
use Rattle.filling.proofs.Numbering.{size_right, size_small, children_in, split_next, sizes_all}
use Rattle.filling.proofs.numbers.fill_sizes.Invariants.{Inv}
use Rattle.filling.proofs.numbers.fill_sizes.Goals as goal

start : (s : List ℕ) (n K total : ℕ) (sums : List ℕ) → Ready s n K → total ≡ threads_to (table_of s) K (table_of s).actions → Sums (table_of s) K sums 0
    → RootsTo (table_of s) K (table_of s).actions sums → Inv s n K total sums n
start s n K total sums r e v w =
    record {
      ready = r;
      all = e;
      low = omega arith;
      children =
          record {
            sums_right = v;
            roots_right = w;
            left = λ p i j. absurd (omega (arith, r.threads));
            right = λ p i j. absurd (omega (arith, r.threads));
          };
    }

module _ (s : List ℕ) (n K total : ℕ) (sums : List ℕ) (c : ℕ) (i : Inv s n K total sums c) where
  own : (table_of s).threads ≤ c
  own = omega (arith, i.ready.threads, i.low)

  asks : c < total → ((c < 1024) × (get_or sums c 0 < 1024)) × (1 < get_or sums c 0 → c + 2 * half (get_or sums c 0) < 1024)
  asks h =
      let high : c < threads_to (table_of s) K (table_of s).actions = omega (arith, i.all) in
      let few : threads_to (table_of s) K (table_of s).actions ≤ 1024 = i.ready.few_threads in
      rw (size_right s n K i.ready c own high sums i.children)
      ((omega arith, size_small s n K i.ready c own high), (λ d. omega (arith, (children_in s n K i.ready c own high d).0)))

  again : (sums' : List ℕ) → c < total → sums' ≡ split_at c (get_or sums c 0) sums → Inv s n K total sums' (c + 1)
  again sums' h e =
      record {
        ready = i.ready;
        all = i.all;
        low = omega (arith, i.low);
        children = split_next s n K i.ready c own (omega (arith, i.all)) sums sums' i.children e;
      }

  done : total ≤ c → Sums (table_of s) K sums 0 × Sizes (table_of s) K sums
  done h = (i.children.sums_right, sizes_all s n K i.ready c sums (omega (arith, i.all)) i.children)

pub loop-c-init : goal.loop-c-init
loop-c-init c =
    start c.args.table.now _ _ _ c.args.sums.now c.requires.ready c.requires.total_value c.requires.sums c.requires.roots_to

pub split-requires : goal.split-requires
split-requires c = let both = asks _ _ _ _ _ _ c.loop-c.invariant c.loop-c-test.true in record { c_bound = both.0; c_bound_2 = both.1 }

pub loop-c-preserved : goal.loop-c-preserved
loop-c-preserved c = again _ _ _ _ _ _ c.loop-c.invariant _ c.loop-c-test.true c.split.ensures

pub returns : goal.returns
returns c = let both = done _ _ _ _ _ _ c.loop-c.invariant c.loop-c-test.false in record { sums_2 = both.0; sizes = both.1 }
