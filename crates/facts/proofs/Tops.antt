-- The walk over a body for its peak, against the thread that the body is of: its children count at their forks, and their amounts and peaks are in arrays.
use mathlib.Core.Path.{◌≡◌, refl, sym, ◌∙◌}
use Prim.Native.Nat.{ℕ, suc, ◌+◌, ◌*◌, ◌≤◌, ◌<◌}
use mathlib.Core.List.{List}
use native.Mathlib.Omega.{arith}
use lib.ListN.{get_or}
use Rattle.table.specs.Sum.{pick, sum_to, greatest_to}
use Rattle.table.specs.Format.{kind_of, is, Table, kind, table_of, first_of, body_of, code_at, argument_at, own_amount}
use Rattle.table.specs.declared.kinds.Kind.{Kind}
use Rattle.table.specs.declared.kinds.Kind.TheVariants.{Alloc as alloc, Free as free, Fork as fork}
use Rattle.table.specs.Checks.{alloc_of, free_of, whole}
use Rattle.table.specs.Rules.{ContentRules, BodyRules}
use Rattle.table.specs.Code.Steps.{child_amount, amount_at, Filled, WalkReady}
use Rattle.facts.specs.Code.Steps.{Kept, top_of, PeaksReady}
use Rattle.table.proofs.Tests.{pick_same}
use Rattle.table.proofs.Sizes.{sizes}
use Rattle.table.proofs.Bodies.{names_fork}
use Rattle.table.proofs.Amounts.{fork_part, fork_part_bound, fork_part_whole}
use Rattle.table.proofs.Peaks.{peak_at, fork_part_held, peak_thread, peak_bound}
use Rattle.table.proofs.Parts.{code_part, argument_part}
use Rattle.table.proofs.Walks as walks
use Rattle.table.proofs.Sums.{greatest_to_cong}

-- an action's own amount: `alloc_of` and `free_of`, over the kind that is counted
abbrev own_of : Table → Kind → ℕ → ℕ
own_of T own a = own_amount own (kind T a) (T.argument a)

-- What a walk over thread t's body needs and finds, with the children's amounts in the arrays.
module _ (s : List ℕ) (n m : ℕ) (k : Kept s n m) (bytes : (i : ℕ) → get_or s i 0 < 256) (rises falls peaks : List ℕ) (t : ℕ) (h : t < n)
    (rising : Filled (table_of s) (whole (table_of s) (alloc_of (table_of s))) rises (suc t))
    (falling : Filled (table_of s) (whole (table_of s) (free_of (table_of s))) falls (suc t))
    (peaking : Filled (table_of s) (peak_at (table_of s)) peaks (suc t)) where
  contents : ContentRules (table_of s)
  contents = k.nested.formed.laid.contents

  bodies : BodyRules (table_of s)
  bodies = k.nested.formed.bodies

  thread : t < (table_of s).threads
  unfolding table_of
  thread = omega (arith, k.nested.formed.laid.headed.threads)

  actions_are : m ≡ (table_of s).actions
  unfolding table_of
  actions_are = k.nested.formed.laid.headed.actions

  above : walks.ChildrenAbove (table_of s) fork t
  above = walks.children_above (table_of s) contents bodies fork names_fork t thread

  own_bound : (own : Kind) (a : ℕ) → a < (table_of s).actions → own_of (table_of s) own a ≤ 16777215
  own_bound own a w = walks.own_small own (kind (table_of s) a) ((table_of s).argument a) (walks.argument_small s bytes a)

  part_is : (own : Kind) (amounts : List ℕ) → Filled (table_of s) (whole (table_of s) (own_of (table_of s) own)) amounts (suc t) → (i : ℕ) → i ≤ (table_of s).count t
      → sum_to (amount_at own fork (body_of s t) amounts) i ≡ fork_part (table_of s) (own_of (table_of s) own) t i
  part_is own amounts f i j =
      walks.sums_agree s own fork (own_of (table_of s) own) (λ a. refl) amounts t above f i j

  sum_small : (own : Kind) (amounts : List ℕ) → Filled (table_of s) (whole (table_of s) (own_of (table_of s) own)) amounts (suc t)
      → sum_to (amount_at own fork (body_of s t) amounts) ((table_of s).count t) ≤ 16777215 * m
  sum_small own amounts f =
      let l : (table_of s).count t ≤ (table_of s).count t = omega arith in
      rw (part_is own amounts f ((table_of s).count t) l, actions_are)
      (fork_part_bound (table_of s) contents bodies k.nested.nesting (own_of (table_of s) own) 16777215 (own_bound own) t ((table_of s).count t) thread l)

  -- the peak of the child that action i forks
  forked_peak : (i : ℕ) → i < (table_of s).count t → kind (table_of s) ((table_of s).first t + i) ≡ fork
      → get_or peaks ((table_of s).argument ((table_of s).first t + i)) 0 ≡ peak_at (table_of s) ((table_of s).argument ((table_of s).first t + i))
  forked_peak i j e = let p = above i j e in peaking.right ((table_of s).argument ((table_of s).first t + i)) p.0 p.1

  child_peak : (i : ℕ) → i < (table_of s).count t → child_amount fork (kind_of (code_at (body_of s t) i)) (argument_at (body_of s t) i) peaks
      ≡ pick (is fork (kind (table_of s) ((table_of s).first t + i))) (peak_at (table_of s) ((table_of s).argument ((table_of s).first t + i))) 0
  unfolding table_of
  child_peak i j = rw (code_part, argument_part) (pick_same fork _ _ _ (forked_peak i j))

  child_small : (i : ℕ) → i < (table_of s).count t → kind_of (code_at (body_of s t) i) ≡ fork → get_or peaks (argument_at (body_of s t) i) 0 ≤ 16777215 * m
  unfolding table_of alloc_of
  child_small i j e =
      let o : kind (table_of s) (first_of s t + i) ≡ fork = rw code_part at e in
      let w : (table_of s).argument (first_of s t + i) < (table_of s).threads = (above i j o).1 in
      rw (argument_part, forked_peak i j o, actions_are)
      (peak_bound (table_of s) contents bodies k.nested.nesting k.balances 16777215 (own_bound alloc) ((table_of s).argument (first_of s t + i)) w)

  pub walk_ready : WalkReady fork (body_of s t) ((table_of s).count t) rises falls
  unfolding alloc_of free_of table_of
  walk_ready =
      walks.walk_ready s n m k.nested.formed fork t ((table_of s).count t) rises falls h refl above (sum_small alloc rises rising) (sum_small free falls falling)

  pub peaks_ready : PeaksReady (body_of s t) ((table_of s).count t) rises falls peaks
  unfolding alloc_of free_of
  peaks_ready =
      record {
        held = λ i j.
            rw (part_is alloc rises rising i j, part_is free falls falling i j)
            (fork_part_held (table_of s) contents bodies k.nested.nesting k.balances t i thread j);
        small = λ i j e. omega (arith, child_small i j e, sizes k.nested.formed.laid.headed);
      }

  pub peak_found : greatest_to (top_of (body_of s t) rises falls peaks) ((table_of s).count t) ≡ peak_at (table_of s) t
  unfolding top_of alloc_of free_of
  peak_found =
      greatest_to_cong _ _ ((table_of s).count t)
      (λ i j.
      let l : i ≤ (table_of s).count t = omega arith in
      rw (part_is alloc rises rising i l, part_is free falls falling i l, child_peak i j))
      ∙ sym (peak_thread (table_of s) contents bodies k.nested.nesting k.balances t thread)

  -- with every child counted at its fork, a body's sums are the whole thread's: every child is joined
  whole_found : (own : Kind) (amounts : List ℕ) → Filled (table_of s) (whole (table_of s) (own_of (table_of s) own)) amounts (suc t)
      → sum_to (amount_at own fork (body_of s t) amounts) ((table_of s).count t) ≡ whole (table_of s) (own_of (table_of s) own) t
  whole_found own amounts f =
      part_is own amounts f ((table_of s).count t) (omega arith) ∙ fork_part_whole (table_of s) contents bodies k.nested.nesting (own_of (table_of s) own) t thread

  pub rise_found : sum_to (amount_at alloc fork (body_of s t) rises) ((table_of s).count t) ≡ whole (table_of s) (alloc_of (table_of s)) t
  unfolding alloc_of
  rise_found = whole_found alloc rises rising

  pub fall_found : sum_to (amount_at free fork (body_of s t) falls) ((table_of s).count t) ≡ whole (table_of s) (free_of (table_of s)) t
  unfolding free_of
  fall_found = whole_found free falls falling
