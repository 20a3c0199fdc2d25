-- Setting a mark leaves marks whose rows have the lengths that they had, and going back a run; and so does packing a record that passes 32.
use mathlib.Core.Path.{◌≡◌, refl, sym, ap, subst, ◌∙◌}
use Prim.Native.Nat.{ℕ, zero, suc, ◌<◌}
use native.Mathlib.Omega.{arith}
use native.Mathlib.Decide.{ℕ_discrete}
use mathlib.Core.List.{List}
use mathlib.Core.Bool.{Bool, true, false}
use borrow.Author.Tests.{ltb-true}
use lib.Dec.{ltb, eqb}
use lib.ListN.{length, get_or, set, length-set}
use lib.Seq.{get_or-set_same, get_or-set_other}
use Rattle.table.specs.Sum.{pick}
use Rattle.table.specs.Checks.{max_threads}
use Rattle.order.proofs.Lists.{firsts_length}
use Rattle.schedule.specs.declared.Run.{Run}
use Rattle.schedule.specs.Links.{no_thread, Links, link_last}
use Rattle.schedule.specs.Machine.{waiting}
use Rattle.schedule.specs.Actives.{no_links, filled_from}
use Rattle.schedule.specs.Record.{blank, table_in}
use Rattle.schedule.specs.Turn.{unsound}
use Rattle.schedule.specs.Sound.{Steady, sound}
use Rattle.schedule.proofs.Stores.{steady_lawful}
use Rattle.schedule.proofs.Sound.Sharing.{shares_size}
use Rattle.schedule.proofs.Sound.Tests.{sound_exactly}
use Rattle.soundness.specs.Tested.{parents_if}
use Rattle.soundness.proofs.Passed.{has_workers, no_workers}
use Rattle.run_memory.specs.Memory.{Memory}
use Rattle.run_memory.specs.Stands.{workers_in}
use Rattle.run_memory.specs.Packing.{memory_for}
use Rattle.run_memory.proofs.WorkerRecords.{of_length}
use Rattle.run_memory.proofs.Refines.{sixteen}
use Rattle.wivakkol.specs.Lent.{blank_memory}
use Rattle.wivakkol.specs.Opened.{lent_open}
use Rattle.wivakkol_marks.specs.LentMarks.{Marks, marks, mended, mark_in, is_set_in, fit_marked, mark_fault, back_fault, setting, lent_mark, going, lent_back}
use Rattle.claims.proofs.Shaped.{Full, Shaped}
use Rattle.claims.proofs.Sizes.{Long, pick_long, open_shaped, full_parents, same}
use Rattle.claims.proofs.MarksShaped.{MarksShaped}

-- ---- the calls

pub mark_shaped : (s : List ℕ) (i : ℕ) (M : Memory) (K : Marks) → Shaped M → MarksShaped K → MarksShaped (lent_mark s i M K).marks
unfolding lent_mark
mark_shaped s i M K h k = go (eqb (mark_fault s M K i) 0)
  where
    here : (j : ℕ) → j < 8 → Dec (i ≡ j) → Shaped (get_or (set K.kept i M) j blank_memory)
    here j b (yes e) = rw (← e, get_or-set_same K.kept i M blank_memory (omega (arith, b, e, k.kept))) h
    here j b (no d) = rw (get_or-set_other K.kept i j M blank_memory (λ e. d (sym e))) (k.each j b)

    go : (q : Bool) → MarksShaped (pick q (setting 0 (marks (set K.set i 1) (set K.kept i M))) (setting (mark_fault s M K i) K)).marks
    go true = record { flags = simp length-set k.flags; kept = simp length-set k.kept; each = λ j b. here j b (ℕ_discrete i j) }
    go false = k

mended_shaped : (M : Memory) → Shaped M → Shaped (mended M)
mended_shaped M h =
    record {
      settings = h.settings;
      parents = h.parents;
      arrays = h.arrays;
      holds = of_length _ (workers_in M) ∙ sixteen M;
      threads = of_length _ (workers_in M) ∙ sixteen M;
      quotas = of_length _ (workers_in M) ∙ sixteen M;
      heads = h.heads;
      totals = h.totals;
    }

pub back_shaped : (s : List ℕ) (i : ℕ) (M : Memory) (K : Marks) → Shaped M → MarksShaped K → Shaped (lent_back s i M K).memory
unfolding lent_back back_fault
back_shaped s i M K h k = go (fit_marked s M K) (ltb i 8) refl (is_set_in K i)
  where
    go : (a b : Bool) → ltb i 8 ≡ b → (c : Bool)
        → Shaped (pick (eqb (pick a (pick b (pick c 0 46) 45) 32) 0) (going 0 (lent_open s (mark_in K i)).memory) (going (pick a (pick b (pick c 0 46) 45) 32) M)).memory
    go true true e true = open_shaped s (mark_in K i) (mended_shaped (get_or K.kept i blank_memory) (k.each i (ltb-true i 8 e)))
    go true true e false = h
    go true false e c = h
    go false b e c = h

-- ---- a record that is packed

last_long : (t y : ℕ) (k : Links) → Long k → Long (link_last t y k)
unfolding link_last
last_long t y k h = (simp length-set h.0, simp length-set h.1)

filled_long : (n : ℕ) (status right : List ℕ) (t y : ℕ) (k : Links) → Long k → Long (filled_from n status right t y k)
unfolding filled_from
filled_long zero status right t y k h = h
filled_long (suc n) status right t y k h =
    pick_long (ltb t no_thread) _ _
    (pick_long (eqb (get_or status t 0) waiting) _ _ (filled_long n status right (get_or right t 0) y k h) (filled_long n status right (get_or right t 0) t (link_last t y k) (last_long t y k h))) h

-- a record's rows have the lengths of its arrays
record Rows (r : Run) : Type 0 where
  next : Full r.next
  status : Full r.status
  amounts : Full r.amounts
  left : Full r.left
  right : Full r.right
  worker : length r.worker ≡ 16

blank_rows : Rows blank
unfolding blank
blank_rows = record { next = same 0; status = same 0; amounts = same 0; left = same 0; right = same 0; worker = refl }

steady_rows : (r : Run) → Steady r → Rows r
steady_rows r h =
    record {
      next = h.state.common.next_size;
      status = h.state.common.status_size;
      amounts = ap length h.state.common.shares ∙ shares_size (table_in r) (steady_lawful r h).few_threads r.next r.status;
      left = ap (λ (k : Links). length k.left) h.links ∙ firsts_length _ 0 no_thread;
      right = ap (λ (k : Links). length k.right) h.links ∙ firsts_length _ 0 no_thread;
      worker = h.state.common.worker_size;
    }

passed_rows : (r : Run) → unsound r ≡ false → Rows r
passed_rows r e = go (ℕ_discrete r.workers 0)
  where
    go : Dec (r.workers ≡ 0) → Rows r
    go (yes z) = subst Rows (sym (no_workers r e z)) blank_rows
    go (no d) = steady_rows r (has_workers r e (omega (arith, d))).steady

parents_full : (r : Run) → Full (parents_if (sound r) (table_in r))
parents_full r = go (sound r) refl
  where
    go : (q : Bool) → sound r ≡ q → Full (parents_if q (table_in r))
    go true e = full_parents (table_in r) (steady_lawful r ((sound_exactly r).0 e).steady).few_threads
    go false e = same 0

pub packed_shaped : (r : Run) → unsound r ≡ false → Shaped (memory_for r (parents_if (sound r) (table_in r)))
packed_shaped r e =
    let a : Rows r = passed_rows r e in
    let l = filled_long max_threads r.status r.right r.leftmost no_thread no_links (same no_thread, same no_thread) in
    record {
      settings = refl;
      parents = parents_full r;
      arrays = record { next = a.next; status = a.status; amounts = a.amounts; left = a.left; right = a.right; under = l.0; over = l.1 };
      holds = of_length _ r.worker ∙ a.worker;
      threads = of_length _ r.worker ∙ a.worker;
      quotas = of_length _ r.worker ∙ a.worker;
      heads = refl;
      totals = refl;
    }
