-- The record of a beginning, field by field: its links are those of the root alone.
use mathlib.Core.Path.{◌≡◌, refl, ◌∙◌}
use Prim.Native.Nat.{ℕ}
use mathlib.Core.List.{List, [], ◌∷◌}
use lib.Dec.{eqb}
use lib.ListN.{length, replicate, set}
use Rattle.table.specs.Format.{table_of}
use Rattle.schedule.specs.declared.Run.{Run}
use Rattle.schedule.specs.Machine.{nobody}
use Rattle.schedule.specs.Links.{no_thread, Links, LinkedAs, right_in, left_after}
use Rattle.schedule.specs.Actives.{no_links}
use Rattle.schedule.specs.Record.{set_of}
use Rattle.order.specs.Words.{filled}
use Rattle.schedule.specs.Begin.{start_state, start_run}
use Rattle.order.specs.Firsts.{firsts}
use Rattle.schedule.proofs.Linked.Links.{linked_laid}
use Rattle.schedule.proofs.Linked.Fills.{no_links_linked}
use Rattle.schedule.proofs.Preservation.Turns.{either}

-- the record with these two arrays
abbrev pub begun : List ℕ → ℕ → ℕ → List ℕ → List ℕ → Links → Run
begun s p K table next k =
    record {
      table = table;
      length = length s;
      workers = p;
      quota = K;
      next = next;
      status = set (replicate 1024 0) 0 1;
      amounts = replicate 1024 0;
      left = k.left;
      right = k.right;
      leftmost = k.head;
      worker = replicate 16 nobody;
      busy = 0;
      held = 0;
      highest = 0;
      turns = 0;
    }

-- the links of the root alone
abbrev pub alone : Links
alone = record { left = no_links.left; right = no_links.right; head = 0 }

pub alone_linked : LinkedAs alone (0 ∷ [])
unfolding right_in left_after
alone_linked =
    record {
      left_size = no_links_linked.left_size;
      right_size = no_links_linked.right_size;
      lefts = λ t h. no_links_linked.lefts t h ∙ either (λ (x : ℕ). no_thread ≡ x) (eqb 0 t) no_thread no_thread (λ e. refl) (λ e. refl);
      rights = λ t h. no_links_linked.rights t h ∙ either (λ (x : ℕ). no_thread ≡ x) (eqb 0 t) no_thread no_thread (λ e. refl) (λ e. refl);
      leftmost = refl;
    }

pub is_start : (s : List ℕ) (p K : ℕ) {table next : List ℕ} → table ≡ filled 36868 s → next ≡ filled 1024 (firsts (table_of s).first 0 (table_of s).threads)
    → begun s p K table next alone ≡ start_run s p K
unfolding start_run start_state set_of
is_start s p K e d =
    let l = linked_laid alone (0 ∷ []) alone_linked in
    λ i. begun s p K (e i) (d i) (l i)
