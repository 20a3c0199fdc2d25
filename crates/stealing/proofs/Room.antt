-- On the arrays of a state that keeps what any kind of run keeps every number fits: AsyncDF's laws, at the same arrays with the links that its list would have.
use Rattle.std.specs.Prelude.{Ok}
use mathlib.Core.Path.{◌≡◌, refl, sym}
use Prim.Native.Nat.{ℕ, ◌<◌}
use mathlib.Core.List.{List, []}
use lib.ListN.{get_or}
use Rattle.table.specs.Format.{Table, table_of}
use Rattle.table.specs.Rules.{Rules}
use Rattle.table.specs.Pass.{first_found}
use Rattle.schedule.specs.declared.Worker.{Worker}
use Rattle.schedule.specs.Machine.{State, nobody}
use Rattle.schedule.specs.Links.{Links, laid}
use Rattle.schedule.specs.Actives.{actives}
use Rattle.schedule.specs.Begin.{setting_passes}
use Rattle.order.proofs.Lawful.{Lawful, lawful}
use Rattle.schedule.proofs.Sound.Facts.{Facts}
use Rattle.schedule.proofs.Linked.Links.{walk_laid, laid_linked}
use Rattle.schedule.proofs.Linked.ActiveMoves.{list_once, list_small}
use Rattle.array_machine.specs.declared.Totals.{Totals}
use Rattle.array_machine.specs.Arrays.{Arrays, listed_in, relinked, headed}
use Rattle.array_machine.proofs.Parts.{Sits}
use Rattle.schedule.proofs.SerialLive.{serial_live, listed_live}
use Rattle.deques.proofs.ActCommon.{CommonIn}
use Rattle.deques.proofs.DequeTurns.{with_serial, serial_facts}

-- the arrays, the totals and the workers as a state; its list stays empty
abbrev pub state_at : Arrays → Totals → List Worker → ℕ → State
state_at A totals workers turns =
    record { next = A.next; status = A.status; amounts = A.amounts; list = []; workers = workers; held = totals.held; highest = totals.highest; turns = turns }

module _ (s : List ℕ) (rules : Rules s) (p K : ℕ) (begins : first_found (setting_passes p K) ≡ Ok tt) (w : ℕ) (below : w < p) (A : Arrays) (totals : Totals) (workers : List Worker)
    (turns : ℕ) (c : CommonIn (table_of s) p K (state_at A totals workers turns)) where
  abbrev T : Table
  T = table_of s

  laws : Lawful (table_of s)
  laws = lawful s rules

  abbrev live : List ℕ
  live = serial_live (table_of s) A.next A.status (lawful s rules)

  abbrev second : Links
  second = laid (actives A.status live)

  abbrev pub there : Arrays
  there = relinked (laid live) second A

  abbrev pub there_totals : Totals
  there_totals = headed (laid live) second totals

  known : Facts (table_of s) p K (with_serial (table_of s) (lawful s rules) (state_at A totals workers turns))
  known = serial_facts (table_of s) (lawful s rules) p K (state_at A totals workers turns) c

  read : listed_in there there_totals ≡ live
  read = walk_laid live (list_once (table_of s) (lawful s rules) p K _ known) (list_small (table_of s) (lawful s rules) p K _ known)

  pub sits : Sits s (table_of s).threads K there there_totals (get_or workers w nobody)
  sits =
      record {
        rules = rules;
        threads = refl;
        p = p;
        w = w;
        below = below;
        settings = begins;
        state = with_serial (table_of s) (lawful s rules) (state_at A totals workers turns);
        sound = record { common = c; listed = listed_live (table_of s) A.next A.status (lawful s rules) c.placed };
        same_next = refl;
        same_status = refl;
        same_amounts = refl;
        same_list = sym read;
        same_held = refl;
        same_highest = refl;
        own = refl;
        chained = record { list_links = rw read; second_links = rw read (laid_linked (actives A.status live)) };
      }
