-- The rule with b as an executable test, and two rows of turns held against the limit: document 01's listing of E, and one that the rule has to turn down.
use Rattle.std.specs.Prelude.{◌≡◌, refl, ℕ, List, [], ◌∷◌, ◌++◌, map, Bool, true, false, ◌&&◌, replicate, leb, eqb}
use Rattle.table.specs.Sum.{pick, sum_to, sum_over, greatest, any_below}
use Rattle.table.specs.Format.{code_of, kind_of, is, table_of}
use Rattle.table.specs.declared.kinds.Kind.TheVariants.{End as end, Alloc as alloc, Free as free, Fork as fork, Join as join}
use Rattle.table.specs.Pass.{try_at, try_from, try_pass, first_found}
use Rattle.table.specs.Checks.{entry_wrong, total_wrong, owner_below, kind_unknown, argument_wrong, end_misplaced, forked_below, forked_before}
use Rattle.table.specs.Checks.{open_before, join_not_latest, end_with_open, never_forked, alloc_of, free_of, whole_within, balance, balance_below0, passes}
use Rattle.table.specs.Serial.{serial_within, fronts, held_after, peak_of, S1}
use Rattle.table.specs.Level.{fork_below, fork_of, before_it, joined_end, depends_on, level_within, D}
use Rattle.table.specs.Cases.{Action, written, E}
use Rattle.table.specs.Cases.{act as action}
use Rattle.schedule.specs.Machine.{left_of, without, waits_for, woken, act_by, act, leftmost, taken, turn_free, turn_of}
use Rattle.schedule.specs.Record.{set_of}
use Rattle.schedule.specs.Begin.{start_state, start_run, begin}
use Rattle.filling.specs.Filled.{big, filled_out, overfull}
use Rattle.order.specs.Firsts.{firsts}
use Rattle.schedule.specs.Links.{walk, right_in}
use Rattle.order.specs.Words.{all_in}
use Rattle.schedule.specs.Turn.{root_ended, no_worker, step_run}
use Rattle.schedule.specs.Memory.{replies, sum_replies, row_memory, front_rows, peak_memory, count_in, limit}
use Rattle.schedule.specs.declared.Run.{Run}
use Rattle.schedule.specs.declared.Turned.{Turned}
use Rattle.schedule.specs.Listing.{Last, done, not_done}
use Rattle.schedule.specs.Cases.{never, ran_by, turned_sound, order_e}

-- ---- the test

-- what comes after a turn of w up to its next, or to the row's end
unfoldable pub until_next : ℕ → List ℕ → List ℕ
until_next w [] = []
until_next w (v ∷ l) = pick (eqb v w) [] (v ∷ until_next w l)

-- no worker has more than b turns in a stretch
unfoldable pub at_most : ℕ → List ℕ → Bool
at_most b stretch = all_in (λ v. leb (count_in v stretch) b) stretch

-- a row keeps the rule with b: exactly where `Keeps b row` (`keeps_exactly`, crates/bounds/proofs/KeepsTest)
unfoldable pub keeps : ℕ → List ℕ → Bool
keeps b [] = true
keeps b (w ∷ l) = at_most b (until_next w l) && keeps b l

-- ---- the rows

-- a leaf of twelve allocs, and a thread that frees what its two leaves have drawn
abbrev pub leaf : List Action
leaf = replicate 12 (action alloc 1) ++ (action end 0 ∷ [])

abbrev pub pair : ℕ → ℕ → List Action
pair c d = action fork c ∷ action fork d ∷ action join d ∷ action join c ∷ action free 24 ∷ action end 0 ∷ []

unfoldable pub two_pairs : List ℕ
unfolding code_of
two_pairs = written ((action fork 1 ∷ action fork 4 ∷ action join 4 ∷ action join 1 ∷ action end 0 ∷ []) ∷ pair 2 3 ∷ leaf ∷ leaf ∷ pair 5 6 ∷ leaf ∷ leaf ∷ [])

-- Worker 0 alone until it holds thread 1 at its free, then worker 1 alone: between two turns of a worker there is none of the other's, so a rule on those gaps alone would let it by.
abbrev pub order_gap : List ℕ
order_gap = replicate 53 0 ++ replicate 50 1

pub record Measures : Type 0 where
  pub serial : ℕ
  pub depth : ℕ
  pub limit : ℕ
  pub peak : ℕ
  pub last : Last
  pub keeps : Bool

-- a table's bytes, p, K, b and the row of workers, with S1, D, the limit, the greatest memory held after a front part of the row, where the run stands after it, and whether the row
-- keeps the rule
pub record RowCase : Type 0 where
  pub bytes : List ℕ
  pub workers : ℕ
  pub quota : ℕ
  pub gap : ℕ
  pub order : List ℕ
  pub measures : Measures

abbrev pub measured_by : (Run → ℕ → Turned) → RowCase → Measures
measured_by turn c =
    record {
      serial = S1 (table_of c.bytes);
      depth = D (table_of c.bytes);
      limit = limit (table_of c.bytes) c.workers c.quota c.gap;
      peak = peak_memory (table_of c.bytes) c.quota c.order;
      last = (ran_by never turn c.bytes c.workers c.quota c.order).last;
      keeps = keeps c.gap c.order;
    }

-- the row that bears a star
unfoldable pub row_cases : List RowCase
unfolding code_of
row_cases =
    -- "The listing above: peak 12, bound for b 1 is 6 + 6 × 7 = 48"
    record {
      bytes = E;
      workers = 2;
      quota = 6;
      gap = 1;
      order = order_e;
      measures = record { serial = 6; depth = 8; limit = 48; peak = 12; last = done 14 12; keeps = true };
    }
    ∷ []

-- our own, with no star: beyond the limit, and so against the rule
unfoldable pub own_rows : List RowCase
unfolding code_of
own_rows =
    record {
      bytes = two_pairs;
      workers = 2;
      quota = 1;
      gap = 1;
      order = order_gap;
      measures = record { serial = 24; depth = 24; limit = 47; peak = 48; last = not_done 103 48; keeps = false };
    }
    ∷ []

-- every row's run measures what the row says; turns are those of a sound record, which they are on every row (`rows_turned`, proofs/CaseLaws)
abbrev pub Measured : (Run → ℕ → Turned) → List RowCase → Type 0
Measured turn l = map (measured_by turn) l ≡ map (λ (c : RowCase). c.measures) l

pub rows_worked : Measured turned_sound row_cases × Measured turned_sound own_rows
unfolding row_cases own_rows two_pairs sum_to sum_over greatest any_below code_of kind_of is table_of try_at try_from try_pass first_found entry_wrong total_wrong owner_below kind_unknown argument_wrong end_misplaced forked_below forked_before open_before join_not_latest end_with_open never_forked alloc_of free_of whole_within balance balance_below0 passes serial_within fronts held_after peak_of S1 fork_below fork_of before_it joined_end depends_on level_within D left_of without waits_for woken act_by act leftmost taken turn_free turn_of set_of big overfull filled_out firsts walk right_in start_state start_run begin all_in root_ended no_worker step_run replies sum_replies row_memory front_rows peak_memory count_in limit until_next at_most keeps
rows_worked = (refl, refl)
