-- `listing::turns::put_each` meets its contract. The invariant: what the loop keeps (Drawn), and whoever puts the texts of the rest of the order puts those of the whole (Ordered).
use mathlib.Core.Path.{◌≡◌, refl, sym, ap, subst, ◌∙◌}
use Prim.Native.Nat.{ℕ, ◌+◌, ◌-◌, ◌*◌, ◌≤◌, ◌<◌}
use mathlib.Core.List.{List, [], ◌∷◌}
use mathlib.Core.Bool.{Bool, true, false, ◌&&◌}
use native.Mathlib.Omega.{arith}
use borrow.Author.Rules.{rules}
use borrow.Author.Tests.{ne_eqb, ltb-true, ltb-false}
use lib.Dec.{ltb}
use lib.ListN.{length, get_or}
use Rattle.table.specs.Format.{table_of, kind}
use Rattle.table.specs.Pass.{refusal}
use Rattle.table.proofs.Tests.{no_way}
use Rattle.text.specs.Text.{refused_line}
use Rattle.schedule.specs.declared.Run.{Run}
use Rattle.schedule.specs.declared.Reply.{Reply}
use Rattle.schedule.specs.declared.Reply.TheVariants.{Done}
use Rattle.schedule.specs.Machine.{ended as ended_status}
use Rattle.schedule.specs.Record.{max_bytes, bytes_of}
use Rattle.schedule.specs.Turn.{unsound, turned}
use Rattle.schedule.specs.Listing.{line, told_with, action_in, thread_in, last_with}
use Rattle.order.proofs.Lists.{filled_front}
use Rattle.text.specs.Puts.{Puts}
use Rattle.text.proofs.Putting.{puts_within}
use Rattle.chart.specs.Chart.{Figures, figures, line_text, most_turns, too_many}
use Rattle.chart.proofs.Records.{wall_width, many, charted_many, charted_written}
use Rattle.chart.proofs.Records.{few as few_turns}
use Rattle.array_machine.proofs.Answers.{steady_room, refused_as, root_over, root_open}
use Rattle.run_memory.specs.Memory.{Memory, moved_in, Told, turn_in, passed_over}
use Rattle.run_memory.specs.Stands.{run_in, Stands}
use Rattle.run_memory.specs.Blocks.{memory_of}
use Rattle.run_memory.specs.Runs.{ends_root}
use Rattle.run_memory.proofs.Endings.{Undone, Unending, Ends, not_done, says_no_end, says_end, turn_ends}
use Rattle.run_memory.proofs.Refines.{Moves, moves_so, turned_by, turn_turned}
use Rattle.asyncdf.proofs.Calls.{told_small}
use Rattle.listing.specs.Sheets.{turns_texts, widest, figures_in, after_texts, after_size, over_texts, Drawn}
use Rattle.listing.proofs.Ordered.{Listed, start, ended, exhausted, refused, again, texts_refused, texts_many}
use Rattle.listing.proofs.turns.put_each.Given as goal

pub record Tells (chart : Bool) (s : List ℕ) (p : ℕ) (order out₀ : List ℕ) (at₀ : ℕ) (M₀ M : Memory) (out : List ℕ) (at i : ℕ) : Type 0 where
  pub drawn : Drawn chart s p M
  pub listed : Listed chart order out₀ at₀ (run_in s M₀) out (run_in s M) at i

pub record Inv (chart : Bool) (s : List ℕ) (p : ℕ) (order out₀ : List ℕ) (at₀ : ℕ) (M₀ M : Memory) (out : List ℕ) (at i : ℕ) : Type 0 where
  pub within : i ≤ length order
  pub long : length out ≡ length out₀
  pub tells : Tells chart s p order out₀ at₀ M₀ M out at i

abbrev pub invariant-loop-w : goal.invariant-loop-w
invariant-loop-w l =
    Inv l.chart l.table l.p l.order l.initial.out l.initial.at (memory_of l.initial.bytes l.initial.words l.initial.numbers l.initial.sums) (memory_of l.bytes l.words l.numbers l.sums) l.out l.at l.w-index
