-- The first listing of E by DFDeques (docs/REFERENCE.md) on arrays: three threads, so arrays of three places.
use Rattle.std.specs.Prelude.{◌≡◌, refl, ℕ, List, [], ◌∷◌, true, get_or, set}
use Rattle.table.specs.Sum.{sum_to, any_below}
use Rattle.table.specs.Format.{code_of, kind_of, is, table_of}
use Rattle.table.specs.Cases.{E}
use Rattle.schedule.specs.declared.Worker.{Worker}
use Rattle.schedule.specs.declared.Reply.{Reply}
use Rattle.schedule.specs.declared.Reply.TheVariants.{Idle, Done, Quota, Wait}
use Rattle.schedule.specs.Machine.{nobody}
use Rattle.schedule.specs.Links.{link_left, unlink}
use Rattle.array_machine.specs.declared.Totals.{Totals}
use Rattle.array_machine.specs.Arrays.{Arrays, arrays}
use Rattle.array_machine.specs.Turn.{Outcome, moved, unfit, waits_in, act_on}
use Rattle.deques.specs.Lines.{linked_in}
use Rattle.stealing.specs.Stealing.{along_by, leaves_on, wakes_on, forks_on, deque_by, deque_in, robbed_links, steal_on, deque_on}

abbrev none : List ℕ
none = 1024 ∷ 1024 ∷ 1024 ∷ []

abbrev start : Arrays
start = arrays (0 ∷ 5 ∷ 9 ∷ []) (1 ∷ 0 ∷ 0 ∷ []) (0 ∷ 0 ∷ 0 ∷ []) none none none none

abbrev totals : Totals
totals = record { leftmost = 0; first = 0; held = 0; highest = 0 }

abbrev run : Arrays → Totals → List Worker → List ℕ → List Reply
run A m workers [] = []
run A m workers (w ∷ []) = []
run A m workers (w ∷ c ∷ l) =
    let o : Outcome = deque_on (table_of E) 6 (0 ∷ 0 ∷ 0 ∷ []) c A m (get_or workers w nobody) in
    o.reply ∷ run o.arrays o.totals (set workers w o.worker) l

abbrev order : List ℕ
order = 0 ∷ 0 ∷ 1 ∷ 1 ∷ 0 ∷ 0 ∷ 0 ∷ 0 ∷ 0 ∷ 0 ∷ 0 ∷ 0 ∷ 1 ∷ 0 ∷ 0 ∷ 0 ∷ 0 ∷ 0 ∷ 1 ∷ 0 ∷ 1 ∷ 0 ∷ 0 ∷ 0 ∷ 1 ∷ 0 ∷ 1 ∷ 0 ∷ 1 ∷ 0 ∷ 1 ∷ 0 ∷ 1 ∷ 0 ∷ []

worked : run start totals (nobody ∷ nobody ∷ []) order
    ≡ Done 0 0 ∷ Idle ∷ Done 1 5 ∷ Done 1 6 ∷ Done 1 7 ∷ Done 1 8 ∷ Idle ∷ Done 0 1 ∷ Quota 2 6 ∷ Wait 0 2 ∷ Done 2 9 ∷ Idle ∷ Done 2 10 ∷ Done 2 11 ∷ Done 0 2 ∷ Done 0 3 ∷ Done 0 4 ∷ []
unfolding deque_on steal_on deque_in deque_by forks_on wakes_on leaves_on robbed_links along_by linked_in link_left unlink act_on waits_in kind_of code_of is table_of sum_to any_below
worked = refl

-- the first turn: worker 0 steals the root, which forks 1 and stays below it, the only bottom
abbrev first : Outcome
first = deque_on (table_of E) 6 (0 ∷ 0 ∷ 0 ∷ []) 0 start totals nobody

first_worked : first
    ≡ moved (Done 0 0)
    (arrays (1 ∷ 5 ∷ 9 ∷ []) (1 ∷ 2 ∷ 0 ∷ []) (0 ∷ 0 ∷ 0 ∷ []) (1 ∷ 1024 ∷ 1024 ∷ []) (1024 ∷ 0 ∷ 1024 ∷ []) none none)
    (record { leftmost = 1; first = 0; held = 0; highest = 0 }) (record { holds = true; thread = 1; quota = 6 })
unfolding deque_on steal_on deque_in deque_by forks_on wakes_on leaves_on robbed_links along_by linked_in link_left unlink act_on waits_in kind_of code_of is table_of sum_to any_below
first_worked = refl

-- the second: worker 1 robs worker 0's deque of the root, its bottom; thread 1 becomes a bottom; the root forks 2
second_worked : deque_on (table_of E) 6 (0 ∷ 0 ∷ 0 ∷ []) 0 first.arrays first.totals nobody
    ≡ moved (Done 0 1)
    (arrays (2 ∷ 5 ∷ 9 ∷ []) (1 ∷ 2 ∷ 2 ∷ []) (0 ∷ 0 ∷ 0 ∷ []) (2 ∷ 1024 ∷ 1 ∷ []) (1024 ∷ 2 ∷ 0 ∷ []) (1 ∷ 1024 ∷ 1024 ∷ []) (1024 ∷ 0 ∷ 1024 ∷ []))
    (record { leftmost = 1; first = 1; held = 0; highest = 0 }) (record { holds = true; thread = 2; quota = 6 })
unfolding deque_on steal_on deque_in deque_by forks_on wakes_on leaves_on robbed_links along_by linked_in link_left unlink act_on waits_in kind_of code_of is table_of sum_to any_below
second_worked = refl

-- at place 1 there is no deque, and at place 16 no turn is counted
idle_worked : deque_on (table_of E) 6 (0 ∷ 0 ∷ 0 ∷ []) 1 start totals nobody ≡ moved Idle start totals nobody
unfolding deque_on steal_on along_by deque_in deque_by
idle_worked = refl

place_worked : deque_on (table_of E) 6 (0 ∷ 0 ∷ 0 ∷ []) 16 start totals nobody ≡ unfit start totals nobody
unfolding deque_on steal_on
place_worked = refl

-- robbing an owned deque: done in 12 turns, the highest 12, and at the end nothing is linked
abbrev final : Arrays → Totals → List Worker → List ℕ → Arrays × Totals
final A m workers [] = (A, m)
final A m workers (w ∷ []) = (A, m)
final A m workers (w ∷ c ∷ l) =
    let o : Outcome = deque_on (table_of E) 6 (0 ∷ 0 ∷ 0 ∷ []) c A m (get_or workers w nobody) in
    final o.arrays o.totals (set workers w o.worker) l

robbing_worked : final start totals (nobody ∷ nobody ∷ []) (0 ∷ 0 ∷ 1 ∷ 0 ∷ 0 ∷ 0 ∷ 1 ∷ 0 ∷ 0 ∷ 0 ∷ 1 ∷ 0 ∷ 0 ∷ 0 ∷ 1 ∷ 0 ∷ 0 ∷ 0 ∷ 1 ∷ 0 ∷ 1 ∷ 0 ∷ 1 ∷ 0 ∷ [])
    ≡ (arrays (4 ∷ 8 ∷ 11 ∷ []) (4 ∷ 4 ∷ 4 ∷ []) (0 ∷ 0 ∷ 0 ∷ []) none none none none, record { leftmost = 1024; first = 1024; held = 0; highest = 12 })
unfolding deque_on steal_on deque_in deque_by forks_on wakes_on leaves_on robbed_links along_by linked_in link_left unlink act_on waits_in kind_of code_of is table_of sum_to any_below
robbing_worked = refl
