-- `run_memory::passed_along` meets its contract: with a thread, and what the search along the list found.
use mathlib.Core.Path.{◌≡◌}
use Prim.Native.Nat.{ℕ}
use mathlib.Core.Bool.{Bool, true, false}
use lib.Dec.{ltb}
use Rattle.table.specs.Sum.{pick}
use Rattle.schedule.specs.Links.{no_thread, Sought, seek}
use Rattle.array_machine.specs.Counted.{passed_along}
use Rattle.run_memory.specs.Blocks.{bytes_in, words_in}
use Rattle.run_memory.proofs.Searching.{found_some, found_none}
use Rattle.run_memory.proofs.passed_along.Goals as goal

module _ (b h : Bool) (x : Sought) (e : b ≡ true) where
  with_thread : h ≡ true → ◌≡◌ {A = ℕ} 0 (pick b (passed_along h x) 0)
  unfolding passed_along
  with_thread d = rw (e, d)

  module _ (d : h ≡ false) where
    found : {p : ℕ} → ltb x.thread no_thread ≡ true → p ≡ x.passed → p ≡ pick b (passed_along h x) 0
    unfolding passed_along
    found m r = rw (e, d, m) r

    none : ltb x.thread no_thread ≡ false → ◌≡◌ {A = ℕ} 0 (pick b (passed_along h x) 0)
    unfolding passed_along
    none m = rw (e, d, m)

pub returns-then-holds : goal.returns-then-holds
returns-then-holds c =
    with_thread c.args.counting c.args.holds (seek 1024 (bytes_in c.args.bytes.now).status ((words_in c.args.words.now).rows 3) (words_in c.args.words.now).leftmost) c.if-not-counting.false c.if-holds.true

pub returns-in-Some : goal.returns-in-Some
returns-in-Some c =
    let x = seek 1024 (bytes_in c.args.bytes.now).status ((words_in c.args.words.now).rows 3) (words_in c.args.words.now).leftmost in
    let e = found_some x c.seek.ensures c.in-Some.is in
    found c.args.counting c.args.holds x c.if-not-counting.false c.if-holds.false e.0 e.1.1

pub returns-in-None : goal.returns-in-None
returns-in-None c =
    let x = seek 1024 (bytes_in c.args.bytes.now).status ((words_in c.args.words.now).rows 3) (words_in c.args.words.now).leftmost in
    none c.args.counting c.args.holds x c.if-not-counting.false c.if-holds.false (found_none x c.seek.ensures c.in-None.is)
