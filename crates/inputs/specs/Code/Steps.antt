-- What the code's inner functions require and promise.
use Rattle.std.specs.Prelude.{ℕ, suc, ◌+◌, ◌≤◌, ◌≡◌, List, length, take, drop, Err, Ok, Option, Result, Some}
use Rattle.inputs.specs.declared.Wanted.{Wanted}
use Rattle.assembly.specs.Words.{span_of, in_class}
use Rattle.assembly.specs.Assembly.{longest_text}
use Rattle.assembly.specs.declared.scan.Class.TheVariants.{Line}
use Rattle.assembly.specs.Unseen.{after_lines}
use Rattle.inputs.specs.Front.{Front, nothing, workers, quota, between, turns, rounds, board, Step, goes, stops, ends, Order, listed, broken, max_order, Fronted, whole, fault, at_end, front_of}
use Rattle.inputs.specs.declared.front.Front.{Front as Kept}
use Rattle.inputs.specs.declared.front.Front.TheVariants.{Nothing, Workers, Quota, Between, Turns, Rounds, Board}
use Rattle.inputs.specs.declared.front.Step.{Step as Taken}
use Rattle.inputs.specs.declared.front.Step.TheVariants.{Goes, Ends}
use Rattle.inputs.specs.declared.read.Read.{Read}

-- ---- what the code keeps, with the order's bytes in a buffer

abbrev pub order_is : Result ℕ Wanted → List ℕ → Order
order_is (Ok n) buf = listed (take n buf)
order_is (Err e) buf = broken e

abbrev pub front_is : Kept → List ℕ → Front
front_is Nothing buf = nothing
front_is (Workers p) buf = workers p
front_is (Quota p K) buf = quota p K
front_is (Between p b) buf = between p b
front_is (Turns p K n) buf = turns p K (take n buf)
front_is (Rounds p K L) buf = rounds p K L
front_is (Board p b M) buf = board p b M

abbrev pub step_is : Result Taken Wanted → List ℕ → Step
step_is (Ok (Goes f)) buf = goes (front_is f buf)
step_is (Err e) buf = stops e
step_is (Ok (Ends f)) buf = ends (front_is f buf)

abbrev pub end_is : Result Kept Wanted → ℕ → List ℕ → Fronted
end_is (Ok f) k buf = whole (front_is f buf) k
end_is (Err e) k buf = fault (suc k) e

-- how many workers a front has in the buffer
abbrev pub held_by : Kept → ℕ
held_by Nothing = 0
held_by (Workers p) = 0
held_by (Quota p K) = 0
held_by (Between p b) = 0
held_by (Turns p K n) = n
held_by (Rounds p K L) = 0
held_by (Board p b M) = 0

abbrev pub end_held : Result Kept Wanted → ℕ
end_held (Ok f) = held_by f
end_held (Err e) = 0

-- ---- promises

-- a buffer for an order, with n workers in it
pub record Room (buf : List ℕ) (n : ℕ) : Type 0 where
  pub full : length buf ≡ max_order
  pub few : n ≤ max_order

abbrev pub order_held : Result ℕ Wanted → ℕ
order_held (Ok n) = n
order_held (Err e) = 0

-- an order's answer with the buffer behind it
pub record Ordering (r : Result ℕ Wanted) (buf : List ℕ) (o : Order) : Type 0 where
  pub value : order_is r buf ≡ o
  pub few : order_held r ≤ max_order

abbrev pub step_held : Result Taken Wanted → ℕ
step_held (Ok (Goes f)) = held_by f
step_held (Err e) = 0
step_held (Ok (Ends f)) = held_by f

pub record Stepping (r : Result Taken Wanted) (buf : List ℕ) (s : Step) : Type 0 where
  pub value : step_is r buf ≡ s
  pub few : step_held r ≤ max_order

-- a step that has nothing to do with the order
pub record Plainly (r : Result Taken Wanted) (s : Step) : Type 0 where
  pub value : (buf : List ℕ) → step_is r buf ≡ s
  pub none : step_held r ≡ 0

-- the end of the line that begins at a position
pub record Lined (s : List ℕ) (at end : ℕ) : Type 0 where
  pub value : end ≡ at + span_of (in_class Line) (drop at s)
  pub within : end ≤ length s

-- the text ends
pub record Ending (f : Kept) (r : Result Kept Wanted) : Type 0 where
  pub value : (buf : List ℕ) (k : ℕ) → end_is r k buf ≡ at_end (front_is f buf) k
  pub few : end_held r ≤ held_by f

pub record Readable (s buf : List ℕ) : Type 0 where
  pub short : length s ≤ longest_text
  pub full : length buf ≡ max_order

-- the front, and where the rest of the text begins
pub record ReadsFront (s buf : List ℕ) (r : Read) : Type 0 where
  pub value : end_is r.end r.lines buf ≡ front_of s
  pub rest : drop r.at s ≡ after_lines r.lines s
  pub within : r.at ≤ length s
  pub passed : r.lines ≤ r.at
  pub few : end_held r.end ≤ max_order
  pub full : length buf ≡ max_order

-- a sum of lines that stays small
pub record Passed (lines line : ℕ) : Type 0 where
  pub front : lines ≤ longest_text
  pub back : line ≤ suc longest_text

-- a whole front, the rest of its text and a buffer for the input
pub record Addable (s : List ℕ) (f : Kept) (buf : List ℕ) (lines : ℕ) (out : List ℕ) : Type 0 where
  pub short : length s ≤ longest_text
  pub passed : lines ≤ longest_text
  pub room : Room buf (held_by f)
  pub wide : 40970 ≤ length out
