-- What the walk for the depth without recursion promises: from the highest thread down, with one list of numbers. A child has the higher number, so its depth is known where its parent is
-- walked. `depth_walked` (proofs/DepthWalk) ties it to D.
use Rattle.std.specs.Prelude.{ℕ, zero, suc, ◌+◌, ◌%◌, ◌≤◌, max, ◌≡◌, List, get_or, set}
use Rattle.table.specs.Sum.{pick}
use Rattle.table.specs.Format.{is, kind_of, Table}
use Rattle.table.specs.declared.kinds.Kind.{Kind}
use Rattle.table.specs.declared.kinds.Kind.TheVariants.{Fork as fork, Join as join}

-- A thread above the one that is walked has in the list its own depth, and from its fork on the depth of its end counted from the first action of the thread that forked it; `last` is the
-- depth of the latest action, counted from there too.
pub record Reached : Type 0 where
  pub depths : List ℕ
  pub last : ℕ

abbrev pub reached : List ℕ → ℕ → Reached
reached d x = record { depths = d; last = x }

-- the depth after an action of kind k, where its child's number is that given
abbrev pub after_last : Kind → ℕ → ℕ → ℕ
after_last k child last = suc (pick (is join k) (max last child) last)

abbrev pub last_after : Kind → ℕ → Reached → ℕ
last_after k x w = after_last k (get_or w.depths x 0) w.last

-- `cut` is what the list can hold of a number
abbrev pub step_depth : (ℕ → ℕ) → Kind → ℕ → Reached → Reached
step_depth cut k x w =
    reached (pick (is fork k) (set w.depths x (cut (get_or w.depths x 0 + last_after k x w))) w.depths) (last_after k x w)

-- k actions from a on
unfoldable pub body_depth : (ℕ → ℕ) → (ℕ → ℕ) → (ℕ → ℕ) → ℕ → ℕ → Reached → Reached
body_depth cut code argument a zero w = w
body_depth cut code argument a (suc k) w = body_depth cut code argument (suc a) k (step_depth cut (kind_of (code a)) (argument a) w)

abbrev pub thread_walked : (ℕ → ℕ) → Table → ℕ → List ℕ → Reached
thread_walked cut T t d = body_depth cut T.code T.argument (T.first t) (T.count t) (reached d 0)

abbrev pub thread_depth : (ℕ → ℕ) → Table → ℕ → List ℕ → List ℕ
thread_depth cut T t d = set (thread_walked cut T t d).depths t (cut (thread_walked cut T t d).last)

-- the threads below t, from the highest down
unfoldable pub depths_down : (ℕ → ℕ) → Table → ℕ → List ℕ → List ℕ
depths_down cut T zero d = d
depths_down cut T (suc t) d = depths_down cut T t (thread_depth cut T t d)

abbrev pub depth_in : (ℕ → ℕ) → Table → List ℕ → ℕ
depth_in cut T d = get_or (depths_down cut T T.threads d) 0 0

-- 16 bits
abbrev pub cut16 : ℕ → ℕ
cut16 x = x % 65536

-- one action, and how far the last number can rise with it
pub record Stepped (k : Kind) (x : ℕ) (before after : Reached) : Type 0 where
  pub value : after ≡ step_depth cut16 k x before
  pub small : after.last ≤ suc (max before.last 65535)
