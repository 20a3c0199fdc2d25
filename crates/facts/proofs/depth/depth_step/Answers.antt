-- `facts::depth::depth_step` meets its contract: a fork is told by its code, 4.
use mathlib.Core.Path.{◌≡◌}
use Prim.Native.Nat.{ℕ, suc, ◌+◌, ◌≤◌, ◌<◌, max}
use mathlib.Core.List.{List}
use mathlib.Core.Bool.{Bool, true, false}
use native.Mathlib.Omega.{arith}
use lib.ListN.{get_or, set}
use Rattle.table.specs.Sum.{pick}
use Rattle.table.specs.Format.{is}
use Rattle.table.specs.declared.kinds.Kind.{Kind}
use Rattle.table.specs.declared.kinds.Kind.TheVariants.{Fork as fork, Join as join}
use Rattle.table.proofs.Tests.{same_is, other_is}
use Rattle.facts.specs.Code.DepthWalk.{reached, after_last, cut16, Stepped}
use Rattle.facts.proofs.depth.depth_step.Goals as goal

module _ (k : Kind) (x last child after : ℕ) (d : List ℕ) (e : child ≡ get_or d x 0) (s : child < 65536) (a : after ≡ after_last k child last) where
  pub rises : after ≤ suc (max last 65535)
  rises = rw a (go (is join k))
    where
      go : (t : Bool) → suc (pick t (max last child) last) ≤ suc (max last 65535)
      go true = omega arith
      go false = omega arith

  pub stepped_fork : k ≡ fork → (d' : List ℕ) → d' ≡ set d x (cut16 (child + after)) → Stepped k x (reached d last) (reached d' after)
  stepped_fork f d' p =
      record { value = rw (same_is fork k f, p, a, e); small = rises }

  pub stepped_other : (k ≡ fork → ⊥) → Stepped k x (reached d last) (reached d after)
  stepped_other f =
      record { value = rw (other_is fork k f, a, e); small = rises }

pub overflow_add-child : goal.overflow_add-child
overflow_add-child c =
    let r : c.after_last-after.result ≤ suc (max c.args.last 65535) =
    rises c.args.kind c.args.x c.args.last c.depth_at-child.result c.after_last-after.result c.args.depths.now c.depth_at-child.ensures.value c.depth_at-child.ensures.small c.after_last-after.ensures in
    omega (arith, r, c.depth_at-child.ensures.small, c.requires.1)

pub returns-in-Fork : goal.returns-in-Fork
returns-in-Fork c =
    stepped_fork c.args.kind c.args.x c.args.last c.depth_at-child.result c.after_last-after.result c.args.depths.now c.depth_at-child.ensures.value c.depth_at-child.ensures.small c.after_last-after.ensures c.in-Fork.is _ c.put_depth.ensures

pub returns-in_default : goal.returns-in_default
returns-in_default c =
    stepped_other c.args.kind c.args.x c.args.last c.depth_at-child.result c.after_last-after.result c.args.depths.now c.depth_at-child.ensures.value c.depth_at-child.ensures.small c.after_last-after.ensures c.in_default.not-Fork
