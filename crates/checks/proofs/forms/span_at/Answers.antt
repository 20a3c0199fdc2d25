-- `checks::forms::span_at` meets its contract: an action at the end of a body that is not the end of all actions begins the next thread's body.
use mathlib.Core.Path.{◌≡◌, sym, ◌∙◌}
use Prim.Native.Nat.{ℕ, suc, ◌+◌, ◌≤◌, ◌<◌}
use mathlib.Core.List.{List}
use native.Mathlib.Decide.{dec_lt}
use native.Mathlib.Numerals.{add-one}
use native.Mathlib.Omega.{arith}
use Rattle.table.specs.Format.{table_of}
use Rattle.table.specs.Code.Steps.{Laid}
use Rattle.checks.specs.Code.Steps.{Reached, Holding}
use Rattle.table.proofs.Sizes.{Sizes, sizes}
use Rattle.table.proofs.Bodies.{count_pos, first_next, body_within, last_ends}
use Rattle.checks.proofs.forms.span_at.Goals as goal

module _ {s : List ℕ} {n m own stop a : ℕ} (l : Laid s n m) (r : Reached (table_of s) own stop a) (h : stop ≤ a) where
  next : suc own < (table_of s).threads
  next = go (dec_lt (suc own) (table_of s).threads)
    where
      go : Dec (suc own < (table_of s).threads) → suc own < (table_of s).threads
      go (yes p) = p
      go (no p) =
          let e : suc own ≡ (table_of s).threads = omega (arith, r.thread) in
          absurd (omega (arith, last_ends (table_of s) l.contents own e, r.stops, r.within))

  -- enough for the sums
  room : Sizes s n m × (own + 1 < n) × (stop ≤ 8192)
  unfolding table_of
  room =
      let z : Sizes s n m = sizes l.headed in
      (z, omega (arith, next, l.headed.threads), omega (arith, z.actions_high, l.headed.actions, body_within (table_of s) l.contents own r.thread, r.stops))

  holds : {count : ℕ} → count ≡ (table_of s).count (own + 1) → Holding (table_of s) (own + 1) (stop + count) a
  unfolding table_of
  holds e =
      let k : (table_of s).first (own + 1) ≡ stop = rw (add-one own) (first_next (table_of s) l.contents own next ∙ sym r.stops) in
      record {
        thread = rw (add-one own) next;
        from = omega arith;
        upto = omega (arith, r.upto, count_pos (table_of s) l.contents (own + 1) (rw (add-one own) next));
        stops = omega arith;
      }

pub overflow_add-next : goal.overflow_add-next
overflow_add-next c = omega (arith, room c.requires.laid c.requires.reached c.if-a-stop.false)

pub overflow_add-result : goal.overflow_add-result
overflow_add-result c =
    omega (
      arith,
      room c.requires.laid c.requires.reached c.if-a-stop.false,
      c.count.ensures.small,
    )

pub returns : goal.returns
returns c =
    holds c.requires.laid c.requires.reached c.if-a-stop.false c.count.ensures.value
