use mathlib.Core.Path.{◌≡◌, refl, ◌∙◌}
use Prim.Native.Nat.{ℕ, suc, ◌-◌, ◌*◌, ◌<◌, ◌≤◌}
use mathlib.Core.List.{List}
use native.Mathlib.Omega.{arith}
use lib.ListN.{length, get_or, set, drop}
use Rattle.table.specs.Sum.{sum_to, greatest_to}
use Rattle.table.specs.Format.{table_of, body_of, bodies_from}
use Rattle.table.specs.declared.kinds.Kind.TheVariants.{Alloc as alloc, Free as free, Fork as fork}
use Rattle.table.specs.Checks.{alloc_of, free_of, whole}
use Rattle.table.specs.Serial.{S1}
use Rattle.table.specs.Code.Steps.{Headed, Filled, WalkReady, amount_at}
use Rattle.facts.specs.Weigh.{left_of}
use Rattle.facts.specs.Code.Steps.{Kept, PeaksReady, top_of}
use Rattle.table.proofs.Sizes.{sizes}
use Rattle.table.proofs.Walks.{filled_set}
use Rattle.table.proofs.Peaks.{peak_at, whole_held}
use Rattle.facts.proofs.Tops.{walk_ready, peaks_ready, peak_found, rise_found, fall_found}
use Rattle.table.proofs.Parts.{body_from}
use Rattle.facts.proofs.peak.serial_amounts.Invariants.{Inv}
use Rattle.facts.proofs.peak.serial_amounts.Goals as goal

module _ {s : List ℕ} {n m : ℕ} {rises falls peaks : List ℕ} {t u : ℕ} (v : Inv s n m rises falls peaks t) (p : suc u ≡ t) where
  below : u < n
  below = omega (arith, v.within)

  rising : Filled (table_of s) (whole (table_of s) (alloc_of (table_of s))) rises (suc u)
  rising = rw p v.rising

  falling : Filled (table_of s) (whole (table_of s) (free_of (table_of s))) falls (suc u)
  falling = rw p v.falling

  peaking : Filled (table_of s) (peak_at (table_of s)) peaks (suc u)
  peaking = rw p v.peaking

  module _ {l : List ℕ} {count : ℕ} (b : l ≡ drop (4 * (table_of s).first u) (bodies_from s n)) (d : count ≡ (table_of s).count u) where
    body_is : l ≡ body_of s u
    unfolding table_of
    body_is = b ∙ body_from s n v.kept.nested.formed.laid.headed.threads u

    ready : WalkReady fork l count rises falls
    ready = rw (body_is, d) (walk_ready s n m v.kept v.bytes rises falls peaks u below rising falling peaking)

    low : PeaksReady l count rises falls peaks
    low = rw (body_is, d) (peaks_ready s n m v.kept v.bytes rises falls peaks u below rising falling peaking)

    again : {r f k : ℕ} → r ≡ sum_to (amount_at alloc fork l rises) count → f ≡ sum_to (amount_at free fork l falls) count
        → k ≡ greatest_to (top_of l rises falls peaks) count → Inv s n m (set rises u r) (set falls u f) (set peaks u k) u
    again {r} {f} {k} x y z =
        let in_array : u < 1024 = omega (arith, below, v.sized.threads_high) in
        let risen = (rw (body_is, d) at x) ∙ rise_found s n m v.kept v.bytes rises falls peaks u below rising falling peaking in
        let fallen = (rw (body_is, d) at y) ∙ fall_found s n m v.kept v.bytes rises falls peaks u below rising falling peaking in
        let highest = (rw (body_is, d) at z) ∙ peak_found s n m v.kept v.bytes rises falls peaks u below rising falling peaking in
        record {
          kept = v.kept;
          sized = v.sized;
          bytes = v.bytes;
          within = omega (arith, below);
          rising = filled_set (table_of s) _ rises u r in_array risen rising;
          falling = filled_set (table_of s) _ falls u f in_array fallen falling;
          peaking = filled_set (table_of s) (peak_at (table_of s)) peaks u k in_array highest peaking;
        }

none_filled : {s : List ℕ} {n m : ℕ} → Headed s n m → (amount : ℕ → ℕ) (amounts : List ℕ) → length amounts ≡ 1024 → Filled (table_of s) amount amounts n
unfolding table_of
none_filled h amount amounts l = record { size = l; right = λ t p q. absurd (omega (arith, h.threads)) }

start : {s : List ℕ} {n m : ℕ} {rises falls peaks : List ℕ} → Kept s n m → ((i : ℕ) → get_or s i 0 < 256)
    → length rises ≡ 1024 → length falls ≡ 1024 → length peaks ≡ 1024 → Inv s n m rises falls peaks n
start {s} {n} {m} k b r f l =
    let h : Headed s n m = k.nested.formed.laid.headed in
    record {
      kept = k;
      sized = sizes h;
      bytes = b;
      within = omega arith;
      rising = none_filled h _ _ r;
      falling = none_filled h _ _ f;
      peaking = none_filled h _ _ l;
    }

module _ {s : List ℕ} {n m : ℕ} {rises falls peaks : List ℕ} {t : ℕ} (v : Inv s n m rises falls peaks t) (l : t ≤ 0) where
  some : 0 < (table_of s).threads
  unfolding table_of
  some = omega (arith, v.kept.nested.formed.laid.headed.threads, v.sized.threads_low)

  peak_is : get_or peaks 0 0 ≡ S1 (table_of s)
  unfolding S1
  peak_is = v.peaking.right 0 l some

  rise_is : get_or rises 0 0 ≡ whole (table_of s) (alloc_of (table_of s)) 0
  rise_is = v.rising.right 0 l some

  fall_is : get_or falls 0 0 ≡ whole (table_of s) (free_of (table_of s)) 0
  fall_is = v.falling.right 0 l some

  held : get_or falls 0 0 ≤ get_or rises 0 0
  held =
      rw (rise_is, fall_is)
      (whole_held (table_of s) v.kept.nested.formed.laid.contents v.kept.nested.formed.bodies v.kept.nested.nesting v.kept.balances 0 some)

  left_is : get_or rises 0 0 - get_or falls 0 0 ≡ left_of (table_of s)
  left_is = rw (rise_is, fall_is)

pub loop-t-init : goal.loop-t-init
loop-t-init c = start c.requires (λ i. omega (arith, c.type_inv.table i)) refl refl refl

pub count-count-requires : goal.count-count-requires
count-count-requires c = omega arith

pub peak_walk-w-requires : goal.peak_walk-w-requires
peak_walk-w-requires c = record { walk_ready = ready c.loop-t.invariant (omega arith) c.body_of-body.ensures c.count-count.ensures.value; peaks_ready = low c.loop-t.invariant (omega arith) c.body_of-body.ensures c.count-count.ensures.value }

pub offset_bounds-rises-t : goal.offset_bounds-rises-t
offset_bounds-rises-t c = omega arith

pub bounds-rises-t : goal.bounds-rises-t
bounds-rises-t c = omega arith

pub offset_bounds-falls-t : goal.offset_bounds-falls-t
offset_bounds-falls-t c = omega arith

pub bounds-falls-t : goal.bounds-falls-t
bounds-falls-t c = omega arith

pub offset_bounds-peaks-t : goal.offset_bounds-peaks-t
offset_bounds-peaks-t c = omega arith

pub bounds-peaks-t : goal.bounds-peaks-t
bounds-peaks-t c = omega arith

pub loop-t-preserved : goal.loop-t-preserved
loop-t-preserved c =
    again c.loop-t.invariant (omega arith) c.body_of-body.ensures c.count-count.ensures.value c.peak_walk-w.ensures.rise_value c.peak_walk-w.ensures.fall_value c.peak_walk-w.ensures.peak_value

pub bounds-peaks-0 : goal.bounds-peaks-0
bounds-peaks-0 c = omega arith

pub bounds-rises-0 : goal.bounds-rises-0
bounds-rises-0 c = omega arith

pub returns : goal.returns
returns c = record { peak_value = peak_is c.loop-t.invariant c.loop-t-test.false; left_value = left_is c.loop-t.invariant c.loop-t-test.false }

pub overflow_sub-result : goal.overflow_sub-result
overflow_sub-result c = held c.loop-t.invariant c.loop-t-test.false
