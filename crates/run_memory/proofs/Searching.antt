-- The search along the links, a thread at a time: what the whole search finds is what the search from here finds, with the threads passed so far.
use mathlib.Core.Path.{◌≡◌, refl, ap, sym, ◌∙◌}
use borrow.Author.Tests.{lt-ltb, le-ltb}
use Prim.Native.Nat.{ℕ, suc, ◌+◌, ◌-◌, ◌≤◌, ◌<◌}
use native.Mathlib.Omega.{arith}
use mathlib.Core.List.{List}
use lib.ListN.{get_or}
use Rattle.schedule.specs.Machine.{ready}
use lib.Dec.{ltb}
use Rattle.std.specs.Prelude.{None, Option, Some}
use Rattle.table.specs.Sum.{pick}
use Rattle.schedule.specs.Links.{no_thread, Sought, seek}
use Rattle.run_memory.specs.declared.list.Sought.{Sought as Answer}
use Rattle.run_memory.specs.Code.Found.{found}
use Rattle.table.proofs.Tests.{no_way}
use mathlib.Core.Bool.{Bool, true, false}
use Rattle.schedule.proofs.Linked.Links.{seek_stop, seek_hit, seek_next}

-- no step is left
seek_over : (status right : List ℕ) (t : ℕ) → seek 0 status right t ≡ record { thread = no_thread; passed = 0 }
unfolding seek
seek_over status right t = refl

-- k threads are passed, and the search stands at t
pub record SoFar (status right : List ℕ) (leftmost t k : ℕ) : Type 0 where
  pub within : k ≤ 1024
  pub thread : (seek 1024 status right leftmost).thread ≡ (seek (1024 - k) status right t).thread
  pub passed : (seek 1024 status right leftmost).passed ≡ k + (seek (1024 - k) status right t).passed

pub sought_start : (status right : List ℕ) (leftmost : ℕ) → SoFar status right leftmost leftmost 0
sought_start status right leftmost = record { within = omega arith; thread = refl; passed = omega arith }

module _ (status right : List ℕ) (leftmost t k : ℕ) (s : SoFar status right leftmost t k) where
  ends_at : (x : ℕ) → seek (1024 - k) status right t ≡ record { thread = x; passed = 0 }
      → (x ≡ (seek 1024 status right leftmost).thread) × (k ≡ (seek 1024 status right leftmost).passed)
  ends_at x e =
      let p : (seek (1024 - k) status right t).passed ≡ 0 = ap (λ (r : Sought). r.passed) e in
      (sym (s.thread ∙ ap (λ (r : Sought). r.thread) e), omega (arith, s.passed))

  left : k < 1024 → 1024 - k ≡ suc (1024 - (k + 1))
  left h = omega arith

  pub sought_found : k < 1024 → t < no_thread → get_or status t 0 ≡ ready
      → (t ≡ (seek 1024 status right leftmost).thread) × (k ≡ (seek 1024 status right leftmost).passed)
  sought_found h b e = ends_at t (rw (left h) (seek_hit (1024 - (k + 1)) status right t b e))

  pub sought_out : no_thread ≤ t → (no_thread ≡ (seek 1024 status right leftmost).thread) × (k ≡ (seek 1024 status right leftmost).passed)
  sought_out b = ends_at no_thread (seek_stop (1024 - k) status right t b)

  pub sought_over : 1024 ≤ k → (no_thread ≡ (seek 1024 status right leftmost).thread) × (k ≡ (seek 1024 status right leftmost).passed)
  sought_over h =
      let z : 1024 - k ≡ 0 = omega arith in
      ends_at no_thread (rw z (seek_over status right t))

  pub sought_on : k < 1024 → t < no_thread → (get_or status t 0 ≡ ready → ⊥) → SoFar status right leftmost (get_or right t 0) (k + 1)
  sought_on h b e =
      let m : ℕ = 1024 - (k + 1) in
      let n : seek (1024 - k) status right t
      ≡ record { thread = (seek m status right (get_or right t 0)).thread; passed = suc (seek m status right (get_or right t 0)).passed } =
      rw (left h) (seek_next m status right t b e) in
      record {
        within = omega arith;
        thread = s.thread ∙ ap (λ (r : Sought). r.thread) n;
        passed = omega (arith, s.passed, ap (λ (r : Sought). r.passed) n);
      }

-- ---- as the code answers it

abbrev answer_as : Sought → Bool → Option Answer
answer_as x b = pick {A = Option Answer} b (Some (record { thread = x.thread; passed = x.passed })) None

pub found_as : (x : Sought) {t k : ℕ} → t < no_thread → (t ≡ x.thread) × (k ≡ x.passed) → Some (record { thread = t; passed = k }) ≡ found x
found_as x {t} l e =
    let m : ltb x.thread no_thread ≡ true = ap (λ (y : ℕ). ltb y no_thread) (sym e.0) ∙ lt-ltb t no_thread l in
    (λ i. Some (record { thread = e.0 i; passed = e.1 i })) ∙ ap (answer_as x) (sym m)

pub none_as : (x : Sought) → no_thread ≡ x.thread → None ≡ found x
none_as x e =
    let m : ltb x.thread no_thread ≡ false = ap (λ (y : ℕ). ltb y no_thread) (sym e) ∙ le-ltb no_thread no_thread (omega arith) in
    ap (answer_as x) (sym m)

-- what an answer says of the search
pub found_some : (x : Sought) {y : Answer} {z : Option Answer} → z ≡ found x → z ≡ Some y → (ltb x.thread no_thread ≡ true) × ((y.thread ≡ x.thread) × (y.passed ≡ x.passed))
found_some x {y} e d = go (ltb x.thread no_thread) (sym d ∙ e)
  where
    go : (b : Bool) → Some y ≡ answer_as x b → (b ≡ true) × ((y.thread ≡ x.thread) × (y.passed ≡ x.passed))
    go true q = let p : y ≡ record { thread = x.thread; passed = x.passed } = cc (q) in (refl, (ap (λ (v : Answer). v.thread) p, ap (λ (v : Answer). v.passed) p))
    go false q = no_way (cc (q))

pub found_none : (x : Sought) {z : Option Answer} → z ≡ found x → z ≡ None → ltb x.thread no_thread ≡ false
found_none x e d = go (ltb x.thread no_thread) (sym d ∙ e)
  where
    go : (b : Bool) → None ≡ answer_as x b → b ≡ false
    go true q = no_way (cc (q))
    go false q = refl
