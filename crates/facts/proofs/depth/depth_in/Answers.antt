use mathlib.Core.Path.{◌≡◌, refl, ap, ◌∙◌}
use Prim.Native.Nat.{ℕ, suc, ◌+◌, ◌-◌, ◌*◌, ◌≤◌}
use mathlib.Core.List.{List}
use native.Mathlib.Omega.{arith}
use lib.ListN.{length, get_or, set, drop, replicate, length-replicate}
use Rattle.table.specs.Format.{first_of, bodies_from, bodies_of, body_of, table_of, code_at, argument_at}
use Rattle.table.specs.Level.{D}
use Rattle.table.proofs.Sizes.{sizes}
use Rattle.table.proofs.Parts.{body_from, code_part, argument_part}
use Rattle.facts.specs.Code.Steps.{Kept}
use Rattle.facts.specs.Code.DepthWalk.{Reached, reached, body_depth, thread_walked, thread_depth, depths_down, cut16}
use Rattle.facts.proofs.EndLevels.{few_threads, few_actions}
use Rattle.facts.proofs.DepthWalk.{WellNested, body_length, thread_length, body_shift, depth_cut}
use Rattle.facts.proofs.depth.depth_in.Invariants.{Inv}
use Rattle.facts.proofs.depth.depth_in.Goals as goal

start : {s : List ℕ} {n m : ℕ} → Kept s n m → Inv s n m (replicate 1024 0) n
start k = record { kept = k; within = omega arith; sized = refl; same = refl }

well : {s : List ℕ} {n m : ℕ} → Kept s n m → WellNested (table_of s)
unfolding table_of
well k =
    record {
      contents = k.nested.formed.laid.contents;
      bodies = k.nested.formed.bodies;
      nesting = k.nested.nesting;
      forking = k.nested.forking;
      some = omega (arith, k.nested.formed.laid.headed.threads, sizes k.nested.formed.laid.headed);
    }

module _ {s : List ℕ} {n m : ℕ} {depths : List ℕ} {t : ℕ} (v : Inv s n m depths t) where
  middle : (l : List ℕ) (k : ℕ) (depths₁ : List ℕ) (last : ℕ) → reached depths₁ last ≡ body_depth cut16 (code_at l) (argument_at l) 0 k (reached depths 0) → length depths₁ ≡ 1024
  middle l k depths₁ last w = ap (λ (y : Reached). length y.depths) w ∙ body_length cut16 (code_at l) (argument_at l) k 0 (reached depths 0) ∙ v.sized

  -- a body's walk is its thread's
  thread_is : (u : ℕ) (l : List ℕ) → l ≡ drop (4 * (table_of s).first u) (bodies_from s n)
      → body_depth cut16 (code_at l) (argument_at l) 0 ((table_of s).count u) (reached depths 0) ≡ thread_walked cut16 (table_of s) u depths
  unfolding table_of
  thread_is u l b =
      let z : (table_of s).first u + 0 ≡ (table_of s).first u = omega arith in
      rw (b, body_from s n v.kept.nested.formed.laid.headed.threads u)
      (rw z at (body_shift cut16 (code_at (body_of s u)) (argument_at (body_of s u)) (table_of s).code (table_of s).argument ((table_of s).first u)
      (λ i. code_part (bodies_of s) (first_of s u) i) (λ i. argument_part (bodies_of s) (first_of s u) i) ((table_of s).count u) 0 (reached depths 0)))

  again : (u : ℕ) → suc u ≡ t → (l : List ℕ) → l ≡ drop (4 * (table_of s).first u) (bodies_from s n) → (count : ℕ) → count ≡ (table_of s).count u → (depths₁ : List ℕ) (last : ℕ)
      → reached depths₁ last ≡ body_depth cut16 (code_at l) (argument_at l) 0 count (reached depths 0)
      → (depths₂ : List ℕ) → depths₂ ≡ set depths₁ u (cut16 last) → Inv s n m depths₂ u
  unfolding depths_down
  again u p l b count q depths₁ last w depths₂ d =
      let z : reached depths₁ last ≡ thread_walked cut16 (table_of s) u depths = (rw q at w) ∙ thread_is u l b in
      let x : depths₁ ≡ (thread_walked cut16 (table_of s) u depths).depths = ap (λ (y : Reached). y.depths) z in
      let y : last ≡ (thread_walked cut16 (table_of s) u depths).last = ap (λ (y : Reached). y.last) z in
      let e : depths₂ ≡ thread_depth cut16 (table_of s) u depths = d ∙ rw (x, y) in
      record {
        kept = v.kept;
        within = omega (arith, v.within);
        sized = rw e (thread_length cut16 (table_of s) u depths ∙ v.sized);
        same = rw e (rw (← p) at v.same);
      }

  threads_are : n ≡ (table_of s).threads
  unfolding table_of
  threads_are = v.kept.nested.formed.laid.headed.threads

  done : t ≤ 0 → (r : ℕ) → r ≡ get_or depths 0 0 → r ≡ D (table_of s)
  unfolding depths_down
  done h r e =
      let z : t ≡ 0 = omega arith in
      let q : depths ≡ depths_down cut16 (table_of s) n (replicate 1024 0) = rw z at v.same in
      let few : (table_of s).threads ≤ length {A = ℕ} (replicate 1024 0) = omega (arith, few_threads v.kept.nested, length-replicate {A = ℕ} 1024 0) in
      e ∙ ap (λ (l : List ℕ). get_or l 0 0) (rw threads_are at q) ∙ depth_cut (table_of s) (well v.kept) (few_actions v.kept.nested) (replicate 1024 0) few

pub loop-t-init : goal.loop-t-init
loop-t-init c = start c.requires

pub depth_walk-last-requires : goal.depth_walk-last-requires
depth_walk-last-requires c = (c.loop-t.invariant.sized, c.count.ensures.small)

pub put_depth-requires : goal.put_depth-requires
put_depth-requires c =
    middle c.loop-t.invariant c.body_of-body.result.now c.count.result _ _ c.depth_walk-last.ensures

pub loop-t-preserved : goal.loop-t-preserved
loop-t-preserved c =
    again c.loop-t.invariant (c.loop-t.t - 1) (omega arith) _ c.body_of-body.ensures _ c.count.ensures.value _ _ c.depth_walk-last.ensures _ c.put_depth.ensures

pub depth_at-requires : goal.depth_at-requires
depth_at-requires c = c.loop-t.invariant.sized

pub returns : goal.returns
returns c = done c.loop-t.invariant c.loop-t-test.false _ c.depth_at.ensures.value
