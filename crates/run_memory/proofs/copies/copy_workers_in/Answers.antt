use mathlib.Core.Path.{◌≡◌, refl, sym, ◌∙◌}
use Prim.Native.Nat.{ℕ, ◌+◌, ◌<◌}
use native.Mathlib.Omega.{arith}
use mathlib.Core.List.{List}
use lib.ListN.{length, get_or, set}
use Rattle.table.specs.Sum.{pick}
use Rattle.schedule.specs.declared.Worker.{Worker}
use Rattle.schedule.specs.Machine.{nobody}
use Rattle.run_memory.proofs.Copied.{copying_start, copying_size, copying_inside, copying_on, copying_over, of_workers_enough, of_workers_get}
use Rattle.run_memory.proofs.copies.copy_workers_in.Invariants.{Inv}
use Rattle.run_memory.proofs.copies.copy_workers_in.Goals as goal

module _ {bytes₀ words₀ numbers₀ : List ℕ} {workers : List Worker} where
  start : length workers ≡ 16 → length bytes₀ ≡ 1040 → length words₀ ≡ 6163 → length numbers₀ ≡ 18 → Inv bytes₀ words₀ numbers₀ workers bytes₀ words₀ numbers₀ 0
  start z a b c =
      record {
        sixteen = z;
        holds = copying_start _ _ _ _ (omega (arith, a)) (of_workers_enough _ workers z);
        threads = copying_start _ _ _ _ (omega (arith, b)) (of_workers_enough _ workers z);
        quotas = copying_start _ _ _ _ (omega (arith, c)) (of_workers_enough _ workers z);
      }

  again : {bytes words numbers : List ℕ} {w h : ℕ} → Inv bytes₀ words₀ numbers₀ workers bytes words numbers w → w < 16 → h ≡ pick (get_or workers w nobody).holds 1 0
      → Inv bytes₀ words₀ numbers₀ workers (set bytes (1024 + w) h) (set words (6144 + w) (get_or workers w nobody).thread) (set numbers (2 + w) (get_or workers w nobody).quota) (w + 1)
  again {w = w} v b e =
      let l : w < length workers = omega (arith, b, v.sixteen) in
      record {
        sixteen = v.sixteen;
        holds = copying_on v.holds b refl (e ∙ sym (of_workers_get (λ x. pick x.holds 1 0) workers w l));
        threads = copying_on v.threads b refl (sym (of_workers_get (λ x. x.thread) workers w l));
        quotas = copying_on v.quotas b refl (sym (of_workers_get (λ x. x.quota) workers w l));
      }

pub loop-w-init : goal.loop-w-init
loop-w-init c = start (omega arith) c.requires.bytes_len c.requires.words_len c.requires.numbers_len

pub bounds-bytes-w : goal.bounds-bytes-w
bounds-bytes-w c = copying_inside c.loop-w.invariant.holds c.loop-w-test.true

pub bounds-words-w : goal.bounds-words-w
bounds-words-w c = copying_inside c.loop-w.invariant.threads c.loop-w-test.true

pub bounds-numbers-w : goal.bounds-numbers-w
bounds-numbers-w c = copying_inside c.loop-w.invariant.quotas c.loop-w-test.true

pub loop-w-preserved : goal.loop-w-preserved
loop-w-preserved c = again c.loop-w.invariant c.loop-w-test.true c.as_number.ensures

pub shape_of-bytes : goal.shape_of-bytes
shape_of-bytes c = copying_size c.loop-w.invariant.holds

pub shape_of-words : goal.shape_of-words
shape_of-words c = copying_size c.loop-w.invariant.threads

pub shape_of-numbers : goal.shape_of-numbers
shape_of-numbers c = copying_size c.loop-w.invariant.quotas

pub returns : goal.returns
returns c = let v = c.loop-w.invariant in
    let l = c.loop-w-test.false in record { bytes_after = copying_over v.holds l; words_after = copying_over v.threads l; numbers_after = copying_over v.quotas l }
