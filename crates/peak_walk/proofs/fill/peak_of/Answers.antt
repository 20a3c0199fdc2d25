use Rattle.std.proofs.Common.{◌≡◌, ℕ, suc, ◌+◌, ◌-◌, ◌<◌, ◌≤◌, Bool, List, get_or, sym, ap, ◌∙◌, add-one, arith, rules}
use Rattle.table.specs.Format.{Table, table_of}
use Rattle.order.proofs.Lawful.{lawful}
use Rattle.peaks.specs.Peak.{peak_on}
use Rattle.peak_walk.specs.Peaked.{standing}
use Rattle.peak_walk.specs.Code.Walk.{Accepted, Right}
use Rattle.peak_walk.proofs.Filled.{filled_load}
use Rattle.peak_walk.proofs.fill.peak_of.Goals.{else-loop-r-test, then-loop-r-test+else-r-load}
use Rattle.peak_walk.proofs.fill.peak_of.Goals as goal

next : {T : Table} {resting : Bool} {peaks finals rows : List ℕ} {r load n : ℕ} → r ≡ load → Right T resting peaks finals rows (suc r) n → Right T resting peaks finals rows (load + 1) n
next {r = r} e h = rw (← e, add-one r) h

root : (s : List ℕ) (n : ℕ) → Accepted s n → {resting : Bool} {peaks finals rows : List ℕ} {r load : ℕ} → Right (table_of s) resting peaks finals rows r n → load < r
    → get_or peaks load 0 ≡ peak_on (table_of s) (standing (table_of s) resting) 0 load
root s n a {peaks = peaks} {load = load} h b = ap (λ (i : ℕ). get_or peaks i 0) (omega arith) ∙ h.lower 0 load (lawful s a.rules).some_thread b

pub returns : goal.returns
returns c =
    let a = c.args in
    let right : Right (table_of a.table.now) a.resting c.loop-r-test.peaks c.loop-r-test.finals c.loop-r-test.rows (a.load + 1) a.n = elim c.loop-r-test.branch [
      | else-loop-r-test w ↦ absurd (omega (arith, c.loop-r.invariant.0, w.loop-r-test.false))
      | then-loop-r-test+else-r-load w ↦
          rw (w.peaks-is, w.finals-is, w.rows-is) (next (omega arith) (filled_load a.table.now a.n c.requires.accepted.0 a.resting _ _ _ c.loop-r.r (omega (arith, c.requires.accepted.1, w.loop-r-test.true)) w.fill_load.ensures))
    ] in
    c.number.ensures ∙ root a.table.now a.n c.requires.accepted.0 right (omega arith)
