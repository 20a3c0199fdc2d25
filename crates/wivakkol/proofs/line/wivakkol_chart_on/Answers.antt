-- `wivakkol::line::wivakkol_chart_on` meets its contract, check by check: the line is kept, or its text fills it.
use mathlib.Core.Path.{◌≡◌, refl}
use native.Mathlib.Omega.{arith}
use borrow.Author.Rules.{rules}
use Rattle.wivakkol.specs.declared.standing.Standing.TheVariants.{Neither}
use Rattle.wivakkol.proofs.WallLines.{line_refused, line_long, line_passes, line_written, line_kept}
use Rattle.wivakkol.proofs.line.wivakkol_chart_on.Goals as goal

pub returns-then-eq : goal.returns-then-eq
returns-then-eq c =
    let e = c.standing_lent-found.ensures in
    let none : c.standing_lent-found.result ≡ Neither = search rules in
    record { by_index = (λ parents under over. line_refused _ _ (e.by_index parents under over) none); by_index_2 = (λ parents under over. line_kept _ (λ q. absurd (omega (arith, q))) _); rises_after = e.rises_after; forks_after = (e.forks_after.0, refl, e.forks_after.1) }

pub returns-then-totals-gt-MOST_TURNS : goal.returns-then-totals-gt-MOST_TURNS
returns-then-totals-gt-MOST_TURNS c =
    let e = c.standing_lent-found.ensures in
    let one : c.standing_lent-found.result ≡ Neither → ⊥ = search rules in
    record { by_index = (λ parents under over. line_long _ _ (e.by_index parents under over) one c.if-totals-gt-MOST_TURNS.true); by_index_2 = (λ parents under over. line_kept _ (λ q. absurd (omega (arith, q))) _); rises_after = e.rises_after; forks_after = (e.forks_after.0, refl, e.forks_after.1) }

pub returns : goal.returns
returns c =
    let e = c.standing_lent-found.ensures in
    let one : c.standing_lent-found.result ≡ Neither → ⊥ = search rules in
    record {
      by_index = (λ parents under over. line_passes _ _ (e.by_index parents under over) one c.if-totals-gt-MOST_TURNS.false);
      by_index_2 = (λ parents under over.
          line_written _ _ (line_passes _ _ (e.by_index parents under over) one c.if-totals-gt-MOST_TURNS.false) refl c.workers.ensures c.workers_at-records.ensures _ _ _
          (omega (arith, c.put_line-arg-1.given)) c.put_line.ensures);
      rises_after = e.rises_after;
      forks_after = (e.forks_after.0, refl, e.forks_after.1);
    }
