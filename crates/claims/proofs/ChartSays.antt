-- What the promise of the wall chart's call from C says (N5): its own `ensures`, as the check reads it (`Learnt`), of what was lent and of what stood there at the end. A call that answers
-- 0 leaves a line of 84 characters and a newline from which each number is read back (`code_line`), any other leaves the line as it was (`code_no_line`); whatever is lent, the
-- definition's own answer keeps the promise (`chart_says`).
use mathlib.Core.Path.{◌≡◌, refl, sym, subst, ◌∙◌}
use Prim.Native.Nat.{ℕ}
use mathlib.Core.List.{List, []}
use contract.Lifetimes.{Lfts}
use denote.Ref.{Bor}
use denote.MutBor.{MutBor}
use denote.Triple.Clauses.{AtExit}
use borrow.Fn.Kinds.{ended_of}
use Rattle.array_machine.specs.Arrays.{arrays}
use Rattle.run_memory.specs.Memory.{Memory, memory}
use Rattle.wivakkol.specs.Opened.{sound_in, blank_in, line_fault, figures_in, line_after}
use Rattle.wivakkol.proofs.WallLines.{WallLine, lent_line, line_kept}
use Rattle.wivakkol.proofs.wivakkol_chart_on.Kinds as chart_kinds
use Rattle.wivakkol.proofs.wivakkol_chart_on.Reads as chart_promise
use Rattle.claims.proofs.LentSays.{lent_of, lent_mut, cleared}

-- `wivakkol_chart_on`, lent a table s, a run M (of which it is not lent parents and second list) and a line, answered a number and left `out` in the line
pub record ChartSays (s : List ℕ) (M : Memory) (line : List ℕ) (number : ℕ) (out : List ℕ) : Type 0 where
  pub lifetimes : Lfts 18
  pub table : Bor (List ℕ)
  pub settings : Bor (List ℕ)
  pub next : Bor (List ℕ)
  pub status : Bor (List ℕ)
  pub amounts : Bor (List ℕ)
  pub left : Bor (List ℕ)
  pub right : Bor (List ℕ)
  pub holds : Bor (List ℕ)
  pub threads : Bor (List ℕ)
  pub quotas : Bor (List ℕ)
  pub heads : Bor (List ℕ)
  pub totals : Bor (List ℕ)
  pub text : MutBor (List ℕ)
  pub rises : MutBor (List ℕ)
  pub falls : MutBor (List ℕ)
  pub forks : MutBor (List ℕ)
  pub seen : MutBor (List ℕ)
  pub list : MutBor (List ℕ)
  pub exit : AtExit (ended_of 18 chart_kinds.ps chart_kinds.r) lifetimes
  pub lent_table : table.now ≡ s
  pub lent_run : memory settings.now M.parents (arrays next.now status.now amounts.now left.now right.now M.arrays.under M.arrays.over) holds.now threads.now quotas.now heads.now totals.now ≡ M
  pub lent_text : text.now ≡ line
  pub left_text : exit.1.1.1.1.1.1.1.1.1.1.1.1.0.now ≡ out
  pub promised : chart_promise.Learnt lifetimes (table, (settings, (next, (status, (amounts, (left, (right, (holds, (threads, (quotas, (heads, (totals, (text, (rises, (falls, (forks, (seen, (list, tt)))))))))))))))))) number exit

module _ {s : List ℕ} {M : Memory} {line : List ℕ} {number : ℕ} {out : List ℕ} (h : ChartSays s M line number out) where
  -- number and line are the definition's
  pub chart_number : number ≡ line_fault s M
  chart_number = h.promised.0 M.parents M.arrays.under M.arrays.over ∙ (λ i. line_fault (h.lent_table i) (h.lent_run i))

  pub chart_out : out ≡ line_after (line_fault s M) M line
  chart_out =
      sym h.left_text ∙ h.promised.1.0 M.parents M.arrays.under M.arrays.over
      ∙ (λ i. line_after (chart_number i) (h.lent_run i) (h.lent_text i))

  -- a call that answers 0 leaves a line of 84 characters and a newline from which each number that stands in the memory is read back, whether a sound record stands there or the blank one
  pub code_line : number ≡ 0 → WallLine (figures_in M) out
  code_line e = subst (WallLine (figures_in M)) (sym chart_out) (lent_line s M (sym chart_number ∙ e) line)

  -- and one that answers anything else leaves the line as it was
  pub code_no_line : (number ≡ 0 → ⊥) → out ≡ line
  code_no_line n = chart_out ∙ sym (line_kept M (λ e. n (chart_number ∙ e)) line)

-- ---- such a call exists, whatever is lent

fault_beside : (s : List ℕ) (M : Memory) (parents under over : List ℕ)
    → line_fault s M ≡ line_fault s (memory M.settings parents (arrays M.arrays.next M.arrays.status M.arrays.amounts M.arrays.left M.arrays.right under over) M.holds M.threads M.quotas M.heads M.totals)
unfolding line_fault sound_in blank_in
fault_beside s M parents under over = refl

line_beside : (n : ℕ) (M : Memory) (parents under over line : List ℕ)
    → line_after n M line ≡ line_after n (memory M.settings parents (arrays M.arrays.next M.arrays.status M.arrays.amounts M.arrays.left M.arrays.right under over) M.holds M.threads M.quotas M.heads M.totals) line
unfolding line_after
line_beside n M parents under over line = refl

pub chart_says : (s : List ℕ) (M : Memory) (line : List ℕ) → ChartSays s M line (line_fault s M) (line_after (line_fault s M) M line)
chart_says s M line =
    record {
      lifetimes = ([], ([], ([], ([], ([], ([], ([], ([], ([], ([], ([], ([], ([], ([], ([], ([], ([], ([], tt))))))))))))))))));
      table = lent_of s;
      settings = lent_of M.settings;
      next = lent_of M.arrays.next;
      status = lent_of M.arrays.status;
      amounts = lent_of M.arrays.amounts;
      left = lent_of M.arrays.left;
      right = lent_of M.arrays.right;
      holds = lent_of M.holds;
      threads = lent_of M.threads;
      quotas = lent_of M.quotas;
      heads = lent_of M.heads;
      totals = lent_of M.totals;
      text = lent_mut line;
      rises = lent_mut cleared;
      falls = lent_mut cleared;
      forks = lent_mut cleared;
      seen = lent_mut cleared;
      list = lent_mut cleared;
      exit =
          (lent_of s, (lent_of M.settings, (lent_of M.arrays.next, (lent_of M.arrays.status, (lent_of M.arrays.amounts, (lent_of M.arrays.left, (lent_of M.arrays.right, (lent_of M.holds, (lent_of M.threads, (lent_of M.quotas, (lent_of M.heads, (lent_of M.totals, (lent_mut (line_after (line_fault s M) M line), (lent_mut cleared, (lent_mut cleared, (lent_mut cleared, (lent_mut cleared, (lent_mut cleared, tt))))))))))))))))));
      lent_table = refl;
      lent_run = refl;
      lent_text = refl;
      left_text = refl;
      promised = (
        (λ parents under over. fault_beside s M parents under over),
        ((λ parents under over. line_beside (line_fault s M) M parents under over line), ((refl, refl), (refl, refl, refl))),
      );
    }
