-- `dfdeques::deque_begin` meets its contract: the record is AsyncDF's, and the links of the bottoms are those of the root alone, or all 0 in the blank record.
use Rattle.std.specs.Prelude.{Err, Ok, Result, ⊤}
use mathlib.Core.Path.{◌≡◌, refl, sym, ap, ◌∙◌}
use Prim.Native.Nat.{ℕ}
use mathlib.Core.List.{List, [], ◌∷◌, ◌++◌}
use borrow.Author.Rules.{rules}
use lib.ListN.{replicate}
use Rattle.table.specs.Format.{table_of}
use Rattle.table.specs.Pass.{first_found}
use Rattle.table.specs.Checks.{passes}
use Rattle.table.specs.declared.Refusal.{Refusal}
use Rattle.table.proofs.Tests.{no_way}
use Rattle.filling.specs.Filled.{filled_out}
use Rattle.schedule.specs.declared.Run.{Run}
use Rattle.schedule.specs.declared.Begun.{Begun}
use Rattle.schedule.specs.Links.{Links}
use Rattle.schedule.specs.Record.{blank}
use Rattle.schedule.specs.Begin.{begin_passes, start_state, start_run, begun_as, begin}
use Rattle.schedule.proofs.Linked.Links.{linked_laid}
use Rattle.array_machine.proofs.Starts.{alone, alone_linked}
use Rattle.deques.specs.declared.DequeRun.{DequeRun}
use Rattle.deques.specs.declared.DequeBegun.{DequeBegun}
use Rattle.deques.specs.Lines.{lines_of, bottoms_of}
use Rattle.deques.specs.Deques.{bottom}
use Rattle.deques.specs.DequeRecord.{blank_deques}
use Rattle.deques.specs.DequeBegin.{start_deque_run, deque_begun_as, deque_begin}
use Rattle.deques.proofs.DequeAnswers.{deque_begin_values}
use Rattle.dfdeques.proofs.DequeByValue.{begun_answers}
use Rattle.dfdeques.proofs.deque_begin.Goals as goal

-- the links of the bottoms beside a record
abbrev with_links : Run → Links → DequeRun
with_links r k = record { run = r; under = k.left; over = k.right; first = k.head }

-- the root is the only line, and so the only bottom
starts : (s : List ℕ) (p K : ℕ) → with_links (start_run s p K) alone ≡ start_deque_run s p K
unfolding start_deque_run start_run start_state lines_of bottoms_of bottom
starts s p K = ap (with_links (start_run s p K)) (linked_laid alone (0 ∷ []) alone_linked)

blanks : with_links blank (record { left = replicate 1024 0; right = replicate 1024 0; head = 0 }) ≡ blank_deques
unfolding blank_deques
blanks = refl

abbrev found : List ℕ → ℕ → ℕ → Result ⊤ Refusal
found s p K = first_found (passes s ++ begin_passes (table_of s) p K)

-- the links of the blank record
abbrev zeros : Links
zeros = record { left = replicate 1024 0; right = replicate 1024 0; head = 0 }

module _ (s : List ℕ) (p K : ℕ) (b : Begun) (e : b ≡ begin s p K) where
  refused : (x : Refusal) → b.answer ≡ Err x → record { answer = Err x; run = with_links b.run zeros } ≡ deque_begin s p K
  unfolding begin deque_begin
  refused x d = go (found s p K) e
    where
      go : (f : Result ⊤ Refusal) → b ≡ begun_as f (start_run (filled_out s K) p K)
          → record { answer = Err x; run = with_links b.run zeros } ≡ deque_begun_as f (start_deque_run (filled_out s K) p K)
      go (Ok _) e = let z : (Ok tt) ≡ Err x = sym (ap (λ (y : Begun). y.answer) e) ∙ d in no_way cc
      go (Err y) e =
          let z : Err x ≡ Err y = sym d ∙ ap (λ (y : Begun). y.answer) e in
          (λ i. record { answer = z i; run = with_links (e i).run zeros }) ∙ ap (λ (r : DequeRun). record { answer = Err y; run = r }) blanks

  begun : b.answer ≡ Ok tt → record { answer = Ok tt; run = with_links b.run alone } ≡ deque_begin s p K
  unfolding begin deque_begin
  begun d = go (found s p K) e
    where
      go : (f : Result ⊤ Refusal) → b ≡ begun_as f (start_run (filled_out s K) p K) → record { answer = Ok tt; run = with_links b.run alone } ≡ deque_begun_as f (start_deque_run (filled_out s K) p K)
      go (Ok _) e =
          ap (λ (y : Begun). record { answer = Ok tt; run = with_links y.run alone }) e ∙ ap (λ (r : DequeRun). record { answer = Ok tt; run = r }) (starts (filled_out s K) p K)
      go (Err y) e = let z : (Ok tt) ≡ Err y = sym d ∙ ap (λ (y : Begun). y.answer) e in no_way cc

pub returns-in-Err : goal.returns-in-Err
returns-in-Err c = let a = c.args in let both = (begun_answers (refused a.bytes.now a.p a.quota c.begin-begun.result c.begin-begun.ensures.value _ c.in-Err.is)) in record { value = both.0; answer_value = rw (← deque_begin_values) both.1 }

pub returns : goal.returns
returns c = let a = c.args in let both = (begun_answers (begun a.bytes.now a.p a.quota c.begin-begun.result c.begin-begun.ensures.value c.in_default.is)) in record { value = both.0; answer_value = rw (← deque_begin_values) both.1 }
