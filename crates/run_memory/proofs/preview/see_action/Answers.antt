-- `run_memory::preview::see_action` meets its contract: the kind read is that of the thread's next action.
use mathlib.Core.Path.{◌≡◌, sym, ap, ◌∙◌}
use Prim.Native.Nat.{ℕ}
use mathlib.Core.List.{List}
use Rattle.std.specs.Prelude.{Option}
use Rattle.table.specs.Format.{Table, kind, kind_of, code_at, argument_at}
use Rattle.table.specs.declared.kinds.Kind.{Kind}
use Rattle.run_memory.specs.declared.preview.Seen.{Seen}
use Rattle.run_memory.specs.Memory.{Memory}
use Rattle.run_memory.specs.Blocks.{bytes_in, numbers_in, sums_in, gathered}
use Rattle.run_memory.specs.Code.Seen.{seen_in}
use Rattle.run_memory.proofs.Seeing.{end_seen, work_seen, fork_seen, unknown_seen}
use Rattle.run_memory.proofs.preview.see_action.Goals as goal

module _ (T : Table) (l : List ℕ) (p : T.code ≡ code_at l) (q : T.argument ≡ argument_at l) (t a quota : ℕ) (M : Memory) where
  -- of an action whose kind and argument have been read
  by_kind : {j k : Kind} {c x : ℕ} {z : Option Seen} → c ≡ code_at l a → x ≡ argument_at l a → k ≡ kind_of c → k ≡ j → z ≡ seen_in j T t a x quota M
      → z ≡ seen_in (kind T a) T t a (T.argument a) quota M
  by_kind {j} {k} {c} {x} e f g i d =
      let u : kind_of (T.code a) ≡ j = ap (λ (y : ℕ). kind_of y) ((λ m. p m a) ∙ sym e) ∙ sym g ∙ i in
      let y : T.argument a ≡ x = (λ m. q m a) ∙ sym f in
      rw (u, y) d

pub returns-in-End : goal.returns-in-End
returns-in-End c =
    let B = bytes_in c.args.bytes.now in
    let N = numbers_in c.args.numbers.now in
    let S = sums_in c.args.sums.now in
    let x = c.action_in-action.result.argument in
    let e = c.action_in-action.ensures in
    λ T W p q.
    by_kind T c.args.actions.now p q c.args.t c.args.a c.args.quota (gathered B W N S) e.code_value e.read.value c.kind.ensures c.in-End.is
    (c.see.ensures ∙ end_seen B W N S T c.args.t c.args.a x c.args.quota)

pub returns-in-Work : goal.returns-in-Work
returns-in-Work c =
    let B = bytes_in c.args.bytes.now in
    let N = numbers_in c.args.numbers.now in
    let S = sums_in c.args.sums.now in
    let x = c.action_in-action.result.argument in
    let e = c.action_in-action.ensures in
    λ T W p q.
    by_kind T c.args.actions.now p q c.args.t c.args.a c.args.quota (gathered B W N S) e.code_value e.read.value c.kind.ensures c.in-Work.is
    (c.see-in-Work.ensures ∙ work_seen B W N S T c.args.t c.args.a x c.args.quota c.next_fits.ensures)

pub returns-in-Alloc : goal.returns-in-Alloc
returns-in-Alloc c =
    let B = bytes_in c.args.bytes.now in
    let N = numbers_in c.args.numbers.now in
    let S = sums_in c.args.sums.now in
    let x = c.action_in-action.result.argument in
    let e = c.action_in-action.ensures in
    λ T W p q.
    by_kind T c.args.actions.now p q c.args.t c.args.a c.args.quota (gathered B W N S) e.code_value e.read.value c.kind.ensures c.in-Alloc.is
    (c.see_alloc.ensures T B W)

pub returns-in-Free : goal.returns-in-Free
returns-in-Free c =
    let B = bytes_in c.args.bytes.now in
    let N = numbers_in c.args.numbers.now in
    let S = sums_in c.args.sums.now in
    let x = c.action_in-action.result.argument in
    let e = c.action_in-action.ensures in
    λ T W p q.
    by_kind T c.args.actions.now p q c.args.t c.args.a c.args.quota (gathered B W N S) e.code_value e.read.value c.kind.ensures c.in-Free.is
    (c.see_free.ensures T B W N)

pub returns-in-Fork : goal.returns-in-Fork
returns-in-Fork c =
    let B = bytes_in c.args.bytes.now in
    let N = numbers_in c.args.numbers.now in
    let S = sums_in c.args.sums.now in
    let x = c.action_in-action.result.argument in
    let e = c.action_in-action.ensures in
    λ T W p q.
    by_kind T c.args.actions.now p q c.args.t c.args.a c.args.quota (gathered B W N S) e.code_value e.read.value c.kind.ensures c.in-Fork.is
    (c.see-in-Fork.ensures ∙ fork_seen B W N S T c.args.t c.args.a x c.args.quota c.fork_fits.ensures)

pub returns-in-Join : goal.returns-in-Join
returns-in-Join c =
    let B = bytes_in c.args.bytes.now in
    let N = numbers_in c.args.numbers.now in
    let S = sums_in c.args.sums.now in
    let x = c.action_in-action.result.argument in
    let e = c.action_in-action.ensures in
    λ T W p q.
    by_kind T c.args.actions.now p q c.args.t c.args.a c.args.quota (gathered B W N S) e.code_value e.read.value c.kind.ensures c.in-Join.is
    (c.see_join.ensures T W N)

pub returns-in-Unknown : goal.returns-in-Unknown
returns-in-Unknown c =
    let B = bytes_in c.args.bytes.now in
    let N = numbers_in c.args.numbers.now in
    let S = sums_in c.args.sums.now in
    let x = c.action_in-action.result.argument in
    let e = c.action_in-action.ensures in
    λ T W p q.
    by_kind T c.args.actions.now p q c.args.t c.args.a c.args.quota (gathered B W N S) e.code_value e.read.value c.kind.ensures c.in-Unknown.is
    (c.see-in-Unknown.ensures ∙ unknown_seen B W N S T c.args.t c.args.a x c.args.quota)
