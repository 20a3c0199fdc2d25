-- `run_memory::act::go_on` meets its contract: the code read is that of the thread's next action, and its kind's function leaves what `acted` says of the kind.
use mathlib.Core.Path.{◌≡◌, refl, sym, ◌∙◌}
use Prim.Native.Nat.{ℕ, ◌≤◌}
use mathlib.Core.List.{List}
use native.Mathlib.Omega.{arith}
use Rattle.table.specs.Format.{Table, kind, kind_of, code_at, argument_at}
use Rattle.table.specs.declared.kinds.Kind.TheVariants.{Unknown as unknown}
use Rattle.array_machine.proofs.Leaves.{code_unknown}
use Rattle.run_memory.specs.Memory.{Memory}
use Rattle.run_memory.specs.Blocks.{memory_of}
use Rattle.run_memory.specs.Code.Acts.{Gone, acted}
use Rattle.run_memory.proofs.act.go_on.Goals as goal

module _ (T : Table) (l : List ℕ) (p : T.code ≡ code_at l) (q : T.argument ≡ argument_at l) (w t a : ℕ) (M : Memory) where
  -- of an action whose code and argument have been read
  by_code : (j : ℕ) {k x : ℕ} {g : Gone} → k ≡ code_at l a → x ≡ argument_at l a → k ≡ j → g ≡ acted (kind_of j) T w t a x M → g ≡ acted (kind T a) T w t a (T.argument a) M
  by_code j {k} {x} e f i d =
      let u : T.code a ≡ j = (λ m. p m a) ∙ (sym e ∙ i) in
      let y : T.argument a ≡ x = (λ m. q m a) ∙ sym f in
      rw (u, y) d

-- a code that is none of the six
idles : (T : Table) (w t a : ℕ) (M : Memory) (x : ℕ) {k : ℕ} {g : Gone} → 6 ≤ k → g ≡ acted unknown T w t a x M → g ≡ acted (kind_of k) T w t a x M
idles T w t a M x {k} h d = rw (code_unknown k h) d

pub returns-in-0 : goal.returns-in-0
unfolding kind_of
returns-in-0 c =
    λ T p q.
    by_code T c.args.actions.now p q c.args.w c.args.t c.args.a (memory_of c.args.bytes.now c.args.words.now c.args.numbers.now c.args.sums.now) 0 c.code_in.ensures c.argument_in-x.ensures.value c.in-0.is
    (c.act_end.ensures T _ p q)

pub returns-in-1 : goal.returns-in-1
unfolding kind_of
returns-in-1 c =
    λ T p q.
    by_code T c.args.actions.now p q c.args.w c.args.t c.args.a (memory_of c.args.bytes.now c.args.words.now c.args.numbers.now c.args.sums.now) 1 c.code_in.ensures c.argument_in-x.ensures.value c.in-1.is
    (c.act_work.ensures T _)

pub returns-in-2 : goal.returns-in-2
unfolding kind_of
returns-in-2 c =
    λ T p q.
    by_code T c.args.actions.now p q c.args.w c.args.t c.args.a (memory_of c.args.bytes.now c.args.words.now c.args.numbers.now c.args.sums.now) 2 c.code_in.ensures c.argument_in-x.ensures.value c.in-2.is
    (c.act_alloc.ensures T)

pub returns-in-3 : goal.returns-in-3
unfolding kind_of
returns-in-3 c =
    λ T p q.
    by_code T c.args.actions.now p q c.args.w c.args.t c.args.a (memory_of c.args.bytes.now c.args.words.now c.args.numbers.now c.args.sums.now) 3 c.code_in.ensures c.argument_in-x.ensures.value c.in-3.is
    (c.act_free.ensures T)

pub returns-in-4 : goal.returns-in-4
unfolding kind_of
returns-in-4 c =
    λ T p q.
    by_code T c.args.actions.now p q c.args.w c.args.t c.args.a (memory_of c.args.bytes.now c.args.words.now c.args.numbers.now c.args.sums.now) 4 c.code_in.ensures c.argument_in-x.ensures.value c.in-4.is
    (c.act_fork.ensures T)

pub returns-in-5 : goal.returns-in-5
unfolding kind_of
returns-in-5 c =
    λ T p q.
    by_code T c.args.actions.now p q c.args.w c.args.t c.args.a (memory_of c.args.bytes.now c.args.words.now c.args.numbers.now c.args.sums.now) 5 c.code_in.ensures c.argument_in-x.ensures.value c.in-5.is
    (c.act_join.ensures T)

pub returns-in_default : goal.returns-in_default
returns-in_default c =
    let r = c.in_default.in_default-own.rest in
    let six : 6 ≤ c.code_in.result = omega (arith, r.1, r.0.1, r.0.0.1, r.0.0.0.1, r.0.0.0.0.1, r.0.0.0.0.0.1) in
    λ T p q.
    by_code T c.args.actions.now p q c.args.w c.args.t c.args.a (memory_of c.args.bytes.now c.args.words.now c.args.numbers.now c.args.sums.now) c.code_in.result c.code_in.ensures c.argument_in-x.ensures.value refl
    (idles T c.args.w c.args.t c.args.a (memory_of c.args.bytes.now c.args.words.now c.args.numbers.now c.args.sums.now) c.argument_in-x.result six (c.act_unknown.ensures T _))
