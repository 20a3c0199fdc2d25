-- `Kind::from` meets its contract: each arm's kind is the definition's at that code.
use Rattle.std.proofs.Common.{◌≡◌, ℕ, zero, suc, ◌≤◌, refl, arith}
use Rattle.table.specs.Format.{kind_of}
use Rattle.table.specs.declared.kinds.Kind.TheVariants.{Unknown as unknown}
use Rattle.table.proofs.kinds.KindFromU8.from.Goals as goal

at_unknown : (k : ℕ) → 6 ≤ k → unknown ≡ kind_of k
unfolding kind_of
at_unknown zero h = absurd (omega arith)
at_unknown (suc zero) h = absurd (omega arith)
at_unknown (suc (suc zero)) h = absurd (omega arith)
at_unknown (suc (suc (suc zero))) h = absurd (omega arith)
at_unknown (suc (suc (suc (suc zero)))) h = absurd (omega arith)
at_unknown (suc (suc (suc (suc (suc zero))))) h = absurd (omega arith)
at_unknown (suc (suc (suc (suc (suc (suc k)))))) h = refl

pub returns-in-6-to-255 : goal.returns-in-6-to-255
returns-in-6-to-255 c = at_unknown _ (omega arith)
