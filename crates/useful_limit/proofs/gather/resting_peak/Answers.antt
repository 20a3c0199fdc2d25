-- `useful_limit::gather::resting_peak` meets its contract: the sum fits 64 bits.
use native.Mathlib.Omega.{arith}
use Rattle.useful_limit.proofs.Gathered.{resting_is, resting_fits, peak_given}
use borrow.Author.Rules.{rules}
use Rattle.useful_limit.proofs.gather.resting_peak.Goals as goal

pub overflow_mul-result : goal.overflow_mul-result
overflow_mul-result c = record { fits = (resting_fits _ c.requires.0 _ c.requires.2 (peak_given _ c.requires.0 _ _ (omega arith) c.peak_in.ensures.value c.unwrap_or-peak.ensures) c.rise.ensures).0 }

pub overflow_add-result : goal.overflow_add-result
overflow_add-result c = record { fits = (resting_fits _ c.requires.0 _ c.requires.2 (peak_given _ c.requires.0 _ _ (omega arith) c.peak_in.ensures.value c.unwrap_or-peak.ensures) c.rise.ensures).1 }

pub returns : goal.returns
returns c = resting_is _ c.requires.0 _ (peak_given _ c.requires.0 _ _ (omega arith) c.peak_in.ensures.value c.unwrap_or-peak.ensures) c.rise.ensures
