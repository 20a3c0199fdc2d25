-- `run_memory::copies::copy_workers` meets its contract.
use mathlib.Core.Path.{◌≡◌, ap, ◌∙◌}
use lib.ListN.{length}
use native.Mathlib.Omega.{arith}
use Rattle.run_memory.specs.Blocks.{bytes_in, words_in, numbers_in}
use Rattle.run_memory.proofs.Copied.{worker_bytes_laid, worker_words_laid, worker_numbers_laid}
use Rattle.run_memory.proofs.copies.copy_workers.Goals as goal

pub returns : goal.returns
returns c = let z : length c.args.workers ≡ 16 = omega arith in
    let a = c.args in record { bytes_after = ap bytes_in c.copy_workers_in.ensures.bytes_after ∙ worker_bytes_laid a.workers z a.bytes.now (omega arith); words_after = ap words_in c.copy_workers_in.ensures.words_after ∙ worker_words_laid a.workers z a.words.now (omega arith); numbers_after = ap numbers_in c.copy_workers_in.ensures.numbers_after ∙ worker_numbers_laid a.workers z a.numbers.now (omega arith) }
