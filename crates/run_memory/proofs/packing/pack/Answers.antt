-- `run_memory::packing::pack` meets its contract: the copies lay the record's memory.
use Rattle.run_memory.specs.Blocks.{bytes_in, words_in, numbers_in, sums_in}
use Rattle.run_memory.proofs.Laying.{memory_laid}
use Rattle.run_memory.proofs.packing.pack.Goals as goal

pub returns : goal.returns
returns c =
    let a = c.args in
    memory_laid a.run a.parents.now (bytes_in a.bytes.now) (words_in a.words.now) (numbers_in a.numbers.now) (sums_in a.sums.now)
    c.pack_words.ensures c.pack_sums.ensures c.copy_statuses.ensures c.put_setting.ensures c.put_setting-2.ensures
    c.copy_workers.ensures.bytes_after c.copy_workers.ensures.words_after c.copy_workers.ensures.numbers_after
