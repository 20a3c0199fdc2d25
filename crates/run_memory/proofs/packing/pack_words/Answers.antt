-- `run_memory::packing::pack_words` meets its contract: the copies are those of the record's rows and heads, and of the second list that was filled.
use Rattle.run_memory.specs.Blocks.{words_in}
use Rattle.run_memory.proofs.Laying.{words_laid}
use Rattle.run_memory.proofs.packing.pack_words.Goals as goal

pub returns : goal.returns
returns c =
    words_laid c.args.run c.args.parents.now (words_in c.args.words.now) c.fill_actives-first.ensures c.copy_row.ensures c.copy_row-2.ensures
    c.copy_row-3.ensures c.copy_row-4.ensures c.copy_row-5.ensures c.copy_row-6.ensures c.put_head.ensures c.put_head-2.ensures c.put_head-3.ensures
