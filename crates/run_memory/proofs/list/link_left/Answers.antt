-- `run_memory::list::link_left` meets its contract: its writes are those of the definition.
use Rattle.run_memory.specs.Blocks.{words_in}
use Rattle.run_memory.proofs.Linking.{no_list, its_list, linked_inner, linked_first}
use Rattle.run_memory.proofs.list.link_left.Goals as goal

pub returns-then-k-ge5 : goal.returns-then-k-ge5
returns-then-k-ge5 c = no_list _ _ c.if-k-ge5.true

pub returns-then-x-ge-NO_THREAD : goal.returns-then-x-ge-NO_THREAD
returns-then-x-ge-NO_THREAD c =
    let d = c.args in
    its_list _ _ c.if-k-ge5.false
    (linked_first d.k d.h d.c d.t _ (words_in d.words.now) _ _ _ _ c.row_at-x.ensures c.put_row.ensures c.put_row-2.ensures c.put_row-3.ensures c.put_row-4.ensures _
    c.if-x-ge-NO_THREAD.true c.put_head.ensures)

pub returns-else-x-ge-NO_THREAD : goal.returns-else-x-ge-NO_THREAD
returns-else-x-ge-NO_THREAD c =
    let d = c.args in
    its_list _ _ c.if-k-ge5.false
    (linked_inner d.k d.h d.c d.t _ (words_in d.words.now) _ _ _ _ c.row_at-x.ensures c.put_row.ensures c.put_row-2.ensures c.put_row-3.ensures c.put_row-4.ensures
    c.if-x-ge-NO_THREAD.false)
