-- `filling::build` meets its contract.
use Rattle.filling.proofs.build.Goals as goal

pub fill_sizes-requires : goal.fill_sizes-requires
fill_sizes-requires c = record { ready = c.requires.ready; total_value = c.requires.total.0; sums = c.fill_starts.ensures.sums_2; roots_to = c.fill_starts.ensures.roots_to }

pub put_table-requires : goal.put_table-requires
put_table-requires c =
    record { ready = c.requires.ready; total_value = c.requires.total.0; actions_value = c.requires.total.1; sums = c.fill_sizes.ensures.sums_2; sizes = c.fill_sizes.ensures.sizes; starts = c.fill_starts.ensures.starts }
