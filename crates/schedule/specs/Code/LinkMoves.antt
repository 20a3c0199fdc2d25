-- What an action does to the links of the list and to those of the second list, by its kind: thread t acts, and x is the action's argument.
use Rattle.std.specs.Prelude.{ℕ, eqb}
use Rattle.table.specs.Sum.{pick}
use Rattle.table.specs.Format.{Table}
use Rattle.table.specs.declared.kinds.Kind.{Kind}
use Rattle.table.specs.declared.kinds.Kind.TheVariants.{End as end, Work as work, Alloc as alloc, Free as free, Fork as fork, Join as join, Unknown as unknown}
use Rattle.schedule.specs.Machine.{State, ended, status_of, with_status, parent_of, waits_for}
use Rattle.schedule.specs.Links.{Links, link_left, unlink}

-- the list: a forked child enters left of its thread, an ended thread leaves
unfoldable pub links_by : Kind → ℕ → ℕ → Links → Links
links_by end t x k = unlink t k
links_by work t x k = k
links_by alloc t x k = k
links_by free t x k = k
links_by fork t x k = link_left x t k
links_by join t x k = k
links_by unknown t x k = k

-- the second list: a thread that begins to wait leaves too, and a parent that is woken enters left of the thread that ends
unfoldable pub actives_by : Kind → Table → ℕ → ℕ → State → Links → Links
actives_by end T t x st k = unlink t (pick (waits_for T (with_status t ended st) (parent_of T t) t) (link_left (parent_of T t) t k) k)
actives_by work T t x st k = k
actives_by alloc T t x st k = k
actives_by free T t x st k = k
actives_by fork T t x st k = link_left x t k
actives_by join T t x st k = pick (eqb (status_of st x) ended) k (unlink t k)
actives_by unknown T t x st k = k
