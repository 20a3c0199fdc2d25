-- The second list of a run (N10): the listed threads that do not wait, in their order. A search along it passes held threads alone.
use Rattle.std.specs.Prelude.{ℕ, zero, suc, List, [], ◌∷◌, get_or, replicate, ltb, eqb}
use Rattle.table.specs.Sum.{pick}
use Rattle.schedule.specs.Machine.{waiting}
use Rattle.schedule.specs.Links.{no_thread, Links, link_last}

unfoldable pub actives : List ℕ → List ℕ → List ℕ
actives status [] = []
actives status (t ∷ l) = pick (eqb (get_or status t 0) waiting) (actives status l) (t ∷ actives status l)

-- ---- its links, filled from those of the list

-- the links of an empty list
abbrev pub no_links : Links
no_links = record { left = replicate no_thread no_thread; right = replicate no_thread no_thread; head = no_thread }

-- from thread t on along the list's right links, n threads at most: each that does not wait enters at the right end, where y is the last so far
unfoldable pub filled_from : ℕ → List ℕ → List ℕ → ℕ → ℕ → Links → Links
filled_from zero status right t y k = k
filled_from (suc n) status right t y k =
    let past : Links = filled_from n status right (get_or right t 0) y k in
    let with_t : Links = filled_from n status right (get_or right t 0) t (link_last t y k) in
    let there : Links = pick (eqb (get_or status t 0) waiting) past with_t in
    pick (ltb t no_thread) there k
