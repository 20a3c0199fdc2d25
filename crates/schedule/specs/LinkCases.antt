-- Links, worked: the list 2 0 1 in links of four threads, what a fork and an end write, what a search finds, and links that describe no list; and the same list in a row.
use Rattle.std.specs.Prelude.{◌≡◌, refl, List, [], ◌∷◌, true, false, ℕ, take, replicate}
use Rattle.order.specs.Words.{same_list}
use Rattle.order.specs.Firsts.{firsts}
use Rattle.schedule.specs.Links.{no_thread, Links, walk, right_in, left_after, laid, link_left, unlink, link_last, seek}
use Rattle.schedule.specs.Actives.{actives, filled_from}
use Rattle.schedule.specs.RowList.{rowed, read_row}
use Rattle.schedule.specs.OldRuns.{same_row}

abbrev links : List ℕ → List ℕ → ℕ → Links
links left right head = record { left = left; right = right; head = head }

abbrev three : Links
three = links (2 ∷ 0 ∷ no_thread ∷ no_thread ∷ []) (1 ∷ no_thread ∷ 0 ∷ no_thread ∷ []) 2

laid_worked : links (take 4 (laid (2 ∷ 0 ∷ 1 ∷ [])).left) (take 4 (laid (2 ∷ 0 ∷ 1 ∷ [])).right) (laid (2 ∷ 0 ∷ 1 ∷ [])).head ≡ three
unfolding firsts right_in left_after
laid_worked = refl

walk_worked : walk no_thread three.right three.head ≡ 2 ∷ 0 ∷ 1 ∷ []
unfolding walk
walk_worked = refl

-- thread 0 forks 3; thread 2, the leftmost, does
fork_worked : link_left 3 0 three ≡ links (3 ∷ 0 ∷ no_thread ∷ 2 ∷ []) (1 ∷ no_thread ∷ 3 ∷ 0 ∷ []) 2
unfolding link_left
fork_worked = refl

fork_first_worked : link_left 3 2 three ≡ links (2 ∷ 0 ∷ 3 ∷ no_thread ∷ []) (1 ∷ no_thread ∷ 0 ∷ 2 ∷ []) 3
unfolding link_left
fork_first_worked = refl

-- thread 0 ends; thread 2 does, the leftmost, and thread 1, the last; and the only one
end_worked : unlink 0 three ≡ links (no_thread ∷ 2 ∷ no_thread ∷ no_thread ∷ []) (no_thread ∷ no_thread ∷ 1 ∷ no_thread ∷ []) 2
unfolding unlink
end_worked = refl

end_first_worked : unlink 2 three ≡ links (no_thread ∷ 0 ∷ no_thread ∷ no_thread ∷ []) (1 ∷ no_thread ∷ no_thread ∷ no_thread ∷ []) 0
unfolding unlink
end_first_worked = refl

end_last_worked : unlink 1 three ≡ links (2 ∷ no_thread ∷ no_thread ∷ no_thread ∷ []) (no_thread ∷ no_thread ∷ 0 ∷ no_thread ∷ []) 2
unfolding unlink
end_last_worked = refl

end_only_worked : unlink 0 (links (no_thread ∷ []) (no_thread ∷ []) 0) ≡ links (no_thread ∷ []) (no_thread ∷ []) no_thread
unfolding unlink
end_only_worked = refl

-- with thread 2 held and 0 and 1 ready; with none ready
seek_worked : seek no_thread (1 ∷ 1 ∷ 2 ∷ []) three.right three.head ≡ record { thread = 0; passed = 1 }
unfolding seek
seek_worked = refl

seek_none_worked : seek no_thread (3 ∷ 2 ∷ 2 ∷ []) three.right three.head ≡ record { thread = no_thread; passed = 3 }
unfolding seek
seek_none_worked = refl

-- with thread 0 waiting
actives_worked : actives (3 ∷ 1 ∷ 2 ∷ []) (2 ∷ 0 ∷ 1 ∷ []) ≡ 2 ∷ 1 ∷ []
unfolding actives
actives_worked = refl

-- a circle, and the blank record's zeros, are read as far as asked; a link out of range ends the row
circle_worked : walk 5 (1 ∷ 0 ∷ []) 0 ≡ 0 ∷ 1 ∷ 0 ∷ 1 ∷ 0 ∷ []
unfolding walk
circle_worked = refl

blank_worked : walk 3 (0 ∷ 0 ∷ 0 ∷ []) 0 ≡ 0 ∷ 0 ∷ 0 ∷ []
unfolding walk
blank_worked = refl

range_worked : walk no_thread (2000 ∷ []) 0 ≡ 0 ∷ []
unfolding walk
range_worked = refl

-- thread 1 waits: the second list has 0 and 2
filled_worked : (let k : Links = filled_from 3 (1 ∷ 3 ∷ 2 ∷ []) (1 ∷ 2 ∷ no_thread ∷ []) 0 no_thread (links (9 ∷ 9 ∷ 9 ∷ []) (9 ∷ 9 ∷ 9 ∷ []) no_thread) in
    record { left = k.left; right = k.right; head = k.head }) ≡ links (no_thread ∷ 9 ∷ 0 ∷ []) (2 ∷ 9 ∷ no_thread ∷ []) 0
unfolding filled_from link_last
filled_worked = refl

-- the same list as it was kept before N10: in a row of numbers whose unused places are 0, which the old test of a record asks, and one where they are not
row_worked : (same_row (rowed (2 ∷ 0 ∷ 1 ∷ [])) (rowed (read_row (rowed (2 ∷ 0 ∷ 1 ∷ [])))) ≡ true)
    × (same_row (record { list = 2 ∷ 0 ∷ 1 ∷ 7 ∷ replicate 1020 0; listed = 3 }) (rowed (2 ∷ 0 ∷ 1 ∷ [])) ≡ false)
unfolding same_list
row_worked = (refl, refl)
