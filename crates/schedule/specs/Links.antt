-- The list of threads as links (N10): each thread's left and right neighbour and the leftmost thread. The list read off them, a list laid into them, the writes by which a thread comes
-- and goes, and the search for the leftmost ready thread. All of it is for any numbers whatever: a read outside an array gives 0, and a write there does nothing.
use Rattle.std.specs.Prelude.{◌≡◌, ℕ, zero, suc, ◌<◌, List, [], ◌∷◌, length, get_or, set, ltb, eqb}
use Rattle.table.specs.Sum.{pick}
use Rattle.schedule.specs.Machine.{ready}
use Rattle.order.specs.Firsts.{firsts}

-- "No neighbour is written as 1,024"
abbrev pub no_thread : ℕ
no_thread = 1024

pub record Links : Type 0 where
  pub left : List ℕ
  pub right : List ℕ
  pub head : ℕ

-- ---- reading

-- the threads from t on along the right links, k at most
unfoldable pub walk : ℕ → List ℕ → ℕ → List ℕ
walk zero right t = []
walk (suc k) right t =
    let there : List ℕ = t ∷ walk k right (get_or right t 0) in
    pick (ltb t no_thread) there []

-- "Reading from the left gives the .. list" (N10): bounded, whatever the links hold
abbrev pub list_of : Links → List ℕ
list_of k = walk no_thread k.right k.head

-- ---- laying

-- the leftmost thread of a list: "as leftmost when the list is empty", 1,024
abbrev pub head_of : List ℕ → ℕ
head_of [] = no_thread
head_of (t ∷ l) = t

-- the right neighbour of thread t in a list; `no_thread` for the last, and "on both sides for a thread not in the list"
unfoldable pub right_in : List ℕ → ℕ → ℕ
right_in [] t = no_thread
right_in (u ∷ l) t = pick (eqb u t) (head_of l) (right_in l t)

-- its left neighbour, where y stands before the list
unfoldable pub left_after : ℕ → List ℕ → ℕ → ℕ
left_after y [] t = no_thread
left_after y (u ∷ l) t = pick (eqb u t) y (left_after u l t)

abbrev pub left_in : List ℕ → ℕ → ℕ
left_in l t = left_after no_thread l t

abbrev pub laid : List ℕ → Links
laid l = record { left = firsts (left_in l) 0 no_thread; right = firsts (right_in l) 0 no_thread; head = head_of l }

-- the links describe the list
pub record Linked (left right : List ℕ) (head : ℕ) (l : List ℕ) : Type 0 where
  pub left_size : length left ≡ no_thread
  pub right_size : length right ≡ no_thread
  pub lefts : (t : ℕ) → t < no_thread → get_or left t 0 ≡ left_in l t
  pub rights : (t : ℕ) → t < no_thread → get_or right t 0 ≡ right_in l t
  pub leftmost : head ≡ head_of l

abbrev pub LinkedAs : Links → List ℕ → Type 0
LinkedAs k l = Linked k.left k.right k.head l

-- ---- writing

-- c enters directly left of t (`link_left_linked`, proofs/Linked/Links)
unfoldable pub link_left : ℕ → ℕ → Links → Links
link_left c t k =
    let x : ℕ = get_or k.left t 0 in
    record { left = set (set k.left t c) c x; right = set (set k.right x c) c t; head = pick (ltb x no_thread) k.head c }

-- t leaves (`unlink_linked`, proofs/Linked/Links)
unfoldable pub unlink : ℕ → Links → Links
unlink t k =
    let x : ℕ = get_or k.left t 0 in
    let y : ℕ = get_or k.right t 0 in
    record { left = set (set k.left y x) t no_thread; right = set (set k.right x y) t no_thread; head = pick (ltb x no_thread) k.head y }

-- the last thread of a list, where y stands before the list
unfoldable pub last_after : ℕ → List ℕ → ℕ
last_after y [] = y
last_after y (t ∷ l) = last_after t l

abbrev pub last_of : List ℕ → ℕ
last_of l = last_after no_thread l

-- c enters at the right end, where y is the last thread (`link_last_linked`, proofs/Linked/Fills)
unfoldable pub link_last : ℕ → ℕ → Links → Links
link_last c y k = record { left = set k.left c y; right = set (set k.right y c) c no_thread; head = pick (ltb y no_thread) k.head c }

-- ---- searching

-- a thread, `no_thread` where there is none, and how many stand left of it
pub record Sought : Type 0 where
  pub thread : ℕ
  pub passed : ℕ

-- the leftmost ready thread of a list
unfoldable pub first_ready : List ℕ → List ℕ → ℕ
first_ready status [] = no_thread
first_ready status (t ∷ l) = pick (eqb (get_or status t 0) ready) t (first_ready status l)

-- the search for it along the right links, from t on and over k threads at most
unfoldable pub seek : ℕ → List ℕ → List ℕ → ℕ → Sought
seek zero status right t = record { thread = no_thread; passed = 0 }
seek (suc k) status right t =
    let rest : Sought = seek k status right (get_or right t 0) in
    let later : Sought = record { thread = rest.thread; passed = suc rest.passed } in
    let there : Sought = pick (eqb (get_or status t 0) ready) (record { thread = t; passed = 0 }) later in
    pick (ltb t no_thread) there (record { thread = no_thread; passed = 0 })
