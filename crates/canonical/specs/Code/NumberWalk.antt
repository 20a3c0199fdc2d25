-- The new numbers without recursion: sizes of subtrees from the highest thread down, numbers from the root up.
use Rattle.std.specs.Prelude.{ℕ, zero, suc, ◌+◌, ◌%◌, List, get_or, set}
use Rattle.table.specs.Sum.{pick, sum_to}
use Rattle.table.specs.Format.{is, kind_of, Table}
use Rattle.table.specs.declared.kinds.Kind.{Kind}
use Rattle.table.specs.declared.kinds.Kind.TheVariants.{Fork as fork}

-- 16 bits
abbrev pub cut16 : ℕ → ℕ
cut16 x = x % 65536

-- the size of the child that an action of kind k forks, else 0
abbrev pub fork_size : List ℕ → Kind → ℕ → ℕ
fork_size sizes k x = pick (is fork k) (get_or sizes x 0) 0

-- the sizes of the children forked among k actions from a on
abbrev pub forked_sizes : (ℕ → ℕ) → (ℕ → ℕ) → List ℕ → ℕ → ℕ → ℕ
forked_sizes code argument sizes a k = sum_to (λ i. fork_size sizes (kind_of (code (a + i))) (argument (a + i))) k

-- the threads below t, from the highest down
unfoldable pub sizes_down : (ℕ → ℕ) → Table → ℕ → List ℕ → List ℕ
sizes_down cut T zero sizes = sizes
sizes_down cut T (suc t) sizes = sizes_down cut T t (set sizes t (cut (suc (forked_sizes T.code T.argument sizes (T.first t) (T.count t)))))

-- numbers given, and the next one
pub record Numbered : Type 0 where
  pub new : List ℕ
  pub next : ℕ

abbrev pub numbered : List ℕ → ℕ → Numbered
numbered new next = record { new = new; next = next }

-- a forked child gets the next number, and the one after its subtree is next
abbrev pub step_number : (ℕ → ℕ) → List ℕ → Kind → ℕ → Numbered → Numbered
step_number cut sizes k x w = numbered (pick (is fork k) (set w.new x (cut w.next)) w.new) (w.next + fork_size sizes k x)

-- k actions from a on
unfoldable pub number_body : (ℕ → ℕ) → (ℕ → ℕ) → (ℕ → ℕ) → List ℕ → ℕ → ℕ → Numbered → Numbered
number_body cut code argument sizes a zero w = w
number_body cut code argument sizes a (suc k) w = number_body cut code argument sizes (suc a) k (step_number cut sizes (kind_of (code a)) (argument a) w)

abbrev pub number_thread : (ℕ → ℕ) → Table → List ℕ → ℕ → List ℕ → List ℕ
number_thread cut T sizes t new = (number_body cut T.code T.argument sizes (T.first t) (T.count t) (numbered new (suc (get_or new t 0)))).new

-- k threads from t on
unfoldable pub numbers_up : (ℕ → ℕ) → Table → List ℕ → ℕ → ℕ → List ℕ → List ℕ
numbers_up cut T sizes t zero new = new
numbers_up cut T sizes t (suc k) new = numbers_up cut T sizes (suc t) k (number_thread cut T sizes t new)

abbrev pub numbers_in : (ℕ → ℕ) → Table → List ℕ → List ℕ → List ℕ
numbers_in cut T sizes new = numbers_up cut T (sizes_down cut T T.threads sizes) 0 T.threads (set new 0 0)
