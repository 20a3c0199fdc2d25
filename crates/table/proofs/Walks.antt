-- What the walks over one body share: codes against kinds, arguments of 24 bits, the amounts of a body against those of its thread.
use mathlib.Core.Path.{◌≡◌, refl, sym, ap, ◌∙◌}
use Prim.Native.Nat.{ℕ, zero, suc, ◌+◌, ◌*◌, ◌^◌, ◌≤◌, ◌<◌, min}
use mathlib.Core.List.{List}
use mathlib.Core.Bool.{Bool, true, false}
use native.Mathlib.Decide.{ℕ_discrete}
use native.Mathlib.Omega.{arith}
use borrow.Author.Tests.{eq-eqb, ne_eqb}
use lib.Dec.{eqb}
use lib.ListN.{get_or, set, length-drop, length-set}
use lib.Seq.{get_or-drop, get_or-set_same, get_or-set_other}
use Rattle.table.specs.Sum.{pick, sum_to}
use Rattle.table.specs.Format.{code_of, kind_of, is, code_at, argument_at, threads_of, actions_of, first_of, count_of, bodies_of, body_of, Table, table_of, kind, own_amount}
use Rattle.table.specs.declared.kinds.Kind.{Kind}
use Rattle.table.specs.declared.kinds.Kind.TheVariants.{Alloc as alloc, Free as free}
use Rattle.table.specs.Checks.{with_child, whole}
use Rattle.table.specs.Rules.{ContentRules, BodyRules}
use Rattle.table.specs.Code.Steps.{child_amount, amount_at, WalkReady, Filled, Headed, Formed}
use Rattle.table.proofs.Tests.{pick_same}
use Rattle.table.proofs.Sums.{sum_to_cong, sum_to_part}
use Rattle.table.proofs.Sizes.{Sizes, sizes}
use Rattle.table.proofs.Bodies.{body_within, owner_at, NamesChild, child_between}
use Rattle.table.proofs.Amounts.{action_within}
use Rattle.table.proofs.Parts.{code_part, argument_part}

-- the code of a kind
code_least : (k : ℕ) → code_of (kind_of k) ≡ min k 6
unfolding code_of kind_of
code_least zero = refl
code_least (suc zero) = refl
code_least (suc (suc zero)) = refl
code_least (suc (suc (suc zero))) = refl
code_least (suc (suc (suc (suc zero)))) = refl
code_least (suc (suc (suc (suc (suc zero))))) = refl
code_least (suc (suc (suc (suc (suc (suc k)))))) = omega arith

-- a code below 6 is told from any other by its kind
pub is_code : (own k : ℕ) → own < 6 → is (kind_of own) (kind_of k) ≡ eqb k own
unfolding is
is_code own k h = go (ℕ_discrete k own)
  where
    go : Dec (k ≡ own) → eqb (code_of (kind_of own)) (code_of (kind_of k)) ≡ eqb k own
    go (yes e) = eq-eqb _ _ (ap (λ (x : ℕ). code_of (kind_of x)) (sym e)) ∙ sym (eq-eqb _ _ e)
    go (no d) =
        let e : code_of (kind_of own) ≡ code_of (kind_of k) → k ≡ own = λ q. omega (arith, code_least own, code_least k) in
        ne_eqb _ _ (λ q. d (e q)) ∙ sym (ne_eqb _ _ d)

-- an argument has 24 bits
pub argument_small : (s : List ℕ) → ((i : ℕ) → get_or s i 0 < 256) → (a : ℕ) → (table_of s).argument a < 16777216
unfolding table_of
argument_small s h a =
    let f : ℕ = 4 + 4 * threads_of s in
    let i : ℕ = 4 * a + 1 in
    simp get_or-drop (omega (arith, h (f + i), h (f + (i + 1)), h (f + (i + 2))))

-- ---- one action of a walk over a body

-- a sum up to and with action i, which is small
pub record Summed (f : ℕ → ℕ) (i r : ℕ) : Type 0 where
  pub value : r ≡ sum_to f (suc i)
  pub small : r < 2 ^ 40

-- action i's own amount o and its child's amount d go into the sum
pub sum_next : (own at : Kind) (l amounts : List ℕ) {count i k x o d sum : ℕ} → sum_to (amount_at own at l amounts) count < 2 ^ 40 → i < count
    → k ≡ code_at l i → x ≡ argument_at l i → o ≡ own_amount own (kind_of k) x → d ≡ child_amount at (kind_of k) x amounts
    → sum ≡ sum_to (amount_at own at l amounts) i → Summed (amount_at own at l amounts) i (sum + (o + d))
unfolding sum_to amount_at
sum_next own at l amounts {count} {i} {k} {x} {o} {d} {sum} b h e f p q j =
    let v : sum + (o + d) ≡ sum_to (amount_at own at l amounts) (suc i) = rw (p, q, e, f, j) in
    record { value = v; small = omega (arith, sum_to_part (amount_at own at l amounts) (suc i) count h) }

-- a child's number is an index
pub child_small : {at : Kind} {l : List ℕ} {count : ℕ} {rises falls : List ℕ} {i k x : ℕ} → WalkReady at l count rises falls → i < count
    → k ≡ code_at l i → x ≡ argument_at l i → kind_of k ≡ at → x < 1024
child_small {i = i} r h e f g = rw f (r.children i h (rw e at g))

-- ---- a body's sums against those of its thread

-- the children that a thread's actions of one kind name have higher numbers
abbrev pub ChildrenAbove : Table → Kind → ℕ → Type 0
ChildrenAbove T at t =
    (i : ℕ) → i < T.count t → kind T (T.first t + i) ≡ at → (t < T.argument (T.first t + i)) × (T.argument (T.first t + i) < T.threads)

pub children_above : (T : Table) → ContentRules T → BodyRules T → (at : Kind) → NamesChild at → (t : ℕ) → t < T.threads → ChildrenAbove T at t
children_above T c b at names t h i k e =
    rw (owner_at T c t i h k) at (child_between T c b at names (T.first t + i) (action_within T c b t i h k) e)

pub own_small : (j k : Kind) (x : ℕ) → x < 16777216 → own_amount j k x ≤ 16777215
own_small j k x h = go (is j k)
  where
    go : (t : Bool) → pick t x 0 ≤ 16777215
    go true = omega arith
    go false = omega arith

module _ (s : List ℕ) (own at : Kind) (mine : ℕ → ℕ) (mine-is : (a : ℕ) → mine a ≡ own_amount own (kind (table_of s) a) ((table_of s).argument a)) where
  -- what an action adds, where the children's entries are right
  amount_is : (whole : ℕ → ℕ) (amounts : List ℕ) (t i : ℕ)
      → (kind (table_of s) ((table_of s).first t + i) ≡ at
      → get_or amounts ((table_of s).argument ((table_of s).first t + i)) 0 ≡ whole ((table_of s).argument ((table_of s).first t + i)))
      → amount_at own at (body_of s t) amounts i ≡ with_child (table_of s) at mine whole ((table_of s).first t + i)
  unfolding amount_at table_of
  amount_is whole amounts t i h =
      rw (code_part (bodies_of s) (first_of s t) i, argument_part (bodies_of s) (first_of s t) i, mine-is (first_of s t + i))
      (ap (λ (x : ℕ). own_amount own (kind (table_of s) (first_of s t + i)) ((table_of s).argument (first_of s t + i)) + x)
      (pick_same at (kind (table_of s) (first_of s t + i)) _ _ h))

  pub sums_agree : (amounts : List ℕ) (t : ℕ) → ChildrenAbove (table_of s) at t → Filled (table_of s) (whole (table_of s) mine) amounts (suc t)
      → (k : ℕ) → k ≤ (table_of s).count t
      → sum_to (amount_at own at (body_of s t) amounts) k ≡ sum_to (λ i. with_child (table_of s) at mine (whole (table_of s) mine) ((table_of s).first t + i)) k
  sums_agree amounts t above f k h =
      sum_to_cong _ _ k (λ i l. amount_is (whole (table_of s) mine) amounts t i (λ e.
      let p = above i (omega arith) e in
      f.right _ p.0 p.1))

-- the walk over a thread's body may begin
pub walk_ready : (s : List ℕ) (n m : ℕ) → Formed s n m → (at : Kind) (t count : ℕ) (rises falls : List ℕ) → t < n → count ≡ count_of s t → ChildrenAbove (table_of s) at t
    → sum_to (amount_at alloc at (body_of s t) rises) count ≤ 16777215 * m → sum_to (amount_at free at (body_of s t) falls) count ≤ 16777215 * m
    → WalkReady at (body_of s t) count rises falls
unfolding table_of
walk_ready s n m r at t count rises falls h e above up down =
    let d : Headed s n m = r.laid.headed in
    let z : Sizes s n m = sizes d in
    let w : first_of s t + count_of s t ≤ actions_of s = body_within (table_of s) r.laid.contents t (rw d.threads at h) in
    record {
      room = simp length-drop (omega (arith, d.threads, d.actions, z.total));
      few = omega (arith, d.actions, z.actions_high);
      children = λ i l k.
          let j : i < count_of s t = omega arith in
          let q = above i j (rw code_part at k) in
          rw argument_part (omega (arith, q.1, d.threads, z.threads_high));
      rise_small = omega (arith, z.actions_high);
      fall_small = omega (arith, z.actions_high);
    }

-- an array that has the amounts above thread t has its amount too once that is set
pub filled_set : (T : Table) (amount : ℕ → ℕ) (amounts : List ℕ) (t v : ℕ) → t < 1024 → v ≡ amount t → Filled T amount amounts (suc t)
    → Filled T amount (set amounts t v) t
filled_set T amount amounts t v h e f =
    record { size = length-set amounts t v ∙ f.size; right = λ u l k. go u l k (ℕ_discrete u t) }
  where
    go : (u : ℕ) → t ≤ u → u < T.threads → Dec (u ≡ t) → get_or (set amounts t v) u 0 ≡ amount u
    go u l k (yes d) = rw (d, get_or-set_same amounts t v 0 (omega (arith, f.size))) e
    go u l k (no d) = get_or-set_other amounts t u v 0 d ∙ f.right u (omega (arith, d)) k
