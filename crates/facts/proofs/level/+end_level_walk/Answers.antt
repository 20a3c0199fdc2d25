use mathlib.Core.Path.{◌≡◌, sym, ap, ◌∙◌}
use Prim.Native.Nat.{ℕ, suc, ◌+◌, ◌-◌, ◌*◌, ◌≤◌, ◌<◌}
use mathlib.Core.List.{List}
use mathlib.Core.Bool.{false}
use native.Mathlib.Omega.{arith}
use lib.ListN.{get_or, set, drop}
use Rattle.table.specs.Format.{kind_of, is, kind, code_at, argument_at, bodies_from, body_of, table_of}
use Rattle.table.specs.declared.kinds.Kind.{Kind}
use Rattle.table.specs.declared.kinds.Kind.TheVariants.{Fork as fork, Join as join}
use Rattle.table.specs.Level.{level}
use Rattle.table.specs.Code.Steps.{Nested}
use Rattle.facts.specs.Code.Steps.{Starts, EndLevels, Walked, next_level}
use Rattle.table.proofs.Sizes.{sizes}
use Rattle.table.proofs.Bodies.{first_within, fork_below_lem, join_below}
use Rattle.table.proofs.Rank.{rest}
use Rattle.table.proofs.Amounts.{action_within}
use Rattle.table.proofs.Levels.{level_bound, level_child}
use Rattle.facts.proofs.EndLevels.{by_rules, in_threads, few_threads, few_actions, level_pos, Walking, walking_first, walking_last, walking_level, walking_room, walking_joined, walking_falls, walking_step, walking_fork}
use Rattle.table.proofs.Parts.{body_from, body_kind, body_argument}
use Rattle.table.proofs.Tests.{other_is}
use Rattle.facts.proofs.level.+end_level_walk.Invariants.{Inv}
use Rattle.facts.proofs.level.+end_level_walk.Goals.{walk-in-Fork, walk-in_default}
use Rattle.facts.proofs.level.+end_level_walk.Goals as goal

-- below a measure
less : (a b c : ℕ) → b ≡ c → a < b → a < c
less a b c e h = omega arith

-- a walk's start and end
start_pos : {s : List ℕ} {n m t start : ℕ} → Starts s n m t start → 1 ≤ start
start_pos {s} {n} {m} {t} h =
    let w : Nested s n m = h.nested in
    omega (arith, h.level, by_rules w level_pos ((table_of s).first t) (first_within (table_of s) w.formed.laid.contents t (in_threads w h.thread)))

begin : {s : List ℕ} {n m t : ℕ} {body : List ℕ} {count start : ℕ} {ends : List ℕ} → Starts s n m t start → (body ≡ body_of s t) × (count ≡ (table_of s).count t)
    → EndLevels (table_of s) ends → Inv s n m t body count ends ends (start - 1) 0
unfolding table_of
begin {s} {n} {m} h e known =
    let w : Nested s n m = h.nested in
    record {
      nested = w;
      sizes = sizes w.formed.laid.headed;
      thread = h.thread;
      body_is = e.0;
      count_is = e.1;
      within = omega arith;
      walking = by_rules w walking_first _ (in_threads w h.thread) _ _ h.level known;
    }

body_is : {s : List ℕ} {n m t start : ℕ} → Starts s n m t start → {l : List ℕ} → l ≡ drop (4 * (table_of s).first t) (bodies_from s n) → l ≡ body_of s t
unfolding table_of
body_is {s} {n} {t = t} h e = e ∙ body_from s n h.nested.formed.laid.headed.threads t

finish : {s : List ℕ} {n m t : ℕ} {body : List ℕ} {count : ℕ} {ends₀ ends : List ℕ} {last i : ℕ} → Inv s n m t body count ends₀ ends last i → count ≤ i
    → Walked (table_of s) t ends₀ last ends
unfolding table_of
finish {s} {t = t} {i = i} v h =
    let e : i ≡ (table_of s).count t = omega (arith, v.count_is, v.within) in
    by_rules v.nested walking_last _ (in_threads v.nested v.thread) _ _ _ (rw e at v.walking)

-- a turn of a walk
record Turn (s : List ℕ) (n m t : ℕ) (body : List ℕ) (count : ℕ) (ends₀ ends : List ℕ) (last i : ℕ) (k : Kind) (x : ℕ) : Type 0 where
  inv : Inv s n m t body count ends₀ ends last i
  taken : i < count
  code : k ≡ kind_of (code_at body i)
  argument : x ≡ argument_at body i

turn : {s : List ℕ} {n m t : ℕ} {body : List ℕ} {count : ℕ} {ends₀ ends : List ℕ} {last i : ℕ} {k : Kind} {x : ℕ} → Inv s n m t body count ends₀ ends last i → i < count
    → k ≡ kind_of (code_at body i) → x ≡ argument_at body i → Turn s n m t body count ends₀ ends last i k x
turn v h p q = record { inv = v; taken = h; code = p; argument = q }

module _ {s : List ℕ} {n m t : ℕ} {body : List ℕ} {count : ℕ} {ends₀ ends : List ℕ} {last i : ℕ} {k : Kind} {x : ℕ} (c : Turn s n m t body count ends₀ ends last i k x) where
  v : Inv s n m t body count ends₀ ends last i
  v = c.inv

  thread_in_lem : t < (table_of s).threads
  thread_in_lem = in_threads v.nested v.thread

  count_in_lem : i < (table_of s).count t
  unfolding table_of
  count_in_lem = omega (arith, c.taken, v.count_is)

  action_in_lem : (table_of s).first t + i < (table_of s).actions
  action_in_lem = action_within (table_of s) v.nested.formed.laid.contents v.nested.formed.bodies t i thread_in_lem count_in_lem

  kind_is : k ≡ kind (table_of s) ((table_of s).first t + i)
  kind_is = rw (c.code, v.body_is, body_kind s t i)

  argument_is : x ≡ (table_of s).argument ((table_of s).first t + i)
  argument_is = rw (c.argument, v.body_is, body_argument s t i)

  join_is : k ≡ join → kind (table_of s) ((table_of s).first t + i) ≡ join
  join_is e = sym kind_is ∙ e

  fork_is : k ≡ fork → kind (table_of s) ((table_of s).first t + i) ≡ fork
  fork_is e = sym kind_is ∙ e

  fork_no : (k ≡ fork → ⊥) → is fork (kind (table_of s) ((table_of s).first t + i)) ≡ false
  fork_no d = rw (← kind_is, other_is fork k d)

  ready : (last < 8192) × (k ≡ join → (x < 1024) × (get_or ends x 0 ≤ 8192))
  ready =
      let w : Nested s n m = v.nested in
      let below = join_below (table_of s) w.formed.laid.contents w.formed.bodies ((table_of s).first t + i) action_in_lem in (
        by_rules w walking_room _ thread_in_lem _ _ _ _ v.walking count_in_lem (few_actions w),
        λ e. rw argument_is
            (omega (arith, few_threads w, below (join_is e)), by_rules w walking_joined _ thread_in_lem _ _ _ _ v.walking count_in_lem (few_actions w) (join_is e)),
      )

  module _ {r : ℕ} (er : r ≡ next_level k x last ends) where
    level_is : r ≡ level (table_of s) ((table_of s).first t + i)
    level_is = er ∙ rw (kind_is, argument_is) (by_rules v.nested walking_level _ thread_in_lem _ _ _ _ v.walking count_in_lem)

    small : r ≤ 8192
    small = omega (arith, level_is, few_actions v.nested, by_rules v.nested level_bound ((table_of s).first t + i) action_in_lem)

    -- what a call for the child asks
    child : k ≡ fork → (suc (rest (table_of s) ((table_of s).first x)) < rest (table_of s) ((table_of s).first t)) × Starts s n m x (r + 1)
    unfolding table_of
    child e =
        let w : Nested s n m = v.nested in
        let below = fork_below_lem (table_of s) w.formed.laid.contents w.formed.bodies ((table_of s).first t + i) action_in_lem (fork_is e) in (
          rw argument_is (by_rules w walking_falls _ thread_in_lem _ _ _ _ v.walking count_in_lem (fork_is e)),
          record {
            nested = w;
            thread = rw argument_is (omega (arith, below, w.formed.laid.headed.threads));
            level = rw argument_is (omega (arith, level_is, by_rules w level_child ((table_of s).first t + i) action_in_lem (fork_is e)));
          },
        )

    next : (ends' : List ℕ) → Walking (table_of s) t ends₀ ends' r (i + 1) → Inv s n m t body count ends₀ ends' r (i + 1)
    next ends' q =
        record {
          nested = v.nested;
          sizes = v.sizes;
          thread = v.thread;
          body_is = v.body_is;
          count_is = v.count_is;
          within = omega (arith, c.taken);
          walking = q;
        }

    forked : k ≡ fork → {end : ℕ} {ends' : List ℕ} → Walked (table_of s) x ends end ends' → Inv s n m t body count ends₀ (set ends' x end) r (i + 1)
    forked e {end} {ends'} q =
        let w : Nested s n m = v.nested in
        next (set ends' x end)
        (rw argument_is (by_rules w walking_fork _ thread_in_lem _ _ _ _ v.walking count_in_lem (few_threads w) (fork_is e) _ level_is _ _ (rw argument_is at q)))

    passed : (k ≡ fork → ⊥) → Inv s n m t body count ends₀ ends r (i + 1)
    passed d = next ends (by_rules v.nested walking_step _ thread_in_lem _ _ _ _ v.walking count_in_lem (fork_no d) _ level_is)

pub end_level-walk-requires : goal.end_level-walk-requires
end_level-walk-requires t c =
    let s = c.requires.starts in
    (less _ _ _ c.decreases (omega arith), (s, ((body_is s c.body_of-body.ensures, c.count-count.ensures.value), c.requires.end_levels)))

pub walk-overflow_sub-last : goal.walk-overflow_sub-last
walk-overflow_sub-last t c = start_pos c.requires.starts

pub walk-loop-i-init : goal.walk-loop-i-init
walk-loop-i-init t c = begin c.requires.starts c.requires.body_value c.requires.end_levels

pub walk-next_level-last-requires : goal.walk-next_level-last-requires
walk-next_level-last-requires t c = ready (turn c.loop-i.invariant c.loop-i-test.true (c.kind-kind.ensures ∙ ap kind_of c.action_in-action.ensures.code_value) c.action_in-action.ensures.read.value)

pub walk-overflow_add-last : goal.walk-overflow_add-last
walk-overflow_add-last t c = omega (arith, small (turn c.loop-i.invariant c.loop-i-test.true (c.kind-kind.ensures ∙ ap kind_of c.action_in-action.ensures.code_value) c.action_in-action.ensures.read.value) c.next_level-last.ensures)

pub walk-end_level-end-requires : goal.walk-end_level-end-requires
walk-end_level-end-requires t c =
    let w = turn c.loop-i.invariant c.loop-i-test.true (c.kind-kind.ensures ∙ ap kind_of c.action_in-action.ensures.code_value) c.action_in-action.ensures.read.value in
    let q = child w c.next_level-last.ensures c.in-Fork.is in
    (less _ _ _ c.decreases q.0, (q.1, w.inv.walking.known))

pub walk-bounds-ends-x : goal.walk-bounds-ends-x
walk-bounds-ends-x t c =
    let w = turn c.loop-i.invariant c.loop-i-test.true (c.kind-kind.ensures ∙ ap kind_of c.action_in-action.ensures.code_value) c.action_in-action.ensures.read.value in
    omega (arith, w.inv.sizes, child w c.next_level-last.ensures c.in-Fork.is)

pub walk-loop-i-preserved : goal.walk-loop-i-preserved
walk-loop-i-preserved t c =
    let v = turn c.loop-i.invariant c.loop-i-test.true (c.kind-kind.ensures ∙ ap kind_of c.action_in-action.ensures.code_value) c.action_in-action.ensures.read.value in
    elim c.match-kind.branch [
      | walk-in-Fork w ↦ rw w.ends-is (forked v c.next_level-last.ensures w.in-Fork.is w.end_level-end.ensures)
      | walk-in_default w ↦ rw w.ends-is (passed v c.next_level-last.ensures w.in_default.not-Fork)
    ]

pub walk-returns : goal.walk-returns
walk-returns t c = finish c.loop-i.invariant c.loop-i-test.false
