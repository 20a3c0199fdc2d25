-- What two sentences of specs/JobTable say of worked tables: which child is the latest unjoined one in table E, and balances that fall below 0.
use Rattle.std.specs.Prelude.{◌≡◌, refl, ℕ, zero, suc, ◌≤◌, ◌<◌, List, [], ◌∷◌, map, pos, negsuc}
use Rattle.std.proofs.Common.{sym, arith}
use Rattle.table.specs.Sum.{sum_to}
use Rattle.table.specs.Format.{code_of, kind_of, is, table_of}
use Rattle.table.specs.declared.kinds.Kind.{Kind}
use Rattle.table.specs.declared.kinds.Kind.TheVariants.{End as end, Free as free, Fork as fork, Join as join}
use Rattle.table.specs.Checks.{owner_below, alloc_of, free_of, whole_within, balance}
use Rattle.table.specs.JobTable.{Names, Unjoined, Latest}
use Rattle.table.specs.Cases.{act, written, E}

no_join : ◌≡◌ {A = Kind} fork join → ⊥
no_join e = let z : ◌≡◌ {A = ℕ} 0 1 = cc in omega arith

-- thread 0 of E: fork 1, fork 2, join 2, join 1, end
child2_unjoined : Unjoined (table_of E) 0 2 2 1
unfolding table_of kind_of code_of
child2_unjoined =
    record {
      forked = record { within = record { thread = omega arith; from = omega arith; below = omega arith }; of_kind_lem = refl; named = refl };
      before = omega arith;
      not_yet = none;
    }
  where
    none : (j : ℕ) → Names (table_of E) join 0 2 j → j < 2 → ⊥
    none zero q h = no_join q.of_kind_lem
    none (suc zero) q h = no_join q.of_kind_lem
    none (suc (suc j)) q h = omega arith

-- at its first join, action 2, the latest unjoined child is 2
pub latest_2 : Latest (table_of E) 0 2 2
latest_2 = record { action = 1; unjoined = child2_unjoined; latest = λ d x u. omega (arith, u.before) }

-- and not 1, so that the two joins cannot be swapped
pub latest_not_1 : Latest (table_of E) 0 2 1 → ⊥
unfolding table_of kind_of code_of
latest_not_1 q = go q.action (q.latest 2 1 child2_unjoined) q.unjoined
  where
    go : (x : ℕ) → 1 ≤ x → Unjoined (table_of E) 0 2 1 x → ⊥
    go zero l u = omega arith
    go (suc zero) l u = let e : ◌≡◌ {A = ℕ} 2 1 = u.forked.named in omega arith
    go (suc (suc x)) l u = omega (arith, u.before)

-- at its second join, action 3, child 2 is joined, and the latest is child 1
pub latest_1 : Latest (table_of E) 0 3 1
unfolding table_of kind_of code_of
latest_1 =
    record {
      action = 0;
      unjoined =
          record {
            forked = record { within = record { thread = omega arith; from = omega arith; below = omega arith }; of_kind_lem = refl; named = refl };
            before = omega arith;
            not_yet = none;
          };
      latest = first;
    }
  where
    none : (j : ℕ) → Names (table_of E) join 0 1 j → j < 3 → ⊥
    none zero q h = no_join q.of_kind_lem
    none (suc zero) q h = no_join q.of_kind_lem
    none (suc (suc zero)) q h = let e : ◌≡◌ {A = ℕ} 2 1 = q.named in omega arith
    none (suc (suc (suc j))) q h = omega arith

    join_2 : (d : ℕ) → d ≡ 2 → Names (table_of E) join 0 d 2
    join_2 d e =
        record { within = record { thread = omega arith; from = omega arith; below = omega arith }; of_kind_lem = refl; named = sym e }

    first : (d x : ℕ) → Unjoined (table_of E) 0 3 d x → x ≤ 0
    first d zero u = omega arith
    first d (suc zero) u =
        let e : ◌≡◌ {A = ℕ} 2 d = u.forked.named in
        absurd (u.not_yet 2 (join_2 d (sym e)) (omega arith))
    first d (suc (suc zero)) u = absurd (no_join (sym u.forked.of_kind_lem))
    first d (suc (suc (suc x))) u = absurd (omega (arith, u.before))

-- Thread 0 = fork 1, join 1, end and thread 1 = free 5, end: the balances are 0, -5, -5 and -5, -5. The parent's falls at its join, by the child's final one.
abbrev pub overdrawn : List ℕ
overdrawn = written ((act fork 1 ∷ act join 1 ∷ act end 0 ∷ []) ∷ (act free 5 ∷ act end 0 ∷ []) ∷ [])

pub overdrawn_balances : map (balance (table_of overdrawn)) (0 ∷ 1 ∷ 2 ∷ 3 ∷ 4 ∷ []) ≡ pos 0 ∷ negsuc 4 ∷ negsuc 4 ∷ negsuc 4 ∷ negsuc 4 ∷ []
unfolding sum_to code_of kind_of is table_of owner_below alloc_of free_of whole_within balance
overdrawn_balances = refl
