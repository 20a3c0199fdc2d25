-- A table whose every thread is the copy of one of T keeps T's rules.
use Prim.Native.Nat.{ℕ, zero, suc, ◌+◌, ◌-◌, ◌≤◌, ◌<◌}
use native.Mathlib.Omega.{arith}
use mathlib.Core.Path.{◌≡◌, refl, sym, ap, ◌∙◌}
use mathlib.Core.Bool.{Bool, true, false, ◌&&◌}
use Rattle.table.specs.Format.{is, Table, kind}
use Rattle.table.specs.declared.kinds.Kind.TheVariants.{Fork as fork, Join as join}
use Rattle.table.specs.Checks.{owner, forks, forked_below, forked_before, never_forked}
use Rattle.table.specs.Rules.{ContentRules, BodyRules, NestRules, ForkRules, BalanceRules}
use Rattle.table.proofs.Tests.{is_true}
use Rattle.table.proofs.Bodies.{owner_below_lem, owner_first, owner_end, fork_above, fork_below_lem}
use Rattle.table.proofs.Amounts.{action_within}
use Rattle.table.proofs.Nesting.{any_below_true, some_any_below, forks_true, fork_forks, fork_once, fork_exists}
use Rattle.parts.specs.Copies.{Copies, place_of}
use Rattle.parts.proofs.CopyLaws.{copy_within, copy_kind, copy_child}
use Rattle.parts.proofs.ThreadRules.{Rising, kind_rule, argument_rule, end_rule, join_rule, close_rule, balance_rule}

module _ (T U : Table) (f : ℕ → ℕ) (y : Copies T U f) (c : ContentRules T) (b : BodyRules T) (d : ContentRules U)
    (onto : (u : ℕ) → u < U.threads → (t : ℕ) × (t < T.threads) × (f t ≡ u)) where
  -- an action of U by the thread and offset that it copies
  pub record At (a : ℕ) : Type 0 where
    pub thread : ℕ
    pub offset : ℕ
    pub known : thread < T.threads
    pub inside : offset < T.count thread
    pub is_at : U.first (f thread) + offset ≡ a

  pub at_of : (a : ℕ) → a < U.actions → At a
  at_of a h =
      let u : ℕ = owner U a in
      let (t, k, p) = onto u (owner_below_lem U d a h) in
      let lo : U.first (f t) ≤ a = rw p (owner_first U d a h) in
      let hi : a < U.first (f t) + U.count (f t) = rw p (owner_end U d a h) in
      record { thread = t; offset = a - U.first (f t); known = k; inside = omega (arith, lo, hi, y.counts t k); is_at = omega (arith, lo) }

  pub whole_bodies : Rising T U f y c b d fork → Rising T U f y c b d join → BodyRules U
  whole_bodies r s =
      record {
        kinds = λ a h. let z = at_of a h in rw z.is_at at (kind_rule T U f y c b d z.thread z.offset z.known z.inside);
        arguments = λ a h. let z = at_of a h in rw z.is_at at (argument_rule T U f y c b d r s z.thread z.offset z.known z.inside);
        ends = λ a h. let z = at_of a h in rw z.is_at at (end_rule T U f y c b d z.thread z.offset z.known z.inside);
      }

  module _ (e : BodyRules U) (n : NestRules T) where
    pub whole_forks : ForkRules T → f 0 ≡ 0 → ForkRules U
    unfolding never_forked forked_below
    whole_forks o root =
        record {
          forked = λ u p h.
              let (t, k, q) = onto u h in
              let some : 0 < t = positive t u q p in
              let (x, w, j, v) = fork_exists T c b n o t some k in
              let g : ℕ = place_of T U f x in
              let named : U.argument g ≡ u = copy_child T U f y c b d e x w j ∙ ap f v ∙ q in
              rw (some_any_below (forks U u) U.actions g (copy_within T U f y c b d e x w) (fork_forks U u g (copy_kind T U f y c b d e x w ∙ j) named));
        }
      where
        positive : (t u : ℕ) → f t ≡ u → 0 < u → 0 < t
        positive zero u q p = absurd (omega (arith, q, root))
        positive (suc t) u q p = omega arith

    pub whole_balances : BalanceRules T → BalanceRules U
    whole_balances z = record { balanced = λ a h. let x = at_of a h in rw x.is_at at (balance_rule T U f y c b d e n z x.thread x.offset x.known x.inside) }

    once_forked : (a : ℕ) → a < U.actions → (x : ℕ) → x < a → kind U x ≡ fork → kind U a ≡ fork → U.argument x ≡ U.argument a → ⊥
    once_forked a h x l i j p =
        let z = at_of a h in
        let v = at_of x (omega arith) in
        let za : ℕ = T.first z.thread + z.offset in
        let va : ℕ = T.first v.thread + v.offset in
        let zw = action_within T c b z.thread z.offset z.known z.inside in
        let vw = action_within T c b v.thread v.offset v.known v.inside in
        let zk : kind T za ≡ fork = forked a z j in
        let vk : kind T va ≡ fork = forked x v i in
        let q : f (T.argument va) ≡ f (T.argument za) = sym (named x v i) ∙ p ∙ named a z j in
        let r : T.argument va ≡ T.argument za = y.apart (T.argument va) (T.argument za) (fork_below_lem T c b va vw vk) (fork_below_lem T c b za zw zk) q in
        let s : va ≡ za = fork_once T c b n va za vw zw vk zk r in
        let o : v.thread ≡ z.thread = sym (Rattle.table.proofs.Bodies.owner_at T c v.thread v.offset v.known v.inside) ∙ ap (owner T) s ∙ Rattle.table.proofs.Bodies.owner_at T c z.thread z.offset z.known z.inside in
        absurd (omega (arith, v.is_at, z.is_at, s, ap T.first o, ap (λ (t : ℕ). U.first (f t)) o))
      where
        forked : (a : ℕ) (z : At a) → kind U a ≡ fork → kind T (T.first z.thread + z.offset) ≡ fork
        forked a z k =
            let q : kind U (U.first (f z.thread) + z.offset) ≡ kind T (T.first z.thread + z.offset) = rw (y.codes z.thread z.offset z.known z.inside) in
            sym q ∙ rw z.is_at k

        named : (a : ℕ) (z : At a) → kind U a ≡ fork → U.argument a ≡ f (T.argument (T.first z.thread + z.offset))
        named a z k = rw (forked a z k, z.is_at) at (y.arguments z.thread z.offset z.known z.inside)

    pub whole_nesting : NestRules U
    unfolding forked_before forked_below
    whole_nesting =
        record {
          once = λ a h. once a h (is fork (kind U a)) refl (Rattle.table.specs.Sum.any_below (forks U (U.argument a)) a) refl;
          latest = λ a h. let z = at_of a h in rw z.is_at at (join_rule T U f y c b d e n z.thread z.offset z.known z.inside);
          joined = λ a h. let z = at_of a h in rw z.is_at at (close_rule T U f y c b d e n z.thread z.offset z.known z.inside);
        }
      where
        once : (a : ℕ) → a < U.actions → (q : Bool) → is fork (kind U a) ≡ q → (r : Bool) → Rattle.table.specs.Sum.any_below (forks U (U.argument a)) a ≡ r → (is fork (kind U a) && Rattle.table.specs.Sum.any_below (forks U (U.argument a)) a) ≡ false
        once a h true q true r =
            let (x, l, s) = any_below_true (forks U (U.argument a)) a r in
            let (i, p) = forks_true U (U.argument a) x s in
            absurd (once_forked a h x l i (is_true fork (kind U a) q) p)
        once a h true q false r = rw (q, r)
        once a h false q r s = rw q
