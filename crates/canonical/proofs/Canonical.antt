-- The canonical form of an accepted table is accepted with the same facts, and comparing by it is an order up to renaming.
use Rattle.std.specs.Prelude.{Ok}
use Prim.Native.Nat.{ℕ, suc, ◌+◌, ◌≤◌, ◌<◌}
use native.Mathlib.Omega.{arith}
use mathlib.Core.Path.{◌≡◌, refl, sym, ap, ◌∙◌}
use mathlib.Core.List.{List, [], ◌∷◌, map}
use mathlib.Core.Logic.{◌↔◌, ⊎_elim}
use lib.ListN.{length}
use Rattle.table.specs.Format.{Table, table_of}
use Rattle.table.specs.Checks.{end_of}
use Rattle.table.specs.Load.{loaded, facts_of}
use Rattle.table.specs.Serial.{serial_order, S1}
use Rattle.table.specs.Level.{level, D}
use Rattle.table.specs.Nested.{nest, N}
use Rattle.table.specs.declared.Facts.{Facts}
use Rattle.table.proofs.Bodies.{first_within, end_within}
use Rattle.table.proofs.Serial.{serial_length}
use Rattle.table.proofs.Levels.{level_root}
use Rattle.table.proofs.NestedThreads.{nest_root, nest_most}
use Rattle.table.proofs.Passes.{accepted_exactly, accepted_facts}
use Rattle.order.proofs.Lawful.{Lawful, lawful}
use Rattle.table.specs.Written.{Action, written}
use Rattle.parts.specs.Copies.{place_of}
use Rattle.parts.specs.Kept.{Keeps}
use Rattle.parts.proofs.Short.{Short}
use Rattle.canonical.specs.Renames.{Renames}
use Rattle.canonical.specs.Canonical.{canonical_bodies, canonical}
use Rattle.std.specs.declared.cmp.Ordering.TheVariants.{Less, Equal}
use Rattle.canonical.specs.Order.{swapped, compare_tables, SmallerAt}
use Rattle.table.proofs.ReadBack.{argument_short, threads_back, actions_back, bytes_length}
use Rattle.parts.proofs.HeadRule.{written_loaded}
use Rattle.parts.proofs.CopyLaws.{copy_first, copy_end, copy_serial, copy_level}
use Rattle.parts.proofs.CopyRules.{copy_nest}
use Rattle.parts.proofs.CopyAmounts.{copy_peak}
use Rattle.table.proofs.NestedThreads.{nested_under}
use Rattle.canonical.proofs.FormRenames.{form, form_twice, form_reads, form_contents, form_bodies, form_nesting, form_forking, form_balances, form_threads, form_renames}
use Rattle.canonical.proofs.Exact.{back_renames, forms_equal}
use Rattle.canonical.proofs.ByteOrder.{Front, order_refl, order_equal, order_swap, order_trans, order_found, order_smaller}

map_size : (g : ℕ → ℕ) (l : List ℕ) → length (map g l) ≡ length l
map_size g [] = refl
map_size g (x ∷ l) = ap suc (map_size g l)

-- ---- a renaming keeps the facts

module _ (T U : Table) (k : Keeps T) (j : Keeps U) (r : Renames T U) where
  f : ℕ → ℕ
  f = r.to

  abbrev g : ℕ → ℕ
  g = place_of T U r.to

  renamed_first : place_of T U r.to (T.first 0) ≡ U.first 0
  renamed_first = copy_first T U r.to r.copies k.contents k.bodies j.contents j.bodies 0 k.some ∙ ap U.first r.root

  renamed_end : place_of T U r.to (end_of T 0) ≡ end_of U 0
  renamed_end = copy_end T U r.to r.copies k.contents k.bodies j.contents j.bodies 0 k.some ∙ ap (end_of U) r.root

  pub renamed_actions : U.actions ≡ T.actions
  renamed_actions =
      let s : serial_order U ≡ map (place_of T U r.to) (serial_order T) =
      rw renamed_first at (copy_serial T U r.to r.copies k.contents k.bodies j.contents j.bodies (T.first 0) (first_within T k.contents 0 k.some)) in
      sym (serial_length U j.contents j.bodies j.nesting j.forking j.some) ∙ ap length s ∙ map_size (place_of T U r.to) (serial_order T)
      ∙ serial_length T k.contents k.bodies k.nesting k.forking k.some

  pub renamed_peak : S1 U ≡ S1 T
  unfolding S1
  renamed_peak =
      rw renamed_first at (copy_peak T U r.to r.copies k.contents k.bodies j.contents j.bodies (T.first 0) (first_within T k.contents 0 k.some))

  pub renamed_depth : D U ≡ D T
  unfolding D
  renamed_depth =
      let start : level U (place_of T U r.to (T.first 0)) ≡ suc 0 = rw renamed_first (level_root U j.contents j.bodies j.nesting j.forking j.some) in
      let l = copy_level T U r.to r.copies k.contents k.bodies j.contents j.bodies k.nesting k.forking j.nesting j.forking 0 start (end_of T 0) (end_within T k.contents 0 k.some) in
      let e : level U (end_of U 0) ≡ 0 + level T (end_of T 0) = rw renamed_end at l in
      omega (arith, e)

  renamed_nest : (t : ℕ) → t < T.threads → nest U (r.to t) ≡ nest T t
  renamed_nest t h =
      let start : nest U (r.to 0) ≡ suc 0 = rw r.root (nest_root U j.contents j.bodies j.nesting j.forking j.some) in
      omega (arith, copy_nest T U r.to r.copies k.contents k.bodies j.contents j.bodies k.nesting k.forking j.nesting j.forking 0 start t h)

  pub nested_less : N T ≤ N U
  nested_less = nested_under T (N U) (λ t h. omega (arith, renamed_nest t h, nest_most U (r.to t) (r.copies.within t h)))

-- "S1, D and N are the same"
pub renamed_facts : (T U : Table) → Keeps T → Keeps U → Renames T U → Renames U T → facts_of U ≡ facts_of T
unfolding facts_of
renamed_facts T U k j r q =
    let s : S1 U ≡ S1 T = renamed_peak T U k j r in
    let d : D U ≡ D T = renamed_depth T U k j r in
    let n : N U ≡ N T = omega (arith, nested_less T U k j r, nested_less U T j k q) in
    let m : U.actions ≡ T.actions = renamed_actions T U k j r in
    rw (s, d, n, m, r.threads)

-- ---- the form of an accepted table

pub lawful_of : (s : List ℕ) (f : Facts) → loaded s ≡ Ok f → Lawful (table_of s)
lawful_of s f h = lawful s ((accepted_exactly s).0 (h ∙ ap Ok (accepted_facts s f h)))

pub lawful_keeps : (T : Table) → Lawful T → Keeps T
lawful_keeps T l = record { contents = l.contents; bodies = l.bodies; nesting = l.nesting; forking = l.forking; balances = l.balances; some = l.some_thread }

module _ (T : Table) (l : Lawful T) (s : Short T) where
  pub form_keeps : Keeps (form T l s)
  form_keeps =
      record {
        contents = form_contents T l s;
        bodies = form_bodies T l s;
        nesting = form_nesting T l s;
        forking = form_forking T l s;
        balances = form_balances T l s;
        some = omega (arith, form_threads T l s, l.some_thread);
      }

  pub form_facts : facts_of (form T l s) ≡ facts_of T
  form_facts = renamed_facts T (form T l s) (lawful_keeps T l) form_keeps (form_renames T l s) (back_renames T l s)

  pub form_loaded : loaded (written (canonical_bodies T)) ≡ Ok (facts_of T)
  unfolding facts_of
  form_loaded =
      let r = form_reads T l s in
      let m : (form T l s).actions ≡ T.actions = renamed_actions T (form T l s) (lawful_keeps T l) form_keeps (form_renames T l s) in
      let n : (form T l s).threads ≡ T.threads = form_threads T l s in
      let some_action : 0 < T.actions = omega (arith, first_within T l.contents 0 l.some_thread) in
      written_loaded (canonical_bodies T) (omega (arith, r.threads, n, l.some_thread)) (omega (arith, r.threads, n, l.few_threads))
      (omega (arith, r.actions, m)) (omega (arith, r.actions, m, l.few_actions)) form_keeps
      ∙ ap Ok form_facts

pub canonical_loaded : (s : List ℕ) (f : Facts) → loaded s ≡ Ok f → loaded (canonical s) ≡ Ok f
unfolding canonical
canonical_loaded s f h = form_loaded (table_of s) (lawful_of s f h) (argument_short s) ∙ ap Ok (sym (accepted_facts s f h))

-- "equal bytes in this form exactly when one becomes the other by renaming threads"
pub canonical_exactly : (s u : List ℕ) (f g : Facts) → loaded s ≡ Ok f → loaded u ≡ Ok g → (canonical s ≡ canonical u) ↔ Renames (table_of s) (table_of u)
unfolding canonical
canonical_exactly s u f g h k = forms_equal (table_of s) (table_of u) (lawful_of s f h) (argument_short s) (lawful_of u g k) (argument_short u)

-- "doing it twice changes nothing"
pub canonical_twice : (s : List ℕ) (f : Facts) → loaded s ≡ Ok f → canonical (canonical s) ≡ canonical s
unfolding canonical
canonical_twice s f h = ap written (form_twice (table_of s) (lawful_of s f h) (argument_short s))

-- renamed tables have the same facts
pub renamed_loaded : (s u : List ℕ) (f g : Facts) → loaded s ≡ Ok f → loaded u ≡ Ok g → Renames (table_of s) (table_of u) → f ≡ g
renamed_loaded s u f g h k r =
    let e : canonical s ≡ canonical u = (canonical_exactly s u f g h k).1 r in
    let p : Ok f ≡ Ok g = sym (canonical_loaded s f h) ∙ ap loaded e ∙ canonical_loaded u g k in
    cc

-- ---- comparing

-- no form is a proper front of another: the head tells the length
written_front : (bs cs : List (List Action)) → Front (written bs) (written cs) → ⊥
unfolding table_of
written_front bs cs z =
    let some : 4 ≤ length (written bs) = omega (arith, bytes_length bs) in
    omega (
      arith,
      z.shorter,
      bytes_length bs,
      bytes_length cs,
      threads_back bs,
      threads_back cs,
      actions_back bs,
      actions_back cs,
      z.same 0 (omega arith),
      z.same 1 (omega arith),
      z.same 2 (omega arith),
      z.same 3 (omega arith),
    )

pub no_front : (s u : List ℕ) → Front (canonical s) (canonical u) → ⊥
unfolding canonical
no_front s u z = written_front (canonical_bodies (table_of s)) (canonical_bodies (table_of u)) z

-- "the first difference deciding"
pub compare_first : (s u : List ℕ) → (compare_tables s u ≡ Less → SmallerAt (canonical s) (canonical u)) × (SmallerAt (canonical s) (canonical u) → compare_tables s u ≡ Less)
compare_first s u = (
  (λ h. ⊎_elim (λ (z : SmallerAt (canonical s) (canonical u)). z) (λ (z : Front (canonical s) (canonical u)). absurd (no_front s u z)) (order_found (canonical s) (canonical u) h)),
  order_smaller (canonical s) (canonical u),
)

pub compare_equal : (s u : List ℕ) (f g : Facts) → loaded s ≡ Ok f → loaded u ≡ Ok g → (compare_tables s u ≡ Equal) ↔ Renames (table_of s) (table_of u)
compare_equal s u f g h k = (
  (λ e. (canonical_exactly s u f g h k).0 (order_equal (canonical s) (canonical u) e)),
  (λ r. let e : canonical s ≡ canonical u = (canonical_exactly s u f g h k).1 r in rw e (order_refl (canonical u))),
)

pub compare_swap : (s u : List ℕ) → compare_tables u s ≡ swapped (compare_tables s u)
compare_swap s u = order_swap (canonical s) (canonical u)

pub compare_trans : (s u v : List ℕ) → compare_tables s u ≡ Less → compare_tables u v ≡ Less → compare_tables s v ≡ Less
compare_trans s u v h k = order_trans (canonical s) (canonical u) (canonical v) h k
