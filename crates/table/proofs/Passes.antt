-- What the passes say together: a table is accepted exactly when it keeps every rule, and refused with a number and a place exactly when that check is the first that applies.
use Rattle.std.specs.Prelude.{Err, Ok, Result, ⊤}
use mathlib.Core.Path.{◌≡◌, refl, sym, ◌∙◌, ap}
use mathlib.Core.Logic.Iff
use mathlib.Core.Logic.{◌↔◌, by_cases}
use Prim.Native.Nat.{ℕ, pred, ◌+◌, ◌<◌}
use native.Mathlib.Omega.{arith}
use native.Mathlib.Decide.{dec_lt}
use mathlib.Core.List.{List, [], ◌∷◌, ◌++◌}
use mathlib.Core.Option.{some}
use mathlib.Core.Bool.{true, false}
use lib.ListN.{get_elem?}
use Rattle.table.specs.Format.{Table, table_of}
use Rattle.table.specs.Pass.{Check, Pass, or_else, refusal, try_at, try_pass, first_found}
use Rattle.table.specs.First.{Standing, Applies, Earlier, by_pass, by_place, by_row, FirstApplies}
use Rattle.table.specs.Checks.{total_wrong, head_pass, entries_pass, total_pass, first_pass, second_pass, forked_pass, balance_pass, passes}
use Rattle.table.specs.Rules.{HeadRules, ContentRules, BodyRules, NestRules, ForkRules, BalanceRules, Rules}
use Rattle.table.specs.Load.{answer, facts_of, loaded}
use Rattle.table.specs.declared.Facts.{Facts}
use Rattle.table.specs.declared.Refusal.{Refusal}
use Rattle.table.proofs.Tests.{no_way}
use Rattle.table.proofs.Trying.{or_else_assoc, Each, each_at, first_by, first_of_nothing, first_of_at, Leads, found, found_nothing, found_at, Silent, try_at_nothing, try_at_at, Lowest, try_from_at, try_pass_nothing}

-- ---- the first check that applies, in any list of passes

first_found_first : (ps : List Pass) → first_found ps ≡ first_by try_pass ps
unfolding first_found
first_found_first [] = refl
first_found_first (p ∷ ps) = rw (first_found_first ps)

pub first_found_append : (ps qs : List Pass) → first_found (ps ++ qs) ≡ or_else (first_found ps) (first_found qs)
unfolding first_found
first_found_append [] qs = refl
first_found_append (p ∷ ps) qs = rw (first_found_append ps qs, or_else_assoc)

pub first_found_nothing : (ps : List Pass) → (first_found ps ≡ Ok tt) ↔ Each (λ p. try_pass p ≡ Ok tt) ps
first_found_nothing ps = rw (first_found_first ps) (first_of_nothing try_pass ps)

row_unapplied : (cs : List Check) (i : ℕ) → Silent cs i → (j : ℕ) (c : Check) → get_elem? cs j ≡ some c → c.applies i ≡ true → ⊥
row_unapplied cs i h j c e t = let f : c.applies i ≡ false = each_at (λ c. c.applies i ≡ false) cs h j c e in no_way (cc)

pass_unapplied : (ps : List Pass) (k : ℕ) (w : Standing) (a : Applies ps k w) → try_pass a.pass ≡ Ok tt → ⊥
pass_unapplied ps k w a h =
    row_unapplied a.pass.checks w.place ((try_pass_nothing a.pass).0 h w.place a.place_from a.place_below)
    w.row a.check a.check_there a.holds

pub none_applies : (ps : List Pass) → first_found ps ≡ Ok tt → (k : ℕ) (w : Standing) → Applies ps k w → ⊥
none_applies ps h k w a =
    pass_unapplied ps k w a
    (each_at (λ p. try_pass p ≡ Ok tt) ps ((first_found_nothing ps).0 h) w.pass a.pass a.pass_there)

-- the first pass that finds something, the lowest place at which it does and the first row that does there
module _ (ps : List Pass) (r : Refusal) (a : Leads try_pass ps r)
    (b : Lowest a.element.checks a.element.from a.element.places r)
    (c : Leads (found r.place) a.element.checks r) where
  abbrev stands : Standing
  stands = record { pass = a.index; place = r.place; row = c.index }

  stands_applies : Applies ps r.number stands
  stands_applies =
      record {
        pass = a.element;
        pass_there = a.there;
        place_from = b.low;
        place_below = b.high;
        check = c.element;
        check_there = c.there;
        numbered = ap (λ (q : Refusal). q.number) here.1;
        holds = here.0;
      }
    where
      here : (c.element.applies r.place ≡ true) × (refusal c.element.number r.place ≡ r)
      here = found_at (c.element.applies r.place) (refusal c.element.number r.place) r c.finds

  stands_first : (v : Standing) (k : ℕ) → Earlier v stands → Applies ps k v → ⊥
  stands_first v k (by_pass l) x = pass_unapplied ps k v x (a.before v.pass x.pass l x.pass_there)
  stands_first v k (by_place e l) x =
      let p : x.pass ≡ a.element = cc in
      let f : a.element.from ≡ x.pass.from = cc in
      let n : try_at a.element.checks v.place ≡ (Ok tt) = b.below v.place (omega arith) l in
      row_unapplied x.pass.checks v.place ((try_at_nothing x.pass.checks v.place).0 (cc)) v.row x.check x.check_there x.holds
  stands_first v k (by_row e d l) x =
      let p : x.pass ≡ a.element = cc in
      let n : found r.place x.check ≡ (Ok tt) = c.before v.row x.check l (cc) in
      let f : x.check.applies r.place ≡ false = (found_nothing (x.check.applies r.place) (refusal x.check.number r.place)).0 n in
      let t : x.check.applies v.place ≡ true = x.holds in
      no_way (cc)

  stands_both : FirstApplies ps r.number r.place
  stands_both = record { standing = stands; placed = refl; applies = stands_applies; first = stands_first }

first_applies : (ps : List Pass) (r : Refusal) → first_found ps ≡ Err r → FirstApplies ps r.number r.place
unfolding try_pass
first_applies ps r h =
    let a : Leads try_pass ps r = first_of_at try_pass ps r (sym (first_found_first ps) ∙ h) in
    let p : Pass = a.element in
    let b : Lowest p.checks p.from p.places r = try_from_at p.checks p.from p.places r a.finds in
    stands_both ps r a b (try_at_at p.checks r.place r b.here)

by_order : {C : Type 0} (a b : ℕ) → (a < b → C) → (a ≡ b → C) → (b < a → C) → C
by_order a b f g h = by_cases (dec_lt a b) f (λ m. by_cases (dec_lt b a) h (λ n. g (omega arith)))

-- no two checks are the first
pub first_unique : (ps : List Pass) (m i n j : ℕ) → FirstApplies ps m i → FirstApplies ps n j → (m ≡ n) × (i ≡ j)
first_unique ps m i n j a b =
    by_order v.pass w.pass (λ l. earlier (by_pass l)) (λ e.
    by_order v.place w.place (λ l. earlier (by_place e l)) (λ d.
    by_order v.row w.row (λ l. earlier (by_row e d l)) (λ c. (cc, cc))
    (λ l. later (by_row (sym e) (sym d) l)))
    (λ l. later (by_place (sym e) l)))
    (λ l. later (by_pass l))
  where
    v : Standing
    v = a.standing

    w : Standing
    w = b.standing

    earlier : Earlier v w → (m ≡ n) × (i ≡ j)
    earlier l = absurd (b.first v m l a.applies)

    later : Earlier w v → (m ≡ n) × (i ≡ j)
    later l = absurd (a.first w n l b.applies)

-- what is found is the first check that applies
pub found_exactly : (ps : List Pass) (r : Refusal) → (first_found ps ≡ Err r) ↔ FirstApplies ps r.number r.place
found_exactly ps r = (first_applies ps r, λ a. go a (first_found ps) refl)
  where
    go : FirstApplies ps r.number r.place → (g : Result ⊤ Refusal) → first_found ps ≡ g → first_found ps ≡ Err r
    go a (Ok _) e = absurd (none_applies ps e r.number a.standing a.applies)
    go a (Err q) e =
        let u : (q.number ≡ r.number) × (q.place ≡ r.place) = first_unique ps q.number q.place r.number r.place (first_applies ps q e) a in
        let d : q ≡ r = λ i. record { number = u.0 i; place = u.1 i } in
        cc

-- ---- from each pass to its rules, and back

-- no check applies at any place below k, check by check
silent_below : (k : ℕ) (cs : List Check) → ((i : ℕ) → i < k → Silent cs i) ↔ Each (λ c. (i : ℕ) → i < k → c.applies i ≡ false) cs
silent_below k [] = ((λ h. tt), (λ h i l. tt))
silent_below k (c ∷ cs) = (
  (λ h. ((λ i l. (h i l).0), (silent_below k cs).0 (λ i l. (h i l).1))),
  (λ h i l. (h.0 i l, (silent_below k cs).1 h.1 i l)),
)

pub try_pass_from_0 : (k : ℕ) (cs : List Check) → (try_pass (record { from = 0; places = k; checks = cs }) ≡ Ok tt) ↔ Each (λ c. (i : ℕ) → i < k → c.applies i ≡ false) cs
try_pass_from_0 k cs =
    Iff.trans (try_pass_nothing (record { from = 0; places = k; checks = cs }))
    (Iff.trans ((λ h i l. h i (omega arith) (omega arith)), (λ h i l m. h i (omega arith))) (silent_below k cs))

pub head_rules : (s : List ℕ) → (try_pass (head_pass s) ≡ Ok tt) ↔ HeadRules s
head_rules s =
    Iff.trans (try_pass_from_0 1 (head_pass s).checks) (
      (λ h. record { long = h.0 0 (omega arith); ranged = h.1.0 0 (omega arith); sized = h.1.1.0 0 (omega arith) }),
      (λ r. ((λ i l. r.long), ((λ i l. r.ranged), ((λ i l. r.sized), tt)))),
    )

module _ (T : Table) where
  total_rule : (try_pass (total_pass T) ≡ Ok tt) ↔ (total_wrong T ≡ false)
  total_rule = Iff.trans (try_pass_nothing (total_pass T)) ((λ h. (h T.threads (omega arith) (omega arith)).0), (λ h i l m. (h, tt)))

  pub content_rules : ((try_pass (entries_pass T) ≡ Ok tt) × (try_pass (total_pass T) ≡ Ok tt)) ↔ ContentRules T
  content_rules =
      Iff.trans (Iff.and (try_pass_from_0 T.threads (entries_pass T).checks) total_rule)
      ((λ h. record { entries = h.0.0; total = h.1 }), (λ r. ((r.entries, tt), r.total)))

  pub body_rules : (try_pass (first_pass T) ≡ Ok tt) ↔ BodyRules T
  body_rules =
      Iff.trans (try_pass_from_0 T.actions (first_pass T).checks)
      ((λ h. record { kinds = h.0; arguments = h.1.0; ends = h.1.1.0 }), (λ r. (r.kinds, (r.arguments, (r.ends, tt)))))

  pub nest_rules : (try_pass (second_pass T) ≡ Ok tt) ↔ NestRules T
  nest_rules =
      Iff.trans (try_pass_from_0 T.actions (second_pass T).checks)
      ((λ h. record { once = h.0; latest = h.1.0; joined = h.1.1.0 }), (λ r. (r.once, (r.latest, (r.joined, tt)))))

  pub fork_rules : (try_pass (forked_pass T) ≡ Ok tt) ↔ ForkRules T
  fork_rules =
      Iff.trans (try_pass_nothing (forked_pass T)) (
        (λ h. record { forked = λ t l m. (h t l (let n : t < 1 + pred T.threads = omega arith in n)).0 }),
        (λ r t l m. (r.forked t l (let n : t < 1 + pred T.threads = m in omega arith), tt)),
      )

  pub balance_rules : (try_pass (balance_pass T) ≡ Ok tt) ↔ BalanceRules T
  balance_rules =
      Iff.trans (try_pass_from_0 T.actions (balance_pass T).checks)
      ((λ h. record { balanced = h.0 }), (λ r. (r.balanced, tt)))

pub passes_rules : (s : List ℕ) → (first_found (passes s) ≡ Ok tt) ↔ Rules s
unfolding passes
passes_rules s = Iff.trans (first_found_nothing (passes s)) (kept, found_none)
  where
    T : Table
    T = table_of s

    kept : Each (λ p. try_pass p ≡ Ok tt) (passes s) → Rules s
    kept (h, (e, (t, (f, (n, (k, (b, u))))))) =
        record {
          head = (head_rules s).0 h;
          contents = (content_rules T).0 (e, t);
          bodies = (body_rules T).0 f;
          nesting = (nest_rules T).0 n;
          forking = (fork_rules T).0 k;
          balances = (balance_rules T).0 b;
        }

    found_none : Rules s → Each (λ p. try_pass p ≡ Ok tt) (passes s)
    found_none r =
        let h : try_pass (head_pass s) ≡ (Ok tt) = (head_rules s).1 r.head in
        let c : (try_pass (entries_pass T) ≡ Ok tt) × (try_pass (total_pass T) ≡ Ok tt) = (content_rules T).1 r.contents in
        let f : try_pass (first_pass T) ≡ (Ok tt) = (body_rules T).1 r.bodies in
        let n : try_pass (second_pass T) ≡ (Ok tt) = (nest_rules T).1 r.nesting in
        let k : try_pass (forked_pass T) ≡ (Ok tt) = (fork_rules T).1 r.forking in
        let b : try_pass (balance_pass T) ≡ (Ok tt) = (balance_rules T).1 r.balances in
        (h, (c.0, (c.1, (f, (n, (k, (b, tt)))))))

-- ---- accepted, and refused

answer_accepted : (g : Result ⊤ Refusal) (f x : Facts) → (answer g f ≡ Ok x) ↔ ((g ≡ Ok tt) × (f ≡ x))
answer_accepted (Ok _) f x = ((λ h. (refl, cc)), (λ h. cc))
answer_accepted (Err r) f x = ((λ h. no_way (cc)), (λ h. no_way (cc)))

answer_refused : (g : Result ⊤ Refusal) (f : Facts) (r : Refusal) → (answer g f ≡ Err r) ↔ (g ≡ Err r)
answer_refused (Ok _) f r = ((λ h. no_way (cc)), (λ h. no_way (cc)))
answer_refused (Err q) f r = ((λ h. cc), (λ h. cc))

-- a table is accepted exactly when it keeps every rule
pub accepted_exactly : (s : List ℕ) → (loaded s ≡ Ok (facts_of (table_of s))) ↔ Rules s
unfolding loaded
accepted_exactly s =
    Iff.trans (answer_accepted (first_found (passes s)) (facts_of (table_of s)) (facts_of (table_of s)))
    ((λ h. (passes_rules s).0 h.0), (λ r. ((passes_rules s).1 r, refl)))

-- and with no other facts than its own
pub accepted_facts : (s : List ℕ) (f : Facts) → loaded s ≡ Ok f → f ≡ facts_of (table_of s)
unfolding loaded
accepted_facts s f h = sym ((answer_accepted (first_found (passes s)) (facts_of (table_of s)) f).0 h).1

-- a table is refused with a number and a place exactly when the first check that applies has that number and applies at that place
pub refused_exactly : (s : List ℕ) (r : Refusal) → (loaded s ≡ Err r) ↔ FirstApplies (passes s) r.number r.place
unfolding loaded
refused_exactly s r = Iff.trans (answer_refused (first_found (passes s)) (facts_of (table_of s)) r) (found_exactly (passes s) r)
