-- Several accepted tables as one: the result passes every check, and its facts are those from the parts alone.
use Rattle.std.specs.Prelude.{Ok}
use Prim.Native.Nat.{ℕ, zero, suc, ◌+◌, ◌*◌, ◌≤◌, ◌<◌}
use native.Mathlib.Omega.{arith}
use mathlib.Core.Path.{◌≡◌, refl, ap, ◌∙◌}
use mathlib.Core.List.{List, [], ◌∷◌, map, flatten}
use lib.ListN.{length, get_or}
use Rattle.table.specs.Sum.{greatest}
use Rattle.table.specs.Format.{Table, table_of}
use Rattle.table.specs.Load.{loaded, facts_of}
use Rattle.table.specs.Serial.{S1}
use Rattle.table.specs.Level.{D}
use Rattle.table.specs.Nested.{N}
use Rattle.table.specs.declared.Facts.{Facts}
use Rattle.table.proofs.Passes.{accepted_exactly, accepted_facts}
use Rattle.order.proofs.Lawful.{Lawful, lawful}
use Rattle.table.specs.Written.{Action, written}
use Rattle.parts.specs.Kept.{Keeps}
use Rattle.parts.specs.Joined.{bodies_in, joined_bodies, deepest}
use Rattle.facts.specs.Weigh.{weigh}
use Rattle.facts.specs.declared.Weighed.{Weighed}
use Rattle.joining.specs.Joining.{joined_bytes, weighed, threads_in, actions_in, peak_from, joined_facts}
use Rattle.table.proofs.ReadBack.{Reads, read_back, argument_short}
use Rattle.parts.proofs.Short.{ShortActions, short_at}
use Rattle.parts.proofs.BodiesIn.{from_size, bodied_in, actions_in_lem}
use Rattle.parts.proofs.JoinedShort.{AllKeep, all_threads, joined_short}
use Rattle.parts.proofs.PartsPlaced.{threads_before}
use Rattle.parts.proofs.HeadRule.{written_loaded}
use Rattle.parts.proofs.JoinShape.{Shape, shape_keeps}
use Rattle.joining.proofs.JoinFacts.{tables_from, join_peak, join_depth, join_nested}
use Rattle.parts.proofs.JoinBodies.{actions_over, joined_actions, joined_threads, joined_shape}

-- ---- accepted parts

pub lawful_keeps : (T : Table) → Lawful T → Keeps T
lawful_keeps T l = record { contents = l.contents; bodies = l.bodies; nesting = l.nesting; forking = l.forking; balances = l.balances; some = l.some_thread }

accepted_keeps : (s : List ℕ) (f : Facts) → loaded s ≡ Ok f → Keeps (table_of s)
accepted_keeps s f h = lawful_keeps (table_of s) (lawful s ((accepted_exactly s).0 (h ∙ ap Ok (accepted_facts s f h))))

abbrev pub bodies_over : List (List ℕ) → List (List (List Action))
bodies_over ps = map (λ (s : List ℕ). bodies_in (table_of s)) ps

pub over_length : (ps : List (List ℕ)) → length (bodies_over ps) ≡ length ps
over_length [] = refl
over_length (s ∷ ps) = ap suc (over_length ps)

over_at : (ps : List (List ℕ)) (i : ℕ) → i < length ps → get_or (bodies_over ps) i [] ≡ bodies_in (table_of (get_or ps i []))
over_at [] i h = absurd (omega arith)
over_at (s ∷ ps) zero h = refl
over_at (s ∷ ps) (suc i) h = over_at ps i (omega arith)

threads_over_lem : (ps : List (List ℕ)) → threads_before (length (bodies_over ps)) (bodies_over ps) ≡ threads_in (map weighed ps)
unfolding threads_before threads_in facts_of
threads_over_lem [] = refl
threads_over_lem (s ∷ ps) = omega (arith, from_size (table_of s) 0 (table_of s).threads, threads_over_lem ps)

actions_over_lem : (ps : List (List ℕ)) → ((i : ℕ) → i < length ps → Keeps (table_of (get_or ps i []))) → actions_over (bodies_over ps) ≡ actions_in (map weighed ps)
unfolding actions_over actions_in facts_of
actions_over_lem [] h = refl
actions_over_lem (s ∷ ps) h = omega (arith, actions_in_lem (table_of s) (h 0 (omega arith)).contents, actions_over_lem ps (λ i l. h (suc i) (omega arith)))

tables_shift : (part : ℕ → Table) (p k : ℕ) → tables_from part (suc p) k ≡ tables_from (λ (i : ℕ). part (suc i)) p k
unfolding tables_from
tables_shift part p zero = refl
tables_shift part p (suc k) = ap (λ (l : List Table). part (suc p) ∷ l) (tables_shift part (suc p) k)

weights_over : (ps : List (List ℕ)) → map weigh (tables_from (λ (i : ℕ). table_of (get_or ps i [])) 0 (length ps)) ≡ map weighed ps
unfolding tables_from
weights_over [] = refl
weights_over (s ∷ ps) =
    rw (tables_shift (λ (i : ℕ). table_of (get_or (s ∷ ps) i [])) 0 (length ps)) (ap (λ (l : List Weighed). weighed s ∷ l) (weights_over ps))

-- ---- the joined bodies are read back

over_tables : (ps : List (List ℕ)) → map bodies_in (map table_of ps) ≡ bodies_over ps
over_tables [] = refl
over_tables (s ∷ ps) = rw (over_tables ps)

all_threads_lem : (ps : List (List ℕ)) → all_threads (map table_of ps) ≡ threads_in (map weighed ps)
unfolding all_threads threads_in facts_of
all_threads_lem [] = refl
all_threads_lem (s ∷ ps) = rw (all_threads_lem ps)

all_keep : (ps : List (List ℕ)) → ((i : ℕ) → i < length ps → Keeps (table_of (get_or ps i []))) → AllKeep (map table_of ps)
unfolding AllKeep
all_keep [] h = tt
all_keep (s ∷ ps) h = (h 0 (omega arith), argument_short s, all_keep ps (λ i l. h (suc i) (omega arith)))

module _ (ps : List (List ℕ)) (keeps : (i : ℕ) → i < length ps → Keeps (table_of (get_or ps i []))) (few : threads_in (map weighed ps) < 65536) where
  pub joined_reads : Reads (table_of (written (joined_bodies (bodies_over ps)))) (joined_bodies (bodies_over ps))
  joined_reads =
      let s : ShortActions (flatten (joined_bodies (map bodies_in (map table_of ps)))) = joined_short (map table_of ps) (all_keep ps keeps) (omega (arith, all_threads_lem ps)) in
      read_back (joined_bodies (bodies_over ps)) (short_at (flatten (joined_bodies (bodies_over ps))) (rw (over_tables ps) at s))

  U : Table
  U = table_of (joined_bytes ps)

  part : ℕ → Table
  part i = table_of (get_or ps i [])

  at : ℕ → ℕ
  at i = 1 + threads_before i (bodies_over ps)

  shape : Shape U (length ps) part at
  unfolding U part at joined_bytes
  shape =
      let bss : List (List (List Action)) = bodies_over ps in
      rw (over_length ps) at (joined_shape (table_of (written (joined_bodies bss))) bss joined_reads (λ (i : ℕ). table_of (get_or ps i []))
      (λ i h.
      let l : i < length ps = omega (arith, over_length ps) in
      rw (over_at ps i l) (bodied_in (table_of (get_or ps i []))))
      (λ i h. keeps i (omega (arith, over_length ps))))

  pub bytes_keep : Keeps (table_of (joined_bytes ps))
  unfolding U
  bytes_keep = shape_keeps U (length ps) part at shape

  pub facts_join : 0 < length ps → facts_of (table_of (joined_bytes ps)) ≡ joined_facts (map weighed ps)
  unfolding U part facts_of joined_facts joined_bytes
  facts_join some =
      let bss : List (List (List Action)) = bodies_over ps in
      let r = joined_reads in
      let W : Table = table_of (written (joined_bodies (bodies_over ps))) in
      let n : W.threads ≡ suc (threads_in (map weighed ps)) = omega (arith, r.threads, joined_threads (bodies_over ps), threads_over_lem ps) in
      let ml : length (map weighed ps) ≡ length ps = mapped ps in
      let m : W.actions ≡ suc (2 * length (map weighed ps)) + actions_in (map weighed ps) = omega (arith, r.actions, joined_actions (bodies_over ps), actions_over_lem ps keeps, over_length ps, ml) in
      let s : S1 W ≡ peak_from 0 (map weighed ps) = rw (weights_over ps) at (join_peak U (length ps) part at shape) in
      let d : D W ≡ suc (deepest 1 (map (λ (w : Weighed). w.facts.depth) (map weighed ps))) = rw (weights_over ps) at (join_depth U (length ps) part at shape some) in
      let e : N W ≡ suc (greatest (λ (w : Weighed). w.facts.nested) (map weighed ps)) = rw (weights_over ps) at (join_nested U (length ps) part at shape) in
      rw (s, d, e, n, m)
    where
      mapped : (qs : List (List ℕ)) → length (map weighed qs) ≡ length qs
      mapped [] = refl
      mapped (q ∷ qs) = ap suc (mapped qs)

-- the joined bytes within the limits are accepted
joined_loaded : (ps : List (List ℕ)) → ((i : ℕ) → i < length ps → Keeps (table_of (get_or ps i []))) → threads_in (map weighed ps) < 65536
    → (facts_of (table_of (joined_bytes ps))).threads ≡ (joined_facts (map weighed ps)).threads → (facts_of (table_of (joined_bytes ps))).actions ≡ (joined_facts (map weighed ps)).actions
    → (joined_facts (map weighed ps)).threads ≤ 1024 → (joined_facts (map weighed ps)).actions ≤ 8192
    → loaded (joined_bytes ps) ≡ Ok (facts_of (table_of (joined_bytes ps)))
unfolding joined_bytes facts_of
joined_loaded ps keeps short n m few few_actions =
    let bs : List (List Action) = joined_bodies (bodies_over ps) in
    let r = joined_reads ps keeps short in
    let p : length (flatten (joined_bodies (bodies_over ps))) ≡ suc (2 * length (bodies_over ps)) + actions_over (bodies_over ps) = joined_actions (bodies_over ps) in
    let q : length (joined_bodies (bodies_over ps)) ≡ suc (threads_before (length (bodies_over ps)) (bodies_over ps)) = joined_threads (bodies_over ps) in
    written_loaded (joined_bodies (bodies_over ps)) (omega (arith, q)) (omega (arith, r.threads, n, few)) (omega (arith, p)) (omega (arith, r.actions, m, few_actions)) (bytes_keep ps keeps short)

joined_threads_are : (ws : List Weighed) → (joined_facts ws).threads ≡ suc (threads_in ws)
unfolding joined_facts
joined_threads_are ws = refl

-- "The result passes every table check": every check and all facts in one line
pub joined_whole : (ps : List (List ℕ)) → 0 < length ps → ((i : ℕ) → i < length ps → (f : Facts) × (loaded (get_or ps i []) ≡ Ok f))
    → (joined_facts (map weighed ps)).threads ≤ 1024 → (joined_facts (map weighed ps)).actions ≤ 8192
    → loaded (joined_bytes ps) ≡ Ok (joined_facts (map weighed ps))
unfolding table_of facts_of
joined_whole ps some parts few few_actions =
    let keeps : (i : ℕ) → i < length ps → Keeps (table_of (get_or ps i [])) = λ i h. accepted_keeps (get_or ps i []) (parts i h).0 (parts i h).1 in
    let short : threads_in (map weighed ps) < 65536 = omega (arith, joined_threads_are (map weighed ps)) in
    let e : facts_of (table_of (joined_bytes ps)) ≡ joined_facts (map weighed ps) = facts_join ps keeps short some in
    let n : (table_of (joined_bytes ps)).threads ≡ (joined_facts (map weighed ps)).threads = ap (λ (f : Facts). f.threads) e in
    joined_loaded ps keeps short n (ap (λ (f : Facts). f.actions) e) few few_actions ∙ ap Ok e
