-- Several tables as one: its bytes, and its facts from the parts' alone (change request N12).
use Rattle.std.specs.Prelude.{ℕ, suc, ◌+◌, ◌*◌, max, List, [], ◌∷◌, map, length}
use Rattle.table.specs.Sum.{greatest}
use Rattle.table.specs.Format.{table_of}
use Rattle.table.specs.declared.Facts.{Facts}
use Rattle.table.specs.Written.{written}
use Rattle.facts.specs.Weigh.{weigh}
use Rattle.facts.specs.declared.Weighed.{Weighed}
use Rattle.parts.specs.Joined.{bodies_in, joined_bodies, deepest}

unfoldable pub joined_bytes : List (List ℕ) → List ℕ
joined_bytes ps = written (joined_bodies (map (λ (s : List ℕ). bodies_in (table_of s)) ps))

-- what joining has to know of a part: its facts, and "the final balances"
abbrev pub weighed : List ℕ → Weighed
weighed s = weigh (table_of s)

unfoldable pub threads_in : List Weighed → ℕ
threads_in [] = 0
threads_in (w ∷ l) = w.facts.threads + threads_in l

unfoldable pub actions_in : List Weighed → ℕ
actions_in [] = 0
actions_in (w ∷ l) = w.facts.actions + actions_in l

-- "the greatest, over the parts, of the part's S1 plus the final balances of all parts before it"
unfoldable pub peak_from : ℕ → List Weighed → ℕ
peak_from before [] = 0
peak_from before (w ∷ l) = max (before + w.facts.peak) (peak_from (before + w.left) l)

unfoldable pub joined_facts : List Weighed → Facts
joined_facts ws =
    record {
      threads = suc (threads_in ws);
      actions = suc (2 * length ws) + actions_in ws;
      peak = peak_from 0 ws;
      depth = suc (deepest 1 (map (λ (w : Weighed). w.facts.depth) ws));
      nested = suc (greatest (λ (w : Weighed). w.facts.nested) ws);
    }
