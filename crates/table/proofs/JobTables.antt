-- A table is accepted exactly when it is a job table in the paper's words, and then with its n, m, S1 and D.
use Rattle.std.specs.Prelude.{Err, Ok, Result}
use Rattle.table.specs.declared.Refusal.{Refusal}
use mathlib.Core.Path.{◌≡◌, refl, sym, ◌∙◌}
use mathlib.Core.Logic.{◌↔◌}
use Prim.Native.Nat.{ℕ, ◌<◌}
use mathlib.Core.List.{List}
use Rattle.table.specs.Format.{Table, table_of}
use Rattle.table.specs.declared.kinds.Kind.TheVariants.{Fork as fork}
use Rattle.table.specs.Checks.{balance}
use Rattle.table.specs.Rules.{ContentRules, BodyRules, NestRules, ForkRules, BalanceRules, Rules}
use Rattle.table.specs.JobTable.{Sized, Names, Balanced, JobTable}
use Rattle.table.specs.Load.{facts_of, loaded}
use Rattle.table.specs.declared.Facts.{Facts}
use Rattle.table.specs.Cases.{E, overfreed}
use Rattle.table.specs.Wrong.{refuses_all_wrong, accepts_all_wrong}
use Rattle.table.proofs.Passes.{accepted_exactly, accepted_facts}
use Rattle.table.proofs.Balances.{balance_is, balance_only, balance_natural}
use Rattle.table.proofs.WellFormed.{head_sized, contents_laid, laid_contents, bodies_exactly}
use Rattle.table.proofs.WellNested.{nested_exactly}

pub balances_exactly : (T : Table) → ContentRules T → BodyRules T → BalanceRules T ↔ Balanced T
balances_exactly T c b = (
  (λ r.
      record {
        after = balance T;
        balance = balance_is T c b;
        never_below = λ a h. (balance_natural T a).0 (r.balanced a h);
      }),
  (λ w.
      record {
        balanced = λ a h.
            let (k, e) = w.never_below a h in
            (balance_natural T a).1 (k, sym (balance_only T c b w.after w.balance a h) ∙ e);
      }),
)

some_thread : (s : List ℕ) → Sized s → 0 < (table_of s).threads
unfolding table_of
some_thread s z = z.threads_least

pub job_table_exactly : (s : List ℕ) → JobTable s ↔ Rules s
job_table_exactly s = (to, from)
  where
    T : Table
    T = table_of s

    to : JobTable s → Rules s
    to j =
        let c : ContentRules T = laid_contents T (some_thread s j.sized) j.laid j.formed in
        let b : BodyRules T = (bodies_exactly T c).1 j.formed in
        let n : NestRules T × ForkRules T = (nested_exactly T c b).1 (j.forked, j.nested) in
        record {
          head = (head_sized s).1 j.sized;
          contents = c;
          bodies = b;
          nesting = n.0;
          forking = n.1;
          balances = (balances_exactly T c b).1 j.balanced;
        }

    from : Rules s → JobTable s
    from r =
        let z : Sized s = (head_sized s).0 r.head in
        let n = (nested_exactly T r.contents r.bodies).0 (r.nesting, r.forking) in
        record {
          sized = z;
          laid = contents_laid T (some_thread s z) r.contents;
          formed = (bodies_exactly T r.contents).0 r.bodies;
          forked = n.0;
          nested = n.1;
          balanced = (balances_exactly T r.contents r.bodies).0 r.balances;
        }

-- a thread is forked by one of a lower number
pub parent_lower : (s : List ℕ) → JobTable s → (t c a : ℕ) → Names (table_of s) fork t c a → t < c
parent_lower s j t c a q =
    let p : (t < c) × (c < (table_of s).threads) = rw (q.of_kind_lem, q.named) at (j.formed.arguments t a q.within) in
    p.0

-- what loading accepts: the job tables, each with its own facts
pub accepted_job_table : (s : List ℕ) (f : Facts) → (loaded s ≡ Ok f) ↔ (JobTable s × (f ≡ facts_of (table_of s)))
accepted_job_table s f = (
  (λ h.
      let e : f ≡ facts_of (table_of s) = accepted_facts s f h in
      ((job_table_exactly s).1 ((accepted_exactly s).0 (rw e at h)), e)),
  (λ (j, e). rw e ((accepted_exactly s).1 ((job_table_exactly s).0 j))),
)

-- ---- some bytes are a job table, and some of the right size are none

pub e_job_table : JobTable E
e_job_table = go (loaded E) refl
  where
    go : (a : Result Facts Refusal) → loaded E ≡ a → JobTable E
    go (Ok f) e = ((accepted_job_table E f).0 e).0
    go (Err r) e = absurd (refuses_all_wrong r e)

pub overfreed_no_job_table : JobTable overfreed → ⊥
overfreed_no_job_table j = accepts_all_wrong (facts_of (table_of overfreed)) ((accepted_job_table overfreed (facts_of (table_of overfreed))).1 (j, refl))
