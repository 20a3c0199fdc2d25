-- A table that stands inside another under other thread numbers.
use Rattle.std.specs.Prelude.{◌≡◌, ℕ, ◌+◌, ◌-◌, ◌<◌}
use Rattle.table.specs.Format.{Table, kind, kind_of}
use Rattle.table.specs.declared.kinds.Kind.{Kind}
use Rattle.table.specs.declared.kinds.Kind.TheVariants.{End as end, Work as work, Alloc as alloc, Free as free, Fork as fork, Join as join, Unknown as unknown}
use Rattle.table.specs.Checks.{owner}
use Rattle.table.specs.Written.{Action}

-- the argument of an action of kind k where threads are renamed by f: forks and joins name threads
abbrev pub renamed : (ℕ → ℕ) → Kind → ℕ → ℕ
renamed f end x = x
renamed f work x = x
renamed f alloc x = x
renamed f free x = x
renamed f fork x = f x
renamed f join x = f x
renamed f unknown x = x

-- thread t of T is thread f t of U, action for action
pub record Copies (T U : Table) (f : ℕ → ℕ) : Type 0 where
  pub within : (t : ℕ) → t < T.threads → f t < U.threads
  pub apart : (t u : ℕ) → t < T.threads → u < T.threads → f t ≡ f u → t ≡ u
  pub counts : (t : ℕ) → t < T.threads → U.count (f t) ≡ T.count t
  pub codes : (t i : ℕ) → t < T.threads → i < T.count t → U.code (U.first (f t) + i) ≡ T.code (T.first t + i)
  pub arguments : (t i : ℕ) → t < T.threads → i < T.count t
      → U.argument (U.first (f t) + i) ≡ renamed f (kind T (T.first t + i)) (T.argument (T.first t + i))

-- where action a of T stands in U
abbrev pub place_of : Table → Table → (ℕ → ℕ) → ℕ → ℕ
place_of T U f a = U.first (f (owner T a)) + (a - T.first (owner T a))

abbrev pub renamed_action : (ℕ → ℕ) → Action → Action
renamed_action f x = record { code = x.code; argument = renamed f (kind_of x.code) x.argument }
