-- What `memlimit` and `fitquota` print, from the bytes that they read; one line out.
use Rattle.std.specs.Prelude.{◌≡◌, refl, ℕ, List, ◌++◌, length, drop, ltb, Err, Ok, Result}
use Rattle.table.specs.declared.Refusal.{Refusal}
use Rattle.table.specs.Sum.{pick}
use Rattle.table.specs.Format.{u24_at, u32_at}
use Rattle.table.specs.Pass.{refusal}
use Rattle.text.specs.Text.{ascii, digits_of, decimal, newline, refused_line}
use Rattle.quota.specs.Line.{workers_in, gap_in, memory_in}
use Rattle.useful_limit.specs.declared.Numbers.{Numbers}
use Rattle.useful_limit.specs.declared.Fitted.{Fitted}
use Rattle.useful_limit.specs.declared.Fitted.TheVariants.{Fits, Short}
use Rattle.useful_limit.specs.Limits.{limits}
use Rattle.useful_limit.specs.Fit.{fitted}

-- ---- memlimit: the bytes of `runrounds` with b for L, p 1 byte, K 3, b 4, a table; under 8 bytes 33

unfoldable pub limits_to : List ℕ → Result Numbers Refusal
limits_to s = pick (ltb (length s) 8) (Err (refusal 33 0)) (limits (drop 8 s) (workers_in s) (u24_at s 1) (u32_at s 4))

unfoldable pub numbers_line : Numbers → List ℕ
numbers_line x =
    ascii "memory " ++ decimal x.memory ++ ascii " serial " ++ decimal x.serial ++ ascii " peak " ++ decimal x.peak ++ ascii " parallel " ++ decimal x.parallel ++ ascii " stretch "
    ++ decimal x.stretch
    ++ newline

abbrev pub limits_line : Result Numbers Refusal → List ℕ
limits_line (Ok x) = numbers_line x
limits_line (Err r) = refused_line r

limits_example : limits_line (Ok (record { memory = 12; serial = 6; peak = 12; parallel = 12; stretch = 0 })) ≡ ascii "memory 12 serial 6 peak 12 parallel 12 stretch 0\n"
unfolding numbers_line decimal digits_of
limits_example = refl

-- ---- fitquota: the input of `maxquota`; under 13 bytes 33

unfoldable pub fitted_to : List ℕ → Result Fitted Refusal
fitted_to s = pick (ltb (length s) 13) (Err (refusal 33 0)) (fitted (drop 13 s) (workers_in s) (gap_in s) (memory_in s))

unfoldable pub fits_line : ℕ → ℕ → List ℕ
fits_line K X = ascii "quota " ++ decimal K ++ ascii " memory " ++ decimal X ++ newline

unfoldable pub short_line : ℕ → ℕ → List ℕ
short_line K X = ascii "none memory " ++ decimal X ++ ascii " quota " ++ decimal K ++ newline

abbrev pub fitted_line : Result Fitted Refusal → List ℕ
fitted_line (Ok (Fits K X)) = fits_line K X
fitted_line (Ok (Short K X)) = short_line K X
fitted_line (Err r) = refused_line r

fits_example : fitted_line (Ok (Fits 16777215 12)) ≡ ascii "quota 16777215 memory 12\n"
unfolding fits_line decimal digits_of
fits_example = refl

short_example : fitted_line (Ok (Short 6 12)) ≡ ascii "none memory 12 quota 6\n"
unfolding short_line decimal digits_of
short_example = refl
