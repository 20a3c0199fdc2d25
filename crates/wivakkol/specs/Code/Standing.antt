-- What is found in the memory of a run.
use Rattle.std.specs.Prelude.{ℕ, List, Bool, true, false}
use Rattle.table.specs.Sum.{pick}
use Rattle.run_memory.specs.Memory.{Memory}
use Rattle.wivakkol.specs.Opened.{sound_in, blank_in}
use Rattle.wivakkol.specs.declared.standing.Standing.{Standing}
use Rattle.wivakkol.specs.declared.standing.Standing.TheVariants.{Sound, Blank, Neither}

-- a sound record first
abbrev pub standing_of : Bool → Bool → Standing
standing_of sound blank = pick sound Sound (pick blank Blank Neither)

unfoldable pub standing : List ℕ → Memory → Standing
standing s M = standing_of (sound_in s M) (blank_in M)

-- beside a sound record alone, each thread's parent is handed on
abbrev pub is_sound : Standing → Bool
is_sound Sound = true
is_sound Blank = false
is_sound Neither = false
