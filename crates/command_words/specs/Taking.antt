-- What a command answers of words.
use Rattle.std.specs.Prelude.{◌≡◌, ℕ, List, [], ◌∷◌, Bool, true, false, Result, Ok, Err}
use Rattle.clap.specs.Kinds.{Kinds}
use Rattle.clap.specs.Words.{App, fault_of, found_of, kind_of, matches_of, rows_of}
use Rattle.clap.specs.declared.error.Error.{Error}
use Rattle.clap.specs.declared.error.kind.ErrorKind.TheVariants.{OutOfMemory}
use Rattle.clap.specs.declared.parser.matches.ArgMatches.{ArgMatches}
use Rattle.command_words.specs.declared.fault.WordsFault.{WordsFault}
use Rattle.command_words.specs.declared.fault.WordsFault.TheVariants.{Usage, Memory}

-- no kind of fault
abbrev pub is_none : Kinds → Bool
is_none [] = true
is_none (kind ∷ kinds) = false

-- words are refused for another cause than memory, or memory ran out
abbrev pub FollowsFrom : Error → WordsFault → Type 0
FollowsFrom error Usage = kind_of error ≡ OutOfMemory → ⊥
FollowsFrom error Memory = kind_of error ≡ OutOfMemory

-- a command takes words with the matches that it has on them, and refuses exactly those of which it says so
abbrev pub IsTakenBy : App → List (List ℕ) → Result ArgMatches WordsFault → Type 0
IsTakenBy app words (Ok m) = (is_none (fault_of app words) ≡ true) × (rows_of (found_of m) ≡ matches_of app words)
IsTakenBy app words (Err Usage) = is_none (fault_of app words) ≡ false
IsTakenBy app words (Err Memory) = Unit {0}
