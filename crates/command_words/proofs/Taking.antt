-- From what `clap` says of a parse to what a command takes.
use Rattle.std.proofs.Common.{◌≡◌, ◌⊎◌, inl, inr, ℕ, Bool, true, false, ◌&&◌, List, [], ◌∷◌, Ok, Err, refl, ap}
use Rattle.clap.specs.Words.{App, fault_of, kind_of, HasMatchesOf}
use Rattle.clap.specs.Kinds.{HasKind, IsAmong, Kinds}
use Rattle.clap.specs.Faults.{is_simple_and_free}
use Rattle.clap.specs.declared.error.Error.{Error}
use Rattle.clap.specs.declared.error.kind.ErrorKind.{ErrorKind}
use Rattle.clap.specs.declared.error.kind.ErrorKind.TheVariants.{OutOfMemory}
use Rattle.clap.specs.declared.parser.matches.ArgMatches.{ArgMatches}
use Rattle.command_words.specs.declared.fault.WordsFault.{WordsFault}
use Rattle.command_words.specs.declared.fault.WordsFault.TheVariants.{Usage, Memory}
use Rattle.command_words.specs.Taking.{FollowsFrom, IsTakenBy, is_none}

first_holds : (a b : Bool) → (a && b) ≡ true → a ≡ true
first_holds true b e = refl
first_holds false b e = cc

-- the command takes the words
pub taken : (app : App) (words : List (List ℕ)) (m : ArgMatches) → is_simple_and_free app ≡ true → fault_of app words ≡ [] → HasMatchesOf app words m → IsTakenBy app words (Ok m)
taken app words m free none has = (ap is_none none, (has (first_holds _ _ free)).0)

some_kind : (kind : ErrorKind) (kinds : Kinds) → IsAmong kind kinds → is_none kinds ≡ false
some_kind kind [] h = absurd h
some_kind kind (k ∷ ks) h = refl

refused_by : (kinds : Kinds) (e : Error) → (kind_of e ≡ OutOfMemory) ⊎ IsAmong (kind_of e) kinds → (kind_of e ≡ OutOfMemory → ⊥) → is_none kinds ≡ false
refused_by kinds e (inl memory) other = absurd (other memory)
refused_by kinds e (inr among) other = some_kind _ kinds among

-- it refuses them, or memory ran out
pub refused : (app : App) (words : List (List ℕ)) (e : Error) (fault : WordsFault) → HasKind (fault_of app words) e → FollowsFrom e fault → IsTakenBy app words (Err fault)
refused app words e Usage kinds other = refused_by (fault_of app words) e kinds other
refused app words e Memory kinds memory = tt
