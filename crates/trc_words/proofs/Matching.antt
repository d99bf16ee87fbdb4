-- From matches to what words ask for.
use Rattle.std.proofs.Common.{◌≡◌, ℕ, List, Option, None, Result, Ok, Err, IsErrAnd, cond, sym, ap, ◌∙◌, subst}
use Rattle.clap.specs.Words.{App, Row, found_of, matches_of, rows_of}
use Rattle.clap.specs.declared.parser.matches.ArgMatches.{ArgMatches}
use Rattle.command_words.specs.Taking.{IsTakenBy}
use Rattle.command_words.specs.declared.fault.WordsFault.{WordsFault}
use Rattle.command_words.specs.declared.fault.WordsFault.TheVariants.{Usage, Memory}
use Rattle.word_requests.specs.Asked.{Asked}
use Rattle.word_requests.specs.Requests.{Asks}
use Rattle.word_requests.specs.declared.request.Request.{Request}
use Rattle.trc_words.specs.Asked.{taken}

-- a command that takes words asks for what its matches do
pub taken_is : (app : App) (words : List (List ℕ)) (m : ArgMatches) (f : List Row → Option Asked) → IsTakenBy app words (Ok m) → taken app words f ≡ f (rows_of (found_of m))
unfolding taken
taken_is app words m f h = ap (λ b. cond b (f (matches_of app words)) None) h.0 ∙ ap f (sym h.1)

pub asks_taken : (app : App) (words : List (List ℕ)) (m : ArgMatches) (f : List Row → Option Asked) (r : Result Request WordsFault)
    → IsTakenBy app words (Ok m) → Asks (f (rows_of (found_of m))) r → Asks (taken app words f) r
asks_taken app words m f r h asks = subst (λ o. Asks o r) (sym (taken_is app words m f h)) asks

refused : (app : App) (words : List (List ℕ)) (f : List Row → Option Asked) (fault : WordsFault) → IsTakenBy app words (Err fault) → Asks (taken app words f) (Err fault)
unfolding taken
refused app words f Usage h = ap (λ b. cond b (f (matches_of app words)) None) h
refused app words f Memory h = tt

-- one that refuses them asks for nothing, or memory ran out
pub asks_refused : (app : App) (words : List (List ℕ)) (f : List Row → Option Asked) (fault : WordsFault) (r : Result Request WordsFault)
    → IsTakenBy app words (Err fault) → IsErrAnd r (λ e. e ≡ fault) → Asks (taken app words f) r
asks_refused app words f fault (Ok request) h e = absurd e
asks_refused app words f fault (Err other) h e = subst (λ x. Asks (taken app words f) (Err x)) (sym e) (refused app words f fault h)
