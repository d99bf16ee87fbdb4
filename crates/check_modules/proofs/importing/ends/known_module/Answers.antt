use Rattle.std.proofs.Common.{ℕ, List, ◌∷◌, map, Option, sym, ap, ap₂, ◌∙◌}
use Rattle.ob_judge.specs.Scopes.{Entry, KnownModule}
use Rattle.ob_judge.specs.Standards.{predeclared}
use Rattle.ob_judge.specs.Making.{last_names}
use Rattle.ob_judge.specs.Modules.{offered}
use Rattle.check_types.specs.names.Meaning.{names_of}
use Rattle.check_modules.proofs.importing.LastNames.{names_last}
use Rattle.check_modules.proofs.importing.ends.known_module.Goals as goal

pub returns-clause-seen : goal.returns-clause-seen
returns-clause-seen c = λ t strings.
    ap₂ {C = KnownModule} (λ (n : List ℕ) (f : List ℕ → Option Entry). record { name = n; names = λ q. offered (f q) }) (c.in_ok-bytes.ensures ∙ c.spelled.ensures)
    (sym (ap (λ ls. last_names (predeclared ∷ map (names_of t strings) ls)) c.in-Some.ensures.items ∙ names_last t strings c.pop.new.self.items c.in-Some.names predeclared))
