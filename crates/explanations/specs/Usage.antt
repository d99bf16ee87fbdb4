-- The commands, for people.
use Rattle.std.specs.Prelude.{ℕ, List}
use Rattle.explanations.specs.declared.usage.TheConstants.{USAGE}

-- each command with its words, options and an example
unfoldable pub usage : List ℕ
usage = USAGE.now
