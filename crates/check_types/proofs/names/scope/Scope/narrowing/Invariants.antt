use Rattle.std.proofs.Common.{◌≡◌, [], option_map, drop}
use Rattle.ob_judge.specs.Scopes.{or_else}
use Rattle.ob_judge.specs.Names as Names
use Rattle.check_types.specs.names.Meaning.{narrowing_of, narrowings_before, place_of}
use Rattle.check_types.specs.names.Worlds.{table_of, strings_of, world_of}
use Rattle.check_types.proofs.names.scope.Scope.narrowing.Given as goal

abbrev pub invariant-loop-narrowing : goal.invariant-loop-narrowing
invariant-loop-narrowing l =
    Names.narrowing_of (place_of l.variable) (world_of l.self).narrowed
    ≡ or_else (Names.narrowing_of (place_of l.variable) (narrowings_before (table_of l.self) (strings_of l.self) [] (drop l.narrowing-index l.self.narrowed.now))) (option_map (narrowing_of (table_of l.self) (strings_of l.self)) l.found)
