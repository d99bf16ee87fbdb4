use Rattle.std.proofs.Common.{◌+◌, [], drop, true, false, option_map, sym, ap, ◌∙◌}
use Rattle.ob_judge.specs.Scopes.{or_else}
use Rattle.ob_judge.specs.Names as Names
use Rattle.check_types.specs.names.Meaning.{place_of, narrowing_of, narrowings_before}
use Rattle.check_types.specs.names.Worlds.{world_of, table_of, strings_of}
use Rattle.check_types.proofs.names.Innermost.{found_more}
use Rattle.check_types.proofs.names.scope.Scope.narrowing.Goals as goal
use Rattle.check_types.proofs.names.scope.Scope.narrowing.Goals.{then-is_place, else-is_place}

pub loop-narrowing-preserved : goal.loop-narrowing-preserved
loop-narrowing-preserved c =
    let p = c.args.self.now.source.now in let w = world_of c.args.self.now in let t = table_of c.args.self.now in let strings = strings_of c.args.self.now in
    let d = place_of c.args.variable in let ns = c.args.self.now.narrowed.now in let i = c.loop-narrowing.narrowing-index in
    c.loop-narrowing.invariant
    ∙ elim c.if-is_place.branch [
      | then-is_place x ↦ found_more p w t strings d ns i _ c.loop-narrowing.found true c.loop-narrowing-test.true (c.is_place.ensures ∙ x.if-is_place.true)
          ∙ ap (λ o. or_else (Names.narrowing_of d (narrowings_before t strings [] (drop (i + 1) ns))) (option_map (narrowing_of t strings) o)) (sym x.found-is)
      | else-is_place x ↦ found_more p w t strings d ns i _ c.loop-narrowing.found false c.loop-narrowing-test.true (c.is_place.ensures ∙ x.if-is_place.false)
          ∙ ap (λ o. or_else (Names.narrowing_of d (narrowings_before t strings [] (drop (i + 1) ns))) (option_map (narrowing_of t strings) o)) (sym x.found-is)
    ]
