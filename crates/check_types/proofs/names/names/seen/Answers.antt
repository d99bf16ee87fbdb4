use Rattle.std.proofs.Common.{◌∙◌, sym, arith}
use Rattle.check_types.specs.names.Meaning.{entry_of, names_of}
use Rattle.check_types.proofs.names.Outward.{found_here, not_here}
use Rattle.check_types.proofs.names.names.seen.Goals as goal

pub returns-in-Some : goal.returns-in-Some
returns-in-Some c = λ t strings. sym (c.loop-i.invariant t strings
    ∙ found_here (names_of t strings) c.args.name.now c.args.levels.now c.loop-i.i _ c.index-levels-i.result (entry_of t strings c.in-Some.declared.now) (omega arith) (omega arith) c.index-levels-i.is (c.in-Some.ensures t strings))

pub loop-i-preserved : goal.loop-i-preserved
loop-i-preserved c = λ t strings. c.loop-i.invariant t strings
    ∙ not_here (names_of t strings) c.args.name.now c.args.levels.now c.loop-i.i _ c.index-levels-i.result (omega arith) (omega arith) c.index-levels-i.is (c.in_default.ensures t strings)
