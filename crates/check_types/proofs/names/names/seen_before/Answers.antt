use Rattle.std.proofs.Common.{◌∙◌, sym, arith}
use Rattle.check_types.specs.names.Before.{names_before}
use Rattle.check_types.specs.names.Meaning.{entry_of, names_of}
use Rattle.check_types.proofs.names.Outward.{found_here, not_here, none_left}
use Rattle.check_types.proofs.names.names.seen_before.Goals as goal

pub returns-in-Some : goal.returns-in-Some
returns-in-Some c = λ t strings. sym (c.loop-i.invariant t strings
    ∙ found_here (λ l. names_before c.args.procedures (names_of t strings l)) c.args.name.now c.args.levels.now c.loop-i.i _ c.index-levels-i.result (entry_of t strings c.in-Some.declared.now) (omega arith) (omega arith) c.index-levels-i.is (c.in-Some.ensures t strings))

pub loop-i-preserved : goal.loop-i-preserved
loop-i-preserved c = λ t strings. c.loop-i.invariant t strings
    ∙ not_here (λ l. names_before c.args.procedures (names_of t strings l)) c.args.name.now c.args.levels.now c.loop-i.i _ c.index-levels-i.result (omega arith) (omega arith) c.index-levels-i.is (c.in_default.ensures t strings)

pub returns : goal.returns
returns c = λ t strings. sym (c.loop-i.invariant t strings
    ∙ none_left (λ l. names_before c.args.procedures (names_of t strings l)) c.args.name.now c.args.levels.now c.loop-i.i c.loop-i-test.false)
