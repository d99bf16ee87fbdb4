use Rattle.std.proofs.Common.{◌∙◌, ap, ap₂, sym}
use Rattle.ssa_lowered.specs.Values.{is_pointer, is_tag}
use Rattle.ssa_exprs.proofs.Giving.{gives_as}
use Rattle.ssa_exprs.proofs.Forks.{tests_value, tests_as}
use Rattle.ssa_exprs.proofs.Chains.{tests_to}
use Rattle.ssa_statements.specs.Rungs.{choice_in}
use Rattle.ssa_statements.proofs.cases.tested.Goals as goal

pub returns-in_ok-labelled-in-Value : goal.returns-in_ok-labelled-in-Value
returns-in_ok-labelled-in-Value c = λ p here s. tests_as (ap (choice_in p here c.args.v) c.in-Value.is) (c.in_ok-labelled-in-Value.ensures p here)

pub returns-in_ok-fork-in-Pointer : goal.returns-in_ok-fork-in-Pointer
returns-in_ok-fork-in-Pointer c = λ p here s.
    let r = c.in-Pointer.r in
    tests_as (ap (choice_in p here c.args.v) c.in-Pointer.is)
    (tests_to c.in_ok-fork-in-Pointer.ensures
    (tests_value c.args.yes c.args.no c.args.next (gives_as (ap₂ (λ g j. is_pointer g j c.args.v) (sym (c.descriptor.ensures ∙ s.descriptor r)) (sym (c.level.ensures ∙ s.level r))) c.in_ok-a-in-Pointer.ensures)))

pub returns-in_ok-fork-in-Parameter : goal.returns-in_ok-fork-in-Parameter
returns-in_ok-fork-in-Parameter c = λ p here s.
    let r = c.in-Parameter.r in
    tests_as (ap (choice_in p here c.args.v) c.in-Parameter.is)
    (tests_to c.in_ok-fork-in-Parameter.ensures
    (tests_value c.args.yes c.args.no c.args.next (gives_as (ap₂ (λ g j. is_tag g j c.args.v) (sym (c.descriptor-in-Parameter.ensures ∙ s.descriptor r)) (sym (c.level-in-Parameter.ensures ∙ s.level r))) c.in_ok-a-in-Parameter.ensures)))
