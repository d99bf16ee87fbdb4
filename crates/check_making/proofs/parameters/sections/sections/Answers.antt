use Rattle.std.proofs.Common.{◌∙◌, ap, subst}
use Rattle.std.specs.Prelude.{is_none}
use Rattle.ob_syntax.specs.Plain.{plain_option, plain_sections, plain_each, plain_next_section}
use Rattle.ob_judge.specs.Parameters.{no_parameters, next_sections, sections}
use Rattle.check_types.specs.steps.Answers.{Answers}
use Rattle.check_types.proofs.steps.Answering.{exit, goes_on, stop, as_judged}
use Rattle.check_making.specs.Parts.{Gave}
use Rattle.check_making.proofs.Growing.{grows_on}
use Rattle.check_making.specs.parameters.Listed.{IsListedIn}
use Rattle.check_making.proofs.parameters.Stages.{on_ok}
use Rattle.check_making.proofs.parameters.sections.sections.Goals as goal

pub returns-in-None-clause-judged : goal.returns-in-None-clause-judged
returns-in-None-clause-judged c = λ m makes.
    as_judged (ap (λ o. sections c.args.round.now.source.now c.args.known_here (plain_option plain_sections o) m) c.in-None.is)
    (record { by = record { value = c.no_parameters-none.ensures c.args.state.now.types.table; makes = makes } })

pub returns-in_err-listed-in-Some-clause-judged : goal.returns-in_err-listed-in-Some-clause-judged
returns-in_err-listed-in-Some-clause-judged c = λ m makes.
    exit _ c.from_residual.ensures.1
    (as_judged (ap (λ o. sections c.args.round.now.source.now c.args.known_here (plain_option plain_sections o) m) c.in-Some.is)
    (stop _ _ (c.in_err-listed-in-Some.ensures.judged no_parameters (c.no_parameters-none.ensures c.args.state.now.types.table) m makes)))

pub next_sections-requires-clause-inside : goal.next_sections-requires-clause-inside
next_sections-requires-clause-inside c = λ is. ap is_none c.in_ok-listed-in-Some.ensures.procedure ∙ c.requires.inside is

pub returns-in_ok-listed-in-Some-clause-procedure : goal.returns-in_ok-listed-in-Some-clause-procedure
returns-in_ok-listed-in-Some-clause-procedure c = on_ok c.next_sections.result (λ e. e ∙ c.in_ok-listed-in-Some.ensures.procedure) c.next_sections.ensures.procedure

pub returns-in_ok-listed-in-Some-clause-grows : goal.returns-in_ok-listed-in-Some-clause-grows
returns-in_ok-listed-in-Some-clause-grows c =
    on_ok c.next_sections.result (λ g. grows_on c.args.state.now.types.table c.section.new.state.types.table c.next_sections.new.state.types.table c.in_ok-listed-in-Some.ensures.grows g) c.next_sections.ensures.grows

pub returns-in_ok-listed-in-Some-clause-judged : goal.returns-in_ok-listed-in-Some-clause-judged
returns-in_ok-listed-in-Some-clause-judged c = λ m makes.
    let r = c.args.round.now in
    let new = c.next_sections.new.state in
    as_judged (ap (λ o. sections r.source.now c.args.known_here (plain_option plain_sections o) m) c.in-Some.is)
    (goes_on _ _ (c.in_ok-listed-in-Some.ensures.judged no_parameters (c.no_parameters-none.ensures c.args.state.now.types.table) m makes) (λ a gave.
    subst (λ xs. Answers (Gave (IsListedIn new) r new) (next_sections r.source.now c.args.known_here (plain_each plain_next_section xs) a.0 a.1) c.next_sections.result) c.deref.ensures.value
    (c.next_sections.ensures.judged a.0 gave.value a.1 gave.makes)))

pub returns-in_ok-listed-in-Some-clause-legal : goal.returns-in_ok-listed-in-Some-clause-legal
returns-in_ok-listed-in-Some-clause-legal c = on_ok c.next_sections.result (λ f legal. f (c.in_ok-listed-in-Some.ensures.legal legal)) c.next_sections.ensures.legal
