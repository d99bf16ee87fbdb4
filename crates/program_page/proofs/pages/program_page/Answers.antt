use Rattle.std.proofs.Common.{map, sym, subst}
use Rattle.shown_program.proofs.procedure_code.Rows.{errs_with}
use Rattle.program_page.specs.Faults.{TellsOfPage}
use Rattle.program_page.specs.Pages.{wish_of}
use Rattle.program_page.proofs.Told.{made_page, no_page, other_told, own_told}
use Rattle.program_page.proofs.pages.program_page.Goals as goal

pub returns-in_err-own-clause-limit : goal.returns-in_err-own-clause-limit
returns-in_err-own-clause-limit g c =
    let asked = c.args.asked.now in
    let wish = wish_of (map (λ name. name.now) asked.names.now) c.args.texts.now asked.choice.now asked.policy in
    errs_with _ _ c.from_residual.result c.from_residual.ensures.1
    (λ fault same. subst (TellsOfPage wish c.args.program.now) (sym same) (own_told wish c.args.program.now c.in_err-own.field-0.0 c.in_err-own.ensures.limit))

pub returns-in_err-other-clause-limit : goal.returns-in_err-other-clause-limit
returns-in_err-other-clause-limit g c =
    let asked = c.args.asked.now in
    let wish = wish_of (map (λ name. name.now) asked.names.now) c.args.texts.now asked.choice.now asked.policy in
    errs_with _ _ c.from_residual-in_err-other.result c.from_residual-in_err-other.ensures.1
    (λ fault same. subst (TellsOfPage wish c.args.program.now) (sym same) (other_told wish c.args.program.now c.in_ok-own.own c.in_ok-own.ensures.shown c.in_err-other.field-0.0 c.in_err-other.ensures.limit))

pub returns-in-Ok-clause-page : goal.returns-in-Ok-clause-page
returns-in-Ok-clause-page g c =
    let asked = c.args.asked.now in
    let wish = wish_of (map (λ name. name.now) asked.names.now) c.args.texts.now asked.choice.now asked.policy in
    made_page wish c.args.program.now c.in_ok-own.own c.in_ok-own.ensures.shown c.in_ok-other.other c.in_ok-other.ensures.shown c.page_or_limit.result (c.page_or_limit.ensures.page _ c.in-Ok.ensures)

pub returns-in-Ok-clause-limit : goal.returns-in-Ok-clause-limit
returns-in-Ok-clause-limit g c =
    let asked = c.args.asked.now in
    let wish = wish_of (map (λ name. name.now) asked.names.now) c.args.texts.now asked.choice.now asked.policy in
    no_page wish c.args.program.now c.in_ok-own.own c.in_ok-own.ensures.shown c.in_ok-other.other c.in_ok-other.ensures.shown c.page_or_limit.result (c.page_or_limit.ensures.limit _ c.in-Ok.ensures)
