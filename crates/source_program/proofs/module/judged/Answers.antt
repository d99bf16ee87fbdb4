use Rattle.std.proofs.Common.{◌≡◌, List, Some, Ok, Err, refl, sym, ap, subst, ◌∙◌, arith}
use Rattle.std.specs.Prelude.{slice_get}
use Rattle.ob_symbol.specs.declared.symbol.Symbol.{Symbol}
use Rattle.ob_syntax.specs.Plain.{plain_module}
use Rattle.ob_judge.specs.Scopes.{Source}
use Rattle.ob_judge.specs.Modules.{SoFar, with_module}
use Rattle.judged_well.specs.Standing.{IsRead}
use Rattle.judged_outlines.specs.Upright.{UprightSoFar}
use Rattle.check_types.specs.steps.Answers.{Answers}
use Rattle.check_modules.specs.programs.Modules.{StandsForModules}
use Rattle.source_program.specs.Texts.{IsParsed, IsSourceFault, parsed}
use Rattle.source_program.proofs.Reading.{text_is_read}
use Rattle.source_program.proofs.Behind.{has_so_far, next_judged, next_refused}
use Rattle.source_program.proofs.module.judged.Goals as goal

pub check_module-requires-clause-settled : goal.check_module-requires-clause-settled
check_module-requires-clause-settled c = c.requires.behind.settled

pub check_module-requires-clause-so_far : goal.check_module-requires-clause-so_far
check_module-requires-clause-so_far c = has_so_far c.args.texts.now c.args.index c.args.state c.requires.behind

pub check_module-requires-clause-own_text : goal.check_module-requires-clause-own_text
check_module-requires-clause-own_text c =
    subst (λ n. slice_get c.args.texts.now n ≡ Some c.new-source.result.bytes) (sym c.requires.behind.count)
    (c.requires.own_text ∙ ap (λ (p : Source). Some p.bytes) (sym c.new-source.ensures))

pub check_module-requires-clause-read : goal.check_module-requires-clause-read
check_module-requires-clause-read c =
    let b = c.args.bytes.now in
    let x = c.args.text in
    let same = c.new-source.ensures ∙ ap (λ (ss : List Symbol). (parsed b ss x.tree).source) c.as_slice.ensures.value in
    subst IsRead (sym same) (text_is_read b x.symbols.items x.tree (λ i. omega (arith, c.type_inv.bytes i)) c.requires.text)

pub returns-in-Ok-clause-behind : goal.returns-in-Ok-clause-behind
returns-in-Ok-clause-behind c =
    let T = c.args.texts.now in
    let b = c.args.bytes.now in
    let x = c.args.text in
    let m = parsed b x.symbols.items x.tree in
    let same = c.new-source.ensures ∙ ap (λ (ss : List Symbol). (parsed b ss x.tree).source) c.as_slice.ensures.value in
    let read = text_is_read b x.symbols.items x.tree (λ i. omega (arith, c.type_inv.bytes i)) c.requires.text in
    let is : IsParsed b m = record { symbols = x.symbols.items; tree = x.tree; text = c.requires.text; is = refl } in
    next_judged T c.args.index c.args.state c.requires.behind b m c.requires.own_text is read c.in-Ok.state c.in-Ok.ensures.settled c.in-Ok.ensures.number
    (subst (λ (p : Source). (k : SoFar) → StandsForModules T c.args.state k → UprightSoFar k → Answers (StandsForModules T) (with_module p (plain_module x.tree) k) (Ok c.in-Ok.state)) same c.in-Ok.ensures.judged)

pub returns-clause-fault : goal.returns-clause-fault
returns-clause-fault c =
    let T = c.args.texts.now in
    let b = c.args.bytes.now in
    let x = c.args.text in
    let m = parsed b x.symbols.items x.tree in
    let same = c.new-source.ensures ∙ ap (λ (ss : List Symbol). (parsed b ss x.tree).source) c.as_slice.ensures.value in
    let is : IsParsed b m = record { symbols = x.symbols.items; tree = x.tree; text = c.requires.text; is = refl } in
    subst (IsSourceFault T) (sym c.of_judging.ensures)
    (next_refused T c.args.index c.args.state c.requires.behind b m c.requires.own_text is c.in-Err.fault
    (subst (λ (p : Source). (k : SoFar) → StandsForModules T c.args.state k → UprightSoFar k → Answers (StandsForModules T) (with_module p (plain_module x.tree) k) (Err c.in-Err.fault)) same c.in-Err.ensures.judged))
