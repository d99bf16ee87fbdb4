use Rattle.std.proofs.Common.{refl, ap, sym, ◌∙◌}
use Rattle.ssa_lowered.specs.Data.{layout}
use Rattle.ssa_lowered.specs.Lowered.{here_of}
use Rattle.ssa_lowered.specs.Variables.{words_of}
use Rattle.ssa_build.proofs.Limits.{limit_passed, limit_none}
use Rattle.ssa_build.proofs.Procedures.{limit_at, procedure_is}
use Rattle.ssa_build.proofs.procedure.lower_procedure.Goals as goal

pub returns-in-Some-clause-limit : goal.returns-in-Some-clause-limit
returns-in-Some-clause-limit c =
    let p = c.args.program.now in
    let q = c.args.procedure.now in
    let are = c.in-Ok.ensures.ok in
    let makes = c.in-Ok-lower_body.ensures p (here_of p (layout p.types) c.args.f q) c.in-Ok.ensures.serves refl refl are.variables are.bytes in
    let count = c.argument_words-words.ensures ∙ ap words_of c.as_slice.ensures in
    let limit = limit_at p c.args.f q c.in-Ok.entered.locals are c.argument_words-words.result count c.reserve.new.self c.lower_body.new.b c.in-Ok-lower_body.result (c.in-Ok-reserve.ensures ∙ c.new-making.ensures) makes in
    limit_passed p c.args.f q c.in-Some.number c.in-Ok.ensures.within (sym limit ∙ sym c.over.ensures ∙ c.in-Some.is)

pub returns-in-Ok-complete-clause-ok : goal.returns-in-Ok-complete-clause-ok
returns-in-Ok-complete-clause-ok c =
    let p = c.args.program.now in
    let q = c.args.procedure.now in
    let are = c.in-Ok.ensures.ok in
    let makes = c.in-Ok-lower_body.ensures p (here_of p (layout p.types) c.args.f q) c.in-Ok.ensures.serves refl refl are.variables are.bytes in
    let count = c.argument_words-words.ensures ∙ ap words_of c.as_slice.ensures in
    procedure_is p c.args.f q c.in-Ok.entered.locals are c.argument_words-words.result count c.reserve.new.self c.lower_body.new.b c.in-Ok-lower_body.result (c.in-Ok-reserve.ensures ∙ c.new-making.ensures) makes c.in-Ok-complete.made
    (sym c.over.ensures ∙ c.in_default.is) c.in-Ok-complete.ensures

pub returns-in-Ok-complete-clause-within : goal.returns-in-Ok-complete-clause-within
returns-in-Ok-complete-clause-within c =
    let p = c.args.program.now in
    let q = c.args.procedure.now in
    let are = c.in-Ok.ensures.ok in
    let makes = c.in-Ok-lower_body.ensures p (here_of p (layout p.types) c.args.f q) c.in-Ok.ensures.serves refl refl are.variables are.bytes in
    let count = c.argument_words-words.ensures ∙ ap words_of c.as_slice.ensures in
    let limit = limit_at p c.args.f q c.in-Ok.entered.locals are c.argument_words-words.result count c.reserve.new.self c.lower_body.new.b c.in-Ok-lower_body.result (c.in-Ok-reserve.ensures ∙ c.new-making.ensures) makes in
    limit_none p c.args.f q c.in-Ok.ensures.within (sym limit ∙ sym c.over.ensures ∙ c.in_default.is)
