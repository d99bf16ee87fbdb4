use Rattle.std.proofs.Common.{◌≡◌, [], map, ap₂, subst, ◌∙◌}
use Rattle.std.proofs.lemmas.List.{get_or_read}
use Rattle.outside.specs.Sink.{TookAll}
use Rattle.trc_answers.specs.Causes.{name_at}
use Rattle.module_check.specs.Checks.{WasTold}
use Rattle.module_check.specs.Lines.{fault_line}
use Rattle.module_check.proofs.checking.find.Goals as goal

pub returns-in-Ok-write_all-clause-answers : goal.returns-in-Ok-write_all-clause-answers
returns-in-Ok-write_all-clause-answers g c =
    let file = name_at (map (λ name. name.now) c.args.names.now) c.args.index in
    let text = name_at c.args.texts.now c.args.index in
    let text_is : c.as_slice-text.result.now ≡ text =
    c.as_slice-text.ensures ∙ get_or_read c.args.texts.now c.args.index _ c.requires.there c.index-texts-index.is [] in
    let line_is : c.as_slice.result.now ≡ fault_line file text c.args.rule c.args.at =
    c.as_slice.ensures.value ∙ c.in-Ok.ensures ∙ ap₂ (λ f t. fault_line f t c.args.rule c.args.at) c.name_at-file.ensures text_is in
    WasTold c.broken.ensures.cause (subst (TookAll (g.O.Sink.account c.args.out.now) (g.O.Sink.account c.write_all.new.sink)) line_is c.in-Ok-write_all.ensures.all)
