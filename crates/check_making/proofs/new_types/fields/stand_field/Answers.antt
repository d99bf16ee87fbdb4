use Rattle.std.proofs.Common.{◌∷◌, [], ◌∙◌, not, ap, sym}
use Rattle.std.specs.Prelude.{is_none, is_some}
use Rattle.ob_judge.specs.Scopes.{spelled}
use Rattle.ob_judge.specs.Parameters.{stand}
use Rattle.check_types.specs.Fields.{at_fields}
use Rattle.check_types.proofs.steps.Answering.{as_judged}
use Rattle.check_types.specs.Known.{field_of}
use Rattle.check_making.specs.Making.{table_of}
use Rattle.check_making.proofs.parameters.Answering.{breaks_so, kept_on}
use Rattle.check_making.proofs.new_types.FieldLists.{name_taken, name_free, none_mapped}
use Rattle.check_making.proofs.new_types.fields.stand_field.Goals as goal

pub returns-then-is_some-clause-judged : goal.returns-then-is_some-clause-judged
returns-then-is_some-clause-judged c = λ g h m makes.
    let p = c.args.round.now.source.now in
    let name = spelled p c.args.ident.now.name in
    as_judged (name_taken p c.args.ident.now g m
    (ap is_none (h.fields name) ∙ none_mapped (field_of (table_of c.args.state.now)) (at_fields c.args.layout.now.fields name)
    ∙ ap not (ap (λ q. is_some (at_fields c.args.layout.now.fields q)) (sym c.spelled-name.ensures) ∙ sym (ap is_some c.get.ensures) ∙ sym c.is_some.ensures ∙ c.if-is_some.true))) (breaks_so 36 _ c.fault.ensures)

pub returns-clause-judged : goal.returns-clause-judged
returns-clause-judged c = λ g h m makes.
    let p = c.args.round.now.source.now in
    let name = spelled p c.args.ident.now.name in
    as_judged (name_free p c.args.ident.now g m
    (ap is_none (h.fields name) ∙ none_mapped (field_of (table_of c.args.state.now)) (at_fields c.args.layout.now.fields name)
    ∙ ap not (ap (λ q. is_some (at_fields c.args.layout.now.fields q)) (sym c.spelled-name.ensures) ∙ sym (ap is_some c.get.ensures) ∙ sym c.is_some.ensures ∙ c.if-is_some.false))
    ∙ sym (kept_on (stand p (c.args.ident.now.name ∷ []) m))) (c.stand.ensures.judged m makes)
