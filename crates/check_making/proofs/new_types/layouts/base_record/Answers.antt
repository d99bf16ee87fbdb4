use Rattle.std.proofs.Common.{refl, ap, sym, ◌∙◌}
use Rattle.ob_judge.specs.Judged.{some}
use Rattle.ob_judge.specs.Scopes.{place}
use Rattle.ob_judge.specs.Shapes.{Shape}
use Rattle.ob_judge.specs.Types.{record_only}
use Rattle.check_types.specs.TypeMeaning.{type_shape}
use Rattle.check_types.proofs.steps.Answering.{exit, stop, goes_on, as_judged}
use Rattle.check_making.specs.Making.{table_of}
use Rattle.check_making.proofs.parameters.Answering.{breaks_so}
use Rattle.check_making.proofs.new_types.PointerParts.{no_record}
use Rattle.check_making.proofs.new_types.layouts.base_record.Goals as goal

pub returns-in_err-of : goal.returns-in_err-of
returns-in_err-of c = λ m makes. exit _ c.from_residual.ensures.1 (stop _ _ (c.in_err-of.ensures m makes))

pub returns-in-Record : goal.returns-in-Record
returns-in-Record c = λ m makes.
    let p = c.args.round.now.source.now in
    let of = λ (s : Shape). some 42 (place p c.args.tree.now.name.name) (record_only s) in
    goes_on _ _ (c.in_ok-of.ensures m makes) (λ s k.
    as_judged (ap of (sym k.shape_is) ∙ ap (λ z. of (type_shape (table_of c.args.state.now) z)) c.in-Record.is) (record { by = refl }))

pub returns-in_default : goal.returns-in_default
returns-in_default c = λ m makes.
    let p = c.args.round.now.source.now in
    goes_on _ _ (c.in_ok-of.ensures m makes) (λ s k.
    as_judged (ap (λ z. some 42 (place p c.args.tree.now.name.name) (record_only z)) (sym k.shape_is)
    ∙ ap (some 42 (place p c.args.tree.now.name.name)) (no_record (table_of c.args.state.now) c.in_ok-of.of c.in_default.not-Record))
    (breaks_so 42 _ c.fault.ensures))
