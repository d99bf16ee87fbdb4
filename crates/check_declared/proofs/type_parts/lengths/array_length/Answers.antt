use Rattle.std.proofs.Common.{ap, sym, ◌∙◌, w64, rules}
use Rattle.std.proofs.lemmas.Int.{to_z-of_z}
use mir.Val.{SFits, to_z, of_z}
use Rattle.ob_judge.specs.Scopes.{place}
use Rattle.ob_judge.specs.Assignments.{int_only}
use Rattle.ob_judge.specs.Types.{is_length, size_of}
use Rattle.check_types.proofs.steps.Answering.{exit, stop, goes_on, there, kept}
use Rattle.check_types.specs.declared.steps.fault.CheckFault.TheVariants.{Fault}
use Rattle.check_declared.specs.Constants.{texts_in}
use Rattle.check_making.proofs.parameters.OneMore.{some_if, none_if}
use Rattle.check_declared.proofs.type_parts.ArrayLengths.{no_number, no_length}
use Rattle.check_declared.proofs.type_parts.lengths.array_length.Goals as goal

pub returns-in_err-value : goal.returns-in_err-value
returns-in_err-value c = λ m makes. exit _ c.from_residual.ensures.1 (stop _ _ (c.in_err-value.ensures m makes))

pub returns-in-None : goal.returns-in-None
returns-in-None c = λ m makes.
    let p = c.args.round.now.source.now in
    let texts = texts_in c.args.round.now c.args.state.now in
    goes_on _ _ (c.in_ok-value.ensures m makes) (λ k h. no_number 31 _ _ (ap int_only (sym h) ∙ sym (c.in-None.ensures texts)) (c.fault.ensures ∙ ap (λ n. Fault 31 (place p n)) c.expression_first.ensures))

pub returns-in-None-length_in : goal.returns-in-None-length_in
returns-in-None-length_in c = λ m makes.
    let p = c.args.round.now.source.now in
    let texts = texts_in c.args.round.now c.args.state.now in
    let f : SFits w64 c.in-Some.found = search rules in
    let l = to_z-of_z w64 c.in-Some.found f in
    goes_on _ _ (c.in_ok-value.ensures m makes) (λ k h. there 31 _ _ (ap int_only (sym h) ∙ sym (c.in-Some.ensures texts))
    (no_length 35 _ _ (ap is_length (sym l) ∙ none_if (is_length (to_z w64 (of_z w64 c.in-Some.found))) (size_of (to_z w64 (of_z w64 c.in-Some.found))) c.in-None-length_in.ensures) (c.fault-in-None-length_in.ensures ∙ ap (λ n. Fault 35 (place p n)) c.expression_first-in-None-length_in.ensures)))

pub returns-in-Some-length_in : goal.returns-in-Some-length_in
returns-in-Some-length_in c = λ m makes.
    let p = c.args.round.now.source.now in
    let texts = texts_in c.args.round.now c.args.state.now in
    let f : SFits w64 c.in-Some.found = search rules in
    let l = to_z-of_z w64 c.in-Some.found f in
    let is = some_if (is_length (to_z w64 (of_z w64 c.in-Some.found))) (size_of (to_z w64 (of_z w64 c.in-Some.found))) _ c.in-Some-length_in.ensures in
    goes_on _ _ (c.in_ok-value.ensures m makes) (λ k h. there 31 _ _ (ap int_only (sym h) ∙ sym (c.in-Some.ensures texts))
    (kept 35 _ _ (ap is_length (sym l) ∙ is.0) (record { by = is.1 ∙ ap size_of l })))
