use Rattle.std.proofs.Common.{◌+◌, ◌∙◌, length, ap, sym, subst, Ok, Err}
use Rattle.std.specs.Prelude.{nat_le}
use Rattle.std.proofs.lemmas.List.{length-map}
use Rattle.ob_judge.specs.Parameters.{declare_parameter, words_of}
use Rattle.judged_tree.specs.Plain.{plain_formal}
use Rattle.check_types.specs.steps.Answers.{Answers}
use Rattle.check_types.proofs.steps.Answering.{exit, goes_on, stop, as_judged}
use Rattle.check_types.specs.TypeMeaning.{type_shape}
use Rattle.check_making.specs.Making.{table_of}
use Rattle.check_making.specs.Parts.{Made}
use Rattle.check_making.proofs.parameters.Answering.{breaks_so}
use Rattle.check_making.proofs.parameters.OneMore.{some_if, none_if, parameter_past, parameter_within, formed}
use Rattle.check_making.proofs.parameters.parameters.add_parameter.Goals as goal

pub returns-in-None-clause-judged : goal.returns-in-None-clause-judged
returns-in-None-clause-judged c = λ x h m makes.
    let v = c.args.kind.variable in
    let t = table_of c.args.state.now in
    let shape = type_shape t c.args.kind.of in
    let past = none_if (nat_le (c.args.listed.words + words_of v shape) 24) (c.args.listed.words + words_of v shape) (c.in-None.ensures t) in
    as_judged (parameter_past c.args.round.now.source.now c.args.kind.known_here v shape c.args.i x m (ap (λ n. nat_le (n + words_of v shape) 24) h.words ∙ past)) (breaks_so 40 _ c.fault.ensures)

pub returns-in_err-declare_parameter-in-Some-clause-judged : goal.returns-in_err-declare_parameter-in-Some-clause-judged
returns-in_err-declare_parameter-in-Some-clause-judged c = λ x h m makes.
    let p = c.args.round.now.source.now in
    let k = c.args.kind.known_here in
    let v = c.args.kind.variable in
    let t = table_of c.args.state.now in
    let shape = type_shape t c.args.kind.of in
    let within = some_if (nat_le (c.args.listed.words + words_of v shape) 24) (c.args.listed.words + words_of v shape) c.in-Some.words (c.in-Some.ensures t) in
    let number = ap (λ fs. length fs) h.parameters ∙ length-map c.args.listed.formals (plain_formal t) ∙ sym (c.in_ok-number-in-Some.ensures.number ∙ ap (λ fs. length fs) c.as_slice.ensures) in
    exit _ c.from_residual-in_err-declare_parameter-in-Some.ensures.1
    (as_judged (parameter_within p k v shape c.args.i x m (ap (λ n. nat_le (n + words_of v shape) 24) h.words ∙ within.0))
    (stop (declare_parameter p k c.args.i v shape (length x.parameters) m) _
    (subst (λ n. Answers (Made c.args.round.now c.declare_parameter.new.state) (declare_parameter p k c.args.i v shape n m) (Err c.in_err-declare_parameter-in-Some.field-0.0)) (sym number) (c.in_err-declare_parameter-in-Some.ensures.judged m makes))))

pub returns-in_ok-declare_parameter-in-Some-clause-judged : goal.returns-in_ok-declare_parameter-in-Some-clause-judged
returns-in_ok-declare_parameter-in-Some-clause-judged c = λ x h m makes.
    let r = c.args.round.now in
    let p = c.args.round.now.source.now in
    let k = c.args.kind.known_here in
    let v = c.args.kind.variable in
    let t = table_of c.args.state.now in
    let shape = type_shape t c.args.kind.of in
    let within = some_if (nat_le (c.args.listed.words + words_of v shape) 24) (c.args.listed.words + words_of v shape) c.in-Some.words (c.in-Some.ensures t) in
    let number = ap (λ fs. length fs) h.parameters ∙ length-map c.args.listed.formals (plain_formal t) ∙ sym (c.in_ok-number-in-Some.ensures.number ∙ ap (λ fs. length fs) c.as_slice.ensures) in
    as_judged (parameter_within p k v shape c.args.i x m (ap (λ n. nat_le (n + words_of v shape) 24) h.words ∙ within.0))
    (goes_on (declare_parameter p k c.args.i v shape (length x.parameters) m) _
    (subst (λ n. Answers (Made r c.declare_parameter.new.state) (declare_parameter p k c.args.i v shape n m) (Ok tt)) (sym number) (c.in_ok-declare_parameter-in-Some.ensures.judged m makes)) (λ a made.
    formed r c.args.state.now c.declare_parameter.new.state c.in_ok-declare_parameter-in-Some.ensures.types c.args.kind.of v c.args.listed x c.with_formal.result h c.with_formal.ensures.listed c.with_formal.ensures.memory a.1 made.makes))
