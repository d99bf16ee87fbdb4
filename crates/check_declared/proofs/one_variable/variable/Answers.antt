use Rattle.std.proofs.Common.{◌+◌, length, ap, sym, ◌∙◌, subst, Ok, Err}
use Rattle.check_types.specs.steps.Answers.{Answers}
use Rattle.check_types.proofs.steps.Answering.{exit}
use Rattle.check_types.specs.names.Meaning.{object_of}
use Rattle.check_types.specs.declared.names.scope.Named.TheVariants as TheNamed
use Rattle.ob_judge.specs.Parameters.{declared}
use Rattle.table_builder.specs.Entries.{IsElement}
use Rattle.check_making.specs.Making.{table_of, strings_of}
use Rattle.check_making.specs.Parts.{Made}
use Rattle.check_making.specs.Staying.{NamedStays}
use Rattle.check_declared.proofs.Vars.{variable_stays, settled_variable, variable_made, variable_refused}
use Rattle.check_declared.proofs.one_variable.variable.Goals as goal

pub returns-in_err-declare-clause-judged : goal.returns-in_err-declare-clause-judged
returns-in_err-declare-clause-judged c = λ m makes.
    let s = c.args.state.now in
    let r = c.args.round.now in
    exit _ c.from_residual-in_err-declare.ensures.1
    (variable_refused r s c.args.of c.args.ident.now m makes c.in_ok-n.n (c.in_ok-n.ensures.number ∙ ap (λ ks. s.values + length ks) c.deref.ensures.value) c.declare.new.self c.declare.new.self c.in_err-declare.field-0.0
    (subst (λ v. Answers (Made r c.declare.new.self) (declared r.source.now c.args.ident.now (object_of (table_of s) (strings_of s) (TheNamed.Variable v)) m) (Err c.in_err-declare.field-0.0)) c.variable_of-variable.ensures (c.in_err-declare.ensures.judged m makes)))

pub returns-clause-settled : goal.returns-clause-settled
returns-clause-settled c =
    settled_variable c.args.round.now c.declare.new.self c.args.of c.push.new.self c.in_ok-push.ensures.items c.in_ok-declare.ensures.settled
    (subst (λ z. IsElement z.table.entries.items c.args.of) (sym c.in_ok-declare.ensures.types) c.requires.element)

pub returns-clause-judged : goal.returns-clause-judged
returns-clause-judged c = λ m makes.
    let s = c.args.state.now in
    let r = c.args.round.now in
    variable_made r s c.args.of c.args.ident.now m makes c.in_ok-n.n (c.in_ok-n.ensures.number ∙ ap (λ ks. s.values + length ks) c.deref.ensures.value) c.declare.new.self c.push.new.self c.in_ok-declare.ensures.types c.in_ok-push.ensures.items
    (subst (λ v. Answers (Made r c.declare.new.self) (declared r.source.now c.args.ident.now (object_of (table_of s) (strings_of s) (TheNamed.Variable v)) m) (Ok tt)) c.variable_of-variable.ensures (c.in_ok-declare.ensures.judged m makes))

pub declare-requires-clause-stays : goal.declare-requires-clause-stays
declare-requires-clause-stays c =
    let s = c.args.state.now in
    subst (λ v. NamedStays s.types.table (strings_of s) (TheNamed.Variable v)) (sym c.variable_of-variable.ensures) (variable_stays s.types.table (strings_of s) c.args.round.now.module_number s.procedure c.args.of c.in_ok-n.n c.requires.element)
