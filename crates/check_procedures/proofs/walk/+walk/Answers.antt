use Rattle.std.proofs.Common.{◌<◌, ◌≤◌, length, get_or, Vec, Global, Ok, Err, refl, sym, ap, subst, arith}
use Rattle.ob_syntax.specs.declared.declarations.Decls.{out-Decls}
use Rattle.ob_syntax.specs.declared.declarations.ProcedureDecl.{out-ProcedureDecl}
use Rattle.ob_types.specs.declared.program.Procedure.{Procedure}
use Rattle.ob_judge.specs.Declarations.{procedures_part}
use Rattle.check_types.proofs.steps.Answering.{exit}
use Rattle.judged_modules.specs.steps.Procedures.{plain_procedure, plain_each_procedure}
use Rattle.judged_modules.specs.steps.Steps.{procedure_part}
use Rattle.check_making.proofs.Growing.{grows_on}
use Rattle.check_making.specs.scopes.Building.{IsLater}
use Rattle.legal_tables.specs.Promised.{HasLegalTypes}
use Rattle.check_making.specs.Making.{IsSettled}
use Rattle.check_procedures.specs.UnderWay.{BuildsUpright}
use Rattle.check_procedures.proofs.Opens.{still_closable}
use Rattle.check_procedures.proofs.Rounds.{stands_first, stands_next, stands_stop, stands_last}
use Rattle.check_procedures.proofs.Whole.{not_begun, whole, legal_behind}
use Rattle.check_procedures.proofs.Scoped.{not_opened, not_judged, closes, legal_inside}
use Rattle.check_procedures.proofs.walk.+walk.Goals as goal

pub procedure-returns-in_err-opened-clause-judged : goal.procedure-returns-in_err-opened-clause-judged
procedure-returns-in_err-opened-clause-judged t c = λ k m represents up.
    exit _ c.from_residual.ensures.1 (not_opened c.args.round.now c.args.tree.now c.in_err-opened.ensures.judged k m represents up)

-- ---- declarations

pub declarations-returns-in_err-before_procedures-clause-judged : goal.declarations-returns-in_err-before_procedures-clause-judged
declarations-returns-in_err-before_procedures-clause-judged t c = λ k m represents up.
    exit _ c.from_residual.ensures.1 (not_begun c.args.round.now c.args.tree.now c.in_err-before_procedures.ensures.judged k m represents up)

pub declarations-returns-in_err-procedures-clause-judged : goal.declarations-returns-in_err-procedures-clause-judged
declarations-returns-in_err-procedures-clause-judged t c = λ k m represents up.
    exit _ c.from_residual-in_err-procedures.ensures.1
    (whole c.args.round.now c.args.tree.now c.args.state.now c.before_procedures.new.state c.in_ok-before_procedures.ensures.judged c.in_err-procedures.ensures.judged k m represents up)

pub declarations-returns-clause-judged : goal.declarations-returns-clause-judged
declarations-returns-clause-judged t c = λ k m represents up.
    whole c.args.round.now c.args.tree.now c.args.state.now c.before_procedures.new.state c.in_ok-before_procedures.ensures.judged c.in_ok-procedures.ensures.judged k m represents up

pub declarations-returns-clause-later : goal.declarations-returns-clause-later
declarations-returns-clause-later t c = record {
  grows = grows_on c.args.state.now.declaring.types.table c.before_procedures.new.state.declaring.types.table c.procedures.new.state.declaring.types.table c.in_ok-before_procedures.ensures.later.grows c.in_ok-procedures.ensures.later.grows;
  few = c.in_ok-procedures.ensures.later.few;
}

pub declarations-returns-clause-more : goal.declarations-returns-clause-more
declarations-returns-clause-more t c = subst (λ (v : Vec Procedure Global). length v.items ≤ length c.procedures.new.state.procedures.items) c.in_ok-before_procedures.ensures.procedures c.in_ok-procedures.ensures.more

pub declarations-returns-clause-legal : goal.declarations-returns-clause-legal
declarations-returns-clause-legal t c = λ k m represents up legal.
    legal_behind c.args.round.now c.args.tree.now c.args.state.now c.before_procedures.new.state c.in_ok-before_procedures.ensures.judged c.procedures.new.state c.in_ok-procedures.ensures.legal k m represents up
    (c.in_ok-before_procedures.ensures.legal k m represents up legal)

-- ---- procedures

pub procedures-loop-next-init : goal.procedures-loop-next-init
procedures-loop-next-init t c = record {
  settled = c.requires.under_way.settled;
  under_way = c.requires.under_way;
  later = record { grows = record { entry = λ n e h. h; shape = λ e h. refl }; few = c.requires.few.few };
  more = omega arith;
  at = λ k m represents up. stands_first c.args.round.now k c.args.state.now m (out-Decls c.args.tree.now).procedures.items represents up;
}

pub procedures-loop-next-preserved : goal.procedures-loop-next-preserved
procedures-loop-next-preserved t c =
    let r = c.args.round.now in
    let i = c.loop-next.invariant in
    let e = c.in_ok-procedure.ensures in
    let old = c.requires.under_way in
    let xs = (out-Decls c.args.tree.now).procedures.items in
    let within = subst (λ ys. c.loop-next.next-index < length ys) c.deref-next-items.ensures.value c.loop-next-test.true in
    let judged =
    subst (λ ys. BuildsUpright r c.loop-next.state c.procedure.new.state (procedure_part r.source.now (plain_procedure (out-ProcedureDecl (get_or ys c.loop-next.next-index c.next-item.result)).procedure)) (Ok tt)) c.deref-next-items.ensures.value
    (subst (λ x. BuildsUpright r c.loop-next.state c.procedure.new.state (procedure_part r.source.now (plain_procedure (out-ProcedureDecl x).procedure)) (Ok tt)) c.next-item.is e.judged) in
    let next =
    stands_next r old.so_far (procedures_part r.source.now (plain_each_procedure xs) old.making) c.args.state.now.declaring.types.table c.loop-next.state c.procedure.new.state xs c.loop-next.next-index c.next-item.result
    within (i.at old.so_far old.making old.represents old.upright) judged (λ n at upright. e.legal old.so_far n at upright) in
    record {
      settled = e.settled;
      later = record { grows = grows_on c.args.state.now.declaring.types.table c.loop-next.state.declaring.types.table c.procedure.new.state.declaring.types.table i.later.grows e.later.grows; few = e.later.few };
      more = (let a = i.more in let b = e.more in omega (arith, a, b));
      under_way = record { settled = e.settled; so_far = old.so_far; making = next.making; represents = next.represents; upright = next.upright };
      at = λ k m represents up.
          stands_next r k (procedures_part r.source.now (plain_each_procedure xs) m) c.args.state.now.declaring.types.table c.loop-next.state c.procedure.new.state xs c.loop-next.next-index c.next-item.result
          within (i.at k m represents up) judged (λ n at upright. e.legal k n at upright);
    }

pub procedures-returns-in_err-procedure-clause-judged : goal.procedures-returns-in_err-procedure-clause-judged
procedures-returns-in_err-procedure-clause-judged t c = λ k m represents up.
    let r = c.args.round.now in
    let xs = (out-Decls c.args.tree.now).procedures.items in
    exit _ c.from_residual.ensures.1
    (stands_stop r k (procedures_part r.source.now (plain_each_procedure xs) m) c.args.state.now.declaring.types.table c.loop-next.state c.procedure.new.state xs c.loop-next.next-index c.next-item.result
    (subst (λ ys. c.loop-next.next-index < length ys) c.deref-next-items.ensures.value c.loop-next-test.true) (c.loop-next.invariant.at k m represents up)
    (subst (λ ys. BuildsUpright r c.loop-next.state c.procedure.new.state (procedure_part r.source.now (plain_procedure (out-ProcedureDecl (get_or ys c.loop-next.next-index c.next-item.result)).procedure)) (Err c.in_err-procedure.field-0.0)) c.deref-next-items.ensures.value
    (subst (λ x. BuildsUpright r c.loop-next.state c.procedure.new.state (procedure_part r.source.now (plain_procedure (out-ProcedureDecl x).procedure)) (Err c.in_err-procedure.field-0.0)) c.next-item.is c.in_err-procedure.ensures.judged)))

pub procedures-returns-clause-judged : goal.procedures-returns-clause-judged
procedures-returns-clause-judged t c = λ k m represents up.
    let r = c.args.round.now in
    let xs = (out-Decls c.args.tree.now).procedures.items in
    let past = c.loop-next-test.false in
    let long = ap (λ ys. length ys) c.deref-next-items.ensures.value in
    stands_last r k (procedures_part r.source.now (plain_each_procedure xs) m) c.args.state.now.declaring.types.table c.loop-next.state xs c.loop-next.next-index (omega (arith, past, long)) (c.loop-next.invariant.at k m represents up)

pub procedures-returns-clause-legal : goal.procedures-returns-clause-legal
procedures-returns-clause-legal t c = λ k m represents up. (c.loop-next.invariant.at k m represents up).legal

-- ---- a procedure

pub procedure-close_procedure-requires-clause-settled : goal.procedure-close_procedure-requires-clause-settled
procedure-close_procedure-requires-clause-settled t c = subst (λ z. IsSettled z c.declarations.new.state.declaring) c.scope_of-scope.ensures.deeper c.in_ok-declarations.ensures.settled

pub procedure-close_procedure-requires-clause-closable : goal.procedure-close_procedure-requires-clause-closable
procedure-close_procedure-requires-clause-closable t c =
    still_closable c.args.round.now c.open_procedure.new.state c.declarations.new.state c.in_ok-opened.opened c.in_ok-opened.ensures.settled.built c.in_ok-declarations.ensures.settled.built c.in_ok-declarations.ensures.later.grows
    c.in_ok-declarations.ensures.more c.in_ok-opened.ensures.closable

pub procedure-returns-in_err-declarations-clause-judged : goal.procedure-returns-in_err-declarations-clause-judged
procedure-returns-in_err-declarations-clause-judged t c = λ k m represents up.
    exit _ c.from_residual-in_err-declarations.ensures.1
    (not_judged c.args.round.now c.args.tree.now c.scope_of-scope.result c.in_ok-opened.opened c.scope_of-scope.ensures.deeper c.args.state.now c.open_procedure.new.state c.in_ok-opened.ensures.judged c.in_err-declarations.ensures.judged k m represents up)

pub procedure-returns-in_err-close_procedure-clause-judged : goal.procedure-returns-in_err-close_procedure-clause-judged
procedure-returns-in_err-close_procedure-clause-judged t c = λ k m represents up.
    exit _ c.from_residual-in_err-close_procedure.ensures.1
    (closes c.args.round.now c.args.tree.now c.scope_of-scope.result c.in_ok-opened.opened c.scope_of-scope.ensures.deeper c.args.state.now c.open_procedure.new.state c.in_ok-opened.ensures.judged c.declarations.new.state c.close_procedure.new.state
    c.in_ok-opened.ensures.closable c.in_ok-opened.ensures.settled.built c.in_ok-declarations.ensures.settled.built c.in_ok-declarations.ensures.later.grows c.in_ok-declarations.ensures.judged c.in_err-close_procedure.ensures.judged k m represents up)

pub procedure-returns-clause-judged : goal.procedure-returns-clause-judged
procedure-returns-clause-judged t c = λ k m represents up.
    closes c.args.round.now c.args.tree.now c.scope_of-scope.result c.in_ok-opened.opened c.scope_of-scope.ensures.deeper c.args.state.now c.open_procedure.new.state c.in_ok-opened.ensures.judged c.declarations.new.state c.close_procedure.new.state
    c.in_ok-opened.ensures.closable c.in_ok-opened.ensures.settled.built c.in_ok-declarations.ensures.settled.built c.in_ok-declarations.ensures.later.grows c.in_ok-declarations.ensures.judged c.in_ok-close_procedure.ensures.judged k m represents up

pub procedure-returns-clause-legal : goal.procedure-returns-clause-legal
procedure-returns-clause-legal t c = λ k m represents up legal.
    subst (λ z. HasLegalTypes z.table) (sym c.in_ok-close_procedure.ensures.types)
    (legal_inside c.args.round.now c.args.tree.now c.scope_of-scope.result c.in_ok-opened.opened c.scope_of-scope.ensures.deeper c.args.state.now c.open_procedure.new.state c.in_ok-opened.ensures.judged c.declarations.new.state c.in_ok-declarations.ensures.legal k m represents up
    (c.in_ok-opened.ensures.legal k m represents up legal))

pub procedure-returns-clause-later : goal.procedure-returns-clause-later
procedure-returns-clause-later t c = subst (λ z. IsLater c.args.state.now.declaring.types.table z.table) (sym c.in_ok-close_procedure.ensures.types) (record {
  grows = grows_on c.args.state.now.declaring.types.table c.open_procedure.new.state.declaring.types.table c.declarations.new.state.declaring.types.table c.in_ok-opened.ensures.later.grows c.in_ok-declarations.ensures.later.grows;
  few = c.in_ok-declarations.ensures.later.few;
})

pub procedure-returns-clause-more : goal.procedure-returns-clause-more
procedure-returns-clause-more t c = let x = c.in_ok-opened.ensures.more in let y = c.in_ok-declarations.ensures.more in let z = c.in_ok-close_procedure.ensures.more in omega (arith, x, y, z)
