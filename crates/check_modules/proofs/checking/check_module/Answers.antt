use Rattle.std.proofs.Common.{◌<◌, Ok, Err, length, refl, sym, ap, subst, ◌∙◌}
use Rattle.std.proofs.lemmas.Option.{slice_get_within}
use Rattle.ob_syntax.specs.Plain.{plain_module}
use Rattle.ob_judge.specs.Modules.{with_module}
use Rattle.legal_tables.specs.Promised.{HasLegalTypes}
use Rattle.table_builder.specs.Growing.{Grows}
use Rattle.check_types.specs.steps.Answers.{Answers}
use Rattle.check_types.proofs.steps.Answering.{exit}
use Rattle.check_making.specs.declared.making.Surroundings.{Surroundings}
use Rattle.check_modules.specs.programs.Modules.{HasSettledModules, StandsForModules, modules_behind}
use Rattle.check_modules.proofs.Checked.{lines_here, name_judged, not_new, first_under_way, offers_told, settled_behind, checked, not_ended, not_declared}
use Rattle.check_modules.proofs.Walked.{ends_without}
use Rattle.check_modules.proofs.checking.check_module.Goals as goal
use Rattle.check_making.proofs.parameters.Answering.{no_memory}

pub returns-in_err-new_name-clause-judged : goal.returns-in_err-new_name-clause-judged
returns-in_err-new_name-clause-judged c = λ k h up.
    let x = plain_module c.args.tree in
    exit _ c.from_residual.ensures.1
    (not_new c.args.source.now x k (name_judged c.args.texts.now c.args.state c.args.source.now x c.as_slice.result.now c.as_slice.ensures.value c.in_err-new_name.ensures k h))

pub bounds-texts-module_number : goal.bounds-texts-module_number
bounds-texts-module_number c =
    subst (λ n. n < length c.args.texts.now) (sym (c.in_ok-module_number.ensures.number ∙ ap (λ ks. length ks) c.as_slice-2.ensures.value))
    (slice_get_within c.args.texts.now (length c.args.state.known.items) c.args.source.now.bytes c.requires.own_text)

pub declared-requires-clause-under_way : goal.declared-requires-clause-under_way
declared-requires-clause-under_way c =
    let r : Surroundings = record { alloc = c.args.alloc; source = c.args.source; texts = c.args.texts; modules = c.as_slice-4.result; module_number = c.in_ok-module_number.module_number; depth = 0 } in
    let number = c.in_ok-module_number.ensures.number ∙ ap (λ ks. length ks) c.as_slice-2.ensures.value in
    first_under_way c.args.texts.now c.args.state r c.as_slice-4.ensures.value number c.in_ok-declaring.declaring c.in_ok-declaring.ensures.types c.in_ok-declaring.ensures.judged c.in_ok-declaring.ensures.settled c.requires.so_far

pub declared-requires-clause-lines : goal.declared-requires-clause-lines
declared-requires-clause-lines c =
    lines_here c.args.texts.now c.in_ok-module_number.module_number (length c.args.state.known.items) c.args.source.now.bytes c.index-texts-module_number.result c.as_slice-3.result.now c.in_ok-lines.lines.items c.as_slice-5.result.now
    c.requires.own_text (c.in_ok-module_number.ensures.number ∙ ap (λ ks. length ks) c.as_slice-2.ensures.value) c.index-texts-module_number.is c.as_slice-3.ensures c.in_ok-lines.ensures.lines c.as_slice-5.ensures.value

pub returns-in_err-declared-clause-judged : goal.returns-in_err-declared-clause-judged
returns-in_err-declared-clause-judged c = λ k h up.
    let r : Surroundings = record { alloc = c.args.alloc; source = c.args.source; texts = c.args.texts; modules = c.as_slice-4.result; module_number = c.in_ok-module_number.module_number; depth = 0 } in
    let number = c.in_ok-module_number.ensures.number ∙ ap (λ ks. length ks) c.as_slice-2.ensures.value in
    let x = plain_module c.args.tree in
    exit _ c.from_residual-in_err-declared.ensures.1
    (not_declared c.args.texts.now c.args.state r c.as_slice-4.ensures.value number c.in_ok-declaring.declaring c.in_ok-declaring.ensures.types c.in_ok-declaring.ensures.judged x c.in_err-declared.ensures.judged k h up
    (name_judged c.args.texts.now c.args.state c.args.source.now x c.as_slice.result.now c.as_slice.ensures.value c.in_ok-new_name.ensures k h))

pub end_module-requires-clause-lines : goal.end_module-requires-clause-lines
end_module-requires-clause-lines c =
    lines_here c.args.texts.now c.in_ok-module_number.module_number (length c.args.state.known.items) c.args.source.now.bytes c.index-texts-module_number.result c.as_slice-3.result.now c.in_ok-lines.lines.items c.as_slice-6.result.now
    c.requires.own_text (c.in_ok-module_number.ensures.number ∙ ap (λ ks. length ks) c.as_slice-2.ensures.value) c.index-texts-module_number.is c.as_slice-3.ensures c.in_ok-lines.ensures.lines c.as_slice-6.ensures.value

pub end_module-requires-clause-told : goal.end_module-requires-clause-told
end_module-requires-clause-told c =
    let r : Surroundings = record { alloc = c.args.alloc; source = c.args.source; texts = c.args.texts; modules = c.as_slice-4.result; module_number = c.in_ok-module_number.module_number; depth = 0 } in
    let number = c.in_ok-module_number.ensures.number ∙ ap (λ ks. length ks) c.as_slice-2.ensures.value in
    let x = plain_module c.args.tree in
    offers_told c.args.texts.now c.args.state r c.as_slice-4.ensures.value number c.in_ok-declaring.declaring c.in_ok-declaring.ensures.types c.in_ok-declaring.ensures.judged
    x c.declared.new.state c.in_ok-declared.ensures.judged c.requires.read c.requires.so_far c.in_ok-declared.ensures.settled

pub returns-in_err-ended-clause-judged : goal.returns-in_err-ended-clause-judged
returns-in_err-ended-clause-judged c = λ k h up.
    let r : Surroundings = record { alloc = c.args.alloc; source = c.args.source; texts = c.args.texts; modules = c.as_slice-4.result; module_number = c.in_ok-module_number.module_number; depth = 0 } in
    let number = c.in_ok-module_number.ensures.number ∙ ap (λ ks. length ks) c.as_slice-2.ensures.value in
    let x = plain_module c.args.tree in
    exit _ c.from_residual-in_err-ended.ensures.1
    (not_ended c.args.texts.now c.args.state r c.as_slice-4.ensures.value number c.in_ok-declaring.declaring c.in_ok-declaring.ensures.types c.in_ok-declaring.ensures.judged
    x c.declared.new.state c.in_ok-declared.ensures.judged
    (ends_without r c.declared.new.state c.end_module.new.state c.args.tree c.declared.new.tree (Err c.in_err-ended.field-0.0) c.in_ok-declared.ensures.rest c.in_err-ended.ensures.judged) k h up
    (name_judged c.args.texts.now c.args.state c.args.source.now x c.as_slice.result.now c.as_slice.ensures.value c.in_ok-new_name.ensures k h))

pub returns-in_err-push-clause-judged : goal.returns-in_err-push-clause-judged
returns-in_err-push-clause-judged c = λ k h up. exit _ c.from_residual-in_err-push.ensures.1 (no_memory _ refl)

pub returns-in_err-push-2-clause-judged : goal.returns-in_err-push-2-clause-judged
returns-in_err-push-2-clause-judged c = λ k h up. exit _ c.from_residual-in_err-push-2.ensures.1 (no_memory _ refl)

pub returns-clause-settled : goal.returns-clause-settled
returns-clause-settled c =
    let r : Surroundings = record { alloc = c.args.alloc; source = c.args.source; texts = c.args.texts; modules = c.as_slice-4.result; module_number = c.in_ok-module_number.module_number; depth = 0 } in
    let number = c.in_ok-module_number.ensures.number ∙ ap (λ ks. length ks) c.as_slice-2.ensures.value in
    let x = plain_module c.args.tree in
    subst (HasSettledModules c.args.texts.now) (sym c.behind.ensures)
    (subst (λ ms. HasSettledModules c.args.texts.now (modules_behind c.end_module.new.state c.push-2.new.self ms)) (sym c.in_ok-push.ensures.ok)
    (settled_behind c.args.texts.now c.args.state r c.as_slice-4.ensures.value number c.in_ok-declaring.declaring c.in_ok-declaring.ensures.types c.in_ok-declaring.ensures.judged
    x c.declared.new.state c.in_ok-declared.ensures.judged c.end_module.new.state c.in_ok-ended.ended c.in_ok-ended.ensures.types c.in_ok-ended.ensures.strings c.in_ok-ended.ensures.places
    c.in_ok-ended.ensures.seen c.in_ok-declared.ensures.settled c.push-2.new.self c.in_ok-push-2.ensures.items refl
    (c.in_ok-declared.ensures.legal (subst (λ z. HasLegalTypes z.table) (sym c.in_ok-declaring.ensures.types) c.requires.settled.legal))))

pub returns-clause-judged : goal.returns-clause-judged
returns-clause-judged c = λ k h up.
    let r : Surroundings = record { alloc = c.args.alloc; source = c.args.source; texts = c.args.texts; modules = c.as_slice-4.result; module_number = c.in_ok-module_number.module_number; depth = 0 } in
    let number = c.in_ok-module_number.ensures.number ∙ ap (λ ks. length ks) c.as_slice-2.ensures.value in
    let x = plain_module c.args.tree in
    subst (λ z. Answers (StandsForModules c.args.texts.now) (with_module c.args.source.now x k) (Ok z)) (sym c.behind.ensures)
    (subst (λ ms. Answers (StandsForModules c.args.texts.now) (with_module c.args.source.now x k) (Ok (modules_behind c.end_module.new.state c.push-2.new.self ms))) (sym c.in_ok-push.ensures.ok)
    (checked c.args.texts.now c.args.state r c.as_slice-4.ensures.value number c.in_ok-declaring.declaring c.in_ok-declaring.ensures.types c.in_ok-declaring.ensures.judged
    x c.declared.new.state c.in_ok-declared.ensures.judged c.end_module.new.state c.in_ok-ended.ended c.in_ok-ended.ensures.types c.in_ok-ended.ensures.strings c.in_ok-ended.ensures.places
    c.in_ok-ended.ensures.seen c.in_ok-declared.ensures.settled c.push-2.new.self c.in_ok-push-2.ensures.items refl
    (subst (λ z. Grows z.table c.declared.new.state.declaring.types.table) c.in_ok-declaring.ensures.types c.in_ok-declared.ensures.grows)
    (ends_without r c.declared.new.state c.end_module.new.state c.args.tree c.declared.new.tree (Ok c.in_ok-ended.ended) c.in_ok-declared.ensures.rest c.in_ok-ended.ensures.judged) k h up
    (name_judged c.args.texts.now c.args.state c.args.source.now x c.as_slice.result.now c.as_slice.ensures.value c.in_ok-new_name.ensures k h)))
