use Rattle.std.proofs.Common.{◌+◌, ◌≤◌, ◌^◌, map, sym, subst, ◌∙◌, arith}
use Rattle.link_words.specs.Fields.{entry_in}
use Rattle.link_layout.proofs.Placing.{err_so}
use Rattle.procedure_code.specs.Views.{piece_in}
use Rattle.procedure_code.proofs.Rows.{errs_with}
use Rattle.procedure_code.proofs.Images.{linked_size, many, over_bodies, routines_near, entries_are, begin_reach, next, all_joined}
use Rattle.procedure_code.proofs.whole.code_of.Goals as goal

pub returns-then-pieces-gt-MOST-clause-limit : goal.returns-then-pieces-gt-MOST-clause-limit
returns-then-pieces-gt-MOST-clause-limit c limit = many c.args.pieces.now c.if-pieces-gt-MOST.true

pub returns-in_err-bodies-clause-limit : goal.returns-in_err-bodies-clause-limit
returns-in_err-bodies-clause-limit c = err_so _ c.from_residual.result c.from_residual.ensures.0 (λ fault limit. over_bodies (map piece_in c.args.pieces.now) c.in_err-bodies.ensures.limit)

pub returns-in_err-found-clause-limit : goal.returns-in_err-found-clause-limit
returns-in_err-found-clause-limit c =
    let s = linked_size (map piece_in c.args.pieces.now) in
    let b = c.in_ok-bodies.ensures.count in
    errs_with _ _ c.from_residual-in_err-found.result c.from_residual-in_err-found.ensures.1 (λ fault same limit. let g = c.in_err-found.ensures.limit (sym same ∙ limit) in omega (arith, g, s, b))

pub push_start-requires-clause-procedures : goal.push_start-requires-clause-procedures
push_start-requires-clause-procedures c p =
    subst (λ es. entry_in es p ≤ 2 ^ 18) (sym (c.as_slice.ensures.value ∙ c.in_ok-found.ensures.entries)) (begin_reach 0 (c.in_ok-bodies.bodies + 39) (map piece_in c.args.pieces.now) c.in_ok-found.ensures.fits p)

pub push_start-requires-clause-routines : goal.push_start-requires-clause-routines
push_start-requires-clause-routines c = routines_near c.args.pieces.now c.in_ok-bodies.bodies c.in_ok-bodies.ensures.count c.in_ok-found.ensures.fits

pub push_pieces-requires-clause-procedures : goal.push_pieces-requires-clause-procedures
push_pieces-requires-clause-procedures c p =
    subst (λ es. entry_in es p ≤ 2 ^ 18) (sym (c.as_slice.ensures.value ∙ c.in_ok-found.ensures.entries)) (begin_reach 0 (c.in_ok-bodies.bodies + 39) (map piece_in c.args.pieces.now) c.in_ok-found.ensures.fits p)

pub push_pieces-requires-clause-routines : goal.push_pieces-requires-clause-routines
push_pieces-requires-clause-routines c = routines_near c.args.pieces.now c.in_ok-bodies.bodies c.in_ok-bodies.ensures.count c.in_ok-found.ensures.fits

pub push_pieces-requires-clause-near : goal.push_pieces-requires-clause-near
push_pieces-requires-clause-near c =
    let qs = map piece_in c.args.pieces.now in
    let b = c.in_ok-bodies.ensures.count in
    let are = entries_are qs c.in_ok-bodies.bodies c.as_slice.result.now b (c.as_slice.ensures.value ∙ c.in_ok-found.ensures.entries) in
    let n = next qs c.as_slice.result.now (c.in_ok-bodies.bodies + 1) are (omega (arith, b)) c.in_ok-words.words.items c.push_start.new.words.items c.push_routines.new.words.items c.in_ok-words.ensures c.in_ok-push_start.ensures c.in_ok-push_routines.ensures in
    omega (arith, n, b, c.in_ok-found.ensures.fits)

pub returns-clause-code : goal.returns-clause-code
returns-clause-code c =
    let qs = map piece_in c.args.pieces.now in
    let b = c.in_ok-bodies.ensures.count in
    let are = entries_are qs c.in_ok-bodies.bodies c.as_slice.result.now b (c.as_slice.ensures.value ∙ c.in_ok-found.ensures.entries) in
    all_joined qs c.as_slice.result.now (c.in_ok-bodies.bodies + 1) are (omega (arith, b)) c.in_ok-words.words.items c.push_start.new.words.items c.push_routines.new.words.items c.in_ok-words.ensures c.in_ok-push_start.ensures c.in_ok-push_routines.ensures
    c.push_pieces.new.words.items c.in_ok-push_pieces.ensures

pub returns-clause-entries : goal.returns-clause-entries
returns-clause-entries c = entries_are (map piece_in c.args.pieces.now) c.in_ok-bodies.bodies c.in_ok-found.found.items c.in_ok-bodies.ensures.count c.in_ok-found.ensures.entries

pub returns-clause-fits : goal.returns-clause-fits
returns-clause-fits c =
    let s = linked_size (map piece_in c.args.pieces.now) in
    let b = c.in_ok-bodies.ensures.count in
    omega (arith, s, b, c.in_ok-found.ensures.fits)
