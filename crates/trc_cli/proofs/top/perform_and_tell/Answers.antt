use Rattle.std.proofs.Common.{ℕ, List, map, Some, ap, ◌∙◌, subst}
use Rattle.std.specs.Borrow.{Bor}
use Rattle.word_requests.specs.Requests.{plain}
use Rattle.trc_answers.specs.Causes.{TookLine, line_of}
use Rattle.trc_cli.specs.Commands.{first_module}
use Rattle.trc_cli.proofs.Endings.{did_as, did_nothing, told_of_memory}
use Rattle.trc_cli.proofs.top.perform_and_tell.Goals as goal

pub returns-in_default-clause-did : goal.returns-in_default-clause-did
returns-in_default-clause-did g c =
    did_nothing (Some (plain c.args.request.now)) _ _ _ _ _ _ _ c.finish.result c.of.result.cause c.finish.ensures.cause c.of.ensures c.finish.ensures.status
    (told_of_memory _ _ _ _ c.of.result.place c.of.result.cause c.of.ensures c.finish.ensures.told)

pub returns-clause-did : goal.returns-clause-did
returns-clause-did g c =
    let told = subst (λ (names : List (List ℕ)). TookLine (g.E.Sink.account c.args.err.now) (g.E.Sink.account c.finish-2.new.err) (line_of names (first_module (Some (plain c.args.request.now))) c.perform-ending.result.place c.perform-ending.result.cause))
    (ap (λ (names : List (Bor (List ℕ))). map (λ name. name.now) names) c.as_slice.ensures.value ∙ c.in-Ok.ensures)
    (subst (λ n. TookLine (g.E.Sink.account c.args.err.now) (g.E.Sink.account c.finish-2.new.err) (line_of (map (λ name. name.now) c.as_slice.result.now) n c.perform-ending.result.place c.perform-ending.result.cause)) c.first_module.ensures c.finish-2.ensures.told) in
    did_as (Some (plain c.args.request.now)) _ _ _ _ c.finish-2.result c.perform-ending.result.cause c.finish-2.ensures.cause c.finish-2.ensures.status c.perform-ending.ensures.answers
    c.perform-ending.ensures.unread c.perform-ending.ensures.untouched (record { place = c.perform-ending.result.place; placed = c.perform-ending.ensures.placed; told = told })
