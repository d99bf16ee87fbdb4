use Rattle.std.proofs.Common.{map, ap, sym, ◌∙◌}
use Rattle.ob_judge.specs.Scopes.{or_else, look_up}
use Rattle.check_types.specs.names.Before.{names_before}
use Rattle.check_types.specs.names.Meaning.{names_of}
use Rattle.check_types.proofs.names.Outward.{look_up-append}
use Rattle.check_types.proofs.names.names.seen_inside.Goals as goal

pub returns-in-Some : goal.returns-in-Some
returns-in-Some c = λ t strings. sym (
    let q = c.args.name.now in let round = map (λ l. names_before c.args.closed.procedures (names_of t strings l)) c.args.levels.now in
    look_up-append q round (names_of t strings c.args.closed.names.now)
    ∙ ap (λ o. or_else o (look_up q round)) (sym (c.in-Some.ensures t strings)))

pub returns-in-None : goal.returns-in-None
returns-in-None c = λ t strings.
    let q = c.args.name.now in let round = map (λ l. names_before c.args.closed.procedures (names_of t strings l)) c.args.levels.now in
    c.seen_before.ensures t strings
    ∙ sym (look_up-append q round (names_of t strings c.args.closed.names.now)
    ∙ ap (λ o. or_else o (look_up q round)) (sym (c.in-None.ensures t strings)))
