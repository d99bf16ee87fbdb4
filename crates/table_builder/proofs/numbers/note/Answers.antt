use Rattle.std.proofs.Common.{ap, ◌∙◌, cond, Some}
use Rattle.std.specs.Str.{bytes_eq}
use Rattle.check_types.specs.steps.Maps.{at_bytes}
use Rattle.check_types.proofs.steps.Maps.{at_bytes_after}
use Rattle.table_builder.proofs.numbers.note.Goals as goal

pub returns-clause-ok : goal.returns-clause-ok
returns-clause-ok c = λ q.
    at_bytes_after c.in_ok-key.key.items c.args.map.now c.insert.new.self _ c.in_ok-insert.ensures.updates q
    ∙ ap (λ parts. cond (bytes_eq parts q) (Some c.args.n) (at_bytes c.args.map.now q)) c.in_ok-key.ensures.items
