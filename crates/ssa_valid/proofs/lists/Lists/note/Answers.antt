use Rattle.std.proofs.Common.{◌∷◌, ◌++◌, [], ◌∙◌, ap, arith}
use Rattle.ssa_valid.specs.Tables.{noted}
use Rattle.ssa_valid.proofs.Tables.{noted_one}
use Rattle.ssa_valid.proofs.lists.Lists.note.Goals as goal

pub returns-in_ok-push : goal.returns-in_ok-push
returns-in_ok-push c =
    noted_one c.self.inside.lists.items (λ r. r.items) c.args.number c.args.block c.push.new.self c.index_mut.result.now (omega arith) (c.in_ok-push.ensures.items ∙ ap (λ r. r.items ++ c.args.block ∷ []) c.index_mut.ensures.value)
    ∙ ap (noted c.args.block (c.args.number ∷ [])) c.self.view_is
