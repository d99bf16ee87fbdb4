use Rattle.std.proofs.Common.{ap, ◌∙◌, ◌++◌, ◌∷◌, []}
use Rattle.table_builder.proofs.Meaning.{each_meant}
use Rattle.table_builder.proofs.Apart.{each_apart}
use Rattle.table_builder.proofs.Pushing.{pushed_as}
use Rattle.table_builder.proofs.entries.push_entry.Goals as goal

pub invariant_of-table-in-Ok : goal.invariant_of-table-in-Ok
invariant_of-table-in-Ok c =
    let t = c.args.table.now.types in
    let es = c.args.table.now.entries.items in
    let bs = c.args.table.now.bases.items in
    let s = pushed_as t es bs c.requires.sound c.args.of c.requires.next c.push_kind.new.self c.push.new.self.items
    (c.in-Ok.ensures.ok ∙ ap (λ k. record t { kinds = t.kinds ++ k ∷ [] }) c.kind_of-kind.ensures) c.in_ok-push.ensures.items in
    record { meant = each_meant _ _ bs s; apart = each_apart _ _ bs s }

pub returns-in-Ok-clause-sound : goal.returns-in-Ok-clause-sound
returns-in-Ok-clause-sound c =
    let t = c.args.table.now.types in
    let es = c.args.table.now.entries.items in
    let bs = c.args.table.now.bases.items in
    pushed_as t es bs c.requires.sound c.args.of c.requires.next c.push_kind.new.self c.push.new.self.items
    (c.in-Ok.ensures.ok ∙ ap (λ k. record t { kinds = t.kinds ++ k ∷ [] }) c.kind_of-kind.ensures) c.in_ok-push.ensures.items
