use Rattle.std.proofs.Common.{refl}
use Rattle.table_builder.proofs.Meaning.{each_meant}
use Rattle.table_builder.proofs.Apart.{each_apart}
use Rattle.table_builder.proofs.Pushing.{targeted}
use Rattle.table_builder.proofs.entries.set_target.Goals as goal

pub invariant_of-table : goal.invariant_of-table
invariant_of-table c =
    let s = targeted c.args.table.now.types c.args.table.now.entries.items c.args.table.now.bases.items c.requires.sound c.args.n c.args.p c.args.r c.requires.entry c.requires.there c.set_kind.new.self _ c.set_kind.ensures refl in
    record { meant = each_meant _ _ _ s; apart = each_apart _ _ _ s }

pub returns-clause-sound : goal.returns-clause-sound
returns-clause-sound c =
    targeted c.args.table.now.types c.args.table.now.entries.items c.args.table.now.bases.items c.requires.sound c.args.n c.args.p c.args.r c.requires.entry c.requires.there c.set_kind.new.self _ c.set_kind.ensures refl
