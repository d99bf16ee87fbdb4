use Rattle.table_builder.proofs.Meaning.{each_meant}
use Rattle.table_builder.proofs.Apart.{each_apart}
use Rattle.table_builder.proofs.Pushing.{records_as}
use Rattle.table_builder.proofs.entries.set_layout.Goals as goal

pub invariant_of-table : goal.invariant_of-table
invariant_of-table c =
    let s = records_as c.args.table.now.types c.args.table.now.entries.items c.args.table.now.bases.items c.requires.sound _ c.set_record.new.self c.set_record.ensures in
    record { meant = each_meant _ _ _ s; apart = each_apart _ _ _ s }

pub returns-clause-sound : goal.returns-clause-sound
returns-clause-sound c =
    records_as c.args.table.now.types c.args.table.now.entries.items c.args.table.now.bases.items c.requires.sound _ c.set_record.new.self c.set_record.ensures
