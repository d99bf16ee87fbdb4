use Rattle.std.proofs.Common.{refl, ⊎_elim}
use Rattle.table_builder.specs.Sound.{IsSound}
use Rattle.table_builder.proofs.Meaning.{each_meant}
use Rattle.table_builder.proofs.Apart.{each_apart}
use Rattle.table_builder.proofs.Pushing.{records_as, records_restored, sound_as, either}
use Rattle.table_builder.proofs.entries.push_declared.Goals as goal

pub invariant_of-table : goal.invariant_of-table
invariant_of-table c =
    let s : IsSound c.push_record.new.self c.args.table.now.entries.items c.args.table.now.bases.items =
    ⊎_elim (λ e. records_as c.args.table.now.types c.args.table.now.entries.items c.args.table.now.bases.items c.requires.sound _ c.push_record.new.self e) (λ e. sound_as c.args.table.now.types c.args.table.now.entries.items c.args.table.now.bases.items c.requires.sound c.push_record.new.self c.args.table.now.entries.items e refl) (either c.push_record.result c.push_record.ensures.ok c.push_record.ensures.err) in
    record { meant = each_meant _ _ _ s; apart = each_apart _ _ _ s }

pub push_entry-requires-clause-sound : goal.push_entry-requires-clause-sound
push_entry-requires-clause-sound c =
    records_as c.args.table.now.types c.args.table.now.entries.items c.args.table.now.bases.items c.requires.sound _ c.push_record.new.self c.in_ok-push_record.ensures.ok

pub invariant_of-table-in-Err : goal.invariant_of-table-in-Err
invariant_of-table-in-Err c =
    let s = sound_as c.args.table.now.types c.args.table.now.entries.items c.args.table.now.bases.items c.requires.sound c.drop_record.new.types c.push_entry.new.table.entries.items
    (records_restored c.args.table.now.types c.push_record.new.self c.push_entry.new.table.types c.drop_record.new.types c.args.declared c.in_ok-push_record.ensures.ok c.in-Err.ensures.same_types c.drop_record.ensures)
    c.in-Err.ensures.same_entries in
    record { meant = each_meant _ _ _ s; apart = each_apart _ _ _ s }
