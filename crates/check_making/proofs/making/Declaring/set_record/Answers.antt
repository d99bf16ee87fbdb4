use Rattle.ob_judge.specs.Shapes.{Known}
use Rattle.std.specs.Prelude.{slice_set}
use Rattle.check_types.specs.Known.{layout_of}
use Rattle.check_making.proofs.Growing.{settled_grown, makes_grown}
use Rattle.check_types.specs.Known.{known_of}
use Rattle.check_types.specs.declared.types.TypeRef.TheVariants as TheType
use Rattle.table_builder.specs.Growing.{as_before}
use Rattle.legal_tables.proofs.Keeping.{kept}
use Rattle.check_making.proofs.Legal.{completed_stay}
use Rattle.check_making.proofs.making.Declaring.set_record.Goals as goal

pub returns-in-Ok-clause-judged : goal.returns-in-Ok-clause-judged
returns-in-Ok-clause-judged c = λ m makes.
    let s = c.args.self.now in
    let h = c.in-Ok.ensures in
    record {
      by = record {
        makes = makes_grown c.args.round.now s c.requires.settled c.set_record.new.self h.built h.grows m makes (λ (k : Known). record k { records = slice_set k.records c.args.r (layout_of s.types.table.types c.args.layout) }) h.known;
      };
    }

pub returns-in-Ok-clause-settled : goal.returns-in-Ok-clause-settled
returns-in-Ok-clause-settled c =
    let s = c.args.self.now in
    let h = c.in-Ok.ensures in
    settled_grown c.args.round.now s c.requires.settled c.set_record.new.self h.built h.grows

pub returns-in-Ok-clause-legal : goal.returns-in-Ok-clause-legal
returns-in-Ok-clause-legal c = λ none legal.
    let s = c.args.self.now in
    let new = c.set_record.new.self in
    let h = c.in-Ok.ensures in
    let stay = completed_stay (known_of s.types.table) (known_of new.table) c.args.r (layout_of s.types.table.types c.args.layout) h.known none in
    kept s.types new c.requires.settled.built h.built h.grows stay TheType.Int (as_before h.entries) tt h.signatures legal
