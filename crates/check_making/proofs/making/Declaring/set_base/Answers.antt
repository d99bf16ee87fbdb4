use Rattle.std.proofs.Common.{ap, Some}
use Rattle.ob_judge.specs.Shapes.{Known}
use Rattle.std.specs.Prelude.{slice_set}
use Rattle.check_making.proofs.Growing.{settled_grown, makes_grown}
use Rattle.check_types.specs.Known.{known_of}
use Rattle.check_types.specs.declared.types.TypeRef.TheVariants as TheType
use Rattle.table_builder.specs.Growing.{as_before}
use Rattle.legal_tables.proofs.Keeping.{kept}
use Rattle.check_making.proofs.Legal.{known_stay}
use Rattle.check_making.proofs.making.Declaring.set_base.Goals as goal

pub returns-clause-judged : goal.returns-clause-judged
returns-clause-judged c = λ m makes.
    let s = c.args.self.now in
    let h = c.set_base.ensures in
    record {
      by = record {
        makes = makes_grown c.args.round.now s c.requires.settled c.set_base.new.self h.built h.grows m makes (λ (k : Known). record k { bases = slice_set k.bases c.args.pointer (Some c.args.r) }) h.known;
      };
    }

pub returns-clause-settled : goal.returns-clause-settled
returns-clause-settled c =
    let s = c.args.self.now in
    let h = c.set_base.ensures in
    settled_grown c.args.round.now s c.requires.settled c.set_base.new.self h.built h.grows

pub returns-clause-legal : goal.returns-clause-legal
returns-clause-legal c = λ legal.
    let s = c.args.self.now in
    let new = c.set_base.new.self in
    let h = c.set_base.ensures in
    kept s.types new c.requires.settled.built h.built h.grows (known_stay (known_of s.types.table) (known_of new.table) (ap (λ (k : Known). k.records) h.known)) TheType.Int (as_before h.entries) tt h.signatures legal
