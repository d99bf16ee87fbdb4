use Rattle.std.proofs.Common.{ap, sym, ◌∙◌, length, ◌++◌, ◌∷◌, [], None}
use Rattle.ob_judge.specs.Shapes.{Known}
use Rattle.ob_judge.specs.Scopes.{World}
use Rattle.check_making.proofs.Growing.{settled_grown, makes_grown}
use Rattle.check_types.specs.Known.{known_of}
use Rattle.check_types.specs.declared.types.TypeRef.TheVariants as TheType
use Rattle.table_builder.specs.Growing.{behind}
use Rattle.legal_tables.proofs.Keeping.{kept}
use Rattle.check_making.proofs.Legal.{known_stay}
use Rattle.check_making.proofs.making.Declaring.new_pointer.Goals as goal

pub returns-in-Ok-clause-judged : goal.returns-in-Ok-clause-judged
returns-in-Ok-clause-judged c = λ m makes.
    let s = c.args.self.now in
    let h = c.in-Ok.ensures in
    record {
      by = record {
        value = record { number = h.number ∙ sym (ap (λ (w : World). length w.known.bases) makes.world); element = h.element };
        makes = makes_grown c.args.round.now s c.requires c.new_pointer.new.self h.built h.grows m makes (λ (k : Known). record k { bases = k.bases ++ None ∷ [] }) h.known;
      };
    }

pub returns-in-Ok-clause-settled : goal.returns-in-Ok-clause-settled
returns-in-Ok-clause-settled c =
    let s = c.args.self.now in
    let h = c.in-Ok.ensures in
    settled_grown c.args.round.now s c.requires c.new_pointer.new.self h.built h.grows

pub returns-in-Ok-clause-legal : goal.returns-in-Ok-clause-legal
returns-in-Ok-clause-legal c = λ legal.
    let s = c.args.self.now in
    let new = c.new_pointer.new.self in
    let h = c.in-Ok.ensures in
    kept s.types new c.requires.built h.built h.grows (known_stay (known_of s.types.table) (known_of new.table) (ap (λ (k : Known). k.records) h.known)) (TheType.Pointer c.in-Ok.p) (behind h.entries) tt h.signatures legal
