use Rattle.check_making.proofs.Growing.{settled_grown, makes_still}
use Rattle.std.proofs.Common.{sym, ap, subst}
use Rattle.ob_judge.specs.Shapes.{Known}
use Rattle.check_types.specs.Known.{known_of}
use Rattle.check_types.specs.TypeMeaning.{type_shape}
use Rattle.legal_tables.specs.Promised.{IsLegalArray, IsLegalShape}
use Rattle.legal_tables.proofs.Keeping.{kept}
use Rattle.check_making.proofs.Legal.{known_stay}
use Rattle.check_making.proofs.making.Declaring.array.Goals as goal

pub returns-in-Ok-clause-makes : goal.returns-in-Ok-clause-makes
returns-in-Ok-clause-makes c = λ m makes.
    let h = c.in-Ok.ensures in
    makes_still c.args.round.now c.args.self.now c.requires.settled c.array.new.self h.built h.grows m makes h.known

pub returns-in-Ok-clause-settled : goal.returns-in-Ok-clause-settled
returns-in-Ok-clause-settled c =
    let h = c.in-Ok.ensures in
    settled_grown c.args.round.now c.args.self.now c.requires.settled c.array.new.self h.built h.grows

pub returns-in-Ok-clause-legal : goal.returns-in-Ok-clause-legal
returns-in-Ok-clause-legal c = λ array legal.
    let s = c.args.self.now in
    let new = c.array.new.self in
    let h = c.in-Ok.ensures in
    kept s.types new c.requires.settled.built h.built h.grows (known_stay (known_of s.types.table) (known_of new.table) (ap (λ (k : Known). k.records) h.known)) c.in-Ok.k h.entries
    (subst (IsLegalShape (known_of new.table)) (sym h.shape) (subst (λ k. IsLegalArray k c.args.length (type_shape s.types.table.types c.args.element)) (sym h.known) array)) h.signatures legal
