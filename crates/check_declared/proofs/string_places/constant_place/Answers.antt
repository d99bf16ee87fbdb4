use Rattle.std.proofs.Common.{◌∙◌}
use Rattle.check_declared.proofs.StringPlaces.{characters_there, none_there}
use Rattle.check_declared.proofs.string_places.constant_place.Goals as goal

pub returns-in-Some : goal.returns-in-Some
returns-in-Some c = λ texts strings are.
    let h = c.in-Some.ensures.lookup in
    characters_there texts strings c.args.places.now c.args.k c.in-Some.place.now (h.3).0 h.1 are

pub returns-in-None : goal.returns-in-None
returns-in-None c = λ texts strings are.
    let h = c.in-None.ensures.lookup in
    c.empty_place.ensures texts ∙ none_there texts strings c.args.places.now c.args.k h.3 are
