use Rattle.std.proofs.Common.{◌∷◌, ◌++◌, [], ◌∙◌, map, refl, sym, ap}
use Rattle.std.proofs.lemmas.List.{map-append}
use Rattle.check_making.specs.Making.{forward_of}
use Rattle.check_making.proofs.parameters.Updates.{settled_changed, makes_changed}
use Rattle.check_making.proofs.new_types.pointers.wait_for.Goals as goal

pub returns-clause-settled : goal.returns-clause-settled
returns-clause-settled c =
    let s = c.args.state.now in
    settled_changed c.args.round.now s s.standing c.push.new.self s.is_type_part s.values c.requires.settled

pub returns-clause-judged : goal.returns-clause-judged
returns-clause-judged c = λ m makes.
    let s = c.args.state.now in
    record {
      by = record {
        value = record { shape_is = refl; element = c.requires.element };
        makes = makes_changed c.args.round.now s s.standing c.push.new.self s.is_type_part s.values m makes m.standing (m.forward ++ (c.args.pointer, c.args.name) ∷ []) m.is_type_part m.values makes.standing
            (ap (λ fs. fs ++ (c.args.pointer, c.args.name) ∷ []) makes.forward ∙ sym (ap (map forward_of) c.in_ok-push.ensures.items ∙ map-append forward_of s.forward.items (record { pointer = c.args.pointer; name = c.args.name } ∷ [])))
            makes.is_type_part makes.values;
      };
    }
