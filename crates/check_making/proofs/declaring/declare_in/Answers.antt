use Rattle.std.proofs.Common.{refl, ap, ◌∙◌}
use Rattle.ob_judge.specs.Scopes.{declare}
use Rattle.check_types.specs.names.Meaning.{entry_of, names_of}
use Rattle.check_making.proofs.Known.{at_place}
use Rattle.check_making.proofs.declaring.declare_in.Goals as goal

pub returns : goal.returns
returns c = record {
  level = c.declare.new.self;
  set = refl;
  names = λ l is t strings.
      c.in_ok-declare.ensures t strings
      ∙ ap (λ z. declare c.args.name.now (entry_of t strings c.args.declared) (names_of t strings z)) (at_place c.args.levels.now.items c.args.at l c.index_mut.result.now is c.index_mut.ensures.value);
}
