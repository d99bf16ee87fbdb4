use Rattle.std.proofs.Common.{length, ◌++◌, ◌∷◌, [], refl, sym, ap, ◌∙◌, subst}
use Rattle.check_types.specs.declared.types.TypeRef.TheVariants as TheType
use Rattle.ob_judge.specs.Making.{no_procedure}
use Rattle.check_making.specs.scopes.Blank.{blank_procedure}
use Rattle.check_making.specs.scopes.Building.{TheyStandFor}
use Rattle.check_making.proofs.scopes.Procedures.{blank_stands, one_more_stands, as_many, with_procedures}
use Rattle.check_making.proofs.scopes.building.Building.new_procedure.Goals as goal

pub number-nothing-requires-clause-numbered : goal.number-nothing-requires-clause-numbered
number-nothing-requires-clause-numbered c = (5, c.requires.built.index.says TheType.Nothing 5 refl)

pub returns-clause-judged : goal.returns-clause-judged
returns-clause-judged c = λ m h.
    let t = c.args.self.now.declaring.types.table in
    let qs = c.args.self.now.procedures.items in
    record {
      by = record {
        value = c.in_ok-f.ensures.number ∙ ap length c.deref.ensures.value ∙ as_many t qs m.procedures h.procedures;
        represents = with_procedures c.args.round.now c.args.self.now m h c.push.new.self (m.procedures ++ no_procedure ∷ [])
            (subst (λ ps. TheyStandFor t ps (m.procedures ++ no_procedure ∷ [])) (sym (c.in_ok-push.ensures.items ∙ ap (λ q. qs ++ q ∷ []) c.blank.ensures))
            (one_more_stands t (blank_procedure c.number-nothing.result) no_procedure (blank_stands t c.number-nothing.result c.number-nothing.ensures.entry) qs m.procedures h.procedures));
      };
    }
