use Rattle.check_making.proofs.scopes.Procedures.{set_stands, with_procedures}
use Rattle.check_making.proofs.scopes.building.Building.set_procedure.Goals as goal

pub returns-clause-judged : goal.returns-clause-judged
returns-clause-judged c = λ j stands m h. record {
  by = record { represents = with_procedures c.args.round.now c.args.self.now m h _ _ (set_stands c.args.self.now.declaring.types.table c.args.procedure j stands c.args.f c.args.self.now.procedures.items m.procedures h.procedures) };
}
