use Rattle.std.proofs.Common.{IsTrue}
use Rattle.run_laws.proofs.Agreement.{in_step, agrees, trap_has_source}
use Rattle.run_laws.proofs.laws.keeping_up_is_in_step.Goals as goal

pub returns : goal.returns
returns c = record {
  agrees = λ y all same s meaning keeps. in_step y all (λ a b. IsTrue (same a b)) s meaning keeps;
  both_ways = λ y points same s meaning step. agrees y points (λ a b. IsTrue (same a b)) s meaning step;
  source = λ y points same s meaning step m trap out is. trap_has_source y points (λ a b. IsTrue (same a b)) s meaning step m trap out is;
}
