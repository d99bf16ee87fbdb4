use Rattle.placed_code.proofs.Agreed.{agreed}
use Rattle.placed_code.proofs.laws.images_agree.Goals as goal

pub returns : goal.returns
returns c = record {
  agrees = λ k frame steps rs extra input few sequence sound image small. agreed k frame steps rs extra input few sequence sound image small;
}
