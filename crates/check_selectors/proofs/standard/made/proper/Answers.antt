use Rattle.std.proofs.Common.{refl, ap, ◌∙◌}
use Rattle.ob_judge.specs.Operands.{Proper}
use Rattle.judged_tree.specs.Plain.{plain_statement}
use Rattle.check_types.specs.names.Worlds.{table_of}
use Rattle.check_operands.specs.Operands.{texts_of}
use Rattle.check_selectors.proofs.standard.made.proper.Goals as goal

pub returns : goal.returns
returns c = λ s d h. record {
  shape = refl;
  what = ap (λ x. Proper (plain_statement (table_of s) (texts_of s) x)) c.in_ok-held.ensures.ok ∙ ap Proper h;
  usage = refl;
}
