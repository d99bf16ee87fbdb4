-- Uses of strings that are numbered in order, as lowering meets them.
use Rattle.std.specs.Prelude.{◌≡◌, [], map, length}
use Rattle.ob_types.specs.declared.program.Program.{Program}
use Rattle.ob_judge.specs.Texts.{texts_of}
use Rattle.judged_tree.specs.Plain.{plain_program}
use Rattle.one_lowering.specs.Forms.{tally, numbered}

-- in each procedure the uses are of the first string, of the second, and so on to the last
pub record UsesInOrder (p : Program) : Type 0 where
  pub each : map (λ x. texts_of x.body x.answer) (plain_program [] (numbered p)).procedures ≡ map (λ x. tally 0 (length x.texts)) p.procedures
