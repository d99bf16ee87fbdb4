-- Programs that the judgement gives of the same modules have one form, with closed types.
use Rattle.std.proofs.Common.{◌≡◌, List, ℕ, sym, ap, ◌∙◌}
use Rattle.ob_types.specs.declared.program.Program.{Program}
use Rattle.ob_judge.specs.Image.{Program as ProgramImage}
use Rattle.ob_judge.specs.Modules.{Legal, Parsed}
use Rattle.judged_tree.specs.Outline.{outlined_program}
use Rattle.judged_tree.specs.Plain.{plain_program}
use Rattle.judged_programs.specs.ProgramOf.{IsProgramOf}
use Rattle.one_lowering.specs.Forms.{HasClosedTypes, HaveOneForm, numbered}
use Rattle.one_lowering.specs.Order.{UsesInOrder}
use Rattle.text_laws.proofs.judged_shapes.Programs.{judged_closed, program_closed}

same_image : (i j : ProgramImage) → Legal i ≡ Legal j → i ≡ j
same_image i j e = cc

module _ (ordered : (p q : Program) (sources others : List (List ℕ)) → plain_program sources p ≡ plain_program others q → UsesInOrder p → UsesInOrder q → HaveOneForm p q)
    (ms : List Parsed) (p q : Program) (x : IsProgramOf ms p) (y : IsProgramOf ms q) (order : UsesInOrder p) (other : UsesInOrder q) where
  pub one_form : HaveOneForm p q
  one_form = ordered p q x.sources y.sources (x.same ∙ (ap outlined_program (same_image x.image y.image (sym x.legal ∙ y.legal)) ∙ sym y.same)) order other

  pub one_form_closed : HasClosedTypes (plain_program one_form.sources (numbered p))
  one_form_closed = program_closed p x.sources x.image x.same (judged_closed ms x.image x.legal) one_form.sources
