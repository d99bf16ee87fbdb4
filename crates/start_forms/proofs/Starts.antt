-- The program of the first of some modules has a form that is the start of the form of the program of all.
use Rattle.std.proofs.Common.{◌≡◌, List, ◌++◌, length, true, sym, ap, ◌∙◌, subst, arith}
use Rattle.ob_types.specs.Meaning.{texts_of}
use Rattle.ob_types.specs.WellFormed.{well_formed}
use Rattle.ob_types.specs.declared.program.Program.{Program}
use Rattle.ob_judge.specs.Modules.{Parsed}
use Rattle.judged_tree.specs.Outline.{outlined_program}
use Rattle.judged_tree.specs.Plain.{plain_program}
use Rattle.judged_programs.specs.ProgramOf.{IsProgramOf}
use Rattle.judged_programs.proofs.ModulesTidy.{legal_same}
use Rattle.judged_fronts.specs.Fronts.{IsStartOf}
use Rattle.one_lowering.specs.Forms.{HasClosedTypes, numbered}
use Rattle.one_lowering.specs.Order.{UsesInOrder}
use Rattle.moved_lowering.specs.Starts.{HasStart}
use Rattle.start_outlines.proofs.Modules.{outlines_stay}
use Rattle.start_forms.proofs.Numbered.{first_numbered}
use Rattle.start_forms.proofs.Procedures.{program_within, table_within}

module _ (ms ns : List Parsed) (p q : Program) (x : IsProgramOf ms p) (y : IsProgramOf (ms ++ ns) q) where
  -- as they are judged
  starts : IsStartOf (plain_program x.sources p) (plain_program y.sources q)
  starts =
      let b = outlines_stay ms ns y.image y.legal in
      let same : b.0 ≡ x.image = legal_same b.0 x.image (sym b.1 ∙ x.legal) in
      let mine : outlined_program b.0 ≡ plain_program x.sources p = ap outlined_program same ∙ sym x.same in
      subst (λ u. IsStartOf u (plain_program y.sources q)) mine (subst (IsStartOf (outlined_program b.0)) (sym y.same) b.2)

  pub has_start : well_formed p ≡ true → well_formed q ≡ true → UsesInOrder p → UsesInOrder q → HasClosedTypes (plain_program x.sources (numbered p)) → HasClosedTypes (plain_program y.sources (numbered q)) → HasStart p q
  has_start good well first second closed closed_too =
      let s = starts in
      record {
        sources = x.sources;
        others = y.sources;
        closed = closed;
        closed_too = closed_too;
        records = s.records;
        procedures = first_numbered p.types q.types (length (texts_of p.procedures)) (length (texts_of q.procedures)) p.procedures q.procedures (omega arith) (omega arith) s.procedures.rest s.procedures.is first.each second.each;
        records_within = table_within p good;
        procedures_within = program_within p good;
      }
