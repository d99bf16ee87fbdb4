-- A program that the judgement gives is well-formed.
use Rattle.std.proofs.Common.{◌≡◌, length, true, ◌&&◌, List}
use Rattle.std.specs.Prelude.{nat_lt}
use Rattle.ob_types.specs.declared.program.Program.{Program}
use Rattle.ob_types.specs.Meaning.{texts_of}
use Rattle.ob_types.specs.Forms.{all, all_below, types_fine}
use Rattle.ob_types.specs.LegalTypes.{types_legal}
use Rattle.ob_types.specs.WellFormed.{well_formed, declarations_fine, counts_fine, variables_fine, bodies_in_order, module_fine, procedure_fine}
use Rattle.ob_types.proofs.Tests.{and_from}
use Rattle.ob_judge.specs.Modules.{Parsed}
use Rattle.ob_sound.proofs.Ranked.{ranked_fine}
use Rattle.judged_well.specs.OfProgram.{IsFaithful, IsInside}
use Rattle.judged_programs.specs.LegalTable.{IsLegalTable}
use Rattle.judged_programs.specs.ProgramOf.{IsProgramOf, AreRead, HasResults}
use Rattle.judged_programs.proofs.Ends.{end_of, in_order, modules_fine, variables_are_fine}
use Rattle.judged_programs.proofs.TableOrder.{ranks}
use Rattle.judged_programs.proofs.TableLegal.{counts_are_fine, types_are_legal}
use Rattle.judged_programs.proofs.SeveralModules.{procedures_fine, strings_bytes}
use Rattle.judged_programs.proofs.Faithful.{faithful, inside}

module _ (ms : List Parsed) (p : Program) (of : IsProgramOf ms p) where
  pub ordered : bodies_in_order p ≡ true
  ordered = in_order p (end_of ms p of).0 (end_of ms p of).1

  module _ (legal : IsLegalTable p.types) where
    pub faithful_table : IsFaithful p.types
    faithful_table = faithful p (end_of ms p of).0 (end_of ms p of).1 legal

    pub inside_table : HasResults p → IsInside p
    inside_table results = inside p (end_of ms p of).0 (end_of ms p of).1 legal results

    pub fine_modules : all (module_fine p) p.modules ≡ true
    fine_modules = modules_fine p (end_of ms p of).0 (end_of ms p of).1 faithful_table

    pub fine_variables : HasResults p → variables_fine p ≡ true
    fine_variables results = variables_are_fine p (end_of ms p of).0 (end_of ms p of).1 faithful_table (inside_table results)

    pub fine_table : types_fine p.types ≡ true
    fine_table = ranked_fine p.types (ranks p (end_of ms p of).0 (end_of ms p of).1 faithful_table legal)

    pub fine_counts : counts_fine p ≡ true
    fine_counts = counts_are_fine p (end_of ms p of).0 (end_of ms p of).1 faithful_table legal

    pub legal_table : types_legal p.types ≡ true
    legal_table = types_are_legal p (end_of ms p of).0 (end_of ms p of).1 faithful_table legal

    module _ (read : AreRead ms) (results : HasResults p) where
      pub fine_procedures : all_below (length p.procedures) (procedure_fine p) ≡ true
      fine_procedures = procedures_fine p faithful_table (inside_table results) fine_table of.sources ms read of.image of.legal of.same

      pub byte_strings : all (all (λ c. nat_lt c 256)) (texts_of p.procedures) ≡ true
      byte_strings = strings_bytes p faithful_table (inside_table results) fine_table of.sources ms read of.image of.legal of.same

      pub program_well_formed : well_formed p ≡ true
      program_well_formed =
          and_from (types_fine p.types && declarations_fine p) (all (all (λ c. nat_lt c 256)) (texts_of p.procedures) && (all (module_fine p) p.modules && all_below (length p.procedures) (procedure_fine p)))
          (and_from (types_fine p.types) (declarations_fine p) fine_table
          (and_from (types_legal p.types && counts_fine p) (variables_fine p && bodies_in_order p)
          (and_from (types_legal p.types) (counts_fine p) legal_table fine_counts)
          (and_from (variables_fine p) (bodies_in_order p) (fine_variables results) ordered)))
          (and_from (all (all (λ c. nat_lt c 256)) (texts_of p.procedures)) (all (module_fine p) p.modules && all_below (length p.procedures) (procedure_fine p)) byte_strings
          (and_from (all (module_fine p) p.modules) (all_below (length p.procedures) (procedure_fine p)) fine_modules fine_procedures))
