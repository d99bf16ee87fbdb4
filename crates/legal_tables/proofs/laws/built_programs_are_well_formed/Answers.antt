use Rattle.std.proofs.Common.{subst, sym}
use Rattle.judged_programs.specs.LegalTable.{IsLegalTable}
use Rattle.judged_programs.proofs.WellFormedPrograms.{program_well_formed}
use Rattle.legal_tables.proofs.Legal.{legal_table}
use Rattle.legal_tables.proofs.laws.built_programs_are_well_formed.Goals as goal

pub returns : goal.returns
returns c = λ b ms p built legal same read of results. program_well_formed ms p of (subst IsLegalTable (sym same) (legal_table b built legal)) read results
