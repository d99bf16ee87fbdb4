use Rattle.judged_programs.proofs.Ranking.{set_later}
use Rattle.legal_tables.proofs.laws.completed_records_leave_complete_ones.Goals as goal

pub returns : goal.returns
returns c = λ records n l empty. set_later records n l empty
