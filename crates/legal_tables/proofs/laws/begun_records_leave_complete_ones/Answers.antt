use Rattle.judged_programs.proofs.Ranking.{blank_later}
use Rattle.legal_tables.proofs.laws.begun_records_leave_complete_ones.Goals as goal

pub returns : goal.returns
returns c = λ records. blank_later records
