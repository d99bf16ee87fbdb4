use Rattle.global_live.proofs.Paths.{read_along, live_along}
use Rattle.global_live.proofs.laws.read_on_paths.Goals as goal

pub returns-clause-read : goal.returns-clause-read
returns-clause-read c bls v n l = read_along bls v l

pub returns-clause-not_needed : goal.returns-clause-not_needed
returns-clause-not_needed c bls v n path h = live_along bls v path n h
