use Rattle.modest_flows.proofs.Fitting.{modest_fits}
use Rattle.modest_flows.proofs.laws.modest_flows_fit.Goals as goal

pub returns : goal.returns
returns c k cut sound paths modest = modest_fits k cut sound paths modest
