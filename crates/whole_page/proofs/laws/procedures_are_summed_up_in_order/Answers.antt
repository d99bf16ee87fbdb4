use Rattle.std.proofs.Common.{[]}
use Rattle.whole_page.proofs.Orders.{each_among, falls_among}
use Rattle.whole_page.proofs.laws.procedures_are_summed_up_in_order.Goals as goal

pub returns-clause-each : goal.returns-clause-each
returns-clause-each c ranks = each_among [] ranks

pub returns-clause-falls : goal.returns-clause-falls
returns-clause-falls c ranks = falls_among [] ranks tt
