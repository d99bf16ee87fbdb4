use Rattle.std.proofs.Common.{ap, sym, ◌∙◌}
use Rattle.ob_judge.specs.Scopes.{place}
use Rattle.ob_judge.specs.Parts.{is_nothing}
use Rattle.check_types.specs.names.Worlds.{table_of}
use Rattle.check_statements.proofs.deeds.Deeds.{deed_kept, deed_broken, deed_typed}
use Rattle.check_statements.proofs.deeds.calls.deed.Goals as goal

pub returns-in-Some : goal.returns-in-Some
returns-in-Some c = λ a h. let s = c.args.scope.now in deed_kept s.source.now (place s.source.now c.args.symbol) s c.in-Some.made a.shape a.what (ap is_nothing (sym h.shape) ∙ c.is_nothing.ensures (table_of s) ∙ c.if-is_nothing.true) (c.in-Some.ensures a.what h.what)

pub returns-in-None : goal.returns-in-None
returns-in-None c = λ a h. let s = c.args.scope.now in deed_broken s.source.now (place s.source.now c.args.symbol) s a.shape a.what _ c.fault.ensures (ap is_nothing (sym h.shape) ∙ c.is_nothing.ensures (table_of s) ∙ c.if-is_nothing.true) (c.in-None.ensures a.what h.what)

pub returns-else-is_nothing : goal.returns-else-is_nothing
returns-else-is_nothing c = λ a h. let s = c.args.scope.now in deed_typed s.source.now (place s.source.now c.args.symbol) s a.shape a.what _ c.fault-else-is_nothing.ensures (ap is_nothing (sym h.shape) ∙ c.is_nothing.ensures (table_of s) ∙ c.if-is_nothing.false)
