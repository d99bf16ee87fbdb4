use Rattle.std.proofs.Common.{Some, ap, sym, ◌∙◌}
use Rattle.check_types.proofs.steps.Answering.{goes_on, as_judged}
use Rattle.check_types.specs.names.Meaning.{object_of}
use Rattle.check_types.specs.names.Worlds.{table_of, strings_of, world_of}
use Rattle.check_statements.specs.deeds.Deeds.{standard_alone, member_alone}
use Rattle.check_statements.proofs.deeds.calls.member_alone.Goals as goal

pub returns-in_ok-member-in-Module : goal.returns-in_ok-member-in-Module
returns-in_ok-member-in-Module c = let s = c.args.scope.now in
    as_judged (ap (λ n. member_alone s.source.now (world_of s) (object_of (table_of s) (strings_of s) n) c.args.i) c.in-Module.is)
    (goes_on _ _ c.in_ok-member-in-Module.ensures (λ o h. record { by = ap (λ z. standard_alone (Some z)) (sym h) ∙ c.standard_named.ensures (table_of s) (strings_of s) }))
