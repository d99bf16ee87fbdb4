use Rattle.std.proofs.Common.{sym, subst, List}
use Rattle.std.proofs.lemmas.Option.{slice_get_within}
use Rattle.ob_types.specs.declared.types.Formal.{Formal}
use Rattle.ob_judge.specs.Parameters.{listed}
use Rattle.check_types.specs.TypeMeaning.{type_shape}
use Rattle.check_making.specs.Making.{table_of}
use Rattle.check_making.specs.parameters.Listed.{IsListed}
use Rattle.check_making.proofs.parameters.OneMore.{one_more}
use Rattle.check_making.proofs.parameters.parameters.with_formal.Goals as goal

pub returns-clause-listed : goal.returns-clause-listed
returns-clause-listed c = λ x h.
    let t = c.args.state.now.types.table in
    let shape = type_shape (table_of c.args.state.now) c.args.kind.of in
    subst (λ (fs : List Formal). IsListed t (record { formals = fs; words = c.args.words }) (listed c.args.kind.variable shape x)) (sym c.in_ok-push.ensures.ok)
    (one_more t c.args.listed x c.args.kind.variable shape c.mode_of.result c.number.result c.args.words h (c.mode_of.ensures (table_of c.args.state.now)) c.number.ensures.shape
    (slice_get_within t.entries.items c.number.result c.args.kind.of c.number.ensures.entry) c.requires.words)
