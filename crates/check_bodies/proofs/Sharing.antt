-- Bodies that wait, which threads share.
use denote.Param.Send.{IsSync, sendable}
use denote.Ref.{NamedLft}
use Rattle.std.proofs.Crossing.{crosses}
use Rattle.items.proofs.items.Items.TheSendSync as items
use Rattle.ob_syntax.specs.contracts.declarations.Procedure as Procedure
use Rattle.ob_syntax.specs.contracts.expressions.Designator as Designator
use Rattle.ob_syntax.specs.contracts.expressions.Expression as Expression
use Rattle.ob_syntax.specs.contracts.statements.AssignOrCall as AssignOrCall
use Rattle.ob_syntax.specs.contracts.statements.Stats as Stats
use Rattle.ob_syntax.specs.contracts.types.TypeTree as TypeTree
use Rattle.ob_syntax.proofs.declarations.Decls.TheLaws.TheKnot as declarations
use Rattle.ob_syntax.proofs.expressions.Factor.TheLaws.TheKnot as expressions
use Rattle.ob_syntax.proofs.expressions.Sign.TheSendSync as signs
use Rattle.ob_syntax.proofs.statements.NextRange.TheSendSync as next_ranges
use Rattle.ob_syntax.proofs.statements.Stat.TheLaws.TheKnot as statements
use Rattle.ob_syntax.proofs.types.Base.TheSendSync as bases
use Rattle.ob_syntax.proofs.types.Formals.TheSendSync as formals
use Rattle.ob_syntax.proofs.types.TypeTree.TheLaws.TheKnot as types
use Rattle.check_types.proofs.names.levels.Level.TheSendSync as levels
use Rattle.check_making.proofs.making.Declaring.TheSendSync as states
use Rattle.check_making.proofs.making.Surroundings.TheSendSync as rounds
use Rattle.check_making.proofs.parameters.sections.Heading.TheSendSync as headings
use Rattle.check_bodies.specs.contracts.body.Body as Body
use Rattle.check_bodies.specs.contracts.work.Bodies as Bodies

---- Syntax trees

designator_field : IsSync (Designator.the_field).row
designator_field = search (expressions.sync-Designator, signs.the_sync, sendable, crosses) depth 30 fits 100000

expression_field : IsSync (Expression.the_field).row
expression_field = search (expressions.sync-Expression, signs.the_sync, sendable, crosses) depth 30 fits 100000

assign_or_call : IsSync AssignOrCall.the_row
assign_or_call = search (designator_field, expression_field, sendable, crosses) depth 30 fits 100000

stats_field : IsSync (Stats.the_field).row
stats_field = search (statements.sync-Stats, assign_or_call, next_ranges.the_sync, expression_field, sendable, crosses) depth 30 fits 100000

type_field : IsSync (TypeTree.the_field).row
type_field = search (types.sync-TypeTree, expression_field, bases.the_sync, formals.the_sync, sendable, crosses) depth 30 fits 100000

procedure_field : IsSync (Procedure.the_field).row
procedure_field = search (declarations.sync-Procedure, formals.the_sync, type_field, stats_field, expression_field, sendable, crosses) depth 30 fits 100000

procedure_sync : IsSync Procedure.the_row
procedure_sync = search (procedure_field, sendable) depth 30 fits 100000

---- Bodies

body_sync : (a : NamedLft) → IsSync (Body.the_row a)
body_sync a = search (procedure_sync, headings.the_field_sync, levels.the_field_sync, items.the_sync, sendable, crosses) depth 30 fits 100000

pub bodies_sync : (a : NamedLft) → IsSync (Bodies.the_row a)
bodies_sync a = search (body_sync, states.the_sync, rounds.the_sync, sendable, crosses) depth 30 fits 100000
