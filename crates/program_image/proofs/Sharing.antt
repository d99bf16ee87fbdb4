-- Programs, which threads share.
use denote.Param.Send.{IsSync, sendable}
use Rattle.std.proofs.Crossing.{crosses, Box-sync, Vec-sync}
use Rattle.items.proofs.items.Items.TheSendSync as items
use Rattle.ob_types.specs.contracts.tree.Expr as Expr
use Rattle.ob_types.specs.contracts.tree.Designator as Designator
use Rattle.ob_types.specs.contracts.tree.Call as Call
use Rattle.ob_types.specs.contracts.statements.Checked as Checked
use Rattle.ob_types.specs.contracts.statements.Stmt as Stmt
use Rattle.ob_types.specs.contracts.program.Procedure as Procedure
use Rattle.ob_types.specs.contracts.program.Program as Program
use Rattle.ob_types.proofs.tree.Argument.TheLaws.TheKnot as trees
use Rattle.ob_types.proofs.statements.Stmt.TheLaws.TheKnot as statements
use Rattle.ob_types.proofs.statements.Label.TheSendSync as labels
use Rattle.ob_types.proofs.types.Formal.TheSendSync as formals
use Rattle.ob_types.proofs.table.Types.TheSendSync as types
use Rattle.ob_types.proofs.characters.Characters.TheSendSync as characters
use Rattle.ob_types.proofs.program.Module.TheSendSync as modules

---- Trees

expr_field : IsSync (Expr.the_field).row
expr_field = search (trees.sync-Expr, items.the_sync, sendable, crosses) depth 30

designator_field : IsSync (Designator.the_field).row
designator_field = search (trees.sync-Designator, items.the_sync, sendable, crosses) depth 30

call_field : IsSync (Call.the_field).row
call_field = search (trees.sync-Call, items.the_sync, sendable, crosses) depth 30

checked_field : IsSync (Checked.the_field).row
checked_field = search (expr_field, sendable, crosses) depth 30 fits 100000

stmt_field : IsSync (Stmt.the_field).row
stmt_field =
    statements.sync-Stmt designator_field checked_field call_field (λ h s. Vec-sync h s) (λ h s. Box-sync h s)
    (search (items.the_sync, labels.the_sync, sendable, crosses) depth 30) (search sendable depth 30) (search sendable depth 30)

stmt_sync : IsSync Stmt.the_row
stmt_sync = search (stmt_field, sendable) depth 30

---- Programs

procedure_sync : IsSync Procedure.the_row
procedure_sync = search (checked_field, stmt_sync, formals.the_sync, characters.the_sync, items.the_sync, sendable, crosses) depth 30 fits 100000

pub program_sync : IsSync Program.the_row
program_sync = search (procedure_sync, types.the_sync, modules.the_sync, items.the_sync, sendable, crosses) depth 30 fits 100000
