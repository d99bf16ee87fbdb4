-- What bodies come to, which threads hand over and share.
use denote.Param.Send.{IsSend, IsSync, sendable}
use Rattle.std.proofs.Crossing.{crosses}
use Rattle.items.proofs.items.Items.TheSendSync as items
use Rattle.ob_types.specs.contracts.statements.Checked as Checked
use Rattle.ob_types.specs.contracts.statements.Stmt as Stmt
use Rattle.ob_types.specs.contracts.tree.Call as Call
use Rattle.ob_types.specs.contracts.tree.Designator as Designator
use Rattle.ob_types.specs.contracts.tree.Expr as Expr
use Rattle.ob_types.proofs.characters.Characters.TheSendSync as characters
use Rattle.ob_types.proofs.statements.Label.TheSendSync as labels
use Rattle.ob_types.proofs.statements.Stmt.TheLaws.TheKnot as statements
use Rattle.ob_types.proofs.tree.Argument.TheLaws.TheKnot as trees
use Rattle.check_procedures.specs.contracts.numbers.renumbering.Numbered as Numbered

---- Shared

expr_sync : IsSync (Expr.the_field).row
expr_sync = search (trees.sync-Expr, items.the_sync, sendable, crosses) depth 30

designator_sync : IsSync (Designator.the_field).row
designator_sync = search (trees.sync-Designator, items.the_sync, sendable, crosses) depth 30

call_sync : IsSync (Call.the_field).row
call_sync = search (trees.sync-Call, items.the_sync, sendable, crosses) depth 30

checked_sync : IsSync (Checked.the_field).row
checked_sync = search (expr_sync, sendable, crosses) depth 30 fits 100000

stmt_field_sync : IsSync (Stmt.the_field).row
stmt_field_sync = search (statements.sync-Stmt, designator_sync, checked_sync, call_sync, items.the_sync, labels.the_sync, sendable, crosses) depth 30 fits 100000

stmt_sync : IsSync Stmt.the_row
stmt_sync = search (stmt_field_sync, sendable) depth 30

pub numbered_sync : IsSync Numbered.the_row
numbered_sync = search (checked_sync, stmt_sync, characters.the_sync, items.the_sync, sendable, crosses) depth 30 fits 100000

---- Handed over

expr_send : IsSend (Expr.the_field).row
expr_send = search (trees.send-Expr, items.the_send, sendable, crosses) depth 30 fits 100000

designator_send : IsSend (Designator.the_field).row
designator_send = search (trees.send-Designator, items.the_send, sendable, crosses) depth 30 fits 100000

call_send : IsSend (Call.the_field).row
call_send = search (trees.send-Call, items.the_send, sendable, crosses) depth 30 fits 100000

checked_send : IsSend (Checked.the_field).row
checked_send = search (expr_send, sendable, crosses) depth 30 fits 100000

stmt_field_send : IsSend (Stmt.the_field).row
stmt_field_send = search (statements.send-Stmt, designator_send, checked_send, call_send, items.the_send, labels.the_send, sendable, crosses) depth 30 fits 100000

stmt_send : IsSend Stmt.the_row
stmt_send = search (stmt_field_send, sendable) depth 30

pub numbered_send : IsSend Numbered.the_row
numbered_send = search (checked_send, stmt_send, characters.the_send, items.the_send, sendable, crosses) depth 30 fits 100000
