use Rattle.std.proofs.Common.{◌≡◌, List, sym, subst, arith}
use Rattle.ob_types.specs.Store.{Cell}
use Rattle.ob_types.specs.Meaning.{received}
use Rattle.ob_eval.specs.Calling.{behind}
use Rattle.ob_eval.proofs.Invoking.{received_none, behind_none}
use Rattle.ob_eval.proofs.calls.receive_all.Goals as goal

pub returns-then-formals-arguments : goal.returns-then-formals-arguments
returns-then-formals-arguments c = received_none c.args.formals.now c.args.arguments.now (λ e. omega arith)

pub loop-i-init : goal.loop-i-init
loop-i-init c =
    let o = received c.args.formals.now c.args.arguments.now in
    let P : List Cell → Type 0 = λ l. o ≡ behind l o in
    subst P (sym c.in-Ok.ensures.items) (behind_none o)
