use Rattle.std.proofs.Common.{◌≡◌, ℕ, List, ◌&&◌, sym, subst, ◌∙◌, true, false, take, drop, length}
use Rattle.std.specs.Prelude.{nat_le}
use Rattle.lir_core.specs.Spots.{get}
use Rattle.lir_core.specs.Lines.{names}
use Rattle.alloc_audit.specs.Tests.{stand, are_below}
use Rattle.block_runs.specs.Valid.{is_call}
use Rattle.lir_core.specs.Flows.{operation_of}
use Rattle.alloc_audit.specs.Holdings.{walker_of}
use Rattle.alloc_audit.proofs.Lines.{ready_call, ready_other, rest_is}
use Rattle.alloc_audit.proofs.walk.Walk.is_ready.Goals as goal

pub returns-then-is_call : goal.returns-then-is_call
returns-then-is_call c =
    let e : is_call c.args.op.now.template ≡ true = sym c.is_call.ensures ∙ c.if-is_call.true in
    c.call_has.ensures (drop c.args.self.now.used c.args.named.now) e ∙ sym (ready_call (length c.args.self.now.regs.items) (operation_of c.args.op.now) (walker_of c.args.named.now c.args.self.now) e)

pub returns : goal.returns
returns c =
    let e : is_call c.args.op.now.template ≡ false = sym c.is_call.ensures ∙ c.if-is_call.false in
    let op = operation_of c.args.op.now in
    let k = length c.args.self.now.regs.items in
    subst (λ (xs : List ℕ). c.can_read.result ≡ (nat_le (names op) (length xs) && are_below k (take (names op) xs) && stand (get c.args.self.now.regs.items) (take (length op.uses) xs) op.uses)) (rest_is c.args.named.now c.args.self.now.used) c.can_read.ensures
    ∙ sym (ready_other k op c.args.named.now c.args.self.now e)
