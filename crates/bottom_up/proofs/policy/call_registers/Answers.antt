use Rattle.std.proofs.Common.{◌≡◌, ◌∙◌, sym, ap, ap₂, map, refl, None}
use Rattle.lir_core.specs.Flows.{operation_of}
use Rattle.bottom_up.specs.Policy.{register_in, before_call}
use Rattle.bottom_up.proofs.policy.call_registers.Goals as goal

pub returns : goal.returns
returns c =
    let op = operation_of c.args.lir.now in
    let row : c.before_call.new.regs ≡ before_call op (map (λ o. None) c.args.regs.now) =
    c.before_call.ensures.step op refl (sym c.as_slice.ensures) ∙ ap (before_call op) (c.remove_all.ensures ∙ ap (map (λ o. None)) c.in_ok-row.ensures) in
    c.in_ok-args.ensures ∙ ap₂ (λ rs us. map (register_in rs) us) (c.as_slice-2.ensures ∙ row) c.as_slice-3.ensures
