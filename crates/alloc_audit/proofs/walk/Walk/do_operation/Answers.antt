use Rattle.std.proofs.Common.{◌≡◌, ◌+◌, Some, sym, ap, ◌∙◌, refl, map, drop, arith}
use Rattle.std.specs.Prelude.{slice_get}
use Rattle.std.specs.Option.{option_map}
use Rattle.std.proofs.lemmas.Bool.{ltb-true}
use Rattle.std.proofs.lemmas.Option.{slice_get-map, slice_get-get_or}
use Rattle.block_runs.specs.Valid.{is_call}
use Rattle.lir_core.specs.Flows.{operation_of}
use Rattle.lir_core.specs.Lines.{names}
use Rattle.alloc_audit.specs.declared.walk.Walk.{Walk}
use Rattle.alloc_audit.specs.Holdings.{holdings_of, left_by, maybe_made, def_register}
use Rattle.alloc_audit.proofs.Lines.{operation_done, maybe_same}
use Rattle.alloc_audit.proofs.walk.Walk.do_operation.Goals as goal

pub returns : goal.returns
returns c =
    let x = c.in-Some.op.now in
    let op = operation_of x in
    let old = c.args.self.now in
    let named = c.args.named.now in
    let new : Walk = record { regs = c.make.new.self.regs; slots = c.make.new.self.slots; aim = c.make.new.self.aim; homes = c.make.new.self.homes; next = c.args.index + 1; used = c.make.new.self.used + c.names_of-count.result } in
    let there : slice_get (map operation_of c.args.lirs.now) c.args.index ≡ Some op =
    slice_get-map operation_of c.args.lirs.now c.args.index
    ∙ ap (option_map operation_of) (slice_get-get_or c.args.lirs.now c.args.index x (ltb-true _ _ (sym (c.in-Some.ensures.lookup).0)) ∙ ap Some (sym (c.in-Some.ensures.lookup).1)) in
    let at : c.args.index ≡ old.next = omega arith in
    let used : new.used ≡ old.used + names op = omega (arith, c.make.ensures.used, c.leave.ensures.used, c.names_of-count.ensures) in
    λ le. operation_done c.args.values (map operation_of c.args.lirs.now) named c.args.index op old new there at (sym c.is_ready.ensures ∙ c.if-not-is_ready.false) c.requires.some
    (c.make.ensures.holdings ∙ ap (maybe_made c.def_register-register.result x.def) (c.leave.ensures.holdings ∙ ap (λ b. left_by b (holdings_of old)) c.is_call.ensures)
    ∙ maybe_same x c.def_register-register.result (def_register op (drop old.used named)) (left_by (is_call op.code) (holdings_of old)) c.def_register-register.ensures)
    refl used le
