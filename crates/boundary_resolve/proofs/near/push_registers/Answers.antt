use Rattle.std.proofs.Common.{ℕ, ◌+◌, [], ◌∷◌, ◌++◌, filter, drop, arith, sym, ap, ◌∙◌}
use Rattle.lir_core.specs.declared.places.Place.{Place}
use Rattle.lir_core.specs.declared.places.Place.TheVariants.{Reg}
use Rattle.lir_core.specs.declared.places.Move.{Move}
use Rattle.lir_core.specs.Spots.{argument_of}
use Rattle.parallel_move.specs.Order.{is_moving}
use Rattle.boundary_resolve.specs.Moves.{place_of, reg_moves}
use Rattle.boundary_resolve.proofs.Staying.{register_step, empty_step}
use Rattle.boundary_resolve.proofs.near.push_registers.Goals.{in-Some+in_ok-push_register, in_default}
use Rattle.boundary_resolve.proofs.near.push_registers.Goals as goal

pub loop-register-preserved : goal.loop-register-preserved
loop-register-preserved c few le =
    let i = c.loop-register.register in
    let lt = c.loop-register-test.true in
    let from : ℕ → Place = λ v. place_of c.args.from.now (argument_of c.args.params.now c.args.args.now v) in
    elim c.match-held.branch [
      | in-Some+in_ok-push_register w ↦ register_step from c.args.regs.now i w.in-Some.value _ c.loop-register.moves.items c.match-held.moves.items (c.loop-register.invariant few le) lt (sym w.in-Some.is)
          (ap (λ v. v.items) w.moves-is ∙ w.in_ok-push_register.ensures few (omega (arith, lt, le))
          ∙ ap (λ (a : ℕ). c.loop-register.moves.items ++ filter is_moving ((let m : Move = record { to = Reg i; from = place_of c.args.from.now a } in m) ∷ [])) w.argument_of.ensures)
      | in_default w ↦ ap (λ v. v.items ++ filter is_moving (reg_moves from (i + 1) (drop (i + 1) c.args.regs.now))) w.moves-is ∙ empty_step from c.args.regs.now i _ c.loop-register.moves.items (c.loop-register.invariant few le) lt (sym w.in_default.is)
    ]
