use Rattle.std.proofs.Common.{◌≡◌, ℕ, Option, sym, ap, ◌∙◌, subst}
use Rattle.boundary_resolve.specs.Found.{IsRegister}
use Rattle.boundary_resolve.specs.Moves.{register_of, register_or_home}
use Rattle.boundary_resolve.proofs.Staying.{is_register}
use Rattle.boundary_resolve.proofs.moves.Before.place.Goals as goal

pub returns : goal.returns
returns c few =
    let v = c.argument-value.result in
    let regs = c.args.self.now.regs.now in
    let found : c.found_in.result ≡ register_of regs 0 v = c.found_in.ensures in
    c.register_or_home.ensures (subst IsRegister (sym found) (is_register regs v few)) ∙ ap (λ (o : Option ℕ). register_or_home o v) found
    ∙ ap (λ (u : ℕ). register_or_home (register_of regs 0 u) u) c.argument-value.ensures
