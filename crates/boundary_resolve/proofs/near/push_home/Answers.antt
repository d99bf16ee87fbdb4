use Rattle.std.proofs.Common.{◌≡◌, ℕ, false, List, Option, [], ◌∷◌, ◌++◌, sym, ap, ◌∙◌, subst}
use Rattle.lir_core.specs.declared.places.Place.{Place}
use Rattle.lir_core.specs.declared.places.Place.TheVariants.{Home}
use Rattle.lir_core.specs.declared.places.Move.{Move}
use Rattle.boundary_resolve.specs.Found.{is_home, IsRegister}
use Rattle.boundary_resolve.specs.Moves.{register_of, register_or_home}
use Rattle.boundary_resolve.proofs.Staying.{home_move, added, is_register}
use Rattle.boundary_resolve.proofs.near.push_home.Goals as goal

pub returns : goal.returns
returns c few =
    let v = c.args.value in
    let home = c.args.home in
    let regs = c.args.from.now.regs in
    let o = register_of regs 0 v in
    let found : c.found_in-found.result ≡ o = c.found_in-found.ensures ∙ ap (λ (x : List (Option ℕ)). register_of x 0 v) c.as_slice.ensures in
    let other : is_home o v home ≡ false = sym (c.if-is_home.ensures ∙ ap (λ (x : Option ℕ). is_home x v home) found) in
    let place : c.register_or_home.result ≡ register_or_home o v = c.register_or_home.ensures (subst IsRegister (sym found) (is_register regs v few)) ∙ ap (λ (x : Option ℕ). register_or_home x v) found in
    added c.args.moves.now.items c.push.new.self.items (record { to = Home home; from = register_or_home o v }) (is_home o v home) (home_move o home v) other
    (c.in_ok-push.ensures.items ∙ ap (λ (p : Place). c.args.moves.now.items ++ (let m : Move = record { to = Home home; from = p } in m) ∷ []) place)
