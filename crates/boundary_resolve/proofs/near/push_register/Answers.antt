use Rattle.std.proofs.Common.{◌≡◌, ℕ, false, List, Option, [], ◌∷◌, ◌++◌, sym, ap, ap₂, ◌∙◌, subst}
use Rattle.lir_core.specs.declared.places.Place.{Place}
use Rattle.lir_core.specs.declared.places.Place.TheVariants.{Reg}
use Rattle.lir_core.specs.declared.places.Move.{Move}
use Rattle.boundary_resolve.specs.Found.{is_in, IsRegister}
use Rattle.boundary_resolve.specs.Moves.{register_of, register_or_home}
use Rattle.boundary_resolve.proofs.Staying.{register_move, added, is_register}
use Rattle.boundary_resolve.proofs.near.push_register.Goals as goal

pub returns : goal.returns
returns c few lt =
    let v = c.args.value in
    let r = c.args.register in
    let regs = c.args.from.now.regs in
    let o = register_of regs 0 v in
    let found : c.found_in-found.result ≡ o = c.found_in-found.ensures ∙ ap (λ (x : List (Option ℕ)). register_of x 0 v) c.as_slice.ensures in
    let other : is_in o r ≡ false = sym (c.if-is_in.ensures ∙ ap (λ (x : Option ℕ). is_in x r) found) in
    let place : c.register_or_home.result ≡ register_or_home o v = c.register_or_home.ensures (subst IsRegister (sym found) (is_register regs v few)) ∙ ap (λ (x : Option ℕ). register_or_home x v) found in
    let number : c.in-Ok.register ≡ r = c.in-Ok.ensures.1 in
    added c.args.moves.now.items c.push.new.self.items (record { to = Reg r; from = register_or_home o v }) (is_in o r) (register_move o r v) other
    (c.in_ok-push.ensures.items ∙ ap₂ (λ (n : ℕ) (p : Place). c.args.moves.now.items ++ (let m : Move = record { to = Reg n; from = p } in m) ∷ []) number place)
