use Rattle.std.proofs.Common.{◌-◌, ◌||◌, length, refl, ap, ◌∙◌}
use Rattle.check_making.proofs.Known.{as_declared}
use Rattle.check_modules.proofs.importing.KnownAs.{settled_known, known_made}
use Rattle.check_modules.proofs.importing.importing.know.Goals as goal

pub returns-clause-settled : goal.returns-clause-settled
returns-clause-settled c =
    let s = c.args.state.now in
    settled_known c.args.round.now s c.requires c.args.name c.args.of c.either-imports_in.result c.declare_in.new.levels
    (as_declared s.levels.items c.declare_in.new.levels.items _ _ _ _ _ _ _ (c.innermost-at.ensures ∙ ap (λ ls. length ls - 1) c.deref.ensures.value) c.spelled.ensures refl c.in_ok-declare_in.ensures)

pub returns-clause-judged : goal.returns-clause-judged
returns-clause-judged c = λ m makes.
    let s = c.args.state.now in
    known_made c.args.round.now s c.requires c.args.name c.args.of c.either-imports_in.result c.declare_in.new.levels
    (as_declared s.levels.items c.declare_in.new.levels.items _ _ _ _ _ _ _ (c.innermost-at.ensures ∙ ap (λ ls. length ls - 1) c.deref.ensures.value) c.spelled.ensures refl c.in_ok-declare_in.ensures)
    m makes (c.either-imports_in.ensures ∙ ap (λ b. s.imports_in || b) c.is_in-is_in.ensures)
