use Rattle.std.proofs.Common.{◌≡◌, length, refl, sym, ap, ◌∙◌, subst}
use Rattle.ob_scan.proofs.Once.{one_scan}
use Rattle.ob_grammar.specs.Terminals.{numbers}
use Rattle.ob_grammar.specs.Modules.{Shallow}
use Rattle.ob_read.proofs.reading.read_module.Goals as goal

pub returns-in-Err-clause-only : goal.returns-in-Err-clause-only
returns-in-Err-clause-only c = λ symbols v short s m t shallow.
    let e : symbols ≡ c.as_slice.result.now = (one_scan s c.in_ok-symbols.ensures.symbols refl refl).0 ∙ sym c.as_slice.ensures.value in
    c.in-Err.ensures.only v m (t ∙ ap numbers e) (subst (λ z. Shallow v (length z)) e shallow)
