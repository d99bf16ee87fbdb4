use Rattle.std.proofs.Common.{sym, ap}
use Rattle.ob_syntax.specs.Plain.{plain_type}
use Rattle.ob_judge.specs.Types.{place_of_type}
use Rattle.check_making.proofs.new_types.pointers.type_symbol.Goals as goal

pub returns-in-Named : goal.returns-in-Named
returns-in-Named c = λ p. sym (ap (λ x. place_of_type p (plain_type x)) c.in-Named.is)

pub returns-in-Array : goal.returns-in-Array
returns-in-Array c = λ p. sym (ap (λ x. place_of_type p (plain_type x)) c.in-Array.is)

pub returns-in-Pointer : goal.returns-in-Pointer
returns-in-Pointer c = λ p. sym (ap (λ x. place_of_type p (plain_type x)) c.in-Pointer.is)

pub returns-in-Procedure : goal.returns-in-Procedure
returns-in-Procedure c = λ p. sym (ap (λ x. place_of_type p (plain_type x)) c.in-Procedure.is)
