use Rattle.std.proofs.Common.{refl, sym, ap, ◌∙◌}
use Rattle.wrapping_numbers.specs.Numbers.{add64}
use Rattle.a64_memory.specs.Texts.{text_at}
use Rattle.a64_machine.specs.Services.{writes_text}
use Rattle.a64_machine.specs.View.{core_state}
use Rattle.a64_machine.proofs.processor.Core.writes_text.Goals as goal

pub returns-in-Err-clause-made : goal.returns-in-Err-clause-made
returns-in-Err-clause-made g c =
    let s = core_state c.args.self.now in
    let f = c.in-Err.ensures.front in
    (f.0, record s { pc = add64 s.pc 4 }, ap (λ m. writes_text s (text_at m (s.registers 2) (s.registers 0) (s.registers 1))) (sym c.deref-2.ensures.value) ∙ ap (writes_text s) f.1, refl, f.2)
