use Rattle.std.proofs.Common.{ℕ, ap, ◌∙◌}
use Rattle.a64_machine.specs.State.{put}
use Rattle.a64_memory.specs.Areas.{local_base, heap_base, data_base}
use Rattle.a64_machine.proofs.Registers.{zeros_read}
use Rattle.a64_machine.proofs.layout.first_registers.Goals as goal

pub returns : goal.returns
returns c =
    c.set-6.ensures
    ∙ ap (λ (r : ℕ → ℕ). put r 24 data_base) (c.set-5.ensures
    ∙ ap (λ (r : ℕ → ℕ). put r 23 1048576) (c.set-4.ensures
    ∙ ap (λ (r : ℕ → ℕ). put r 22 8388608) (c.set-3.ensures
    ∙ ap (λ (r : ℕ → ℕ). put r 21 heap_base) (c.set-2.ensures
    ∙ ap (λ (r : ℕ → ℕ). put r 20 8192) (c.set.ensures
    ∙ ap (λ (r : ℕ → ℕ). put r 19 local_base) (zeros_read 31))))))
