-- A state whose parts are those at the start is the state at the start.
use Rattle.std.proofs.Common.{◌≡◌, ℕ, ◌+◌, List}
use Rattle.a64_numbers.specs.Conditions.{clear_flags}
use Rattle.a64_numbers.specs.declared.flags.Flags.{Flags}
use Rattle.a64_memory.specs.Memory.{Area}
use Rattle.image_form.specs.declared.image.Image.{Image}
use Rattle.a64_machine.specs.State.{code_base}
use Rattle.a64_memory.specs.Areas.{frames_base, frames_bytes}
use Rattle.a64_machine.specs.Machine.{start, first_registers, first_memory}

pub started : (image : Image) (input : List ℕ) (registers : ℕ → ℕ) (flags : Flags) (memory : List Area) → registers ≡ first_registers → flags ≡ clear_flags → memory ≡ first_memory image → record { pc = code_base; registers = registers; sp = frames_base + frames_bytes image.frame; flags = flags; memory = memory; input = input } ≡ start image input
started image input registers flags memory e f g = λ i. record { pc = code_base; registers = e i; sp = frames_base + frames_bytes image.frame; flags = f i; memory = g i; input = input }
