-- What is neither a call of a service nor a trap, and parts that are written one behind the other.
use Rattle.std.proofs.Common.{◌≡◌, ℕ, Bool, List, ◌++◌, append_assoc, refl}
use Rattle.a64_instr.specs.declared.instr.Instr.{Instr}
use Rattle.a64_instr.specs.declared.instr.Instr.TheVariants as i
use Rattle.elf_file.specs.declared.native.NativeSize.{NativeSize}
use Rattle.elf_file.specs.Native.{access_on_frame, on_frame, native_instr}

pub native_other : (size : NativeSize) (place before : ℕ) (instr : Instr) → ((x : ℕ) → instr ≡ i.Svc x → ⊥) → ((x : ℕ) → instr ≡ i.Brk x → ⊥) → native_instr size place before instr ≡ on_frame instr
native_other size place before (i.Svc service) n m = absurd (n service refl)
native_other size place before (i.Brk kind) n m = absurd (m kind refl)
native_other size place before other n m = refl

pub frame_other : (instr : Instr) → ((rd rn imm : ℕ) (high : Bool) → instr ≡ i.AddImm rd rn imm high → ⊥)
    → ((rd rn imm : ℕ) (high : Bool) → instr ≡ i.SubImm rd rn imm high → ⊥)
    → ((rd rn imm : ℕ) (high : Bool) → instr ≡ i.SubsImm rd rn imm high → ⊥) → on_frame instr ≡ access_on_frame instr
frame_other (i.AddImm rd rn imm high) a s t = absurd (a rd rn imm high refl)
frame_other (i.SubImm rd rn imm high) a s t = absurd (s rd rn imm high refl)
frame_other (i.SubsImm rd rn imm high) a s t = absurd (t rd rn imm high refl)
frame_other other a s t = refl

pub eight_parts : (out a b c d e f g h : List ℕ) → (((((((out ++ a) ++ b) ++ c) ++ d) ++ e) ++ f) ++ g) ++ h ≡ out ++ (((((((a ++ b) ++ c) ++ d) ++ e) ++ f) ++ g) ++ h)
eight_parts out a b c d e f g h = simp append_assoc
