-- The runtime's words for traps.
use Rattle.std.proofs.Common.{◌≡◌, ℕ, zero, suc, ◌<◌, length, Option, Some, refl, ap, ◌∙◌, arith}
use Rattle.std.specs.Prelude.{slice_get}
use Rattle.std.specs.Option.{option_and_then}
use Rattle.a64_instr.specs.declared.instr.Instr.TheVariants as i
use Rattle.a64_table.specs.Table.{word_of}
use Rattle.a64_table.specs.Decode.{decode_of}
use Rattle.a64_table.proofs.Laws.{decodes}
use Rattle.elf_file.specs.Runtime.{runtime, runtime_length, trap_place}
use Rattle.elf_file.specs.Placed.{instr_at}

pub length_runtime : length runtime ≡ runtime_length
unfolding runtime
length_runtime = refl

first_word : (kind : ℕ) → kind < 16 → slice_get runtime (trap_place kind) ≡ Some (word_of (i.Movz 10 kind 0))
unfolding runtime
first_word zero below = refl
first_word (suc zero) below = refl
first_word (suc (suc zero)) below = refl
first_word (suc (suc (suc zero))) below = refl
first_word (suc (suc (suc (suc zero)))) below = refl
first_word (suc (suc (suc (suc (suc zero))))) below = refl
first_word (suc (suc (suc (suc (suc (suc zero)))))) below = refl
first_word (suc (suc (suc (suc (suc (suc (suc zero))))))) below = refl
first_word (suc (suc (suc (suc (suc (suc (suc (suc zero)))))))) below = refl
first_word (suc (suc (suc (suc (suc (suc (suc (suc (suc zero))))))))) below = refl
first_word (suc (suc (suc (suc (suc (suc (suc (suc (suc (suc zero)))))))))) below = refl
first_word (suc (suc (suc (suc (suc (suc (suc (suc (suc (suc (suc zero))))))))))) below = refl
first_word (suc (suc (suc (suc (suc (suc (suc (suc (suc (suc (suc (suc zero)))))))))))) below = refl
first_word (suc (suc (suc (suc (suc (suc (suc (suc (suc (suc (suc (suc (suc zero))))))))))))) below = refl
first_word (suc (suc (suc (suc (suc (suc (suc (suc (suc (suc (suc (suc (suc (suc zero)))))))))))))) below = refl
first_word (suc (suc (suc (suc (suc (suc (suc (suc (suc (suc (suc (suc (suc (suc (suc zero))))))))))))))) below = refl
first_word (suc (suc (suc (suc (suc (suc (suc (suc (suc (suc (suc (suc (suc (suc (suc (suc kind)))))))))))))))) below = absurd (omega arith)

pub kinds : (kind : ℕ) → kind < 16 → instr_at runtime (trap_place kind) ≡ Some (i.Movz 10 kind 0)
kinds kind below = ap (λ (o : Option ℕ). option_and_then decode_of o) (first_word kind below) ∙ decodes (i.Movz 10 kind 0) (omega arith, (omega arith, (omega arith, tt)))
