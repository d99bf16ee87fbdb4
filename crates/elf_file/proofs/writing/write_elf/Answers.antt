use Rattle.std.proofs.Common.{ℕ, List, length, ap, ◌-◌, ◌++◌, ◌∙◌}
use Rattle.std.specs.List.{flat_map}
use Rattle.elf_file.specs.Native.{native_words}
use Rattle.elf_file.specs.Spelling.{four, zeros, elf_bytes}
use Rattle.elf_file.proofs.writing.write_elf.Goals as goal

pub returns : goal.returns
unfolding elf_bytes
returns c =
    let image = c.args.image.now in
    c.in_ok-extend_from_slice.ensures.items
    ∙ ap (λ (xs : List ℕ). c.put_words.new.out.items ++ xs) c.as_slice-constants.ensures
    ∙ ap (λ (xs : List ℕ). xs ++ image.constants) (c.in_ok-put_words.ensures
    ∙ ap (λ (ws : List ℕ). c.put_zeros.new.out.items ++ flat_map four ws) (c.as_slice-2.ensures.value ∙ c.in_ok-words.ensures)
    ∙ ap (λ (xs : List ℕ). xs ++ flat_map four (native_words image)) (c.in_ok-put_zeros.ensures ∙ ap (λ (xs : List ℕ). xs ++ zeros (65536 - length xs)) c.in_ok-out.ensures))
