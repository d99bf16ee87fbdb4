use Rattle.std.proofs.Common.{ℕ, List, map, ap, ◌++◌, ◌∙◌}
use Rattle.a64_table.specs.Table.{word_of}
use Rattle.elf_file.specs.declared.native.NativeSize.{NativeSize}
use Rattle.elf_file.specs.Runtime.{runtime}
use Rattle.elf_file.specs.Native.{links, all_native, all_stubs, native_words}
use Rattle.elf_file.proofs.native.native_words.Goals as goal

pub returns : goal.returns
unfolding native_words
returns c =
    let image = c.args.image.now in
    let size = c.args.size in
    let code = c.as_slice-code.result.now in
    c.in_ok-extend_from_slice.ensures.items
    ∙ ap (λ (xs : List ℕ). c.push_links.new.words.items ++ xs) c.runtime_words.ensures
    ∙ ap (λ (xs : List ℕ). xs ++ runtime) (c.in_ok-push_links.ensures
    ∙ ap (λ (xs : List ℕ). xs ++ map word_of (links size image)) (c.in_ok-push_stubs.ensures
    ∙ ap (λ (xs : List ℕ). xs ++ all_stubs size code) (c.in_ok-push_native.ensures ∙ ap (λ (xs : List ℕ). xs ++ all_native size code) c.in_ok-words.ensures.items)))
    ∙ ap (λ (ws : List ℕ). all_native size ws ++ all_stubs size ws ++ map word_of (links size image) ++ runtime) c.as_slice-code.ensures
    ∙ ap (λ (s : NativeSize). all_native s image.code ++ all_stubs s image.code ++ map word_of (links s image) ++ runtime) c.requires.of
