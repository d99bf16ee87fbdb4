use Rattle.std.proofs.Common.{ℕ, List, ap, ◌++◌, ◌∙◌}
use Rattle.elf_file.specs.Spelling.{four, eight}
use Rattle.elf_file.proofs.Others.{eight_parts}
use Rattle.elf_file.proofs.writing.put_segment.Goals as goal

pub returns : goal.returns
returns c =
    let s = c.args.segment.now in
    c.in_ok-put_eight-6.ensures
    ∙ ap (λ (xs : List ℕ). xs ++ eight s.alignment) (c.in_ok-put_eight-5.ensures
    ∙ ap (λ (xs : List ℕ). xs ++ eight s.in_memory) (c.in_ok-put_eight-4.ensures
    ∙ ap (λ (xs : List ℕ). xs ++ eight s.in_file) (c.in_ok-put_eight-3.ensures
    ∙ ap (λ (xs : List ℕ). xs ++ eight s.address) (c.in_ok-put_eight-2.ensures
    ∙ ap (λ (xs : List ℕ). xs ++ eight s.address) (c.in_ok-put_eight.ensures
    ∙ ap (λ (xs : List ℕ). xs ++ eight s.place) (c.in_ok-put_four-2.ensures
    ∙ ap (λ (xs : List ℕ). xs ++ four s.rights) c.in_ok-put_four.ensures))))))
    ∙ eight_parts c.args.out.now.items (four s.kind) (four s.rights) (eight s.place) (eight s.address) (eight s.address) (eight s.in_file) (eight s.in_memory) (eight s.alignment)
