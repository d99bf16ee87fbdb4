use Rattle.std.proofs.Common.{ℕ, List, ap, ◌++◌, ◌∙◌}
use Rattle.std.specs.List.{flat_map}
use Rattle.elf_file.specs.declared.writing.Segment.{Segment}
use Rattle.elf_file.specs.Spelling.{file_header, segment_bytes, segments}
use Rattle.elf_file.proofs.writing.header.Goals as goal

pub returns : goal.returns
returns c =
    let image = c.args.image.now in
    c.in_ok-put_segments.ensures
    ∙ ap (λ (ss : List Segment). c.put_file_header.new.out.items ++ flat_map segment_bytes ss) c.segments.ensures
    ∙ ap (λ (xs : List ℕ). xs ++ flat_map segment_bytes (segments image)) (c.in_ok-put_file_header.ensures ∙ ap (λ (xs : List ℕ). xs ++ file_header image) c.in_ok-bytes.ensures.items)
