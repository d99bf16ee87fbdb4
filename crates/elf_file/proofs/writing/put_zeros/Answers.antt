use Rattle.std.proofs.Common.{◌≡◌, ℕ, List, length, ap, ◌-◌, ◌++◌, ◌∙◌, arith}
use Rattle.std.specs.Prelude.{replicate, vec_len}
use Rattle.std.proofs.lemmas.List.{take_all}
use Rattle.elf_file.specs.Spelling.{zeros}
use Rattle.elf_file.proofs.writing.put_zeros.Goals as goal

pub returns : goal.returns
unfolding zeros
returns c =
    let out = c.args.out.now in
    let long : vec_len out ≡ length out.items = omega arith in
    c.in_ok-resize.ensures.items
    ∙ ap (λ (xs : List ℕ). xs ++ replicate (c.args.end - vec_len out) 0) (take_all c.args.end out.items c.requires)
    ∙ ap (λ (n : ℕ). out.items ++ replicate (c.args.end - n) 0) long
