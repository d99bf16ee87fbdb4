use Rattle.std.proofs.Common.{◌/◌, ◌%◌, ℕ, List, Some, get_or, sym, ap, ◌∙◌, arith}
use Rattle.image_file.specs.Spelling.{number}
use Rattle.image_file.proofs.Layouts.{byte_of_words, got}
use Rattle.image_file.proofs.differing.byte_in.Goals as goal

pub returns : goal.returns
returns c =
    let word = get_or c.args.words.now (c.args.at / 4) 0 in
    byte_of_words c.args.words.now c.args.at c.requires ∙ got (number word) (c.args.at % 4) 0 (omega arith) ∙ ap (λ (bs : List ℕ). Some (get_or bs (c.args.at % 4) 0)) (sym c.to_le_bytes.ensures)
