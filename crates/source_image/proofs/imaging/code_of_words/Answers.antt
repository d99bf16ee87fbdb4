use Rattle.std.proofs.Common.{arith}
use Rattle.image_file.proofs.Numbers.{words_fit}
use Rattle.source_image.proofs.imaging.code_of_words.Goals as goal

pub returns : goal.returns
returns c = words_fit c.args.code.now (λ i. omega (arith, c.type_inv.code i))
