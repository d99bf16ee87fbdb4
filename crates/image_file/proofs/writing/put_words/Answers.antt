use Rattle.std.proofs.Common.{arith}
use Rattle.image_file.proofs.Numbers.{words_fit}
use Rattle.image_file.proofs.writing.put_words.Goals as goal

pub returns-clause-words : goal.returns-clause-words
returns-clause-words c = words_fit c.args.code.now (λ i. omega (arith, c.type_inv.code i))
