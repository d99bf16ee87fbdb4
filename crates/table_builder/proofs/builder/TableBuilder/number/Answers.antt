use Rattle.std.proofs.Common.{◌∙◌, sym}
use Rattle.table_builder.proofs.Meaning.{meant}
use Rattle.table_builder.proofs.builder.TableBuilder.number.Goals as goal

pub returns-clause-shape : goal.returns-clause-shape
returns-clause-shape c = meant _ _ _ c.requires.built.sound c.in-Some.n c.args.of (c.requires.built.index.says c.args.of c.in-Some.n (sym c.find.ensures ∙ c.in-Some.is))
