use Rattle.std.proofs.Common.{ap}
use Rattle.table_builder.specs.Contents.{contents_of}
use Rattle.table_builder.proofs.Calls.{pointer_numbered, base_built}
use Rattle.table_builder.proofs.Known.{base_grows, known_pointer}
use Rattle.table_builder.proofs.builder.TableBuilder.set_base.Goals as goal

pub number-n-requires-clause-numbered : goal.number-n-requires-clause-numbered
number-n-requires-clause-numbered c = pointer_numbered (contents_of c.args.self.now.table c.args.self.now.numbers c.args.self.now.elements.items) c.requires.built c.args.pointer c.requires.pointer

pub returns-clause-built : goal.returns-clause-built
returns-clause-built c =
    base_built (contents_of c.args.self.now.table c.args.self.now.numbers c.args.self.now.elements.items) c.requires.built _ _ _ _ _ c.args.pointer c.args.r c.set_target.ensures.types (ap (λ es. es.items) c.set_target.ensures.entries) c.set_target.ensures.bases (ap (λ ls. ls.items) c.set_target.ensures.layouts) c.set_target.ensures.sound

pub returns-clause-grows : goal.returns-clause-grows
returns-clause-grows c = base_grows c.args.self.now.table c.set_target.new.table c.requires.built.sound c.set_target.ensures.sound _ c.set_target.ensures.types (ap (λ es. es.items) c.set_target.ensures.entries)

pub returns-clause-known : goal.returns-clause-known
returns-clause-known c =
    known_pointer c.args.self.now.table c.set_target.new.table (base_grows c.args.self.now.table c.set_target.new.table c.requires.built.sound c.set_target.ensures.sound _ c.set_target.ensures.types (ap (λ es. es.items) c.set_target.ensures.entries))
    c.requires.built.layouts _ (ap (λ ls. ls.items) c.set_target.ensures.layouts) c.set_target.ensures.bases
