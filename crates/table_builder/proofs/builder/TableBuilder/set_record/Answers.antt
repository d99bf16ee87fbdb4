use Rattle.std.proofs.Common.{ap, arith}
use Rattle.table_builder.specs.Contents.{contents_of}
use Rattle.table_builder.proofs.Calls.{layout_built, as_many}
use Rattle.table_builder.proofs.Known.{layout_grows, known_layout}
use Rattle.table_builder.proofs.builder.TableBuilder.set_record.Goals as goal

pub set_layout-requires-clause-declared : goal.set_layout-requires-clause-declared
set_layout-requires-clause-declared c =
    let e = as_many _ _ _ c.requires.built.layouts in
    let l = c.requires.there in
    omega (arith, e, l)

pub returns-clause-built : goal.returns-clause-built
returns-clause-built c =
    layout_built (contents_of c.args.self.now.table c.args.self.now.numbers c.args.self.now.elements.items) c.requires.built _ _ _ _ c.args.r c.in_ok-declared.declared c.args.layout c.in_ok-declared.ensures c.requires.ready.closed
    c.set_layout.ensures.types (ap (λ es. es.items) c.set_layout.ensures.entries) (ap (λ bs. bs.items) c.set_layout.ensures.bases) c.set_layout.ensures.layouts

pub returns-clause-grows : goal.returns-clause-grows
returns-clause-grows c = layout_grows c.args.self.now.table c.set_layout.new.table c.requires.built.sound c.set_layout.ensures.sound _ c.set_layout.ensures.types (ap (λ es. es.items) c.set_layout.ensures.entries)

pub returns-clause-known : goal.returns-clause-known
returns-clause-known c =
    known_layout c.args.self.now.table c.set_layout.new.table (layout_grows c.args.self.now.table c.set_layout.new.table c.requires.built.sound c.set_layout.ensures.sound _ c.set_layout.ensures.types (ap (λ es. es.items) c.set_layout.ensures.entries))
    c.requires.built.layouts c.args.r c.in_ok-declared.declared c.args.layout c.in_ok-declared.ensures c.requires.ready.closed c.set_layout.ensures.layouts (ap (λ bs. bs.items) c.set_layout.ensures.bases)
