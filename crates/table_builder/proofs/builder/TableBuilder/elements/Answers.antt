use Rattle.std.proofs.Common.{arith}
use Rattle.std.proofs.lemmas.Option.{slice_get_within}
use Rattle.table_builder.proofs.Lists.{read_there}
use Rattle.table_builder.proofs.EachCounted.{elements_told, so_few}
use Rattle.table_builder.proofs.builder.TableBuilder.elements.Goals as goal

pub returns : goal.returns
returns c =
    let b = c.args.self.now in
    let n = c.number-n.result in
    let within = slice_get_within b.table.entries.items n c.args.of c.number-n.ensures.entry in
    let many = c.requires.built.counted.as_many in
    let told = elements_told b.table.types b.table.entries.items b.table.bases.items c.requires.built.sound b.elements.items c.requires.built.counted n c.args.of c.number-n.ensures.entry
    c.index.result.now (read_there b.elements.items n c.index.result.now (omega (arith, within, many)) c.index.ensures) in
    record { count = told.count; small = so_few _ _ told.count; innermost = told.inner; there = told.there; single = told.no_array }
