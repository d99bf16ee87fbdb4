use Rattle.std.proofs.Common.{◌≡◌, sym, ap, ◌∙◌, get_or}
use Rattle.ob_types.specs.Layout.{kind_of}
use Rattle.ob_types.specs.declared.types.TypeKind.TheVariants.{Int, Nothing}
use Rattle.ob_types.specs.declared.types.TypeKind.TheVariants.{Record as RecordOf}
use Rattle.ob_types.proofs.Counting.{cells-record}
use Rattle.ssa_tables.proofs.Levels.{default_any}
use Rattle.ssa_tables.proofs.sizes.own_cells.Goals as goal

pub returns-in-Record : goal.returns-in-Record
returns-in-Record c =
    let t = c.args.types.now in
    let is : kind_of t c.args.at ≡ RecordOf c.in-Record.r = default_any t.kinds c.args.at Nothing Int c.requires.there ∙ sym (ap (λ ks. get_or ks c.args.at Int) c.kinds.ensures) ∙ c.in-Record.is in
    c.record_cells.ensures ∙ sym (cells-record t c.requires.sizes.fine c.args.at c.in-Record.r c.requires.there is)
