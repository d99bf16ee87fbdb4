use Rattle.std.proofs.Common.{◌≡◌, ◌∙◌, ◌+◌, ap, sym}
use Rattle.std.specs.Prelude.{[]}
use Rattle.ob_types.specs.Layout.{record_cells}
use Rattle.ob_types.specs.Meaning.{kind_in, record_of_kind}
use Rattle.block_runs.specs.declared.code.Code.TheVariants.{Global}
use Rattle.ssa_lowered.specs.Data.{layout, rounded}
use Rattle.ssa_lowered.specs.Lowered.{descriptor}
use Rattle.ssa_lowered.specs.Pieces.{emits}
use Rattle.ssa_lowered.specs.Values.{const}
use Rattle.ssa_exprs.specs.Tables.{record_in, cells_in, descriptor_in}
use Rattle.ssa_exprs.proofs.Giving.{gives_as}
use Rattle.ssa_statements.proofs.Straight.{steps_new}
use Rattle.ssa_statements.proofs.simple.make.Goals as goal

pub returns : goal.returns
returns c = λ p here s.
    let d = c.args.d.now in
    let r = record_of_kind (kind_in d) in
    let r_is : c.record_of_kind-r.result ≡ r = c.record_of_kind-r.ensures ∙ ap record_of_kind c.kind_in.ensures in
    let cells_is : c.from-cells.result ≡ record_cells p.types r = c.from-cells.ensures ∙ c.record_cells.ensures ∙ ap (cells_in c.args.t.now.program.now) r_is ∙ s.cells r in
    let bytes_is : c.from-bytes.result ≡ (layout p.types).record_bytes r = c.from-bytes.ensures ∙ c.record.ensures ∙ ap (record_in c.args.t.now.program.now) r_is ∙ s.whole r in
    let global_is : c.descriptor.result ≡ descriptor p (layout p.types) here r = c.descriptor.ensures ∙ ap (descriptor_in c.args.t.now.program.now) r_is ∙ s.descriptor r in
    steps_new (record_cells p.types r) (rounded ((layout p.types).record_bytes r)) (descriptor p (layout p.types) here r) (c.in_ok-h.ensures p here s)
    (gives_as (ap (λ n. const (n + 1)) (sym cells_is)) c.in_ok-n.ensures)
    (gives_as (ap (λ n. const (rounded n + 8)) (sym bytes_is)) c.in_ok-m.ensures)
    (gives_as (ap (λ n. emits (Global n) []) (sym global_is)) c.in_ok-g.ensures)
    c.in_ok-p.ensures c.in_ok-change.ensures
