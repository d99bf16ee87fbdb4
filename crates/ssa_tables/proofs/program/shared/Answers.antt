use Rattle.std.proofs.Common.{◌≡◌, ◌+◌, ◌*◌, ◌≤◌, ℕ, List, length, map, ap, ap₂, ◌∙◌, refl, arith}
use Rattle.ob_types.specs.Layout.{types_of}
use Rattle.ob_types.specs.Meaning.{texts_of}
use Rattle.ob_types.specs.Trees.{tree_extent, data_tree}
use Rattle.ob_types.specs.declared.types.Extent.{Extent}
use Rattle.ob_types.specs.declared.types.RecordType.{RecordType}
use Rattle.ssa_lowered.specs.Data.{layout, within}
use Rattle.ssa_tables.specs.Places.{starts, size_by, room_by, extent_by, string_size, module_starts, module_finish, field_starts, base_by}
use Rattle.ssa_tables.specs.Strings.{first_strings}
use Rattle.ssa_tables.proofs.Limits.{module_cells_are}
use Rattle.ssa_tables.proofs.Rooms.{globals_length}
use Rattle.ssa_tables.proofs.Serving.{finish_globals, serves_all}
use Rattle.ssa_tables.proofs.program.shared.Goals as goal

pub returns : goal.returns
returns c =
    let p = c.args.program.now in
    let sizes = c.in_ok-sizes.sizes in
    let extents = c.in_ok-extents.extents in
    let taken : (k : ℕ) → extent_by extents k ≡ tree_extent (data_tree p.types k) = c.in_ok-extents.ensures in
    let known : (k : ℕ) → size_by sizes k ≡ (layout p.types).bytes k = (λ k. c.in_ok-sizes.ensures k ∙ ap (λ xs. (extent_by xs k).bytes) c.as_slice.ensures ∙ ap (λ (x : Extent). x.bytes) (taken k)) in
    let place = c.modules_end-descriptors.ensures ∙ ap₂ (λ s ms. module_finish (room_by s) 8 ms) c.as_slice-3.ensures c.as_slice-modules.ensures in
    let few : module_finish (room_by sizes) 8 p.modules ≤ 8388608 =
    let a = finish_globals p sizes known in
    let b = module_cells_are p c.args.type_cells c.requires.known in
    let d = c.requires.few in
    let e = globals_length p in
    omega (arith, a, b, d, e) in
    serves_all p sizes known c.requires.measured.types _ extents c.behind_descriptors-first.result taken few
    (c.in_ok-globals.ensures ∙ ap₂ (λ s ms. module_starts (room_by s) 8 ms) c.as_slice-2.ensures c.as_slice-modules.ensures)
    place c.in_ok-levels.ensures refl c.in_ok-records.ensures c.in_ok-cells.ensures c.requires.known
    (c.in_ok-offsets.ensures ∙ ap₂ (λ xs rs. map (λ (r : RecordType). field_starts (extent_by xs) (base_by rs r.base) (types_of r.fields)) p.types.records) c.as_slice-4.ensures (c.as_slice-5.ensures ∙ c.in_ok-records.ensures))
    (c.behind_descriptors-first.ensures ∙ ap₂ (λ d (rs : List RecordType). within (d + 128 * length rs)) place c.records-2.ensures)
    (c.in_ok-texts.ensures ∙ ap (λ qs. starts string_size c.behind_descriptors-first.result (texts_of qs)) c.as_slice-procedures.ensures)
    (c.in_ok-first_texts.ensures ∙ ap (first_strings 0) c.as_slice-procedures.ensures)
