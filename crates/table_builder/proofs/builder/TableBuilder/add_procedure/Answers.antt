use Rattle.std.proofs.Common.{◌≡◌, refl, ap, ◌∙◌, sym, subst, arith, length, take, ◌++◌, ◌∷◌, []}
use Rattle.std.proofs.Math.Seq.{take-append_seam}
use Rattle.table_builder.specs.Index.{Notes}
use Rattle.table_builder.specs.Contents.{contents_of, notes_of, IsConsistent}
use Rattle.table_builder.specs.declared.numbers.TypeNumbers.{TypeNumbers}
use Rattle.table_builder.proofs.Indexing.{restored}
use Rattle.table_builder.proofs.EachCounted.{recounted, one_counted, procedure_before}
use Rattle.table_builder.proofs.Built.{same_contents, known_pushed}
use Rattle.table_builder.proofs.Calls.{signature_new, procedure_next, procedure_built, procedure_shape, notes_same, last_element}
use Rattle.table_builder.proofs.Known.{procedure_grows}
use Rattle.table_builder.proofs.builder.TableBuilder.add_procedure.Goals as goal

pub note_elements-requires : goal.note_elements-requires
note_elements-requires c =
    let n = c.in_ok-n.ensures ∙ ap (λ es. length es) c.deref.ensures.value in
    let l = c.requires.built.counted.as_many in
    omega (arith, n, l)

pub returns-in_err-note_elements-clause-built : goal.returns-in_err-note_elements-clause-built
returns-in_err-note_elements-clause-built c =
    let n = c.in_ok-n.ensures ∙ ap (λ es. length es) c.deref.ensures.value in
    recounted (contents_of c.args.self.now.table c.args.self.now.numbers c.args.self.now.elements.items) c.requires.built c.in_ok-n.n n _ c.in_err-note_elements.ensures.kept c.in_err-note_elements.ensures.as_many

pub returns-in_err-note_procedure-clause-built : goal.returns-in_err-note_procedure-clause-built
returns-in_err-note_procedure-clause-built c =
    let n = c.in_ok-n.ensures ∙ ap (λ es. length es) c.deref.ensures.value in
    let b = contents_of c.args.self.now.table c.args.self.now.numbers c.note_elements.new.elements.items in
    let built = recounted (contents_of c.args.self.now.table c.args.self.now.numbers c.args.self.now.elements.items) c.requires.built c.in_ok-n.n n _ c.in_ok-note_elements.ensures.kept c.in_ok-note_elements.ensures.as_many in
    same_contents b built b.types b.entries b.bases b.layouts _ refl refl refl refl
    (notes_same c.args.self.now.numbers c.note_procedure.new.self c.in_err-note_procedure.ensures.others c.in_err-note_procedure.ensures.same_procedures c.in_err-note_procedure.ensures.same_signatures)

pub push_procedure-requires-clause-new : goal.push_procedure-requires-clause-new
push_procedure-requires-clause-new c =
    let b = contents_of c.args.self.now.table c.args.self.now.numbers c.args.self.now.elements.items in
    signature_new b c.requires.built c.args.signature (ap b.notes.signatures (sym c.requires.parts) ∙ c.requires.new)

pub push_procedure-requires-clause-next : goal.push_procedure-requires-clause-next
push_procedure-requires-clause-next c =
    procedure_next (contents_of c.args.self.now.table c.args.self.now.numbers c.args.self.now.elements.items) c.requires.built c.args.signature c.in_ok-g.g (c.in_ok-g.ensures ∙ ap (λ es. length es) c.signatures.ensures) c.requires.before

pub returns-in-Ok-clause-built : goal.returns-in-Ok-clause-built
returns-in-Ok-clause-built c =
    let n = c.in_ok-n.ensures ∙ ap (λ es. length es) c.deref.ensures.value in
    let was = contents_of c.args.self.now.table c.args.self.now.numbers c.args.self.now.elements.items in
    let b = contents_of c.args.self.now.table c.args.self.now.numbers c.note_elements.new.elements.items in
    let built = recounted was c.requires.built c.in_ok-n.n n _ c.in_ok-note_elements.ensures.kept c.in_ok-note_elements.ensures.as_many in
    let counted = one_counted was c.requires.built c.in_ok-n.n n _ c.in_ok-note_elements.ensures.kept _ (procedure_before _ c.in_ok-g.g) c.in_ok-note_elements.ensures.noted in
    let parts = c.requires.parts in
    subst (λ (s : Notes). IsConsistent (record { types = c.push_procedure.new.table.types; entries = c.push_procedure.new.table.entries.items; bases = c.push_procedure.new.table.bases.items; layouts = c.push_procedure.new.table.layouts.items; notes = s; elements = c.note_elements.new.elements.items }))
    (sym (ap notes_of c.in_ok-note_procedure.ensures.others))
    (procedure_built b built c.args.signature c.in_ok-g.g c.in_ok-n.n (c.in_ok-g.ensures ∙ ap (λ es. length es) c.signatures.ensures) n c.requires.before
    (ap b.notes.signatures (sym parts) ∙ c.requires.new) _ c.args.parts.now parts c.in_ok-note_procedure.ensures.signatures counted
    _ _ _ _ _ c.in-Ok.ensures.types c.in-Ok.ensures.entries (ap (λ bs. bs.items) c.in-Ok.ensures.bases) (ap (λ ls. ls.items) c.in-Ok.ensures.layouts) c.in_ok-note_procedure.ensures.procedures c.in-Ok.ensures.sound)

pub returns-in-Ok-clause-grows : goal.returns-in-Ok-clause-grows
returns-in-Ok-clause-grows c = procedure_grows c.args.self.now.table c.push_procedure.new.table c.requires.built.sound c.in-Ok.ensures.sound c.in_ok-g.g c.args.signature c.in-Ok.ensures.types c.in-Ok.ensures.entries

pub returns-in-Ok-clause-known : goal.returns-in-Ok-clause-known
returns-in-Ok-clause-known c =
    known_pushed c.args.self.now.table c.push_procedure.new.table (procedure_grows c.args.self.now.table c.push_procedure.new.table c.requires.built.sound c.in-Ok.ensures.sound c.in_ok-g.g c.args.signature c.in-Ok.ensures.types c.in-Ok.ensures.entries)
    c.requires.built.layouts c.in-Ok.ensures.layouts c.in-Ok.ensures.bases

pub returns-in-Ok-clause-element : goal.returns-in-Ok-clause-element
returns-in-Ok-clause-element c = last_element _ _ _ c.in-Ok.ensures.entries refl

pub returns-in-Ok-clause-shape : goal.returns-in-Ok-clause-shape
returns-in-Ok-clause-shape c =
    procedure_shape c.args.self.now.table c.push_procedure.new.table c.requires.built.sound c.in-Ok.ensures.sound c.in_ok-g.g c.args.signature (c.in_ok-g.ensures ∙ ap (λ es. length es) c.signatures.ensures) c.in-Ok.ensures.types c.in-Ok.ensures.entries c.requires.before

pub returns-in-Err-clause-built : goal.returns-in-Err-clause-built
returns-in-Err-clause-built c =
    let n = c.in_ok-n.ensures ∙ ap (λ es. length es) c.deref.ensures.value in
    let b = contents_of c.args.self.now.table c.args.self.now.numbers c.note_elements.new.elements.items in
    let built = recounted (contents_of c.args.self.now.table c.args.self.now.numbers c.args.self.now.elements.items) c.requires.built c.in_ok-n.n n _ c.in_ok-note_elements.ensures.kept c.in_ok-note_elements.ensures.as_many in
    let count : c.in_ok-g.g ≡ length b.notes.procedures = c.in_ok-g.ensures ∙ ap (λ es. length es) c.signatures.ensures ∙ sym c.requires.built.procedures in
    let procedures : c.truncate.new.self.items ≡ b.notes.procedures =
    c.truncate.ensures.items ∙ ap (take c.in_ok-g.g) c.in_ok-note_procedure.ensures.procedures ∙ ap (λ n. take n (b.notes.procedures ++ c.in_ok-n.n ∷ [])) count ∙ take-append_seam b.notes.procedures (c.in_ok-n.n ∷ []) in
    same_contents b built _ _ _ _ _ c.in-Err.ensures.same_types c.in-Err.ensures.same_entries (ap (λ bs. bs.items) c.in-Err.ensures.bases) (ap (λ ls. ls.items) c.in-Err.ensures.layouts)
    (notes_same c.args.self.now.numbers _ (ap (λ (n : TypeNumbers). record n { procedures = c.truncate.new.self; signatures = c.forget.new.map }) c.in_ok-note_procedure.ensures.others) procedures
    (restored c.args.parts.now c.in_ok-g.g b.notes.signatures _ _ c.requires.new c.in_ok-note_procedure.ensures.signatures c.forget.ensures))
