use Rattle.std.proofs.Common.{◌≡◌, ◌∙◌, sym, ap, refl, arith, length, Option, Some, None, true, false, ℕ}
use Rattle.std.specs.Prelude.{is_some}
use Rattle.ob_types.proofs.Tests.{no}
use Rattle.table_builder.specs.Contents.{contents_of}
use Rattle.table_builder.proofs.Lists.{get_last}
use Rattle.table_builder.proofs.EachCounted.{recounted, one_counted}
use Rattle.table_builder.proofs.Built.{array_next, array_before, same_contents, same_arrays, array_built, array_restored, table_pushed, known_pushed}
use Rattle.table_builder.proofs.builder.TableBuilder.add_array.Goals as goal

none_of : (o : Option ℕ) → is_some o ≡ false → o ≡ None
none_of None h = refl
none_of (Some n) h = no (sym h)

some_of : (o : Option ℕ) → is_some o ≡ true → (n : ℕ) × (o ≡ Some n)
some_of None h = no h
some_of (Some n) h = (n, refl)

pub returns-then-is_some-clause-numbered : goal.returns-then-is_some-clause-numbered
returns-then-is_some-clause-numbered c =
    let n = some_of c.find.result (sym c.is_some.ensures ∙ c.if-is_some.true) in
    (n.0, c.requires.built.index.says c.args.of n.0 (sym c.find.ensures ∙ n.1))

pub note_elements-requires : goal.note_elements-requires
note_elements-requires c =
    let n = c.in_ok-n.ensures ∙ ap (λ es. length es) c.deref.ensures.value in
    let l = c.requires.built.counted.as_many in
    omega (arith, n, l)

pub returns-in_err-note_elements-clause-built : goal.returns-in_err-note_elements-clause-built
returns-in_err-note_elements-clause-built c =
    let n = c.in_ok-n.ensures ∙ ap (λ es. length es) c.deref.ensures.value in
    recounted (contents_of c.args.self.now.table c.args.self.now.numbers c.args.self.now.elements.items) c.requires.built c.in_ok-n.n n _ c.in_err-note_elements.ensures.kept c.in_err-note_elements.ensures.as_many

pub returns-in_err-note-clause-built : goal.returns-in_err-note-clause-built
returns-in_err-note-clause-built c =
    let n = c.in_ok-n.ensures ∙ ap (λ es. length es) c.deref.ensures.value in
    let b = contents_of c.args.self.now.table c.args.self.now.numbers c.note_elements.new.elements.items in
    let built = recounted (contents_of c.args.self.now.table c.args.self.now.numbers c.args.self.now.elements.items) c.requires.built c.in_ok-n.n n _ c.in_ok-note_elements.ensures.kept c.in_ok-note_elements.ensures.as_many in
    same_contents b built b.types b.entries b.bases b.layouts _ refl refl refl refl (same_arrays b.notes _ c.in_err-note.ensures.err)

pub returns-in-Ok-clause-built : goal.returns-in-Ok-clause-built
returns-in-Ok-clause-built c =
    let none = sym c.find.ensures ∙ none_of c.find.result (sym c.is_some.ensures ∙ c.if-is_some.false) in
    let n = c.in_ok-n.ensures ∙ ap (λ es. length es) c.deref.ensures.value in
    let was = contents_of c.args.self.now.table c.args.self.now.numbers c.args.self.now.elements.items in
    let b = contents_of c.args.self.now.table c.args.self.now.numbers c.note_elements.new.elements.items in
    let built = recounted was c.requires.built c.in_ok-n.n n _ c.in_ok-note_elements.ensures.kept c.in_ok-note_elements.ensures.as_many in
    let counted = one_counted was c.requires.built c.in_ok-n.n n _ c.in_ok-note_elements.ensures.kept c.args.of
    (array_before was c.requires.built c.args.of c.args.parts.now c.requires.array) c.in_ok-note_elements.ensures.noted in
    array_built b built c.args.of c.args.parts.now c.requires.array none c.requires.elements counted _ c.in_ok-n.n n c.in_ok-note.ensures.ok _ _ _ _
    c.in-Ok.ensures.types c.in-Ok.ensures.entries (ap (λ bs. bs.items) c.in-Ok.ensures.bases) (ap (λ ls. ls.items) c.in-Ok.ensures.layouts)

pub returns-in-Ok-clause-grows : goal.returns-in-Ok-clause-grows
returns-in-Ok-clause-grows c =
    table_pushed c.args.self.now.table c.push_entry.new.table c.requires.built.sound c.in-Ok.ensures.sound c.args.of c.in-Ok.ensures.types c.in-Ok.ensures.entries

pub returns-in-Ok-clause-known : goal.returns-in-Ok-clause-known
returns-in-Ok-clause-known c =
    known_pushed c.args.self.now.table c.push_entry.new.table
    (table_pushed c.args.self.now.table c.push_entry.new.table c.requires.built.sound c.in-Ok.ensures.sound c.args.of c.in-Ok.ensures.types c.in-Ok.ensures.entries)
    c.requires.built.layouts c.in-Ok.ensures.layouts c.in-Ok.ensures.bases

pub returns-in-Ok-clause-numbered : goal.returns-in-Ok-clause-numbered
returns-in-Ok-clause-numbered c =
    (length c.args.self.now.table.entries.items, ap (λ es. Rattle.std.specs.Prelude.slice_get es (length c.args.self.now.table.entries.items)) c.in-Ok.ensures.entries ∙ get_last c.args.self.now.table.entries.items c.args.of)

pub returns-in-Err-clause-built : goal.returns-in-Err-clause-built
returns-in-Err-clause-built c =
    let none = sym c.find.ensures ∙ none_of c.find.result (sym c.is_some.ensures ∙ c.if-is_some.false) in
    let n = c.in_ok-n.ensures ∙ ap (λ es. length es) c.deref.ensures.value in
    let b = contents_of c.args.self.now.table c.args.self.now.numbers c.note_elements.new.elements.items in
    let built = recounted (contents_of c.args.self.now.table c.args.self.now.numbers c.args.self.now.elements.items) c.requires.built c.in_ok-n.n n _ c.in_ok-note_elements.ensures.kept c.in_ok-note_elements.ensures.as_many in
    same_contents b built _ _ _ _ _ c.in-Err.ensures.same_types c.in-Err.ensures.same_entries (ap (λ bs. bs.items) c.in-Err.ensures.bases) (ap (λ ls. ls.items) c.in-Err.ensures.layouts)
    (same_arrays b.notes _ (array_restored b built c.args.of c.args.parts.now c.requires.array none c.in_ok-n.n _ _ c.in_ok-note.ensures.ok c.forget.ensures))

pub push_entry-requires : goal.push_entry-requires
push_entry-requires c =
    let none = sym c.find.ensures ∙ none_of c.find.result (sym c.is_some.ensures ∙ c.if-is_some.false) in
    record { sound = c.requires.built.sound; next = array_next (contents_of c.args.self.now.table c.args.self.now.numbers c.args.self.now.elements.items) c.requires.built c.args.of c.args.parts.now c.requires.array none }
