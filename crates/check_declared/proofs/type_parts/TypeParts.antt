-- The syntax of types, from the parts that code takes out of them.
use Rattle.std.proofs.Common.{◌≡◌, ℕ, List, ◌∷◌, Vec, Global, Option, Some, None, refl, sym, ap, ap₂, ◌∙◌}
use Rattle.ob_syntax.specs.Syntax as S
use Rattle.ob_syntax.specs.Plain.{plain_type, plain_fields, plain_next_fields, plain_expression, plain_each_expression}
use Rattle.ob_syntax.specs.declared.types.TypeTree.TheVariants as TheTypeTree
use Rattle.ob_syntax.specs.declared.types.ArrayType.{ArrayType}
use Rattle.ob_syntax.specs.declared.types.PointerType.{PointerType}
use Rattle.ob_syntax.specs.declared.types.RecordType.{RecordType, RecordType', out-RecordType, roll-out-RecordType, roll-RecordType, rolls-RecordType', Row_of-NextFields, end_of-NextFields, more_of-NextFields, items-the_row-NextFields, items_hidden-the_row-NextFields-0, back-NextFields-fields}
use Rattle.ob_syntax.specs.declared.types.Base.{Base}
use Rattle.ob_syntax.specs.declared.types.Fields.{Fields}
use Rattle.ob_syntax.specs.declared.types.NextFields.{NextFields, NextFields', out-NextFields, roll-out-NextFields, roll-NextFields, rolls-NextFields'}
use Rattle.ob_syntax.specs.declared.types.TypeTree.TheBlock.{hidden-the_row-NextFields-0}
use Rattle.check_declared.specs.type_parts.TypeSyntax.{plain_maybe_fields, plain_each_fields, plain_record}

pub array_parts : (x : ArrayType) → plain_type (TheTypeTree.Array x) ≡ S.Array x.array_word (plain_expression x.first) (plain_each_expression x.more.items) x.of_word (plain_type x.element.value)
array_parts x = refl

pub pointer_parts : (x : PointerType) → plain_type (TheTypeTree.Pointer x) ≡ S.Pointer x.pointer_word x.to_word (plain_type x.base.value)
pointer_parts x = refl

fields_held : (o : Option Fields) → plain_fields (back-NextFields-fields o) ≡ plain_maybe_fields o
fields_held None = refl
fields_held (Some x) = refl

fields_are : (m : _) (row : Row_of-NextFields m) → plain_next_fields row ≡ plain_each_fields (items-the_row-NextFields m row)
fields_are m end_of-NextFields = refl
fields_are m (more_of-NextFields (NextFields' i x) rest) = ap (S.next_fields i (plain_fields x)) (fields_are _ rest)

record_is : (i : ℕ) (base : Option Base) (first : Option Fields) (more : Vec NextFields Global) (j : ℕ) →
    plain_record (roll-RecordType (record { record_word = i; base = base; first = first; more = more; end_word = j })) ≡ S.Record i base (plain_maybe_fields first) (plain_each_fields more.items) j
record_is i base first more j =
    ap (λ e. plain_record e) (rolls-RecordType' (record { record_word = i; base = base; first = first; more = more; end_word = j }))
    ∙ ap₂ (λ a b. S.Record i base a b j) (fields_held first) (fields_are _ (hidden-the_row-NextFields-0 more) ∙ ap (λ xs. plain_each_fields xs) (items_hidden-the_row-NextFields-0 more))

record_held : (x : RecordType) → plain_type (TheTypeTree.Record x) ≡ plain_record x
record_held (RecordType' i b first k more j) = refl

pub record_parts : (x : RecordType) → plain_type (TheTypeTree.Record x) ≡ S.Record (out-RecordType x).record_word (out-RecordType x).base (plain_maybe_fields (out-RecordType x).first) (plain_each_fields (out-RecordType x).more.items) (out-RecordType x).end_word
record_parts x = let o = out-RecordType x in record_held x ∙ ap (λ e. plain_record e) (sym (roll-out-RecordType x)) ∙ record_is o.record_word o.base o.first o.more o.end_word

next_fields_is : (i : ℕ) (fields : Option Fields) (xs : List NextFields) → plain_each_fields (roll-NextFields (record { semicolon = i; fields = fields }) ∷ xs) ≡ S.next_fields i (plain_maybe_fields fields) (plain_each_fields xs)
next_fields_is i fields xs =
    ap (λ e. plain_each_fields (e ∷ xs)) (rolls-NextFields' (record { semicolon = i; fields = fields }))
    ∙ ap (λ f. S.next_fields i f (plain_each_fields xs)) (fields_held fields)

pub next_fields_parts : (x : NextFields) (xs : List NextFields) → plain_each_fields (x ∷ xs) ≡ S.next_fields (out-NextFields x).semicolon (plain_maybe_fields (out-NextFields x).fields) (plain_each_fields xs)
next_fields_parts x xs = ap (λ e. plain_each_fields (e ∷ xs)) (sym (roll-out-NextFields x)) ∙ next_fields_is (out-NextFields x).semicolon (out-NextFields x).fields xs
