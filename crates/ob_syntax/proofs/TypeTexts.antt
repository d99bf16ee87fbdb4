-- What a type that code makes spells: from the parts that it is made of.
use Rattle.std.proofs.Common.{◌≡◌, ℕ, Vec, Global, Option, Some, None, refl, ap, ◌∙◌}
use Rattle.ob_grammar.specs.Grammar as G
use Rattle.ob_syntax.specs.Leaves.{leaf, optional, each, ◌⧺◌}
use Rattle.ob_syntax.specs.TypeText.{type_tree_text, array_type_text, record_type_text, base_text, fields_text, next_fields_text, pointer_type_text, next_fields_row, held_fields_text}
use Rattle.ob_syntax.specs.declared.types.TypeTree.TheVariants as TheTypeTree
use Rattle.ob_syntax.specs.declared.types.ArrayType.{ArrayType}
use Rattle.ob_syntax.specs.declared.types.RecordType.{roll-RecordType, rolls-RecordType', Row_of-NextFields, end_of-NextFields, more_of-NextFields, items-the_row-NextFields, items_hidden-the_row-NextFields-0, back-NextFields-fields}
use Rattle.ob_syntax.specs.declared.types.Base.{Base}
use Rattle.ob_syntax.specs.declared.types.Fields.{Fields}
use Rattle.ob_syntax.specs.declared.types.NextFields.{NextFields, roll-NextFields, rolls-NextFields'}
use Rattle.ob_syntax.specs.declared.types.PointerType.{PointerType}
use Rattle.ob_syntax.specs.declared.types.TypeTree.TheBlock.{hidden-the_row-NextFields-0}

pub held_fields_is : (x : Option Fields) → held_fields_text (back-NextFields-fields x) ≡ optional fields_text x
held_fields_is None = refl
held_fields_is (Some x) = refl

next_fields_row_are : (m : _) (row : Row_of-NextFields m) → next_fields_row row ≡ each next_fields_text (items-the_row-NextFields m row)
next_fields_row_are m end_of-NextFields = refl
next_fields_row_are m (more_of-NextFields x rest) = ap (λ t. next_fields_text x ⧺ t) (next_fields_row_are _ rest)

pub next_fields_row_is : (xs : Vec NextFields Global) → next_fields_row (hidden-the_row-NextFields-0 xs) ≡ each next_fields_text xs.items
next_fields_row_is xs = next_fields_row_are _ (hidden-the_row-NextFields-0 xs) ∙ ap (each next_fields_text) (items_hidden-the_row-NextFields-0 xs)

pub type_array_is : (x : ArrayType) → type_tree_text (TheTypeTree.Array x) ≡ array_type_text x
type_array_is x = refl

pub type_pointer_is : (x : PointerType) → type_tree_text (TheTypeTree.Pointer x) ≡ pointer_type_text x
type_pointer_is x = refl

pub record_type_is : (record_word : ℕ) (base : Option Base) (first : Option Fields) (more : Vec NextFields Global) (end_word : ℕ) →
    record_type_text (roll-RecordType (record { record_word = record_word; base = base; first = first; more = more; end_word = end_word }))
    ≡ leaf G.RECORD record_word ⧺ optional base_text base ⧺ optional fields_text first ⧺ each next_fields_text more.items
    ⧺ leaf G.END end_word
record_type_is record_word base first more end_word =
    ap record_type_text (rolls-RecordType' (record { record_word = record_word; base = base; first = first; more = more; end_word = end_word }))
    ∙ ap (λ t. leaf G.RECORD record_word ⧺ optional base_text base ⧺ t
    ⧺ next_fields_row (hidden-the_row-NextFields-0 more) ⧺ leaf G.END end_word) (held_fields_is first)
    ∙ ap (λ t. leaf G.RECORD record_word ⧺ optional base_text base ⧺ optional fields_text first ⧺ t
    ⧺ leaf G.END end_word) (next_fields_row_is more)

pub next_fields_is : (semicolon : ℕ) (fields : Option Fields) →
    next_fields_text (roll-NextFields (record { semicolon = semicolon; fields = fields }))
    ≡ leaf G.semicolon semicolon ⧺ optional fields_text fields
next_fields_is semicolon fields =
    ap next_fields_text (rolls-NextFields' (record { semicolon = semicolon; fields = fields }))
    ∙ ap (λ t. leaf G.semicolon semicolon ⧺ t) (held_fields_is fields)
