-- What types and formal parameters spell, by their fields.
use Rattle.std.proofs.Common.{◌≡◌, sym, ap, ◌∙◌}
use Rattle.ob_grammar.specs.Grammar as G
use Rattle.ob_syntax.specs.Leaves.{leaf, optional, each, ◌⧺◌}
use Rattle.ob_syntax.specs.TypeText.{record_type_text, base_text, fields_text, next_fields_text}
use Rattle.ob_syntax.specs.declared.types.RecordType.{RecordType, out-RecordType, roll-out-RecordType}
use Rattle.ob_syntax.specs.declared.types.NextFields.{NextFields, out-NextFields, roll-out-NextFields}
use Rattle.ob_syntax.proofs.TypeTexts.{record_type_is, next_fields_is}

pub record_type_parts : (x : RecordType) →
    record_type_text x
    ≡ leaf G.RECORD (out-RecordType x).record_word ⧺ optional base_text (out-RecordType x).base
    ⧺ optional fields_text (out-RecordType x).first ⧺ each next_fields_text (out-RecordType x).more.items
    ⧺ leaf G.END (out-RecordType x).end_word
record_type_parts x =
    ap record_type_text (sym (roll-out-RecordType x))
    ∙ record_type_is (out-RecordType x).record_word (out-RecordType x).base (out-RecordType x).first (out-RecordType x).more (out-RecordType x).end_word

pub next_fields_parts : (x : NextFields) →
    next_fields_text x
    ≡ leaf G.semicolon (out-NextFields x).semicolon ⧺ optional fields_text (out-NextFields x).fields
next_fields_parts x =
    ap next_fields_text (sym (roll-out-NextFields x))
    ∙ next_fields_is (out-NextFields x).semicolon (out-NextFields x).fields
