-- The syntax of the parts of types that hold lists and options.
use Rattle.std.specs.Prelude.{List, [], ◌∷◌, Option, Some, None}
use Rattle.ob_syntax.specs.Syntax as S
use Rattle.ob_syntax.specs.Plain.{plain_idents, plain_type, plain_fields, plain_next_fields}
use Rattle.ob_syntax.specs.declared.types.Fields.{Fields}
use Rattle.ob_syntax.specs.declared.types.NextFields.{NextFields, NextFields'}
use Rattle.ob_syntax.specs.declared.types.RecordType.{RecordType, RecordType'}

abbrev pub plain_maybe_fields : Option Fields → S.MaybeFields
plain_maybe_fields None = S.no_fields
plain_maybe_fields (Some x) = S.fields (plain_idents x.names) x.colon (plain_type x.of.value)

-- further fields
abbrev pub plain_each_fields : List NextFields → S.NextFields
plain_each_fields [] = S.no_more_fields
plain_each_fields (NextFields' i x ∷ xs) = S.next_fields i (plain_fields x) (plain_each_fields xs)

-- a record type by itself
abbrev pub plain_record : RecordType → S.TypeTree
plain_record (RecordType' i b first _ more j) = S.Record i b (plain_fields first) (plain_next_fields more) j
