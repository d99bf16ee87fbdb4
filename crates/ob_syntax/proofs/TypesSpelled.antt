-- Types are spelled by trees of the grammar.
use Rattle.ob_grammar.specs.Grammar as G
use Rattle.ob_grammar.specs.Grammar.{part, ◌·◌, opt, many}
use Rattle.ob_syntax.specs.NameText.{next_ident_text}
use Rattle.ob_syntax.specs.ExpressionText.{next_expression_text}
use Rattle.ob_syntax.specs.TypeText.{type_tree_text, record_type_text, base_text, next_fields_text, formals_text, sections_text, next_section_text, result_type_text, section_text, open_array_text, next_fields_row, held_fields_text}
use Rattle.ob_syntax.specs.declared.types.TypeTree.{TypeTree}
use Rattle.ob_syntax.specs.declared.types.TypeTree.TheVariants as TheTypeTree
use Rattle.ob_syntax.specs.declared.types.RecordType.{RecordType, RecordType', Row_of-NextFields, end_of-NextFields, more_of-NextFields}
use Rattle.ob_syntax.specs.declared.types.Base.{Base}
use Rattle.ob_syntax.specs.declared.types.NextFields.{NextFields, NextFields', Held-NextFields-fields, None', Some'}
use Rattle.ob_syntax.specs.declared.types.Formals.{Formals}
use Rattle.ob_syntax.specs.declared.types.Sections.{Sections}
use Rattle.ob_syntax.specs.declared.types.NextSection.{NextSection}
use Rattle.ob_syntax.specs.declared.types.ResultType.{ResultType}
use Rattle.ob_syntax.specs.declared.types.Section.{Section}
use Rattle.ob_syntax.specs.declared.types.OpenArray.{OpenArray}
use Rattle.ob_syntax.proofs.NamesSpelled.{qualident, idents, next_ident}
use Rattle.ob_syntax.proofs.ExpressionsSpelled.{next_expression, expression}
use Rattle.ob_syntax.proofs.Spelled.{Spelled, symbol, ◌then◌, left, right, there, absent, again, done, named, within, maybe_symbol, if_there, all}

abbrev pub base : (x : Base) → Spelled (G.left_paren · part G.qualident · G.right_paren) (base_text x)
base x = symbol x.left_paren then qualident x.name then symbol x.right_paren

abbrev pub open_array : (x : OpenArray) → Spelled (G.ARRAY · G.OF) (open_array_text x)
open_array x = symbol x.array_word then symbol x.of_word

abbrev pub section : (x : Section) → Spelled (part G.section) (section_text x)
section x = named (maybe_symbol x.var_word then symbol x.first
    then all next_ident_text (next_ident) x.more.items then symbol x.colon
    then if_there open_array_text (open_array) x.open_array then qualident x.of)

abbrev pub next_section : (x : NextSection) → Spelled (G.semicolon · part G.section) (next_section_text x)
next_section x = symbol x.semicolon then section x.section

abbrev pub sections : (x : Sections) → Spelled (part G.section · many (G.semicolon · part G.section)) (sections_text x)
sections x = section x.first then all next_section_text (next_section) x.more.items

abbrev pub result_type : (x : ResultType) → Spelled (G.colon · part G.qualident) (result_type_text x)
result_type x = symbol x.colon then qualident x.name

abbrev pub formals : (x : Formals) → Spelled (part G.formals) (formals_text x)
formals x = named (symbol x.left_paren then if_there sections_text (sections) x.sections
    then symbol x.right_paren then if_there result_type_text (result_type) x.result)

abbrev mutual
  pub type_tree : (x : TypeTree) → Spelled (part G.type) (type_tree_text x)
  type_tree (TheTypeTree.Named x) = named (left (qualident x))
  type_tree (TheTypeTree.Array' i first more j _ x) = named (right (left (within i (expression first
      then all next_expression_text (next_expression) more.items then symbol j then type_tree x))))
  type_tree (TheTypeTree.Record x) = named (right (right (left (record_type x))))
  type_tree (TheTypeTree.Pointer' i j _ x) = named (right (right (right (left (within i (symbol j
      then type_tree x))))))
  type_tree (TheTypeTree.Procedure x) = named (right (right (right (right (within x.procedure_word (if_there formals_text (formals) x.formals))))))

  pub record_type : (x : RecordType) → Spelled (G.opening G.RECORD (opt (G.left_paren · part G.qualident
      · G.right_paren) · opt (part G.fields) · many (G.semicolon · opt (part G.fields))
      · G.END)) (record_type_text x)
  record_type (RecordType' i b first _ more j) = within i (if_there base_text (base) b
      then held_fields first then next_fields_all more then symbol j)

  pub held_fields : (x : Held-NextFields-fields) → Spelled (opt (part G.fields)) (held_fields_text x)
  held_fields None' = absent
  held_fields (Some' names i _ x) = there (named (idents names then symbol i then type_tree x))

  pub next_fields_all : {m : _} (x : Row_of-NextFields m) → Spelled (many (G.semicolon
      · opt (part G.fields))) (next_fields_row x)
  next_fields_all end_of-NextFields = done
  next_fields_all (more_of-NextFields x rest) = again (next_fields x) (next_fields_all rest)

  pub next_fields : (x : NextFields) → Spelled (G.semicolon · opt (part G.fields)) (next_fields_text x)
  next_fields (NextFields' i x) = symbol i then held_fields x
