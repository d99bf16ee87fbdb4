-- What a whole body and its answer come to.
use Rattle.std.proofs.Common.{◌≡◌, ◌≤◌, List, [], length, Option, sym, ap, ◌∙◌, arith}
use Rattle.std.specs.Prelude.{option_map}
use Rattle.std.proofs.lemmas.List.{append-nil}
use Rattle.std.proofs.lemmas.Slice.{between_from_start}
use Rattle.ob_types.specs.Table.{Table}
use Rattle.ob_types.specs.declared.statements.Checked.{Checked}
use Rattle.ob_types.specs.declared.statements.Stmt.{Stmt}
use Rattle.ob_judge.specs.Texts.{Strings, texts_of}
use Rattle.judged_tree.specs.Plain.{plain_body, plain_checked}
use Rattle.check_types.specs.declared.table.TypeTable.{TypeTable}
use Rattle.table_builder.specs.Growing.{Grows}
use Rattle.check_making.specs.scopes.InTurn.{UseInTurn}
use Rattle.check_procedures.specs.numbers.Numbering.{Numbering, NumbersAll, LastsIn, BeginsWith, KeepsMeaning}
use Rattle.check_procedures.specs.numbers.Readings.{pair, bodies, answers}
use Rattle.check_procedures.proofs.numbers.Lasting.{lasts, lasts_on}

-- a body and an answer, what becomes of them, and the uses of strings in them
pub record IsNumbered (n : Numbering) (body made : List Stmt) (answer given : Option Checked) (texts : Strings) : Type 0 where
  pub whole : KeepsMeaning (pair bodies answers) n (record { tree = (body, answer); made = (made, given); before = []; after = texts })
  pub all : NumbersAll n.types

module _ (n : Numbering) (body made : List Stmt) (answer given : Option Checked) (texts : Strings) (h : IsNumbered n body made answer given texts) where
  all_of_them : BeginsWith texts texts
  all_of_them = record { more = []; is = sym (append-nil texts); few = h.whole.few (omega arith) }

  pub texts_are : texts ≡ texts_of (plain_body n.types.types n.texts body) (option_map (plain_checked n.types.types n.texts) answer)
  texts_are = h.whole.added

  pub uses_in_turn : UseInTurn texts made given
  uses_in_turn = record { each = λ v all many few. h.whole.in_turn v all many few ∙ between_from_start all (length texts) }

  body_in : (v : Table) → LastsIn n.types v → plain_body v texts made ≡ plain_body n.types.types n.texts body
  body_in v l = ap (λ p. p.0) (h.whole.same v texts l all_of_them)

  answer_in : (v : Table) → LastsIn n.types v → option_map (plain_checked v texts) given ≡ option_map (plain_checked n.types.types n.texts) answer
  answer_in v l = ap (λ p. p.1) (h.whole.same v texts l all_of_them)

  pub body_is : plain_body n.types.types texts made ≡ plain_body n.types.types n.texts body
  body_is = body_in n.types.types (lasts n.types h.all)

  pub answer_is : option_map (plain_checked n.types.types texts) given ≡ option_map (plain_checked n.types.types n.texts) answer
  answer_is = answer_in n.types.types (lasts n.types h.all)

  pub body_stays : (u : TypeTable) → Grows n.types u → length u.types.signatures ≤ 4294967295 → plain_body u.types texts made ≡ plain_body n.types.types texts made
  body_stays u g few = body_in u.types (lasts_on n.types u h.all g few) ∙ sym body_is

  pub answer_stays : (u : TypeTable) → Grows n.types u → length u.types.signatures ≤ 4294967295
      → option_map (plain_checked u.types texts) given ≡ option_map (plain_checked n.types.types texts) given
  answer_stays u g few = answer_in u.types (lasts_on n.types u h.all g few) ∙ sym answer_is
