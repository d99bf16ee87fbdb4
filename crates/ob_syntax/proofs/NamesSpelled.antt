-- Names are spelled by trees of the grammar.
use Rattle.ob_grammar.specs.Grammar as G
use Rattle.ob_grammar.specs.Grammar.{part, ◌·◌}
use Rattle.ob_syntax.specs.NameText.{qualident_text, member_text, identdef_text, idents_text, next_identdef_text, next_ident_text}
use Rattle.ob_syntax.specs.declared.names.Qualident.{Qualident}
use Rattle.ob_syntax.specs.declared.names.Member.{Member}
use Rattle.ob_syntax.specs.declared.names.Identdef.{Identdef}
use Rattle.ob_syntax.specs.declared.names.Idents.{Idents}
use Rattle.ob_syntax.specs.declared.names.NextIdentdef.{NextIdentdef}
use Rattle.ob_syntax.specs.declared.names.NextIdent.{NextIdent}
use Rattle.ob_syntax.proofs.Spelled.{Spelled, symbol, ◌then◌, named, maybe_symbol, if_there, all}

abbrev pub member : (x : Member) → Spelled (G.period · G.ident) (member_text x)
member x = symbol x.period then symbol x.name

abbrev pub qualident : (x : Qualident) → Spelled (part G.qualident) (qualident_text x)
qualident x = named (symbol x.name then if_there member_text (member) x.member)

abbrev pub identdef : (x : Identdef) → Spelled (part G.identdef) (identdef_text x)
identdef x = named (symbol x.name then maybe_symbol x.star)

abbrev pub next_identdef : (x : NextIdentdef) → Spelled (G.comma · part G.identdef) (next_identdef_text x)
next_identdef x = symbol x.comma then identdef x.name

abbrev pub idents : (x : Idents) → Spelled (part G.idents) (idents_text x)
idents x = named (identdef x.first then all next_identdef_text (next_identdef) x.more.items)

abbrev pub next_ident : (x : NextIdent) → Spelled (G.comma · G.ident) (next_ident_text x)
next_ident x = symbol x.comma then symbol x.name
