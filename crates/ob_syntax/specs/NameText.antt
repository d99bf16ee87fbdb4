-- What names and lists of names spell.
use Rattle.std.specs.Prelude.{List}
use Rattle.ob_grammar.specs.Grammar as G
use Rattle.ob_syntax.specs.Leaves.{Leaf, leaf, maybe, optional, each, ◌⧺◌}
use Rattle.ob_syntax.specs.declared.names.Qualident.{Qualident}
use Rattle.ob_syntax.specs.declared.names.Member.{Member}
use Rattle.ob_syntax.specs.declared.names.Identdef.{Identdef}
use Rattle.ob_syntax.specs.declared.names.Idents.{Idents}
use Rattle.ob_syntax.specs.declared.names.NextIdentdef.{NextIdentdef}
use Rattle.ob_syntax.specs.declared.names.NextIdent.{NextIdent}

-- `"." ident`
abbrev pub member_text : Member → List Leaf
member_text x = leaf G.period x.period ⧺ leaf G.ident x.name

-- `ident ["." ident]`
abbrev pub qualident_text : Qualident → List Leaf
qualident_text x = leaf G.ident x.name ⧺ optional member_text x.member

-- `ident ["*"]`
abbrev pub identdef_text : Identdef → List Leaf
identdef_text x = leaf G.ident x.name ⧺ maybe G.times x.star

-- `"," identdef`
abbrev pub next_identdef_text : NextIdentdef → List Leaf
next_identdef_text x = leaf G.comma x.comma ⧺ identdef_text x.name

-- `identdef {"," identdef}`
abbrev pub idents_text : Idents → List Leaf
idents_text x = identdef_text x.first ⧺ each next_identdef_text x.more.items

-- `"," ident`
abbrev pub next_ident_text : NextIdent → List Leaf
next_ident_text x = leaf G.comma x.comma ⧺ leaf G.ident x.name
