use Rattle.std.proofs.Common.{◌∙◌, ◌-◌, ap}
use Rattle.ob_judge.specs.Standards.{predeclared}
use Rattle.check_types.specs.names.Meaning.{names_of}
use Rattle.check_making.specs.Making.{table_of, strings_of}
use Rattle.check_declared.proofs.type_parts.Bases.{last_is}
use Rattle.check_declared.proofs.type_parts.forward.last_declared.Goals as goal

pub returns : goal.returns
returns c =
    let s = c.args.state.now in
    c.find.ensures (table_of s) (strings_of s) ∙ ap (λ l. names_of (table_of s) (strings_of s) l c.args.name.now) c.index.ensures ∙ last_is (table_of s) (strings_of s) predeclared s.levels.items _ _ c.args.name.now c.requires (ap (λ n. n - 1) (c.len.ensures ∙ (s.levels.ok).0))
