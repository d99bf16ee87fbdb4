use Rattle.std.proofs.Common.{ap, ◌∙◌, cond, Some, option_map}
use Rattle.std.specs.Str.{bytes_eq}
use mathlib.Core.Path.{fun_ext}
use Rattle.check_types.specs.steps.Maps.{at_bytes}
use Rattle.check_types.proofs.steps.Maps.{at_bytes_after, mapped_choice}
use Rattle.check_types.specs.names.Meaning.{entry_of}
use Rattle.check_types.proofs.names.levels.Level.declare.Goals as goal

pub returns : goal.returns
returns c = λ t strings. fun_ext (λ q.
    ap (option_map (entry_of t strings)) (at_bytes_after c.in_ok-key.key.items c.args.self.now.names c.insert.new.self _ c.in_ok-insert.ensures.updates q)
    ∙ mapped_choice (entry_of t strings) (bytes_eq c.in_ok-key.key.items q) c.args.declared (at_bytes c.args.self.now.names q)
    ∙ ap (λ bs. cond (bytes_eq bs q) (Some (entry_of t strings c.args.declared)) (option_map (entry_of t strings) (at_bytes c.args.self.now.names q))) c.in_ok-key.ensures.items)
