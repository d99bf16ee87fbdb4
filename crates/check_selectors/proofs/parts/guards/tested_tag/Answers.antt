use Rattle.std.proofs.Common.{◌&&◌, if◌then◌else◌, None, Some, sym, ap, ap₂, ◌∙◌}
use Rattle.ob_judge.specs.Shapes.{Shape, Record, is_pointer, extends, target_of}
use Rattle.ob_judge.specs.Parts.{tested_tag}
use Rattle.check_types.specs.Known.{known_of}
use Rattle.check_types.specs.TypeMeaning.{type_shape}
use Rattle.check_types.specs.names.Worlds.{table_of, world_of}
use Rattle.check_selectors.proofs.parts.guards.tested_tag.Goals as goal

pub returns-then-extends : goal.returns-then-extends
returns-then-extends c = λ a h k.
    let s = c.args.scope.now in
    let known = known_of s.types.now in
    let form = λ (z : Shape). if is_pointer a.shape && extends known z a.shape then target_of known z else None in
    ap (λ z. tested_tag s.source.now (world_of s) a (type_shape (table_of s) z)) c.in-Pointer.is
    ∙ ap (λ z. form (type_shape (table_of s) z)) (sym c.in-Pointer.is)
    ∙ ap₂ (λ x y. if x && y then target_of known (type_shape (table_of s) c.args.t) else None) (ap is_pointer (sym h) ∙ c.is_pointer.ensures (table_of s) ∙ c.if-is_pointer.true) (ap (extends known (type_shape (table_of s) c.args.t)) (sym h) ∙ c.extends.ensures ∙ c.if-extends.true)
    ∙ c.target_of.ensures

pub returns-then-extends-2 : goal.returns-then-extends-2
returns-then-extends-2 c = λ a h k.
    let s = c.args.scope.now in
    ap (λ z. tested_tag s.source.now (world_of s) a (type_shape (table_of s) z)) c.in-Record.is
    ∙ ap₂ (λ x y. if x && y then Some c.in-Record.r else None) (c.is_tagged.ensures a k ∙ c.if-is_tagged.true) (ap (extends (known_of s.types.now) (Record c.in-Record.r)) (sym h) ∙ c.extends-then-is_tagged.ensures ∙ c.if-extends-2.true)
