use Rattle.std.proofs.Common.{◌≡◌, ℕ, ◌+◌, ◌<◌, [], map, length, arith, sym, subst, ◌∙◌, Some, slice_get, slice_index_or}
use Rattle.std.proofs.lemmas.List.{length-map}
use Rattle.check_types.specs.names.Worlds.{strings_of}
use Rattle.check_operands.specs.Operands.{between_quotes, texts_of}
use Rattle.check_operands.proofs.Known.{past}
use Rattle.check_operands.proofs.texts.known_text.Goals as goal

pub returns-else-saturating_sub-scope : goal.returns-else-saturating_sub-scope
returns-else-saturating_sub-scope c =
    let s = c.args.scope.now in
    let count : length (map (between_quotes s.source.now.bytes) s.source.now.symbols) ≡ c.count-before.result = length-map s.source.now.symbols (between_quotes s.source.now.bytes) ∙ sym c.count-before.ensures in
    subst (λ (k : ℕ). slice_get (texts_of s) k ≡ Some (slice_index_or (texts_of s) c.args.n [])) count
    (past (map (between_quotes s.source.now.bytes) s.source.now.symbols) (strings_of s) c.args.n (omega (arith, count, c.if-saturating_sub-scope.false)))
