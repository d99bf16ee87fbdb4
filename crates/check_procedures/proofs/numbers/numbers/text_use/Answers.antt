use Rattle.std.proofs.Common.{◌≡◌, ℕ, ◌<◌, ◌≤◌, List, [], length, true, false, Some, None, sym, ap, ◌∙◌, arith, ◌⊎◌, inl, inr}
use Rattle.std.specs.Prelude.{slice_get, slice_index_or, is_some}
use Rattle.std.proofs.lemmas.Bool.{false≢true}
use Rattle.std.proofs.lemmas.Option.{slice_get-get_or, slice_get_past}
use Rattle.ob_types.proofs.Tests.{less_or_past}
use Rattle.check_operands.specs.Operands.{texts_of}
use Rattle.check_procedures.specs.numbers.Numbering.{numbering_of}
use Rattle.check_procedures.proofs.numbers.Leaves.{text_missing, text_counted}
use Rattle.check_procedures.proofs.numbers.numbers.text_use.Goals as goal

is_there : (all : List (List ℕ)) (n : ℕ) → true ≡ is_some (slice_get all n) → slice_get all n ≡ Some (slice_index_or all n [])
is_there all n h = by (less_or_past n (length all))
  where
    by : (n < length all) ⊎ (length all ≤ n) → slice_get all n ≡ Some (slice_index_or all n [])
    by (inl l) = slice_get-get_or all n [] l
    by (inr l) = absurd (false≢true (sym (ap is_some (slice_get_past all n l)) ∙ sym h))

isnt_there : (all : List (List ℕ)) (n : ℕ) → false ≡ is_some (slice_get all n) → slice_get all n ≡ None
isnt_there all n h = by (less_or_past n (length all))
  where
    by : (n < length all) ⊎ (length all ≤ n) → slice_get all n ≡ None
    by (inl l) = absurd (false≢true (h ∙ ap is_some (slice_get-get_or all n [] l)))
    by (inr l) = slice_get_past all n l

pub returns-then-not-is_text : goal.returns-then-not-is_text
returns-then-not-is_text c =
    text_missing (numbering_of c.args.scope.now) c.args.number c.args.uses.now (isnt_there (texts_of c.args.scope.now) c.args.number (sym c.if-not-is_text.true ∙ c.is_text.ensures))

pub returns : goal.returns
returns c =
    let all = texts_of c.args.scope.now in
    text_counted (numbering_of c.args.scope.now) c.args.number c.len-place.result (slice_index_or all c.args.number []) c.in_ok-characters_of.field-0 c.args.uses.now c.push.new.self
    (is_there all c.args.number (sym c.if-not-is_text.false ∙ c.is_text.ensures)) c.in_ok-characters_of.ensures c.len-place.ensures (omega arith) c.in_ok-push.ensures.ok
