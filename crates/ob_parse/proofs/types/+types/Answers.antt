-- Each right side, put together from its parts.
use Rattle.std.proofs.Common.{ap}
use Rattle.ob_syntax.specs.TypeText.{type_tree_text, next_fields_text}
use Rattle.ob_syntax.proofs.TypeTexts.{type_array_is, type_pointer_is, record_type_is, next_fields_is}
use Rattle.parse_steps.proofs.Steps.{as_text, reads_part, reads_then, reads_left, reads_right, reads_some, reads_none, fails_part, fails_first, fails_then, fails_left, fails_right, fails_some, fails_inside, reads_inside, one_more, fails_round, rounds_over, gives_err}
use Rattle.ob_parse.proofs.types.+types.Goals as goal

pub type_tree-returns-in_err-name : goal.type_tree-returns-in_err-name
type_tree-returns-in_err-name t c = gives_err _ c.from_residual.result c.from_residual.ensures.1 (fails_part (fails_left c.if-is_at.ensures.tells c.in_err-name.ensures))

pub type_tree-returns-in_ok-name : goal.type_tree-returns-in_ok-name
type_tree-returns-in_ok-name t c = reads_part (reads_left c.if-is_at.ensures.tells c.in_ok-name.ensures)

pub type_tree-returns-in_err-array : goal.type_tree-returns-in_err-array
type_tree-returns-in_err-array t c = gives_err _ c.from_residual-in_err-array.result c.from_residual-in_err-array.ensures.1 (fails_part (fails_right c.if-is_at.ensures.tells (fails_left c.if-is_at-2.ensures.tells c.in_err-array.ensures)))

pub type_tree-returns-in_ok-array : goal.type_tree-returns-in_ok-array
type_tree-returns-in_ok-array t c = as_text (type_array_is c.in_ok-array.array) (reads_part (reads_right c.if-is_at.ensures.tells (reads_left c.if-is_at-2.ensures.tells c.in_ok-array.ensures)))

pub type_tree-returns-in_err-fields : goal.type_tree-returns-in_err-fields
type_tree-returns-in_err-fields t c = gives_err _ c.from_residual-in_err-fields.result c.from_residual-in_err-fields.ensures.1 (fails_part (fails_right c.if-is_at.ensures.tells (fails_right c.if-is_at-2.ensures.tells (fails_left c.if-is_at-3.ensures.tells c.in_err-fields.ensures))))

pub type_tree-returns-in_ok-fields : goal.type_tree-returns-in_ok-fields
type_tree-returns-in_ok-fields t c = reads_part (reads_right c.if-is_at.ensures.tells (reads_right c.if-is_at-2.ensures.tells (reads_left c.if-is_at-3.ensures.tells c.in_ok-fields.ensures)))

pub type_tree-returns-in_err-pointer : goal.type_tree-returns-in_err-pointer
type_tree-returns-in_err-pointer t c = gives_err _ c.from_residual-in_err-pointer.result c.from_residual-in_err-pointer.ensures.1 (fails_part (fails_right c.if-is_at.ensures.tells (fails_right c.if-is_at-2.ensures.tells (fails_right c.if-is_at-3.ensures.tells (fails_left c.if-is_at-4.ensures.tells c.in_err-pointer.ensures)))))

pub type_tree-returns-in_ok-pointer : goal.type_tree-returns-in_ok-pointer
type_tree-returns-in_ok-pointer t c = as_text (type_pointer_is c.in_ok-pointer.pointer) (reads_part (reads_right c.if-is_at.ensures.tells (reads_right c.if-is_at-2.ensures.tells (reads_right c.if-is_at-3.ensures.tells (reads_left c.if-is_at-4.ensures.tells c.in_ok-pointer.ensures)))))

pub type_tree-returns-in_err-procedure : goal.type_tree-returns-in_err-procedure
type_tree-returns-in_err-procedure t c = gives_err _ c.from_residual-in_err-procedure.result c.from_residual-in_err-procedure.ensures.1 (fails_part (fails_right c.if-is_at.ensures.tells (fails_right c.if-is_at-2.ensures.tells (fails_right c.if-is_at-3.ensures.tells (fails_right c.if-is_at-4.ensures.tells c.in_err-procedure.ensures)))))

pub type_tree-returns-in_ok-procedure : goal.type_tree-returns-in_ok-procedure
type_tree-returns-in_ok-procedure t c = reads_part (reads_right c.if-is_at.ensures.tells (reads_right c.if-is_at-2.ensures.tells (reads_right c.if-is_at-3.ensures.tells (reads_right c.if-is_at-4.ensures.tells c.in_ok-procedure.ensures))))

pub array_type-returns-in_err-array_word : goal.array_type-returns-in_err-array_word
array_type-returns-in_err-array_word t c = gives_err _ c.from_residual.result c.from_residual.ensures.1 (c.in_err-array_word.ensures _)

pub array_type-returns-in_err-first : goal.array_type-returns-in_err-first
array_type-returns-in_err-first t c = gives_err _ c.from_residual-in_err-first.result c.from_residual-in_err-first.ensures.1 (fails_inside c.in_ok-array_word.ensures (fails_first c.in_err-first.ensures))

pub array_type-returns-in_err-more : goal.array_type-returns-in_err-more
array_type-returns-in_err-more t c = gives_err _ c.from_residual-in_err-more.result c.from_residual-in_err-more.ensures.1 (fails_inside c.in_ok-array_word.ensures (fails_then c.in_ok-first.ensures (fails_first c.in_err-more.ensures)))

pub array_type-returns-in_err-of_word : goal.array_type-returns-in_err-of_word
array_type-returns-in_err-of_word t c = gives_err _ c.from_residual-in_err-of_word.result c.from_residual-in_err-of_word.ensures.1 (fails_inside c.in_ok-array_word.ensures (fails_then c.in_ok-first.ensures (fails_then c.in_ok-more.ensures (fails_first c.in_err-of_word.ensures.gives))))

pub array_type-returns-in_err-of : goal.array_type-returns-in_err-of
array_type-returns-in_err-of t c = gives_err _ c.from_residual-in_err-of.result c.from_residual-in_err-of.ensures.1 (fails_inside c.in_ok-array_word.ensures (fails_then c.in_ok-first.ensures (fails_then c.in_ok-more.ensures (fails_then c.in_ok-of_word.ensures.gives c.in_err-of.ensures))))

pub array_type-returns : goal.array_type-returns
array_type-returns t c = reads_inside _ c.in_ok-array_word.ensures (reads_then c.in_ok-first.ensures (reads_then c.in_ok-more.ensures (reads_then c.in_ok-of_word.ensures.gives (as_text (ap type_tree_text c.in_ok-element.ensures.ok) c.in_ok-of.ensures)))) c.leave.ensures

pub record_type-returns-in_err-record_word : goal.record_type-returns-in_err-record_word
record_type-returns-in_err-record_word t c = gives_err _ c.from_residual.result c.from_residual.ensures.1 (c.in_err-record_word.ensures _)

pub record_type-returns-in_err-base : goal.record_type-returns-in_err-base
record_type-returns-in_err-base t c = gives_err _ c.from_residual-in_err-base.result c.from_residual-in_err-base.ensures.1 (fails_inside c.in_ok-record_word.ensures (fails_first c.in_err-base.ensures))

pub record_type-returns-in_err-first : goal.record_type-returns-in_err-first
record_type-returns-in_err-first t c = gives_err _ c.from_residual-in_err-first.result c.from_residual-in_err-first.ensures.1 (fails_inside c.in_ok-record_word.ensures (fails_then c.in_ok-base.ensures (fails_first c.in_err-first.ensures)))

pub record_type-returns-in_err-more : goal.record_type-returns-in_err-more
record_type-returns-in_err-more t c = gives_err _ c.from_residual-in_err-more.result c.from_residual-in_err-more.ensures.1 (fails_inside c.in_ok-record_word.ensures (fails_then c.in_ok-base.ensures (fails_then c.in_ok-first.ensures (fails_first c.in_err-more.ensures))))

pub record_type-returns-in_err-end_word : goal.record_type-returns-in_err-end_word
record_type-returns-in_err-end_word t c = gives_err _ c.from_residual-in_err-end_word.result c.from_residual-in_err-end_word.ensures.1 (fails_inside c.in_ok-record_word.ensures (fails_then c.in_ok-base.ensures (fails_then c.in_ok-first.ensures (fails_then c.in_ok-more.ensures c.in_err-end_word.ensures.gives))))

pub record_type-returns : goal.record_type-returns
record_type-returns t c = as_text (record_type_is _ _ _ _ _) (reads_inside _ c.in_ok-record_word.ensures (reads_then c.in_ok-base.ensures (reads_then c.in_ok-first.ensures (reads_then c.in_ok-more.ensures c.in_ok-end_word.ensures.gives))) c.leave.ensures)

pub maybe_fields-returns-in_err-fields : goal.maybe_fields-returns-in_err-fields
maybe_fields-returns-in_err-fields t c = gives_err _ c.from_residual.result c.from_residual.ensures.1 (fails_some c.if-is_at.ensures.tells c.in_err-fields.ensures)

pub maybe_fields-returns-in_ok-fields : goal.maybe_fields-returns-in_ok-fields
maybe_fields-returns-in_ok-fields t c = reads_some c.if-is_at.ensures.tells c.in_ok-fields.ensures

pub maybe_fields-returns-else-is_at : goal.maybe_fields-returns-else-is_at
maybe_fields-returns-else-is_at t c = reads_none c.if-is_at.ensures.tells

pub more_fields-returns-in_err-next : goal.more_fields-returns-in_err-next
more_fields-returns-in_err-next t c = gives_err _ c.from_residual.result c.from_residual.ensures.1 (fails_round c.rounds.invariant c.in-Some.ensures.here (fails_then c.in-Some.ensures.read c.in_err-next.ensures))

pub more_fields-rounds-preserved : goal.more_fields-rounds-preserved
more_fields-rounds-preserved t c = one_more next_fields_text _ _ _ c.in_ok-push.ensures.items c.rounds.invariant c.in-Some.ensures.here (as_text (next_fields_is _ _) (reads_then c.in-Some.ensures.read c.in_ok-next.ensures))

pub more_fields-returns : goal.more_fields-returns
more_fields-returns t c = rounds_over c.rounds.invariant c.in_default.ensures.none c.in_default.ensures

pub fields-returns-in_err-names : goal.fields-returns-in_err-names
fields-returns-in_err-names t c = gives_err _ c.from_residual.result c.from_residual.ensures.1 (fails_part (fails_first c.in_err-names.ensures.gives))

pub fields-returns-in_err-colon : goal.fields-returns-in_err-colon
fields-returns-in_err-colon t c = gives_err _ c.from_residual-in_err-colon.result c.from_residual-in_err-colon.ensures.1 (fails_part (fails_then c.in_ok-names.ensures.gives (fails_first c.in_err-colon.ensures.gives)))

pub fields-returns-in_err-each : goal.fields-returns-in_err-each
fields-returns-in_err-each t c = gives_err _ c.from_residual-in_err-each.result c.from_residual-in_err-each.ensures.1 (fails_part (fails_then c.in_ok-names.ensures.gives (fails_then c.in_ok-colon.ensures.gives c.in_err-each.ensures)))

pub fields-returns : goal.fields-returns
fields-returns t c = reads_part (reads_then c.in_ok-names.ensures.gives (reads_then c.in_ok-colon.ensures.gives (as_text (ap type_tree_text c.in_ok-of.ensures.ok) c.in_ok-each.ensures)))

pub pointer_type-returns-in_err-pointer_word : goal.pointer_type-returns-in_err-pointer_word
pointer_type-returns-in_err-pointer_word t c = gives_err _ c.from_residual.result c.from_residual.ensures.1 (c.in_err-pointer_word.ensures _)

pub pointer_type-returns-in_err-to_word : goal.pointer_type-returns-in_err-to_word
pointer_type-returns-in_err-to_word t c = gives_err _ c.from_residual-in_err-to_word.result c.from_residual-in_err-to_word.ensures.1 (fails_inside c.in_ok-pointer_word.ensures (fails_first c.in_err-to_word.ensures.gives))

pub pointer_type-returns-in_err-of : goal.pointer_type-returns-in_err-of
pointer_type-returns-in_err-of t c = gives_err _ c.from_residual-in_err-of.result c.from_residual-in_err-of.ensures.1 (fails_inside c.in_ok-pointer_word.ensures (fails_then c.in_ok-to_word.ensures.gives c.in_err-of.ensures))

pub pointer_type-returns : goal.pointer_type-returns
pointer_type-returns t c = reads_inside _ c.in_ok-pointer_word.ensures (reads_then c.in_ok-to_word.ensures.gives (as_text (ap type_tree_text c.in_ok-base.ensures.ok) c.in_ok-of.ensures)) c.leave.ensures
