use Rattle.std.proofs.Common.{◌≡◌, [], ◌∷◌, ◌++◌, ◌+◌, ◌<◌, length, None, false, true, refl, sym, ap, ap₂, ◌∙◌, subst, arith, append_assoc}
use Rattle.std.proofs.lemmas.Result.{IfOk-weaker}
use Rattle.ob_types.specs.declared.tree.Access.{Access}
use Rattle.ob_types.specs.Meaning.{kind_in, length_of_kind, record_of_kind}
use Rattle.ssa_lowered.specs.Pieces.{emits, does}
use Rattle.block_runs.specs.declared.code.Code.TheVariants.{Set, Global, GuardTag, Call, CallAt}
use Rattle.ssa_lowered.specs.Data.{layout}
use Rattle.ssa_lowered.specs.Values.{const, is_pointer, is_tag, tag_in, length_in, address_in, bytes_in, condition, home_of, load, call, call_at, as_byte, with_result}
use Rattle.ssa_lowered.specs.Lowered.{descriptor, level}
use Rattle.ssa_exprs.specs.Making.{Gives, closed}
use Rattle.block_runs.specs.declared.end.End.TheVariants.{Branch}
use Rattle.ssa_exprs.specs.Named.{named_of}
use Rattle.ssa_exprs.specs.Tables.{small_in, expr_in, named_in, based_in, descriptor_in}
use Rattle.ssa_exprs.specs.Steps.{Fulfils, Taken, AllTaken, operand_of}
use Rattle.ssa_exprs.specs.Walk.{load_in, select_in, selected_in, link_in, guarded_in, texts_in, argument_in, arguments_in, called_in}
use Rattle.ssa_exprs.proofs.Giving.{gives_bind, gives_as}
use Rattle.ssa_exprs.proofs.Parts.{gives_element, gives_field, gives_dereferenced, gives_narrowed, gives_unary, gives_binary, gives_compared, gives_texts_compared, gives_contained, gives_member, gives_with_element, gives_with_range, gives_as_byte, gives_length_of, gives_tag_of, gives_by_word, gives_by_record, gives_by_open, gives_address, gives_call, gives_call_at, gives_with_result}
use Rattle.ssa_exprs.proofs.Chains.{chain_is, plain_test, unary_test, tests_at, tests_to}
use Rattle.ssa_exprs.proofs.Planning.{taken_push, no_steps, same_link}
use Rattle.ssa_exprs.proofs.Forks.{tests_as, tests_not, tests_value, tests_branch}
use Rattle.ssa_lowered.specs.Control.{Lowers}
use Rattle.ssa_exprs.proofs.Rows.{value_one, named_part, called_direct, called_indirect}
use Rattle.ssa_exprs.proofs.Guards.{selecting_more, selecting_end, passing_more, passing_end}
use Rattle.ssa_exprs.proofs.walk.+walk.Goals as goal

pub load-returns : goal.load-returns
load-returns t c = λ p here s.
    let narrow : c.takes_a_byte.result ≡ small_in p c.args.d.now = c.takes_a_byte.ensures p.types ∙ ap (layout p.types).is_small c.kind_in.ensures in
    gives_as (ap (λ b. load (home_of (named_in p here c.args.d.now) b)) (sym narrow)) (c.in_ok-v.ensures _ _ (c.in_ok-h.ensures p here s))

pub named-returns-in_ok-h-in-Part : goal.named-returns-in_ok-h-in-Part
named-returns-in_ok-h-in-Part t c = λ p here s.
    let a = c.deref-access.result.now in
    gives_as (ap (named_in p here) c.in-Part.is ∙ named_part p here c.in-Part.inner
    ∙ ap (λ (k : Access). selected_in p here k.selectors.items (based_in p here k.base)) (sym c.deref-access.ensures)
    ∙ ap (λ ss. selected_in p here ss (based_in p here a.base)) (sym c.as_slice.ensures.value))
    (c.in_ok-h-in-Part.ensures p here s _ _ (c.in_ok-first-in-Part.ensures p here s))

pub selected-loop-s-init : goal.selected-loop-s-init
selected-loop-s-init t c = λ p here s new k g. g

pub selected-loop-s-preserved : goal.selected-loop-s-preserved
selected-loop-s-preserved t c = λ p here s new k g. c.loop-s.invariant p here s new k (selecting_more p here c.args.selectors.now c.loop-s.s-index c.s-item.result c.loop-s-test.true c.s-item.is (c.in_ok-h.ensures p here s) g)

pub selected-returns : goal.selected-returns
selected-returns t c = λ p here s v d g. (c.loop-s.invariant p here s _ _ (selecting_end p here c.args.selectors.now c.loop-s.s-index _ _ c.loop-s-test.false)).by v d g

pub arguments-loop-a-init : goal.arguments-loop-a-init
arguments-loop-a-init t c = λ p here s new words g. g

pub arguments-loop-a-preserved : goal.arguments-loop-a-preserved
arguments-loop-a-preserved t c = λ p here s new words g. c.loop-a.invariant p here s new words (passing_more p here c.args.args.now c.loop-a.a-index c.a-item.result c.loop-a-test.true c.a-item.is (c.in_ok-argument.ensures p here s) g)

pub arguments-returns : goal.arguments-returns
arguments-returns t c = λ p here s. (c.loop-a.invariant p here s _ _ (passing_end p here c.args.args.now c.loop-a.a-index _ _ c.loop-a-test.false)).by

pub argument-returns-in_ok-push-in-ByValue : goal.argument-returns-in_ok-push-in-ByValue
argument-returns-in_ok-push-in-ByValue t c = λ p here s. (c.in_ok-v-in-ByValue.v ∷ [], c.in_ok-push-in-ByValue.ensures.items, gives_as (ap (argument_in p here) c.in-ByValue.is) (gives_by_word (c.in_ok-v-in-ByValue.ensures p here s)))

pub argument-returns-in_ok-push-in-ByPlace : goal.argument-returns-in_ok-push-in-ByPlace
argument-returns-in_ok-push-in-ByPlace t c = λ p here s. (c.in_ok-v-in-ByPlace.v ∷ [], c.in_ok-push-in-ByPlace.ensures.items, gives_as (ap (argument_in p here) c.in-ByPlace.is) (gives_by_word (gives_address (c.in_ok-h-in-ByPlace.ensures p here s) (c.in_ok-v-in-ByPlace.ensures (omega arith)))))

pub argument-returns-in_ok-push-in-ByRecord-2 : goal.argument-returns-in_ok-push-in-ByRecord-2
argument-returns-in_ok-push-in-ByRecord-2 t c = λ p here s.
    let g = descriptor p (layout p.types) here (record_of_kind (kind_in c.in-ByRecord.d)) in
    let same : c.descriptor.result ≡ g = c.descriptor.ensures ∙ ap (descriptor_in c.args.t.now.program.now) (c.record_of_kind.ensures ∙ ap record_of_kind c.kind_in.ensures) ∙ s.descriptor (record_of_kind (kind_in c.in-ByRecord.d)) in (
      c.in_ok-v-in-ByRecord.v ∷ c.in_ok-tag-in-ByRecord.tag ∷ [],
      c.in_ok-push-in-ByRecord-2.ensures.items ∙ ap (λ l. l ++ c.in_ok-tag-in-ByRecord.tag ∷ []) c.in_ok-push-in-ByRecord.ensures.items ∙ append_assoc _ (c.in_ok-v-in-ByRecord.v ∷ []) (c.in_ok-tag-in-ByRecord.tag ∷ []),
      gives_as (ap (argument_in p here) c.in-ByRecord.is) (gives_by_record g (c.in_ok-h-in-ByRecord.ensures p here s) (c.in_ok-v-in-ByRecord.ensures (omega arith)) (gives_as (ap (λ k. tag_in k (named_of c.in_ok-h-in-ByRecord.h)) (sym same)) c.in_ok-tag-in-ByRecord.ensures)),
    )

pub argument-returns-in_ok-push-in-ByOpen-2 : goal.argument-returns-in_ok-push-in-ByOpen-2
argument-returns-in_ok-push-in-ByOpen-2 t c = λ p here s.
    let n = length_of_kind (kind_in c.in-ByOpen.d) in
    let same : c.length_of_kind.result ≡ n = c.length_of_kind.ensures.is ∙ ap length_of_kind c.kind_in-in-ByOpen.ensures in (
      c.in_ok-v-in-ByOpen.v ∷ c.in_ok-n-in-ByOpen.n ∷ [],
      c.in_ok-push-in-ByOpen-2.ensures.items ∙ ap (λ l. l ++ c.in_ok-n-in-ByOpen.n ∷ []) c.in_ok-push-in-ByOpen.ensures.items ∙ append_assoc _ (c.in_ok-v-in-ByOpen.v ∷ []) (c.in_ok-n-in-ByOpen.n ∷ []),
      gives_as (ap (argument_in p here) c.in-ByOpen.is) (gives_by_open n (c.in_ok-h-in-ByOpen.ensures p here s) (c.in_ok-v-in-ByOpen.ensures (omega arith)) (gives_as (ap (λ k. length_in k (named_of c.in_ok-h-in-ByOpen.h)) (sym same)) c.in_ok-n-in-ByOpen.ensures)),
    )

pub prepared-returns-in_ok-arguments-in-Direct : goal.prepared-returns-in_ok-arguments-in-Direct
prepared-returns-in_ok-arguments-in-Direct t c = λ p here s.
    let made = c.in_ok-arguments-in-Direct.ensures p here s in
    let all : c.arguments.new.words.items ≡ made.0 = made.1 ∙ ap (λ l. l ++ made.0) c.new-words.ensures.items in
    gives_as (ap (called_in p here) c.in-Direct.is ∙ called_direct p here c.in-Direct.g c.in-Direct.args ∙ ap (λ xs. call c.in-Direct.g (arguments_in p here xs)) (sym c.deref.ensures.value))
    (subst (λ ws. Gives c.args.b.now c.arguments.new.b (call c.in-Direct.g (arguments_in p here c.deref.result.now)) (record { code = Call c.in-Direct.g; words = ws })) (sym all) (gives_call made.2))

pub prepared-returns-in_ok-act-in-Indirect : goal.prepared-returns-in_ok-act-in-Indirect
prepared-returns-in_ok-act-in-Indirect t c = λ p here s.
    let made = c.in_ok-arguments-in-Indirect.ensures p here s in
    let first = c.in_ok-push-in-Indirect.ensures.items ∙ ap (λ l. l ++ c.in_ok-x-in-Indirect.x ∷ []) c.new-words-in-Indirect.ensures.items in
    let all : c.arguments-in-Indirect.new.words.items ≡ c.in_ok-x-in-Indirect.x ∷ made.0 = made.1 ∙ ap (λ l. l ++ made.0) first in
    gives_as (ap (called_in p here) c.in-Indirect.is ∙ called_indirect p here c.in-Indirect.d c.in-Indirect.args ∙ ap (λ xs. call_at (load_in p here c.in-Indirect.d) (arguments_in p here xs)) (sym c.deref-in-Indirect.ensures.value))
    (subst (λ ws. Gives c.args.b.now c.act.new.self (call_at (load_in p here c.in-Indirect.d) (arguments_in p here c.deref-in-Indirect.result.now)) (record { code = CallAt; words = ws })) (sym all) (gives_call_at (c.in_ok-x-in-Indirect.ensures p here s) made.2 c.in_ok-act-in-Indirect.ensures))

pub select-returns-in_ok-e-in-Index : goal.select-returns-in_ok-e-in-Index
select-returns-in_ok-e-in-Index t c = λ p here s v d g.
    let size_is : c.from.result ≡ (layout p.types).bytes c.in-Index.element = c.from.ensures ∙ c.size.ensures ∙ s.size c.in-Index.element in
    gives_as (ap (λ z. select_in p here z d) c.in-Index.is)
    (gives_element c.in-Index.length g (c.in_ok-a-in-Index.ensures (omega arith)) (c.in_ok-i-in-Index.ensures p here s)
    (gives_as (ap (λ n. length_in n (named_of c.args.h)) (sym c.known.ensures)) c.in_ok-n-in-Index.ensures)
    c.in_ok-act-in-Index.ensures
    (gives_as (ap const (sym size_is)) c.in_ok-size-in-Index.ensures)
    c.in_ok-e-in-Index.ensures)

pub select-returns-in_ok-a-in-Field : goal.select-returns-in_ok-a-in-Field
select-returns-in_ok-a-in-Field t c = λ p here s v d g.
    let same : c.offset.result ≡ (layout p.types).offset c.in-Field.record c.in-Field.field = c.offset.ensures ∙ s.offset c.in-Field.record c.in-Field.field in
    let short : 8 + c.offset.result < 4294967296 = subst (λ n. 8 + n < 4294967296) (sym c.offset.ensures) (s.short c.in-Field.record c.in-Field.field) in
    gives_as (ap (λ z. select_in p here z d) c.in-Field.is)
    (gives_field ((layout p.types).offset c.in-Field.record c.in-Field.field) g (gives_as (ap (λ n. address_in (named_of c.args.h) n) (sym same)) (c.in_ok-a-in-Field.ensures short)))

pub select-returns-in_ok-act-in-Dereference : goal.select-returns-in_ok-act-in-Dereference
select-returns-in_ok-act-in-Dereference t c = λ p here s v d g.
    let m = load (home_of d false) in
    gives_as (ap (λ z. select_in p here z d) c.in-Dereference.is)
    (gives_dereferenced (gives_as (ap (λ rs. guarded_in p here rs m) (sym c.as_slice.ensures)) (c.in_ok-guard_all-in-Dereference.ensures p here s v m (c.in_ok-p-in-Dereference.ensures v d g))) c.in_ok-act-in-Dereference.ensures)

pub select-returns-in_ok-act-in-Narrow : goal.select-returns-in_ok-act-in-Narrow
select-returns-in_ok-act-in-Narrow t c = λ p here s v d g.
    let r = c.in-Narrow.r in
    gives_as (ap (λ z. select_in p here z d) c.in-Narrow.is)
    (gives_narrowed g c.in_ok-x-in-Narrow.ensures
    (gives_as (ap (λ n. emits (Global n) []) (sym (c.descriptor.ensures ∙ s.descriptor r))) c.in_ok-g-in-Narrow.ensures)
    (gives_as (ap (λ n. does (GuardTag n) (c.in_ok-x-in-Narrow.x ∷ c.in_ok-g-in-Narrow.g ∷ [])) (sym (c.level.ensures ∙ s.level r))) c.in_ok-act-in-Narrow.ensures))

pub value-returns-in-Literal : goal.value-returns-in-Literal
value-returns-in-Literal t c = IfOk-weaker c.emit.result _ _ (λ v g p here s. gives_as (ap (λ e. (expr_in p here e).value) c.in-Literal.is) (g)) c.emit.ensures

pub value-returns-in-Routine : goal.value-returns-in-Routine
value-returns-in-Routine t c = IfOk-weaker c.emit-in-Routine.result _ _ (λ v g p here s. gives_as (ap (λ e. (expr_in p here e).value) c.in-Routine.is) (g)) c.emit-in-Routine.ensures

pub value-returns-in-Load : goal.value-returns-in-Load
value-returns-in-Load t c = IfOk-weaker c.load.result _ _ (λ v g p here s. gives_as (ap (λ e. (expr_in p here e).value) c.in-Load.is) (g p here s)) c.load.ensures

pub value-returns-in-Guard : goal.value-returns-in-Guard
value-returns-in-Guard t c = IfOk-weaker c.guarded.result _ _ (λ v g p here s. gives_as (ap (λ e. (expr_in p here e).value) c.in-Guard.is) (gives_as (ap₂ (λ d rs. guarded_in p here rs (load_in p here d)) (sym c.deref.ensures) (sym c.as_slice.ensures)) (g p here s))) c.guarded.ensures

pub value-returns-in_ok-a-in-Unary : goal.value-returns-in_ok-a-in-Unary
value-returns-in_ok-a-in-Unary t c = IfOk-weaker c.one_operand.result _ _ (λ v g p here s. gives_as (ap (λ e. (expr_in p here e).value) c.in-Unary.is ∙ value_one c.in-Unary.op (expr_in p here c.in-Unary.x.value)) (gives_unary c.in-Unary.op (gives_as (ap (λ e. (expr_in p here e).value) (sym c.deref-in-Unary.ensures)) (c.in_ok-a-in-Unary.ensures p here s)) g)) c.one_operand.ensures

pub value-returns-in-Chain : goal.value-returns-in-Chain
value-returns-in-Chain t c = IfOk-weaker c.chain.result _ _ (λ v g p here s. gives_as (ap (λ (z : Lowers). z.value) (chain_is p here c.in-Chain.x c.in-Chain.links c.in-Chain.is c.deref-in-Chain-2.ensures c.deref-in-Chain.ensures.value)) (g p here s)) c.chain.ensures

pub value-returns-in_ok-c-in-Compare : goal.value-returns-in_ok-c-in-Compare
value-returns-in_ok-c-in-Compare t c = IfOk-weaker c.emit-in-Compare.result _ _ (λ v g p here s. gives_as (ap (λ e. (expr_in p here e).value) c.in-Compare.is) (gives_compared c.in-Compare.r (gives_as (ap (λ e. (expr_in p here e).value) (sym c.deref-in-Compare.ensures)) (c.in_ok-a-in-Compare.ensures p here s)) (gives_as (ap (λ e. (expr_in p here e).value) (sym c.deref-in-Compare-2.ensures)) (c.in_ok-c-in-Compare.ensures p here s)) (gives_as (ap (λ k. emits (Set k) (c.in_ok-a-in-Compare.a ∷ c.in_ok-c-in-Compare.c ∷ [])) (sym c.condition.ensures)) g))) c.emit-in-Compare.ensures

pub value-returns-in-CompareTexts : goal.value-returns-in-CompareTexts
value-returns-in-CompareTexts t c = IfOk-weaker c.compared_texts.result _ _ (λ v g p here s. gives_as (ap (λ e. (expr_in p here e).value) c.in-CompareTexts.is) (gives_as (ap₂ (λ d e. texts_in p here c.in-CompareTexts.r d e) (sym c.deref-in-CompareTexts.ensures) (sym c.deref-in-CompareTexts-2.ensures)) (g p here s))) c.compared_texts.ensures

pub value-returns-in_ok-c-in-In : goal.value-returns-in_ok-c-in-In
value-returns-in_ok-c-in-In t c = IfOk-weaker c.emit-in-In.result _ _ (λ v g p here s. gives_as (ap (λ e. (expr_in p here e).value) c.in-In.is) (gives_contained (expr_in p here c.in-In.x.value).value (gives_member (gives_as (ap (λ e. (expr_in p here e).value) (sym c.deref-in-In.ensures)) (c.in_ok-a-in-In.ensures p here s)) c.in_ok-act-in-In.ensures) (gives_as (ap (λ e. (expr_in p here e).value) (sym c.deref-in-In-2.ensures)) (c.in_ok-c-in-In.ensures p here s)) g)) c.emit-in-In.ensures

pub value-returns-in_ok-a-in-IsPointer : goal.value-returns-in_ok-a-in-IsPointer
value-returns-in_ok-a-in-IsPointer t c = IfOk-weaker c.is_pointer.result _ _ (λ v g p here s. gives_as (ap (λ e. (expr_in p here e).value) c.in-IsPointer.is) (gives_bind (is_pointer (descriptor p (layout p.types) here c.in-IsPointer.r) (level p (layout p.types) here c.in-IsPointer.r)) (gives_as (ap (λ e. (expr_in p here e).value) (sym c.deref-in-IsPointer.ensures)) (c.in_ok-a-in-IsPointer.ensures p here s)) (gives_as (ap₂ (λ g j. is_pointer g j c.in_ok-a-in-IsPointer.a) (sym (c.descriptor.ensures ∙ s.descriptor c.in-IsPointer.r)) (sym (c.level.ensures ∙ s.level c.in-IsPointer.r))) g))) c.is_pointer.ensures

pub value-returns-in_ok-tag-in-IsParameter : goal.value-returns-in_ok-tag-in-IsParameter
value-returns-in_ok-tag-in-IsParameter t c = IfOk-weaker c.is_tag.result _ _ (λ v g p here s. gives_as (ap (λ e. (expr_in p here e).value) c.in-IsParameter.is) (gives_bind (is_tag (descriptor p (layout p.types) here c.in-IsParameter.r) (level p (layout p.types) here c.in-IsParameter.r)) (gives_tag_of (c.in_ok-h-in-IsParameter.ensures p here s) c.in_ok-tag-in-IsParameter.ensures) (gives_as (ap₂ (λ g j. is_tag g j c.in_ok-tag-in-IsParameter.tag) (sym (c.descriptor-in-IsParameter.ensures ∙ s.descriptor c.in-IsParameter.r)) (sym (c.level-in-IsParameter.ensures ∙ s.level c.in-IsParameter.r))) g))) c.is_tag.ensures

pub value-returns-in-Byte : goal.value-returns-in-Byte
value-returns-in-Byte t c = IfOk-weaker c.tested_byte.result _ _ (λ v g p here s. gives_as (ap (λ e. (expr_in p here e).value) c.in-Byte.is) (gives_as (ap (λ e. as_byte (expr_in p here e).value) (sym c.deref-in-Byte.ensures)) (g p here s))) c.tested_byte.ensures

pub value-returns-in-Length : goal.value-returns-in-Length
value-returns-in-Length t c = IfOk-weaker c.array_length.result _ _ (λ v g p here s. gives_as (ap (λ e. (expr_in p here e).value) c.in-Length.is) (g p here s)) c.array_length.ensures

pub value-returns-in-Call : goal.value-returns-in-Call
value-returns-in-Call t c = IfOk-weaker c.called.result _ _ (λ v g p here s. gives_as (ap (λ e. (expr_in p here e).value) c.in-Call.is) (gives_as (ap (λ k. with_result (called_in p here k)) (sym c.deref-in-Call.ensures)) (g p here s))) c.called.ensures

pub guarded-returns : goal.guarded-returns
guarded-returns t c = λ p here s. c.in_ok-guard_all.ensures p here s _ _ (c.in_ok-v.ensures p here s)

pub compared_texts-returns : goal.compared_texts-returns
compared_texts-returns t c = λ p here s.
    let d = c.args.d.now in
    let e = c.args.e.now in
    let n_is : c.length_of_kind.result ≡ length_of_kind (kind_in d) = c.length_of_kind.ensures.is ∙ ap length_of_kind c.kind_in.ensures in
    let m_is : c.length_of_kind-2.result ≡ length_of_kind (kind_in e) = c.length_of_kind-2.ensures.is ∙ ap length_of_kind c.kind_in-2.ensures in
    gives_texts_compared (layout p.types).character c.args.r (length_of_kind (kind_in d)) (length_of_kind (kind_in e))
    (c.in_ok-x.ensures p here s)
    (c.in_ok-a.ensures (omega arith))
    (gives_as (ap (λ n. bytes_in (layout p.types).character n (named_of c.in_ok-x.x)) (sym n_is)) c.in_ok-i.ensures)
    (c.in_ok-y.ensures p here s)
    (c.in_ok-c.ensures (omega arith))
    (gives_as (ap (λ n. bytes_in (layout p.types).character n (named_of c.in_ok-y.y)) (sym m_is)) c.in_ok-j.ensures)
    c.in_ok-k.ensures c.in_ok-z.ensures
    (gives_as (ap (λ k. emits (Set k) (c.in_ok-k.k ∷ c.in_ok-z.z ∷ [])) (sym c.condition.ensures)) c.in_ok-v.ensures)

pub tested_byte-returns : goal.tested_byte-returns
tested_byte-returns t c = λ p here s. gives_as_byte (c.in_ok-v.ensures p here s) c.in_ok-act.ensures

pub array_length-returns : goal.array_length-returns
array_length-returns t c = λ p here s.
    let n = length_of_kind (kind_in c.args.d.now) in
    let same : c.length_of_kind.result ≡ n = c.length_of_kind.ensures.is ∙ ap length_of_kind c.kind_in.ensures in
    gives_length_of n (c.in_ok-h.ensures p here s) (c.in_ok-address_in.ensures (omega arith)) (gives_as (ap (λ k. length_in k (named_of c.in_ok-h.h)) (sym same)) c.in_ok-v.ensures)

pub called-returns : goal.called-returns
called-returns t c = λ p here s. gives_with_result (c.in_ok-r.ensures p here s) (gives_as (ap (λ ws. emits c.in_ok-r.r.code ws) (sym c.as_slice.ensures.value)) c.in_ok-v.ensures)

pub chain-returns : goal.chain-returns
chain-returns t c = λ p here s. (c.in_ok-plan.ensures p here (expr_in p here c.args.x.now)).by _ _ _ _ (c.in_ok-a.ensures p here s) (c.in_ok-r.ensures p here s)

pub as_wanted-returns-in_ok-v-in-Value : goal.as_wanted-returns-in_ok-v-in-Value
as_wanted-returns-in_ok-v-in-Value t c = λ p here s.
    subst (λ f. Fulfils f c.args.b.now c.value.new.b (expr_in p here c.args.e.now) c.in_ok-v-in-Value.v) (sym c.in-Value.is) (c.in_ok-v-in-Value.ensures p here s)

pub as_wanted-returns-in_ok-cond-in-Condition : goal.as_wanted-returns-in_ok-cond-in-Condition
as_wanted-returns-in_ok-cond-in-Condition t c = λ p here s.
    subst (λ f. Fulfils f c.args.b.now c.cond.new.b (expr_in p here c.args.e.now) 0) (sym c.in-Condition.is) (c.in_ok-cond-in-Condition.ensures p here s)

pub take_all-loop-step-init : goal.take_all-loop-step-init
take_all-loop-step-init t c = λ p here s new r g. g

pub take_all-loop-step-preserved : goal.take_all-loop-step-preserved
take_all-loop-step-preserved t c = λ p here s new r g.
    let ks = c.args.links.now in
    c.loop-step.invariant p here s new r
    (subst (λ l. AllTaken p here ks l c.loop-step.b new c.loop-step.a r) (sym c.in-Some.ensures.items)
    (taken_push p here ks c.pop.new.self.items c.in-Some.step c.loop-step.b c.take.new.b new c.loop-step.a c.in_ok-a.a r (c.in_ok-a.ensures p here s) g))

pub take_all-returns : goal.take_all-returns
take_all-returns t c = λ p here s.
    let none : 0 < length c.loop-step.steps.items → ⊥ = λ h. let e : false ≡ true = c.in_default.ensures.variant.1 h in cc in
    let len : length c.loop-step.steps.items ≡ 0 = omega (arith, none) in
    c.loop-step.invariant p here s c.loop-step.b c.loop-step.a
    (subst (λ l. AllTaken p here c.args.links.now l c.loop-step.b c.loop-step.b c.loop-step.a c.loop-step.a) (sym (no_steps c.loop-step.steps.items len)) (refl, refl))

pub take-returns-in_ok-r-in-Apply : goal.take-returns-in_ok-r-in-Apply
take-returns-in_ok-r-in-Apply t c = λ p here s.
    let ks = c.args.links.now in
    let one = c.in_ok-r-in-Apply.ensures p here s in
    subst (λ z. Taken p here ks z c.args.b.now c.applied.new.b c.args.a c.in_ok-r-in-Apply.r) (sym c.in-Apply.is)
    (λ k at v x g. gives_as (ap (λ j. (link_in p here j x).value) (sym (same_link ks c.in-Apply.i c.index-links-i.result k c.index-links-i.is at))) (one v x g))

pub take-returns-in_ok-fork-in-Fork : goal.take-returns-in_ok-fork-in-Fork
take-returns-in_ok-fork-in-Fork t c = λ p here s.
    subst (λ z. Taken p here c.args.links.now z c.args.b.now c.fork.new.b c.args.a c.args.a) (sym c.in-Fork.is) c.in_ok-fork-in-Fork.ensures

pub take-returns-in_ok-operand_cond-in-Part : goal.take-returns-in_ok-operand_cond-in-Part
take-returns-in_ok-operand_cond-in-Part t c = λ p here s.
    let ks = c.args.links.now in
    let one = tests_at c.in_ok-bind-in-Part.ensures refl refl refl (c.in_ok-operand_cond-in-Part.ensures p here s) in
    subst (λ z. Taken p here ks z c.args.b.now c.operand_cond.new.b c.args.a c.args.a) (sym c.in-Part.is)
    (λ k at. tests_as (ap (λ j. (expr_in p here (operand_of j)).test) (sym (same_link ks c.in-Part.link c.index-links-link.result k c.index-links-link.is at))) one)

pub take-returns-in_ok-r-in-Flag : goal.take-returns-in_ok-r-in-Flag
take-returns-in_ok-r-in-Flag t c = λ p here s.
    subst (λ z. Taken p here c.args.links.now z c.args.b.now c.flagged.new.b c.args.a c.in_ok-r-in-Flag.r) (sym c.in-Flag.is) c.in_ok-r-in-Flag.ensures

pub applied-returns-in_ok-v-in-Operate : goal.applied-returns-in_ok-v-in-Operate
applied-returns-in_ok-v-in-Operate t c = λ p here s v x g.
    gives_as (ap (λ k. (link_in p here k x).value) c.in-Operate.is) (gives_binary c.in-Operate.op g (c.in_ok-c-in-Operate.ensures p here s) c.in_ok-v-in-Operate.ensures)

pub applied-returns-in_ok-v-in-Element : goal.applied-returns-in_ok-v-in-Element
applied-returns-in_ok-v-in-Element t c = λ p here s v x g.
    gives_as (ap (λ k. (link_in p here k x).value) c.in-Element.is)
    (gives_with_element (expr_in p here c.in-Element.y).value g (gives_member (c.in_ok-c-in-Element.ensures p here s) c.in_ok-act-in-Element.ensures) c.in_ok-bit-in-Element.ensures c.in_ok-v-in-Element.ensures)

pub applied-returns-in_ok-v-in-Elements : goal.applied-returns-in_ok-v-in-Elements
applied-returns-in_ok-v-in-Elements t c = λ p here s v x g.
    gives_as (ap (λ k. (link_in p here k x).value) c.in-Elements.is)
    (gives_with_range (expr_in p here c.in-Elements.y.value).value (expr_in p here c.in-Elements.z.value).value g
    (gives_member (gives_as (ap (λ e. (expr_in p here e).value) (sym c.deref.ensures)) (c.in_ok-c-in-Elements.ensures p here s)) c.in_ok-act-in-Elements.ensures)
    (gives_member (gives_as (ap (λ e. (expr_in p here e).value) (sym c.deref-in-Elements.ensures)) (c.in_ok-d-in-Elements.ensures p here s)) c.in_ok-act-in-Elements-2.ensures) c.in_ok-bits-in-Elements.ensures c.in_ok-v-in-Elements.ensures)

pub cond-returns-then-is_plain : goal.cond-returns-then-is_plain
cond-returns-then-is_plain t c = λ p here s. tests_as (plain_test p here c.args.e.now (sym c.if-is_plain.ensures)) (tests_to c.in_ok-fork.ensures (tests_value c.args.yes c.args.no c.args.next (c.in_ok-a.ensures p here s)))

pub cond-returns-in_ok-cond-in-Unary : goal.cond-returns-in_ok-cond-in-Unary
cond-returns-in_ok-cond-in-Unary t c = λ p here s. tests_as (unary_test p here c.args.e.now c.in-Unary.field-0 c.in-Unary.x c.in-Unary.is (sym c.if-is_plain.ensures)) (tests_not (tests_as (ap (λ e. (expr_in p here e).test) (sym c.deref.ensures)) (c.in_ok-cond-in-Unary.ensures p here s)))

pub cond-returns-in_ok-chain-in-Chain : goal.cond-returns-in_ok-chain-in-Chain
cond-returns-in_ok-chain-in-Chain t c = λ p here s. tests_as (ap (λ (z : Lowers). z.test) (chain_is p here c.in-Chain.x c.in-Chain.links c.in-Chain.is c.deref-in-Chain-2.ensures c.deref-in-Chain.ensures.value)) (c.in_ok-chain-in-Chain.ensures p here s)

pub cond-returns-in_ok-branch-in-Compare : goal.cond-returns-in_ok-branch-in-Compare
cond-returns-in_ok-branch-in-Compare t c = λ p here s.
    let x = gives_as (ap (λ e. (expr_in p here e).value) (sym c.deref-in-Compare.ensures)) (c.in_ok-a-in-Compare.ensures p here s) in
    let y = gives_as (ap (λ e. (expr_in p here e).value) (sym c.deref-in-Compare-2.ensures)) (c.in_ok-c-in-Compare.ensures p here s) in
    tests_as (ap (λ e. (expr_in p here e).test) c.in-Compare.is)
    (tests_to (c.in_ok-branch-in-Compare.ensures ∙ ap (λ k. closed c.value-in-Compare-2.new.b (Branch k c.in_ok-a-in-Compare.a c.in_ok-c-in-Compare.c c.args.yes c.args.no) 0 c.args.next None) c.condition.ensures)
    (tests_branch (condition c.in-Compare.r) c.args.yes c.args.no c.args.next x y))
