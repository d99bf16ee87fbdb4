use Rattle.std.proofs.Common.{◌≡◌, ◌++◌, ap, sym, ◌∙◌, subst, refl}
use Rattle.std.specs.Prelude.{All}
use Rattle.std.specs.List.{flat_map}
use Rattle.std.proofs.lemmas.List.{append-nil}
use Rattle.std.proofs.lemmas.List.Elements.{All-nil}
use Rattle.plain_form.specs.results.Spelling.{result}
use Rattle.plain_form.specs.results.Bounds.{TypedResult}
use Rattle.noted_image.proofs.Written.{none_left, bytes_more, typed_more}
use Rattle.noted_image.proofs.notes.put_all.Goals as goal

pub returns-clause-bytes : goal.returns-clause-bytes
returns-clause-bytes c =
    let none = none_left c.args.outs.now c.loop-own.own-index c.loop-own-test.false in
    sym (append-nil c.loop-own.notes.items) ∙ sym (ap (λ xs. c.loop-own.notes.items ++ flat_map result xs) none) ∙ c.loop-own.invariant.bytes

pub returns-clause-typed : goal.returns-clause-typed
returns-clause-typed c =
    let none = none_left c.args.outs.now c.loop-own.own-index c.loop-own-test.false in
    c.loop-own.invariant.typed (subst (All TypedResult) (sym none) (All-nil TypedResult))

pub loop-own-preserved : goal.loop-own-preserved
loop-own-preserved c =
    let outs = c.args.outs.now in
    let i = c.loop-own.own-index in
    let lt = c.loop-own-test.true in
    record {
      end = refl;
      bytes = bytes_more outs i c.own-item.result lt c.own-item.is c.loop-own.notes.items _ _ c.loop-own.invariant.bytes (c.in_ok-put_each.ensures.bytes ∙ ap (λ xs. c.loop-own.notes.items ++ flat_map result xs) c.as_slice.ensures.value);
      typed = typed_more outs i c.own-item.result lt c.own-item.is c.loop-own.invariant.typed (subst (All TypedResult) c.as_slice.ensures.value c.in_ok-put_each.ensures.typed);
    }
