use Rattle.std.proofs.Common.{refl, ap, ◌∙◌, length, arith}
use Rattle.table_builder.specs.Contents.{contents_of}
use Rattle.table_builder.proofs.EachCounted.{recounted, one_counted, pointer_before}
use Rattle.table_builder.proofs.Built.{same_contents}
use Rattle.table_builder.proofs.Calls.{pointer_next, pointer_built, last_element, popped}
use Rattle.table_builder.proofs.Known.{pointer_grows, known_pointer}
use Rattle.table_builder.proofs.builder.TableBuilder.new_pointer.Goals as goal

pub note_elements-requires : goal.note_elements-requires
note_elements-requires c =
    let n = c.in_ok-n.ensures ∙ ap (λ es. length es) c.deref-2.ensures.value in
    let l = c.requires.built.counted.as_many in
    omega (arith, n, l)

pub returns-in_err-note_elements-clause-built : goal.returns-in_err-note_elements-clause-built
returns-in_err-note_elements-clause-built c =
    let n = c.in_ok-n.ensures ∙ ap (λ es. length es) c.deref-2.ensures.value in
    recounted (contents_of c.args.self.now.table c.args.self.now.numbers c.args.self.now.elements.items) c.requires.built c.in_ok-n.n n _ c.in_err-note_elements.ensures.kept c.in_err-note_elements.ensures.as_many

pub returns-in_err-push-clause-built : goal.returns-in_err-push-clause-built
returns-in_err-push-clause-built c =
    let n = c.in_ok-n.ensures ∙ ap (λ es. length es) c.deref-2.ensures.value in
    let b = contents_of c.args.self.now.table c.args.self.now.numbers c.note_elements.new.elements.items in
    let built = recounted (contents_of c.args.self.now.table c.args.self.now.numbers c.args.self.now.elements.items) c.requires.built c.in_ok-n.n n _ c.in_ok-note_elements.ensures.kept c.in_ok-note_elements.ensures.as_many in
    same_contents b built b.types b.entries b.bases b.layouts _ refl refl refl refl (ap (λ ns. record b.notes { pointers = ns }) c.in_err-push.ensures.items)

pub push_pointer-requires-clause-next : goal.push_pointer-requires-clause-next
push_pointer-requires-clause-next c = pointer_next (contents_of c.args.self.now.table c.args.self.now.numbers c.args.self.now.elements.items) c.requires.built c.in_ok-p.p (c.in_ok-p.ensures ∙ ap (λ es. length es) c.deref.ensures.value)

pub returns-in-Ok-clause-built : goal.returns-in-Ok-clause-built
returns-in-Ok-clause-built c =
    let n = c.in_ok-n.ensures ∙ ap (λ es. length es) c.deref-2.ensures.value in
    let was = contents_of c.args.self.now.table c.args.self.now.numbers c.args.self.now.elements.items in
    let built = recounted was c.requires.built c.in_ok-n.n n _ c.in_ok-note_elements.ensures.kept c.in_ok-note_elements.ensures.as_many in
    let counted = one_counted was c.requires.built c.in_ok-n.n n _ c.in_ok-note_elements.ensures.kept _ (pointer_before _ c.in_ok-p.p) c.in_ok-note_elements.ensures.noted in
    pointer_built (contents_of c.args.self.now.table c.args.self.now.numbers c.note_elements.new.elements.items) built c.in_ok-p.p c.in_ok-n.n (c.in_ok-p.ensures ∙ ap (λ es. length es) c.deref.ensures.value) n counted
    _ _ _ _ _ c.in-Ok.ensures.types c.in-Ok.ensures.entries c.in-Ok.ensures.bases (ap (λ ls. ls.items) c.in-Ok.ensures.layouts) c.in_ok-push.ensures.items c.in-Ok.ensures.sound

pub returns-in-Err-clause-built : goal.returns-in-Err-clause-built
returns-in-Err-clause-built c =
    let n = c.in_ok-n.ensures ∙ ap (λ es. length es) c.deref-2.ensures.value in
    let b = contents_of c.args.self.now.table c.args.self.now.numbers c.note_elements.new.elements.items in
    let built = recounted (contents_of c.args.self.now.table c.args.self.now.numbers c.args.self.now.elements.items) c.requires.built c.in_ok-n.n n _ c.in_ok-note_elements.ensures.kept c.in_ok-note_elements.ensures.as_many in
    same_contents b built _ _ _ _ _ c.in-Err.ensures.same_types c.in-Err.ensures.same_entries c.in-Err.ensures.same_bases (ap (λ ls. ls.items) c.in-Err.ensures.layouts)
    (ap (λ ns. record b.notes { pointers = ns }) (popped _ _ _ _ _ c.in_ok-push.ensures.items c.push.new.self.ok.0 c.pop.ensures.rest))

pub returns-in-Ok-clause-grows : goal.returns-in-Ok-clause-grows
returns-in-Ok-clause-grows c = pointer_grows c.args.self.now.table c.push_pointer.new.table c.requires.built.sound c.in-Ok.ensures.sound _ _ c.in-Ok.ensures.types c.in-Ok.ensures.entries

pub returns-in-Ok-clause-known : goal.returns-in-Ok-clause-known
returns-in-Ok-clause-known c =
    known_pointer c.args.self.now.table c.push_pointer.new.table (pointer_grows c.args.self.now.table c.push_pointer.new.table c.requires.built.sound c.in-Ok.ensures.sound _ _ c.in-Ok.ensures.types c.in-Ok.ensures.entries)
    c.requires.built.layouts _ (ap (λ ls. ls.items) c.in-Ok.ensures.layouts) c.in-Ok.ensures.bases

pub returns-in-Ok-clause-element : goal.returns-in-Ok-clause-element
returns-in-Ok-clause-element c = last_element _ _ _ c.in-Ok.ensures.entries refl
