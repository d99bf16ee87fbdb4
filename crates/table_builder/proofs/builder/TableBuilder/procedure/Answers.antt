use Rattle.std.proofs.Common.{ap, ◌∙◌, sym, subst}
use Rattle.table_builder.specs.Index.{HasSignature, signature_parts}
use Rattle.table_builder.specs.Contents.{contents_of}
use Rattle.table_builder.proofs.Calls.{procedure_numbered, procedure_means}
use Rattle.table_builder.proofs.builder.TableBuilder.procedure.Goals as goal

pub returns-in-Some-clause-element : goal.returns-in-Some-clause-element
returns-in-Some-clause-element c =
    let h = c.requires.built.signatures.says c.deref.result.now c.in-Some.g (sym c.signature.ensures ∙ c.in-Some.is) in
    procedure_numbered (contents_of c.args.self.now.table c.args.self.now.numbers c.args.self.now.elements.items) c.requires.built c.in-Some.g h.at h.there

pub returns-in-Some-clause-shape : goal.returns-in-Some-clause-shape
returns-in-Some-clause-shape c =
    let h = c.requires.built.signatures.says c.deref.result.now c.in-Some.g (sym c.signature.ensures ∙ c.in-Some.is) in
    procedure_means (contents_of c.args.self.now.table c.args.self.now.numbers c.args.self.now.elements.items) c.requires.built c.in-Some.g c.args.formals c.args.result_type
    (subst (HasSignature c.args.self.now.table.types.signatures c.in-Some.g) (c.deref.ensures.value ∙ c.in_ok-parts.ensures ∙ ap (λ fs. signature_parts fs c.args.result_type) c.as_slice.ensures) h)
