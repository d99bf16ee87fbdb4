-- A judged image has closed types, and so has a program with that image.
use Rattle.std.proofs.Common.{◌≡◌, ℕ, List, [], ◌∷◌, map, length, Bool, true, ◌&&◌, refl, sym, ap, subst, ◌∙◌}
use Rattle.ob_types.specs.Forms.{all}
use Rattle.ob_types.specs.Meaning.{texts_of}
use Rattle.ob_types.specs.declared.program.Program.{Program}
use Rattle.ob_types.proofs.Tests.{and_of, and_from}
use Rattle.ob_judge.specs.Judged.{Judged, Keeps, Breaks}
use Rattle.ob_judge.specs.Image as I
use Rattle.ob_judge.specs.Modules.{SoFar, Parsed, Verdict, Legal, no_modules, record_form, program_of, judged_after, checked_after, checked, with_module}
use Rattle.judged_tree.specs.Plain.{plain_module, plain_procedure, plain_program}
use Rattle.judged_tree.specs.Outline.{outlined_procedure, outlined_program}
use Rattle.judged_modules.proofs.Keeping.{given}
use Rattle.one_lowering.specs.Forms.{is_closed, HasClosedTypes, numbered_procedure, numbered}
use Rattle.one_lowering.proofs.Lists.{all_of_map}
use Rattle.text_laws.proofs.judged_shapes.Modules.{FineSoFar, none_fine, module_fine}

legal_same : (a b : I.Program) → Legal a ≡ Legal b → a ≡ b
legal_same a b h = cc

-- two tests of each
first_of : {A : Type 0} (f g : A → Bool) (xs : List A) → all (λ x. f x && g x) xs ≡ true → all f xs ≡ true
first_of f g [] h = refl
first_of f g (x ∷ xs) h = let b = and_of (f x && g x) (all (λ y. f y && g y) xs) h in and_from (f x) (all f xs) (and_of (f x) (g x) b.0).0 (first_of f g xs b.1)

second_of : {A : Type 0} (f g : A → Bool) (xs : List A) → all (λ x. f x && g x) xs ≡ true → all g xs ≡ true
second_of f g [] h = refl
second_of f g (x ∷ xs) h = let b = and_of (f x && g x) (all (λ y. f y && g y) xs) h in and_from (g x) (all g xs) (and_of (f x) (g x) b.0).1 (second_of f g xs b.1)

abbrev formals_closed : I.Procedure → Bool
formals_closed q = all (λ x. is_closed x.shape) q.formals

abbrev locals_closed : I.Procedure → Bool
locals_closed q = all is_closed q.locals

end_closed : (c : SoFar) → FineSoFar c → HasClosedTypes (program_of c)
end_closed c h = record {
  fields = all_of_map (λ (r : I.RecordType). all (λ x. is_closed x.shape) r.fields) record_form c.known.records ∙ h.fields;
  variables = h.variables_;
  formals = first_of formals_closed locals_closed c.procedures h.procedures_;
  locals = second_of formals_closed locals_closed c.procedures h.procedures_;
}

-- one module was accepted, and then those behind it
accepted : (j : Judged SoFar) (n : ℕ) (rest : SoFar → Verdict) (q : I.Program) → judged_after j n rest ≡ Legal q → (d : SoFar) × (j ≡ Keeps d) × (rest d ≡ Legal q)
accepted (Keeps d) n rest q h = (d, refl, h)
accepted (Breaks number at) n rest q h = absurd (let z = h in cc)

all_after : (ms : List Parsed) (c : SoFar) (q : I.Program) → FineSoFar c → checked_after c ms ≡ Legal q → HasClosedTypes q
all_after [] c q fine is = subst HasClosedTypes (legal_same (program_of c) q is) (end_closed c fine)
all_after (m ∷ ms) c q fine is =
    let k = accepted (with_module m.source m.tree c) (length c.modules) (λ d. checked_after d ms) q is in
    all_after ms k.0 q (given k.0 (module_fine m.source m.tree c fine) k.1) k.2

pub judged_closed : (ms : List Parsed) (q : I.Program) → checked ms ≡ Legal q → HasClosedTypes q
judged_closed ms q is = all_after ms no_modules q none_fine is

-- a test of all procedures that sees no uses of strings
numbered_same : (p : Program) (n : ℕ) (test : I.Procedure → Bool) → ((q : _) → test (plain_procedure p.types (numbered_procedure n q)) ≡ test (plain_procedure p.types q))
    → all test (map (plain_procedure p.types) (map (numbered_procedure n) p.procedures)) ≡ all test (map (plain_procedure p.types) p.procedures)
numbered_same p n test same =
    all_of_map test (plain_procedure p.types) (map (numbered_procedure n) p.procedures)
    ∙ all_of_map (λ q. test (plain_procedure p.types q)) (numbered_procedure n) p.procedures
    ∙ ap (λ f. all f p.procedures) (λ k q. same q k)
    ∙ sym (all_of_map test (plain_procedure p.types) p.procedures)

-- a program whose image is the outline of one with closed types
pub program_closed : (p : Program) (sources : List (List ℕ)) (image : I.Program) → plain_program sources p ≡ outlined_program image → HasClosedTypes image
    → (others : List (List ℕ)) → HasClosedTypes (plain_program others (numbered p))
program_closed p sources image same h others =
    let procedures : (test : I.Procedure → Bool) → ((q : I.Procedure) → test (outlined_procedure image.pointers q) ≡ test q) → all test image.procedures ≡ true → all test (map (plain_procedure p.types) p.procedures) ≡ true =
    λ test keep holds. ap (λ x. all test x.procedures) same ∙ (all_of_map test (outlined_procedure image.pointers) image.procedures ∙ (ap (λ f. all f image.procedures) (λ k q. keep q k) ∙ holds)) in
    record {
      fields = ap (λ x. all (λ (r : I.RecordType). all (λ y. is_closed y.shape) r.fields) x.records) same ∙ h.fields;
      variables =
          all_of_map (λ (m : I.Module). all is_closed m.variables) (plain_module p.types others) p.modules
          ∙ sym (all_of_map (λ (m : I.Module). all is_closed m.variables) (plain_module p.types sources) p.modules)
          ∙ ap (λ x. all (λ (m : I.Module). all is_closed m.variables) x.modules) same ∙ h.variables;
      formals = numbered_same p (length (texts_of p.procedures)) formals_closed (λ q. refl) ∙ procedures formals_closed (λ q. refl) h.formals;
      locals = numbered_same p (length (texts_of p.procedures)) locals_closed (λ q. refl) ∙ procedures locals_closed (λ q. refl) h.locals;
    }
