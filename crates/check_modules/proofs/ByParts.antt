-- The judgement of a module is that of its parts.
use Rattle.std.proofs.Common.{◌≡◌, [], true, None, refl, ap, ◌∙◌}
use Rattle.std.specs.Str.{bytes_eq}
use Rattle.ob_syntax.specs.Syntax as S
use Rattle.ob_judge.specs.Judged.{Judged, Keeps, Breaks, ◌>>=◌, ◌>>◌, rule}
use Rattle.ob_judge.specs.Shapes.{Nothing}
use Rattle.ob_judge.specs.Image.{Module, Statements}
use Rattle.ob_judge.specs.Texts.{texts_of}
use Rattle.ob_judge.specs.Scopes.{Source, place, spelled, line}
use Rattle.ob_judge.specs.Statements.{body_of}
use Rattle.ob_judge.specs.Making.{Making, Part, ◌>>>◌, give, ask, new_procedure, set_procedure}
use Rattle.ob_judge.specs.Declarations.{each, decls_part}
use Rattle.ob_judge.specs.Modules.{imported, is_new, import_part, import_list, module_part}
use Rattle.check_modules.specs.Parts.{body_procedure, declared_part, numbered_part, module_made, ending_part}
use Rattle.check_operands.proofs.calls.Binding.{alike as onward}

joined : {A B C : Type 0} (m : Judged A) (f : A → Judged B) (g : B → Judged C) (h : A → Judged C) → ((a : A) → h a ≡ (f a >>= g)) → (m >>= h) ≡ ((m >>= f) >>= g)
joined (Keeps a) f g h e = e a
joined (Breaks n at) f g h e = refl

-- a value, the scope as it is
abbrev held : {A : Type 0} → Making → A → Judged (A × Making)
held s a = Keeps (a, s)

module _ (p : Source) (x : S.Module) where
  -- what follows a body
  abbrev numbered : Statements → Part Module
  numbered b =
      new_procedure >>> λ f. ask (λ s. s.world.module_number) >>> λ number.
      set_procedure f (record {
        module_number = number;
        line = line p x.name;
        is_body = true;
        formals = [];
        result = Nothing;
        locals = [];
        texts = texts_of b None;
        body = b;
        answer = None;
      }) >>> λ _.
      ask (λ s. s.variables) >>> λ variables. ask (λ s. s.objects) >>> λ objects.
      give (record { name = spelled p x.name; objects = objects; variables = variables; body = f })

  abbrev named : Judged (Unit {0})
  named = rule 37 (place p x.end_name) (bytes_eq (spelled p x.end_name) (spelled p x.name))

  ending_by : (s : Making) (j : Judged Statements) (k : Judged (Unit {0})) → ((j >>= held s) >>= λ r. (k >>= held r.1) >>= λ q. numbered r.0 q.1)
      ≡ (((j >>= λ b. k >> Keeps (body_procedure p x.name s.world.module_number b)) >>= λ q. numbered_part p q s) >>= λ f. held f.1 (module_made p x f.0 f.1))
  ending_by s (Breaks n at) k = refl
  ending_by s (Keeps b) (Breaks n at) = refl
  ending_by s (Keeps b) (Keeps u) = refl

  abbrev rest : Making → Judged (Module × Making)
  rest s = (body_of p s.world x.body >>= held s) >>= λ r. (named >>= held r.1) >>= λ q. numbered r.0 q.1

  abbrev new_name : Making → Judged (Unit {0})
  new_name s = rule 36 (place p x.name) (is_new (imported s.world.modules (spelled p x.name)))

  first_by : (s : Making) (j : Judged (Unit {0})) (f : Making → Judged (Module × Making)) → ((j >>= held s) >>= λ r. f r.1) ≡ (j >> f s)
  first_by s (Keeps a) f = refl
  first_by s (Breaks n at) f = refl

  pub module_parts : (s : Making) → module_part p x s ≡ (new_name s >> (declared_part p x s >>= λ d. ending_part p x d.1))
  module_parts s =
      first_by s (new_name s) (λ t. each (import_part p) (import_list x.imports) t >>= λ a. decls_part p x.decls a.1 >>= λ d. rest d.1)
      ∙ ap (λ (j : Judged (Module × Making)). new_name s >> j)
      (joined (each (import_part p) (import_list x.imports) s) (λ a. decls_part p x.decls a.1) (λ d. ending_part p x d.1) (λ a. decls_part p x.decls a.1 >>= λ d. rest d.1)
      (λ a. onward (decls_part p x.decls a.1) (λ d. rest d.1) (λ d. ending_part p x d.1) (λ d. ending_by d.1 (body_of p d.1.world x.body) named)))
