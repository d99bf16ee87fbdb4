-- The judgement of a procedure is that by its parts.
use Rattle.std.proofs.Common.{◌≡◌, ℕ, [], ◌∷◌, ◌++◌, length, false, Option, refl, sym, ap, ◌∙◌}
use Rattle.std.specs.Prelude.{is_some}
use Rattle.ob_syntax.specs.Syntax as S
use Rattle.std.specs.Str.{bytes_eq}
use Rattle.ob_judge.specs.Judged.{Judged, Keeps, Breaks, ◌>>=◌, ◌>>◌, rule}
use Rattle.ob_judge.specs.Shapes.{Shape}
use Rattle.ob_judge.specs.Image.{Procedure, Statements, Checked}
use Rattle.ob_judge.specs.Texts.{texts_of}
use Rattle.ob_judge.specs.Scopes.{Source, place, spelled, line}
use Rattle.ob_judge.specs.Statements.{body_of}
use Rattle.ob_judge.specs.Making.{Making, Part, ◌>>>◌, ask, here, no_procedure, set_procedure, within_procedure}
use Rattle.ob_judge.specs.Parameters.{Listed, stand}
use Rattle.ob_judge.specs.Declarations.{answer, heading, decls_part, procedures_part}
use Rattle.judged_modules.specs.steps.Procedures.{OneProcedure, with_procedure}
use Rattle.judged_modules.specs.steps.Frames.{entered, left}
use Rattle.judged_modules.specs.steps.Steps.{completes, inside, procedure_part}

pub then_then : {A B C : Type 0} (m : Judged A) (f : A → Judged B) (g : B → Judged C) → (m >>= f) >>= g ≡ (m >>= λ a. f a >>= g)
then_then (Keeps a) f g = refl
then_then (Breaks n at) f g = refl

pub after_then : {B C : Type 0} (m : Judged (Unit {0})) (n : Judged B) (g : B → Judged C) → (m >> n) >>= g ≡ (m >>= λ _. n >>= g)
after_then (Keeps a) n g = refl
after_then (Breaks number at) n g = refl

pub then_same : {A B : Type 0} (m : Judged A) (f g : A → Judged B) → ((a : A) → f a ≡ g a) → (m >>= f) ≡ (m >>= g)
then_same (Keeps a) f g h = h a
then_same (Breaks n at) f g h = refl

-- a judgement's value, beside the scope as it is
abbrev beside : {A : Type 0} → Making → A → Judged (A × Making)
beside s a = Keeps (a, s)

module _ {A B C D : Type 0} (s : Making) (f : A → B → Making → Judged D) where
  look_last : (a : A) (y : B) (c : Judged C) → ((c >>= beside s) >>= λ (z : C × Making). f a y z.1) ≡ (c >>= λ z. f a y s)
  look_last a y (Keeps z) = refl
  look_last a y (Breaks n at) = refl

  look_two : (a : A) (j : Judged B) (c : Judged C) → ((j >>= beside s) >>= λ (y : B × Making). (c >>= beside y.1) >>= λ (z : C × Making). f a y.0 z.1) ≡ (j >>= λ y. c >>= λ z. f a y s)
  look_two a (Keeps y) c = look_last a y c
  look_two a (Breaks n at) c = refl

  -- three judgements in the scope as it is
  looked : (a : Judged A) (b : Making → Judged B) (c : Judged C)
      → ((a >>= beside s) >>= λ (x : A × Making). (b x.1 >>= beside x.1) >>= λ (y : B × Making). (c >>= beside y.1) >>= λ (z : C × Making). f x.0 y.0 z.1)
      ≡ (a >>= λ x. b s >>= λ y. c >>= λ z. f x y s)
  looked (Keeps a) b c = look_two a (b s) c
  looked (Breaks n at) b c = refl

module _ (p : Source) where
  -- what it becomes
  abbrev made : OneProcedure → Listed × Shape → Statements → Option Checked → Making → Procedure
  made q h b a s = record {
    module_number = s.world.module_number;
    line = line p q.name.name;
    is_body = false;
    formals = h.0.parameters;
    result = h.1;
    locals = s.variables;
    texts = texts_of b a;
    body = b;
    answer = a;
  }

  abbrev tail : (f : ℕ) → OneProcedure → Listed × Shape → Part (Unit {0})
  tail f q h =
      here (λ w. body_of p w q.body) >>> λ b. here (answer p h.1 q.end_word q.returned) >>> λ a.
      here (λ w. rule 37 (place p q.end_name) (bytes_eq (spelled p q.end_name) (spelled p q.name.name))) >>> λ _.
      ask (λ s. s.variables) >>> λ locals. ask (λ s. s.world.module_number) >>> λ m.
      set_procedure f (record { module_number = m; line = line p q.name.name; is_body = false; formals = h.0.parameters; result = h.1; locals = locals; texts = texts_of b a; body = b; answer = a })

  tail_is : (f : ℕ) (q : OneProcedure) (h : Listed × Shape) (s : Making) → tail f q h s ≡ completes p f q h s
  tail_is f q h s =
      looked s (λ b a u. set_procedure f (made q h b a u) u) (body_of p s.world q.body) (λ u. answer p h.1 q.end_word q.returned u.world) (rule 37 (place p q.end_name) (bytes_eq (spelled p q.end_name) (spelled p q.name.name)))
      ∙ sym (then_then (body_of p s.world q.body) _ (λ j. set_procedure f j s)
      ∙ then_same (body_of p s.world q.body) _ _ (λ b. then_then (answer p h.1 q.end_word q.returned s.world) _ (λ j. set_procedure f j s)
      ∙ then_same (answer p h.1 q.end_word q.returned s.world) _ _ (λ a. after_then (rule 37 (place p q.end_name) (bytes_eq (spelled p q.end_name) (spelled p q.name.name))) (Keeps (made q h b a s)) (λ j. set_procedure f j s))))

  -- in its own scope, once it has a number
  scope_is : (q : OneProcedure) (t : Making)
      → within_procedure (length t.procedures) (heading p (length t.procedures) q.name q.formals (is_some t.world.procedure) >>> λ h. decls_part p q.decls >>> λ _. tail (length t.procedures) q h) (record t { procedures = t.procedures ++ no_procedure ∷ [] })
      ≡ within_procedure (length t.procedures) (inside p (length t.procedures) (is_some t.world.procedure) q) (record t { procedures = t.procedures ++ no_procedure ∷ [] })
  scope_is q t = ap (λ (m : Judged (Unit {0} × Making)). m >>= λ r. Keeps (r.0, left (record t { procedures = t.procedures ++ no_procedure ∷ [] }) r.1))
      (then_same (heading p (length t.procedures) q.name q.formals (is_some t.world.procedure) (entered (length t.procedures) (record t { procedures = t.procedures ++ no_procedure ∷ [] }))) _ _
      (λ h. then_same (decls_part p q.decls h.1) _ _ (λ d. tail_is (length t.procedures) q h.0 d.1)))

  -- a procedure, and those behind it
  pub procedures_law : (q : OneProcedure) (last : ℕ) (rest : S.Procedures) (s : Making) → procedures_part p (with_procedure q last rest) s ≡ (procedure_part p q s >>= λ r. procedures_part p rest r.1)
  procedures_law q last rest s =
      then_same (stand p (q.name.name ∷ []) s) _ _ (λ r. ap (λ (m : Judged (Unit {0} × Making)). m >>= λ e. procedures_part p rest e.1) (scope_is q r.1))
      ∙ sym (then_then (stand p (q.name.name ∷ []) s) _ (λ e. procedures_part p rest e.1))
