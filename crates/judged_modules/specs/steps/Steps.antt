-- The judgement of a procedure by its parts.
use Rattle.std.specs.Prelude.{ℕ, [], ◌∷◌, Bool, false, is_some}
use Rattle.std.specs.Str.{bytes_eq}
use Rattle.ob_judge.specs.Judged.{Judged, Keeps, ◌>>=◌, ◌>>◌, rule}
use Rattle.ob_judge.specs.Shapes.{Shape}
use Rattle.ob_judge.specs.Image.{Procedure}
use Rattle.ob_judge.specs.Texts.{texts_of}
use Rattle.ob_judge.specs.Scopes.{Source, place, spelled, line}
use Rattle.ob_judge.specs.Statements.{body_of}
use Rattle.ob_judge.specs.Making.{Making, Part, ◌>>>◌, ask, new_procedure, set_procedure, within_procedure}
use Rattle.ob_judge.specs.Parameters.{Listed, stand}
use Rattle.ob_judge.specs.Declarations.{answer, heading, decls_part}
use Rattle.judged_modules.specs.steps.Procedures.{OneProcedure}

module _ (p : Source) where
  -- what a procedure is, where its declarations have been judged: its body, RETURN and the name behind END
  abbrev pub completed : OneProcedure → Listed × Shape → Making → Judged Procedure
  completed q h s = do
    b ← body_of p s.world q.body
    a ← answer p h.1 q.end_word q.returned s.world
    rule 37 (place p q.end_name) (bytes_eq (spelled p q.end_name) (spelled p q.name.name))
    Keeps (record {
      module_number = s.world.module_number;
      line = line p q.name.name;
      is_body = false;
      formals = h.0.parameters;
      result = h.1;
      locals = s.variables;
      texts = texts_of b a;
      body = b;
      answer = a;
    })

  -- and so it is known by its number
  abbrev pub completes : (f : ℕ) → OneProcedure → Listed × Shape → Part (Unit {0})
  completes f q h s = completed q h s >>= λ j. set_procedure f j s

  -- in its own scope
  abbrev pub inside : (f : ℕ) → (is_local : Bool) → OneProcedure → Part (Unit {0})
  inside f is_local q = heading p f q.name q.formals is_local >>> λ h. decls_part p q.decls >>> λ _. completes f q h

  -- the whole
  abbrev pub procedure_part : OneProcedure → Part (Unit {0})
  procedure_part q =
      stand p (q.name.name ∷ []) >>> λ _. ask (λ s. is_some s.world.procedure) >>> λ is_local. new_procedure >>> λ f.
      within_procedure f (inside f is_local q)
