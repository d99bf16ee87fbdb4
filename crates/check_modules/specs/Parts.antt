-- The judgement of a module by the parts that code goes through (Oberon-07 report, section 11).
use Rattle.std.specs.Prelude.{ℕ, [], true, None}
use Rattle.std.specs.Str.{bytes_eq}
use Rattle.ob_syntax.specs.Syntax as S
use Rattle.ob_judge.specs.Judged.{Judged, Keeps, ◌>>=◌, ◌>>◌, rule}
use Rattle.ob_judge.specs.Shapes.{Nothing}
use Rattle.ob_judge.specs.Image.{Module, Procedure, Statements}
use Rattle.ob_judge.specs.Texts.{texts_of}
use Rattle.ob_judge.specs.Scopes.{Source, place, spelled, line}
use Rattle.ob_judge.specs.Statements.{body_of}
use Rattle.ob_judge.specs.Making.{Making, Part, ◌>>>◌, give, new_procedure, set_procedure}
use Rattle.ob_judge.specs.Declarations.{each, decls_part}
use Rattle.ob_judge.specs.Modules.{import_part, import_list}

module _ (p : Source) where
  -- a module's body, its name standing at this symbol, in this module
  abbrev pub body_procedure : (name module_number : ℕ) → Statements → Procedure
  body_procedure name module_number b = record {
    module_number = module_number;
    line = line p name;
    is_body = true;
    formals = [];
    result = Nothing;
    locals = [];
    texts = texts_of b None;
    body = b;
    answer = None;
  }

  -- its imports and its declarations
  abbrev pub declared_part : S.Module → Part (Unit {0})
  declared_part m = each (import_part p) (import_list m.imports) >>> λ _. decls_part p m.decls

  -- its body, and the name behind END
  abbrev pub completed_module : S.Module → Making → Judged Procedure
  completed_module m s = do
    b ← body_of p s.world m.body
    rule 37 (place p m.end_name) (bytes_eq (spelled p m.end_name) (spelled p m.name))
    Keeps (body_procedure m.name s.world.module_number b)

  -- which takes the next number
  abbrev pub numbered_part : Procedure → Part ℕ
  numbered_part j = new_procedure >>> λ f. set_procedure f j >>> λ _. give f

  abbrev pub body_part : S.Module → Part ℕ
  body_part m s = completed_module m s >>= λ j. numbered_part j s

  -- what the program has of it
  abbrev pub module_made : S.Module → (body : ℕ) → Making → Module
  module_made m body s = record { name = spelled p m.name; objects = s.objects; variables = s.variables; body = body }

  -- behind its declarations
  abbrev pub ending_part : S.Module → Part Module
  ending_part m s = body_part m s >>= λ f. Keeps (module_made m f.0 f.1, f.1)
