-- A procedure of which nothing is known.
use Rattle.std.specs.Prelude.{ℕ, [], false, None}
use Rattle.ob_types.specs.declared.program.Procedure.{Procedure}

abbrev pub blank_procedure : (nothing : ℕ) → Procedure
blank_procedure nothing = record {
  «module» = 0;
  line = 0;
  is_body = false;
  formals = [];
  result = nothing;
  locals = [];
  texts = [];
  body = [];
  answer = None;
}
