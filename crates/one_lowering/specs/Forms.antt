-- What of a checked program its lowering reads: its form, where types stand by their shapes and each use of a string by its
-- number; and the strings.
use Rattle.std.specs.Prelude.{◌≡◌, ℕ, zero, suc, List, [], ◌∷◌, map, length, Bool, true, false, ◌&&◌}
use Rattle.ob_types.specs.Forms.{all}
use Rattle.ob_types.specs.Meaning.{texts_of}
use Rattle.ob_types.specs.declared.program.Procedure.{Procedure}
use Rattle.ob_types.specs.declared.program.Program.{Program}
use Rattle.ob_judge.specs.Shapes.{Shape, Nothing, Array, Open}
use Rattle.ob_judge.specs.Image.{Program as ProgramImage}
use Rattle.judged_tree.specs.Plain.{plain_program}
use Rattle.ssa_lowered.specs.Data.{layout, globals_room}
use Rattle.ssa_lowered.specs.Constants.{constants}
use Rattle.ssa_lowered.specs.Limits.{limit_of}
use Rattle.ssa_lowered.specs.Lowered.{lowered}

-- a type, and not the want of one
abbrev pub is_type : Shape → Bool
is_type Nothing = false
is_type s = true

-- each array has elements of some type
abbrev pub is_closed : Shape → Bool
is_closed (Array n s) = is_type s && is_closed s
is_closed (Open s) = is_type s && is_closed s
is_closed s = true

-- so it is in all types that fields, variables and parameters have
pub record HasClosedTypes (p : ProgramImage) : Type 0 where
  pub fields : all (λ r. all (λ x. is_closed x.shape) r.fields) p.records ≡ true
  pub variables : all (λ m. all is_closed m.variables) p.modules ≡ true
  pub formals : all (λ q. all (λ x. is_closed x.shape) q.formals) p.procedures ≡ true
  pub locals : all (λ q. all is_closed q.locals) p.procedures ≡ true

-- so many numbers from i on, each where a string may stand
abbrev pub tally : (i n : ℕ) → List (List ℕ)
tally i zero = []
tally i (suc n) = (i ∷ []) ∷ tally (suc i) n

-- each use of a string has its own number for its characters
abbrev pub numbered_procedure : ℕ → Procedure → Procedure
numbered_procedure n q = record q { texts = tally 0 n }

-- in the whole program: no use has a number past the program's strings
abbrev pub numbered : Program → Program
numbered p = record p { procedures = map (numbered_procedure (length (texts_of p.procedures))) p.procedures }

-- two programs have one form, in which each use of a string is told by its number; and each procedure has the same strings
pub record HaveOneForm (p q : Program) : Type 0 where
  -- the bytes of the modules' texts, which only constants read
  pub sources : List (List ℕ)
  pub others : List (List ℕ)
  pub form : plain_program sources (numbered p) ≡ plain_program others (numbered q)
  pub texts : map (λ x. x.texts) p.procedures ≡ map (λ x. x.texts) q.procedures

-- where a procedure stands in the texts: its module and its line
abbrev pub place_of : Procedure → ℕ × ℕ
place_of x = (x.«module», x.line)

-- two programs have the same procedures in blocks, in the same modules and lines, the same bytes of variables and of constants, the
-- same limit that is passed first, if one is, and import In both or neither
pub record HaveOneLowering (p q : Program) : Type 0 where
  pub procedures : lowered p ≡ lowered q
  pub places : map place_of p.procedures ≡ map place_of q.procedures
  pub globals : globals_room p (layout p.types) ≡ globals_room q (layout q.types)
  -- where the globals start at any address
  pub constants : (base : ℕ) → constants p (layout p.types) base ≡ constants q (layout q.types) base
  pub limit : limit_of p ≡ limit_of q
  pub imports : p.imports_in ≡ q.imports_in
