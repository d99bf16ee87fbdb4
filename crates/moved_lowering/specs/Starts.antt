-- Programs whose form is the start of another's.
use Rattle.std.specs.Prelude.{◌≡◌, ℕ, List, [], ◌∷◌, ◌++◌, map, length}
use Rattle.ob_types.specs.declared.program.Program.{Program}
use Rattle.ob_judge.specs.Image as I
use Rattle.judged_tree.specs.Plain.{plain_program}
use Rattle.ssa_core.specs.declared.procedure.Proc.{Proc}
use Rattle.one_lowering.specs.Forms.{HasClosedTypes, numbered}
use Rattle.judged_fronts.specs.Fronts.{IsFront}
use Rattle.moved_code.specs.Procedures.{AreAlikeProcs}
use Rattle.moved_lowering.specs.Within.{RecordsWithin, ProceduresWithin}

-- a procedure without the strings that it uses, which its body tells by their numbers
abbrev pub unspelled : I.Procedure → I.Procedure
unspelled q = record q { texts = [] }

abbrev pub bodies_of : List I.Procedure → List I.Procedure
bodies_of qs = map unspelled qs

-- the record types and the procedures of one program's form are the first ones of another's, and name no others
pub record HasStart (p q : Program) : Type 0 where
  -- the bytes of the modules' texts, which only constants read
  pub sources : List (List ℕ)
  pub others : List (List ℕ)
  pub closed : HasClosedTypes (plain_program sources (numbered p))
  pub closed_too : HasClosedTypes (plain_program others (numbered q))
  pub records : IsFront (plain_program sources (numbered p)).records (plain_program others (numbered q)).records
  pub procedures : IsFront (bodies_of (plain_program sources (numbered p)).procedures) (bodies_of (plain_program others (numbered q)).procedures)
  pub records_within : RecordsWithin (length (plain_program sources (numbered p)).records) (plain_program sources (numbered p)).records
  pub procedures_within : ProceduresWithin (length (plain_program sources (numbered p)).records) (plain_program sources (numbered p)).procedures

-- one for one
abbrev pub AllAlikeProcs : List Proc → List Proc → Type 0
AllAlikeProcs [] [] = Unit {0}
AllAlikeProcs [] (q ∷ qs) = ⊥
AllAlikeProcs (p ∷ ps) [] = ⊥
AllAlikeProcs (p ∷ ps) (q ∷ qs) = AreAlikeProcs p q × AllAlikeProcs ps qs

-- procedures are alike the first of others
pub record AreAlikeFirst (ps qs : List Proc) : Type 0 where
  pub first : List Proc
  pub rest : List Proc
  pub is : qs ≡ first ++ rest
  pub alike : AllAlikeProcs ps first
