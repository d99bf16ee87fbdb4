-- States that stand for what is tidy, and whose types stay legal.
use Rattle.std.proofs.Common.{ℕ, [], ◌∷◌, Ok}
use Rattle.ob_syntax.specs.Syntax as S
use Rattle.ob_judge.specs.Judged.{Judged}
use Rattle.ob_judge.specs.Shapes as J
use Rattle.ob_judge.specs.Scopes.{AType, Source}
use Rattle.ob_judge.specs.Making.{Making}
use Rattle.ob_judge.specs.Declarations.{type_decl_part}
use Rattle.judged_well.specs.Gives.{Gives}
use Rattle.judged_modules.specs.Agrees.{records_of}
use Rattle.judged_programs.specs.Ranked.{IsAdding}
use Rattle.judged_programs.specs.Tidy.{Tidy}
use Rattle.judged_programs.proofs.Tidy.{Stays, Any, s_next, s_stand, s_declared}
use Rattle.judged_programs.proofs.TypesTidy.{s_type}
use Rattle.legal_tables.specs.Promised.{HasLegalTypes}
use Rattle.check_types.specs.steps.Answers.{Answers}
use Rattle.check_types.specs.declared.table.Layout.{Layout}
use Rattle.check_making.specs.declared.making.Declaring.{Declaring}
use Rattle.check_making.specs.declared.making.Surroundings.{Surroundings}
use Rattle.check_making.specs.Making.{Makes}
use Rattle.check_making.specs.Parts.{Made, Gave}
use Rattle.check_making.proofs.parameters.Answering.{answers_as}
use Rattle.check_making.specs.new_types.Layouts.{IsSoFarIn}

-- the state stands for what is left, which is tidy; its types are legal where those at the start were
pub record TidyMakes (r : Surroundings) (from : ℕ) (start s : Declaring) (a : Unit {0} × Making) : Type 0 where
  pub makes : Makes r s a.1
  pub tidy : Tidy from a.1
  pub legal : HasLegalTypes start.types.table → HasLegalTypes s.types.table

pub tidy_on : (from : ℕ) (r : Surroundings) (start s t : Declaring) (m : Judged (Unit {0} × Making)) (a : Unit {0} × Making) → TidyMakes r from start s a → Answers (Made r t) m (Ok tt) → Gives (Stays from (Unit {0}) Any a.1) m
    → (HasLegalTypes s.types.table → HasLegalTypes t.types.table) → Answers (TidyMakes r from start) m (Ok t)
tidy_on from r start s t m a k h g f = answers_as m h g (λ b made stays. record { makes = made.makes; tidy = (stays.tidy tt k.tidy).0; legal = λ legal. f (k.legal legal) })

-- fields, in the same way
pub record TidyFields (r : Surroundings) (from : ℕ) (base : J.Layout) (start : Declaring) (b : Declaring × Layout) (a : J.Layout × Making) : Type 0 where
  pub so_far : IsSoFarIn b.0 b.1 a.0
  pub makes : Makes r b.0 a.1
  pub adding : IsAdding (records_of a.1) base a.0
  pub tidy : Tidy from a.1
  pub legal : HasLegalTypes start.types.table → HasLegalTypes b.0.types.table

pub fields_on : (from : ℕ) (r : Surroundings) (base : J.Layout) (start s t : Declaring) (l k : Layout) (m : Judged (J.Layout × Making)) (a : J.Layout × Making) → TidyFields r from base start (s, l) a → Answers (Gave (IsSoFarIn t) r t) m (Ok k)
    → Gives (Stays from (IsAdding (records_of a.1) base a.0) (λ h u. IsAdding (records_of u) base h) a.1) m → (HasLegalTypes s.types.table → HasLegalTypes t.types.table) → Answers (TidyFields r from base start) m (Ok (t, k))
fields_on from r base start s t l k m a h answer g f =
    answers_as m answer g (λ b made stays. let left = stays.tidy h.adding h.tidy in record { so_far = made.value; makes = made.makes; adding = left.1; tidy = left.0; legal = λ legal. f (h.legal legal) })

pub s_type_decl : (from : ℕ) (p : Source) (d : S.TypeDecl) (s : Making) → Gives (Stays from (Unit {0}) Any s) (type_decl_part p d s)
s_type_decl from p d s = s_next (s_stand p (d.name.name ∷ []) s) (λ r. s_next (s_type from p d.is r.1) (λ a. s_declared p d.name (AType a.0) a.1 (λ before. before.1) (λ before none. tt)))
