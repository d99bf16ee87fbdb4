-- What has been made so far is in the whole program.
use Rattle.std.specs.Prelude.{◌≡◌, ◌<◌, ℕ, zero, suc, ◌+◌, List, [], ◌∷◌, ◌++◌, length, Bool, true, false, if◌then◌else◌, Option, Some, None, is_some, slice_get}
use Rattle.ob_judge.specs.Shapes.{Shape, Formals, none, one, Layout, record_extends}
use Rattle.ob_judge.specs.Image.{Formal, Procedure}
use Rattle.ob_judge.specs.Parameters.{is_value}
use Rattle.ob_judge.specs.Making.{Making}
use Rattle.judged_modules.specs.Final.{Final}

-- the types of scalar value parameters
abbrev pub value_shapes : List Formal → List Shape
value_shapes [] = []
value_shapes (x ∷ xs) = if is_value x.mode then (x.shape ∷ value_shapes xs) else value_shapes xs

-- the kinds and types of parameters
abbrev pub formals_of : List Formal → Formals
formals_of [] = none
formals_of (x ∷ xs) = one x.variable x.shape (formals_of xs)

-- lines are counted from 1
abbrev pub is_line : ℕ → Bool
is_line zero = false
is_line (suc n) = true

-- a procedure that is complete: it has a line
abbrev pub is_made : Procedure → Bool
is_made q = is_line q.line

-- a procedure, or a module's body, is what the program has by this number
pub record IsProcedure (w : Final) (f : ℕ) (q : Procedure) : Type 0 where
  pub heading : q.is_body ≡ false → w.heading f ≡ Some (formals_of q.formals, q.result)
  pub parameter : (k : ℕ) (x : Formal) → slice_get q.formals k ≡ Some x → w.parameter f k ≡ Some (x.variable, x.shape)
  pub variable : (v : ℕ) (s : Shape) → slice_get (value_shapes q.formals ++ q.locals) v ≡ Some s → w.variable f v ≡ Some s

-- a variable of the open procedure or module, behind so many scalar value parameters
abbrev pub IsVariable : Final → (procedure : Option ℕ) → (module_number values v : ℕ) → Shape → Type 0
IsVariable w None m values v s = w.global m (values + v) ≡ Some s
IsVariable w (Some f) m values v s = w.variable f (values + v) ≡ Some s

abbrev pub records_of : Making → List Layout
records_of s = s.world.known.records

abbrev pub bases_of : Making → List (Option ℕ)
bases_of s = s.world.known.bases

pub record Agrees (w : Final) (s : Making) : Type 0 where
  pub there : (r : ℕ) → r < length (records_of s) → w.is_record r ≡ true
  pub extends : (a b : ℕ) → record_extends s.world.known a b ≡ true → w.extends a b ≡ true
  pub field : (r i : ℕ) (l : Layout) (x : _) → slice_get (records_of s) r ≡ Some l → slice_get l.added i ≡ Some x → w.field r i ≡ Some x.shape
  pub target : (n r : ℕ) → slice_get (bases_of s) n ≡ Some (Some r) → w.target n ≡ Some r
  pub pointer : (n : ℕ) → n < length (bases_of s) → is_some (w.target n) ≡ true
  pub procedure : (f : ℕ) (q : Procedure) → slice_get s.procedures f ≡ Some q → is_made q ≡ true → IsProcedure w f q
  pub variable : (v : ℕ) (x : Shape) → slice_get s.variables v ≡ Some x → IsVariable w s.world.procedure s.world.module_number s.values v x
