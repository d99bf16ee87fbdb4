-- A call in a run of a well-formed program: its store, its own variables and what was handed to it.
use Rattle.std.specs.Prelude.{◌≡◌, ℕ, List, [], map, true, Bool, slice_index_or}
use Rattle.run_laws.specs.Turns.{Ending, Gives, Fails, Spent}
use Rattle.ob_types.specs.Store.{Store, Trap, Here}
use Rattle.ob_types.specs.Meaning.{procedure_of, locals_of}
use Rattle.ob_types.specs.declared.program.Program.{Program}
use Rattle.ob_types.specs.Forms.{Form, joined, forms, types_fine}
use Rattle.ob_sound.proofs.Typed.{Typed}
use Rattle.ob_sound.proofs.Handing.{AllTaken}
use Rattle.object_nodes.specs.Named.{AllNodes}

-- the forms of the cells of variables of these types
abbrev pub forms_of_all : Program → List (List ℕ) → List (List Form)
forms_of_all p vs = map (joined (forms p.types)) vs

-- here is a call, where the active calls have variables of the types vs: each cell has what its form says, and what was handed over is of the
-- parameters' types and a node
pub record IsCall (p : Program) (packed : Bool) (fine : types_fine p.types ≡ true) (vs : List (List ℕ)) (here : Here) (s : Store) : Type 0 where
  pub typed : Typed p (forms_of_all p vs) s
  pub own : slice_index_or vs here.frame [] ≡ locals_of (procedure_of p here.procedure)
  pub taken : AllTaken p fine (forms_of_all p vs) s.tags (procedure_of p here.procedure).formals here.arguments
  pub nodes : AllNodes p packed vs s.tags (procedure_of p here.procedure).formals here.arguments

-- where a part of the meaning gives something, this holds of it, and of the types of the objects on the heap
abbrev pub GivesOnly : {A : Type 0} → (List ℕ → A → Type 0) → Ending Store Trap A → Type 0
GivesOnly P (Gives a t) = P t.store.tags a
GivesOnly P (Fails trap out) = Unit {0}
GivesOnly P (Spent out) = Unit {0}
