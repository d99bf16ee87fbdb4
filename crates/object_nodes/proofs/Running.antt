-- In a call of a well-formed program: what designators name, what arguments hand over, and copies.
use Rattle.std.proofs.Common.{◌≡◌, ℕ, zero, suc, List, [], ◌∷◌, ◌++◌, map, length, filter, Bool, true, ◌&&◌, Some, refl, sym, ap, ap₂, ◌∙◌, subst}
use Rattle.std.specs.Prelude.{slice_get, slice_index_or, nat_lt}
use Rattle.run_laws.specs.Turns.{State, Ending, Gives, Fails, Spent}
use Rattle.ob_types.specs.Store.{Store, Trap, Here}
use Rattle.ob_types.specs.Layout.{kind_of, record_cells}
use Rattle.ob_types.specs.Layout.{cells as cells_of}
use Rattle.ob_types.specs.Meaning.{procedure_of, locals_of, kind_in, length_of_kind, element_kind, record_of_kind, designated, arguments, effect, at_most, is_value, start}
use Rattle.ob_types.specs.declared.tree.Designator.{Designator}
use Rattle.ob_types.specs.declared.tree.Call.{Row_of-Argument}
use Rattle.ob_types.specs.declared.statements.Stmt.{CopyArray, CopyRecord}
use Rattle.ob_types.specs.declared.types.Formal.{Formal}
use Rattle.ob_types.specs.declared.program.Module.{Module}
use Rattle.ob_types.specs.declared.program.Program.{Program}
use Rattle.ob_types.specs.Forms.{Form, joined, all, forms, types_fine}
use Rattle.ob_types.specs.LegalTypes.{is_no_kind}
use Rattle.ob_types.specs.WellFormed
use Rattle.ob_types.specs.WellFormed.{Named, is_empty, well_formed}
use Rattle.ob_types.proofs.Tests.{no, and_of, all_at}
use Rattle.ob_types.proofs.WellFormedParts.{parts_of}
use Rattle.ob_sound.proofs.Typed.{Good, older_refl}
use Rattle.ob_sound.proofs.Handing.{AllTaken, CallsSound}
use Rattle.ob_sound.proofs.Programs.{s_at_most, start_typed}
use Rattle.object_nodes.specs.AtOnce.{copy_array_at_once, copy_record_at_once}
use Rattle.object_nodes.specs.Named.{NamesNode, AllNodes}
use Rattle.object_nodes.specs.Running.{IsCall, GivesOnly, forms_of_all}
use Rattle.object_nodes.proofs.Handed.{b_named, b_arguments}
use Rattle.object_nodes.proofs.WholeCopies.{array_at_once, record_at_once}

forms_stand : (p : Program) (vs : List (List ℕ)) (o : ℕ) → slice_index_or (forms_of_all p vs) o [] ≡ joined (forms p.types) (slice_index_or vs o [])
forms_stand p [] o = refl
forms_stand p (ks ∷ vs) zero = refl
forms_stand p (ks ∷ vs) (suc o) = forms_stand p vs o

gives_only : {A : Type 0} (p : Program) (fs : List (List Form)) (tags : List ℕ) (P : List ℕ → A → Type 0) (e : Ending Store Trap A) → Good p fs P tags e → GivesOnly P e
gives_only p fs tags P (Gives a t) g = g.2
gives_only p fs tags P (Fails trap out) g = tt
gives_only p fs tags P (Spent out) g = tt

module _ (p : Program) (packed : Bool) (well : well_formed p ≡ true) (fine : types_fine p.types ≡ true) (vs : List (List ℕ)) (here : Here) (fuel : ℕ) (s : State Store) (call : IsCall p packed fine vs here s.store) where
  abbrev fs : List (List Form)
  fs = forms_of_all p vs

  calls_sound : CallsSound p fine (at_most p fuel)
  calls_sound = s_at_most p fine (parts_of p well).procedures fuel

  frame : slice_index_or fs here.frame [] ≡ joined (forms p.types) (locals_of (procedure_of p here.procedure))
  frame = forms_stand p vs here.frame ∙ ap (joined (forms p.types)) call.own

  pub names_node : (d : Designator) (n : Named) → WellFormed.named p here.procedure d ≡ Some n → GivesOnly (λ tags h. NamesNode p packed vs tags n h) (designated p (at_most p fuel) here d s)
  names_node d n is =
      gives_only p fs s.store.tags (λ tags h. NamesNode p packed vs tags n h) (designated p (at_most p fuel) here d s)
      (((b_named p packed fine vs (at_most p fuel) calls_sound here fs s.store.tags frame call.taken call.own call.nodes d).sound n is).by s (older_refl s.store.tags) call.typed)

  pub hands_nodes : (m : _) (row : Row_of-Argument m) (xs : List Formal) → WellFormed.all_suit p here.procedure row xs ≡ true → GivesOnly (λ tags hs. AllNodes p packed vs tags xs hs) (arguments p (at_most p fuel) here row s)
  hands_nodes m row xs suits =
      gives_only p fs s.store.tags (λ tags hs. AllNodes p packed vs tags xs hs) (arguments p (at_most p fuel) here row s)
      ((b_arguments p packed fine vs (at_most p fuel) calls_sound here fs s.store.tags frame call.taken call.own call.nodes m row xs suits).by s (older_refl s.store.tags) call.typed)

  pub array_copy : (rounds : ℕ) (d e : Designator) → WellFormed.fine p here.procedure (CopyArray d e) ≡ true → effect p (at_most p fuel) here rounds (CopyArray d e) s
      ≡ copy_array_at_once here.procedure (designated p (at_most p fuel) here d) (length_of_kind (kind_in d)) (designated p (at_most p fuel) here e) (length_of_kind (kind_in e)) (cells_of p.types (element_kind (kind_in d))) s
  array_copy rounds d e h = array_at_once p packed fine vs (at_most p fuel) calls_sound here fs s call.typed (forms_stand p vs) frame call.taken call.own call.nodes d e h

  pub record_copy : (rounds : ℕ) (d e : Designator) → WellFormed.fine p here.procedure (CopyRecord d e) ≡ true → effect p (at_most p fuel) here rounds (CopyRecord d e) s
      ≡ copy_record_at_once (designated p (at_most p fuel) here d) (designated p (at_most p fuel) here e) (record_cells p.types (record_of_kind (kind_in d))) s
  record_copy rounds d e h = record_at_once p packed fine vs (at_most p fuel) calls_sound here fs s call.typed (forms_stand p vs) frame call.taken call.own call.nodes d e h

empty_is : {A : Type 0} (xs : List A) → is_empty xs ≡ true → xs ≡ []
empty_is [] h = refl
empty_is (x ∷ xs) h = no h

-- each module's body begins as such a call
pub body_call : (p : Program) (packed : Bool) → well_formed p ≡ true → (fine : types_fine p.types ≡ true) (input : List ℕ) → all (λ x. nat_lt x 256) input ≡ true → (i : ℕ) (m : Module) → slice_get p.modules i ≡ Some m
    → IsCall p packed fine [] (record { procedure = m.body; frame = 0; arguments = [] }) (start p input)
body_call p packed well fine input bytes i m at =
    let parts = parts_of p well in
    let q = procedure_of p m.body in
    let alone = is_empty q.formals && is_empty q.locals in
    let silent = is_no_kind (kind_of p.types q.result) && WellFormed.no_answer q.answer in
    let h = and_of (nat_lt m.body (length p.procedures) && q.is_body) (alone && silent) (all_at (WellFormed.module_fine p) p.modules parts.modules i m at) in
    let v = and_of (is_empty q.formals) (is_empty q.locals) (and_of alone silent h.1).0 in
    let none = empty_is q.formals v.0 in
    record {
      typed = start_typed p fine parts.procedures input parts.texts bytes;
      own = sym (ap₂ (λ a b. map (λ x. x.type_number) (filter (λ x. is_value x.mode) a) ++ b) none (empty_is q.locals v.1));
      taken = subst (λ xs. AllTaken p fine [] [] xs []) (sym none) tt;
      nodes = subst (λ xs. AllNodes p packed [] [] xs []) (sym none) tt;
    }
