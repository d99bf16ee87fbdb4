-- Declarations and procedures judged name record types that there are.
use Rattle.std.proofs.Common.{◌≡◌, ℕ, ◌+◌, ◌<◌, ◌≤◌, List, [], ◌∷◌, ◌++◌, length, Bool, true, false, not, Option, Some, None, refl, sym, subst, arith}
use Rattle.std.specs.Prelude.{slice_get, slice_set, is_some, option_map}
use Rattle.ob_types.proofs.Tests.{none_some, some_same}
use Rattle.ob_syntax.specs.Syntax as S
use Rattle.ob_syntax.specs.declared.names.Identdef.{Identdef}
use Rattle.ob_judge.specs.Judged.{some}
use Rattle.ob_judge.specs.Shapes.{Shape}
use Rattle.ob_judge.specs.Shapes.{Procedure as ProcedureOf}
use Rattle.ob_judge.specs.Image.{Constant}
use Rattle.ob_judge.specs.Image.{Bits as TheBits, Chars as TheChars}
use Rattle.ob_judge.specs.Scopes.{AConstant, AType, AVariable, AProcedure, Entry, Source, World, place, spelled}
use Rattle.ob_judge.specs.Symbols.{expression_first}
use Rattle.ob_judge.specs.Operands.{What, Chars, fold, form_in, constant_in}
use Rattle.ob_judge.specs.Expressions.{constant}
use Rattle.ob_judge.specs.Cases.{entry_object}
use Rattle.ob_judge.specs.Making.{Making, Part, with_known, with_levels, declare_outer, last_names, offer_if}
use Rattle.ob_judge.specs.Parameters.{Listed, idents_list, symbols_of, stand}
use Rattle.ob_judge.specs.Types.{record_object}
use Rattle.ob_judge.specs.Declarations.{home_here, place_here, each, const_part, type_decl_part, forward_base, types_part, variable_part, var_part, heading}
use Rattle.judged_well.specs.Gives.{Gives}
use Rattle.judged_well.proofs.Judging.{keeps, weaken, and_then, at_last, anything, gives_both}
use Rattle.judged_modules.specs.Agrees.{bases_of}
use Rattle.judged_modules.proofs.Parameters.{stand_plain}
use Rattle.judged_modules.specs.steps.Frames.{entered, left}
use Rattle.judged_modules.specs.steps.Procedures.{OneProcedure}
use Rattle.judged_modules.specs.steps.Steps.{completed, completes}
use Rattle.judged_outlines.specs.Among.{WorldAmong}
use Rattle.judged_outlines.proofs.Parts.{names_more, names_fewer, names_outer}
use Rattle.later_types.specs.Records.{RecordsAmong, ConstantRecords, ObjectRecords, RecordsInScope}
use Rattle.later_types.specs.Later.{Below}
use Rattle.later_types.proofs.Within.{Ready}
use Rattle.later_types.proofs.Expressed.{a_expression, constant_ready}
use Rattle.later_types.proofs.Reach.{object_later, narrowed_later}
use Rattle.later_types.proofs.Parts.{record_count, ScopedIn, Leaves, Any, r_next, r_look, r_pass, r_give, r_change, r_from, r_stand, r_declared}
use Rattle.later_types.proofs.Parameters.{FormalsIn, r_formals}
use Rattle.later_types.proofs.Types.{scope_with_bases, r_type}

-- ---- constants

of_bits : (P : ℕ → Type 0) (s : Shape) (o : Option ℕ) (c : Constant) → RecordsAmong P s → option_map (TheBits s) o ≡ Some c → ConstantRecords P c
of_bits P s None c h is = none_some c is
of_bits P s (Some b) c h is = subst (ConstantRecords P) (some_same (TheBits s b) c is) h

constant_from : (P : ℕ → Type 0) (s : Shape) (k : What) (c : Constant) → RecordsAmong P s → constant_in s k ≡ Some c → ConstantRecords P c
constant_from P s (Chars cs) c h is = subst (ConstantRecords P) (some_same (TheChars cs) c is) tt
constant_from P s k c h is = of_bits P s (fold (form_in s k)) c h is

-- pointer types point to record types that there are
abbrev Targets : World → Type 0
Targets w = (k r : ℕ) → slice_get w.known.bases k ≡ Some (Some r) → r < length w.known.records

constant_records : (n : ℕ) (p : Source) (w : World) → WorldAmong n w → RecordsInScope (Below (length w.known.records)) w → Targets w → (x : S.Expression) → Gives (ConstantRecords (Below (length w.known.records))) (constant p w x)
constant_records n p w among scope targets x =
    let ready : Ready (Below (length w.known.records)) n w w.known = record { among = among; scope = scope; targets = targets; records = λ r h. refl; bases = λ k h. refl } in
    and_then (a_expression (Below (length w.known.records)) n p (record w { constant = true }) w.known (constant_ready (Below (length w.known.records)) n w w.known ready) x).gives (λ y h.
    at_last 35 (place p (expression_first x)) (constant_in y.shape y.what) (λ c is. constant_from (Below (length w.known.records)) y.shape y.what c h.1 is))

-- ---- scopes

pub scope_entered : (f : ℕ) (s : Making) → ScopedIn s → ScopedIn (entered f s)
scope_entered f s scope = record { names = names_more (ObjectRecords (Below (record_count s))) s.world.levels scope.names; members = scope.members; fields = scope.fields; narrowed = scope.narrowed }

pub scope_left : (s t : Making) → record_count s ≤ record_count t → ScopedIn s → ScopedIn t → ScopedIn (left s t)
scope_left s t more outer inner = record {
  names = names_fewer (ObjectRecords (Below (record_count t))) t.world.levels inner.names;
  members = λ k m at q x is. object_later (record_count s) (record_count t) more x.object (outer.members k m at q x is);
  fields = inner.fields;
  narrowed = narrowed_later (record_count s) (record_count t) more s.world.narrowed outer.narrowed;
}

module _ (p : Source) where
  pub r_each : {X : Type 0} (f : X → Part (Unit {0})) → ((x : X) (s : Making) → ScopedIn s → Gives (Leaves Any s) (f x s)) → (xs : List X) (s : Making) → ScopedIn s → Gives (Leaves Any s) (each f xs s)
  r_each f g [] s scope = r_give Any tt s scope tt
  r_each f g (x ∷ xs) s scope = r_next (g x s scope) (λ r h. r_each f g xs r.1 h.scope)

  -- ---- constants and types

  r_stand_same : (xs : List ℕ) (s : Making) → ScopedIn s → Gives (Leaves (λ (a : Unit {0}) t. t.world ≡ s.world) s) (stand p xs s)
  r_stand_same xs s scope = weaken (gives_both (r_stand p xs s scope) (stand_plain p xs s)) (λ r h. record { more = (h.0).more; scope = (h.0).scope; gives = (h.1).world })

  pub r_const : (d : S.ConstDecl) (s : Making) → WorldAmong (length (bases_of s)) s.world → Targets s.world → ScopedIn s → Gives (Leaves Any s) (const_part p d s)
  r_const d s among targets scope = r_next (r_stand_same (d.name.name ∷ []) s scope) (λ r h.
      r_next (r_look (λ c t. ConstantRecords (Below (record_count t)) c) (constant p (r.1).world d.value) r.1 h.scope
      (constant_records (length (bases_of s)) p (r.1).world (subst (WorldAmong (length (bases_of s))) (sym h.gives) among) h.scope (subst Targets (sym h.gives) targets) d.value)) (λ c k.
      r_declared p d.name (AConstant c.0) c.1 k.scope k.gives))

  r_type_decl : (d : S.TypeDecl) (s : Making) → ScopedIn s → Gives (Leaves Any s) (type_decl_part p d s)
  r_type_decl d s scope = r_next (r_stand p (d.name.name ∷ []) s scope) (λ r h. r_next (r_type p d.is r.1 h.scope) (λ a k. r_declared p d.name (AType a.0) a.1 k.scope k.gives))

  r_forward : (k : ℕ × ℕ) (s : Making) → ScopedIn s → Gives (Leaves Any s) (forward_base p k s)
  r_forward k s scope = r_next (r_pass (some 30 (place p k.1) (entry_object (last_names s.world.levels (spelled p k.1)))) s scope) (λ o h. r_next (r_pass (some 31 (place p k.1) (record_object o.0)) o.1 h.scope) (λ r j.
      r_change r.1 (with_known (λ x. record x { bases = slice_set x.bases k.0 (Some r.0) }) r.1) (omega arith) (scope_with_bases r.1 (slice_set (bases_of r.1) k.0 (Some r.0)) j.scope)))

  pub r_types : (ds : List S.TypeDecl) (s : Making) → ScopedIn s → Gives (Leaves Any s) (types_part p ds s)
  r_types ds s scope =
      let start = record s { is_type_part = true; forward = [] } in
      r_from s start (omega arith) (r_next (r_each (type_decl_part p) r_type_decl ds start (record { names = scope.names; members = scope.members; fields = scope.fields; narrowed = scope.narrowed })) (λ r h.
      let end = record r.1 { is_type_part = false } in
      r_from r.1 end (omega arith) (r_each (forward_base p) r_forward r.1.forward end (record { names = h.scope.names; members = h.scope.members; fields = h.scope.fields; narrowed = h.scope.narrowed }))))

  -- ---- variables

  r_variable : (a : Shape) (x : Identdef) (s : Making) → ScopedIn s → ObjectRecords (Below (record_count s)) (AType a) → Gives (Leaves Any s) (variable_part p a x s)
  r_variable a x s scope h =
      r_next (r_declared p x (AVariable (record { shape = a; place = place_here s.world.procedure s.world.module_number (s.values + length s.variables); home = home_here s.world.procedure; owner = s.world.module_number; procedure = s.world.procedure })) s scope h) (λ r k.
      r_change r.1 (record r.1 { variables = r.1.variables ++ a ∷ [] }) (omega arith) (record { names = k.scope.names; members = k.scope.members; fields = k.scope.fields; narrowed = k.scope.narrowed }))

  r_variables : (a : Shape) (xs : List Identdef) (s : Making) → ScopedIn s → ObjectRecords (Below (record_count s)) (AType a) → Gives (Leaves Any s) (each (variable_part p a) xs s)
  r_variables a [] s scope h = r_give Any tt s scope tt
  r_variables a (x ∷ xs) s scope h = r_next (r_variable a x s scope h) (λ r k. r_variables a xs r.1 k.scope (object_later (record_count s) (record_count r.1) k.more (AType a) h))

  pub r_var : (d : S.VarDecl) (s : Making) → ScopedIn s → Gives (Leaves Any s) (var_part p d s)
  r_var d s scope = r_next (r_stand p (symbols_of (idents_list d.names)) s scope) (λ r h. r_next (r_type p d.of r.1 h.scope) (λ a k. r_variables a.0 (idents_list d.names) a.1 k.scope k.gives))

  -- ---- procedures

  abbrev heading_entry : (f : ℕ) → Identdef → (Listed × Shape) → Bool → Entry
  heading_entry f name h is_local = record { object = AProcedure f (ProcedureOf h.0.formals h.1) is_local; exported = is_some name.star }

  offered : (b : Bool) (name : List ℕ) (e : Entry) (h : Listed × Shape) (s u : Making) → record_count s ≤ record_count u → ScopedIn u → FormalsIn h u → Leaves FormalsIn s (h, offer_if b name e u)
  offered true name e h s u more scope g = record { more = more; scope = scope; gives = g }
  offered false name e h s u more scope g = record { more = more; scope = scope; gives = g }

  pub r_heading : (f : ℕ) (name : Identdef) (x : Option S.Formals) (is_local : Bool) (s : Making) → ScopedIn s → Gives (Leaves FormalsIn s) (heading p f name x is_local s)
  r_heading f name x is_local s scope = r_next (r_formals p true x s scope) (λ h k.
      let e = heading_entry f name h.0 is_local in
      let u = with_levels (declare_outer (spelled p name.name) e) h.1 in
      keeps (Leaves FormalsIn h.1) (h.0, offer_if (not is_local) (spelled p name.name) e u)
      (offered (not is_local) (spelled p name.name) e h.0 h.1 u (omega arith) (record { names = names_outer (ObjectRecords (Below (record_count h.1))) (spelled p name.name) e h.1.world.levels k.gives k.scope.names; members = k.scope.members; fields = k.scope.fields; narrowed = k.scope.narrowed }) k.gives))

  pub r_completes : (f : ℕ) (q : OneProcedure) (h : Listed × Shape) (s : Making) → ScopedIn s → Gives (Leaves Any s) (completes p f q h s)
  r_completes f q h s scope = and_then (anything (completed p q h s)) (λ j z.
      r_change s (record s { procedures = slice_set s.procedures f j }) (omega arith) (record { names = scope.names; members = scope.members; fields = scope.fields; narrowed = scope.narrowed }))
