-- Names that stand, constants and parameters, and names of procedures: pointer types are left as they were, and constants are
-- in range.
use Rattle.std.proofs.Common.{◌≡◌, ℕ, suc, ◌+◌, List, [], ◌∷◌, length, Bool, true, false, not, Option, Some, None, refl, sym, subst}
use Rattle.std.specs.Prelude.{is_some, is_none, nat_le, if◌then◌else◌}
use Rattle.ob_syntax.specs.Syntax as S
use Rattle.ob_syntax.specs.declared.names.Identdef.{Identdef}
use Rattle.ob_judge.specs.Judged.{Judged, Keeps, Breaks, ◌>>=◌, rule}
use Rattle.ob_judge.specs.Shapes.{Shape}
use Rattle.ob_judge.specs.Shapes.{Procedure as ProcedureOf}
use Rattle.ob_judge.specs.Scopes.{Object, AConstant, AProcedure, Entry, Source, place, spelled}
use Rattle.ob_judge.specs.Expressions.{constant}
use Rattle.ob_judge.specs.Making.{Making, is_among, declare_last, declare_outer, with_levels, offer_if}
use Rattle.ob_judge.specs.Parameters.{Listed, listed, no_parameters, words_of, mode_of, is_value, opened, next_names, stand, declared, type_at, parameter_variable, add_parameters, section, next_sections, sections, result_shape, formal_part}
use Rattle.ob_judge.specs.Declarations.{each, const_part, heading}
use Rattle.judged_well.specs.Gives.{Gives}
use Rattle.judged_well.specs.Standing.{IsRead}
use Rattle.judged_well.proofs.Judging.{keeps, breaks, and_then}
use Rattle.judged_outlines.specs.ends.Ends.{IsInRange, ObjectInRange}
use Rattle.judged_outlines.proofs.ends.Constants.{constants_in_range}
use Rattle.judged_outlines.proofs.ends.Onward.{HasRanges, Onward, OnwardTo, calm, quiet, onward, o_next, o_look, o_from, names_last, names_outer, offered, supposing}
use Rattle.judged_outlines.proofs.ends.Standard.{right_here}

-- what is judged in the scope as it is, with what holds of it
look_with : {A : Type 0} {P : A → Type 0} (m : Judged A) (s : Making) → Gives P m → Gives (λ (r : A × Making). (r.1 ≡ s) × P r.0) (m >>= λ a. Keeps (a, s))
look_with {A = A} {P = P} (Keeps a) s g = keeps (λ (r : A × Making). (r.1 ≡ s) × P r.0) (a, s) (refl, g.holds)
look_with {A = A} {P = P} (Breaks n at) s g = breaks (λ (r : A × Making). (r.1 ≡ s) × P r.0) n at

module _ (p : Source) (read : IsRead p) where
  pub h_stand : (xs : List ℕ) (s : Making) → Gives (OnwardTo s) (stand p xs s)
  h_stand [] s = keeps (OnwardTo s) (tt, s) (onward s)
  h_stand (i ∷ is) s = o_next (o_look (rule 36 (place p i) (not (is_among (spelled p i) s.standing))) s) (λ r.
      o_from r.1 (record r.1 { standing = spelled p i ∷ r.1.standing }) (quiet r.1 (record r.1 { standing = spelled p i ∷ r.1.standing }) refl refl refl refl refl refl) (h_stand is (record r.1 { standing = spelled p i ∷ r.1.standing })))

  with_offer : (b : Bool) (name : List ℕ) (e : Entry) (s u : Making) → Onward s u → (HasRanges s.world → ObjectInRange e.object) → Onward s (offer_if b name e u)
  with_offer true name e s u h k = record {
    modules = h.modules;
    part = h.part;
    waiting = h.waiting;
    unset = h.unset;
    names = h.names;
    objects = λ r os. offered true name e u (k r) (h.objects r os);
  }
  with_offer false name e s u h k = h

  pub h_declared : (x : Identdef) (o : Object) (s : Making) → (HasRanges s.world → ObjectInRange o) → Gives (OnwardTo s) (declared p x o s)
  h_declared x o s h =
      let e : Entry = record { object = o; exported = is_some x.star } in
      let u = with_levels (declare_last (spelled p x.name) e) s in
      keeps (OnwardTo s) (tt, offer_if (is_none s.world.procedure) (spelled p x.name) e u) (with_offer (is_none s.world.procedure) (spelled p x.name) e s u
      (calm s u refl refl refl refl (λ r. names_last ObjectInRange (spelled p x.name) e s.world.levels (h r) r.names) (λ r os. os)) h)

  pub h_const : (d : S.ConstDecl) (s : Making) → Gives (OnwardTo s) (const_part p d s)
  h_const d s = o_next (h_stand (d.name.name ∷ []) s) (λ r.
      and_then (look_with (constant p r.1.world d.value) r.1 (supposing (HasRanges r.1.world) IsInRange (constant p r.1.world d.value) (λ h. constants_in_range p r.1.world read (right_here p r.1.world h) d.value))) (λ c k.
      subst (λ u. Gives (OnwardTo u) (declared p d.name (AConstant c.0) c.1)) k.0 (h_declared d.name (AConstant c.0) c.1 (subst (λ u. HasRanges u.world → IsInRange c.0) (sym k.0) k.1))))

  pub h_consts : (ds : List S.ConstDecl) (s : Making) → Gives (OnwardTo s) (each (const_part p) ds s)
  h_consts [] s = keeps (OnwardTo s) (tt, s) (onward s)
  h_consts (d ∷ ds) s = o_next (h_const d s) (λ r. h_consts ds r.1)

  -- ---- parameters

  abbrev parameter_entry : Bool → Shape → Listed → Making → Entry
  parameter_entry v a l s = record { object = parameter_variable v a s.values (length l.parameters) s.world; exported = false }

  abbrev known_from : ℕ → Bool → Shape → Listed → Making → Making
  known_from i v a l s = record (with_levels (declare_last (spelled p i) (record { object = parameter_variable v a s.values (length l.parameters) s.world; exported = false })) s) { values = if is_value (mode_of v a) then suc s.values else s.values }

  h_add : (b v : Bool) (a : Shape) (is : List ℕ) (l : Listed) (s : Making) → Gives (OnwardTo s) (add_parameters p b v a is l s)
  h_add b v a [] l s = keeps (OnwardTo s) (l, s) (onward s)
  h_add false v a (i ∷ is) l s = o_next (o_look (rule 40 (place p i) (nat_le (l.words + words_of v a) 24)) s) (λ r. h_add false v a is (listed v a l) r.1)
  h_add true v a (i ∷ is) l s = o_next (o_look (rule 40 (place p i) (nat_le (l.words + words_of v a) 24)) s) (λ r.
      o_from r.1 (known_from i v a l r.1) (calm r.1 (known_from i v a l r.1) refl refl refl refl (λ h. names_last ObjectInRange (spelled p i) (parameter_entry v a l r.1) r.1.world.levels tt h.names) (λ h os. os)) (h_add true v a is (listed v a l) (known_from i v a l r.1)))

  h_section : (b : Bool) (x : S.Section) (l : Listed) (s : Making) → Gives (OnwardTo s) (section p b x l s)
  h_section b x l s = o_next (h_stand (x.first ∷ next_names x.more) s) (λ r. o_next (o_look (type_at p 31 x.of r.1.world) r.1) (λ a.
      h_add b (is_some x.var_word) (opened (is_some x.open_array) a.0) (x.first ∷ next_names x.more) l a.1))

  h_next_sections : (b : Bool) (xs : List S.NextSection) (l : Listed) (s : Making) → Gives (OnwardTo s) (next_sections p b xs l s)
  h_next_sections b [] l s = keeps (OnwardTo s) (l, s) (onward s)
  h_next_sections b (x ∷ xs) l s = o_next (h_section b x.section l s) (λ r. h_next_sections b xs r.0 r.1)

  h_sections : (b : Bool) (x : Option S.Sections) (s : Making) → Gives (OnwardTo s) (sections p b x s)
  h_sections b None s = keeps (OnwardTo s) (no_parameters, s) (onward s)
  h_sections b (Some x) s = o_next (h_section b x.first no_parameters s) (λ r. h_next_sections b x.more r.0 r.1)

  pub h_formals : (b : Bool) (x : Option S.Formals) (s : Making) → Gives (OnwardTo s) (formal_part p b x s)
  h_formals b None s = keeps (OnwardTo s) ((no_parameters, _), s) (onward s)
  h_formals b (Some f) s = o_next (h_sections b f.sections s) (λ l. o_next (o_look (result_shape p f.result l.1.world) l.1) (λ r. keeps (OnwardTo r.1) ((l.0, r.0), r.1) (onward r.1)))

  abbrev heading_entry : (f : ℕ) → Identdef → (Listed × Shape) → Bool → Entry
  heading_entry f name h is_local = record { object = AProcedure f (ProcedureOf h.0.formals h.1) is_local; exported = is_some name.star }

  pub h_heading : (f : ℕ) (name : Identdef) (x : Option S.Formals) (is_local : Bool) (s : Making) → Gives (OnwardTo s) (heading p f name x is_local s)
  h_heading f name x is_local s = o_next (h_formals true x s) (λ h.
      keeps (OnwardTo h.1) (h.0, offer_if (not is_local) (spelled p name.name) (heading_entry f name h.0 is_local) (with_levels (declare_outer (spelled p name.name) (heading_entry f name h.0 is_local)) h.1))
      (with_offer (not is_local) (spelled p name.name) (heading_entry f name h.0 is_local) h.1 (with_levels (declare_outer (spelled p name.name) (heading_entry f name h.0 is_local)) h.1)
      (calm h.1 (with_levels (declare_outer (spelled p name.name) (heading_entry f name h.0 is_local)) h.1) refl refl refl refl
      (λ r. names_outer ObjectInRange (spelled p name.name) (heading_entry f name h.0 is_local) h.1.world.levels tt r.names) (λ r os. os)) (λ r. tt)))
