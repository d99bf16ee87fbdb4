-- What constants, parameters and names leave as it was: earlier modules, procedures, what pointer types point to, and those
-- whose base comes later.
use Rattle.std.proofs.Common.{ℕ, suc, ◌+◌, List, [], ◌∷◌, length, Bool, true, false, not, Option, Some, None, refl, ◌∙◌}
use Rattle.std.specs.Prelude.{is_some, is_none, nat_le, if◌then◌else◌}
use Rattle.ob_syntax.specs.Syntax as S
use Rattle.ob_syntax.specs.declared.names.Identdef.{Identdef}
use Rattle.ob_judge.specs.Judged.{Judged, Keeps, Breaks, ◌>>=◌, rule}
use Rattle.ob_judge.specs.Shapes.{Shape}
use Rattle.ob_judge.specs.Shapes.{Procedure as ProcedureOf}
use Rattle.ob_judge.specs.Scopes.{Object, AConstant, AProcedure, Entry, Source, place, spelled}
use Rattle.ob_judge.specs.Expressions.{constant}
use Rattle.ob_judge.specs.Making.{Making, is_among, declare_last, declare_outer, with_levels, offer_if}
use Rattle.ob_judge.specs.Parameters.{Listed, listed, no_parameters, words_of, mode_of, is_value, opened, next_names, stand, declared, type_at, parameter_variable, add_parameters, section, next_sections, sections, result_shape, formal_part}
use Rattle.ob_judge.specs.Declarations.{each, const_part, heading}
use Rattle.judged_well.specs.Gives.{Gives}
use Rattle.judged_modules.specs.steps.Frames.{Held}
use Rattle.judged_well.proofs.Judging.{keeps, breaks, weaken, and_then}

pub held : (s : Making) → Held s s
held s = record { modules = refl; procedures = refl; bases = refl; forward = refl }

held_on : (s t u : Making) → Held s t → Held t u → Held s u
held_on s t u g h = record { modules = h.modules ∙ g.modules; procedures = h.procedures ∙ g.procedures; bases = h.bases ∙ g.bases; forward = h.forward ∙ g.forward }

abbrev pub HeldTo : {A : Type 0} → Making → A × Making → Type 0
HeldTo s r = Held s r.1

pub h_next : {A B : Type 0} {s : Making} {m : Judged (A × Making)} {f : A × Making → Judged (B × Making)} → Gives (HeldTo s) m → ((r : A × Making) → Gives (HeldTo r.1) (f r)) → Gives (HeldTo s) (m >>= f)
h_next {s = s} g next = and_then g (λ r h. weaken (next r) (λ q k. held_on s r.1 q.1 h k))

pub h_look : {A : Type 0} (m : Judged A) (s : Making) → Gives (HeldTo s) (m >>= λ a. Keeps (a, s))
h_look (Keeps a) s = keeps (HeldTo s) (a, s) (held s)
h_look (Breaks n at) s = breaks (HeldTo s) n at

h_from : {A : Type 0} {m : Judged (A × Making)} (s u : Making) → Held s u → Gives (HeldTo u) m → Gives (HeldTo s) m
h_from s u h g = weaken g (λ q k. held_on s u q.1 h k)

pub held_offered : (b : Bool) (name : List ℕ) (e : Entry) (s u : Making) → Held s u → Held s (offer_if b name e u)
held_offered true name e s u h = record { modules = h.modules; procedures = h.procedures; bases = h.bases; forward = h.forward }
held_offered false name e s u h = h

module _ (p : Source) where
  pub h_stand : (xs : List ℕ) (s : Making) → Gives (HeldTo s) (stand p xs s)
  h_stand [] s = keeps (HeldTo s) (tt, s) (held s)
  h_stand (i ∷ is) s = h_next (h_look (rule 36 (place p i) (not (is_among (spelled p i) s.standing))) s) (λ r.
      h_from r.1 (record r.1 { standing = spelled p i ∷ r.1.standing }) (record { modules = refl; procedures = refl; bases = refl; forward = refl }) (h_stand is (record r.1 { standing = spelled p i ∷ r.1.standing })))

  pub h_declared : (x : Identdef) (o : Object) (s : Making) → Gives (HeldTo s) (declared p x o s)
  h_declared x o s =
      let e : Entry = record { object = o; exported = is_some x.star } in
      let u = with_levels (declare_last (spelled p x.name) e) s in
      keeps (HeldTo s) (tt, offer_if (is_none s.world.procedure) (spelled p x.name) e u) (held_offered (is_none s.world.procedure) (spelled p x.name) e s u (record { modules = refl; procedures = refl; bases = refl; forward = refl }))

  pub h_const : (d : S.ConstDecl) (s : Making) → Gives (HeldTo s) (const_part p d s)
  h_const d s = h_next (h_stand (d.name.name ∷ []) s) (λ r. h_next (h_look (constant p r.1.world d.value) r.1) (λ c. h_declared d.name (AConstant c.0) c.1))

  pub h_consts : (ds : List S.ConstDecl) (s : Making) → Gives (HeldTo s) (each (const_part p) ds s)
  h_consts [] s = keeps (HeldTo s) (tt, s) (held s)
  h_consts (d ∷ ds) s = h_next (h_const d s) (λ r. h_consts ds r.1)

  -- ---- parameters

  abbrev known_from : ℕ → Bool → Shape → Listed → Making → Making
  known_from i v a l s = record (with_levels (declare_last (spelled p i) (record { object = parameter_variable v a s.values (length l.parameters) s.world; exported = false })) s) { values = if is_value (mode_of v a) then suc s.values else s.values }

  h_add : (b v : Bool) (a : Shape) (is : List ℕ) (l : Listed) (s : Making) → Gives (HeldTo s) (add_parameters p b v a is l s)
  h_add b v a [] l s = keeps (HeldTo s) (l, s) (held s)
  h_add false v a (i ∷ is) l s = h_next (h_look (rule 40 (place p i) (nat_le (l.words + words_of v a) 24)) s) (λ r. h_add false v a is (listed v a l) r.1)
  h_add true v a (i ∷ is) l s = h_next (h_look (rule 40 (place p i) (nat_le (l.words + words_of v a) 24)) s) (λ r.
      h_from r.1 (known_from i v a l r.1) (record { modules = refl; procedures = refl; bases = refl; forward = refl }) (h_add true v a is (listed v a l) (known_from i v a l r.1)))

  h_section : (b : Bool) (x : S.Section) (l : Listed) (s : Making) → Gives (HeldTo s) (section p b x l s)
  h_section b x l s = h_next (h_stand (x.first ∷ next_names x.more) s) (λ r. h_next (h_look (type_at p 31 x.of r.1.world) r.1) (λ a.
      h_add b (is_some x.var_word) (opened (is_some x.open_array) a.0) (x.first ∷ next_names x.more) l a.1))

  h_next_sections : (b : Bool) (xs : List S.NextSection) (l : Listed) (s : Making) → Gives (HeldTo s) (next_sections p b xs l s)
  h_next_sections b [] l s = keeps (HeldTo s) (l, s) (held s)
  h_next_sections b (x ∷ xs) l s = h_next (h_section b x.section l s) (λ r. h_next_sections b xs r.0 r.1)

  h_sections : (b : Bool) (x : Option S.Sections) (s : Making) → Gives (HeldTo s) (sections p b x s)
  h_sections b None s = keeps (HeldTo s) (no_parameters, s) (held s)
  h_sections b (Some x) s = h_next (h_section b x.first no_parameters s) (λ r. h_next_sections b x.more r.0 r.1)

  pub h_formals : (b : Bool) (x : Option S.Formals) (s : Making) → Gives (HeldTo s) (formal_part p b x s)
  h_formals b None s = keeps (HeldTo s) ((no_parameters, _), s) (held s)
  h_formals b (Some f) s = h_next (h_sections b f.sections s) (λ l. h_next (h_look (result_shape p f.result l.1.world) l.1) (λ r. keeps (HeldTo r.1) ((l.0, r.0), r.1) (held r.1)))

  abbrev heading_entry : (f : ℕ) → Identdef → (Listed × Shape) → Bool → Entry
  heading_entry f name h is_local = record { object = AProcedure f (ProcedureOf h.0.formals h.1) is_local; exported = is_some name.star }

  pub h_heading : (f : ℕ) (name : Identdef) (x : Option S.Formals) (is_local : Bool) (s : Making) → Gives (HeldTo s) (heading p f name x is_local s)
  h_heading f name x is_local s = h_next (h_formals true x s) (λ h.
      keeps (HeldTo h.1) (h.0, offer_if (not is_local) (spelled p name.name) (heading_entry f name h.0 is_local) (with_levels (declare_outer (spelled p name.name) (heading_entry f name h.0 is_local)) h.1))
      (held_offered (not is_local) (spelled p name.name) (heading_entry f name h.0 is_local) h.1 (with_levels (declare_outer (spelled p name.name) (heading_entry f name h.0 is_local)) h.1) (record { modules = refl; procedures = refl; bases = refl; forward = refl })))
