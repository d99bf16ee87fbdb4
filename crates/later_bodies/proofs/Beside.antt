-- Constants, parameters and headings don't read the procedures.
use Rattle.std.proofs.Common.{◌≡◌, ℕ, suc, ◌+◌, List, [], ◌∷◌, length, Bool, true, false, not, Option, Some, None, refl, sym, ap, ◌∙◌}
use Rattle.std.specs.Prelude.{is_some, is_none, nat_le, if◌then◌else◌}
use Rattle.ob_syntax.specs.Syntax as S
use Rattle.ob_syntax.specs.declared.names.Identdef.{Identdef}
use Rattle.ob_judge.specs.Judged.{Judged, Keeps, Breaks, ◌>>=◌, rule}
use Rattle.ob_judge.specs.Shapes.{Shape}
use Rattle.ob_judge.specs.Shapes.{Procedure as ProcedureOf}
use Rattle.ob_judge.specs.Image.{Procedure}
use Rattle.ob_judge.specs.Scopes.{Object, AConstant, AProcedure, Entry, Source, place, spelled}
use Rattle.ob_judge.specs.Expressions.{constant}
use Rattle.ob_judge.specs.Making.{Making, is_among, declare_last, declare_outer, with_levels, offer_if}
use Rattle.ob_judge.specs.Parameters.{Listed, listed, no_parameters, words_of, mode_of, is_value, opened, next_names, stand, declared, type_at, parameter_variable, add_parameters, section, next_sections, sections, result_shape, formal_part}
use Rattle.ob_judge.specs.Declarations.{each, const_part, heading}
use Rattle.judged_modules.proofs.steps.Laws.{then_then, then_same}
use Rattle.later_bodies.specs.Waiting.{with_procedures}

-- x is what y is, beside these procedures
pub record Beside {A : Type 0} (ys : List Procedure) (x y : Judged (A × Making)) : Type 0 where
  pub by : x ≡ (y >>= λ r. Keeps (r.0, with_procedures ys r.1))

module _ (ys : List Procedure) where
  pub b_keeps : {A : Type 0} (a : A) (s : Making) → Beside ys (Keeps (a, with_procedures ys s)) (Keeps (a, s))
  b_keeps a s = record { by = refl }

  pub b_look : {A : Type 0} (m : Judged A) (s : Making) → Beside ys (m >>= λ a. Keeps (a, with_procedures ys s)) (m >>= λ a. Keeps (a, s))
  b_look (Keeps a) s = record { by = refl }
  b_look (Breaks n at) s = record { by = refl }

  pub b_next : {A B : Type 0} {x y : Judged (A × Making)} {f : A × Making → Judged (B × Making)} → Beside ys x y → ((r : A × Making) → Beside ys (f (r.0, with_procedures ys r.1)) (f r)) → Beside ys (x >>= f) (y >>= f)
  b_next {x = x} {y = y} {f = f} g next = record {
    by = ap (λ (z : Judged _). z >>= f) g.by ∙ then_then y (λ r. Keeps (r.0, with_procedures ys r.1)) f ∙ then_same y _ _ (λ r. (next r).by) ∙ sym (then_then y f (λ r. Keeps (r.0, with_procedures ys r.1)));
  }

  offered : (b : Bool) (name : List ℕ) (e : Entry) (s : Making) → offer_if b name e (with_procedures ys s) ≡ with_procedures ys (offer_if b name e s)
  offered true name e s = refl
  offered false name e s = refl

  module _ (p : Source) where
    pub b_stand : (xs : List ℕ) (s : Making) → Beside ys (stand p xs (with_procedures ys s)) (stand p xs s)
    b_stand [] s = b_keeps tt s
    b_stand (i ∷ is) s = b_next (b_look (rule 36 (place p i) (not (is_among (spelled p i) s.standing))) s) (λ r. b_stand is (record r.1 { standing = spelled p i ∷ r.1.standing }))

    pub b_declared : (x : Identdef) (o : Object) (s : Making) → Beside ys (declared p x o (with_procedures ys s)) (declared p x o s)
    b_declared x o s =
        let e : Entry = record { object = o; exported = is_some x.star } in
        record { by = ap (λ t. Keeps (tt, t)) (offered (is_none s.world.procedure) (spelled p x.name) e (with_levels (declare_last (spelled p x.name) e) s)) }

    pub b_const : (d : S.ConstDecl) (s : Making) → Beside ys (const_part p d (with_procedures ys s)) (const_part p d s)
    b_const d s = b_next (b_stand (d.name.name ∷ []) s) (λ r. b_next (b_look (constant p r.1.world d.value) r.1) (λ c. b_declared d.name (AConstant c.0) c.1))

    pub b_consts : (ds : List S.ConstDecl) (s : Making) → Beside ys (each (const_part p) ds (with_procedures ys s)) (each (const_part p) ds s)
    b_consts [] s = b_keeps tt s
    b_consts (d ∷ ds) s = b_next (b_const d s) (λ r. b_consts ds r.1)

    -- ---- parameters

    abbrev known_from : ℕ → Bool → Shape → Listed → Making → Making
    known_from i v a l s = record (with_levels (declare_last (spelled p i) (record { object = parameter_variable v a s.values (length l.parameters) s.world; exported = false })) s) { values = if is_value (mode_of v a) then suc s.values else s.values }

    b_add : (b v : Bool) (a : Shape) (is : List ℕ) (l : Listed) (s : Making) → Beside ys (add_parameters p b v a is l (with_procedures ys s)) (add_parameters p b v a is l s)
    b_add b v a [] l s = b_keeps l s
    b_add false v a (i ∷ is) l s = b_next (b_look (rule 40 (place p i) (nat_le (l.words + words_of v a) 24)) s) (λ r. b_add false v a is (listed v a l) r.1)
    b_add true v a (i ∷ is) l s = b_next (b_look (rule 40 (place p i) (nat_le (l.words + words_of v a) 24)) s) (λ r. b_add true v a is (listed v a l) (known_from i v a l r.1))

    b_section : (b : Bool) (x : S.Section) (l : Listed) (s : Making) → Beside ys (section p b x l (with_procedures ys s)) (section p b x l s)
    b_section b x l s = b_next (b_stand (x.first ∷ next_names x.more) s) (λ r. b_next (b_look (type_at p 31 x.of r.1.world) r.1) (λ a.
        b_add b (is_some x.var_word) (opened (is_some x.open_array) a.0) (x.first ∷ next_names x.more) l a.1))

    b_next_sections : (b : Bool) (xs : List S.NextSection) (l : Listed) (s : Making) → Beside ys (next_sections p b xs l (with_procedures ys s)) (next_sections p b xs l s)
    b_next_sections b [] l s = b_keeps l s
    b_next_sections b (x ∷ xs) l s = b_next (b_section b x.section l s) (λ r. b_next_sections b xs r.0 r.1)

    b_sections : (b : Bool) (x : Option S.Sections) (s : Making) → Beside ys (sections p b x (with_procedures ys s)) (sections p b x s)
    b_sections b None s = b_keeps no_parameters s
    b_sections b (Some x) s = b_next (b_section b x.first no_parameters s) (λ r. b_next_sections b x.more r.0 r.1)

    pub b_formals : (b : Bool) (x : Option S.Formals) (s : Making) → Beside ys (formal_part p b x (with_procedures ys s)) (formal_part p b x s)
    b_formals b None s = b_keeps (no_parameters, _) s
    b_formals b (Some f) s = b_next (b_sections b f.sections s) (λ l. b_next (b_look (result_shape p f.result l.1.world) l.1) (λ r. b_keeps (l.0, r.0) r.1))

    abbrev heading_entry : (f : ℕ) → Identdef → (Listed × Shape) → Bool → Entry
    heading_entry f name h is_local = record { object = AProcedure f (ProcedureOf h.0.formals h.1) is_local; exported = is_some name.star }

    pub b_heading : (f : ℕ) (name : Identdef) (x : Option S.Formals) (is_local : Bool) (s : Making) → Beside ys (heading p f name x is_local (with_procedures ys s)) (heading p f name x is_local s)
    b_heading f name x is_local s = b_next (b_formals true x s) (λ h. record {
      by = ap (λ t. Keeps (h.0, t)) (offered (not is_local) (spelled p name.name) (heading_entry f name h.0 is_local) (with_levels (declare_outer (spelled p name.name) (heading_entry f name h.0 is_local)) h.1));
    })
