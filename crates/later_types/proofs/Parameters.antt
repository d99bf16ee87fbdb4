-- Parameters and results judged are of types that name record types that there are.
use Rattle.std.proofs.Common.{ℕ, suc, ◌+◌, ◌≤◌, List, [], ◌∷◌, length, Bool, true, false, Option, Some, None, ap, arith}
use Rattle.std.specs.Prelude.{nat_le, is_some, if◌then◌else◌}
use Rattle.ob_syntax.specs.Syntax as S
use Rattle.ob_syntax.specs.declared.types.ResultType.{ResultType}
use Rattle.ob_judge.specs.Judged.{rule}
use Rattle.ob_judge.specs.Shapes.{Shape, Nothing, Formals, none, one, is_scalar}
use Rattle.ob_judge.specs.Scopes.{Source, place, spelled}
use Rattle.ob_judge.specs.Names.{member_symbol}
use Rattle.ob_judge.specs.Making.{Making, with_levels, declare_last}
use Rattle.ob_judge.specs.Parameters.{Listed, no_parameters, append, opened, mode_of, is_value, listed, type_at, parameter_variable, add_parameters, next_names, section, next_sections, sections, result_shape, formal_part, words_of}
use Rattle.judged_well.specs.Gives.{Gives}
use Rattle.judged_well.proofs.Judging.{keeps, weaken, and_then, by_rule, gives_both}
use Rattle.judged_programs.proofs.HeadingsTidy.{h_formals}
use Rattle.later_types.specs.Records.{RecordsAmong, AllRecordsAmong}
use Rattle.later_types.specs.Later.{Below}
use Rattle.later_types.proofs.Scoped.{records_type}
use Rattle.later_types.proofs.Reach.{shape_later, formals_later}
use Rattle.later_types.proofs.Parts.{record_count, ScopedIn, Leaves, r_next, r_look, r_pass, r_give, r_from, r_stand, scope_declared}

appended : (n : ℕ) (ps : Formals) (v : Bool) (a : Shape) → AllRecordsAmong (Below n) ps → RecordsAmong (Below n) a → AllRecordsAmong (Below n) (append ps v a)
appended n none v a h k = (k, tt)
appended n (one u b more) v a h k = (h.0, appended n more v a h.1 k)

opened_scope : (n : ℕ) (b : Bool) (a : Shape) → RecordsAmong (Below n) a → RecordsAmong (Below n) (opened b a)
opened_scope n true a h = h
opened_scope n false a h = h

-- parameters so far
abbrev pub ListedIn : Listed → Making → Type 0
ListedIn l t = AllRecordsAmong (Below (record_count t)) l.formals

-- what formal parts give
abbrev pub FormalsIn : Listed × Shape → Making → Type 0
FormalsIn r t = ListedIn r.0 t × RecordsAmong (Below (record_count t)) r.1

module _ (p : Source) where
  -- the parameter's name is known
  abbrev known_from : ℕ → Bool → Shape → Listed → Making → Making
  known_from i v a l s = record (with_levels (declare_last (spelled p i) (record { object = parameter_variable v a s.values (length l.parameters) s.world; exported = false })) s) { values = if is_value (mode_of v a) then suc s.values else s.values }

  known_scope : (i : ℕ) (v : Bool) (a : Shape) (l : Listed) (s : Making) → RecordsAmong (Below (record_count s)) a → ScopedIn s → ScopedIn (known_from i v a l s)
  known_scope i v a l s h scope =
      let u = scope_declared s (spelled p i) (record { object = parameter_variable v a s.values (length l.parameters) s.world; exported = false }) h scope in
      record { names = u.names; members = u.members; fields = u.fields; narrowed = u.narrowed }

  r_add : (b v : Bool) (a : Shape) (is : List ℕ) (l : Listed) (s : Making) → ScopedIn s → RecordsAmong (Below (record_count s)) a → ListedIn l s → Gives (Leaves ListedIn s) (add_parameters p b v a is l s)
  r_add b v a [] l s scope h k = r_give ListedIn l s scope k
  r_add false v a (i ∷ is) l s scope h k = r_next (r_pass (rule 40 (place p i) (nat_le (l.words + words_of v a) 24)) s scope) (λ r g.
      let h2 = shape_later (record_count s) (record_count r.1) g.more a h in
      r_add false v a is (listed v a l) r.1 g.scope h2 (appended (record_count r.1) l.formals v a (formals_later (record_count s) (record_count r.1) g.more l.formals k) h2))
  r_add true v a (i ∷ is) l s scope h k = r_next (r_pass (rule 40 (place p i) (nat_le (l.words + words_of v a) 24)) s scope) (λ r g.
      let h2 = shape_later (record_count s) (record_count r.1) g.more a h in
      r_from r.1 (known_from i v a l r.1) (omega arith) (r_add true v a is (listed v a l) (known_from i v a l r.1) (known_scope i v a l r.1 h2 g.scope) h2 (appended (record_count r.1) l.formals v a (formals_later (record_count s) (record_count r.1) g.more l.formals k) h2)))

  r_section : (b : Bool) (x : S.Section) (l : Listed) (s : Making) → ScopedIn s → ListedIn l s → Gives (Leaves ListedIn s) (section p b x l s)
  r_section b x l s scope k = r_next (r_stand p (x.first ∷ next_names x.more) s scope) (λ r g.
      r_next (r_look (λ a t. RecordsAmong (Below (record_count t)) a) (type_at p 31 x.of (r.1).world) r.1 g.scope (records_type (Below (record_count r.1)) p (r.1).world g.scope 31 (x.of).name (member_symbol (x.of).member))) (λ a j.
      r_add b (is_some x.var_word) (opened (is_some x.open_array) a.0) (x.first ∷ next_names x.more) l a.1 j.scope (opened_scope (record_count a.1) (is_some x.open_array) a.0 j.gives)
      (formals_later (record_count r.1) (record_count a.1) j.more l.formals (formals_later (record_count s) (record_count r.1) g.more l.formals k))))

  r_next_sections : (b : Bool) (xs : List S.NextSection) (l : Listed) (s : Making) → ScopedIn s → ListedIn l s → Gives (Leaves ListedIn s) (next_sections p b xs l s)
  r_next_sections b [] l s scope k = r_give ListedIn l s scope k
  r_next_sections b (x ∷ xs) l s scope k = r_next (r_section b x.section l s scope k) (λ r g. r_next_sections b xs r.0 r.1 g.scope g.gives)

  r_sections : (b : Bool) (x : Option S.Sections) (s : Making) → ScopedIn s → Gives (Leaves ListedIn s) (sections p b x s)
  r_sections b None s scope = r_give ListedIn no_parameters s scope tt
  r_sections b (Some x) s scope = r_next (r_section b x.first no_parameters s scope tt) (λ r g. r_next_sections b x.more r.0 r.1 g.scope g.gives)

  result_scope : (r : Option ResultType) (s : Making) → ScopedIn s → Gives (λ a. RecordsAmong (Below (record_count s)) a) (result_shape p r s.world)
  result_scope None s scope = keeps (λ a. RecordsAmong (Below (record_count s)) a) Nothing tt
  result_scope (Some r) s scope = and_then (records_type (Below (record_count s)) p s.world scope 31 (r.name).name (member_symbol (r.name).member)) (λ a h.
      by_rule 31 (place p (r.name).name) (is_scalar a) (λ it. keeps (λ b. RecordsAmong (Below (record_count s)) b) a h))

  pub r_formals : (b : Bool) (x : Option S.Formals) (s : Making) → ScopedIn s → Gives (Leaves FormalsIn s) (formal_part p b x s)
  r_formals b None s scope = r_give FormalsIn (no_parameters, Nothing) s scope (tt, tt)
  r_formals b (Some x) s scope = r_next (r_sections b x.sections s scope) (λ l g.
      r_next (r_look (λ a t. RecordsAmong (Below (record_count t)) a) (result_shape p x.result (l.1).world) l.1 g.scope (result_scope x.result l.1 g.scope)) (λ r j.
      r_give FormalsIn (l.0, r.0) r.1 j.scope (formals_later (record_count l.1) (record_count r.1) j.more (l.0).formals g.gives, j.gives)))

  -- where names aren't made known
  pub formals_aside : (x : Option S.Formals) (s : Making) → ScopedIn s → Gives (λ (r : (Listed × Shape) × Making). FormalsIn r.0 s) (formal_part p false x (record s { standing = [] }))
  formals_aside x s scope = weaken (gives_both (r_formals false x (record s { standing = [] }) (record { names = scope.names; members = scope.members; fields = scope.fields; narrowed = scope.narrowed })) (h_formals 0 p false x (record s { standing = [] }))) (λ r h.
      let e : record_count r.1 ≤ record_count s = (let b = ap length (h.1).lists.heads.records in omega (arith, b)) in
      (formals_later (record_count r.1) (record_count s) e ((r.0).0).formals ((h.0).gives).0, shape_later (record_count r.1) (record_count s) e (r.0).1 ((h.0).gives).1))
