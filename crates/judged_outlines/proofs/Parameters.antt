-- Parameters and results judged are of types that name pointer types that there are.
use Rattle.std.proofs.Common.{ℕ, suc, ◌+◌, ◌≤◌, List, [], ◌∷◌, length, Bool, true, false, Option, Some, None, ap, arith}
use Rattle.std.specs.Prelude.{nat_le, is_some, if◌then◌else◌}
use Rattle.ob_syntax.specs.Syntax as S
use Rattle.ob_syntax.specs.declared.types.ResultType.{ResultType}
use Rattle.ob_judge.specs.Judged.{rule}
use Rattle.ob_judge.specs.Shapes.{Shape, Nothing, Formals, none, one, is_scalar}
use Rattle.ob_judge.specs.Scopes.{Source, place, spelled}
use Rattle.ob_judge.specs.Names.{member_symbol}
use Rattle.ob_judge.specs.Making.{Making, with_levels, declare_last}
use Rattle.ob_judge.specs.Image.{Local, Parameter}
use Rattle.ob_judge.specs.Parameters.{Listed, no_parameters, append, opened, mode_of, is_value, listed, type_at, parameter_variable, add_parameters, next_names, section, next_sections, sections, result_shape, formal_part, words_of}
use Rattle.judged_well.specs.Gives.{Gives}
use Rattle.judged_well.proofs.Judging.{keeps, weaken, and_then, by_rule, gives_both}
use Rattle.judged_modules.proofs.steps.Frame.{h_formals}
use Rattle.judged_outlines.specs.Among.{PointsAmong, AllPointAmong, IsDeclaredPlace}
use Rattle.judged_outlines.proofs.Reach.{shape_later, formals_later}
use Rattle.judged_outlines.proofs.Named.{a_type_named}
use Rattle.judged_outlines.proofs.Parts.{pointer_count, AmongIn, LeavesAmong, d_next, d_look, d_pass, d_give, d_from, d_stand, among_declared}

appended : (n : ℕ) (ps : Formals) (v : Bool) (a : Shape) → AllPointAmong n ps → PointsAmong n a → AllPointAmong n (append ps v a)
appended n none v a h k = (k, tt)
appended n (one u b more) v a h k = (h.0, appended n more v a h.1 k)

opened_among : (n : ℕ) (b : Bool) (a : Shape) → PointsAmong n a → PointsAmong n (opened b a)
opened_among n true a h = h
opened_among n false a h = h

-- parameters so far
abbrev pub ListedAmong : Listed → Making → Type 0
ListedAmong l t = AllPointAmong (pointer_count t) l.formals

-- what formal parts give
abbrev pub FormalsAmong : Listed × Shape → Making → Type 0
FormalsAmong r t = ListedAmong r.0 t × PointsAmong (pointer_count t) r.1

module _ (p : Source) where
  -- the parameter's name is known
  abbrev known_from : ℕ → Bool → Shape → Listed → Making → Making
  known_from i v a l s = record (with_levels (declare_last (spelled p i) (record { object = parameter_variable v a s.values (length l.parameters) s.world; exported = false })) s) { values = if is_value (mode_of v a) then suc s.values else s.values }

  parameter_place : (b : Bool) (values k : ℕ) → IsDeclaredPlace (if b then Local values else Parameter k)
  parameter_place true values k = tt
  parameter_place false values k = tt

  known_among : (i : ℕ) (v : Bool) (a : Shape) (l : Listed) (s : Making) → PointsAmong (pointer_count s) a → AmongIn s → AmongIn (known_from i v a l s)
  known_among i v a l s h among =
      let u = among_declared s (spelled p i) (record { object = parameter_variable v a s.values (length l.parameters) s.world; exported = false }) (h, parameter_place (is_value (mode_of v a)) s.values (length l.parameters)) among in
      record { names = u.names; members = u.members; fields = u.fields; narrowed = u.narrowed }

  d_add : (b v : Bool) (a : Shape) (is : List ℕ) (l : Listed) (s : Making) → AmongIn s → PointsAmong (pointer_count s) a → ListedAmong l s → Gives (LeavesAmong ListedAmong s) (add_parameters p b v a is l s)
  d_add b v a [] l s among h k = d_give ListedAmong l s among k
  d_add false v a (i ∷ is) l s among h k = d_next (d_pass (rule 40 (place p i) (nat_le (l.words + words_of v a) 24)) s among) (λ r g.
      let h2 = shape_later (pointer_count s) (pointer_count r.1) g.more a h in
      d_add false v a is (listed v a l) r.1 g.among h2 (appended (pointer_count r.1) l.formals v a (formals_later (pointer_count s) (pointer_count r.1) g.more l.formals k) h2))
  d_add true v a (i ∷ is) l s among h k = d_next (d_pass (rule 40 (place p i) (nat_le (l.words + words_of v a) 24)) s among) (λ r g.
      let h2 = shape_later (pointer_count s) (pointer_count r.1) g.more a h in
      d_from r.1 (known_from i v a l r.1) (omega arith) (d_add true v a is (listed v a l) (known_from i v a l r.1) (known_among i v a l r.1 h2 g.among) h2 (appended (pointer_count r.1) l.formals v a (formals_later (pointer_count s) (pointer_count r.1) g.more l.formals k) h2)))

  d_section : (b : Bool) (x : S.Section) (l : Listed) (s : Making) → AmongIn s → ListedAmong l s → Gives (LeavesAmong ListedAmong s) (section p b x l s)
  d_section b x l s among k = d_next (d_stand p (x.first ∷ next_names x.more) s among) (λ r g.
      d_next (d_look (λ a t. PointsAmong (pointer_count t) a) (type_at p 31 x.of (r.1).world) r.1 g.among (a_type_named (pointer_count r.1) p (r.1).world g.among 31 (x.of).name (member_symbol (x.of).member))) (λ a j.
      d_add b (is_some x.var_word) (opened (is_some x.open_array) a.0) (x.first ∷ next_names x.more) l a.1 j.among (opened_among (pointer_count a.1) (is_some x.open_array) a.0 j.gives)
      (formals_later (pointer_count r.1) (pointer_count a.1) j.more l.formals (formals_later (pointer_count s) (pointer_count r.1) g.more l.formals k))))

  d_next_sections : (b : Bool) (xs : List S.NextSection) (l : Listed) (s : Making) → AmongIn s → ListedAmong l s → Gives (LeavesAmong ListedAmong s) (next_sections p b xs l s)
  d_next_sections b [] l s among k = d_give ListedAmong l s among k
  d_next_sections b (x ∷ xs) l s among k = d_next (d_section b x.section l s among k) (λ r g. d_next_sections b xs r.0 r.1 g.among g.gives)

  d_sections : (b : Bool) (x : Option S.Sections) (s : Making) → AmongIn s → Gives (LeavesAmong ListedAmong s) (sections p b x s)
  d_sections b None s among = d_give ListedAmong no_parameters s among tt
  d_sections b (Some x) s among = d_next (d_section b x.first no_parameters s among tt) (λ r g. d_next_sections b x.more r.0 r.1 g.among g.gives)

  result_among : (r : Option ResultType) (s : Making) → AmongIn s → Gives (λ a. PointsAmong (pointer_count s) a) (result_shape p r s.world)
  result_among None s among = keeps (λ a. PointsAmong (pointer_count s) a) Nothing tt
  result_among (Some r) s among = and_then (a_type_named (pointer_count s) p s.world among 31 (r.name).name (member_symbol (r.name).member)) (λ a h.
      by_rule 31 (place p (r.name).name) (is_scalar a) (λ it. keeps (λ b. PointsAmong (pointer_count s) b) a h))

  pub d_formals : (b : Bool) (x : Option S.Formals) (s : Making) → AmongIn s → Gives (LeavesAmong FormalsAmong s) (formal_part p b x s)
  d_formals b None s among = d_give FormalsAmong (no_parameters, Nothing) s among (tt, tt)
  d_formals b (Some x) s among = d_next (d_sections b x.sections s among) (λ l g.
      d_next (d_look (λ a t. PointsAmong (pointer_count t) a) (result_shape p x.result (l.1).world) l.1 g.among (result_among x.result l.1 g.among)) (λ r j.
      d_give FormalsAmong (l.0, r.0) r.1 j.among (formals_later (pointer_count l.1) (pointer_count r.1) j.more (l.0).formals g.gives, j.gives)))

  -- where names aren't made known
  pub formals_aside : (x : Option S.Formals) (s : Making) → AmongIn s → Gives (λ (r : (Listed × Shape) × Making). FormalsAmong r.0 s) (formal_part p false x (record s { standing = [] }))
  formals_aside x s among = weaken (gives_both (d_formals false x (record s { standing = [] }) (record { names = among.names; members = among.members; fields = among.fields; narrowed = among.narrowed })) (h_formals p false x (record s { standing = [] }))) (λ r h.
      let e : pointer_count r.1 ≤ pointer_count s = (let b = ap length (h.1).bases in omega (arith, b)) in
      (formals_later (pointer_count r.1) (pointer_count s) e ((r.0).0).formals ((h.0).gives).0, shape_later (pointer_count r.1) (pointer_count s) e (r.0).1 ((h.0).gives).1))
