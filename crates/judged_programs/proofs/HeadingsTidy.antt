-- Parameters judged: in no more argument words than are passed, and in a scope that stays tidy.
use Rattle.std.proofs.Common.{◌≡◌, ℕ, suc, ◌+◌, List, [], ◌∷◌, ◌++◌, length, Bool, true, false, Option, None, Some, refl, ap, sym, ◌∙◌, subst, arith}
use Rattle.std.proofs.lemmas.Bool.Decides.{nat_tests}
use Rattle.std.specs.Prelude.{nat_le, is_some, if◌then◌else◌}
use Rattle.ob_types.proofs.Tests.{no, and_from}
use Rattle.ob_types.specs.WellFormed.{words_of}
use Rattle.ob_syntax.specs.Syntax as S
use Rattle.ob_judge.specs.Judged.{rule}
use Rattle.ob_judge.specs.Shapes.{Shape, Integer, Nothing, Open, Record, is_scalar}
use Rattle.ob_judge.specs.Names.{member_symbol}
use Rattle.ob_syntax.specs.declared.types.ResultType.{ResultType}
use Rattle.ob_judge.specs.Image.{Formal}
use Rattle.ob_judge.specs.Scopes.{Source, place, spelled}
use Rattle.ob_judge.specs.Making.{Making, with_levels, declare_last}
use Rattle.ob_judge.specs.Parameters.{Listed, no_parameters, opened, mode_of, is_value, listed, type_at, parameter_variable, add_parameters, next_names, section, next_sections, sections, result_shape, formal_part}
use Rattle.ob_judge.specs.Parameters.{words_of as words_of_shape}
use Rattle.judged_well.specs.Gives.{Gives}
use Rattle.judged_well.specs.Standing.{is_whole, is_formal, is_result}
use Rattle.judged_modules.proofs.Keeping.{given}
use Rattle.judged_well.proofs.Judging.{keeps, weaken, and_then, by_rule}
use Rattle.judged_modules.proofs.Growing.{ruled_last}
use Rattle.judged_modules.proofs.TypesGrow.{each_append}
use Rattle.judged_modules.proofs.Parameters.{Heads, heads_self, heads_on, plain_heads, Plain, look_as, stand_plain}
use Rattle.judged_programs.proofs.Tidy.{tidy_declared, tidy_plain, depth_declared, known_type}
use Rattle.judged_programs.specs.Tidy.{AreListed, IsHandedOver, IsInProcedure, Tidy, words_in}

words_of_mode : (v : Bool) (a : Shape) → words_of (mode_of v a) ≡ words_of_shape v a
words_of_mode true (Open a) = refl
words_of_mode false (Open a) = refl
words_of_mode true (Record r) = refl
words_of_mode false (Record r) = refl
words_of_mode true a = refl
words_of_mode false a = refl

words_more : (xs : List Formal) (y : Formal) → words_in (xs ++ y ∷ []) ≡ words_in xs + words_of y.mode
words_more [] y = omega arith
words_more (x ∷ xs) y = let h = words_more xs y in omega (arith, h)

few_more : (v : Bool) (a : Shape) (l : Listed) → is_formal a ≡ true → nat_le (l.words + words_of_shape v a) 24 ≡ true → AreListed l → AreListed (listed v a l)
few_more v a l formal ok h = record {
  counted = words_more l.parameters (record { mode = mode_of v a; variable = v; shape = a }) ∙ ap (λ c. c + words_of (mode_of v a)) h.counted ∙ ap (λ c. l.words + c) (words_of_mode v a);
  few = grind (arith, nat_tests, ok);
  formals = each_append IsHandedOver l.parameters (record { mode = mode_of v a; variable = v; shape = a } ∷ []) h.formals ((refl, formal), tt);
}

pub no_words : AreListed no_parameters
no_words = record { counted = refl; few = omega arith; formals = tt }

pub record Lists (from : ℕ) (Before : Type 0) (b : Bool) (l : Listed) (s : Making) (r : Listed × Making) : Type 0 where
  pub heads : Heads b s r.1
  pub depth : length (r.1).world.levels ≡ length s.world.levels
  pub tidy : Before → IsInProcedure b s → Tidy from s → AreListed l → Tidy from r.1 × AreListed r.0

module _ (from : ℕ) (Before : Type 0) (b : Bool) where
  inside_on : (s t : Making) → Heads b s t → IsInProcedure b s → IsInProcedure b t
  inside_on s t h inside i = ((inside i).0, h.procedure ∙ (inside i).1)

  lists_self : (l : Listed) (s : Making) → Lists from Before b l s (l, s)
  lists_self l s = record { heads = heads_self b s; depth = refl; tidy = λ before inside tidy few. (tidy, few) }

  lists_on : (l : Listed) (s : Making) (r q : Listed × Making) → Lists from Before b l s r → Lists from Before b r.0 r.1 q → Lists from Before b l s q
  lists_on l s r q h k = record {
    heads = heads_on b s r.1 q.1 h.heads k.heads;
    depth = k.depth ∙ h.depth;
    tidy = λ before inside tidy few. let a = h.tidy before inside tidy few in k.tidy before (inside_on s r.1 h.heads inside) a.0 a.1;
  }

  module _ (p : Source) where
    lists_plain : (l : Listed) (s t : Making) → Plain s t → Lists from Before b l s (l, t)
    lists_plain l s t h = record { heads = plain_heads b s t h; depth = ap (λ v. length v.levels) h.world; tidy = λ before inside tidy few. (tidy_plain from s t h tidy, few) }

module _ (from : ℕ) (p : Source) where
  -- the parameter's name is known
  abbrev known_from : ℕ → Bool → Shape → Listed → Making → Making
  known_from i v a l s = record (with_levels (declare_last (spelled p i) (record { object = parameter_variable v a s.values (length l.parameters) s.world; exported = false })) s) { values = if is_value (mode_of v a) then suc s.values else s.values }

  -- where all parameters are of a type that they may have
  lists_with : (Before : Type 0) (b : Bool) (l : Listed) (s : Making) (r : Listed × Making) → Lists from Before b l s r → (Tidy from s → Before) → Lists from (Unit {0}) b l s r
  lists_with Before b l s r h f = record { heads = h.heads; depth = h.depth; tidy = λ before inside tidy few. h.tidy (f tidy) inside tidy few }

  abbrev IsFormal : Shape → Type 0
  IsFormal a = is_formal a ≡ true

  -- one parameter more
  one_known : (i : ℕ) (v : Bool) (a : Shape) (l : Listed) (s : Making) → nat_le (l.words + words_of_shape v a) 24 ≡ true → Lists from (IsFormal a) true l s (listed v a l, known_from i v a l s)
  one_known i v a l s ok = record {
    heads = record { records = refl; bases = refl; procedures = refl; variables = refl; procedure = refl; module_number = refl; values = λ j. no (sym j) };
    depth = depth_declared (spelled p i) (record { object = parameter_variable v a s.values (length l.parameters) s.world; exported = false }) s.world.levels;
    tidy = λ before inside tidy few. (
      tidy_declared from s (spelled p i) (record { object = parameter_variable v a s.values (length l.parameters) s.world; exported = false }) tt (λ none. absurd (let z = sym none ∙ (inside refl).1 in cc)) tidy,
      few_more v a l before ok few,
    );
  }

  one_unknown : (v : Bool) (a : Shape) (l : Listed) (s : Making) → nat_le (l.words + words_of_shape v a) 24 ≡ true → Lists from (IsFormal a) false l s (listed v a l, s)
  one_unknown v a l s ok = record { heads = heads_self false s; depth = refl; tidy = λ before inside tidy few. (tidy, few_more v a l before ok few) }

  h_add : (b : Bool) (v : Bool) (a : Shape) (is : List ℕ) (l : Listed) (s : Making) → Gives (Lists from (IsFormal a) b l s) (add_parameters p b v a is l s)
  h_add b v a [] l s = keeps (Lists from (IsFormal a) b l s) (l, s) (lists_self from (IsFormal a) b l s)
  h_add false v a (i ∷ is) l s = and_then (look_as (rule 40 (place p i) (nat_le (l.words + words_of_shape v a) 24)) s) (λ r h. weaken (h_add false v a is (listed v a l) r.1) (λ q k.
      lists_on from (IsFormal a) false l s (listed v a l, s) q (one_unknown v a l s (ruled_last 40 (place p i) (nat_le (l.words + words_of_shape v a) 24) r.0 h.1)) (subst (λ u. Lists from (IsFormal a) false (listed v a l) u q) h.0 k)))
  h_add true v a (i ∷ is) l s = and_then (look_as (rule 40 (place p i) (nat_le (l.words + words_of_shape v a) 24)) s) (λ r h. weaken (h_add true v a is (listed v a l) (known_from i v a l r.1)) (λ q k.
      lists_on from (IsFormal a) true l s (listed v a l, known_from i v a l s) q (one_known i v a l s (ruled_last 40 (place p i) (nat_le (l.words + words_of_shape v a) 24) r.0 h.1)) (subst (λ u. Lists from (IsFormal a) true (listed v a l) (known_from i v a l u) q) h.0 k)))

  opened_formal : (b : Bool) (a : Shape) → is_whole a ≡ true → is_formal (opened b a) ≡ true
  opened_formal true a h = refl
  opened_formal false (Open c) h = no h
  opened_formal false Integer h = h
  opened_formal false a h = h

  h_section : (b : Bool) (x : S.Section) (l : Listed) (s : Making) → Gives (Lists from (Unit {0}) b l s) (section p b x l s)
  h_section b x l s = and_then (stand_plain p (x.first ∷ next_names x.more) s) (λ r h. and_then (look_as (type_at p 31 x.of (r.1).world) r.1) (λ a k.
      let c = opened (is_some x.open_array) a.0 in
      weaken (h_add b (is_some x.var_word) c (x.first ∷ next_names x.more) l a.1) (λ q j.
      lists_on from (Unit {0}) b l s (l, r.1) q (lists_plain from (Unit {0}) b p l s r.1 h)
      (lists_with (IsFormal c) b l r.1 q (subst (λ u. Lists from (IsFormal c) b l u q) k.0 j)
      (λ tidy. opened_formal (is_some x.open_array) a.0 (given a.0 (known_type p from r.1 tidy 31 (x.of).name (member_symbol (x.of).member)) k.1).whole)))))

  h_sections : (b : Bool) (xs : List S.NextSection) (l : Listed) (s : Making) → Gives (Lists from (Unit {0}) b l s) (next_sections p b xs l s)
  h_sections b [] l s = keeps (Lists from (Unit {0}) b l s) (l, s) (lists_self from (Unit {0}) b l s)
  h_sections b (x ∷ xs) l s = and_then (h_section b x.section l s) (λ r h. weaken (h_sections b xs r.0 r.1) (λ q k. lists_on from (Unit {0}) b l s r q h k))

  h_all : (b : Bool) (x : Option S.Sections) (s : Making) → Gives (Lists from (Unit {0}) b no_parameters s) (sections p b x s)
  h_all b None s = keeps (Lists from (Unit {0}) b no_parameters s) (no_parameters, s) (lists_self from (Unit {0}) b no_parameters s)
  h_all b (Some x) s = and_then (h_section b x.first no_parameters s) (λ r h. weaken (h_sections b x.more r.0 r.1) (λ q k. lists_on from (Unit {0}) b no_parameters s r q h k))

  -- ---- results

  result_of : (a : Shape) → is_whole a ≡ true → is_scalar a ≡ true → is_result a ≡ true
  result_of Nothing h k = refl
  result_of Integer h k = refl
  result_of a h k = and_from (is_whole a) (is_scalar a) h k

  result_is : (r : Option ResultType) (s : Making) → Tidy from s → Gives (λ a. is_result a ≡ true) (result_shape p r s.world)
  result_is None s tidy = keeps (λ a. is_result a ≡ true) Nothing refl
  result_is (Some r) s tidy = and_then (known_type p from s tidy 31 (r.name).name (member_symbol (r.name).member)) (λ a h.
      by_rule 31 (place p (r.name).name) (is_scalar a) (λ k. keeps (λ a. is_result a ≡ true) a (result_of a h.whole k)))

  -- what a procedure takes and gives
  pub record Heading (b : Bool) (s : Making) (r : (Listed × Shape) × Making) : Type 0 where
    pub lists : Lists from (Unit {0}) b no_parameters s ((r.0).0, r.1)
    pub result : IsInProcedure b s → Tidy from s → is_result (r.0).1 ≡ true

  pub h_formals : (b : Bool) (x : Option S.Formals) (s : Making) → Gives (Heading b s) (formal_part p b x s)
  h_formals b None s = keeps (Heading b s) ((no_parameters, Nothing), s) (record { lists = lists_self from (Unit {0}) b no_parameters s; result = λ inside tidy. refl })
  h_formals b (Some x) s = and_then (h_all b x.sections s) (λ r h. and_then (look_as (result_shape p x.result (r.1).world) r.1) (λ a k.
      keeps (Heading b s) ((r.0, a.0), a.1) (record {
        lists = subst (λ u. Lists from (Unit {0}) b no_parameters s (r.0, u)) (sym k.0) h;
        result = λ inside tidy. given a.0 (result_is x.result r.1 (h.tidy tt inside tidy no_words).0) k.1;
      })))
