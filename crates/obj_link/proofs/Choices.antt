-- Objects of one choice.
use Rattle.std.proofs.Common.{◌≡◌, ℕ, zero, suc, ◌+◌, ◌<◌, ◌≤◌, Bool, true, false, cond, List, [], ◌∷◌, ◌++◌, length, drop, Option, Some, None, All, refl, sym, ap, ◌∙◌, subst, arith, add-one}
use Rattle.std.specs.Prelude.{◌==◌, ◌&&◌, slice_index_or, if◌then◌else◌}
use Rattle.std.specs.List.{AllByRecursion}
use Rattle.std.proofs.lemmas.Bool.{and_parts, eqb-true}
use Rattle.std.proofs.lemmas.List.Elements.{All-from_recursion}
use Rattle.trace_build.specs.declared.builder.Builder.{Builder}
use Rattle.alloc_choice.specs.declared.choice.Policy.{Policy}
use Rattle.object_form.specs.declared.object.Object.{Object}
use Rattle.object_form.specs.Objects.{policy_number, builder_number}
use Rattle.object_form.specs.Reading.{policy_by, builder_by}
use Rattle.object_form.proofs.Formats.{policy_there, builder_there}
use Rattle.obj_link.specs.declared.joining.Joined.{Joined}
use Rattle.obj_link.specs.Joining.{is_of_choice, first_other, other_choice, HasChoice}

same_policy : (a b : Policy) → policy_number a ≡ policy_number b → a ≡ b
same_policy a b e = sym (policy_there a) ∙ ap policy_by e ∙ policy_there b

same_builder : (a b : Builder) → builder_number a ≡ builder_number b → a ≡ b
same_builder a b e = sym (builder_there a) ∙ ap builder_by e ∙ builder_there b

-- an object of another's choice has its choice
of_choice : (j : Joined) (a o : Object) → a.policy ≡ j.policy → a.builder ≡ j.builder → a.regs ≡ j.regs → is_of_choice a o ≡ true → HasChoice j o
of_choice j a o p b k is =
    let x = and_parts (policy_number a.policy == policy_number o.policy) ((builder_number a.builder == builder_number o.builder) && (a.regs == o.regs)) is in
    let y = and_parts (builder_number a.builder == builder_number o.builder) (a.regs == o.regs) x.1 in
    record {
      policy = sym (same_policy a.policy o.policy (eqb-true _ _ x.0)) ∙ p;
      builder = sym (same_builder a.builder o.builder (eqb-true _ _ y.0)) ∙ b;
      regs = sym (eqb-true _ _ y.1) ∙ k;
    }

-- the first of these is of the choice, and none behind it isn't
none_other : (a o : Object) (i : ℕ) (os : List Object) (c : Bool) → is_of_choice a o ≡ c → (if c then first_other a (suc i) os else Some i) ≡ None → (is_of_choice a o ≡ true) × (first_other a (suc i) os ≡ None)
none_other a o i os true is e = (is, e)
none_other a o i os false is e = absurd (some_none i e)
  where
    some_none : (n : ℕ) → Some n ≡ None → ⊥
    some_none n e = cc

all_of : (j : Joined) (a : Object) → a.policy ≡ j.policy → a.builder ≡ j.builder → a.regs ≡ j.regs → (i : ℕ) (os : List Object) → first_other a i os ≡ None → AllByRecursion (HasChoice j) os
all_of j a p b k i [] none = tt
all_of j a p b k i (o ∷ os) none =
    let h = none_other a o i os (is_of_choice a o) refl none in
    (of_choice j a o p b k h.0, all_of j a p b k (suc i) os h.1)

-- where none is of another choice, all have the first one's
pub one_choice : (j : Joined) (a : Object) (os : List Object) → a.policy ≡ j.policy → a.builder ≡ j.builder → a.regs ≡ j.regs → first_other a 0 os ≡ None → All (HasChoice j) os
one_choice j a os p b k none = All-from_recursion (HasChoice j) os (all_of j a p b k 0 os none)

---- One after the other

pub begun : (os : List Object) (d : Object) → 0 < length os → first_other (slice_index_or os 0 d) 0 os ≡ other_choice os
begun [] d some = absurd (omega (arith, some))
begun (o ∷ os) d some = refl

-- the next object is of the choice
pub passed : (a : Object) (i : ℕ) (os : List Object) (o : Object) (rest : List Object) → os ≡ o ∷ rest → is_of_choice a o ≡ true → first_other a i os ≡ first_other a (i + 1) rest
passed a i os o rest e is = ap (first_other a i) e ∙ ap (λ b. if b then first_other a (suc i) rest else Some i) is ∙ ap (λ n. first_other a n rest) (sym (add-one i))

pub stopped : (a : Object) (i : ℕ) (os : List Object) (o : Object) (rest : List Object) → os ≡ o ∷ rest → is_of_choice a o ≡ false → first_other a i os ≡ Some i
stopped a i os o rest e is = ap (first_other a i) e ∙ ap (λ b. if b then first_other a (suc i) rest else Some i) is
