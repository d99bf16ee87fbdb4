-- The objects of texts have these texts, and one choice.
use Rattle.std.proofs.Common.{◌≡◌, ℕ, zero, suc, List, [], ◌∷◌, length, take, true, ◌&&◌, Some, None, refl, sym, ap, ap₂, ◌∙◌, eq-eqb, arith}
use Rattle.std.specs.Prelude.{slice_get, ◌==◌, if◌then◌else◌}
use Rattle.ob_types.proofs.Tests.{and_from, some_same}
use Rattle.object_commands.specs.words.alloc_choice.declared.choice.Choice.{Choice}
use Rattle.object_form.specs.declared.object.Object.{Object}
use Rattle.object_form.specs.Objects.{policy_number, builder_number}
use Rattle.obj_link.specs.Joining.{is_of_choice, first_other, other_choice, texts_of}
use Rattle.object_commands.specs.module_object.Objects.{last_text}
use Rattle.object_commands.specs.object_laws.Objects.{AreObjectsOfTexts}

---- Texts

last_first : (texts : List (List ℕ)) (n : ℕ) (t : List ℕ) → slice_get texts n ≡ Some t → last_text (take (suc n) texts) ≡ t
last_first [] n t at = absurd (let e = at in cc)
last_first (x ∷ texts) zero t at = some_same x t at
last_first (x ∷ []) (suc n) t at = absurd (let e = at in cc)
last_first (x ∷ y ∷ texts) (suc n) t at = last_first (y ∷ texts) n t at

-- an item of a list that is as long as another
as_many : {A B : Type 0} (xs : List A) (ys : List B) (n : ℕ) (x : A) → length xs ≡ length ys → slice_get xs n ≡ Some x → (y : B) × (slice_get ys n ≡ Some y)
as_many [] ys n x e at = absurd (let z = at in cc)
as_many (z ∷ xs) [] n x e at = absurd (omega (arith, e))
as_many (z ∷ xs) (w ∷ ys) zero x e at = (w, refl)
as_many (z ∷ xs) (w ∷ ys) (suc n) x e at = as_many xs ys n x (omega (arith, e)) at

texts_same : (os : List Object) (texts : List (List ℕ)) → length os ≡ length texts → ((n : ℕ) (o : Object) → slice_get os n ≡ Some o → slice_get texts n ≡ Some o.source) → texts_of os ≡ texts
texts_same [] [] e h = refl
texts_same [] (t ∷ texts) e h = absurd (omega (arith, e))
texts_same (o ∷ os) [] e h = absurd (omega (arith, e))
texts_same (o ∷ os) (t ∷ texts) e h = ap₂ (λ x xs. x ∷ xs) (sym (some_same t o.source (h zero o refl))) (texts_same os texts (omega (arith, e)) (λ n p at. h (suc n) p at))

module _ (choice : Choice) (texts : List (List ℕ)) (objects : List Object) (are : AreObjectsOfTexts choice texts objects) where
  pub objects_texts : texts_of objects ≡ texts
  objects_texts = texts_same objects texts are.count (λ n o at.
      let t = as_many objects texts n o are.count at in
      t.1 ∙ ap Some (sym (last_first texts n t.0 t.1) ∙ sym (are.each n o at).is.source))

---- Choices

-- made by this choice
pub record IsBy (choice : Choice) (o : Object) : Type 0 where
  pub policy : o.policy ≡ choice.policy
  pub builder : o.builder ≡ choice.builder
  pub regs : o.regs ≡ choice.regs

of_one : (choice : Choice) (o p : Object) → IsBy choice o → IsBy choice p → is_of_choice o p ≡ true
of_one choice o p h k =
    and_from (policy_number o.policy == policy_number p.policy) ((builder_number o.builder == builder_number p.builder) && (o.regs == p.regs))
    (eq-eqb (policy_number o.policy) (policy_number p.policy) (ap policy_number (h.policy ∙ sym k.policy)))
    (and_from (builder_number o.builder == builder_number p.builder) (o.regs == p.regs)
    (eq-eqb (builder_number o.builder) (builder_number p.builder) (ap builder_number (h.builder ∙ sym k.builder)))
    (eq-eqb o.regs p.regs (h.regs ∙ sym k.regs)))

none_other : (choice : Choice) (o : Object) (i : ℕ) (os : List Object) → IsBy choice o → ((n : ℕ) (p : Object) → slice_get os n ≡ Some p → IsBy choice p) → first_other o i os ≡ None
none_other choice o i [] h all = refl
none_other choice o i (p ∷ os) h all =
    ap (λ b. if b then first_other o (suc i) os else Some i) (of_one choice o p h (all zero p refl))
    ∙ none_other choice o (suc i) os h (λ n q at. all (suc n) q at)

no_other : (choice : Choice) (os : List Object) → ((n : ℕ) (p : Object) → slice_get os n ≡ Some p → IsBy choice p) → other_choice os ≡ None
no_other choice [] all = refl
no_other choice (o ∷ os) all = none_other choice o 0 (o ∷ os) (all zero o refl) all

module _ (choice : Choice) (texts : List (List ℕ)) (objects : List Object) (are : AreObjectsOfTexts choice texts objects) where
  pub by_choice : (n : ℕ) (o : Object) → slice_get objects n ≡ Some o → IsBy choice o
  by_choice n o at = let x = (are.each n o at).is in record { policy = x.policy; builder = x.builder; regs = x.regs }

  pub objects_choice : other_choice objects ≡ None
  objects_choice = no_other choice objects by_choice
