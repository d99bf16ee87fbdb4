-- One name that stands.
use Rattle.std.proofs.Common.{◌≡◌, ℕ, List, [], ◌∷◌, Bool, true, false, ◌||◌, not, cond, Option, Some, Ok, Err, Vec, Global, refl, sym, ap, ◌∙◌, subst, ◌⊎◌, inl, inr}
use Rattle.std.specs.Prelude.{is_some}
use Rattle.std.specs.Str.{bytes_eq}
use Rattle.std.specs.Cmp.Lexicographic.{nat_list_eq_equiv}
use Rattle.std.proofs.lemmas.Bool.{cases_Bool, cond-true, cond-false}
use Rattle.std.specs.BTreeMap.{BTreeMap}
use Rattle.check_types.specs.steps.Maps.{at_bytes}
use Rattle.check_types.specs.steps.Answers.{Answers}
use Rattle.check_types.specs.declared.steps.fault.CheckFault.{CheckFault}
use Rattle.check_types.specs.declared.steps.fault.CheckFault.TheVariants.{Fault}
use Rattle.check_types.proofs.steps.Answering.{as_judged}
use Rattle.check_making.specs.declared.making.Declaring.{Declaring}
use Rattle.check_making.specs.declared.making.Surroundings.{Surroundings}
use Rattle.check_making.specs.Making.{Makes, IsSettled}
use Rattle.check_making.specs.Parts.{Made}
use Rattle.ob_judge.specs.Judged.{Judged, Keeps, Breaks, ◌>>=◌, rule}
use Rattle.ob_judge.specs.Scopes.{Source, place, spelled}
use Rattle.ob_judge.specs.Making.{Making, is_among}
use Rattle.ob_judge.specs.Parameters.{stand}

module _ (p : Source) (i : ℕ) (m : Making) where
  abbrev pub with_name : Making
  with_name = record m { standing = spelled p i ∷ m.standing }

  abbrev left : Unit {0} → Making → Judged (Unit {0} × Making)
  left a s = Keeps (a, s)

  abbrev tested : Bool → Judged (Unit {0} × Making)
  tested b = (rule 36 (place p i) (not b) >>= λ a. left a m) >>= λ (r : Unit {0} × Making). left tt (record r.1 { standing = spelled p i ∷ (r.1).standing })

  pub stands_new : is_among (spelled p i) m.standing ≡ false → stand p (i ∷ []) m ≡ Keeps (tt, with_name)
  stands_new e = ap tested e

  pub stands_twice : is_among (spelled p i) m.standing ≡ true → stand p (i ∷ []) m ≡ Breaks 36 (place p i)
  stands_twice e = ap tested e

-- the names that stand, with one more
pub among_more : (name q : List ℕ) (ns : List (List ℕ)) (i : ℕ) (old new : List ℕ → Option ℕ) → ((q : List ℕ) → is_among q ns ≡ is_some (old q)) → ((q : List ℕ) → new q ≡ cond (bytes_eq name q) (Some i) (old q))
    → is_among q (name ∷ ns) ≡ is_some (new q)
among_more name q ns i old new h w = by (cases_Bool (bytes_eq name q))
  where
    by : (bytes_eq name q ≡ true) ⊎ (bytes_eq name q ≡ false) → is_among q (name ∷ ns) ≡ is_some (new q)
    by (inl e) = ap (λ b. b || is_among q ns) (nat_list_eq_equiv.symm q name ∙ e) ∙ sym (ap is_some (w q ∙ cond-true (bytes_eq name q) (Some i) (old q) e))
    by (inr e) = ap (λ b. b || is_among q ns) (nat_list_eq_equiv.symm q name ∙ e) ∙ h q ∙ sym (ap is_some (w q ∙ cond-false (bytes_eq name q) (Some i) (old q) e))

module _ (r : Surroundings) (s : Declaring) where
  pub stand_refused : (m : Making) → Makes r s m → (i : ℕ) (e : CheckFault) → e ≡ Fault 36 (place r.source.now i) → is_some (at_bytes s.standing (spelled r.source.now i)) ≡ true
      → {t : Declaring} → Answers (Made r t) (stand r.source.now (i ∷ []) m) (Err e)
  stand_refused m makes i e is there {t} =
      as_judged (stands_twice r.source.now i m (makes.standing (spelled r.source.now i) ∙ there)) (subst (λ z. Answers (Made r t) (Breaks 36 (place r.source.now i)) (Err z)) (sym is) (record { by = (refl, refl) }))

  pub stand_settled : IsSettled r s → (new : BTreeMap (Vec ℕ Global) ℕ) → IsSettled r (record s { standing = new })
  stand_settled ok new = record {
    built = ok.built;
    levels = ok.levels;
    modules = ok.modules;
    types = ok.types;
    members = ok.members;
    variables = ok.variables;
    objects = ok.objects;
    open_scope = ok.open_scope;
    places = ok.places;
    own_text = ok.own_text;
  }

  pub stand_made : (m : Making) → Makes r s m → (i : ℕ) (new : BTreeMap (Vec ℕ Global) ℕ) → is_some (at_bytes s.standing (spelled r.source.now i)) ≡ false
      → ((q : List ℕ) → at_bytes new q ≡ cond (bytes_eq (spelled r.source.now i) q) (Some i) (at_bytes s.standing q)) → Answers (Made r (record s { standing = new })) (stand r.source.now (i ∷ []) m) (Ok tt)
  stand_made m makes i new none w =
      as_judged (stands_new r.source.now i m (makes.standing (spelled r.source.now i) ∙ none)) (record {
        by = record {
          makes = record {
            imports_in = makes.imports_in;
            world = makes.world;
            is_type_part = makes.is_type_part;
            forward = makes.forward;
            standing = λ q. among_more (spelled r.source.now i) q m.standing i (at_bytes s.standing) (at_bytes new) makes.standing w;
            values = makes.values;
            variables = makes.variables;
            objects = makes.objects;
          };
        };
      })
