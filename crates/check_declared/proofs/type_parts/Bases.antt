-- Bases of pointer types that are declared later.
use Rattle.std.proofs.Common.{◌≡◌, ℕ, zero, suc, ◌+◌, ◌-◌, ◌<◌, List, [], ◌∷◌, length, map, drop, get_or, Option, Some, None, Ok, Err, refl, sym, ap, ◌∙◌, subst, arith}
use Rattle.std.specs.Prelude.{slice_get, slice_set}
use Rattle.std.proofs.lemmas.List.{length-map}
use Rattle.ob_types.specs.Table.{Table}
use Rattle.ob_types.proofs.Tests.{none_some, some_same}
use Rattle.ob_syntax.specs.Syntax as S
use Rattle.ob_judge.specs.Judged.{Judged, Keeps, Breaks, ◌>>=◌, some}
use Rattle.ob_judge.specs.Scopes.{Entry, Object, World, Source, place, spelled}
use Rattle.ob_judge.specs.Cases.{entry_object}
use Rattle.ob_judge.specs.Making.{Making, last_names, set_base, with_known}
use Rattle.ob_judge.specs.Types.{record_object}
use Rattle.ob_judge.specs.Declarations.{each, forward_base, type_decl_part}
use Rattle.judged_well.specs.Gives.{Gives}
use Rattle.judged_well.proofs.Judging.{keeps, breaks}
use Rattle.judged_modules.proofs.Lists.{get_within, set_length}
use Rattle.judged_modules.proofs.TypesGrow.{each_map}
use Rattle.judged_modules.proofs.DeclarationsGrow.{typing, i_type_decls}
use Rattle.check_types.specs.steps.Answers.{Answers}
use Rattle.check_types.specs.declared.steps.fault.CheckFault.{CheckFault}
use Rattle.check_types.proofs.steps.Answering.{Judging}
use Rattle.check_declared.proofs.Parts.{StateMakes, left_first, left_next, left_stops, left_none}
use Rattle.check_types.specs.declared.names.levels.Level.{Level}
use Rattle.check_types.specs.names.Meaning.{names_of}
use Rattle.check_making.specs.declared.making.Declaring.{Declaring}
use Rattle.check_making.specs.declared.making.Forward.{Forward}
use Rattle.check_making.specs.declared.making.Surroundings.{Surroundings}
use Rattle.check_making.specs.Making.{forward_of, Makes}
use Rattle.check_making.specs.Parts.{Judges, Made}
use Rattle.check_making.specs.parameters.Stands.{Stands}
use Rattle.check_declared.specs.type_parts.Forward.{AreBelow, AreThere, record_named}
use Rattle.check_declared.proofs.type_parts.States.{left_with}

-- ---- names of the innermost scope

pub last_is : (t : Table) (strings : List (List ℕ)) (k : List ℕ → Option Entry) (ls : List Level) (n : ℕ) (d : Level) (q : List ℕ) → 0 < length ls → n ≡ length ls - 1
    → names_of t strings (get_or ls n d) q ≡ last_names (k ∷ map (names_of t strings) ls) q
last_is t strings k [] n d q l e = absurd (omega (arith, l))
last_is t strings k (c ∷ []) zero d q l e = refl
last_is t strings k (c ∷ []) (suc n) d q l e = absurd (omega (arith, e))
last_is t strings k (c ∷ b ∷ ls) zero d q l e = absurd (omega (arith, e))
last_is t strings k (c ∷ b ∷ ls) (suc n) d q l e = last_is t strings (names_of t strings c) (b ∷ ls) n d q (omega arith) (omega (arith, e))

-- ---- one base

module _ (p : Source) where
  module _ (f : ℕ × ℕ) (m : Making) where
    abbrev based : ℕ → Judged (Unit {0} × Making)
    based r = Keeps (tt, with_known (λ k. record k { bases = slice_set k.bases f.0 (Some r) }) m)

    base_by : (o : Option Object) →
        ((some 30 (place p f.1) o >>= λ a. Keeps (a, m)) >>= λ (a : Object × Making). (some 31 (place p f.1) (record_object a.0) >>= λ r. Keeps (r, a.1)) >>= λ (r : ℕ × Making). Keeps (tt, with_known (λ k. record k { bases = slice_set k.bases f.0 (Some r.0) }) r.1))
        ≡ ((some 30 (place p f.1) o >>= λ a. some 31 (place p f.1) (record_object a)) >>= based)
    base_by None = refl
    base_by (Some a) = by (record_object a)
      where
        by : (o : Option ℕ) → ((some 31 (place p f.1) o >>= λ r. Keeps (r, m)) >>= λ (r : ℕ × Making). Keeps (tt, with_known (λ k. record k { bases = slice_set k.bases f.0 (Some r.0) }) r.1)) ≡ (some 31 (place p f.1) o >>= based)
        by None = refl
        by (Some r) = refl

    pub base_law : forward_base p f m ≡ (record_named p f.1 m.world >>= λ r. set_base f.0 r m)
    base_law = base_by (entry_object (last_names m.world.levels (spelled p f.1)))

    -- those that wait, and how many pointer types there are, stay
    pub record StaysBut (n : Making) : Type 0 where
      pub forward : n.forward ≡ m.forward
      pub bases : length n.world.known.bases ≡ length m.world.known.bases

    stays_by : (j : Judged ℕ) → Gives (λ (a : Unit {0} × Making). StaysBut a.1) (j >>= based)
    stays_by (Keeps r) = keeps (λ (a : Unit {0} × Making). StaysBut a.1) (tt, with_known (λ k. record k { bases = slice_set k.bases f.0 (Some r) }) m) (record { forward = refl; bases = set_length m.world.known.bases f.0 (Some r) })
    stays_by (Breaks n at) = breaks (λ (a : Unit {0} × Making). StaysBut a.1) n at

    pub base_stays : Gives (λ (a : Unit {0} × Making). StaysBut a.1) (forward_base p f m)
    base_stays = subst (Gives (λ (a : Unit {0} × Making). StaysBut a.1)) (sym base_law) (stays_by (record_named p f.1 m.world))

-- and in code
pub record IsAsBefore (s t : Declaring) : Type 0 where
  pub forward : map forward_of t.forward.items ≡ map forward_of s.forward.items
  pub bases : length t.types.table.bases.items ≡ length s.types.table.bases.items

pub as_before : (r : Surroundings) (s t : Declaring) (f : ℕ × ℕ) → Stands r s → Judges r s t (forward_base r.source.now f) (Ok tt) → IsAsBefore s t
as_before r s t f old h =
    let g = left_with (forward_base r.source.now f old.making) (h old.making old.makes) (base_stays r.source.now f old.making) in
    let new = (g.1).makes in
    let stays = g.2 in
    record {
      forward = sym new.forward ∙ stays.forward ∙ old.makes.forward;
      bases = sym (ap (λ (w : World). length w.known.bases) new.world) ∙ stays.bases ∙ ap (λ (w : World). length w.known.bases) old.makes.world;
    }

-- ---- all that wait

pub at_index : (fs : List Forward) (i : ℕ) (f : Forward) → i < length fs → f ≡ get_or fs i f → slice_get fs i ≡ Some f
at_index [] i f l e = absurd (omega (arith, l))
at_index (x ∷ fs) zero f l e = ap Some (sym e)
at_index (x ∷ fs) (suc i) f l e = at_index fs i f (omega (arith, l)) e

pub mapped_at : (fs : List Forward) (i : ℕ) (f : Forward) (d : ℕ × ℕ) → slice_get fs i ≡ Some f → get_or (map forward_of fs) i d ≡ forward_of f
mapped_at [] i f d h = none_some f h
mapped_at (x ∷ fs) zero f d h = ap forward_of (some_same x f h)
mapped_at (x ∷ fs) (suc i) f d h = mapped_at fs i f d h

pub pointer_below : (n : ℕ) (fs : List Forward) → AreBelow n (map forward_of fs) → (i : ℕ) (f : Forward) → slice_get fs i ≡ Some f → f.pointer < n
pointer_below n [] h i f at = none_some f at
pointer_below n (x ∷ fs) h zero f at = subst (λ (y : Forward). y.pointer < n) (some_same x f at) h.0
pointer_below n (x ∷ fs) h (suc i) f at = pointer_below n fs h.1 i f at

pub as_many : (fs gs : List Forward) → map forward_of fs ≡ map forward_of gs → length fs ≡ length gs
as_many fs gs e = sym (length-map fs forward_of) ∙ ap (λ xs. length xs) e ∙ length-map gs forward_of

module _ (r : Surroundings) where
  abbrev pub bases_from : Unit {0} × Making → List (ℕ × ℕ) → Judged (Unit {0} × Making)
  bases_from a fs = each (forward_base r.source.now) fs a.1

  abbrev pub base_item : Unit {0} × Making → ℕ × ℕ → Judged (Unit {0} × Making)
  base_item a f = forward_base r.source.now f a.1

  bases_law : (a : Unit {0} × Making) (f : ℕ × ℕ) (fs : List (ℕ × ℕ)) → bases_from a (f ∷ fs) ≡ (base_item a f >>= λ z. bases_from z fs)
  bases_law a f fs = refl

  bases_end : (a : Unit {0} × Making) → bases_from a [] ≡ Keeps a
  bases_end a = refl

  pub bases_next : (whole : Judged (Unit {0} × Making)) (s t : Declaring) (fs : List (ℕ × ℕ)) (i : ℕ) (d : ℕ × ℕ) → i < length fs → Judging (StateMakes r) bases_from whole s (drop i fs)
      → ((m : Making) → Makes r s m → Answers (Made r t) (base_item (tt, m) (get_or fs i d)) (Ok tt)) → Judging (StateMakes r) bases_from whole t (drop (i + 1) fs)
  bases_next = left_next r bases_from base_item bases_law bases_end

  pub bases_stop : (whole : Judged (Unit {0} × Making)) (s t : Declaring) (fs : List (ℕ × ℕ)) (i : ℕ) (d : ℕ × ℕ) (e : CheckFault) → i < length fs → Judging (StateMakes r) bases_from whole s (drop i fs)
      → ((m : Making) → Makes r s m → Answers (Made r t) (base_item (tt, m) (get_or fs i d)) (Err e)) → Answers (Made r t) whole (Err e)
  bases_stop = left_stops r bases_from base_item bases_law bases_end

  pub bases_done : (whole : Judged (Unit {0} × Making)) (s : Declaring) → Judging (StateMakes r) bases_from whole s [] → Answers (Made r s) whole (Ok tt)
  bases_done = left_none r bases_from base_item bases_law bases_end

  pub bases_first : (s : Declaring) (m : Making) → Makes r s m → (fs : List (ℕ × ℕ)) → Judging (StateMakes r) bases_from (bases_from (tt, m) fs) s fs
  bases_first = left_first r bases_from base_item bases_law bases_end

-- behind the declarations of a TYPE part each pointer type that waits is one of those that there are
pub are_there : (r : Surroundings) (s t : Declaring) (ds : List S.TypeDecl) (m : Making) → Makes r s (typing r.source.now m) → Judges r s t (each (type_decl_part r.source.now) ds) (Ok tt) → AreThere t
are_there r s t ds m makes h =
    let p = r.source.now in
    let g = left_with (each (type_decl_part p) ds (typing p m)) (h (typing p m) makes) (i_type_decls p ds (typing p m)) in
    let left = (g.0).1 in
    let new = (g.1).makes in
    let into = g.2 in
    subst (λ n. AreBelow n (map forward_of t.forward.items)) (ap (λ (w : World). length w.known.bases) new.world)
    (subst (AreBelow (length left.world.known.bases)) (new.forward)
    (subst (AreBelow (length left.world.known.bases)) (sym into.forward)
    (each_map _ (λ f. f.0 < length left.world.known.bases) into.more (λ f w. get_within left.world.known.bases f.0 None w.1) into.waiting)))

pub there_still : (s t : Declaring) → t.types ≡ s.types → t.forward ≡ s.forward → AreThere s → AreThere t
there_still s t e f h =
    subst (λ n. AreBelow n (map forward_of t.forward.items)) (ap (λ b. length b.table.bases.items) (sym e))
    (subst (λ v. AreBelow (length s.types.table.bases.items) (map forward_of v.items)) (sym f) h)

pub there_now : (s t : Declaring) → IsAsBefore s t → AreThere s → AreThere t
there_now s t same h =
    subst (λ n. AreBelow n (map forward_of t.forward.items)) (sym same.bases) (subst (AreBelow (length s.types.table.bases.items)) (sym same.forward) h)
