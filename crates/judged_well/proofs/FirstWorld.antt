-- The world in which a program's first declarations are judged.
use Rattle.std.proofs.Common.{◌≡◌, ℕ, List, [], ◌∷◌, Bool, true, false, Some, None, refl, ap, subst}
use Rattle.std.specs.Prelude.{if◌then◌else◌}
use Rattle.std.specs.Str.{bytes_eq}
use Rattle.ob_types.proofs.Tests.{no, none_some, some_same}
use Rattle.ob_judge.specs.Shapes.{Integer, Boolean, Char, Byte, Set}
use Rattle.ob_judge.specs.Image.{Done}
use Rattle.ob_judge.specs.Scopes.{Object, Standard, AType, AStandard, AVariable, ReadOnly, Entry, Imported, TheOut, TheIn, Earlier, World, Source, Abs, Odd, Len, Lsl, Asr, Ror, Ord, Chr, Inc, Dec, Incl, Excl, New, Assert, OutChar, OutInt, OutString, OutLn, InChar}
use Rattle.ob_judge.specs.Standards.{names_of, predeclared, names_of_out, names_of_in}
use Rattle.ob_judge.specs.Names.{names_of as names_of_module}
use Rattle.ob_judge.specs.Names.{narrowing_of}
use Rattle.ob_judge.specs.Modules.{no_modules, first_making}
use Rattle.judged_well.specs.Forms.{InDone}
use Rattle.judged_well.specs.Setting.{Setting}
use Rattle.judged_well.specs.Standing.{as_done, VariableStands, ObjectStands, IsOwn, IsForeign, IsUnnarrowed, Right}

-- what holds of all these names' objects
abbrev AllObjects : (Object → Type 0) → List (List ℕ × Object) → Type 0
AllObjects P [] = Unit {0}
AllObjects P (x ∷ xs) = P x.1 × AllObjects P xs

of_names : (P : Object → Type 0) (xs : List (List ℕ × Object)) → AllObjects P xs → (q : List ℕ) (x : Entry) → names_of xs q ≡ Some x → P x.object
of_names P [] all q x is = none_some x is
of_names P (y ∷ ys) all q x is = by (of_names P ys all.1 q x) (bytes_eq y.0 q) is
  where
    by : (names_of ys q ≡ Some x → P x.object) → (b : Bool) → (if b then Some (record { object = y.1; exported = true }) else names_of ys q) ≡ Some x → P x.object
    by rest true is = subst (λ z. P z.object) (some_same (record { object = y.1; exported = true }) x is) all.0
    by rest false is = rest is

-- of each predeclared name, what holds of these types and of all predeclared procedures
pub of_predeclared : (P : Object → Type 0) → P (AType Integer) → P (AType Boolean) → P (AType Char) → P (AType Byte) → P (AType Set) → ((s : Standard) → P (AStandard s)) → (q : List ℕ) (x : Entry) → predeclared q ≡ Some x → P x.object
of_predeclared P int bool char byte set h = of_names P (
    (73 ∷ 78 ∷ 84 ∷ 69 ∷ 71 ∷ 69 ∷ 82 ∷ [], AType Integer) ∷
    (66 ∷ 79 ∷ 79 ∷ 76 ∷ 69 ∷ 65 ∷ 78 ∷ [], AType Boolean) ∷
    (67 ∷ 72 ∷ 65 ∷ 82 ∷ [], AType Char) ∷
    (66 ∷ 89 ∷ 84 ∷ 69 ∷ [], AType Byte) ∷
    (83 ∷ 69 ∷ 84 ∷ [], AType Set) ∷
    (65 ∷ 66 ∷ 83 ∷ [], AStandard Abs) ∷
    (79 ∷ 68 ∷ 68 ∷ [], AStandard Odd) ∷
    (76 ∷ 69 ∷ 78 ∷ [], AStandard Len) ∷
    (76 ∷ 83 ∷ 76 ∷ [], AStandard Lsl) ∷
    (65 ∷ 83 ∷ 82 ∷ [], AStandard Asr) ∷
    (82 ∷ 79 ∷ 82 ∷ [], AStandard Ror) ∷
    (79 ∷ 82 ∷ 68 ∷ [], AStandard Ord) ∷
    (67 ∷ 72 ∷ 82 ∷ [], AStandard Chr) ∷
    (73 ∷ 78 ∷ 67 ∷ [], AStandard Inc) ∷
    (68 ∷ 69 ∷ 67 ∷ [], AStandard Dec) ∷
    (73 ∷ 78 ∷ 67 ∷ 76 ∷ [], AStandard Incl) ∷
    (69 ∷ 88 ∷ 67 ∷ 76 ∷ [], AStandard Excl) ∷
    (78 ∷ 69 ∷ 87 ∷ [], AStandard New) ∷
    (65 ∷ 83 ∷ 83 ∷ 69 ∷ 82 ∷ 84 ∷ [], AStandard Assert) ∷
    [])
    (int, (bool, (char, (byte, (set, (h Abs, (h Odd, (h Len, (h Lsl, (h Asr, (h Ror, (h Ord, (h Chr, (h Inc, (h Dec, (h Incl, (h Excl, (h New, (h Assert, tt)))))))))))))))))))

module _ (e : Setting) (p : Source) where
  abbrev first : World
  first = (first_making no_modules).world

  abbrev Owned : Object → Type 0
  Owned o = ObjectStands e o × IsOwn e first o

  abbrev pub Foreign : World → Object → Type 0
  Foreign v o = ObjectStands e o × IsUnnarrowed e p v o × IsForeign e v o

  done : VariableStands e (record { shape = Boolean; place = Done; home = ReadOnly; owner = 0; procedure = None })
  done = record { names = InDone; are = refl; fits = as_done; claims = tt; integer = λ h. absurd (let z = h in cc); good = refl }

  own : (q : List ℕ) (x : Entry) → predeclared q ≡ Some x → Owned x.object
  own = of_predeclared Owned ((refl, refl), tt) ((refl, refl), tt) ((refl, refl), tt) ((refl, refl), tt) ((refl, refl), tt) (λ s. (tt, tt))

  -- of Out and In, where nothing is narrowed
  pub of_out : (v : World) (q : List ℕ) (x : Entry) → names_of_out q ≡ Some x → Foreign v x.object
  of_out v = of_names (Foreign v) (
      (67 ∷ 104 ∷ 97 ∷ 114 ∷ [], AStandard OutChar) ∷
      (73 ∷ 110 ∷ 116 ∷ [], AStandard OutInt) ∷
      (83 ∷ 116 ∷ 114 ∷ 105 ∷ 110 ∷ 103 ∷ [], AStandard OutString) ∷
      (76 ∷ 110 ∷ [], AStandard OutLn) ∷
      [])
      ((tt, tt, tt), ((tt, tt, tt), ((tt, tt, tt), ((tt, tt, tt), tt))))

  pub of_in : (v : World) → v.narrowed ≡ [] → (q : List ℕ) (x : Entry) → names_of_in q ≡ Some x → Foreign v x.object
  of_in v none = of_names (Foreign v) (
      (67 ∷ 104 ∷ 97 ∷ 114 ∷ [], AStandard InChar) ∷
      (68 ∷ 111 ∷ 110 ∷ 101 ∷ [], AVariable (record { shape = Boolean; place = Done; home = ReadOnly; owner = 0; procedure = None })) ∷
      [])
      ((tt, tt, tt), ((done, ap (λ ns. narrowing_of Done ns) none, refl), tt))

  members : (m : Imported) (q : List ℕ) (x : Entry) → names_of_module p first m q ≡ Some x → Foreign first x.object
  members TheOut q x is = of_out first q x is
  members TheIn q x is = of_in first refl q x is
  members (Earlier n) q x is = none_some x is

  pub first_right : Right e p first
  first_right = record {
    names = λ q x is seen. own q x is;
    members = members;
    extends = λ a b h. no h;
    there = λ a b h. no h;
    targets = λ n r h. none_some r h;
    fields = λ r q f h. none_some f h;
    narrowed = λ d n h. none_some n h;
  }
