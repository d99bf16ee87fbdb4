-- Constants that are known are in range where those that names stand for are.
use Rattle.std.proofs.Common.{◌≡◌, ℕ, List, [], ◌∷◌, Bool, true, false, ◌&&◌, Option, Some, None, refl, subst}
use Rattle.std.specs.Prelude.{if◌then◌else◌, slice_get}
use Rattle.std.specs.Str.{bytes_eq}
use Rattle.ob_types.proofs.Tests.{no, none_some, some_same}
use Rattle.ob_judge.specs.Shapes.{Boolean}
use Rattle.ob_judge.specs.Image as I
use Rattle.ob_judge.specs.Scopes.{Object, AConstant, AType, AVariable, AProcedure, AStandard, AModule, Imported, TheOut, TheIn, Earlier, Entry, KnownModule, World, Source}
use Rattle.ob_judge.specs.Scopes as J
use Rattle.ob_judge.specs.Standards as Standards
use Rattle.ob_judge.specs.Names.{names_in}
use Rattle.ob_judge.specs.Names as Names
use Rattle.judged_outlines.specs.ends.Ends.{ObjectInRange, NamesInRange}
use Rattle.judged_outlines.proofs.ends.Constants.{Right}
use Rattle.judged_outlines.proofs.ends.Onward.{HasRanges, looked_up}

-- names of which none is a constant
abbrev is_no_constant : Object → Bool
is_no_constant (AConstant c) = false
is_no_constant o = true

abbrev have_no_constant : List (List ℕ × Object) → Bool
have_no_constant [] = true
have_no_constant (x ∷ xs) = is_no_constant x.1 && have_no_constant xs

no_constant : (o : Object) → is_no_constant o ≡ true → ObjectInRange o
no_constant (AConstant c) h = no h
no_constant (AType s) h = tt
no_constant (AVariable v) h = tt
no_constant (AProcedure n s l) h = tt
no_constant (AStandard s) h = tt
no_constant (AModule m) h = tt

listed_by : (y : List ℕ × Object) (ys : List (List ℕ × Object)) (q : List ℕ) (x : Entry) → (have_no_constant ys ≡ true → Standards.names_of ys q ≡ Some x → ObjectInRange x.object) →
    (a b : Bool) → is_no_constant y.1 ≡ a → (a && have_no_constant ys) ≡ true → (if b then Some (record { object = y.1; exported = true }) else Standards.names_of ys q) ≡ Some x → ObjectInRange x.object
listed_by y ys q x rest true true i k is = subst (λ z. ObjectInRange z.object) (some_same (record { object = y.1; exported = true }) x is) (no_constant y.1 i)
listed_by y ys q x rest true false i k is = rest k is
listed_by y ys q x rest false b i k is = no k

listed : (xs : List (List ℕ × Object)) → have_no_constant xs ≡ true → NamesInRange (Standards.names_of xs)
listed [] h q x is = none_some x is
listed (y ∷ ys) h q x is = listed_by y ys q x (λ k. listed ys k q x) (is_no_constant y.1) (bytes_eq y.0 q) refl h is

earlier : (p : Source) (w : World) → HasRanges w → (n : ℕ) → NamesInRange (names_in (slice_get w.modules n))
earlier p w h n = by (slice_get w.modules n) refl
  where
    by : (o : Option KnownModule) → slice_get w.modules n ≡ o → NamesInRange (names_in o)
    by None e q x is = none_some x is
    by (Some m) e q x is = h.members n m e q x is

pub right_here : (p : Source) (w : World) → HasRanges w → Right p (record w { constant = true })
right_here p w h = record { names = λ q x is. looked_up ObjectInRange q x w.levels h.names is; members = of_module }
  where
    of_module : (m : Imported) → NamesInRange (Names.names_of p (record w { constant = true }) m)
    of_module TheOut = listed (
        (67 ∷ 104 ∷ 97 ∷ 114 ∷ [], AStandard J.OutChar) ∷
        (73 ∷ 110 ∷ 116 ∷ [], AStandard J.OutInt) ∷
        (83 ∷ 116 ∷ 114 ∷ 105 ∷ 110 ∷ 103 ∷ [], AStandard J.OutString) ∷
        (76 ∷ 110 ∷ [], AStandard J.OutLn) ∷
        []) refl
    of_module TheIn = listed (
        (67 ∷ 104 ∷ 97 ∷ 114 ∷ [], AStandard J.InChar) ∷
        (68 ∷ 111 ∷ 110 ∷ 101 ∷ [], AVariable (record { shape = Boolean; place = I.Done; home = J.ReadOnly; owner = 0; procedure = None })) ∷
        []) refl
    of_module (Earlier n) = earlier p w h n
