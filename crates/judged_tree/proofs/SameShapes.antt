-- The judgement's test of two shapes tells when they are one.
use Rattle.std.proofs.Common.{◌≡◌, Bool, true, false, ◌&&◌, refl, sym, ap, ap₂, eqb-true, eq-eqb}
use Rattle.std.specs.Prelude.{nat_eq}
use Rattle.ob_types.proofs.Tests.{no, and_of, and_from}
use Rattle.ob_judge.specs.Shapes.{Shape, Integer, Boolean, Char, Byte, Set, Nil, Nothing, Text, Array, Open, Record, Pointer, Procedure, Formals, none, one, bool_eq, same, same_formals}

bool_eq_self : (b : Bool) → bool_eq b b ≡ true
bool_eq_self true = refl
bool_eq_self false = refl

bool_eq_is : (a b : Bool) → bool_eq a b ≡ true → a ≡ b
bool_eq_is true b h = sym h
bool_eq_is false true h = no h
bool_eq_is false false h = refl

mutual
  pub same-self : (s : Shape) → same s s ≡ true
  same-self (Text n) = eq-eqb n n refl
  same-self (Array n a) = and_from (nat_eq n n) (same a a) (eq-eqb n n refl) (same-self a)
  same-self (Open a) = same-self a
  same-self (Record n) = eq-eqb n n refl
  same-self (Pointer n) = eq-eqb n n refl
  same-self (Procedure ps r) = and_from (same_formals ps ps) (same r r) (formals-self ps) (same-self r)
  same-self _ = refl

  pub formals-self : (ps : Formals) → same_formals ps ps ≡ true
  formals-self none = refl
  formals-self (one v s ps) = and_from (bool_eq v v && same s s) (same_formals ps ps) (and_from (bool_eq v v) (same s s) (bool_eq_self v) (same-self s)) (formals-self ps)

mutual
  pub same-is : (s u : Shape) → same s u ≡ true → s ≡ u
  same-is Integer Integer h = refl
  same-is Boolean Boolean h = refl
  same-is Char Char h = refl
  same-is Byte Byte h = refl
  same-is Set Set h = refl
  same-is Nil Nil h = refl
  same-is Nothing Nothing h = refl
  same-is (Text n) (Text m) h = ap (λ k. Text k) (eqb-true n m h)
  same-is (Array n a) (Array m b) h = let g = and_of (nat_eq n m) (same a b) h in ap₂ (λ k s. Array k s) (eqb-true n m g.0) (same-is a b g.1)
  same-is (Open a) (Open b) h = ap (λ s. Open s) (same-is a b h)
  same-is (Record n) (Record m) h = ap (λ k. Record k) (eqb-true n m h)
  same-is (Pointer n) (Pointer m) h = ap (λ k. Pointer k) (eqb-true n m h)
  same-is (Procedure ps a) (Procedure qs b) h = let g = and_of (same_formals ps qs) (same a b) h in ap₂ (λ k s. Procedure k s) (formals-are ps qs g.0) (same-is a b g.1)
  same-is _ _ h = no h

  pub formals-are : (ps qs : Formals) → same_formals ps qs ≡ true → ps ≡ qs
  formals-are none none h = refl
  formals-are (one v a ps) (one u b qs) h =
      let g = and_of (bool_eq v u && same a b) (same_formals ps qs) h in
      let f = and_of (bool_eq v u) (same a b) g.0 in
      joined (bool_eq_is v u f.0) (same-is a b f.1) (formals-are ps qs g.1)
    where
      joined : v ≡ u → a ≡ b → ps ≡ qs → one v a ps ≡ one u b qs
      joined e f g = cc
  formals-are _ _ h = no h
