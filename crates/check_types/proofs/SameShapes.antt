-- Shapes that are the same are equal.
use Rattle.std.proofs.Common.{◌≡◌, Bool, true, false, ◌&&◌, nat_eq, refl, sym, ap, ap₂}
use Rattle.std.proofs.lemmas.Bool.{eqb-true}
use Rattle.ob_judge.specs.Shapes.{Shape, Integer, Boolean, Char, Byte, Set, Nil, Nothing, Text, Array, Open, Record, Pointer, Procedure, Formals, none, one, same, same_formals, bool_eq}

pub both : (x y : Bool) → (x && y) ≡ true → (x ≡ true) × (y ≡ true)
both true y h = (refl, h)
both false y h = cc

bools : (a b : Bool) → bool_eq a b ≡ true → a ≡ b
bools true b h = sym h
bools false true h = cc
bools false false h = refl

mutual
  pub same_true : (a b : Shape) → same a b ≡ true → a ≡ b
  same_true Integer Integer h = refl
  same_true Boolean Boolean h = refl
  same_true Char Char h = refl
  same_true Byte Byte h = refl
  same_true Set Set h = refl
  same_true Nil Nil h = refl
  same_true Nothing Nothing h = refl
  same_true (Text n) (Text m) h = ap Text (eqb-true n m h)
  same_true (Array n a) (Array m b) h = ap₂ Array (eqb-true n m (both (nat_eq n m) (same a b) h).0) (same_true a b (both (nat_eq n m) (same a b) h).1)
  same_true (Open a) (Open b) h = ap Open (same_true a b h)
  same_true (Record n) (Record m) h = ap Record (eqb-true n m h)
  same_true (Pointer n) (Pointer m) h = ap Pointer (eqb-true n m h)
  same_true (Procedure ps a) (Procedure qs b) h = ap₂ Procedure (formals_true ps qs (both (same_formals ps qs) (same a b) h).0) (same_true a b (both (same_formals ps qs) (same a b) h).1)
  same_true a b h = cc

  formals_true : (ps qs : Formals) → same_formals ps qs ≡ true → ps ≡ qs
  formals_true none none h = refl
  formals_true (one v a ps) (one u b qs) h =
      let x = both (bool_eq v u && same a b) (same_formals ps qs) h in
      let y = both (bool_eq v u) (same a b) x.0 in
      ap₂ (λ (p : Bool × Shape) (rest : Formals). one p.0 p.1 rest) (ap₂ (λ (w : Bool) (c : Shape). (w, c)) (bools v u y.0) (same_true a b y.1)) (formals_true ps qs x.1)
  formals_true ps qs h = cc
