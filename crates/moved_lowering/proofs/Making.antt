-- Code in the making that is alike but for the places of data.
use Rattle.std.proofs.Common.{◌≡◌, ℕ, List, [], ◌∷◌, ◌++◌, map, refl, sym, ap, ap₂, subst, ◌∙◌}
use Rattle.block_runs.specs.declared.code.Code.TheVariants.{Global}
use Rattle.ssa_lowered.specs.Pieces.{Cursor, Piece, Appends, Closes, Made, Low, ◌>>=◌, emits}
use Rattle.moved_code.specs.Procedures.{unplaced_op}

abbrev pub unplaced_piece : Piece → Piece
unplaced_piece (Appends b i op) = Appends b i (unplaced_op op)
unplaced_piece (Closes b i end start) = Closes b i end start

abbrev pub bare : List Piece → List Piece
bare ps = map unplaced_piece ps

pub bare_append : (ps qs : List Piece) → bare (ps ++ qs) ≡ bare ps ++ bare qs
bare_append [] qs = refl
bare_append (p ∷ ps) qs = ap (λ rs. unplaced_piece p ∷ rs) (bare_append ps qs)

pub both : (ps qs rs ss : List Piece) → bare ps ≡ bare rs → bare qs ≡ bare ss → bare (ps ++ qs) ≡ bare (rs ++ ss)
both ps qs rs ss e g = bare_append ps qs ∙ (ap₂ (λ a b. a ++ b) e g ∙ sym (bare_append rs ss))

-- what is made is the same but for the numbers of Global
pub record AreAlikeMade {A : Type 0} (m n : Made A) : Type 0 where
  pub pieces : bare m.pieces ≡ bare n.pieces
  pub result : m.result ≡ n.result
  pub after : m.after ≡ n.after

pub record AreAlike {A : Type 0} (m n : Low A) : Type 0 where
  pub each : (c : Cursor) → AreAlikeMade (m c) (n c)

pub made_same : {A : Type 0} (m : Made A) → AreAlikeMade m m
made_same m = record { pieces = refl; result = refl; after = refl }

pub alike : {A : Type 0} (m : Low A) → AreAlike m m
alike m = record { each = λ c. made_same (m c) }

pub alike_by : {A : Type 0} (m n : Low A) → m ≡ n → AreAlike m n
alike_by m n e = subst (AreAlike m) e (alike m)

pub and_then : {A B : Type 0} {m n : Low A} {f g : A → Low B} → AreAlike m n → ((a : A) → AreAlike (f a) (g a)) → AreAlike (m >>= f) (n >>= g)
and_then {A} {B} {m} {n} {f} {g} h next = record {
  each = λ c.
      let a = h.each c in
      let b = (next (m c).result).each (m c).after in
      let there : AreAlikeMade (f (m c).result (m c).after) (g (n c).result (n c).after) =
      subst (λ x. AreAlikeMade (f (m c).result (m c).after) (g x (n c).after)) a.result (subst (λ x. AreAlikeMade (f (m c).result (m c).after) (g (m c).result x)) a.after b) in
      record { pieces = both (m c).pieces (f (m c).result (m c).after).pieces (n c).pieces (g (n c).result (n c).after).pieces a.pieces there.pieces; result = there.result; after = there.after };
}

pub same_behind : {A B : Type 0} {m n : Low A} (f : A → Low B) → AreAlike m n → AreAlike (m >>= f) (n >>= f)
same_behind f h = and_then h (λ a. alike (f a))

pub globals : (a b : ℕ) → AreAlike (emits (Global a) []) (emits (Global b) [])
globals a b = record { each = λ c. record { pieces = refl; result = refl; after = refl } }
