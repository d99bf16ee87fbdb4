-- That all types have numbers, where only that it holds is kept.
use Rattle.std.proofs.Common.{◌≡◌, ℕ, zero, suc, ◌<◌, List, [], ◌∷◌, length, Bool, true, false, ◌||◌, nat_eq, Option, Some, None, slice_get, refl, sym, ap, subst, eqb-true, eq-eqb}
use Rattle.std.proofs.Math.Bool.{Bool-set}
use Rattle.std.proofs.Math.Logic.{∥∥₁_elim}
use Rattle.std.proofs.lemmas.Option.{same_Some, none-some}
use Rattle.check_types.specs.declared.table.TypeTable.{TypeTable}
use Rattle.check_types.specs.declared.types.TypeRef.{TypeRef}
use Rattle.check_types.specs.declared.types.TypeRef.TheVariants as TheType
use Rattle.table_builder.specs.Entries.{IsNumbered}
use Rattle.check_procedures.specs.numbers.Numbering.{NumbersAll}

-- the type is that of this signature
abbrev is_of : ℕ → TypeRef → Bool
is_of g (TheType.Procedure h) = nat_eq g h
is_of g of = false

-- one of the types is
abbrev is_among : ℕ → List TypeRef → Bool
is_among g [] = false
is_among g (of ∷ more) = is_of g of || is_among g more

-- there is a type, that of no result
abbrev is_nothing : Option TypeRef → Bool
is_nothing (Some TheType.Nothing) = true
is_nothing of = false

-- the same by tests, so that there is one proof at most
record AreFound (t : TypeTable) : Type 0 where
  nothing : is_nothing (slice_get t.entries.items 5) ≡ true
  procedures : (g : ℕ) → g < length t.types.signatures → is_among g t.entries.items ≡ true

of_itself : (g : ℕ) (of : TypeRef) → of ≡ TheType.Procedure g → is_of g of ≡ true
of_itself g of e = subst (λ x. is_of g x ≡ true) (sym e) (eq-eqb g g refl)

is_itself : (g : ℕ) (of : TypeRef) → is_of g of ≡ true → of ≡ TheType.Procedure g
is_itself g (TheType.Procedure h) e = ap TheType.Procedure (sym (eqb-true g h e))
is_itself g TheType.Int e = absurd (let z : ⊥ = cc in z)
is_itself g TheType.Bool e = absurd (let z : ⊥ = cc in z)
is_itself g TheType.Char e = absurd (let z : ⊥ = cc in z)
is_itself g TheType.Byte e = absurd (let z : ⊥ = cc in z)
is_itself g TheType.Set e = absurd (let z : ⊥ = cc in z)
is_itself g TheType.Nil e = absurd (let z : ⊥ = cc in z)
is_itself g TheType.Nothing e = absurd (let z : ⊥ = cc in z)
is_itself g (TheType.Text n) e = absurd (let z : ⊥ = cc in z)
is_itself g (TheType.Array n k) e = absurd (let z : ⊥ = cc in z)
is_itself g (TheType.Open k) e = absurd (let z : ⊥ = cc in z)
is_itself g (TheType.Record r) e = absurd (let z : ⊥ = cc in z)
is_itself g (TheType.Pointer p) e = absurd (let z : ⊥ = cc in z)

is_there : (o : Option TypeRef) → is_nothing o ≡ true → o ≡ Some TheType.Nothing
is_there (Some TheType.Nothing) e = refl
is_there None e = absurd (let z : ⊥ = cc in z)
is_there (Some TheType.Int) e = absurd (let z : ⊥ = cc in z)
is_there (Some TheType.Bool) e = absurd (let z : ⊥ = cc in z)
is_there (Some TheType.Char) e = absurd (let z : ⊥ = cc in z)
is_there (Some TheType.Byte) e = absurd (let z : ⊥ = cc in z)
is_there (Some TheType.Set) e = absurd (let z : ⊥ = cc in z)
is_there (Some TheType.Nil) e = absurd (let z : ⊥ = cc in z)
is_there (Some (TheType.Text n)) e = absurd (let z : ⊥ = cc in z)
is_there (Some (TheType.Array n k)) e = absurd (let z : ⊥ = cc in z)
is_there (Some (TheType.Open k)) e = absurd (let z : ⊥ = cc in z)
is_there (Some (TheType.Record r)) e = absurd (let z : ⊥ = cc in z)
is_there (Some (TheType.Pointer p)) e = absurd (let z : ⊥ = cc in z)
is_there (Some (TheType.Procedure g)) e = absurd (let z : ⊥ = cc in z)

found_there : (b c : Bool) → c ≡ true → (b || c) ≡ true
found_there true c e = refl
found_there false c e = e

found : (g : ℕ) (entries : List TypeRef) (n : ℕ) → slice_get entries n ≡ Some (TheType.Procedure g) → is_among g entries ≡ true
found g [] n e = absurd (none-some (TheType.Procedure g) e)
found g (of ∷ more) zero e = subst (λ b. (b || is_among g more) ≡ true) (sym (of_itself g of (same_Some of (TheType.Procedure g) e))) refl
found g (of ∷ more) (suc n) e = found_there (is_of g of) (is_among g more) (found g more n e)

here_or_there : (g : ℕ) (of : TypeRef) (more : List TypeRef) (b : Bool) → is_of g of ≡ b → (b || is_among g more) ≡ true
    → (is_among g more ≡ true → IsNumbered more (TheType.Procedure g)) → IsNumbered (of ∷ more) (TheType.Procedure g)
here_or_there g of more true is e rest = (0, ap Some (is_itself g of is))
here_or_there g of more false is e rest = let n = rest e in (suc n.0, n.1)

numbered : (g : ℕ) (entries : List TypeRef) → is_among g entries ≡ true → IsNumbered entries (TheType.Procedure g)
numbered g [] e = absurd (let z : ⊥ = cc in z)
numbered g (of ∷ more) e = here_or_there g of more (is_of g of) refl e (numbered g more)

module _ (t : TypeTable) where
  are_found : NumbersAll t → AreFound t
  are_found h = record { nothing = ap is_nothing h.nothing; procedures = λ g l. let n = h.procedures g l in found g t.entries.items n.0 n.1 }

  are_numbered : AreFound t → NumbersAll t
  are_numbered h = record { nothing = is_there (slice_get t.entries.items 5) h.nothing; procedures = λ g l. numbered g t.entries.items (h.procedures g l) }

  pub numbers_again : ∥ NumbersAll t ∥₁ → NumbersAll t
  numbers_again h = are_numbered (∥∥₁_elim h (hlevel (Bool-set)) are_found)
