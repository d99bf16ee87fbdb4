-- Files come to one thing, where what is held is told.
use Rattle.std.proofs.Common.{◌≡◌, ◌<◌, ◌⊎◌, ℕ, zero, suc, List, [], ◌∷◌, length, take, Some, None, refl, ap, ap₂, ◌∙◌, subst, arith, inl, inr}
use Rattle.std.specs.Prelude.{slice_get}
use Rattle.outside.specs.Files.{Held}
use Rattle.trc_answers.specs.Reading.{most_bytes, IsRead, AreRead, AreTextsOf, IsReached, FilesComeTo, AreTooMany, LacksOne, HasALongOne, HaveTexts}
use Rattle.trc_answers.specs.Verdict.{Verdict, Refuses}
use Rattle.trc_answers.specs.declared.causes.Cause.TheVariants.{NoSuchFile, Limit}
use Rattle.trc_cli.specs.Laws.{Alike}
use Rattle.trc_cli.proofs.Same.{both, two}
use Rattle.batch_jobs.proofs.Once.{some_is}
use Rattle.batch_jobs.proofs.Once.{some_none}

module _ (held : Held) where
  -- the file of this name isn't there, or is too long
  abbrev Fails : List ℕ → Type 0
  Fails name = (held name ≡ None) ⊎ ((text : List ℕ) × (held name ≡ Some text) × (most_bytes < length text))

  read_or_fails : (name text : List ℕ) → IsRead (Some held) name text → Fails name → ⊥
  read_or_fails name text r (inl none) = some_none text (held name) r.is none
  read_or_fails name text r (inr f) = let few = r.within in let long = f.2 in let same = ap length (some_is text f.0 (held name) r.is f.1) in omega (arith, few, long, same)

  -- each name of which the text is read is one whose file doesn't fail
  read_at : (names texts : List (List ℕ)) (n : ℕ) (name : List ℕ) → AreRead (Some held) names texts → slice_get names n ≡ Some name → Fails name → ⊥
  read_at [] texts zero name h e f = absurd (let z = e in cc)
  read_at [] texts (suc n) name h e f = absurd (let z = e in cc)
  read_at (x ∷ names) [] n name h e f = absurd h
  read_at (x ∷ names) (t ∷ texts) zero name h e f = let same : x ≡ name = cc in read_or_fails name t (subst (λ k. IsRead (Some held) k t) same h.0) f
  read_at (x ∷ names) (t ∷ texts) (suc n) name h e f = read_at names texts n name h.1 e f

  taken_at : (names : List (List ℕ)) (n m : ℕ) (name : List ℕ) → n < m → slice_get names n ≡ Some name → slice_get (take m names) n ≡ Some name
  taken_at [] zero m name l e = absurd (let z = e in cc)
  taken_at [] (suc n) m name l e = absurd (let z = e in cc)
  taken_at (x ∷ names) n zero name l e = absurd (omega (arith, l))
  taken_at (x ∷ names) zero (suc m) name l e = e
  taken_at (x ∷ names) (suc n) (suc m) name l e = taken_at names n m name (omega (arith, l)) e

  ordered : (n m : ℕ) → (n ≡ m) ⊎ ((n < m) ⊎ (m < n))
  ordered n m = grind arith

  -- the first name whose file fails has one number
  one_number : (names : List (List ℕ)) (n m : ℕ) (x y : List ℕ) → IsReached (Some held) names n x → IsReached (Some held) names m y → Fails x → Fails y → (n ≡ m) ⊎ ((n < m) ⊎ (m < n)) → n ≡ m
  one_number names n m x y r s f g (inl e) = e
  one_number names n m x y r s f g (inr (inl l)) = absurd (read_at (take m names) s.texts n x s.before (taken_at names n m x l r.is) f)
  one_number names n m x y r s f g (inr (inr l)) = absurd (read_at (take n names) r.texts m y r.before (taken_at names m n y l s.is) g)

  same_number : (names : List (List ℕ)) (n m : ℕ) (x y : List ℕ) → IsReached (Some held) names n x → IsReached (Some held) names m y → Fails x → Fails y → n ≡ m
  same_number names n m x y r s f g = one_number names n m x y r s f g (ordered n m)

  same_name : (names : List (List ℕ)) (n m : ℕ) (x y : List ℕ) → IsReached (Some held) names n x → IsReached (Some held) names m y → Fails x → Fails y → x ≡ y
  same_name names n m x y r s f g = some_is x y (slice_get names n) r.is (ap (slice_get names) (same_number names n m x y r s f g) ∙ s.is)

  -- texts that are read are one list
  texts_same : (names ts us : List (List ℕ)) → AreRead (Some held) names ts → AreRead (Some held) names us → ts ≡ us
  texts_same [] [] [] h k = refl
  texts_same [] [] (u ∷ us) h k = absurd k
  texts_same [] (t ∷ ts) us h k = absurd h
  texts_same (x ∷ names) [] us h k = absurd h
  texts_same (x ∷ names) (t ∷ ts) [] h k = absurd k
  texts_same (x ∷ names) (t ∷ ts) (u ∷ us) h k = ap₂ (λ z zs. z ∷ zs) (some_is t u (held x) h.0.is k.0.is) (texts_same names ts us h.1 k.1)

  module _ (names : List (List ℕ)) (next : List (List ℕ) → Verdict → Type 0) where
    -- where all files are read, nothing else is said of them
    pub texts_there : (texts : List (List ℕ)) (v : Verdict) → AreTextsOf (Some held) names texts → FilesComeTo (Some held) names next v → next texts v
    texts_there texts v are (AreTooMany many e) = let few = are.few in absurd (omega (arith, few, many))
    texts_there texts v are (LacksOne number name reached none e) = absurd (read_at names texts number name are.read reached.is (inl none))
    texts_there texts v are (HasALongOne number name text reached is long e) = absurd (read_at names texts number name are.read reached.is (inr (text, is, long)))
    texts_there texts v are (HaveTexts others also h) = subst (λ ts. next ts v) (texts_same names others texts also.read are.read) h

    pub files_once : (a b : Verdict) → ((texts : List (List ℕ)) → next texts a → next texts b → Alike a b) → FilesComeTo (Some held) names next a → FilesComeTo (Some held) names next b → Alike a b
    files_once a b one (HaveTexts texts are h) k = one texts h (texts_there texts b are k)
    files_once a b one h (HaveTexts texts are k) = one texts (texts_there texts a are h) k
    files_once a b one (AreTooMany many e) (AreTooMany many' e') = both a b _ e e'
    files_once a b one (AreTooMany many e) (LacksOne number name reached none e') = let few = reached.few in absurd (omega (arith, few, many))
    files_once a b one (AreTooMany many e) (HasALongOne number name text reached is long e') = let few = reached.few in absurd (omega (arith, few, many))
    files_once a b one (LacksOne number name reached none e) (AreTooMany many e') = let few = reached.few in absurd (omega (arith, few, many))
    files_once a b one (HasALongOne number name text reached is long e) (AreTooMany many e') = let few = reached.few in absurd (omega (arith, few, many))
    files_once a b one (LacksOne n x r none e) (LacksOne m y s none' e') = two a b _ _ (ap (λ k. Refuses (NoSuchFile k)) (same_number names n m x y r s (inl none) (inl none'))) e e'
    files_once a b one (LacksOne n x r none e) (HasALongOne m y text s is long e') =
        absurd (some_none text (held y) is (subst (λ k. held k ≡ None) (same_name names n m x y r s (inl none) (inr (text, is, long))) none))
    files_once a b one (HasALongOne n x text r is long e) (LacksOne m y s none e') =
        absurd (some_none text (held y) (subst (λ k. held k ≡ Some text) (same_name names n m x y r s (inr (text, is, long)) (inl none)) is) none)
    files_once a b one (HasALongOne n x text r is long e) (HasALongOne m y other s is' long' e') =
        two a b _ _ (ap (λ k. Refuses (Limit 55 k)) (same_number names n m x y r s (inr (text, is, long)) (inr (other, is', long')))) e e'
