-- That escaped bytes stay text.
use Rattle.std.proofs.Common.{◌≡◌, ◌==◌, ◌||◌, ◌&&◌, not, ℕ, Bool, true, false, List, [], ◌∷◌, ◌++◌, refl, sym, ◌∙◌, subst, append_assoc, if◌then◌else◌}
use Rattle.std.specs.List.{list_all}
use Rattle.std.proofs.lemmas.List.Folds.{list_all-append}
use Rattle.html_text.specs.Escapes.{is_printed, escaped_byte, escaped}
use Rattle.html_text.specs.Texts.{is_harmless, IsEntity, And, Less, Greater, Quote, Apostrophe, Unknown, IsHtmlText, Empty, Plain, Entity}

---- One byte

-- what holds of each choice holds of the chosen
chosen : (P : List ℕ → Type 0) (test : Bool) (x y : List ℕ) → (test ≡ true → P x) → (test ≡ false → P y) → P (if test then x else y)
chosen P true x y f g = f refl
chosen P false x y f g = g refl

plain_is : (printed a b c d e : Bool) → printed ≡ true → a ≡ false → b ≡ false → c ≡ false → d ≡ false → e ≡ false → ((printed && not (a || b || c || d)) && not e) ≡ true
plain_is printed a b c d e h i j k l m = rw h (rw i (rw j (rw k (rw l (rw m refl)))))

entity : (name : List ℕ) → IsEntity name → IsHtmlText (name ++ [])
entity name is = Entity name [] is Empty

pub byte_is_text : (b : ℕ) → IsHtmlText (escaped_byte b)
byte_is_text b =
    chosen IsHtmlText (b == 38) _ _ (λ _. entity _ And) (λ no_and.
    chosen IsHtmlText (b == 60) _ _ (λ _. entity _ Less) (λ no_less.
    chosen IsHtmlText (b == 62) _ _ (λ _. entity _ Greater) (λ no_greater.
    chosen IsHtmlText (b == 34) _ _ (λ _. entity _ Quote) (λ no_quote.
    chosen IsHtmlText (b == 39) _ _ (λ _. entity _ Apostrophe) (λ no_apostrophe.
    chosen IsHtmlText (is_printed b) _ _ (λ printed. Plain b [] (plain_is (is_printed b) (b == 60) (b == 62) (b == 34) (b == 39) (b == 38) printed no_less no_greater no_quote no_apostrophe no_and) Empty) (λ _. entity _ Unknown))))))

---- Joined texts

pub joined_is_text : (a b : List ℕ) → IsHtmlText a → IsHtmlText b → IsHtmlText (a ++ b)
joined_is_text a b Empty h = h
joined_is_text a b (Plain c rest is text) h = Plain c (rest ++ b) is (joined_is_text rest b text h)
joined_is_text a b (Entity name rest is text) h = subst IsHtmlText (sym (append_assoc name rest b)) (Entity name (rest ++ b) is (joined_is_text rest b text h))

pub escaped_is_text : (bytes : List ℕ) → IsHtmlText (escaped bytes)
escaped_is_text [] = Empty
escaped_is_text (b ∷ bs) = joined_is_text (escaped_byte b) (escaped bs) (byte_is_text b) (escaped_is_text bs)

---- Harmless bytes

both : (a b : Bool) → a ≡ true → b ≡ true → (a && b) ≡ true
both a b h i = rw h i

harmless_entity : (name : List ℕ) → IsEntity name → list_all is_harmless name ≡ true
harmless_entity name And = refl
harmless_entity name Less = refl
harmless_entity name Greater = refl
harmless_entity name Quote = refl
harmless_entity name Apostrophe = refl
harmless_entity name Unknown = refl

first_of_both : (a b : Bool) → (a && b) ≡ true → a ≡ true
first_of_both true b h = refl
first_of_both false b h = h

pub text_is_harmless : (a : List ℕ) → IsHtmlText a → list_all is_harmless a ≡ true
text_is_harmless a Empty = refl
text_is_harmless a (Plain b rest is text) = both (is_harmless b) (list_all is_harmless rest) (first_of_both (is_harmless b) (not (b == 38)) is) (text_is_harmless rest text)
text_is_harmless a (Entity name rest is text) =
    list_all-append is_harmless name rest ∙ both (list_all is_harmless name) (list_all is_harmless rest) (harmless_entity name is) (text_is_harmless rest text)
