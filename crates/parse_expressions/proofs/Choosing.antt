-- What is read by a part that stands apart: an alternative of several, or a whole right side.
use Rattle.std.proofs.Common.{refl, ◌≡◌, ℕ, List, [], ◌∷◌, true, false, ap, sym, ◌∙◌, arith, Result, Ok, Err}
use Rattle.ob_grammar.specs.declared.terminal.Terminal.TheVariants as T
use Rattle.ob_grammar.specs.Terminals.{number_of}
use Rattle.ob_grammar.specs.Grammar.{Production, Phrase, part, ◌∣◌, rule, FALSE, NIL, TRUE, char, designator, factor, integer, set, string}
use Rattle.ob_grammar.specs.Reading.{is_in, is_next, first}
use Rattle.ob_syntax.specs.Leaves.{Leaf}
use Rattle.parse_steps.specs.declared.fault.ParseFault.{ParseFault}
use Rattle.parse_steps.specs.Parsing.{State, Parsed, Fails, Gives}
use Rattle.parse_steps.proofs.Steps.{reads_part, reads_left, reads_right, fails_part, fails_left, fails_right}

-- none of some terminals is next where another one is
pub not_first : (F : List ℕ) (k : ℕ) (w : List ℕ) → is_in F k ≡ false → true ≡ is_next (k ∷ []) w → false ≡ is_next F w
not_first F k [] n h = cc
not_first F k (x ∷ w) n h = let e : k ≡ x = grind arith in sym n ∙ ap (is_in F) e

-- a designator is a factor
pub reads_designator : (a b : State) {t : List Leaf} → true ≡ is_next (number_of T.Ident ∷ []) a.rest → Parsed (part designator) a b t → Parsed (part factor) a b t
reads_designator a b {t} here h =
    let none : (F : List ℕ) → is_in F (number_of T.Ident) ≡ false → false ≡ is_next F a.rest = λ F n. not_first F (number_of T.Ident) a.rest n here in
    reads_part (reads_right (none (first integer) refl) (reads_right (none (first string) refl) (reads_right (none (first char) refl) (reads_right (none (first NIL) refl)
    (reads_right (none (first TRUE) refl) (reads_right (none (first FALSE) refl) (reads_right (none (first (part set)) refl) (reads_left here h))))))))

-- and it fails as one
pub fails_designator : (a b : State) {e : ParseFault} → true ≡ is_next (number_of T.Ident ∷ []) a.rest → Fails (part designator) a b e → Fails (part factor) a b e
fails_designator a b {e} here h =
    let none : (F : List ℕ) → is_in F (number_of T.Ident) ≡ false → false ≡ is_next F a.rest = λ F n. not_first F (number_of T.Ident) a.rest n here in
    fails_part (fails_right (none (first integer) refl) (fails_right (none (first string) refl) (fails_right (none (first char) refl) (fails_right (none (first NIL) refl)
    (fails_right (none (first TRUE) refl) (fails_right (none (first FALSE) refl) (fails_right (none (first (part set)) refl) (fails_left here h))))))))

-- a production gives what its right side gives
pub gives_part : {X : Type 0} (p : Production) (text : X → List Leaf) (a b : State) (r : Result X ParseFault) → Gives (rule p) text a b r → Gives (part p) text a b r
gives_part p text a b (Ok x) h = reads_part h
gives_part p text a b (Err e) h = fails_part h

-- an alternative gives what its left side gives, if what that begins with is next
pub gives_left : {X : Type 0} (f g : Phrase) (text : X → List Leaf) (a b : State) (r : Result X ParseFault) → true ≡ is_next (first f) a.rest → Gives f text a b r → Gives (f ∣ g) text a b r
gives_left f g text a b (Ok x) y h = reads_left y h
gives_left f g text a b (Err e) y h = fails_left y h

-- and what its right side gives, if not
pub gives_right : {X : Type 0} (f g : Phrase) (text : X → List Leaf) (a b : State) (r : Result X ParseFault) → false ≡ is_next (first f) a.rest → Gives g text a b r → Gives (f ∣ g) text a b r
gives_right f g text a b (Ok x) n h = reads_right n h
gives_right f g text a b (Err e) n h = fails_right n h
