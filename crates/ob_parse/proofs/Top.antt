-- From the parts to the whole.
use Rattle.std.proofs.Common.{◌≡◌, ℕ, suc, List, [], ◌∷◌, ◌++◌, true, false, length, take, refl, sym, ap, ◌∙◌, subst, arith, Result, Err, IfErr}
use Rattle.std.proofs.lemmas.List.{append-nil}
use Rattle.std.proofs.lemmas.Result.{err_from_is_err_and}
use Rattle.std.specs.Result.{IsErrAnd}
use Rattle.ob_grammar.specs.Grammar.{part, module_}
use Rattle.ob_grammar.specs.Trees.{Token, terminals}
use Rattle.ob_grammar.specs.Reading.{Wrong, Whole, Stops, all_read, too_much}
use Rattle.ob_grammar.specs.Modules.{IsModule, Shallow, IsWrong}
use Rattle.ob_grammar.proofs.Answers.{is_wrong, is_deep, is_shallow}
use Rattle.ob_syntax.specs.declared.modules.Module.{Module}
use Rattle.ob_syntax.specs.Leaves.{Leaf, numbered}
use Rattle.ob_syntax.specs.ModuleText.{module_text}
use Rattle.parse_steps.specs.declared.fault.ParseFault.{ParseFault}
use Rattle.parse_steps.specs.declared.fault.ParseFault.TheVariants.{Syntax, TooDeep, Memory}
use Rattle.parse_steps.specs.Parsing.{State, Parsed, Fails, is_none}
use Rattle.ob_parse.specs.Judged.{IsTree, IsFault, IsTaken}

-- a parser at its beginning
abbrev pub start : List ℕ → State
start w = record { rest = w; at = 0; level = 0 }

-- where reading a module stops, in words of modules
stops_as_fault : (w : List ℕ) (b : State) (e : ParseFault) → Fails (part module_) (start w) b e → IsFault w e
stops_as_fault w b (Syntax at) h = is_wrong w b.rest at (h.stops.by []) (let p = h.stops.place in let q = h.stops.whole in omega arith)
stops_as_fault w b (TooDeep at) h = is_deep w b.rest at (h.stops.by []) (let p = h.stops.place in let q = h.stops.whole in omega arith)
stops_as_fault w b Memory h = tt

-- the same, for a parser that stands at the beginning
pub fault_of : (w : List ℕ) (a b : State) (e : ParseFault) → a ≡ start w → Fails (part module_) a b e → IsFault w e
fault_of w a b e h f = stops_as_fault w b e (subst (λ (z : State). Fails (part module_) z b e) h f)

-- what the exit of a `?` answers has its fault
pub err_fault : (w : List ℕ) (e : ParseFault) (r : Result Module ParseFault) → IsErrAnd r (λ x. x ≡ e) → IsFault w e → IfErr r (λ x. IsFault w x)
err_fault w e r h f =
    let x = err_from_is_err_and r h in
    subst (λ (z : Result Module ParseFault). IfErr z (λ y. IsFault w y)) (sym x.1) (subst (IsFault w) (sym x.2) f)

-- a fault other than want of memory excludes a tree
pub not_taken : (w : List ℕ) (e : ParseFault) → IsFault w e → (v : List Token) → IsModule v → terminals v ≡ w → Shallow v (length w) → IsTaken (Err e)
not_taken w (Syntax at) f v x h s = f.none v x h
not_taken w (TooDeep at) f v x h s =
    let a = f.level v x (ap (take (suc at)) h) in
    let b = s at f.within in
    let c = a.0 in
    absurd (omega arith)
not_taken w Memory f v x h s = tt

-- the same of what the exit of a `?` answers
pub err_only : (w : List ℕ) (e : ParseFault) (r : Result Module ParseFault) → IsErrAnd r (λ x. x ≡ e) → IsFault w e → (v : List Token) → IsModule v → terminals v ≡ w → Shallow v (length w) → IsTaken r
err_only w e r h f v x k s =
    let y = err_from_is_err_and r h in
    subst IsTaken (sym y.1) (subst (λ (z : ParseFault). IsTaken (Err z)) (sym y.2) (not_taken w e f v x k s))

-- nothing is ahead
none_there : (w : List ℕ) → true ≡ is_none w → w ≡ []
none_there [] h = refl
none_there (x ∷ w) h = cc

-- something is ahead
some_there : (w : List ℕ) → false ≡ is_none w → (x : ℕ) × (v : List ℕ) × (w ≡ x ∷ v)
some_there [] h = cc
some_there (x ∷ w) h = (x, w, refl)

-- a module was read up to the end
tree_at : (w : List ℕ) (b : State) (m : Module) → Parsed (part module_) (start w) b (module_text m) → b.rest ≡ [] → IsTree w m
tree_at w b m h e = record {
  text = sym (h.text ∙ (ap (λ z. module_text m ++ numbered b.at z) e ∙ append-nil (module_text m)));
  shallow = is_shallow w (h.by [] [] Whole (subst (λ z. Stops [] z [] Whole) (sym e) all_read));
}

-- the same, for a parser that stood at the beginning
pub tree_of : (w : List ℕ) (a b : State) (m : Module) → a ≡ start w → Parsed (part module_) a b (module_text m) → true ≡ is_none b.rest → IsTree w m
tree_of w a b m h k e = tree_at w b m (subst (λ (z : State). Parsed (part module_) z b (module_text m)) h k) (none_there b.rest e)

-- a module was read and more is ahead
wrong_at : (w : List ℕ) (b : State) (t : List Leaf) (at : ℕ) → Parsed (part module_) (start w) b t → false ≡ is_none b.rest → at ≡ b.at → IsWrong w at
wrong_at w b t at h e p =
    let x = some_there b.rest e in
    is_wrong w b.rest at (h.by [] b.rest Wrong (subst (λ z. Stops [] z z Wrong) (sym x.2) too_much)) (let q = h.whole in omega arith)

-- the same, for a parser that stood at the beginning
pub wrong_of : (w : List ℕ) (a b : State) (t : List Leaf) (at : ℕ) → a ≡ start w → Parsed (part module_) a b t → false ≡ is_none b.rest → at ≡ b.at → IsWrong w at
wrong_of w a b t at h k e p = wrong_at w b t at (subst (λ (z : State). Parsed (part module_) z b t) h k) e p
