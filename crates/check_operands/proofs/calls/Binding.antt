-- Arguments that are bound to parameters one after the other.
use Rattle.std.proofs.Common.{◌≡◌, ℕ, ◌+◌, ◌<◌, ◌≤◌, List, [], ◌∷◌, ◌++◌, length, drop, get_or, Vec, Global, Bool, true, false, nat_eq, Option, Some, None, Result, Ok, Err, refl, sym, ap, ◌∙◌, subst, arith}
use Rattle.std.proofs.lemmas.List.{drop_more, drop_all}
use Rattle.std.proofs.Math.Dec.{eqb-suc-suc}
use Rattle.ob_types.specs.declared.types.Formal.{Formal}
use Rattle.ob_types.specs.declared.tree.Argument.{Argument}
use Rattle.ob_judge.specs.Judged.{Judged, Keeps, Breaks, ◌>>=◌, ◌>>◌, rule}
use Rattle.ob_judge.specs.Shapes.{Shape, Formals, none, one}
use Rattle.ob_judge.specs.Image as I
use Rattle.ob_judge.specs.Scopes.{World}
use Rattle.ob_judge.specs.Calls as J
use Rattle.ob_judge.specs.Operands.{Operand, What, Named, Valued, Chars, Code, Proper, designator_of}
use Rattle.judged_tree.specs.TypeShapes.{shape_at, formals_shape}
use Rattle.judged_tree.specs.Plain.{plain_argument}
use Rattle.judged_tree.specs.Outline.{outlined_argument, outlined_arguments}
use Rattle.check_operands.specs.trees.Lists.{each_argument}
use Rattle.check_types.specs.steps.Answers.{Answers}
use Rattle.check_types.specs.declared.steps.fault.CheckFault.{CheckFault}
use Rattle.check_types.specs.declared.steps.fault.CheckFault.TheVariants.{Fault}
use Rattle.check_types.proofs.steps.Answering.{stop, broken, as_judged}
use Rattle.check_types.proofs.Rounds.{eqb_false}
use Rattle.check_types.specs.declared.names.scope.Scope.{Scope}
use Rattle.check_types.specs.names.Worlds.{table_of}
use Rattle.check_operands.specs.Operands.{texts_of, bases_of}
use Rattle.check_operands.specs.declared.calls.arguments.Given.{Given}
use Rattle.check_operands.specs.calls.Given.{IsGiven, AreGiven, IsArgument, AreArguments, code_in}

pub then_then : {A B C : Type 0} (m : Judged A) (f : A → Judged B) (g : B → Judged C) → (m >>= λ a. f a >>= g) ≡ ((m >>= f) >>= g)
then_then (Keeps a) f g = refl
then_then (Breaks n at) f g = refl

pub kept_on : {A : Type 0} (m : Judged A) → m ≡ (m >>= λ a. Keeps a)
kept_on (Keeps a) = refl
kept_on (Breaks n at) = refl

pub alike : {A B : Type 0} (m : Judged A) (f g : A → Judged B) → ((a : A) → f a ≡ g a) → (m >>= f) ≡ (m >>= g)
alike (Keeps a) f g h = h a
alike (Breaks n at) f g h = refl

-- what an answer comes to
settled : {A B : Type 0} {S : B → A → Type 0} {b : B} (m : Judged A) → Answers S m (Ok b) → (a : A) × (m ≡ Keeps a) × S b a
settled (Keeps a) h = (a, refl, h.by)
settled (Breaks n at) h = absurd h.by

-- these arguments and then those
abbrev pub listed : List I.Argument → I.Arguments → I.Arguments
listed [] bs = bs
listed (a ∷ made) bs = I.next_argument a (listed made bs)

listed_more : (made : List I.Argument) (a : I.Argument) (bs : I.Arguments) → listed (made ++ a ∷ []) bs ≡ listed made (I.next_argument a bs)
listed_more [] a bs = refl
listed_more (b ∷ made) a bs = ap (I.next_argument b) (listed_more made a bs)

abbrev pub AreListed : Scope → List Argument → List I.Argument → Type 0
AreListed s [] [] = Unit {0}
AreListed s (x ∷ xs) (a ∷ bs) = IsArgument s x a × AreListed s xs bs
AreListed s xs bs = ⊥

listed_last : (s : Scope) (xs : List Argument) (made : List I.Argument) (x : Argument) (a : I.Argument) → AreListed s xs made → IsArgument s x a → AreListed s (xs ++ x ∷ []) (made ++ a ∷ [])
listed_last s [] [] x a h k = (k, tt)
listed_last s [] (b ∷ made) x a h k = absurd h
listed_last s (y ∷ xs) [] x a h k = absurd h
listed_last s (y ∷ xs) (b ∷ made) x a h k = (h.0, listed_last s xs made x a h.1 k)

listed_all : (s : Scope) (xs : List Argument) (made : List I.Argument) → AreListed s xs made → each_argument (table_of s) (texts_of s) xs ≡ outlined_arguments (bases_of s) (listed made I.no_argument)
listed_all s [] [] h = refl
listed_all s [] (b ∷ made) h = absurd h
listed_all s (y ∷ xs) [] h = absurd h
listed_all s (y ∷ xs) (b ∷ made) h =
    ap (λ z. I.next_argument z (each_argument (table_of s) (texts_of s) xs)) h.0
    ∙ ap (I.next_argument (outlined_argument (bases_of s) b)) (listed_all s xs made h.1)

-- given arguments: the first and the others
pub record First (s : Scope) (x : Given) (rest : List Given) (xs : List J.Given) : Type 0 where
  pub first : J.Given
  pub others : List J.Given
  pub is : xs ≡ first ∷ others
  pub given : IsGiven s x first
  pub rests : AreGiven s rest others

pub first_given : (s : Scope) (x : Given) (rest : List Given) (xs : List J.Given) → AreGiven s (x ∷ rest) xs → First s x rest xs
first_given s x rest [] h = absurd h
first_given s x rest (a ∷ xs) h = record { first = a; others = xs; is = refl; given = h.0; rests = h.1 }

pub none_given : (s : Scope) (xs : List J.Given) → AreGiven s [] xs → xs ≡ []
none_given s [] h = refl
none_given s (a ∷ xs) h = absurd h

-- what is to be bound from here on, with what was bound so far, is what the whole comes to
pub record Binding (s : Scope) (w : World) (ps : Formals) (rest : List Given) (made : List Argument) (whole : Judged I.Arguments) : Type 0 where
  pub waiting : List J.Given
  pub given : AreGiven s rest waiting
  pub so_far : List I.Argument
  pub made_so : AreListed s made so_far
  pub same : whole ≡ (J.all_bound w ps waiting >>= λ bs. Keeps (listed so_far bs))

-- the same parameters and arguments
pub rebind : {s : Scope} {w : World} {ps qs : Formals} {rest others : List Given} {made : List Argument} {whole : Judged I.Arguments} → ps ≡ qs → rest ≡ others → Binding s w ps rest made whole → Binding s w qs others made whole
rebind {s} {w} {ps} {qs} {rest} {others} {made} {whole} e f i = subst (λ (r : List Given). Binding s w qs r made whole) f (subst (λ p. Binding s w p rest made whole) e i)

pub binding_begins : (s : Scope) (w : World) (ps : Formals) (rest : List Given) (made : List Argument) (xs : List J.Given) → made ≡ [] → AreGiven s rest xs → Binding s w ps rest made (J.all_bound w ps xs)
binding_begins s w ps rest made xs e h = record { waiting = xs; given = h; so_far = []; made_so = subst (λ (l : List Argument). AreListed s l []) (sym e) tt; same = kept_on (J.all_bound w ps xs) }

nothing_bound : (w : World) (ps : Formals) → J.all_bound w ps [] ≡ Keeps I.no_argument
nothing_bound w none = refl
nothing_bound w (one v t ps) = refl

no_parameter : (w : World) (xs : List J.Given) → J.all_bound w none xs ≡ Keeps I.no_argument
no_parameter w [] = refl
no_parameter w (x ∷ xs) = refl

module _ (s : Scope) (w : World) (v : Bool) (t : Shape) (ps : Formals) where
  rebound : (so_far : List I.Argument) (a : I.Argument) (xs : List J.Given) →
      ((J.all_bound w ps xs >>= λ bs. Keeps (I.next_argument a bs)) >>= λ bs. Keeps (listed so_far bs)) ≡ (J.all_bound w ps xs >>= λ bs. Keeps (listed (so_far ++ a ∷ []) bs))
  rebound so_far a xs =
      sym (then_then (J.all_bound w ps xs) (λ bs. Keeps (I.next_argument a bs)) (λ bs. Keeps (listed so_far bs)))
      ∙ alike (J.all_bound w ps xs) (λ bs. Keeps (listed so_far (I.next_argument a bs))) (λ bs. Keeps (listed (so_far ++ a ∷ []) bs)) (λ bs. ap Keeps (sym (listed_more so_far a bs)))

  -- one more argument
  pub binding_more : {x : Given} {rest : List Given} {made made' : List Argument} {whole : Judged I.Arguments} {b : Argument} → Binding s w (one v t ps) (x ∷ rest) made whole →
      ((a : J.Given) → IsGiven s x a → Answers (IsArgument s) (J.bound w v t a) (Ok b)) → made' ≡ made ++ b ∷ [] → Binding s w ps rest made' whole
  binding_more {x} {rest} {made} {made'} {whole} {b} i h e =
      let f = first_given s x rest i.waiting i.given in
      let k = settled (J.bound w v t f.first) (h f.first f.given) in
      let as_first : whole ≡ ((J.bound w v t f.first >>= λ a. J.all_bound w ps f.others >>= λ bs. Keeps (I.next_argument a bs)) >>= λ bs. Keeps (listed i.so_far bs)) =
      i.same ∙ ap (λ xs. J.all_bound w (one v t ps) xs >>= λ bs. Keeps (listed i.so_far bs)) f.is in
      record {
        waiting = f.others;
        given = f.rests;
        so_far = i.so_far ++ k.0 ∷ [];
        made_so = subst (λ (l : List Argument). AreListed s l (i.so_far ++ k.0 ∷ [])) (sym e) (listed_last s made i.so_far b k.0 i.made_so k.2);
        same = as_first ∙ ap (λ m. (m >>= λ a. J.all_bound w ps f.others >>= λ bs. Keeps (I.next_argument a bs)) >>= λ bs. Keeps (listed i.so_far bs)) k.1 ∙ rebound i.so_far k.0 f.others;
      }

  -- an argument that is refused
  pub binding_stops : {B : Type 0} {S : B → I.Arguments → Type 0} {x : Given} {rest : List Given} {made : List Argument} {whole : Judged I.Arguments} {e : CheckFault} → Binding s w (one v t ps) (x ∷ rest) made whole →
      ((a : J.Given) → IsGiven s x a → Answers (IsArgument s) (J.bound w v t a) (Err e)) → Answers S whole (Err e)
  binding_stops {S} {x} {rest} {made} {whole} {e} i h =
      let f = first_given s x rest i.waiting i.given in
      let on = λ (a : I.Argument). J.all_bound w ps f.others >>= λ bs. Keeps (I.next_argument a bs) in
      as_judged (i.same ∙ ap (λ xs. J.all_bound w (one v t ps) xs >>= λ bs. Keeps (listed i.so_far bs)) f.is ∙ sym (then_then (J.bound w v t f.first) on (λ bs. Keeps (listed i.so_far bs))))
      (stop (J.bound w v t f.first) (λ a. on a >>= λ bs. Keeps (listed i.so_far bs)) (h f.first f.given))

  -- no argument is left
  pub binding_idle : {made : List Argument} {whole : Judged I.Arguments} → Binding s w (one v t ps) [] made whole → Binding s w ps [] made whole
  binding_idle {made} {whole} i = record {
    waiting = [];
    given = tt;
    so_far = i.so_far;
    made_so = i.made_so;
    same = i.same ∙ ap (λ xs. J.all_bound w (one v t ps) xs >>= λ bs. Keeps (listed i.so_far bs)) (none_given s i.waiting i.given)
        ∙ ap (λ m. m >>= λ bs. Keeps (listed i.so_far bs)) (sym (nothing_bound w ps));
  }

-- no parameter is left
pub binding_ends : (s : Scope) (w : World) {rest : List Given} {made : Vec Argument Global} {whole : Judged I.Arguments} → Binding s w none rest made.items whole → Answers (AreArguments s) whole (Ok made)
binding_ends s w {rest} {made} {whole} i =
    as_judged (i.same ∙ ap (λ m. m >>= λ bs. Keeps (listed i.so_far bs)) (no_parameter w i.waiting)) (record { by = listed_all s made.items i.so_far i.made_so })

-- parameters: the first and the others
pub formals_next : (shapes : List Shape) (xs : List Formal) (i : ℕ) (d : Formal) → i < length xs →
    formals_shape shapes (drop i xs) ≡ one (get_or xs i d).variable (shape_at shapes (get_or xs i d).type_number) (formals_shape shapes (drop (i + 1) xs))
formals_next shapes xs i d lt = ap (formals_shape shapes) (drop_more xs i d lt)

pub formals_done : (shapes : List Shape) (xs : List Formal) (i : ℕ) → length xs ≤ i → formals_shape shapes (drop i xs) ≡ none
formals_done shapes xs i le = ap (formals_shape shapes) (drop_all i xs le)

-- as many arguments as parameters
pub count_is : (s : Scope) (w : World) (shapes : List Shape) (ps : List Formal) (xs : List Given) (bs : List J.Given) → AreGiven s xs bs → J.is_count (formals_shape shapes ps) bs ≡ nat_eq (length ps) (length xs)
count_is s w shapes [] [] [] h = refl
count_is s w shapes [] [] (a ∷ bs) h = absurd h
count_is s w shapes [] (x ∷ xs) [] h = absurd h
count_is s w shapes [] (x ∷ xs) (a ∷ bs) h = sym (eqb_false 0 (length (x ∷ xs)) (λ e. omega (arith, e)))
count_is s w shapes (p ∷ ps) [] [] h = sym (eqb_false (length (p ∷ ps)) 0 (λ e. omega (arith, e)))
count_is s w shapes (p ∷ ps) [] (a ∷ bs) h = absurd h
count_is s w shapes (p ∷ ps) (x ∷ xs) [] h = absurd h
count_is s w shapes (p ∷ ps) (x ∷ xs) (a ∷ bs) h = count_is s w shapes ps xs bs h.1 ∙ sym (eqb-suc-suc (length ps) (length xs))

-- a call by its number, or by its variable
pub direct_call : (w : World) (x : Operand) (what : What) (bs : I.Arguments) (f : ℕ) → code_in what ≡ Some f → J.call_of x what bs ≡ I.Direct f bs
direct_call w x (Named d) bs f h = cc
direct_call w x (Valued e) bs f h = cc
direct_call w x (Chars cs) bs f h = cc
direct_call w x (Code g l) bs f h = let e : g ≡ f = cc in ap (λ n. I.Direct n bs) e
direct_call w x (Proper d) bs f h = cc

pub indirect_call : (w : World) (x : Operand) (what : What) (bs : I.Arguments) → code_in what ≡ None → J.call_of x what bs ≡ I.Indirect (designator_of x) bs
indirect_call w x (Named d) bs h = refl
indirect_call w x (Valued e) bs h = refl
indirect_call w x (Chars cs) bs h = refl
indirect_call w x (Code g l) bs h = cc
indirect_call w x (Proper d) bs h = refl

-- a rule is broken, and the fault says so
pub refused_by : {A B : Type 0} {S : B → A → Type 0} {b : Bool} {e : CheckFault} (number at : ℕ) (m : Judged A) → e ≡ Fault number at → b ≡ false → Answers S (rule number at b >> m) (Err e)
refused_by {S} {b} {e} number at m h n = subst (λ (z : CheckFault). Answers S (rule number at b >> m) (Err z)) (sym h) (broken number at m n)
