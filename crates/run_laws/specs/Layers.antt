-- Layers: one system carried out by another, invariants that steps keep, points of two kinds, and places in a row.
use Rattle.std.specs.Prelude.{◌≡◌, ℕ, zero, suc, ◌+◌, ◌≤◌, List, [], ◌∷◌, ◌++◌, map, flat_map}
use Rattle.run_laws.specs.Runs.{Outcome, Step, Moves, Ends, Traps, weigh, Within, System, Walk, Keeps}

-- a lower system, from the state a, writes w by a walk through some of these points, none of them twice, and comes to a state as wanted; the walk weighs at least so much
pub record CarriesMove {A B Q : Type 0} (y : System A B Q) (fewest : Q → ℕ) (points : List Q) (least : ℕ) (a : A) (w : List ℕ) (Wanted : A → Type 0) : Type 0 where
  pub after : A
  pub passed : List Q
  pub walk : Walk y a passed w after
  pub similar : Wanted after
  pub within : Within points passed
  pub enough : least ≤ weigh fewest passed

-- a lower system, from the state a, writes nothing and comes to this halt, through some of these points, none of them twice
pub record CarriesHalt {A B Q : Type 0} (y : System A B Q) (points : List Q) (a : A) (halt : Step A B) : Type 0 where
  pub stop : A
  pub passed : List Q
  pub walk : Walk y a passed [] stop
  pub halts : y.step stop ≡ halt
  pub within : Within points (passed ++ y.at stop ∷ [])

-- what a lower system does, from the state a, for a step of an upper one at the point p: the same writing or the same halt, by words of p
abbrev pub CarriesStep : {S T P A B Q : Type 0} → System A B Q → (P → ℕ) → (Q → ℕ) → (P → List Q) → (S → A → Type 0) → (T → B → Type 0) → P → A → Step S T → Type 0
CarriesStep y least fewest words similar same p a (Moves w t) = CarriesMove y fewest (words p) (least p) a w (similar t)
CarriesStep y least fewest words similar same p a Ends = CarriesHalt y (words p) a Ends
CarriesStep {S} {T} {P} {A} {B} {Q} y least fewest words similar same p a (Traps trap) = (mine : B) × same trap mine × CarriesHalt y (words p) a (Traps mine)

-- a lower system carries out each step of an upper one: the words of its point, none of them twice, that weigh at least what it does;
-- the lower points are weighed too, so that they may have no step in a layer below
pub record CarriesBy {S T P A B Q : Type 0} (x : System S T P) (y : System A B Q) (least : P → ℕ) (fewest : Q → ℕ) (words : P → List Q) (similar : S → A → Type 0) (same : T → B → Type 0) : Type 0 where
  pub each : (s : S) (a : A) → similar s a → CarriesStep y least fewest words similar same (x.at s) a (x.step s)

-- the same where each lower point is one step
abbrev pub Carries : {S T P A B Q : Type 0} → System S T P → System A B Q → (P → ℕ) → (P → List Q) → (S → A → Type 0) → (T → B → Type 0) → Type 0
Carries x y least words similar same = CarriesBy x y least (λ _. 1) words similar same

-- what an upper system keeps, a lower one that carries it out keeps too
abbrev pub Lowers : {S T P A B Q : Type 0} → System S T P → System A B Q → (P → ℕ) → (P → List Q) → List P → List Q → (S → A → Type 0) → (T → B → Type 0) → Type 0
Lowers {S} {T} {P} {A} {B} {Q} x y least words all places similar same =
    Carries x y least words similar same
    → Within places (flat_map words all)
    → (n : ℕ) (o : Outcome T) (s : S) (a : A) → similar s a
    → Keeps x least all (λ u v. u ≡ v) s n o → Keeps y (λ q. 1) places same a n o

-- two relations, one behind the other
abbrev pub Through : {X Y Z : Type 0} → (X → Y → Type 0) → (Y → Z → Type 0) → X → Z → Type 0
Through {X} {Y} {Z} one two x z = (y : Y) × one x y × two y z

-- each step keeps the invariant
pub record Stays {S T P : Type 0} (y : System S T P) (invariant : S → Type 0) : Type 0 where
  pub step : (s t : S) (w : List ℕ) → invariant s → y.step s ≡ Moves w t → invariant t

-- a relation between states that each have an invariant
abbrev pub Where : {S A : Type 0} → (S → Type 0) → (A → Type 0) → (S → A → Type 0) → S → A → Type 0
Where above below similar s a = above s × below a × similar s a

-- a point of one of two kinds: an operation, say, or a part of a routine that many operations share
pub data Either (P Q : Type 0) : Type 0 where
  Left : P → Either P Q
  Right : Q → Either P Q

-- the points of both kinds in one list
abbrev pub of_both : {P Q : Type 0} → List P → List Q → List (Either P Q)
of_both ps qs = map Left ps ++ map Right qs

-- what is said of each kind, said of both
abbrev pub by_kind : {P Q X : Type 0} → (P → X) → (Q → X) → Either P Q → X
by_kind f g (Left p) = f p
by_kind f g (Right q) = g q

-- n places in a row, from a on
abbrev pub places_from : ℕ → ℕ → List ℕ
places_from a zero = []
places_from a (suc n) = a ∷ places_from (suc a) n

-- the points stand one behind the other from a on, each with its width
abbrev pub InRow : {P : Type 0} → (P → ℕ) → (P → ℕ) → ℕ → List P → Type 0
InRow place width a [] = Unit {0}
InRow place width a (p ∷ ps) = (place p ≡ a) × InRow place width (a + width p) ps

-- items in a row, each with a width that may depend on its number, j for the first: what stands before the n-th, and the width of all
abbrev pub width_before : {A : Type 0} → (ℕ → A → ℕ) → ℕ → List A → ℕ → ℕ
width_before width j [] n = 0
width_before width j (x ∷ xs) zero = 0
width_before width j (x ∷ xs) (suc n) = width j x + width_before width (suc j) xs n

abbrev pub whole_width : {A : Type 0} → (ℕ → A → ℕ) → ℕ → List A → ℕ
whole_width width j [] = 0
whole_width width j (x ∷ xs) = width j x + whole_width width (suc j) xs

-- what all items hold, in one list from place k on: an item's contents may depend on its number and its place
abbrev pub spread : {A X : Type 0} → (ℕ → ℕ → A → List X) → (ℕ → A → ℕ) → ℕ → ℕ → List A → List X
spread contents width j k [] = []
spread contents width j k (x ∷ xs) = contents j k x ++ spread contents width (suc j) (k + width j x) xs

-- the points of all items, in one list
abbrev pub points_of_all : {A P : Type 0} → (ℕ → A → List P) → ℕ → List A → List P
points_of_all points j [] = []
points_of_all points j (x ∷ xs) = points j x ++ points_of_all points (suc j) xs
