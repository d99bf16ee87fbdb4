-- The last place before a word.
use Rattle.std.proofs.Common.{◌≡◌, ℕ, zero, suc, ◌-◌, ◌<◌, ◌≤◌, Bool, true, false, List, [], ◌∷◌, length, get_or, take, Some, None, refl, ap, ◌∙◌, arith}
use Rattle.std.specs.Prelude.{filter, nat_le, slice_get}
use Rattle.std.proofs.lemmas.Bool.{le-leb, lt-leb}
use Rattle.std.specs.List.Sorted.{IsPartitionPoint, IsPartitionedBy}
use Rattle.std.proofs.lemmas.List.{length-take-le}
use Rattle.std.proofs.lemmas.List.Sorted.{IsPartitionedBy-leb}
use Rattle.image_form.specs.declared.image.ProcPlace.{ProcPlace}
use Rattle.image_form.specs.Places.{RiseBelow, place_before}

-- the place begins at a word up to w
abbrev pub begins : ℕ → ProcPlace → Bool
begins w place = nat_le place.word w

---- Places that rise

-- they rise below any greater number of words
pub rise_below_more : (words more least : ℕ) (places : List ProcPlace) → words ≤ more → RiseBelow words least places → RiseBelow more least places
rise_below_more words more least [] le rise = tt
rise_below_more words more least (p ∷ ps) le rise = (rise.0, omega (arith, rise.1, le), rise_below_more words more (suc p.word) ps le rise.2)

pub at_least : (words least : ℕ) (places : List ProcPlace) (j : ℕ) (d : ProcPlace) → RiseBelow words least places → j < length places → least ≤ (get_or places j d).word
at_least words least [] j d rise lt = omega (arith, lt)
at_least words least (p ∷ ps) zero d rise lt = rise.0
at_least words least (p ∷ ps) (suc j) d rise lt = let more = at_least words (suc p.word) ps j d rise.2 (omega (arith, lt)) in omega (arith, rise.0, more)

pub words_rise : (words least : ℕ) (places : List ProcPlace) (i j : ℕ) (d : ProcPlace) → RiseBelow words least places → i ≤ j → j < length places → (get_or places i d).word ≤ (get_or places j d).word
words_rise words least [] i j d rise le lt = omega (arith, lt)
words_rise words least (p ∷ ps) zero zero d rise le lt = omega arith
words_rise words least (p ∷ ps) zero (suc j) d rise le lt = let more = at_least words (suc p.word) ps j d rise.2 (omega (arith, lt)) in omega (arith, more)
words_rise words least (p ∷ ps) (suc i) zero d rise le lt = omega (arith, le)
words_rise words least (p ∷ ps) (suc i) (suc j) d rise le lt = words_rise words (suc p.word) ps i j d rise.2 (omega (arith, le)) (omega (arith, lt))

---- Those that begin up to a word are the first of them

pub front_begins : (places : List ProcPlace) (n w : ℕ) → ((k : ℕ) (d : ProcPlace) → k < n → k < length places → begins w (get_or places k d) ≡ true)
    → ((k : ℕ) (d : ProcPlace) → n ≤ k → k < length places → begins w (get_or places k d) ≡ false) → filter (begins w) places ≡ take n places
front_begins [] zero w first others = refl
front_begins [] (suc n) w first others = refl
front_begins (p ∷ ps) zero w first others =
    rw (others 0 p (omega arith) (omega arith)) (front_begins ps zero w (λ k d lt l. absurd (omega (arith, lt))) (λ k d le l. others (suc k) d (omega arith) (omega (arith, l))))
front_begins (p ∷ ps) (suc n) w first others =
    rw (first 0 p (omega arith) (omega arith))
    (ap (λ (qs : List ProcPlace). p ∷ qs) (front_begins ps n w (λ k d lt l. first (suc k) d (omega (arith, lt)) (omega (arith, l))) (λ k d le l. others (suc k) d (omega (arith, le)) (omega (arith, l)))))

-- as halving finds them
pub partitioned : (words least : ℕ) (places : List ProcPlace) (w : ℕ) → RiseBelow words least places → IsPartitionedBy (begins w) places
partitioned words least places w rise = IsPartitionedBy-leb (λ (p : ProcPlace). p.word) places w (λ i j d le lt. words_rise words least places i j d rise le lt)

pub halved : (places : List ProcPlace) (n w : ℕ) → IsPartitionPoint (λ p. begins w p ≡ true) (λ p. begins w p ≡ false) places n → filter (begins w) places ≡ take n places
halved places n w point = front_begins places n w (λ k d lt l. point.0 k d (omega arith) lt) (λ k d le l. point.1 k d le l)

-- the last of the first places
first_got : (places : List ProcPlace) (m : ℕ) → slice_get (take (suc m) places) m ≡ slice_get places m
first_got [] m = refl
first_got (p ∷ ps) zero = refl
first_got (p ∷ ps) (suc m) = first_got ps m

last_of_front : (places : List ProcPlace) (m : ℕ) → m < length places → slice_get (take (suc m) places) (length (take (suc m) places) - 1) ≡ slice_get places m
last_of_front places m lt =
    let many = length-take-le (suc m) places (omega (arith, lt)) in
    let last : length (take (suc m) places) - 1 ≡ m = omega (arith, many) in
    ap (λ (k : ℕ). slice_get (take (suc m) places) k) last ∙ first_got places m

-- so where the first n begin up to w and the others don't, the last of the first is the last that does
pub none_before : (places : List ProcPlace) (w : ℕ) → filter (begins w) places ≡ take 0 places → place_before places w ≡ None
none_before places w begun = rw begun refl

pub last_before : (places : List ProcPlace) (m w : ℕ) → m < length places → filter (begins w) places ≡ take (suc m) places → place_before places w ≡ slice_get places m
last_before places m w lt begun = ap (λ (qs : List ProcPlace). slice_get qs (length qs - 1)) begun ∙ last_of_front places m lt

---- A place that begins up to a word, before one that begins behind it

pub is_there : (places : List ProcPlace) (i : ℕ) (d : ProcPlace) → i < length places → slice_get places i ≡ Some (get_or places i d)
is_there [] i d lt = absurd (omega (arith, lt))
is_there (p ∷ ps) zero d lt = refl
is_there (p ∷ ps) (suc i) d lt = is_there ps i d (omega (arith, lt))

is_within : (places : List ProcPlace) (i : ℕ) (p : ProcPlace) → slice_get places i ≡ Some p → i < length places
is_within [] i p here = absurd cc
is_within (q ∷ qs) zero p here = omega arith
is_within (q ∷ qs) (suc i) p here = let more = is_within qs i p here in omega (arith, more)

is_at : (places : List ProcPlace) (i : ℕ) (p d : ProcPlace) → slice_get places i ≡ Some p → get_or places i d ≡ p
is_at [] i p d here = absurd cc
is_at (q ∷ qs) zero p d here = cc
is_at (q ∷ qs) (suc i) p d here = is_at qs i p d here

pub is_place_before : (words least : ℕ) (places : List ProcPlace) (i w : ℕ) (p : ProcPlace) → RiseBelow words least places → slice_get places i ≡ Some p → p.word ≤ w
    → ((q : ProcPlace) → slice_get places (suc i) ≡ Some q → w < q.word) → place_before places w ≡ Some p
is_place_before words least places i w p rise here le next =
    let within = is_within places i p here in
    let first : (k : ℕ) (d : ProcPlace) → k < suc i → k < length places → begins w (get_or places k d) ≡ true = λ k d lt l.
    let up : (get_or places k d).word ≤ (get_or places i d).word = words_rise words least places k i d rise (omega (arith, lt)) within in
    let same : (get_or places i d).word ≡ p.word = ap (λ (q : ProcPlace). q.word) (is_at places i p d here) in
    le-leb (get_or places k d).word w (omega (arith, up, same, le)) in
    let others : (k : ℕ) (d : ProcPlace) → suc i ≤ k → k < length places → begins w (get_or places k d) ≡ false = λ k d g l.
    let up : (get_or places (suc i) d).word ≤ (get_or places k d).word = words_rise words least places (suc i) k d rise g l in
    let behind : w < (get_or places (suc i) d).word = next (get_or places (suc i) d) (is_there places (suc i) d (omega (arith, g, l))) in
    lt-leb (get_or places k d).word w (omega (arith, up, behind)) in
    last_before places i w within (front_begins places (suc i) w first others) ∙ here
