-- Blocks' places by number.
use Rattle.std.proofs.Common.{◌≡◌, ℕ, zero, suc, ◌+◌, ◌<◌, ◌≤◌, ◌^◌, Bool, true, false, List, [], ◌∷◌, length, get_or, drop, set, replicate, refl, arith, sym, ap, ap₂, ◌∙◌, subst}
use Rattle.std.specs.Prelude.{◌==◌, if◌then◌else◌}
use Rattle.std.proofs.lemmas.Bool.{eqb-true}
use Rattle.std.proofs.lemmas.List.{drop_more, drop_all}
use Rattle.placed_code.specs.Placed.{Placed, proc_of}
use Rattle.placed_code.specs.Layout.{placings, position, block_width, front_width, proc_width, entry}
use Rattle.link_words.specs.Fields.{InReach, entry_in}
use Rattle.link_layout.specs.Starts.{starts_from, end_from, IsByNumber}
use Rattle.link_layout.specs.Widths.{widths_of, AreBlocks, ArePlaces, IsWide}
use Rattle.link_layout.proofs.Placing.{starts_length, starts_at, ends_at}
use Rattle.placed_code.proofs.Linking.{length_followed}

pub none_yet : (order starts places : List ℕ) (i count : ℕ) → length order ≤ i → length places ≡ count → IsByNumber (drop i order) (drop i starts) count places
none_yet order starts places i count far size =
    let none = drop_all i order far in
    record { size = size; found = λ b l w. absurd (nowhere (drop i order) none b w) }
  where
    nowhere : (xs : List ℕ) → xs ≡ [] → (b : ℕ) → position xs b < length xs → ⊥
    nowhere [] e b w = omega (arith, w)
    nowhere (x ∷ xs) e b w = cc

step : (o s count : ℕ) (order starts before after : List ℕ) → IsByNumber order starts count before → length after ≡ length before → (o < length before → entry_in after o ≡ s) → ((b : ℕ) → (o == b) ≡ false → entry_in after b ≡ entry_in before b)
    → IsByNumber (o ∷ order) (s ∷ starts) count after
step o s count order starts before after h size one others = record { size = size ∙ h.size; found = λ b l w. by_test b l (o == b) refl w }
  where
    by_test : (b : ℕ) → b < count → (t : Bool) → (o == b) ≡ t → (if t then 0 else suc (position order b)) < suc (length order) → entry_in after b ≡ entry_in (s ∷ starts) (if t then 0 else suc (position order b))
    by_test b l true e w =
        let same : o ≡ b = eqb-true o b e in
        let z = h.size in
        ap (entry_in after) (sym same) ∙ one (omega (arith, l, same, z))
    by_test b l false e w = others b e ∙ h.found b l (omega (arith, w))

pub numbered_more : (order starts : List ℕ) (i j count : ℕ) (before after : List ℕ) → IsByNumber (drop i order) (drop i starts) count before → i ≡ j + 1 → j < length order → j < length starts
    → length after ≡ length before → (get_or order j 0 < length before → entry_in after (get_or order j 0) ≡ get_or starts j 0) → ((b : ℕ) → (get_or order j 0 == b) ≡ false → entry_in after b ≡ entry_in before b)
    → IsByNumber (drop j order) (drop j starts) count after
numbered_more order starts i j count before after h is lo ls size one others =
    let so = drop_more order j 0 lo in
    let ss = drop_more starts j 0 ls in
    let h' = subst (λ n. IsByNumber (drop n order) (drop n starts) count before) is h in
    let next = step (get_or order j 0) (get_or starts j 0) count (drop (j + 1) order) (drop (j + 1) starts) before after h' size one others in
    subst (λ (ys : List ℕ). IsByNumber (drop j order) ys count after) (sym ss) (subst (λ (xs : List ℕ). IsByNumber xs (get_or starts j 0 ∷ drop (j + 1) starts) count after) (sym so) next)

---- As layout defines them

pub starts_many : (ps : List Placed) (p : ℕ) (order widths starts : List ℕ) (first count : ℕ) → starts ≡ starts_from first widths → AreBlocks ps p first order widths count → length starts ≡ length order
starts_many ps p order widths starts first count e is =
    let pr = proc_of ps p in
    ap length (e ∙ ap (λ (ws : List ℕ). starts_from first ws) is.widths_are) ∙ starts_length (block_width pr) first 0 (placings pr) ∙ length_followed (length pr.blocks) pr.order ∙ ap length is.order_is

pub places_are : (ps : List Placed) (p : ℕ) (order widths starts places : List ℕ) (first count : ℕ) → starts ≡ starts_from first widths → (length starts ≡ length order → IsByNumber order starts count places)
    → AreBlocks ps p first order widths count → ArePlaces ps p places
places_are ps p order widths starts places first count e found is =
    let pr = proc_of ps p in
    let n = found (starts_many ps p order widths starts first count e is) in
    let begun : starts ≡ starts_from (entry ps p + front_width pr) (widths_of (block_width pr) 0 (placings pr)) = e ∙ ap₂ (λ m (ws : List ℕ). starts_from m ws) is.begins is.widths_are in
    record {
      each = n.size ∙ is.count_is;
      begins = λ b l w.
          let l' = subst (λ m. b < m) (sym is.count_is) l in
          let w' = subst (λ (xs : List ℕ). position xs b < length xs) is.order_is w in
          let long = length_followed (length pr.blocks) pr.order in
          n.found b l' w' ∙ ap (λ (xs : List ℕ). entry_in starts (position xs b)) (sym is.order_is) ∙ ap (λ (xs : List ℕ). entry_in xs (position pr.order b)) begun
          ∙ starts_at (block_width pr) (entry ps p + front_width pr) 0 (placings pr) (position pr.order b) (omega (arith, w, long));
    }

pub proc_end : (ps : List Placed) (p : ℕ) (order widths : List ℕ) (first count : ℕ) → AreBlocks ps p first order widths count → end_from first widths ≡ entry ps p + proc_width p (proc_of ps p)
proc_end ps p order widths first count is =
    let pr = proc_of ps p in
    let e = ends_at (block_width pr) (entry ps p + front_width pr) 0 (placings pr) in
    let same : end_from first widths ≡ end_from (entry ps p + front_width pr) (widths_of (block_width pr) 0 (placings pr)) = ap₂ (λ m (ws : List ℕ). end_from m ws) is.begins is.widths_are in
    omega (arith, e, same)

pub wide_is : (pr : Placed) (p front : ℕ) (widths : List ℕ) → IsWide pr front widths → end_from front widths ≡ proc_width p pr
wide_is pr p front widths is = ap₂ (λ m (ws : List ℕ). end_from m ws) is.front_is is.blocks_are ∙ ends_at (block_width pr) (front_width pr) 0 (placings pr)

-- a beginning that is checked is the same
pub checked : (ps : List Placed) (p : ℕ) (order widths : List ℕ) (first count next : ℕ) → next ≡ first + 0 → AreBlocks ps p first order widths count → AreBlocks ps p next order widths count
checked ps p order widths first count next e is = let z : next ≡ first = omega (arith, e) in record { begins = z ∙ is.begins; order_is = is.order_is; widths_are = is.widths_are; count_is = is.count_is }

---- Reach

pub zeros_reach : (n : ℕ) → InReach (replicate n 0)
zeros_reach zero p = omega arith
zeros_reach (suc n) zero = omega arith
zeros_reach (suc n) (suc p) = zeros_reach n p

pub set_reach : (xs : List ℕ) (i x : ℕ) → x ≤ 2 ^ 18 → InReach xs → InReach (set xs i x)
set_reach [] i x l r p = r p
set_reach (y ∷ ys) zero x l r zero = l
set_reach (y ∷ ys) zero x l r (suc p) = r (suc p)
set_reach (y ∷ ys) (suc i) x l r zero = r 0
set_reach (y ∷ ys) (suc i) x l r (suc p) = set_reach ys i x l (λ q. r (suc q)) p
