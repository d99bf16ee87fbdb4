-- Moves at the front that are made first.
use Rattle.std.proofs.Common.{◌≡◌, ℕ, ◌+◌, ◌<◌, Bool, true, false, not, cond, List, [], ◌∷◌, ◌++◌, map, filter, length, take, drop, get_or, Some, refl, sym, ap, ap₂, ◌∙◌, append_assoc}
use Rattle.std.proofs.lemmas.List.{take_more, drop_more, map-append}
use Rattle.std.proofs.lemmas.List.Elements.{filter-append}
use Rattle.lir_core.specs.declared.places.Move.{Move}
use Rattle.lir_core.specs.Spots.{Spot, same, spot}
use Rattle.parallel_move.specs.declared.step.Step.{Step}
use Rattle.parallel_move.specs.Order.{Pending, from_spot, is_source, is_moving, pending, moving, copied, round, ordered, order_of}
use Rattle.parallel_move.specs.Entries.{no_move, move_at}
use Rattle.parallel_move.proofs.Sequence.{or_else}
use Rattle.parallel_move.proofs.Listed.{picks}
use Rattle.parallel_move.proofs.Table.{same_turned}

unread_moving : (ms : List Move) (p : Spot) → is_source (map pending ms) p ≡ false → is_source (moving ms) p ≡ false
unread_moving [] p e = refl
unread_moving (m ∷ ms) p e =
    let both = or_else (same (spot m.from) p) (is_source (map pending ms) p) e in
    at_test (is_moving m) both.0 (unread_moving ms p both.1)
  where
    at_test : (b : Bool) → same (spot m.from) p ≡ false → is_source (moving ms) p ≡ false → is_source (map pending (cond b (m ∷ filter is_moving ms) (filter is_moving ms))) p ≡ false
    at_test true f g = ap (λ c. cond c true (is_source (moving ms) p)) f ∙ g
    at_test false f g = g

-- a move whose destination none behind it reads is made first, if it moves
first_copied : (m : Move) (ms : List Move) → is_source (map pending ms) (spot m.to) ≡ false → order_of (m ∷ ms) ≡ map copied (filter is_moving (m ∷ [])) ++ order_of ms
first_copied m ms e = at_test (same (spot m.to) (spot m.from)) refl
  where
    unread : same (spot m.to) (spot m.from) ≡ false → is_source (pending m ∷ moving ms) (spot m.to) ≡ false
    unread f = ap (λ c. cond c true (is_source (moving ms) (spot m.to))) (same_turned (spot m.from) (spot m.to) ∙ f) ∙ unread_moving ms (spot m.to) e

    at_test : (b : Bool) → same (spot m.to) (spot m.from) ≡ b → ordered (length (map pending (cond (not b) (m ∷ filter is_moving ms) (filter is_moving ms)))) (map pending (cond (not b) (m ∷ filter is_moving ms) (filter is_moving ms))) ≡ map copied (cond (not b) (m ∷ []) []) ++ order_of ms
    at_test true f = refl
    at_test false f = ap (λ o. round o (pending m) (moving ms) (ordered (length (moving ms)))) (picks (pending m ∷ moving ms) [] (moving ms) (pending m) tt (unread f))

pub leading_step : (ms : List Move) (i : ℕ) → i < length ms → order_of ms ≡ map copied (filter is_moving (take i ms)) ++ order_of (drop i ms) → is_source (map pending (drop (i + 1) ms)) (spot (move_at ms i).to) ≡ false → order_of ms ≡ map copied (filter is_moving (take (i + 1) ms)) ++ order_of (drop (i + 1) ms)
leading_step ms i lt e f =
    e ∙ ap (λ x. map copied (filter is_moving (take i ms)) ++ order_of x) (drop_more ms i no_move lt)
    ∙ ap (λ x. map copied (filter is_moving (take i ms)) ++ x) (first_copied (move_at ms i) (drop (i + 1) ms) f)
    ∙ sym (append_assoc (map copied (filter is_moving (take i ms))) (map copied (filter is_moving (move_at ms i ∷ []))) (order_of (drop (i + 1) ms)))
    ∙ ap (λ x. x ++ order_of (drop (i + 1) ms)) (sym (ap (λ x. map copied (filter is_moving x)) (take_more ms i no_move lt) ∙ ap (map copied) (filter-append is_moving (take i ms) (move_at ms i ∷ [])) ∙ map-append copied (filter is_moving (take i ms)) (filter is_moving (move_at ms i ∷ []))))
