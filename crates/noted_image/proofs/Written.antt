-- While the results of all flows are written.
use Rattle.std.proofs.Common.{◌≡◌, ℕ, ◌+◌, ◌<◌, ◌≤◌, List, [], ◌∷◌, ◌++◌, map, length, drop, get_or, Option, Some, None, refl, sym, ap, ◌∙◌, subst, append_assoc, arith, Vec, length-append}
use Rattle.std.specs.Prelude.{All}
use Rattle.std.specs.Global.{Global}
use Rattle.std.specs.List.{flat_map}
use Rattle.std.proofs.lemmas.List.{drop_more, drop_all}
use Rattle.std.proofs.lemmas.Grind.{flat_map-append}
use Rattle.std.proofs.lemmas.List.Elements.{All-append, All-nil}
use Rattle.lir_core.specs.declared.places.TraceOut.{TraceOut}
use Rattle.plain_form.specs.results.Spelling.{result}
use Rattle.plain_form.specs.results.Bounds.{TypedResult}
use Rattle.planned_image.specs.audited_allocations.Joined.{joined}
use Rattle.trace_notes.specs.Notes.{AreNotes, notes, most_bytes}
use Rattle.noted_image.specs.Notes.{AreKept}

abbrev pub all_of : List (Vec TraceOut Global) → List TraceOut
all_of outs = joined (map (λ v. v.items) outs)

module _ (outs : List (Vec TraceOut Global)) (i : ℕ) where
  pub none_left : length outs ≤ i → all_of (drop i outs) ≡ []
  none_left le = ap all_of (drop_all i outs le)

  module _ (own : Vec TraceOut Global) (lt : i < length outs) (item : own ≡ get_or outs i own) where
    pub next : all_of (drop i outs) ≡ own.items ++ all_of (drop (i + 1) outs)
    next = ap all_of (drop_more outs i own lt ∙ ap (λ v. v ∷ drop (i + 1) outs) (sym item))

    pub count_more : (count after : ℕ) → count + length (all_of (drop i outs)) ≡ length (all_of outs) → after ≡ count + length own.items → after + length (all_of (drop (i + 1) outs)) ≡ length (all_of outs)
    count_more count after sum is =
        let n = ap length next in
        let m = length-append own.items (all_of (drop (i + 1) outs)) in
        omega (arith, sum, is, n, m)

    pub bytes_more : (bytes after all : List ℕ) → bytes ++ flat_map result (all_of (drop i outs)) ≡ all → after ≡ bytes ++ flat_map result own.items → after ++ flat_map result (all_of (drop (i + 1) outs)) ≡ all
    bytes_more bytes after all so_far is =
        let rest = all_of (drop (i + 1) outs) in
        ap (λ xs. xs ++ flat_map result rest) is
        ∙ append_assoc bytes (flat_map result own.items) (flat_map result rest)
        ∙ ap (λ xs. bytes ++ xs) (sym (flat_map-append result own.items rest) ∙ ap (flat_map result) (sym next))
        ∙ so_far

    pub typed_more : (All TypedResult (all_of (drop i outs)) → All TypedResult (all_of outs)) → All TypedResult own.items → All TypedResult (all_of (drop (i + 1) outs)) → All TypedResult (all_of outs)
    typed_more so_far one rest = so_far (subst (All TypedResult) (sym next) (All-append TypedResult own.items (all_of (drop (i + 1) outs)) one rest))

-- what is kept of results
pub kept_of : (outs seen : List (List TraceOut)) (kept : Option (Vec ℕ Global)) (bytes : Vec ℕ Global) → seen ≡ outs → AreKept (joined seen) kept → kept ≡ Some bytes → (bytes.items ≡ notes (joined outs)) × (length bytes.items ≤ most_bytes) × AreNotes (joined outs)
kept_of outs seen kept bytes same are is = subst (λ os. AreKept (joined os) (Some bytes)) same (subst (AreKept (joined seen)) is are)

pub too_long_of : (outs seen : List (List TraceOut)) (kept : Option (Vec ℕ Global)) → seen ≡ outs → AreKept (joined seen) kept → kept ≡ None → most_bytes < length (notes (joined outs))
too_long_of outs seen kept same are is = subst (λ os. AreKept (joined os) None) same (subst (AreKept (joined seen)) is are)
