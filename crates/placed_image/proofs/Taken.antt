-- While flows take their share of results.
use Rattle.std.proofs.Common.{◌≡◌, ℕ, zero, suc, ◌+◌, ◌<◌, ◌≤◌, List, [], ◌∷◌, ◌++◌, map, length, take, drop, get_or, refl, sym, ap, ap₂, ◌∙◌, subst, arith}
use Rattle.std.proofs.lemmas.List.{drop_more, take_all, map-append}
use Rattle.lir_core.specs.declared.flow.Flow.{Flow}
use Rattle.lir_core.specs.declared.flow.Trace.{Trace}
use Rattle.lir_core.specs.declared.places.TraceOut.{TraceOut}
use Rattle.boundary_resolve.specs.declared.code_line.CodeLine.{CodeLine}
use Rattle.boundary_resolve.specs.Placing.{placed_of}
use Rattle.boundary_resolve.specs.Edges.{AreSound}
use Rattle.linked_flows.specs.Allocations.{Cut}
use Rattle.placed_image.specs.Shares.{cuts_of, AllSound}

-- the items up to and with the one at i, and those behind it
module _ {A : Type 0} where
  pub up_to : (xs : List A) (i : ℕ) (x : A) (more : List A) → drop i xs ≡ x ∷ more → (take (i + 1) xs ≡ take i xs ++ x ∷ []) × (drop (i + 1) xs ≡ more)
  up_to [] zero x more e = cc
  up_to [] (suc i) x more e = cc
  up_to (y ∷ ys) zero x more e = let is : y ≡ x = cc in let left : ys ≡ more = cc in (ap (λ (z : A). z ∷ []) is, left)
  up_to (y ∷ ys) (suc i) x more e =
      let r = up_to ys i x more e in
      let n : suc i + 1 ≡ suc (i + 1) = omega arith in
      (ap (λ k. take k (y ∷ ys)) n ∙ ap (λ zs. y ∷ zs) r.0, ap (λ k. drop k (y ∷ ys)) n ∙ r.1)

-- no more cuts than flows
pub few_cuts : (fs : List Flow) (cuts : List (List Trace)) (outs : List TraceOut) → length (cuts_of fs cuts outs) ≤ length fs
few_cuts [] cuts outs = omega arith
few_cuts (f ∷ fs) [] outs = omega arith
few_cuts (f ∷ fs) (ts ∷ cuts) outs = let r = few_cuts fs cuts (drop (length ts) outs) in omega (arith, r)

abbrev lines_of : Cut → List CodeLine
lines_of c = placed_of c.flow c.traces c.outs

-- how far the sharing has come: the cuts that are left, and the results and lines of those before them
pub record AreShared (all : List Cut) (i : ℕ) (left : List Cut) (outs : List (List TraceOut)) (parts : List (List CodeLine)) : Type 0 where
  pub rest : left ≡ drop i all
  pub outs_are : outs ≡ map (λ c. c.outs) (take i all)
  pub parts_are : (k : ℕ) → AllSound k all → parts ≡ map lines_of (take i all)

pub none_shared : (all : List Cut) (outs : List (List TraceOut)) (parts : List (List CodeLine)) → outs ≡ [] → parts ≡ [] → AreShared all 0 all outs parts
none_shared all outs parts a b = record { rest = refl; outs_are = a; parts_are = λ k sound. b }

module _ (all : List Cut) (i : ℕ) (left : List Cut) (outs : List (List TraceOut)) (parts : List (List CodeLine)) (h : AreShared all i left outs parts) where
  pub all_shared : length all ≤ i → (outs ≡ map (λ c. c.outs) all) × ((k : ℕ) → AllSound k all → parts ≡ map lines_of all)
  all_shared le =
      let t = take_all i all le in
      (h.outs_are ∙ ap (map (λ (c : Cut). c.outs)) t, λ k sound. h.parts_are k sound ∙ ap (map lines_of) t)

  -- the next one
  pub one_shared : (c : Cut) (more : List Cut) (own : List TraceOut) (lines : List CodeLine) (outs' : List (List TraceOut)) (parts' : List (List CodeLine)) → left ≡ c ∷ more → own ≡ c.outs
      → ((k : ℕ) → AreSound k c.flow c.traces c.outs → lines ≡ lines_of c) → outs' ≡ outs ++ own ∷ [] → parts' ≡ parts ++ lines ∷ [] → AreShared all (i + 1) more outs' parts'
  one_shared c more own lines outs' parts' next own_is lines_are o p =
      let there = sym h.rest ∙ next in
      let u = up_to all i c more there in
      record {
        rest = sym u.1;
        outs_are = o ∙ ap₂ (λ xs ys. xs ++ ys ∷ []) h.outs_are own_is ∙ sym (map-append (λ (d : Cut). d.outs) (take i all) (c ∷ [])) ∙ ap (map (λ (d : Cut). d.outs)) (sym u.0);
        parts_are = λ k sound.
            p ∙ ap₂ (λ xs ys. xs ++ ys ∷ []) (h.parts_are k sound) (lines_are k (sound i c more there))
            ∙ sym (map-append lines_of (take i all) (c ∷ [])) ∙ ap (map lines_of) (sym u.0);
      }

-- the cuts that are left, with the next of them in front
pub next_cut : (fs : List Flow) (cuts : List (List Trace)) (outs : List TraceOut) (i : ℕ) (f : Flow) (ts : List Trace) → i < length fs → f ≡ get_or fs i f → i < length cuts → ts ≡ get_or cuts i ts
    → cuts_of (drop i fs) (drop i cuts) outs ≡ record { flow = f; traces = ts; outs = take (length ts) outs } ∷ cuts_of (drop (i + 1) fs) (drop (i + 1) cuts) (drop (length ts) outs)
next_cut fs cuts outs i f ts lf is lc there =
    ap₂ (λ xs ys. cuts_of xs ys outs)
    (drop_more fs i f lf ∙ ap (λ g. g ∷ drop (i + 1) fs) (sym is))
    (drop_more cuts i ts lc ∙ ap (λ us. us ∷ drop (i + 1) cuts) (sym there))

-- lines of equal traces and results
pub resolved : (f : Flow) (ts us : List Trace) (own its : List TraceOut) (lines : List CodeLine) → us ≡ ts → its ≡ own → ((k : ℕ) → AreSound k f us its → lines ≡ placed_of f us its) → (k : ℕ) → AreSound k f ts own → lines ≡ placed_of f ts own
resolved f ts us own its lines a b h =
    subst (λ (xs : List TraceOut). (k : ℕ) → AreSound k f ts xs → lines ≡ placed_of f ts xs) b
    (subst (λ (xs : List Trace). (k : ℕ) → AreSound k f xs its → lines ≡ placed_of f xs its) a h)
