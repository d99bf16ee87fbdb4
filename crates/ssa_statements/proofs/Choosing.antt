-- CASE, from its tests and its parts.
use Rattle.std.proofs.Common.{◌≡◌, ℕ, suc, ◌+◌, ◌<◌, List, [], ◌∷◌, ◌++◌, length, Option, None, refl, sym, ap, ap₂, ◌∙◌, arith}
use Rattle.block_runs.specs.declared.end.End.{End}
use Rattle.ssa_lowered.specs.Pieces.{Cursor, Mask, picked}
use Rattle.ssa_lowered.specs.Limits.{passed}
use Rattle.ssa_lowered.specs.Statements.{Deed}
use Rattle.ssa_lowered.specs.Control.{Rung, Ladder, ladder, Limbs, limbs, case, half}
use Rattle.ssa_exprs.specs.Making.{View, all_bare, resolved, Fits, later, cursor_at, Came}
use Rattle.ssa_exprs.proofs.Giving.{later_first, passed_on, limit_on}
use Rattle.ssa_exprs.proofs.Forks.{Adding, adding_on, given_more}
use Rattle.ssa_statements.specs.Steps.{Steps}
use Rattle.ssa_statements.specs.Cases.{as_ladder, AllBelow, Climbs, ends, Parts}

-- tests that lead to parts, by what the parts' labels stand for
pub same_rungs : (last n : ℕ) (rungs : List Rung) (a b : ℕ → ℕ) → AllBelow n rungs → ((i : ℕ) → i < n → a i ≡ b i) → (c : Cursor) → (ladder last rungs c).pieces a ≡ (ladder last rungs c).pieces b
same_rungs last n [] a b few e c = refl
same_rungs last n (r ∷ []) a b few e c = let k = r.test c in ap (λ m. k.pieces m k.after.block last) (e r.part few.0)
same_rungs last n (r ∷ s ∷ rs) a b few e c =
    let k = r.test c in
    ap₂ (λ m ps. k.pieces m k.after.block c.freq ++ ps) (e r.part few.0) (same_rungs last n (s ∷ rs) a b few.1 e k.after)

-- CASE: the labels of the parts and of the join are given out, then come the tests and the parts
module _ (v u w : View) (mask : Mask) (rungs : List Rung) (bodies : List Deed) (unmatched : ℕ → List ℕ → End) (leave by : Option (List ℕ)) where
  abbrev n : ℕ
  n = length bodies

  abbrev to : ℕ
  to = v.labels + n

  abbrev labels : ℕ → ℕ
  labels i = v.labels + i

  abbrev given_out : View
  given_out = record v { labels = suc to }

  module _
      (x : Climbs given_out u (half v.freq) labels rungs)
      (z : Parts v u w mask leave to v.labels bodies)
      (few : AllBelow n rungs)
      (ends_by : (λ o. unmatched o (picked mask v.known.env)) ≡ ends by)
      (same_end : u.over ≡ None → leave ≡ by) where
    module _ (op : ℕ) (seen : List ℕ) where
      abbrev c : Cursor
      c = cursor_at v op seen

      abbrev k : Ladder
      k = ladder (half v.freq) rungs c

      abbrev parts_by : (ℕ → End) → Cursor → Limbs
      parts_by e d = limbs mask c bodies d e

      abbrev all : Limbs
      all = parts_by (λ o. unmatched o (picked mask v.known.env)) k.after

      module _ (place : ℕ → ℕ) (i : Fits place w.bounds) where
        fits1 : Fits place u.bounds
        fits1 = z.fits place i

        limit_all : w.over ≡ later v.over (passed (case mask rungs bodies unmatched c).pieces)
        limit_all =
            limit_on v.over (passed (k.pieces (λ j. place (labels j)))) (passed (all.pieces all.after.block)) (x.follows.limit place fits1 op seen) (z.limit place i k.after.op k.after.seen c refl refl by all.after.block)
            (λ h. ap₂ (λ e d. passed ((parts_by e d).pieces all.after.block)) ends_by (x.follows.by h place fits1 op seen).after)
            ∙ ap (λ o. later v.over o) (ap (λ o. later o (passed (all.pieces all.after.block))) (x.blind c (λ j. place (labels j)) all.starts) ∙ sym (passed_on (k.pieces all.starts) (all.pieces all.after.block)))

        module _ (h : w.over ≡ None) where
          over1 : u.over ≡ None
          over1 = later_first u.over _ (sym (z.limit place i 0 [] c refl refl None 0) ∙ h)

          tests_came : Came given_out u place (as_ladder rungs (half v.freq) (λ j. place (labels j)) c) tt
          tests_came = x.follows.by over1 place fits1 op seen

          all_is : all ≡ parts_by (ends leave) (cursor_at u k.after.op k.after.seen)
          all_is = ap₂ (λ e d. parts_by e d) (ends_by ∙ ap ends (sym (same_end over1))) tests_came.after

          after_all : all.after ≡ cursor_at w 0 all.after.seen
          after_all = ap (λ (l : Limbs). l.after) all_is ∙ z.after h place i k.after.op k.after.seen c refl refl ∙ ap (λ (l : Limbs). cursor_at w 0 l.after.seen) (sym all_is)

          starts_all : (j : ℕ) → j < n → place (labels j) ≡ all.starts j
          starts_all j lt = sym (ap (λ (l : Limbs). l.starts j) all_is ∙ z.starts h place i k.after.op k.after.seen c refl refl j lt)

          came_all : Came v w place (case mask rungs bodies unmatched c) tt
          came_all =
              let b1 : Adding v u place (k.pieces all.starts) = record { is = tests_came.adds ∙ ap (λ ps. resolved place v.made ++ all_bare ps) (same_rungs (half v.freq) n rungs (λ j. place (labels j)) all.starts few starts_all c) } in
              let b2 : Adding u w place (all.pieces all.after.block) =
              record { is = z.adds h place i k.after.op k.after.seen c refl refl ∙ ap₂ (λ (l : Limbs) (o : ℕ). resolved place u.made ++ all_bare (l.pieces o)) (sym all_is) (sym (ap (λ (d : Cursor). d.block) after_all)) } in
              record { adds = (adding_on b1 b2).is; after = after_all ∙ ap (λ (d : Cursor). cursor_at w d.op all.after.seen) (sym after_all); result = refl }

    pub steps_case : Steps v w (case mask rungs bodies unmatched)
    steps_case = record {
      follows = record {
        fits = λ place i. x.follows.fits place (z.fits place i);
        limit = λ place i op seen. limit_all op seen place i;
        by = λ h place i op seen. came_all op seen place i h;
      };
      once = record {
        by = λ t.
            let b1 = x.once.by t in
            let b2 = z.once t in
            let e1 = given_more to t in
            omega (arith, b1, b2, e1);
      };
      undoes = z.undoes;
    }
