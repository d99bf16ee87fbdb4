-- The end of a node: what each step keeps.
use Rattle.std.proofs.Common.{◌≡◌, ℕ, ◌<◌, Bool, true, false, cond, List, [], ◌∷◌, ◌++◌, map, length, set, Option, Some, None, refl, sym, ap, ◌∙◌, subst, arith, ⊎_elim}
use Rattle.std.proofs.lemmas.List.{get_or-set_same, drop_all}
use Rattle.block_runs.specs.Live.{has}
use Rattle.lir_core.specs.Spots.{Spot, reg, home, out, target, saved, get, in_register, view_of}
use Rattle.lir_core.specs.Lines.{AllBelow}
use Rattle.lir_core.specs.Walks.{Below}
use Rattle.loc_state.specs.Steps as steps
use Rattle.loc_state.specs.Walked.{Apart}
use Rattle.loc_state.proofs.Keeping.{is_marked}
use Rattle.loc_state.proofs.Numbers.{below_push, append_nil, in_row}
use Rattle.loc_back.specs.declared.part.Stage.TheVariants.{End as AtEnd}
use Rattle.loc_back.specs.declared.part.BackPart.{BackPart}
use Rattle.loc_back.specs.Steps.{loading}
use Rattle.loc_back.specs.Served.{Section, lives, lives_from, wanted, Leads, AreMarked, with_homed, Route, MayBeHomed, Backed, IsEnding}
use Rattle.loc_back.proofs.Turning.{map_below}
use Rattle.loc_back.proofs.Standing.{was_back, standing_emptied, was_written, standing_filled, not_noted, used_push, used_written}
use Rattle.loc_back.proofs.Opening.{settled_at}

pub lives_last : (b : Section) (v : ℕ) → lives_from b (length b.ops) v ≡ has b.after v
lives_last b v = ap (λ ops. lives ops b.after v) (drop_all (length b.ops) b.ops (omega arith))

-- end places hold where what is wanted stands
end_places : (b : Section) (marks : ℕ → Bool) (regs : List (Option ℕ)) (homes : List ℕ) → AreMarked marks b.after homes → (view : Spot → Option ℕ) → Below (wanted marks (lives_from b (length b.ops)) regs) view → Below (view_of (with_homed regs homes)) view
end_places b marks regs homes marked view wants (reg r) u e = wants (reg r) u e
end_places b marks regs homes marked view wants (home v) u e =
    let m = is_marked (has homes v) v u e in
    by (has b.after v) refl (marks v) refl (sym (marked v) ∙ m.0) ∙ ap Some m.1
  where
    by : (c : Bool) → has b.after v ≡ c → (d : Bool) → marks v ≡ d → cond c d false ≡ true → view (home v) ≡ Some v
    by true h true k e = wants (home v) v (ap (λ c. cond c (cond (marks v) (Some v) None) None) (lives_last b v ∙ h) ∙ ap (λ c. cond c (Some v) None) k)
    by true h false k e = cc
    by false h d k e = cc
end_places b marks regs homes marked view wants (out s) u e = cc
end_places b marks regs homes marked view wants target u e = cc
end_places b marks regs homes marked view wants saved u e = cc

pub ending_backed : (x : Route) (t : BackPart) → IsEnding x x.here.last t → Backed x (length x.here.ops) (settled_at AtEnd t)
ending_backed x t e = record {
  row = e.row;
  living = λ r v q. lives_last x.here v ∙ e.living r v q;
  serves = λ marks ext homes marked w wn wm wants. (
      let names : w.named ≡ t.noted = wm ∙ ap (λ xs. t.noted ++ xs) e.named ∙ append_nil t.noted in
      subst (λ ls. Leads x.room x.here (with_homed t.regs homes) (loading ls t.lines) w) (sym e.loads)
      (subst (λ ls. Leads x.room x.here (with_homed t.regs homes) ls w) (sym e.lines) (
        tt,
        record {
          done = wn;
          in_range = subst (AllBelow x.room.regs) (sym names) e.are_noted.below;
          uses = ap (map (λ r. w.view (reg r))) names ∙ map_below (get t.regs) (λ r. w.view (reg r)) (λ r u q. wants (reg r) u q) t.noted x.here.last e.are_noted.used;
          places = end_places x.here marks t.regs homes marked w.view wants;
        },
      ))
      );
}

---- Uses at an end

module _ (x : Route) (noted : List ℕ) (t : BackPart) (e : IsEnding x noted t) where
  pub noted_ending : (r v : ℕ) → get t.regs r ≡ Some v → IsEnding x (noted ++ v ∷ []) (record t { noted = t.noted ++ r ∷ [] })
  noted_ending r v q = record {
    row = e.row;
    living = e.living;
    lines = e.lines;
    named = e.named;
    loads = e.loads;
    are_noted = record { below = below_push x.room.regs t.noted r e.are_noted.below (let l = in_row t.regs r v q in let k = e.row.size in omega (arith, l, k)); used = used_push t.regs t.noted noted r v e.are_noted.used q };
  }

  pub filled_ending : (r v : ℕ) → r < length t.regs → get t.regs r ≡ None → in_register t.regs v ≡ false → v < x.room.values → MayBeHomed x.made t.homed v → has x.here.after v ≡ true → IsEnding x (noted ++ v ∷ []) (record t { regs = set t.regs r (Some v); noted = t.noted ++ r ∷ [] })
  filled_ending r v l q absent value free lives =
      let apart = not_noted t.regs r q t.noted noted e.are_noted.used in
      record {
        row = standing_filled x t.homed t.regs r v l absent value free e.row;
        living = λ p u g. ⊎_elim (λ m. ap (has x.here.after) (sym m.1) ∙ lives) (λ m. e.living p u m.1) (was_written t.regs r v p u l g);
        are_noted = record {
          below = below_push x.room.regs t.noted r e.are_noted.below (let k = e.row.size in omega (arith, l, k));
          used = used_push (set t.regs r (Some v)) t.noted noted r v (used_written t.regs t.noted noted r (Some v) l apart e.are_noted.used) (get_or-set_same t.regs r (Some v) None l);
        };
        lines = e.lines;
        named = e.named;
        loads = e.loads;
      }

  pub evicted_ending : (r : ℕ) → r < length t.regs → Apart r t.noted → IsEnding x noted (record t { regs = set t.regs r None; homed = steps.saved (get t.regs r) t.homed })
  evicted_ending r l apart = record {
    row = standing_emptied x t.homed t.regs r (get t.regs r) l e.row;
    living = λ p u g. e.living p u (was_back t.regs r p u l g).1;
    are_noted = record { below = e.are_noted.below; used = used_written t.regs t.noted noted r None l apart e.are_noted.used };
    lines = e.lines;
    named = e.named;
    loads = e.loads;
  }
