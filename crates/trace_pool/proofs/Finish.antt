-- The loop of a finish.
use Rattle.std.proofs.Common.{◌≡◌, ℕ, zero, suc, ◌+◌, ◌<◌, ◌≤◌, List, [], ◌∷◌, ◌++◌, length, drop, get_or, sym, refl, ap, ◌∙◌, subst, arith, append_assoc, append-nil, length-append}
use Rattle.std.specs.Prelude.{Option}
use Rattle.atomic_table.specs.Seated.{TableId}
use Rattle.pool_core.specs.Events.{at_stage}
use Rattle.pool_core.specs.Tree.{children}
use Rattle.pool_core.specs.declared.model.Stage.{Stage}
use Rattle.pool_core.specs.declared.model.Stage.TheVariants.{Trace}
use Rattle.pool_core.specs.declared.model.Event.TheVariants as event
use Rattle.pool_core.specs.declared.model.Seen.TheVariants as seen
use Rattle.trace_pool.specs.declared.parts.Step.{Step}
use Rattle.trace_pool.specs.declared.parts.View.{View}
use Rattle.trace_pool.specs.Plays.{trace_of, count_of, entry, view, Sat}
use Rattle.trace_pool.specs.Sits.{Sits, IsNext, HintsFit, with_child, shown_steps, Amid}

module _ {H : Type 0} (fits : ℕ → H → Type 0) where
  -- the first hint left is that of the next child
  hints_head : (cs : List ℕ) (n c : ℕ) (h : H) (left : List (ℕ × H)) → HintsFit fits (drop n cs) ((c, h) ∷ left)
      → (n < length cs) × (c ≡ get_or cs n 0) × fits c h × HintsFit fits (drop (suc n) cs) left
  hints_head [] zero c h left f = absurd f
  hints_head [] (suc n) c h left f = absurd f
  hints_head (d ∷ ds) zero c h left f = (omega arith, f.0, subst (λ (x : ℕ). fits x h) (sym f.0) f.1, f.2)
  hints_head (d ∷ ds) (suc n) c h left f = let r = hints_head ds n c h left f in (omega arith, r.1, r.2, r.3)

  hints_end : (cs : List ℕ) (n : ℕ) → HintsFit fits (drop n cs) [] → length cs ≤ n
  hints_end [] n f = omega arith
  hints_end (d ∷ ds) zero f = absurd f
  hints_end (d ∷ ds) (suc n) f = omega (arith, hints_end ds n f)

shown-append : (ps : List ℕ) (p : ℕ) → shown_steps (ps ++ p ∷ []) ≡ shown_steps ps ++ entry event.Reserve (seen.Ticket p) ∷ entry event.Show seen.Nothing ∷ []
shown-append [] p = refl
shown-append (q ∷ ps) p = ap (λ (l : List Step). entry event.Reserve (seen.Ticket q) ∷ entry event.Show seen.Nothing ∷ l) (shown-append ps p)

module _ {W H D : Type 0} (parents : W → List (Option ℕ)) (is_hint : W → ℕ → H → Type 0) (z of_seat : TableId) (work : W) where
  pub begins : (t : ℕ) (stage : Stage) (me : Sat W H D) (left : List (ℕ × H)) → Sits parents z of_seat work stage me → stage ≡ me.0.worker.stage → stage ≡ Trace t 0 → HintsFit (is_hint work) (children (parents work) t) left
      → Amid parents is_hint z of_seat work me.0 t stage me left
  begins t stage me left sits same is fits = record {
    sits = sits;
    places = [];
    here = λ i. view me.0.work (at_stage me.0.worker ((sym same ∙ is) i)) (sym (append-nil me.0.trail) i);
    stage_is = is;
    few = omega arith;
    fits = fits;
  }

  module _ (before : View W) (t : ℕ) (stage : Stage) (me : Sat W H D) (c : ℕ) (h : H) (left : List (ℕ × H)) (a : Amid parents is_hint z of_seat work before t stage me ((c, h) ∷ left)) where
    pub next_fits : IsNext (parents work) stage c × is_hint work c h
    next_fits = let r = hints_head (is_hint work) (children (parents work) t) (length a.places) c h left a.fits in
        (subst (λ (st : Stage). IsNext (parents work) st c) (sym a.stage_is) (r.0, r.1), r.2)

    pub goes_on : (of_seat' : TableId) (stage' : Stage) (me' : Sat W H D) (p : ℕ) → Sits parents z of_seat' work stage' me' → stage' ≡ Trace (trace_of stage) (count_of stage + 1) → me'.0 ≡ with_child me.0 p
        → Amid parents is_hint z of_seat' work before t stage' me' left
    goes_on of_seat' stage' me' p sits is here =
        let r = hints_head (is_hint work) (children (parents work) t) (length a.places) c h left a.fits in
        let more : length (a.places ++ p ∷ []) ≡ length a.places + 1 = omega (arith, length-append a.places (p ∷ [])) in
        let more' : length (a.places ++ p ∷ []) ≡ suc (length a.places) = omega arith in
        record {
          sits = sits;
          places = a.places ++ p ∷ [];
          here = here ∙ (ap (λ v. with_child v p) a.here ∙ (λ i. view before.work (at_stage before.worker (Trace t (sym more i))) ((append_assoc (before.trail ++ shown_steps a.places) (entry event.Reserve (seen.Ticket p) ∷ []) (entry event.Show seen.Nothing ∷ []) ∙ (append_assoc before.trail (shown_steps a.places) (entry event.Reserve (seen.Ticket p) ∷ entry event.Show seen.Nothing ∷ []) ∙ ap (λ (l : List Step). before.trail ++ l) (sym (shown-append a.places p)))) i)));
          stage_is = is ∙ (λ i. Trace (trace_of (a.stage_is i)) (count_of (a.stage_is i) + 1)) ∙ ap (λ (n : ℕ). Trace t n) (sym more);
          few = omega (arith, r.0);
          fits = subst (λ (n : ℕ). HintsFit (is_hint work) (drop n (children (parents work) t)) left) (sym more') r.3;
        }

  pub all_shown : (before : View W) (t : ℕ) (stage : Stage) (me : Sat W H D) (left : List (ℕ × H)) (a : Amid parents is_hint z of_seat work before t stage me left) → left ≡ [] → length a.places ≡ length (children (parents work) t)
  all_shown before t stage me left a none =
      let e = hints_end (is_hint work) (children (parents work) t) (length a.places) (subst (HintsFit (is_hint work) (drop (length a.places) (children (parents work) t))) none a.fits) in let f = a.few in omega arith

pub nil_of : {A : Type 0} (xs : List A) (n : ℕ) → length xs ≡ n → n ≡ 0 → xs ≡ []
nil_of [] n e z = refl
nil_of (x ∷ xs) n e z = absurd (omega arith)
