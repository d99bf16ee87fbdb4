-- Results node by node.
use Rattle.std.proofs.Common.{◌≡◌, ℕ, zero, suc, ◌<◌, List, [], ◌∷◌, ◌++◌, length, get_or, refl, ap, arith}
use Rattle.block_runs.specs.Blocks.{CodeBlock}
use Rattle.lir_core.specs.declared.places.Places.{Places}
use Rattle.lir_core.specs.declared.places.Line.{Line}
use Rattle.lir_core.specs.Lines.{Room}
use Rattle.lir_core.specs.Spots.{IsRising}
use Rattle.lir_core.specs.Sound.{no_places}
use Rattle.walked_results.specs.Walked.{IsWalkedNode}

module _ (r : Room) (blocks : List CodeBlock) where
  -- the walk accepts each node's part, and the homed values of its end rise
  abbrev pub AllWalked : List ℕ → List Places → List (List Line) → List (List ℕ) → List Places → Type 0
  AllWalked [] [] [] [] [] = Unit {0}
  AllWalked (n ∷ ns) (s ∷ ss) (l ∷ ls) (g ∷ gs) (e ∷ es) = (IsWalkedNode r blocks n s l g e × IsRising e.homed) × AllWalked ns ss ls gs es
  AllWalked _ _ _ _ _ = ⊥

  pub walked_more : (ns : List ℕ) (ss : List Places) (ls : List (List Line)) (gs : List (List ℕ)) (es : List Places) (n : ℕ) (s : Places) (l : List Line) (g : List ℕ) (e : Places) → AllWalked ns ss ls gs es → IsWalkedNode r blocks n s l g e × IsRising e.homed → AllWalked (ns ++ n ∷ []) (ss ++ s ∷ []) (ls ++ l ∷ []) (gs ++ g ∷ []) (es ++ e ∷ [])
  walked_more [] [] [] [] [] n s l g e h w = (w, tt)
  walked_more (m ∷ ns) (s' ∷ ss) (l' ∷ ls) (g' ∷ gs) (e' ∷ es) n s l g e h w = (h.0, walked_more ns ss ls gs es n s l g e h.1 w)
  walked_more [] [] [] [] (y ∷ es) n s l g e h w = absurd h
  walked_more [] [] [] (y ∷ gs) es n s l g e h w = absurd h
  walked_more [] [] (y ∷ ls) gs es n s l g e h w = absurd h
  walked_more [] (y ∷ ss) ls gs es n s l g e h w = absurd h
  walked_more (m ∷ ns) [] ls gs es n s l g e h w = absurd h
  walked_more (m ∷ ns) (y ∷ ss) [] gs es n s l g e h w = absurd h
  walked_more (m ∷ ns) (y ∷ ss) (z ∷ ls) [] es n s l g e h w = absurd h
  walked_more (m ∷ ns) (y ∷ ss) (z ∷ ls) (g' ∷ gs) [] n s l g e h w = absurd h

  -- as many entries of each list, each right
  pub record IsWhole (ns : List ℕ) (ss : List Places) (ls : List (List Line)) (gs : List (List ℕ)) (es : List Places) : Type 0 where
    pub counts : (length ss ≡ length ns) × (length es ≡ length ns) × (length ls ≡ length ns) × (length gs ≡ length ns)
    pub nodes : (i : ℕ) → i < length ns → IsWalkedNode r blocks (get_or ns i 0) (get_or ss i no_places) (get_or ls i []) (get_or gs i []) (get_or es i no_places)
    pub rise : (i : ℕ) → IsRising (get_or es i no_places).homed

  pub whole : (ns : List ℕ) (ss : List Places) (ls : List (List Line)) (gs : List (List ℕ)) (es : List Places) → AllWalked ns ss ls gs es → IsWhole ns ss ls gs es
  whole [] [] [] [] [] h = record { counts = (refl, refl, refl, refl); nodes = λ i l. absurd (omega (arith, l)); rise = λ i. tt }
  whole (n ∷ ns) (s ∷ ss) (l ∷ ls) (g ∷ gs) (e ∷ es) h =
      let w = whole ns ss ls gs es h.1 in
      record { counts = (ap suc w.counts.0, ap suc w.counts.1, ap suc w.counts.2, ap suc w.counts.3); nodes = at w.nodes; rise = rise_at w.rise }
    where
      at : ((i : ℕ) → i < length ns → IsWalkedNode r blocks (get_or ns i 0) (get_or ss i no_places) (get_or ls i []) (get_or gs i []) (get_or es i no_places)) → (i : ℕ) → i < suc (length ns) → IsWalkedNode r blocks (get_or (n ∷ ns) i 0) (get_or (s ∷ ss) i no_places) (get_or (l ∷ ls) i []) (get_or (g ∷ gs) i []) (get_or (e ∷ es) i no_places)
      at on zero lt = h.0.0
      at on (suc i) lt = on i (omega (arith, lt))

      rise_at : ((i : ℕ) → IsRising (get_or es i no_places).homed) → (i : ℕ) → IsRising (get_or (e ∷ es) i no_places).homed
      rise_at on zero = h.0.1
      rise_at on (suc i) = on i
  whole [] [] [] [] (y ∷ es) h = absurd h
  whole [] [] [] (y ∷ gs) es h = absurd h
  whole [] [] (y ∷ ls) gs es h = absurd h
  whole [] (y ∷ ss) ls gs es h = absurd h
  whole (m ∷ ns) [] ls gs es h = absurd h
  whole (m ∷ ns) (y ∷ ss) [] gs es h = absurd h
  whole (m ∷ ns) (y ∷ ss) (z ∷ ls) [] es h = absurd h
  whole (m ∷ ns) (y ∷ ss) (z ∷ ls) (g' ∷ gs) [] h = absurd h
