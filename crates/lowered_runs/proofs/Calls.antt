-- Calls: argument words, the call's operation, and what is behind it.
use Rattle.std.proofs.Common.{◌≡◌, Bool, ℕ, zero, suc, ◌+◌, ◌<◌, ◌≤◌, ◌⊎◌, inl, inr, List, [], ◌∷◌, ◌++◌, map, length, true, false, not, slice_index, refl, sym, ap, ◌∙◌, subst, arith, cond, Option, Some, None, eqb-true, eq-eqb, ne_eqb}
use Rattle.std.specs.Prelude.{drop, ◌==◌, if◌then◌else◌}
use Rattle.std.proofs.lemmas.Bool.{cases_lt}
use Rattle.std.proofs.lemmas.List.Sums.{sum_by-cons}
use Rattle.run_laws.specs.Runs.{Moves, Traps, weigh}
use Rattle.run_laws.specs.Turns.{Ending, Gives, Fails, Spent, after, give, ◌>>=◌}
use Rattle.run_laws.specs.Turns.{State as At}
use Rattle.run_laws.proofs.Reached.{pass_quiet}
use Rattle.a64_memory.specs.Memory.{Area, covered, loaded8}
use Rattle.a64_memory.proofs.Shapes.{covers-shapes}
use Rattle.block_runs.specs.declared.code.Code.{Code}
use Rattle.block_runs.specs.declared.code.Code.TheVariants.{Const, Global, Load, Call, CallAt, NotNil}
use Rattle.block_runs.specs.Blocks.{Operation, block_of, procedure_of}
use Rattle.block_runs.specs.States.{Enters, Runs, Point, In, Fault}
use Rattle.block_runs.specs.Effects.{code_at, given_at}
use Rattle.a64_memory.specs.Areas.{data_base}
use Rattle.block_runs.specs.Effects.{Calls as Leads, Gives as Yields, Fails as Refuses}
use Rattle.block_runs.specs.Steps.{set, behind, operate}
use Rattle.block_runs.specs.Points.{least}
use Rattle.ob_types.specs.Forms.{Form, Routines, types_fine}
use Rattle.ob_types.specs.Layout.{kind_of, signature_of}
use Rattle.ob_types.specs.Store.{Cell, Bits, Pointer, Heap, Store, address_in, Address, Handed, At as Addressed, Sized, Tagged, Value, Act, Trap, Span, Senseless, given, cell_of, code_in}
use Rattle.ob_types.specs.Store.{Code as Procedure}
use Rattle.ob_types.specs.Expressions.{Calls, cons, by_value, by_record, by_open, with_tag, called_by_number, called_by_value, result_of}
use Rattle.ob_types.specs.Meaning.{procedure_of as declared_of}
use Rattle.ob_types.specs.WellFormed
use Rattle.ob_types.specs.WellFormed.{callable, open_element}
use Rattle.ob_types.specs.WellFormed.{Named as Thing}
use Rattle.ob_types.specs.declared.types.Formal.{Formal}
use Rattle.ob_types.specs.declared.types.Mode.{Mode}
use Rattle.ob_types.specs.declared.types.Mode.TheVariants.{Place}
use Rattle.ob_types.specs.declared.types.Mode.TheVariants.{Value as OfValue, Record as OfRecord, Open as OfOpen}
use Rattle.ob_types.specs.declared.program.Program.{Program}
use Rattle.ob_types.proofs.Tests.{and_of, none_some}
use Rattle.ob_sound.proofs.Typed.{HasForm, fits_older}
use Rattle.ob_sound.proofs.Handing.{AllTaken, all_taken_older, of_type}
use Rattle.ssa_core.specs.Procedures.{operation_of}
use Rattle.ssa_core.specs.declared.procedure.Op.{Op}
use Rattle.ssa_lowered.specs.Pieces.{Cursor, Low, Mask, emits, does}
use Rattle.ssa_lowered.specs.Pieces.{◌>>=◌ as ◌>>>◌, give as gives}
use Rattle.ssa_lowered.specs.Values.{Named, Beside, Object, length_in, tag_in, Request, by_word, also, call, call_at, with_result, without_result}
use Rattle.ssa_lowered.specs.Values.{At as AtAddress, Held as InRegister, by_record as lower_record, by_open as lower_open, address_in as lower_address}
use Rattle.ssa_lowered.specs.Variables.{words_of, words_by}
use Rattle.ob_types.specs.Trees.{DataTree, Array, Record, data_tree, record_row}
use Rattle.object_nodes.specs.Nodes.{Node}
use Rattle.object_nodes.specs.Running.{forms_of_all}
use Rattle.held_stores.specs.Places.{TagOf as Tag_of}
use Rattle.lowered_runs.specs.Words.{Whole, Level, Right, ValueIs, Held, Later, AddressIs, Apart}
use Rattle.lowered_runs.proofs.Stores.{later_on, value_later, address_later, code_is}
use Rattle.lowered_runs.proofs.Values.{Under, Same, put_here, put_same, under_more, under_at, map_same, off_refl}
use Rattle.lowered_runs.proofs.Standing.{Standing, bulk}
use Rattle.lowered_runs.proofs.Ready.{Position, position, system, world_of, frame_at, runs_at, Typing, Goes, Came_to, Ready, ready_more}
use Rattle.lowered_runs.proofs.Follows.{Fact, And as Both, Steady, steady_and, Grows, grows_bind, grows_give, grows_emits, grows_does, Follows, FollowsTo, DoneTo, Fits, follows_bind, follows_give, follows_known, follows_seen, follows_then, follows_found, steady_fixed, follows_result, follows_emits, follows_does, follows_never, goes_on, op_step, op_pays, effect_at, Acts, acts_give, acts_trap, acts_senseless}
use Rattle.lowered_runs.proofs.Sets.{follows_same}
use Rattle.lowered_runs.proofs.Designators.{SecondIs, NamedIs, RowIs, steady_row, grows_address, follows_address, tree_of, begun_by}
use Rattle.lowered_runs.proofs.Elements.{LengthIn, SpanIs, steady_span, span_by, spanned_same, follows_length_in, grows_length_in}
use Rattle.lowered_runs.proofs.Exprs.{CellIs, steady_cell}
use Rattle.lowered_runs.proofs.Deeds.{follows_same_to}

map_append : (f : ℕ → ℕ) (us vs : List ℕ) → map f (us ++ vs) ≡ map f us ++ map f vs
map_append f [] vs = refl
map_append f (u ∷ us) vs = ap (λ xs. f u ∷ xs) (map_append f us vs)

under_append : (n : ℕ) (us vs : List ℕ) → Under n us → Under n vs → Under n (us ++ vs)
under_append n [] vs a b = b
under_append n (u ∷ us) vs a b = (a.0, under_append n us vs a.1 b)

module _ (w : Whole) (l : Level) where
  ---- Argument words

  -- the words of one argument, and what is asked of those behind them
  abbrev pub OneIs : Store → Mode → ℕ → Handed → List ℕ → (List ℕ → Type 0) → Type 0
  OneIs s OfValue k (Value c) (u ∷ us) on = ValueIs w s.tags c u × on us
  OneIs s Place k (Addressed a) (u ∷ us) on = AddressIs w l a (data_tree w.program.types k) u s × on us
  OneIs s OfRecord k (Tagged a t) (u ∷ v ∷ us) on = AddressIs w l a (Record (record_row w.program.types t)) u s × (SecondIs w l (Tagged a t) v × on us)
  OneIs s OfOpen k (Sized a n) (u ∷ v ∷ us) on = ((e : ℕ) → open_element (kind_of w.program.types k) ≡ Some e → AddressIs w l a (Array n (data_tree w.program.types e)) u s) × ((v ≡ n) × on us)
  OneIs s _ k _ _ on = ⊥

  abbrev pub Words : Store → List Formal → List Handed → List ℕ → Type 0
  Words s [] [] [] = Unit {0}
  Words s (x ∷ xs) (h ∷ hs) us = OneIs s x.mode x.type_number h us (λ rest. Words s xs hs rest)
  Words s _ _ _ = ⊥

  one_on : (s t : Store) (m : Mode) (k : ℕ) (h : Handed) (us : List ℕ) (on next : List ℕ → Type 0) → Later w l s t → ((vs : List ℕ) → on vs → next vs) → OneIs s m k h us on → OneIs t m k h us next
  one_on s t OfValue k (Value c) (u ∷ us) on next later more h = (value_later w l s t c u later h.0, more us h.1)
  one_on s t Place k (Addressed a) (u ∷ us) on next later more h = (address_later w l a (data_tree w.program.types k) u s t later h.0, more us h.1)
  one_on s t OfRecord k (Tagged a d) (u ∷ v ∷ us) on next later more h = (address_later w l a (Record (record_row w.program.types d)) u s t later h.0, (h.1.0, more us h.1.1))
  one_on s t OfOpen k (Sized a n) (u ∷ v ∷ us) on next later more h = ((λ e is. address_later w l a (Array n (data_tree w.program.types e)) u s t later (h.0 e is)), (h.1.0, more us h.1.1))
  one_on s t _ k _ _ on next later more h = absurd h

  words_later : (s t : Store) (xs : List Formal) (hs : List Handed) (us : List ℕ) → Later w l s t → Words s xs hs us → Words t xs hs us
  words_later s t [] [] [] later h = tt
  words_later s t [] [] (u ∷ us) later h = absurd h
  words_later s t [] (x ∷ hs) us later h = absurd h
  words_later s t (x ∷ xs) [] us later h = absurd h
  words_later s t (x ∷ xs) (y ∷ hs) us later h = one_on s t x.mode x.type_number y us (λ rest. Words s xs hs rest) (λ rest. Words t xs hs rest) later (λ vs g. words_later s t xs hs vs later g) h

  one_append : (s : Store) (m : Mode) (k : ℕ) (h : Handed) (us vs : List ℕ) (next : List ℕ → Type 0) → next vs → OneIs s m k h us (λ rest. Words s [] [] rest) → OneIs s m k h (us ++ vs) next
  one_append s OfValue k (Value c) (u ∷ []) vs next more h = (h.0, more)
  one_append s Place k (Addressed a) (u ∷ []) vs next more h = (h.0, more)
  one_append s OfRecord k (Tagged a d) (u ∷ v ∷ []) vs next more h = (h.0, (h.1.0, more))
  one_append s OfOpen k (Sized a n) (u ∷ v ∷ []) vs next more h = (h.0, (h.1.0, more))
  one_append s OfValue k (Value c) (u ∷ x ∷ us) vs next more h = absurd h.1
  one_append s Place k (Addressed a) (u ∷ x ∷ us) vs next more h = absurd h.1
  one_append s OfRecord k (Tagged a d) (u ∷ v ∷ x ∷ us) vs next more h = absurd h.1.1
  one_append s OfOpen k (Sized a n) (u ∷ v ∷ x ∷ us) vs next more h = absurd h.1.1
  one_append s _ k _ _ vs next more h = absurd h

  one_length : (s : Store) (m : Mode) (k : ℕ) (h : Handed) (us : List ℕ) (on : List ℕ → Type 0) (n : ℕ) → ((vs : List ℕ) → on vs → length vs ≡ n) → OneIs s m k h us on → length us ≡ words_by m + n
  one_length s OfValue k (Value c) (u ∷ us) on n long h = let e = long us h.1 in omega (arith, e)
  one_length s Place k (Addressed a) (u ∷ us) on n long h = let e = long us h.1 in omega (arith, e)
  one_length s OfRecord k (Tagged a d) (u ∷ v ∷ us) on n long h = let e = long us h.1.1 in omega (arith, e)
  one_length s OfOpen k (Sized a m) (u ∷ v ∷ us) on n long h = let e = long us h.1.1 in omega (arith, e)
  one_length s _ k _ _ on n long h = absurd h

  -- as many words as the parameters take
  pub words_length : (s : Store) (xs : List Formal) (hs : List Handed) (us : List ℕ) → Words s xs hs us → length us ≡ words_of xs
  words_length s [] [] [] h = refl
  words_length s [] [] (u ∷ us) h = absurd h
  words_length s [] (x ∷ hs) us h = absurd h
  words_length s (x ∷ xs) [] us h = absurd h
  words_length s (x ∷ xs) (y ∷ hs) us h =
      let e = sum_by-cons (λ (x : Formal). words_by x.mode) x xs in
      one_length s x.mode x.type_number y us (λ rest. Words s xs hs rest) (words_of xs) (λ vs g. words_length s xs hs vs g) h ∙ sym e

  -- the words of an argument, and of all arguments
  abbrev pub OneWord : Mode → ℕ → Handed → List ℕ → Fact
  OneWord m k h us n f s = Under n us × OneIs s m k h (map f us) (λ rest. Words s [] [] rest)

  abbrev pub WordsAre : List Formal → List Handed → List ℕ → Fact
  WordsAre xs hs us n f s = Under n us × Words s xs hs (map f us)

  steady_one_word : (m : Mode) (k : ℕ) (h : Handed) (us : List ℕ) → Steady w l (OneWord m k h us)
  steady_one_word m k h us = record {
    by = λ n v f g s t le same later z. (under_more n v us le z.0, subst (λ xs. OneIs t m k h xs (λ rest. Words t [] [] rest)) (sym (map_same n us f g z.0 same)) (one_on s t m k h (map f us) (λ rest. Words s [] [] rest) (λ rest. Words t [] [] rest) later (λ vs x. words_later s t [] [] vs later x) z.1));
  }

  pub steady_words : (xs : List Formal) (hs : List Handed) (us : List ℕ) → Steady w l (WordsAre xs hs us)
  steady_words xs hs us = record {
    by = λ n v f g s t le same later z. (under_more n v us le z.0, subst (λ ys. Words t xs hs ys) (sym (map_same n us f g z.0 same)) (words_later s t xs hs (map f us) later z.1));
  }

  pub follows_by_value : {fuel : ℕ} {mask : Mask} {K : Fact} {x : Act Cell} {low : Low ℕ} (k : ℕ) → Steady w l K → Follows w l 0 fuel mask K (CellIs w l) x low → Follows w l 0 fuel mask K (OneWord OfValue k) (by_value x) (by_word low)
  follows_by_value k steady one = follows_bind w l steady one (λ a. grows_give w l (a ∷ [])) (λ c a. follows_give w l (Value c) (a ∷ []) (λ n f s z. ((z.1.0, tt), (z.1.1, tt))))

  -- an address
  pub follows_by_place : {fuel : ℕ} {mask : Mask} {K : Fact} {x : Act Address} {low : Low ℕ} (k : ℕ) → Steady w l K → Follows w l 0 fuel mask K (RowIs w l (data_tree w.program.types k)) x low → Follows w l 0 fuel mask K (OneWord Place k) (λ s. (x >>= λ a. give (Addressed a)) s) (by_word low)
  follows_by_place k steady one = follows_bind w l steady one (λ a. grows_give w l (a ∷ [])) (λ c a. follows_give w l (Addressed c) (a ∷ []) (λ n f s z. ((z.1.0, tt), (z.1.1, tt))))

  -- a record's address, and its tag: that of its own type where no other goes with it
  abbrev TagIs : Handed → ℕ → ℕ → Fact
  TagIs h r i n f s = (i < n) × ((a : Address) (t : ℕ) → with_tag h r ≡ Some (Tagged a t) → f i ≡ w.descriptor t)

  steady_tag : (h : Handed) (r i : ℕ) → Steady w l (TagIs h r i)
  steady_tag h r i = record { by = λ n u f g s t le same later k. let lt = k.0 in (omega (arith, le, lt), (λ a b e. same i k.0 ∙ k.1 a b e)) }

  tag_of_handed : (a b : Address) (r t : ℕ) → Some (Tagged a r) ≡ Some (Tagged b t) → r ≡ t
  tag_of_handed a b r t e = cc

  grows_tag : (descriptor : ℕ) (v : Named) → Grows w l (tag_in descriptor v)
  grows_tag descriptor (AtAddress i) = grows_emits w l (Global descriptor) []
  grows_tag descriptor (Beside i j) = grows_give w l j
  grows_tag descriptor (Object i) = grows_emits w l Load (i ∷ [])
  grows_tag descriptor (InRegister x) = grows_emits w l (Const 0) []

  follows_tag : {fuel : ℕ} {mask : Mask} {K : Fact} (own : Mask) (d : Thing) (h : Handed) (v : Named) (r descriptor : ℕ) → w.descriptor r ≡ data_base + descriptor → ((x : ℕ) → own x ≡ true → l.in_register x ≡ false)
      → Follows w l 0 fuel mask (Both K (NamedIs w l own d h v)) (λ (u : Unit {0}) i. TagIs h r i) (give tt) (tag_in descriptor v)
  follows_tag own d h (AtAddress i) r descriptor placed memory = follows_emits w l (Global descriptor) [] (λ n f m s held known. acts_give w l tt (data_base + descriptor) held refl refl
      (omega arith, (λ a t e. put_here n (data_base + descriptor) f ∙ sym placed ∙ ap w.descriptor (own_tag h known.1.1.0 a t known.1.1.1 e))))
    where
      own_tag : (h : Handed) (c a : Address) (t : ℕ) → h ≡ Addressed c → with_tag h r ≡ Some (Tagged a t) → r ≡ t
      own_tag h c a t is e = tag_of_handed c a r t (sym (ap (λ x. with_tag x r) is) ∙ e)
  follows_tag own d h (Beside i j) r descriptor placed memory = follows_seen w l j (λ n f s m held typed known. inl (tt, refl, (known.1.1.0, (λ a t e. second h a t (f j) known.1.1.1.3 e))))
    where
      second : (h : Handed) (a : Address) (t y : ℕ) → SecondIs w l h y → with_tag h r ≡ Some (Tagged a t) → y ≡ w.descriptor t
      second (Tagged c k) a t y is e = is ∙ ap w.descriptor (tag_of_handed c a k t e)
      second (Sized c k) a t y is e = none_some (Tagged a t) e
      second (Addressed c) a t y is e = absurd is
      second (Value c) a t y is e = absurd is
  follows_tag own d h (Object i) r descriptor placed memory = follows_emits w l Load (i ∷ []) (λ n f m s held known.
      let z = known.1.1 in
      let cover = covers-shapes m (f i) 8 ∙ ap (λ ss. covered ss (f i) 8) held.areas ∙ held.room.lies (Tag_of z.0) (f i) 8 (z.4, refl) in
      acts_give w l tt (loaded8 m (f i)) held refl (ap (λ b. given_at (f i) (cond b (Some (loaded8 m (f i))) None) Yields) cover)
      (omega arith, (λ a t e. put_here n (loaded8 m (f i)) f ∙ (held.tags z.0 z.1 (f i) z.3 z.4).0 ∙ ap w.descriptor (its_tag h z.0 z.1 a t z.2 e))))
    where
      its_tag : (h : Handed) (o k : ℕ) (a : Address) (t : ℕ) → h ≡ Tagged (record { area = Heap; object = o; cell = 0 }) k → with_tag h r ≡ Some (Tagged a t) → k ≡ t
      its_tag h o k a t is e = tag_of_handed (record { area = Heap; object = o; cell = 0 }) a k t (sym (ap (λ x. with_tag x r) is) ∙ e)
  follows_tag own d h (InRegister x) r descriptor placed memory = follows_never w l (λ n f s g. differ (sym g.1.2 ∙ memory x g.1.3)) (grows_tag descriptor (InRegister x))
    where
      differ : true ≡ false → ⊥
      differ e = cc

  pub follows_by_record : {fuel : ℕ} {mask : Mask} {K : Fact} {A : Handed → Named → Fact} {q : Low Named} (k r : ℕ) (own : Mask) (d : Thing) (descriptor : ℕ) (place_of : Act Handed) → Steady w l K → w.descriptor r ≡ data_base + descriptor → ((x : ℕ) → own x ≡ true → l.in_register x ≡ false) → ((h : Handed) (v : Named) → Steady w l (A h v))
      → ((h : Handed) (v : Named) (n : ℕ) (f : ℕ → ℕ) (s : Store) → A h v n f s → NamedIs w l own d h v n f s)
      → ((h : Handed) (v : Named) (n : ℕ) (f : ℕ → ℕ) (s : Store) → A h v n f s → (a : Address) (t : ℕ) → with_tag h r ≡ Some (Tagged a t) → Node w.packed (tree_of w l d h) 0 0 (Record (record_row w.program.types t)))
      → Follows w l 0 fuel mask K A place_of q → Follows w l 0 fuel mask K (OneWord OfRecord k) (by_record place_of r) (lower_record q descriptor)
  follows_by_record {fuel = fuel} {mask = mask} {K = K} {A = A} k r own d descriptor place_of steady placed memory steady_record names rows one =
      follows_same w l (place_of >>= λ h. given (address_in h) >>= λ a. given (with_tag h r)) (by_record place_of r) (λ s. regroup (place_of s))
      (follows_bind w l steady one (λ v. grows_bind w l (grows_address w l v 0) (λ i. grows_second v i))
      (λ h v. follows_bind w l (steady_and w l steady (steady_record h v))
      (follows_found w l (address_in h) (follows_known w l {K = Both K (NamedIs w l own d h v)} (λ n f s z. (z.0, names h v n f s z.1)) (follows_address w l own d h v (inr memory))))
      (λ i. grows_second v i)
      (λ a i. let known = steady_and w l (steady_and w l steady (steady_record h v)) (steady_and w l (steady_row w l (tree_of w l d h) a i) (steady_fixed w l (address_in h ≡ Some a))) in
      follows_bind w l {m = give tt} {h = λ (u : Unit {0}). given (with_tag h r)} known (follows_known w l {K = Both K (NamedIs w l own d h v)} (λ n f s z. (z.0.0, names h v n f s z.0.1)) (follows_tag own d h v r descriptor placed memory)) (λ z. grows_give w l (i ∷ z ∷ []))
      (λ u z. follows_seen w l (i ∷ z ∷ []) (λ n f s m held typed g. by h v a i z n f s g.0.0.1 g.0.1 g.1)))))
    where
      grows_second : (v : Named) (i : ℕ) → Grows w l (tag_in descriptor v >>> λ z. gives (i ∷ z ∷ []))
      grows_second v i = grows_bind w l (grows_tag descriptor v) (λ z. grows_give w l (i ∷ z ∷ []))

      no_address : (h : Handed) (s : At Store) → after (given (address_in h) s) (λ a. given (with_tag h r)) ≡ given (with_tag h r) s
      no_address (Addressed a) s = refl
      no_address (Sized a n) s = refl
      no_address (Tagged a t) s = refl
      no_address (Value c) s = refl

      regroup : (e : Ending Store Trap Handed) → after e (λ h. given (address_in h) >>= λ a. given (with_tag h r)) ≡ after e (λ h. given (with_tag h r))
      regroup (Gives h s) = no_address h s
      regroup (Fails trap out) = refl
      regroup (Spent out) = refl

      same : (a b : Address) → Some b ≡ Some a → a ≡ b
      same a b e = cc

      -- the words are those of the record and its tag
      words : (b a : Address) (t i z n : ℕ) (f : ℕ → ℕ) (s : Store) (row : DataTree) → Some b ≡ Some a → Node w.packed row 0 0 (Record (record_row w.program.types t)) → RowIs w l row a i n f s → (z < n) × (f z ≡ w.descriptor t) → OneWord OfRecord k (Tagged b t) (i ∷ z ∷ []) n f s
      words b a t i z n f s row is long at tag = ((at.0, (tag.0, tt)), (begun_by w l b row (Record (record_row w.program.types t)) (f i) s long (subst (λ a. AddressIs w l a row (f i) s) (same a b is) at.1), (tag.1, tt)))

      by : (h : Handed) (v : Named) (a : Address) (i z n : ℕ) (f : ℕ → ℕ) (s : At Store) → A h v n f s.store → RowIs w l (tree_of w l d h) a i n f s.store × (address_in h ≡ Some a) → TagIs h r z n f s.store
          → ((x : Handed) × (given (with_tag h r) s ≡ Gives x s) × OneWord OfRecord k x (i ∷ z ∷ []) n f s.store) ⊎ (given (with_tag h r) s ≡ Fails Senseless s.out)
      by (Addressed b) v a i z n f s is at tag = inl (Tagged b r, refl, words b a r i z n f s.store (tree_of w l d (Addressed b)) at.1 (rows (Addressed b) v n f s.store is b r refl) at.0 (tag.0, tag.1 b r refl))
      by (Tagged b t) v a i z n f s is at tag = inl (Tagged b t, refl, words b a t i z n f s.store (tree_of w l d (Tagged b t)) at.1 (rows (Tagged b t) v n f s.store is b t refl) at.0 (tag.0, tag.1 b t refl))
      by (Sized b n2) v a i z n f s is at tag = inr refl
      by (Value c) v a i z n f s is at tag = inr refl

  -- an array's address, and its length
  pub follows_by_open : {fuel : ℕ} {mask : Mask} {K : Fact} {A : Handed → Named → Fact} {q : Low Named} (k : ℕ) (o : Option ℕ) (c : DataTree) (place_of : Act Handed) → Steady w l K → ((h : Handed) (v : Named) → Steady w l (A h v)) → ((e : ℕ) → open_element (kind_of w.program.types k) ≡ Some e → c ≡ data_tree w.program.types e)
      → ((h : Handed) (v : Named) → Follows w l 0 fuel mask (Both K (A h v)) (SpanIs w l o c v) (span_by w l o h) (lower_address v 0)) → Follows w l 0 fuel mask K A place_of q → Follows w l 0 fuel mask K (OneWord OfOpen k) (by_open place_of o) (lower_open q o)
  follows_by_open {K = K} {A = A} k o c place_of steady steady_array same spans one =
      follows_same w l (place_of >>= λ h. span_by w l o h >>= handed) (by_open place_of o) (spanned_same w l place_of o handed)
      (follows_bind w l steady one (λ v. grows_bind w l (grows_address w l v 0) (λ i. grows_second v i))
      (λ h v. follows_bind w l (steady_and w l steady (steady_array h v)) (spans h v) (λ i. grows_second v i)
      (λ a i. follows_bind w l {m = give tt} {h = λ (u : Unit {0}). handed a} (steady_and w l (steady_and w l steady (steady_array h v)) (steady_span w l o c v a i))
      (follows_known w l {K = Both K (LengthIn w l o a.length v)} (λ n f s g. (g.0.0, g.1.3)) (follows_length_in w l o a.length v)) (λ z. grows_give w l (i ∷ z ∷ []))
      (λ u z. follows_give w l (Sized a.at a.length) (i ∷ z ∷ []) (λ n f s g. ((g.0.1.0, (g.1.0, tt)), ((λ e is. subst (λ b. AddressIs w l a.at (Array a.length b) (f i) s) (same e is) g.0.1.1), (g.1.1, tt))))))))
    where
      handed : Span → Act Handed
      handed a = give (Sized a.at a.length)

      grows_second : (v : Named) (i : ℕ) → Grows w l (length_in o v >>> λ z. gives (i ∷ z ∷ []))
      grows_second v i = grows_bind w l (grows_length_in w l o v) (λ z. grows_give w l (i ∷ z ∷ []))

  pub follows_no_words : {fuel : ℕ} {mask : Mask} {K : Fact} → Follows w l 0 fuel mask K (WordsAre []) (give []) (gives [])
  follows_no_words = follows_give w l [] [] (λ n f s z. (tt, tt))

  pub follows_words : {fuel : ℕ} {mask : Mask} {K : Fact} {a : Act Handed} {more : Act (List Handed)} {low : Low (List ℕ)} {rest : Low (List ℕ)} (x : Formal) (xs : List Formal) → Steady w l K
      → Follows w l 0 fuel mask K (OneWord x.mode x.type_number) a low → Follows w l 0 fuel mask K (WordsAre xs) more rest → Follows w l 0 fuel mask K (WordsAre (x ∷ xs)) (cons a more) (also low rest)
  follows_words x xs steady one two = follows_bind w l steady one (λ us. grows_bind w l two.grows (λ vs. grows_give w l (us ++ vs)))
      (λ h us. follows_bind w l (steady_and w l steady (steady_one_word x.mode x.type_number h us)) (follows_known w l (λ n f s z. z.0) two) (λ vs. grows_give w l (us ++ vs))
      (λ hs vs. follows_give w l (h ∷ hs) (us ++ vs) (λ n f s z. (
        under_append n us vs z.0.1.0 z.1.0,
        subst (λ ys. OneIs s x.mode x.type_number h ys (λ rest. Words s xs hs rest)) (sym (map_append f us vs)) (one_append s x.mode x.type_number h (map f us) (map f vs) (λ rest. Words s xs hs rest) z.1.1 z.0.1.1),
      ))))

-- the procedure whose code is at its address
code_found : (code : ℕ → ℕ) (n g : ℕ) → ((i : ℕ) → i < n → code i ≡ code g → i ≡ g) → g < n → code_at code n (code g) ≡ Some g
code_found code zero g apart lt = absurd (omega (arith, lt))
code_found code (suc n) g apart lt = by (code n == code g) refl (λ less. code_found code n g (λ i below e. apart i (omega (arith, below)) e) less)
  where
    differ : {b : Bool} → b ≡ true → b ≡ false → ⊥
    differ e f = cc

    below : n ≡ g ⊎ (g < n) → (code n == code g) ≡ false → g < n
    below (inl same) e = absurd (differ (eq-eqb (code n) (code g) (ap code same)) e)
    below (inr less) e = less

    one_of : (g < n) ⊎ (n ≤ g) → n ≡ g ⊎ (g < n)
    one_of (inl less) = inr less
    one_of (inr more) = inl (omega (arith, lt, more))

    by : (b : Bool) → (code n == code g) ≡ b → (g < n → code_at code n (code g) ≡ Some g) → (if b then Some n else code_at code n (code g)) ≡ Some g
    by true e rest = ap (λ i. Some i) (apart n (omega arith) (eqb-true (code n) (code g) e))
    by false e rest = rest (below (one_of (cases_lt g n)) e)

-- what is behind RETURN
abbrev pub AnswerIs : (w : Whole) (l : Level) → Option Cell → Option ℕ → Fact
AnswerIs w l None None = λ n f s. Unit {0}
AnswerIs w l (Some c) (Some i) = CellIs w l c i
AnswerIs w l _ _ = λ n f s. ⊥

-- what is below a call
pub record Stacked (l : Level) : Type 0 where
  pub deep : l.frame ≤ length l.sizes
  pub own : (x : ℕ) → x < l.count → l.frame < length l.sizes
  pub depth : length l.types ≡ length l.sizes

-- a value that is wanted is given
abbrev pub GivesFor : Program → ℕ → Option ℕ → Type 0
GivesFor p g None = Unit {0}
GivesFor p g (Some v) = (k : Form) × (WellFormed.form_of p (declared_of p g).result ≡ Some k)

-- the number that stands for a result, where one is wanted
abbrev pub ResultIs : Whole → Option ℕ → Option Cell → Store → ℕ → Type 0
ResultIs w None r s x = Unit {0}
ResultIs w (Some v) None s x = ⊥
ResultIs w (Some v) (Some c) s x = ValueIs w s.tags c x

-- behind a call, whose operation stands at c
pub record Back (w : Whole) (l : Level) (def : Option ℕ) (c : Position) (f : ℕ → ℕ) (s : Store) (most : ℕ) (free : (Point → ℕ) → ℕ) (r : Option Cell) (t : At Store) : Type 0 where
  pub memory : List Area
  pub x : ℕ
  pub reached : Came_to w most 1 t.turns t.out (Runs (behind (frame_at l c f) def x) l.callers (world_of w l memory t.store)) free
  pub held : Held w l t.store memory
  pub later : Later w l s t.store
  pub still : (x : ℕ) → x < l.count → l.in_register x ≡ true → cell_of t.store.frames l.frame (l.cell x) ≡ cell_of s.frames l.frame (l.cell x)
  pub is : ResultIs w def r t.store x

-- what calls do, in whatever level they are made: from a procedure's entry, with its argument words, to behind the call
pub record Calling (w : Whole) (good : types_fine w.program.types ≡ true) (fuel : ℕ) (calls : Calls) : Type 0 where
  pub by : (l : Level) (g : ℕ) (hs : List Handed) (xs : List ℕ) (def : Option ℕ) (most : ℕ) (c : Position) (f : ℕ → ℕ) (s : At Store) (m : List Area) (room free : (Point → ℕ) → ℕ) (op : Operation) (rest : List Operation)
      → Stacked l → Apart w l → callable w.program g ≡ true → GivesFor w.program g def → most ≤ fuel → ((h : Point → ℕ) → free h ≤ weigh h w.points)
      → drop c.op (block_of (procedure_of w.procedures l.proc) c.block).ops ≡ op ∷ rest → op.def ≡ def
      → Came_to w most 1 s.turns s.out (Enters g xs (frame_at l c f ∷ l.callers) (world_of w l m s.store)) room
      → Held w l s.store m → Typing w l s.store → AllTaken w.program good (forms_of_all w.program l.types) s.store.tags (declared_of w.program g).formals hs → Words w l s.store (declared_of w.program g).formals hs xs
      → Goes w (calls g hs s) (Back w l def c f s.store most free)

module _ (w : Whole) (l : Level) (right : Right w) (apart : Apart w l) (stacked : Stacked l) (good : types_fine w.program.types ≡ true) where
  -- what is known where a call is made
  abbrev pub Known : List Formal → List Handed → List ℕ → Fact
  Known xs hs us n f s = WordsAre w l xs hs us n f s × AllTaken w.program good (forms_of_all w.program l.types) s.tags xs hs

  steady_known : (xs : List Formal) (hs : List Handed) (us : List ℕ) → Steady w l (Known xs hs us)
  steady_known xs hs us = record {
    by = λ n v f h s t le same later z. ((steady_words w l xs hs us).by n v f h s t le same later z.0, all_taken_older w.program good (forms_of_all w.program l.types) s.tags t.tags (λ o k e. later.tag o k e) xs hs z.1);
  }

  -- the operation leads to the procedure's entry
  call_step : (c : Position) (f : ℕ → ℕ) (m : List Area) (s : Store) (g : ℕ) (us : List ℕ) (op : Op) → callable w.program g ≡ true → length (map f us) ≡ words_of (declared_of w.program g).formals
      → effect_at w l f m s op.code op.uses ≡ Leads (Some g) (map f us) → ((rest : List Operation) × (drop c.op (block_of (procedure_of w.procedures l.proc) c.block).ops ≡ operation_of op ∷ rest))
      → (system w).step (runs_at w l c f m s) ≡ Moves [] (Enters g (map f us) (frame_at l c f ∷ l.callers) (world_of w l m s))
  call_step c f m s g us op ok long leads stands =
      op_step w l c f m s op stands
      ∙ ap (operate w.procedures (operation_of op) (frame_at l c f) l.callers (world_of w l m s)) leads
      ∙ ap (λ b. if b then Moves [] (Enters g (map f us) (frame_at l c f ∷ l.callers) (world_of w l m s)) else Traps (Fault g)) (right.may g ok (map f us) long)

  -- the caller behind a call
  back_ready : (most gain : ℕ) (c : Cursor) (f : ℕ → ℕ) (s : At Store) (room free : (Point → ℕ) → ℕ) (def : Option ℕ) (after : Position) (values : ℕ → ℕ) (r : Option Cell) (t : At Store)
      → Ready w l most gain (position c) f s room → (b : Back w l def (position c) f s.store most free r t) → (Runs (behind (frame_at l (position c) f) def b.x) l.callers (world_of w l b.memory t.store) ≡ runs_at w l after values b.memory t.store) → after.env ≡ c.env → c.values ≤ after.values → Same c.values f values
      → Ready w l most 1 after values t free
  back_ready most gain c f s room free def after values r t ready b is env le same = record {
    memory = b.memory;
    reached = subst (λ st. Came_to w most 1 t.turns t.out st free) is b.reached;
    held = b.held;
    size = ap length env ∙ ready.size;
    under = subst (Under after.values) (sym env) (under_more c.values after.values c.env le ready.under);
    registers = λ y lt reg v at.
        let z = ready.size in
        subst (λ us. ValueIs w t.store.tags v (values (slice_index us y))) (sym env)
        (subst (λ n. ValueIs w t.store.tags v n) (sym (same (slice_index c.env y) (under_at c.values c.env y (omega (arith, lt, z)) ready.under)))
        (value_later w l s.store t.store v (f (slice_index c.env y)) b.later (ready.registers y lt reg v (sym (b.still y lt reg) ∙ at))));
    since = later_on w l l.store s.store t.store ready.since b.later;
  }

  module _ {fuel : ℕ} (calls : Calls) (calling : Calling w good fuel calls) where
    -- an operation that calls a procedure
    abbrev Enters_with : Fact → ℕ → List ℕ → Code → List ℕ → Type 0
    Enters_with K g us code uses = (n : ℕ) (f : ℕ → ℕ) (s : Store) (m : List Area) → K n f s → effect_at w l f m s code uses ≡ Leads (Some g) (map f us)

    -- a call that gives a value
    follows_call : {mask : Mask} {K : Fact} (code : Code) (uses : List ℕ) (g : ℕ) (hs : List Handed) (us : List ℕ) → callable w.program g ≡ true → ((v : ℕ) → GivesFor w.program g (Some v)) → Enters_with K g us code uses
        → FollowsTo w l false 0 fuel mask (Both K (Known (declared_of w.program g).formals hs us)) (λ r i n f s. (i < n) × ResultIs w (Some i) r s (f i)) (calls g hs) (emits code uses)
    follows_call {mask = mask} {K = K} code uses g hs us ok has leads = record {
      grows = grows_emits w l code uses;
      by = λ most gain c f s room free le needs few stands fits within known typed r.
          let op : Op = record { code = code; uses = uses; def = Some c.values } in
          goes_on w l (calls g hs s)
          (calling.by l g hs (map f us) (Some c.values) most (position c) f s r.memory free free (operation_of op) stands.0.0 stacked apart ok (has c.values) le (λ h. let z = within h in omega (arith, z)) stands.0.1 refl
          (pass_quiet (system w) (least w.procedures) w.points w.first w.turns 1 free (In l.proc c.block c.op) (Enters g (map f us) (frame_at l (position c) f ∷ l.callers) (world_of w l r.memory s.store)) r.reached refl
          (call_step (position c) f r.memory s.store g us op ok (words_length w l s.store (declared_of w.program g).formals hs (map f us) known.1.0.1) (leads c.values f s.store r.memory known.0) stands.0)
          (λ h. let z = fits h in omega (arith, z)) (let e = op_pays w l (position c) op stands.0 in omega (arith, e)))
          r.held typed known.1.1 known.1.0.1)
          (λ v t b.
          let ready = back_ready most gain c f s room free (Some c.values) (position (emits code uses c).after) (set f c.values b.x) v t r b refl refl (omega arith) (put_same c.values c.values b.x f (omega arith)) in
          record {
            values = set f c.values b.x;
            ready = ready_more w l most gain free ready (omega arith) few (λ h. omega arith);
            later = b.later;
            is = (omega arith, given_is c.values v t.store b.x (set f c.values b.x c.values) (put_here c.values b.x f) b.is);
            same = put_same c.values c.values b.x f (omega arith);
            off = off_refl mask c.env;
            typed = tt;
          });
    }
      where
        given_is : (i : ℕ) (r : Option Cell) (t : Store) (x y : ℕ) → y ≡ x → ResultIs w (Some i) r t x → ResultIs w (Some i) r t y
        given_is i r t x y e h = subst (λ n. ResultIs w (Some i) r t n) (sym e) h

    -- one that doesn't
    follows_call_only : {mask : Mask} {K : Fact} (code : Code) (uses : List ℕ) (g : ℕ) (hs : List Handed) (us : List ℕ) → callable w.program g ≡ true → Enters_with K g us code uses
        → FollowsTo w l false 0 fuel mask (Both K (Known (declared_of w.program g).formals hs us)) (λ r (u : Unit {0}) n f s. Unit {0}) (calls g hs) (does code uses)
    follows_call_only {mask = mask} {K = K} code uses g hs us ok leads = record {
      grows = grows_does w l code uses;
      by = λ most gain c f s room free le needs few stands fits within known typed r.
          let op : Op = record { code = code; uses = uses; def = None } in
          goes_on w l (calls g hs s)
          (calling.by l g hs (map f us) None most (position c) f s r.memory free free (operation_of op) stands.0.0 stacked apart ok tt le (λ h. let z = within h in omega (arith, z)) stands.0.1 refl
          (pass_quiet (system w) (least w.procedures) w.points w.first w.turns 1 free (In l.proc c.block c.op) (Enters g (map f us) (frame_at l (position c) f ∷ l.callers) (world_of w l r.memory s.store)) r.reached refl
          (call_step (position c) f r.memory s.store g us op ok (words_length w l s.store (declared_of w.program g).formals hs (map f us) known.1.0.1) (leads c.values f s.store r.memory known.0) stands.0)
          (λ h. let z = fits h in omega (arith, z)) (let e = op_pays w l (position c) op stands.0 in omega (arith, e)))
          r.held typed known.1.1 known.1.0.1)
          (λ v t b.
          let ready = back_ready most gain c f s room free None (position (does code uses c).after) f v t r b refl refl (omega arith) (λ u lt. refl) in
          record {
            values = f;
            ready = ready_more w l most gain free ready (omega arith) few (λ h. omega arith);
            later = b.later;
            is = tt;
            same = λ u lt. refl;
            off = off_refl mask c.env;
            typed = tt;
          });
    }

    -- a request is one of a family's, and what is known of that one
    abbrev Asked : {T : Type 0} → (T → Request) → (T → Fact) → Request → Fact
    Asked {T} request L r n f s = (t : T) × (r ≡ request t) × L t n f s

    at_request : {A B T : Type 0} {kept : Bool} {mask : Mask} {K : Fact} {Q : A → B → Fact} {m : Act A} (request : T → Request) (L : T → Fact) (r : Request) (low : Code → List ℕ → Low B) → ((code : Code) (us : List ℕ) → Grows w l (low code us))
        → ((t : T) → FollowsTo w l kept 0 fuel mask (Both K (L t)) Q m (low (request t).code (request t).words)) → FollowsTo w l kept 0 fuel mask (Both K (Asked request L r)) Q m (low r.code r.words)
    at_request {A} {B} {T} {kept} {mask} {K} {Q} {m} request L r low grows one = record {
      grows = grows r.code r.words;
      by = λ most gain c f s room free le needs few stands fits within known typed ready.
          let e = known.1.1 in
          let to = λ (q : Request). Goes w (m s) (DoneTo w l kept Q mask most gain c (low q.code q.words c) s.store f free) in
          subst to (sym e)
          ((one known.1.0).by most gain c f s room free le needs few
          (subst (λ (q : Request). Standing w.procedures l.proc (low q.code q.words c).pieces) e stands)
          (subst (λ (q : Request). (h : Point → ℕ) → bulk l.proc (low q.code q.words c).pieces h + free h ≤ room h) e fits)
          (subst (λ (q : Request). Fits w l (low q.code q.words c).pieces free) e within)
          (known.0, known.1.2) typed ready);
    }

    -- what is behind a call that gives a value
    abbrev pub Returned : Option Cell → ℕ → Fact
    Returned r i n f s = (i < n) × ResultIs w (Some i) r s (f i)

    ---- Calls of declared procedures

    -- arguments, and then the call
    abbrev direct : ℕ → List ℕ → Request
    direct g us = record { code = Call g; words = us }

    asked : {mask : Mask} {K : Fact} {args : Act (List Handed)} {low : Low (List ℕ)} (g : ℕ) → Follows w l 0 fuel mask K (Known (declared_of w.program g).formals) args low
        → Follows w l 0 fuel mask K (λ hs. Asked (direct g) (Known (declared_of w.program g).formals hs)) args (call g low)
    asked g one = follows_result w l (direct g) (λ hs us n f s z. (us, refl, z)) one

    pub follows_called : {mask : Mask} {K : Fact} {args : Act (List Handed)} {low : Low (List ℕ)} (g : ℕ) → Steady w l K → callable w.program g ≡ true → ((v : ℕ) → GivesFor w.program g (Some v)) → Follows w l 0 fuel mask K (Known (declared_of w.program g).formals) args low
        → FollowsTo w l false 0 fuel mask K Returned (called_by_number calls g args) (with_result (call g low))
    follows_called {K = K} g steady ok has one = follows_bind w l steady (asked g one) (λ r. grows_emits w l r.code r.words)
        (λ hs r. at_request {K = K} (direct g) (Known (declared_of w.program g).formals hs) r (λ code us. emits code us) (λ code us. grows_emits w l code us) (λ us. follows_call {K = K} (Call g) us g hs us ok has (λ n f s m k. refl)))

    pub follows_called_only : {mask : Mask} {K : Fact} {args : Act (List Handed)} {low : Low (List ℕ)} (g : ℕ) → Steady w l K → callable w.program g ≡ true → Follows w l 0 fuel mask K (Known (declared_of w.program g).formals) args low
        → FollowsTo w l false 0 fuel mask K (λ r (u : Unit {0}) n f s. Unit {0}) (called_by_number calls g args) (without_result (call g low))
    follows_called_only {K = K} g steady ok one = follows_bind w l steady (asked g one) (λ r. grows_does w l r.code r.words)
        (λ hs r. at_request {K = K} (direct g) (Known (declared_of w.program g).formals hs) r (λ code us. does code us) (λ code us. grows_does w l code us) (λ us. follows_call_only {K = K} (Call g) us g hs us ok (λ n f s m k. refl)))

    ---- Calls through procedure variables

    -- value i is what a variable of procedure type k holds; it is the address of a procedure of that type
    abbrev pub VariableIs : ℕ → Cell → ℕ → Fact
    VariableIs k c i n f s = CellIs w l c i n f s × HasForm w.program (Routines k) s.tags c

    abbrev CodeIs : ℕ → ℕ → ℕ → Fact
    CodeIs k g i n f s = (i < n) × (g < length w.procedures) × (f i ≡ w.code g) × (WellFormed.is_of_type w.program g k ≡ true)

    steady_variable : (k : ℕ) (c : Cell) (i : ℕ) → Steady w l (VariableIs k c i)
    steady_variable k c i = record {
      by = λ n v f h s t le same later z. ((steady_cell w l c i).by n v f h s t le same later z.0, fits_older w.program s.tags t.tags (λ o k e. later.tag o k e) (Routines k) c z.1);
    }

    -- NIL traps
    follows_code : {mask : Mask} {K : Fact} (k : ℕ) (c : Cell) (i : ℕ) → Follows w l 0 fuel mask (Both K (VariableIs k c i)) (λ g (u : Unit {0}). CodeIs k g i) (code_in l.proc c) (does NotNil (i ∷ []))
    follows_code k c i = follows_does w l NotNil (i ∷ []) (λ n f m s held known. by c n f m s held known.1)
      where
        says : (f : ℕ → ℕ) (m : List Area) (s : Store) → effect_at w l f m s NotNil (i ∷ []) ≡ (if not (f i == 0) then Yields 0 else Refuses 2)
        says f m s = refl

        by : (c : Cell) (n : ℕ) (f : ℕ → ℕ) (m : List Area) (s : At Store) → Held w l s.store m → VariableIs k c i n f s.store → Acts w l (λ g x t. CodeIs k g i n f t) (code_in l.proc c s) s m (effect_at w l f m s.store NotNil (i ∷ []))
        by (Procedure g) n f m s held h = acts_give w l g 0 held refl
            (says f m s.store ∙ ap (λ b. if not b then Yields 0 else Refuses 2) (ne_eqb (f i) 0 (λ e. let z = code_is w g (f i) h.0.1 in right.codes.nowhere g z.0 (sym z.1 ∙ e))))
            (h.0.0, (code_is w g (f i) h.0.1).0, (code_is w g (f i) h.0.1).1, h.1)
        by (Bits zero) n f m s held h = acts_trap w l 2 refl (says f m s.store ∙ ap (λ x. if not (x == 0) then Yields 0 else Refuses 2) h.0.1.0)
        by (Bits (suc j)) n f m s held h = acts_senseless w l refl
        by (Pointer o) n f m s held h = acts_senseless w l refl

    -- the variable's value and the arguments; the procedure and its arguments
    abbrev through : ℕ × List ℕ → Request
    through t = record { code = CallAt; words = t.0 ∷ t.1 }

    abbrev Chosen : ℕ → ℕ × List Handed → ℕ × List ℕ → Fact
    Chosen k z t = Both (CodeIs k z.0 t.0) (Known (signature_of w.program.types k).formals z.1 t.1)

    abbrev asked_with : List Handed → ℕ → Act (ℕ × List Handed)
    asked_with hs g = give (g, hs)

    abbrev chosen : Act Cell → Act (List Handed) → Act (ℕ × List Handed)
    chosen x args = x >>= λ c. args >>= λ hs. code_in l.proc c >>= asked_with hs

    follows_chosen : {mask : Mask} {K : Fact} {x : Act Cell} {args : Act (List Handed)} {low : Low ℕ} {words : Low (List ℕ)} (k : ℕ) → Steady w l K → Follows w l 0 fuel mask K (VariableIs k) x low → Follows w l 0 fuel mask K (Known (signature_of w.program.types k).formals) args words
        → Follows w l 0 fuel mask K (λ z. Asked through (Chosen k z)) (chosen x args) (call_at low words)
    follows_chosen k steady one two = follows_bind w l steady one (λ i. grows_bind w l two.grows (λ us. grows_tested i us))
        (λ c i. follows_bind w l (steady_and w l steady (steady_variable k c i)) (follows_known w l (λ n f s z. z.0) two) (λ us. grows_tested i us)
        (λ hs us. follows_bind w l (steady_and w l (steady_and w l steady (steady_variable k c i)) (steady_known (signature_of w.program.types k).formals hs us)) (follows_known w l (λ n f s z. z.0) (follows_code k c i)) (λ u. grows_give w l (through (i, us)))
        (λ g u. follows_give w l (g, hs) (through (i, us)) (λ n f s z. ((i, us), refl, (z.1, z.0.1))))))
      where
        grows_tested : (i : ℕ) (us : List ℕ) → Grows w l (does NotNil (i ∷ []) >>> λ _. gives (through (i, us)))
        grows_tested i us = grows_bind w l (grows_does w l NotNil (i ∷ [])) (λ u. grows_give w l (through (i, us)))

    called_same : (x : Act Cell) (args : Act (List Handed)) (s : At Store) → (chosen x args >>= λ z. calls z.0 z.1) s ≡ called_by_value l.proc calls x args s
    called_same x args s = by_value_of (x s)
      where
        by_code : (hs : List Handed) (e : Ending Store Trap ℕ) → after (after e (asked_with hs)) (λ z. calls z.0 z.1) ≡ after e (λ g. calls g hs)
        by_code hs (Gives g t) = refl
        by_code hs (Fails trap out) = refl
        by_code hs (Spent out) = refl

        by_arguments : (c : Cell) (e : Ending Store Trap (List Handed)) → after (after e (λ hs. code_in l.proc c >>= asked_with hs)) (λ z. calls z.0 z.1) ≡ after e (λ hs. code_in l.proc c >>= λ g. calls g hs)
        by_arguments c (Gives hs t) = by_code hs (code_in l.proc c t)
        by_arguments c (Fails trap out) = refl
        by_arguments c (Spent out) = refl

        by_value_of : (e : Ending Store Trap Cell) → after (after e (λ c. args >>= λ hs. code_in l.proc c >>= asked_with hs)) (λ z. calls z.0 z.1) ≡ after e (λ c. args >>= λ hs. code_in l.proc c >>= λ g. calls g hs)
        by_value_of (Gives c t) = by_arguments c (args t)
        by_value_of (Fails trap out) = refl
        by_value_of (Spent out) = refl

    -- its code is where the value says
    enters_through : (K : Fact) (k g : ℕ) (t : ℕ × List ℕ) → Enters_with (Both K (CodeIs k g t.0)) g t.1 CallAt (t.0 ∷ t.1)
    enters_through K k g t n f s m known =
        ap (λ a. Leads (code_at w.code (length w.procedures) a) (map f t.1)) known.1.2
        ∙ ap (λ o. Leads o (map f t.1)) (code_found w.code (length w.procedures) g (λ i lt e. right.codes.apart i g lt known.1.1 e) known.1.1)

    abbrev GivesThrough : ℕ → Type 0
    GivesThrough k = (f : Form) × (WellFormed.form_of w.program (signature_of w.program.types k).result ≡ Some f)

    -- a procedure of the type has its parameters, and may be called
    of_its_type : (K : Fact) (k : ℕ) (z : ℕ × List Handed) (t : ℕ × List ℕ) (n : ℕ) (f : ℕ → ℕ) (s : Store) → (Both K (Chosen k z t)) n f s
        → (callable w.program z.0 ≡ true) × ((declared_of w.program z.0).result ≡ (signature_of w.program.types k).result) × (Both (Both K (CodeIs k z.0 t.0)) (Known (declared_of w.program z.0).formals z.1 t.1)) n f s
    of_its_type K k z t n f s known =
        let is = known.1.0.3 in
        let type_is = of_type w.program good z.0 k is in (
          (and_of (callable w.program z.0) _ is).0,
          type_is.2,
          ((known.0, known.1.0), subst (λ xs. Known xs z.1 t.1 n f s) (sym type_is.1) known.1.1),
        )

    through_call : {mask : Mask} {K : Fact} (k : ℕ) (z : ℕ × List Handed) (t : ℕ × List ℕ) → GivesThrough k → FollowsTo w l false 0 fuel mask (Both K (Chosen k z t)) Returned (calls z.0 z.1) (emits CallAt (t.0 ∷ t.1))
    through_call {K = K} k z t has = record {
      grows = grows_emits w l CallAt (t.0 ∷ t.1);
      by = λ most gain c f s room free le needs few stands fits within known typed r.
          let q = of_its_type K k z t c.values f s.store known in
          (follows_call {K = Both K (CodeIs k z.0 t.0)} CallAt (t.0 ∷ t.1) z.0 z.1 t.1 q.0 (λ v. (has.0, ap (λ n. WellFormed.form_of w.program n) q.1 ∙ has.1)) (enters_through K k z.0 t)).by most gain c f s room free le needs few stands fits within q.2 typed r;
    }

    through_call_only : {mask : Mask} {K : Fact} (k : ℕ) (z : ℕ × List Handed) (t : ℕ × List ℕ) → FollowsTo w l false 0 fuel mask (Both K (Chosen k z t)) (λ r (u : Unit {0}) n f s. Unit {0}) (calls z.0 z.1) (does CallAt (t.0 ∷ t.1))
    through_call_only {K = K} k z t = record {
      grows = grows_does w l CallAt (t.0 ∷ t.1);
      by = λ most gain c f s room free le needs few stands fits within known typed r.
          let q = of_its_type K k z t c.values f s.store known in
          (follows_call_only {K = Both K (CodeIs k z.0 t.0)} CallAt (t.0 ∷ t.1) z.0 z.1 t.1 q.0 (enters_through K k z.0 t)).by most gain c f s room free le needs few stands fits within q.2 typed r;
    }

    pub follows_called_value : {mask : Mask} {K : Fact} {x : Act Cell} {args : Act (List Handed)} {low : Low ℕ} {words : Low (List ℕ)} (k : ℕ) → Steady w l K → GivesThrough k → Follows w l 0 fuel mask K (VariableIs k) x low → Follows w l 0 fuel mask K (Known (signature_of w.program.types k).formals) args words
        → FollowsTo w l false 0 fuel mask K Returned (called_by_value l.proc calls x args) (with_result (call_at low words))
    follows_called_value {K = K} {x = x} {args = args} k steady has one two = follows_same_to w l (chosen x args >>= λ z. calls z.0 z.1) (called_by_value l.proc calls x args) (called_same x args)
        (follows_bind w l steady (follows_chosen k steady one two) (λ r. grows_emits w l r.code r.words)
        (λ z r. at_request {K = K} through (Chosen k z) r (λ code us. emits code us) (λ code us. grows_emits w l code us) (λ t. through_call {K = K} k z t has)))

    pub follows_called_value_only : {mask : Mask} {K : Fact} {x : Act Cell} {args : Act (List Handed)} {low : Low ℕ} {words : Low (List ℕ)} (k : ℕ) → Steady w l K → Follows w l 0 fuel mask K (VariableIs k) x low → Follows w l 0 fuel mask K (Known (signature_of w.program.types k).formals) args words
        → FollowsTo w l false 0 fuel mask K (λ r (u : Unit {0}) n f s. Unit {0}) (called_by_value l.proc calls x args) (without_result (call_at low words))
    follows_called_value_only {K = K} {x = x} {args = args} k steady one two = follows_same_to w l (chosen x args >>= λ z. calls z.0 z.1) (called_by_value l.proc calls x args) (called_same x args)
        (follows_bind w l steady (follows_chosen k steady one two) (λ r. grows_does w l r.code r.words)
        (λ z r. at_request {K = K} through (Chosen k z) r (λ code us. does code us) (λ code us. grows_does w l code us) (λ t. through_call_only {K = K} k z t)))

    -- the value of a call
    pub follows_result_of : {mask : Mask} {K : Fact} {c : Act (Option Cell)} {low : Low ℕ} → Steady w l K → Follows w l 0 fuel mask K Returned c low → Follows w l 0 fuel mask K (CellIs w l) (result_of c) low
    follows_result_of {K = K} steady one = follows_then w l steady one by
      where
        by : (r : Option Cell) (i n : ℕ) (f : ℕ → ℕ) (s : At Store) → K n f s.store → (i < n) × ResultIs w (Some i) r s.store (f i) → ((x : Cell) × (given r s ≡ Gives x s) × CellIs w l x i n f s.store) ⊎ (given r s ≡ Fails Senseless s.out)
        by None i n f s known h = inr refl
        by (Some c) i n f s known h = inl (c, refl, h)
