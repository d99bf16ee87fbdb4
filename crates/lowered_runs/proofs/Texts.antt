-- Texts: characters in memory, and Out.String.
use Rattle.std.proofs.Common.{◌≡◌, ℕ, zero, suc, ◌+◌, ◌*◌, ◌<◌, List, [], ◌∷◌, ◌++◌, length, cond, Bool, true, inl, refl, sym, ap, ◌∙◌, subst, arith, Option, Some, None, false, slice_get, ◌&&◌, ◌^◌, ◌≤◌}
use Rattle.std.specs.Prelude.{option_map, get_or, if◌then◌else◌, ◌==◌}
use Rattle.std.specs.Int.{to_le_bytes, w64}
use Rattle.std.proofs.lemmas.Nat.{le_bytes_8}
use Rattle.run_laws.specs.Turns.{Gives, after, give, ◌>>=◌}
use Rattle.run_laws.specs.Turns.{State as At}
use Rattle.a64_memory.specs.Memory.{Area, covers, bytes_at, loaded8, loaded1, load1, IsRising, IsOfBytes}
use Rattle.a64_memory.proofs.Stores.{length-bytes_at}
use Rattle.a64_memory.proofs.Blocks.{covers-part, of_bytes-bytes_at}
use Rattle.a64_memory.proofs.Copies.{loaded1_in_block}
use Rattle.wrapping_numbers.specs.Numbers.{add64}
use Rattle.a64_memory.specs.Texts.{Bytes, text_at, text_with, before}
use Rattle.block_runs.specs.Effects.{char_bytes, Faults, written}
use Rattle.block_runs.specs.declared.code.Code.TheVariants.{Const, Svc}
use Rattle.ob_types.specs.Forms.{Small, repeated, types_fine}
use Rattle.ob_types.specs.Store.{Cell, Bits, Pointer, Code, Address, Handed, Span, Act, given, bits_in, past, span, span_in, address_in, write, objects, cell_of}
use Rattle.ob_types.specs.Store.{Store as Objects}
use Rattle.ob_types.specs.Operators.{text_of}
use Rattle.ob_types.specs.Expressions.{bits_from, text_in}
use Rattle.ob_types.specs.Statements.{Deed, out_string}
use Rattle.ob_types.specs.WellFormed
use Rattle.ob_types.specs.WellFormed.{Elementary}
use Rattle.ob_types.specs.WellFormed.{Named as Thing}
use Rattle.ob_sound.proofs.Typed.{Good, Names, names_older, Spanned, Stands, form_at, HasForm, older_refl, s_give, Sound}
use Rattle.ob_sound.proofs.Constructs.{letter_forms, s_span}
use Rattle.ssa_lowered.specs.Pieces.{Low, Mask, does}
use Rattle.ssa_lowered.specs.Pieces.{◌>>=◌ as ◌>>>◌}
use Rattle.ssa_lowered.specs.Values.{Named, const, length_in}
use Rattle.ssa_lowered.specs.Values.{address_in as lower_address}
use Rattle.ssa_lowered.specs.Statements.{out_string as lower_string}
use Rattle.object_nodes.specs.Running.{forms_of_all}
use Rattle.ob_types.specs.Trees.{Array, Scalar, scalar_bytes, tree_bytes, tree_cells}
use Rattle.object_bytes.specs.Objects.{load as load_by}
use Rattle.held_stores.specs.Held.{takes_byte}
use Rattle.held_stores.proofs.Stores.{load_is as cell_loaded, stands_covered}
use Rattle.lowered_runs.specs.Words.{Whole, Level, Right, ground, active, Held, AddressIs}
use Rattle.lowered_runs.proofs.Stores.{later_refl, address_few}
use Rattle.lowered_runs.proofs.Ready.{Typing, world_of}
use Rattle.lowered_runs.proofs.Follows.{Fact, And as Both, Steady, steady_and, Grows, grows_bind, grows_emits, grows_does, Follows, FollowsTo, follows_bind, follows_known, follows_does, follows_found, goes_on, effect_at, ActsTo}
use Rattle.lowered_runs.proofs.Homes.{Nothing_more}
use Rattle.lowered_runs.proofs.Designators.{DesignatorIs, steady_designator, grows_address}
use Rattle.lowered_runs.proofs.Elements.{steady_const, follows_const, LengthIn, SpanIs, steady_span, span_by, spanned_same, follows_length_in, grows_length_in, under, element_node, part_at}
use Rattle.lowered_runs.proofs.Sets.{follows_same}

-- the byte of a word that is one
byte_of_word : (m : List Area) (p c : ℕ) → IsRising 0 m → IsOfBytes m → covers m p 8 ≡ true → loaded8 m p ≡ c → c < 256 → load1 m p ≡ Some c
byte_of_word m p c rises bytes cover is few =
    let here : p + 0 ≡ p = omega arith in
    let whole = le_bytes_8 (bytes_at m p 8) c (length-bytes_at m p 8 cover) (λ i. of_bytes-bytes_at m p 8 bytes i) (sym is) in
    let low = loaded1_in_block m 0 p 8 0 rises cover (omega arith) in
    ap (λ t. cond t (Some (loaded1 m p)) None) (covers-part m p 8 p 1 cover (omega arith) (omega arith))
    ∙ ap (λ x. Some x) (ap (loaded1 m) (sym here) ∙ low ∙ ap (λ bs. get_or bs 0 0) (sym whole) ∙ small c few)
  where
    small : (c : ℕ) → c < 256 → get_or (to_le_bytes w64 c) 0 0 ≡ c
    small c few = omega (arith, few)

-- of what is loaded by either width
byte_loaded : (b : Bool) (m : List Area) (p c : ℕ) → IsRising 0 m → IsOfBytes m → covers m p (scalar_bytes b) ≡ true → load_by b m p ≡ c → c < 256 → load1 m p ≡ Some c
byte_loaded true m p c rises bytes cover is few = ap (λ t. cond t (Some (loaded1 m p)) None) cover ∙ ap (λ x. Some x) is
byte_loaded false m p c rises bytes cover is few = byte_of_word m p c rises bytes cover is few

-- the characters that stand one behind the other from an address on
unfoldable pub Reads : List ℕ → ℕ → List Area → Type 0
Reads [] x m = Unit {0}
Reads (c ∷ cs) x m = (load1 m x ≡ Some c) × (c < 256) × Reads cs (add64 x char_bytes) m

-- what a service writes of them
text_same : (xs : List ℕ) (x : ℕ) (m : List Area) → Reads xs x m → text_at m char_bytes x (length xs) ≡ Bytes (text_of xs)
unfolding Reads
text_same [] x m h = refl
text_same (zero ∷ xs) x m h = ap (λ o. text_with o x (text_at m char_bytes (add64 x char_bytes) (length xs))) h.0
text_same (suc c ∷ xs) x m h = ap (λ o. text_with o x (text_at m char_bytes (add64 x char_bytes) (length xs))) h.0 ∙ ap (before (suc c)) (text_same xs (add64 x char_bytes) m h.2)

-- characters have one form
small_at : (n i : ℕ) → i < n → slice_get (repeated n (Small ∷ [])) i ≡ Some Small
small_at zero i lt = absurd (omega (arith, lt))
small_at (suc n) zero lt = refl
small_at (suc n) (suc i) lt = small_at n i (omega (arith, lt))

and_true : (b : Bool) → (b && true) ≡ b
and_true true = refl
and_true false = refl

module _ (w : Whole) (l : Level) where
  -- what is typed may be used
  pub follows_typed : {A B : Type 0} {kept : Bool} {need fuel : ℕ} {mask : Mask} {K : Fact} {R : A → B → Fact} {m : Act A} {low : Low B} → FollowsTo w l kept need fuel mask (Both K (λ n f s. Typing w l s)) R m low → FollowsTo w l kept need fuel mask K R m low
  follows_typed one = record {
    grows = one.grows;
    by = λ most g c f s room free le needs few stands fits within known typed r. one.by most g c f s room free le needs few stands fits within (known, typed) typed r;
  }

  -- the characters of an array
  pub record Characters_at (a : Address) (n x : ℕ) (s : At Objects) (m : List Area) : Type 0 where
    pub chars : List ℕ
    pub size : length chars ≡ n
    pub gives : bits_from n a s ≡ Gives chars s
    pub reads : Reads chars x m

  -- a character is as wide as the system's
  pub character_bytes : Right w → tree_bytes w.packed (Scalar Small) ≡ char_bytes
  character_bytes right = ap scalar_bytes (and_true w.packed) ∙ sym right.laid.character ∙ right.character

  module _ (right : Right w) (s : At Objects) (m : List Area) (held : Held w l s.store m) (typed : Typing w l s.store) (n : ℕ) (a : Address) (x : ℕ) (at : AddressIs w l a (Array n (Scalar Small)) x s.store)
      (stands : Stands w.program (forms_of_all w.program l.types) s.store.tags a (repeated n (Small ∷ []))) where
    abbrev here : ℕ → Address
    here c = record { area = a.area; object = a.object; cell = c }

    -- from the i-th one on
    characters_from : (k i c y : ℕ) → c ≡ a.cell + i → y ≡ x + i * tree_bytes w.packed (Scalar Small) → i + k ≡ n → Characters_at (here c) k y s m
    unfolding Reads
    characters_from zero i c y cell byte count = record { chars = []; size = refl; gives = refl; reads = tt }
    characters_from (suc k) i c y cell byte count =
        let lt : i < n = omega (arith, count) in
        let few = address_few w l s.store m a (Array n (Scalar Small)) x held at in
        let inside = under n (tree_bytes w.packed (Scalar Small)) i lt in
        let spot : AddressIs w l (here c) (Scalar Small) y s.store =
        subst (λ c. AddressIs w l (here c) (Scalar Small) y s.store) (one_cell i ∙ sym cell) (part_at w l a (Array n (Scalar Small)) (Scalar Small) (i * tree_cells (Scalar Small)) (i * tree_bytes w.packed (Scalar Small)) x y s.store (element_node w l n i (Scalar Small) lt) at byte) in
        let found = typed.cells (here c) Small (subst (λ c. form_at w.program (forms_of_all w.program l.types) s.store.tags a.area a.object c ≡ Some Small) (sym cell) (stands i Small (small_at n i lt))) in
        let wide = character_bytes right in
        let next : y + char_bytes ≡ x + suc i * tree_bytes w.packed (Scalar Small) = on i (tree_bytes w.packed (Scalar Small)) wide byte in
        by found.0 found.1 found.2 spot
        (characters_from k (suc i) (c + 1) (add64 y char_bytes) (omega (arith, cell)) (small_sum (n * tree_bytes w.packed (Scalar Small)) (i * tree_bytes w.packed (Scalar Small)) (tree_bytes w.packed (Scalar Small)) wide byte few inside ∙ next) (omega (arith, count)))
      where
        one_cell : (i : ℕ) → a.cell + i * 1 ≡ a.cell + i
        one_cell i = omega arith

        on : (i b : ℕ) → b ≡ char_bytes → y ≡ x + i * b → y + char_bytes ≡ x + suc i * b
        on i b wide e = grind (arith, wide, e)

        small_sum : (all o b : ℕ) → b ≡ char_bytes → y ≡ x + o → x + all < 2 ^ 63 → o + b ≤ all → add64 y char_bytes ≡ y + char_bytes
        small_sum all o b wide e few le = omega (arith, wide, e, few, le)

        by : (v : Cell) → cell_of (objects a.area s.store) a.object c ≡ Some v → HasForm w.program Small s.store.tags v → AddressIs w l (here c) (Scalar Small) y s.store → Characters_at (here (c + 1)) k (add64 y char_bytes) s m → Characters_at (here c) (suc k) y s m
        by (Bits number) is few spot rest =
            let value = cell_loaded (ground w) (active l) s.store m (here c) Small y (Bits number) held spot is in
            let cover = stands_covered (ground w) (active l) s.store m (here c) (Scalar Small) y held spot in
            record {
              chars = number ∷ rest.chars;
              size = ap suc rest.size;
              gives = ap (λ o. after (after (given o s) bits_in) (λ x. bits_from k (past (here c) 1) >>= λ xs. give (x ∷ xs))) is ∙ ap (λ e. after e (λ xs. give (number ∷ xs))) rest.gives;
              reads = (byte_loaded (takes_byte (ground w) Small) m y number held.rises held.bytes cover value.0 few, few, rest.reads);
            }
        by (Pointer o) is few spot rest = absurd few
        by (Code g) is few spot rest = absurd few

    pub characters_at : Characters_at a n x s m
    characters_at =
        let e : a.cell ≡ a.cell + 0 = omega arith in
        characters_from n 0 a.cell x e (omega arith) (omega arith)

  ---- Arrays of characters

  abbrev with_length : ℕ → Address → Span
  with_length n a = record { at = a; length = n }

  -- the address and length in what was handed over
  abbrev pub span_of : Option ℕ → Handed → Option Span
  span_of None h = span_in h
  span_of (Some n) h = option_map (with_length n) (address_in h)

  pub span_given : (o : Option ℕ) (h : Handed) (s : At Objects) → given (span_of o h) s ≡ span_by w l o h s
  span_given None h s = refl
  span_given (Some n) h s = by (address_in h)
    where
      by : (a : Option Address) → given (option_map (with_length n) a) s ≡ after (given a s) (λ a. give (with_length n a))
      by None = refl
      by (Some a) = refl

  -- an array that is named so, and the characters that it stands for
  abbrev pub TextIs : Thing → Option ℕ → Handed → Named → Span → ℕ → Fact
  TextIs t o h v a i = Both (SpanIs w l o (Scalar Small) v a i) (λ n f s. Names w.program (forms_of_all w.program l.types) s.tags t h × (span_of o h ≡ Some a))

  pub steady_text : (t : Thing) (o : Option ℕ) (h : Handed) (v : Named) (a : Span) (i : ℕ) → Steady w l (TextIs t o h v a i)
  steady_text t o h v a i = steady_and w l (steady_span w l o (Scalar Small) v a i) (record { by = λ n m f g s u le same later k. (names_older w.program (forms_of_all w.program l.types) s.tags u.tags (λ o k e. later.tag o k e) t h k.0, k.1) })

  abbrev pub NamedText : Mask → Thing → Handed → Named → Fact
  NamedText own t h v = Both (DesignatorIs w l own t h v) (λ n f s. Names w.program (forms_of_all w.program l.types) s.tags t h)

  pub steady_named_text : (own : Mask) (t : Thing) (h : Handed) (v : Named) → Steady w l (NamedText own t h v)
  steady_named_text own t h v = steady_and w l (steady_designator w l own t h v) (record { by = λ n m f g s u le same later k. names_older w.program (forms_of_all w.program l.types) s.tags u.tags (λ o k e. later.tag o k e) t h k })

  -- its characters
  pub text_at_span : (right : Right w) (good : types_fine w.program.types ≡ true) (t : Thing) (o : Option ℕ) (el : Elementary) → WellFormed.elements_in w.program t o ≡ Some el → WellFormed.is_letter w.program el ≡ true → (h : Handed) (v : Named) (a : Span) (i n : ℕ) (f : ℕ → ℕ) (s : At Objects) (m : List Area)
      → Held w l s.store m → Typing w l s.store → TextIs t o h v a i n f s.store → Characters_at a.at a.length (f i) s m
  text_at_span right good t o el is letter h v a i n f s m held typed known =
      characters_at right s m held typed a.length a.at (f i) known.0.1 (stands (span_is known.1.1))
    where
      sound : Sound w.program (forms_of_all w.program l.types) s.store.tags (Spanned w.program (forms_of_all w.program l.types) el (WellFormed.is_writable t)) (span (give h) o)
      sound = s_span w.program good t o el is (s_give w.program h (λ more older. names_older w.program (forms_of_all w.program l.types) s.store.tags more older t h known.1.0))

      by_length : (o : Option ℕ) → span (give h) o s ≡ given (span_of o h) s
      by_length None = refl
      by_length (Some n) = sym (span_given (Some n) h s)

      span_is : span_of o h ≡ Some a → span (give h) o s ≡ Gives a s
      span_is e = by_length o ∙ ap (λ x. given x s) e

      stands : span (give h) o s ≡ Gives a s → Stands w.program (forms_of_all w.program l.types) s.store.tags a.at (repeated a.length (Small ∷ []))
      stands e = subst (λ xs. Stands w.program (forms_of_all w.program l.types) s.store.tags a.at (repeated a.length xs)) (letter_forms w.program good el letter)
          (subst (λ e. Good w.program (forms_of_all w.program l.types) (Spanned w.program (forms_of_all w.program l.types) el (WellFormed.is_writable t)) s.store.tags e) e (sound.by s (older_refl s.store.tags) typed)).2.0

  -- what is known and stays is known behind it
  pub follows_carried : {A B : Type 0} {need fuel : ℕ} {mask : Mask} {K L : Fact} {R Q : A → B → Fact} {m : Act A} {low : Low B} → Steady w l L → Follows w l need fuel mask K (λ a b. Both (R a b) (Q a b)) m low → Follows w l need fuel mask (Both K L) (λ a b. Both (R a b) (λ n f s. L n f s × Q a b n f s)) m low
  follows_carried {m = m} {low = low} steady one = record {
    grows = one.grows;
    by = λ most g c f s room free le needs few stands fits within known typed r.
        goes_on w l (m s) (one.by most g c f s room free le needs few stands fits within known.0 typed r)
        (λ a t z. record {
          values = z.values;
          ready = z.ready;
          later = z.later;
          is = (z.is.0, (steady.by c.values (low c).after.values f z.values s.store t.store (one.grows.by c) z.same z.later known.1, z.is.1));
          same = z.same;
          off = z.off;
          typed = z.typed;
        });
  }

  -- an array that is named, with what it is
  pub follows_spanned : {need fuel : ℕ} {mask : Mask} {K : Fact} (own : Mask) (t : Thing) (o : Option ℕ) → ((h : Handed) (v : Named) → Follows w l need fuel mask (Both K (DesignatorIs w l own t h v)) (SpanIs w l o (Scalar Small) v) (span_by w l o h) (lower_address v 0)) → (h : Handed) (v : Named)
      → Follows w l need fuel mask (Both K (NamedText own t h v)) (TextIs t o h v) (span_by w l o h) (lower_address v 0)
  follows_spanned {K = K} own t o spans h v = record {
    grows = grows_address w l v 0;
    by = λ most g c f s room free le needs few stands fits within known typed r.
        (follows_same w l (given (span_of o h)) (span_by w l o h) (span_given o h)
        (follows_carried (steady_names h) (follows_found w l (span_of o h) (follows_same w l (span_by w l o h) (given (span_of o h)) (λ s. sym (span_given o h s)) (spans h v))))).by most g c f s room free le needs few stands fits within ((known.0, known.1.0), known.1.1) typed r;
  }
    where
      steady_names : (h : Handed) → Steady w l (λ n f s. Names w.program (forms_of_all w.program l.types) s.tags t h)
      steady_names h = record { by = λ n m f g s u le same later k. names_older w.program (forms_of_all w.program l.types) s.tags u.tags (λ o k e. later.tag o k e) t h k }

  ---- Out.String

  abbrev printed : Span → Deed
  printed a = text_in a >>= λ xs. write xs

  pub follows_out_string : {need fuel : ℕ} {mask own : Mask} {K : Fact} {q : Low Named} (right : Right w) (good : types_fine w.program.types ≡ true) (t : Thing) (o : Option ℕ) (el : Elementary) (d : Act Handed) → WellFormed.elements_in w.program t o ≡ Some el → WellFormed.is_letter w.program el ≡ true → Steady w l K
      → ((h : Handed) (v : Named) → Follows w l need fuel mask (Both K (DesignatorIs w l own t h v)) (SpanIs w l o (Scalar Small) v) (span_by w l o h) (lower_address v 0)) → Follows w l need fuel mask K (NamedText own t) d q → Follows w l need fuel mask K (Nothing_more w l) (out_string d o) (lower_string w.layout.character q o)
  follows_out_string {own = own} {K = K} right good t o el d is letter steady spans one =
      follows_same w l (d >>= λ h. span_by w l o h >>= printed) (out_string d o) (spanned_same w l d o printed)
      (follows_bind w l steady one (λ v. grows_bind w l (grows_address w l v 0) (λ i. grows_behind v i))
      (λ h v. follows_bind w l (steady_and w l steady (steady_named_text own t h v)) (follows_spanned own t o spans h v) (λ i. grows_behind v i)
      (λ a i. let known = steady_and w l (steady_and w l steady (steady_named_text own t h v)) (steady_text t o h v a i) in
      follows_bind w l {m = give tt} {h = λ (u : Unit {0}). printed a} known (follows_known w l {K = Both K (LengthIn w l o a.length v)} (λ n f s k. (k.0.0, k.1.0.3)) (follows_length_in w l o a.length v)) (λ j. grows_sized i j)
      (λ u j. follows_bind w l {m = give tt} {h = λ (u : Unit {0}). printed a} (steady_and w l known (steady_const w l a.length j)) (follows_const w l w.layout.character) (λ k. grows_does w l (Svc 3) (i ∷ j ∷ k ∷ []))
      (λ u k. follows_typed (follows_does w l (Svc 3) (i ∷ j ∷ k ∷ []) (λ n f m s held z. acts a i j k n f m s held (text_at_span right good t o el is letter h v a i n f s m held z.1 z.0.0.0.1) z.0.0.1.1 z.0.1.1)))))))
    where
      grows_sized : (i j : ℕ) → Grows w l (const w.layout.character >>> λ k. does (Svc 3) (i ∷ j ∷ k ∷ []))
      grows_sized i j = grows_bind w l (grows_emits w l (Const w.layout.character) []) (λ k. grows_does w l (Svc 3) (i ∷ j ∷ k ∷ []))

      grows_behind : (v : Named) (i : ℕ) → Grows w l (length_in o v >>> λ j. const w.layout.character >>> λ k. does (Svc 3) (i ∷ j ∷ k ∷ []))
      grows_behind v i = grows_bind w l (grows_length_in w l o v) (λ j. grows_sized i j)

      acts : (a : Span) (i j k n : ℕ) (f : ℕ → ℕ) (m : List Area) (s : At Objects) → Held w l s.store m → Characters_at a.at a.length (f i) s m → f j ≡ a.length → f k ≡ w.layout.character
          → ActsTo w l true (λ (u : Unit {0}) (x : ℕ) (t : Objects). Unit {0}) (printed a s) s m (effect_at w l f m s.store (Svc 3) (i ∷ j ∷ k ∷ []))
      acts a i j k n f m s held text size width = inl (record {
        a = tt;
        state = record s { out = s.out ++ text_of text.chars };
        memory = m;
        bytes = text_of text.chars;
        x = 0;
        gives = ap (λ e. after (after e (λ xs. give (text_of xs))) (λ xs. write xs)) text.gives;
        does = inl (ap (λ c. if c == char_bytes then written (world_of w l m s.store) (text_at m char_bytes (f i) (f j)) else Faults 3) (width ∙ right.character)
            ∙ ap (λ z. written (world_of w l m s.store) (text_at m char_bytes (f i) z)) (size ∙ sym text.size) ∙ ap (written (world_of w l m s.store)) (text_same text.chars (f i) m text.reads));
        turns = refl;
        out = refl;
        held = held;
        later = later_refl w l s.store;
        registers = λ y lt r v e. e;
        is = tt;
        typed = λ typed. typed;
      })
