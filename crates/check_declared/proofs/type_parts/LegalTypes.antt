-- Types stay legal: what the judgement leaves of record types, and which lengths arrays have.
use Rattle.std.proofs.Common.{◌≡◌, ℕ, ℤ, pos, negsuc, [], ◌∷◌, ◌++◌, length, true, Option, Some, None, ap, ◌∙◌}
use Rattle.std.specs.Prelude.{slice_get}
use Rattle.ob_types.proofs.Tests.{no}
use Rattle.ob_syntax.specs.Syntax as S
use Rattle.ob_syntax.specs.declared.types.Base.{Base}
use Rattle.ob_judge.specs.Judged.{Judged, Keeps, Breaks, ◌>>=◌}
use Rattle.ob_judge.specs.Shapes as J
use Rattle.ob_judge.specs.Scopes.{Source, World, place}
use Rattle.ob_judge.specs.Symbols.{expression_first}
use Rattle.ob_judge.specs.Expressions.{constant}
use Rattle.ob_judge.specs.Assignments.{int_only}
use Rattle.ob_judge.specs.Making.{Making, with_known, no_layout, new_pointer}
use Rattle.ob_judge.specs.Types.{is_length, size_of, array_length, array_lengths, base_layout}
use Rattle.judged_well.specs.Gives.{Gives}
use Rattle.judged_well.proofs.Judging.{keeps, breaks, and_then, by_some, by_rule, anything}
use Rattle.judged_modules.specs.Agrees.{records_of, bases_of}
use Rattle.judged_modules.specs.Lists.{Each}
use Rattle.judged_modules.proofs.Lists.{get_last, get_within}
use Rattle.judged_programs.specs.Ranked.{IsAdding}
use Rattle.judged_programs.specs.Tidy.{Tidy}
use Rattle.judged_programs.proofs.Tidy.{Stays, s_next}
use Rattle.judged_programs.proofs.TypesTidy.{tidy_with_record, tidy_with_bases, there_with_one, adding_self, s_fields, s_more}
use Rattle.check_types.specs.Known.{known_of}
use Rattle.check_making.specs.declared.making.Declaring.{Declaring}
use Rattle.check_making.specs.declared.making.Surroundings.{Surroundings}
use Rattle.check_making.specs.Making.{Makes}
use Rattle.check_declared.specs.type_parts.Lengths.{lengths_part}
use Rattle.check_declared.specs.type_parts.Records.{begun_part, fields_of}

-- what is known of record types, in code
pub records_are : (r : Surroundings) (s : Declaring) (m : Making) → Makes r s m → records_of m ≡ (known_of s.types.table).records
records_are r s m makes = ap (λ (w : World). w.known.records) makes.world

-- ---- lengths

size_allowed : (n : ℤ) → is_length n ≡ true → is_length (pos (size_of n)) ≡ true
size_allowed (pos n) h = h
size_allowed (negsuc n) h = no h

abbrev IsAllowed : ℕ → Type 0
IsAllowed n = is_length (pos n) ≡ true

module _ (p : Source) (w : World) where
  length_allowed : (e : S.Expression) → Gives IsAllowed (array_length p e w)
  length_allowed e = and_then (anything (constant p w e)) (λ c h. by_some 31 (place p (expression_first e)) (int_only c) (λ n is.
      by_rule 35 (place p (expression_first e)) (is_length n) (λ ok. keeps IsAllowed (size_of n) (size_allowed n ok))))

  more_allowed : (es : S.NextExpressions) → Gives (Each IsAllowed) (array_lengths p es w)
  more_allowed S.no_expression = keeps (Each IsAllowed) [] tt
  more_allowed (S.next_expression i e es) = and_then (length_allowed e) (λ n h. and_then (more_allowed es) (λ ns k. keeps (Each IsAllowed) (n ∷ ns) (h, k)))

  pub lengths_allowed : (e : S.Expression) (es : S.NextExpressions) → Gives (Each IsAllowed) (lengths_part p e es w)
  lengths_allowed e es = and_then (length_allowed e) (λ n h. and_then (more_allowed es) (λ ns k. keeps (Each IsAllowed) (n ∷ ns) (h, k)))

-- ---- record types and pointer types that are begun

module _ (from : ℕ) (p : Source) (m : Making) where
  abbrev blank_record : Making
  blank_record = with_known (λ k. record k { records = k.records ++ no_layout ∷ [] }) m

  -- nothing is known of it, and its fields so far are none behind those of its base
  pub record IsBegunFrom (a : (ℕ × J.Layout) × Making) : Type 0 where
    pub blank : slice_get (records_of a.1) (a.0).0 ≡ Some no_layout
    pub base : J.Layout
    pub adding : IsAdding (records_of a.1) base (a.0).1
    pub tidy : Tidy from m → Tidy from a.1

  begun_by : (j : Judged J.Layout) → Gives IsBegunFrom ((j >>= λ l. Keeps (l, blank_record)) >>= λ (q : J.Layout × Making). Keeps ((length (records_of m), record q.0 { added = [] }), record q.1 { standing = [] }))
  begun_by (Keeps l) = keeps IsBegunFrom ((length (records_of m), record l { added = [] }), record blank_record { standing = [] }) (record {
    blank = get_last (records_of m) no_layout;
    base = l;
    adding = adding_self from p (records_of blank_record) l;
    tidy = λ tidy. tidy_with_record from m tidy;
  })
  begun_by (Breaks n at) = breaks IsBegunFrom n at

  pub begun_from : (b : Option Base) → Gives IsBegunFrom (begun_part p b m)
  begun_from b = begun_by (base_layout p b blank_record.world)

  pub pointer_from : Tidy from m → Gives (λ (a : ℕ × Making). Tidy from a.1) (new_pointer m)
  pointer_from tidy = keeps (λ (a : ℕ × Making). Tidy from a.1) _ (tidy_with_bases from m (bases_of m ++ None ∷ []) (there_with_one m tidy.targets) tidy)

-- all fields of a record type
pub fields_stay : (from : ℕ) (p : Source) (n : ℕ) (first : S.MaybeFields) (more : S.NextFields) (b g : J.Layout) (m : Making)
    → Gives (Stays from (IsAdding (records_of m) b g) (λ h t. IsAdding (records_of t) b h) m) (fields_of p n first more g m)
fields_stay from p n first more b g m = s_next (s_fields from p n b first g m (λ h. h)) (λ r. s_more from p n b more r.0 r.1 (λ before. before.1))

-- a record type of which nothing was known stays one
pub still_blank : {A : Type 0} (from : ℕ) (Before : Type 0) (Q : A → Making → Type 0) (m : Making) (z : A × Making) (n : ℕ) → Stays from Before Q m z → slice_get (records_of m) n ≡ Some no_layout → slice_get (records_of z.1) n ≡ Some no_layout
still_blank from Before Q m z n h blank = h.grown.records n (get_within (records_of m) n no_layout blank) ∙ blank
