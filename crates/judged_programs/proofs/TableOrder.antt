-- No type of a program that the judgement gives is nested in itself.
use Rattle.std.proofs.Common.{◌≡◌, ℕ, suc, ◌+◌, ◌-◌, ◌<◌, ◌≤◌, List, [], ◌∷◌, length, Option, Some, None, refl, ap, sym, ◌∙◌, subst, arith, inl, inr}
use Rattle.std.specs.Prelude.{slice_get}
use Rattle.std.proofs.lemmas.List.{get_or_past}
use Rattle.ob_types.specs.declared.types.TypeKind.TheVariants as TheKind
use Rattle.ob_types.specs.declared.program.Program.{Program}
use Rattle.ob_types.specs.Layout.{kind_of, record_of, types_of}
use Rattle.ob_types.specs.Ranks.{Ranks}
use Rattle.ob_types.proofs.Tests.{some_same, less_or_past}
use Rattle.ob_judge.specs.Modules.{SoFar}
use Rattle.judged_tree.specs.TypeShapes.{shape_of}
use Rattle.judged_tree.specs.Tables.{HasPartsBefore}
use Rattle.judged_well.specs.OfProgram.{IsFaithful}
use Rattle.judged_well.proofs.Entries.{here, is_here}
use Rattle.judged_programs.specs.LegalTable.{IsLegalTable}
use Rattle.judged_programs.specs.Complete.{core}
use Rattle.judged_programs.proofs.Cores.{line_head}
use Rattle.judged_programs.proofs.Weights.{weight, weight_most, weight_more, weight_less, scaled, before_first}
use Rattle.judged_programs.proofs.Ends.{IsEndOf}
use Rattle.judged_programs.proofs.TableEnds.{IsRecordOf, record_at, record_there, based_there, fields_there, IsBehind, behind_base, field_before}

module _ (p : Program) (c : SoFar) (end : IsEndOf p c) (ok : IsFaithful p.types) (legal : IsLegalTable p.types) where
  abbrev many : ℕ
  many = length p.types.kinds

  -- by the record type that a type has by value
  abbrev core_rank : Option ℕ → ℕ
  core_rank None = 0
  core_rank (Some r) = suc (end.tidy.ranked.rank r)

  -- a record type's rank, and then the numbers of types
  abbrev kind_key : ℕ → ℕ
  kind_key k = scaled (suc many) (core_rank (core (shape_of p.types k))) + k

  abbrev record_key : ℕ → ℕ
  record_key r = scaled (suc many) (end.tidy.ranked.rank r) + many

  abbrev place : ℕ → ℕ
  place v = weight kind_key many v + weight record_key (length p.types.records) v

  kind_place : (k v : ℕ) → k < many → kind_key k < v → place (kind_key k) < place v
  kind_place k v l less =
      let a = weight_less kind_key many v k l less in
      let b = weight_more record_key (length p.types.records) (kind_key k) v (omega (arith, less)) in
      omega (arith, a, b)

  record_place : (r v : ℕ) → r < length p.types.records → record_key r < v → place (record_key r) < place v
  record_place r v l less =
      let a = weight_less record_key (length p.types.records) v r l less in
      let b = weight_more kind_key many (record_key r) v (omega (arith, less)) in
      omega (arith, a, b)

  place_most : (v : ℕ) → place v ≤ many + length p.types.records
  place_most v = let a = weight_most kind_key many v in let b = weight_most record_key (length p.types.records) v in omega (arith, a, b)

  -- a number that isn't in the table is of no kind that has parts
  kind_there : (k : ℕ) → (kind_of p.types k ≡ TheKind.Nothing → ⊥) → k < many
  kind_there k some = elim (less_or_past k many) as (λ _. k < many) [ inl l ↦ l | inr past ↦ absurd (some (get_or_past p.types.kinds k TheKind.Nothing past)) ]

  element_less : (k n e : ℕ) → kind_of p.types k ≡ TheKind.Array (Some n) e → place (kind_key e) < place (kind_key k)
  element_less k n e is =
      let l = kind_there k (λ z. absurd (let y = sym is ∙ z in cc)) in
      let before : e < k = subst (HasPartsBefore p.types k) is (ok.front.parts k l) in
      let shape : core (shape_of p.types k) ≡ core (shape_of p.types e) = ap core (is_here p.types ok k ∙ ap (here p.types ok k) is) in
      let same = ap (λ o. scaled (suc many) (core_rank o)) shape in
      kind_place e (kind_key k) (omega (arith, before, l)) (omega (arith, same, before))

  whole_less : (k r : ℕ) → kind_of p.types k ≡ TheKind.Record r → place (record_key r) < place (kind_key k)
  whole_less k r is =
      let shape : core (shape_of p.types k) ≡ Some r = ap core (is_here p.types ok k ∙ ap (here p.types ok k) is) in
      let same = ap (λ o. scaled (suc many) (core_rank o)) shape in
      let less = before_first (suc many) (end.tidy.ranked.rank r) (suc (end.tidy.ranked.rank r)) many k (omega arith) (omega arith) in
      record_place r (kind_key k) (legal.record_there k r is) (omega (arith, same, less))

  base_less : (r b : ℕ) → (record_of p.types r).base ≡ Some b → place (record_key b) < place (record_key r)
  base_less r b is =
      let l = based_there p c end r b is in
      let x = behind_base p c end r b l is in
      let y = record_at p c end r l in
      let ranks = by_line r b l x y in
      let less = before_first (suc many) (end.tidy.ranked.rank b) (end.tidy.ranked.rank r) many many ranks (omega arith) in
      record_place b (record_key r) (record_there p c end b x.upper x.there) less
    where
      by_line : (r b : ℕ) (l : r < length p.types.records) (x : IsBehind p c end r b) (y : IsRecordOf p c end r) → end.tidy.ranked.rank b < end.tidy.ranked.rank r
      by_line r b l x y = more x.upper.line refl
        where
          more : (zs : List ℕ) → x.upper.line ≡ zs → end.tidy.ranked.rank b < end.tidy.ranked.rank r
          more [] e = absurd (x.some e)
          more (z ∷ zs) e =
              let same : z ≡ b = line_head c.known.records b x.upper.line (end.tidy.lines b x.upper x.there) z zs e in
              subst (λ n. end.tidy.ranked.rank n < end.tidy.ranked.rank r) same ((end.tidy.ranked.each r y.layout y.there).base r z zs (x.line y ∙ ap (λ ns. r ∷ ns) e))

  field_less : (r i k : ℕ) → slice_get (types_of (record_of p.types r).fields) i ≡ Some k → place (kind_key k) < place (record_key r)
  field_less r i k at =
      let l = fields_there p c end r i k at in
      let f = field_before p c end r i k l at in
      let there = ok.field r i k at in
      kind_place k (record_key r) there (by (core (shape_of p.types k)) there (λ d is. (f.1).1 d (ap core f.2 ∙ is)))
    where
      by : (o : Option ℕ) → k < many → ((d : ℕ) → o ≡ Some d → end.tidy.ranked.rank d < end.tidy.ranked.rank r) → scaled (suc many) (core_rank o) + k < scaled (suc many) (end.tidy.ranked.rank r) + many
      by None there ranks = omega (arith, there)
      by (Some d) there ranks = split (suc (end.tidy.ranked.rank d)) (ranks d refl) there
        where
          split : (a : ℕ) → a ≤ end.tidy.ranked.rank r → k < many → scaled (suc many) a + k < scaled (suc many) (end.tidy.ranked.rank r) + many
          split a l there = elim (less_or_past a (end.tidy.ranked.rank r)) as (λ _. scaled (suc many) a + k < scaled (suc many) (end.tidy.ranked.rank r) + many) [
            | inl less ↦ before_first (suc many) a (end.tidy.ranked.rank r) k many less (omega (arith, there))
            | inr past ↦ (let e : a ≡ end.tidy.ranked.rank r = omega (arith, l, past) in let s = ap (scaled (suc many)) e in omega (arith, s, there))
          ]

  -- ---- levels

  pub level_behind : (r b : ℕ) → (record_of p.types r).base ≡ Some b → (record_of p.types r).level ≡ suc (record_of p.types b).level
  level_behind r b is =
      let l = based_there p c end r b is in
      let x = behind_base p c end r b l is in
      let y = record_at p c end r l in
      let up = record_at p c end b (record_there p c end b x.upper x.there) in
      let same = some_same up.layout x.upper (sym up.there ∙ x.there) in
      let a = ap (λ z. z.level) y.same in
      let e = ap length (x.line y) in
      let d = ap (λ z. z.level) up.same in
      let g = ap (λ z. length z.line) same in
      by x.upper.line x.some (omega (arith, a, e)) (omega (arith, d, g))
    where
      by : (zs : List ℕ) → (zs ≡ [] → ⊥) → (record_of p.types r).level ≡ length zs → (record_of p.types b).level ≡ length zs - 1 → (record_of p.types r).level ≡ suc (record_of p.types b).level
      by [] some i j = absurd (some refl)
      by (z ∷ zs) some i j = omega (arith, i, j)

  abbrev level_key : ℕ → ℕ
  level_key r = (record_of p.types r).level

  level_less : (r b : ℕ) → (record_of p.types r).base ≡ Some b → weight level_key (length p.types.records) (level_key b) < weight level_key (length p.types.records) (level_key r)
  level_less r b is =
      let l = based_there p c end r b is in
      let x = behind_base p c end r b l is in
      let e = level_behind r b is in
      weight_less level_key (length p.types.records) (level_key r) b (record_there p c end b x.upper x.there) (omega (arith, e))

  pub ranks : Ranks p.types
  ranks = record {
    of_kind = λ k. place (kind_key k);
    of_record = λ r. place (record_key r);
    level = λ r. weight level_key (length p.types.records) (level_key r);
    element = element_less;
    whole = whole_less;
    base = λ r b is. (base_less r b is, level_less r b is);
    field = field_less;
    kinds = λ k l. place_most (kind_key k);
    records = λ r l. (place_most (record_key r), weight_most level_key (length p.types.records) (level_key r));
  }
