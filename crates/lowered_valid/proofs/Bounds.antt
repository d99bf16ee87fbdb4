-- Numbers of a well-formed program within its limits are small enough for operations: levels, fields, local data, globals, argument words.
use Rattle.std.proofs.Common.{◌≡◌, ⊎_elim, ℕ, zero, suc, ◌+◌, ◌*◌, ◌<◌, ◌≤◌, List, [], ◌∷◌, map, take, length, sum, Bool, true, false, not, cond, ◌&&◌, refl, sym, ap, arith}
use Rattle.std.specs.Prelude.{if◌then◌else◌, nat_le, ◌==◌, slice_index_or, sum_by}
use Rattle.std.proofs.lemmas.Bool.{leb-true, cases_lt}
use Rattle.std.proofs.lemmas.List.{get_or_past}
use Rattle.std.proofs.lemmas.List.Sums.{sum_by-cons}
use Rattle.ob_types.specs.Forms.{all, all_below, if_base, nests, record_nests, rooted}
use Rattle.ob_types.specs.Layout.{no_record_type, kind_of, record_of, signature_of, types_of, base_cells, cells_by, cells_within, record_within, cells, cells_of_all, record_cells, field_place}
use Rattle.ob_types.specs.LegalTypes.{type_legal, record_legal, signature_legal, is_variable_type, is_record_type, most_cells}
use Rattle.ob_types.specs.Meaning.{procedure_of, no_procedure, locals_of}
use Rattle.ob_types.specs.WellFormed.{argument_words, level_fine, level_by, sizes_fine}
use Rattle.ob_types.specs.WellFormed
use Rattle.ob_types.specs.declared.types.Formal.{Formal}
use Rattle.ob_types.specs.declared.types.Mode.{Mode}
use Rattle.ob_types.specs.declared.types.Mode.TheVariants.{Place}
use Rattle.ob_types.specs.declared.types.Mode.TheVariants.{Value as AsValue, Record as AsRecord, Open as AsOpen}
use Rattle.ob_types.specs.declared.types.RecordType.{RecordType}
use Rattle.ob_types.specs.declared.types.Signature.{Signature}
use Rattle.ob_types.specs.declared.types.TypeKind.{TypeKind}
use Rattle.ob_types.specs.declared.types.TypeKind.TheVariants.{Array}
use Rattle.ob_types.specs.declared.types.TypeKind.TheVariants.{Record as RecordOf}
use Rattle.ob_types.specs.declared.program.Module.{Module}
use Rattle.ob_types.specs.declared.program.Procedure.{Procedure}
use Rattle.ob_types.specs.declared.program.Program.{Program}
use Rattle.ob_types.proofs.Counting.{record_stays}
use Rattle.ob_types.proofs.Tests.{no, and_of, below}
use Rattle.ob_types.proofs.WellFormedParts.{Parts, said}
use Rattle.ssa_lowered.specs.Data.{Layout, room, room_of_all, global_at}
use Rattle.ssa_lowered.specs.Limits.{global_cells}
use Rattle.ssa_lowered.specs.Pieces.{Mask, rest}
use Rattle.ssa_lowered.specs.Variables.{words_by, words_of, is_structured, structured_room, scalars_lent}
use Rattle.ssa_lowered.specs.Lowered.{here_of, lent_in_body}
use Rattle.lowered_valid.specs.Claims.{IsNarrow}
use Rattle.lowered_valid.proofs.FittingTree.{Numbers}

-- a test that all of a list meet, and what stands for the others
index_meets : {A : Type 0} (test : A → Bool) (d : A) → test d ≡ true → (xs : List A) → all test xs ≡ true → (i : ℕ) → test (slice_index_or xs i d) ≡ true
index_meets test d e [] h i = e
index_meets test d e (x ∷ xs) h zero = (and_of (test x) (all test xs) h).0
index_meets test d e (x ∷ xs) h (suc i) = index_meets test d e xs (and_of (test x) (all test xs) h).1 i

-- fewer are less
taken : (f : ℕ → ℕ) (ks : List ℕ) (n : ℕ) → sum (map f (take n ks)) ≤ sum (map f ks)
taken f [] zero = omega arith
taken f [] (suc n) = omega arith
taken f (k ∷ ks) zero = omega arith
taken f (k ∷ ks) (suc n) =
    let a = sum_by-cons (λ x. x) (f k) (map f ks) in
    let b = sum_by-cons (λ x. x) (f k) (map f (take n ks)) in
    let c = taken f ks n in
    omega (arith, a, b, c)

---- Argument words

words_alike : (m : Mode) → words_by m ≡ WellFormed.words_of m
words_alike AsValue = refl
words_alike Place = refl
words_alike AsRecord = refl
words_alike AsOpen = refl

pub words_same : (formals : List Formal) → words_of formals ≡ argument_words formals
words_same [] = refl
words_same (x ∷ xs) =
    let a = sum_by-cons (λ (x : Formal). words_by x.mode) x xs in
    let b = sum_by-cons (λ (x : Formal). WellFormed.words_of x.mode) x xs in
    let c = words_same xs in
    let d = words_alike x.mode in
    omega (arith, a, b, c, d)

module _ (p : Program) (parts : Parts p) where
  abbrev few_words : List Formal → Bool
  few_words formals = nat_le (argument_words formals) 24

  counted : (all_below (length p.types.records) (level_fine p) ≡ true) × (all_below (length p.types.records) (sizes_fine p) ≡ true) × (all (λ (g : Signature). few_words g.formals) p.types.signatures ≡ true) × (all (λ (q : Procedure). few_words q.formals) p.procedures ≡ true)
  counted =
      let levels = all_below (length p.types.records) (level_fine p) in
      let sizes = all_below (length p.types.records) (sizes_fine p) in
      let signatures = all (λ (g : Signature). few_words g.formals) p.types.signatures in
      let procedures = all (λ (q : Procedure). few_words q.formals) p.procedures in
      let a = and_of (levels && sizes) (signatures && procedures) parts.counts in
      let b = and_of levels sizes a.0 in
      let c = and_of signatures procedures a.1 in
      (b.0, b.1, c.0, c.1)

  pub procedure_words : (g : ℕ) → argument_words (procedure_of p g).formals ≤ 24
  procedure_words g = leb-true (argument_words (procedure_of p g).formals) 24 (index_meets (λ (q : Procedure). few_words q.formals) no_procedure refl p.procedures counted.3 g)

  pub signature_words : (k : ℕ) → argument_words (signature_of p.types k).formals ≤ 24
  signature_words k = leb-true (argument_words (signature_of p.types k).formals) 24 (index_meets (λ (g : Signature). few_words g.formals) (record { formals = []; result = 0 }) refl p.types.signatures counted.2 k)

  ---- Record types

  outside : (r : ℕ) → length p.types.records ≤ r → record_of p.types r ≡ no_record_type
  outside r l = get_or_past p.types.records r no_record_type l

  pub level_few : (r : ℕ) → (record_of p.types r).level < 16
  level_few r = ⊎_elim
      (λ (l : r < length p.types.records).
      let e = below (length p.types.records) (level_fine p) counted.0 r l in
      let d = leb-true (record_of p.types r).level 15 (and_of ((record_of p.types r).level == level_by p (record_of p.types r).base) (nat_le (record_of p.types r).level 15) e).1 in
      omega (arith, d))
      (λ (l : length p.types.records ≤ r). let e = ap (λ (q : RecordType). q.level) (outside r l) in omega (arith, e))
      (cases_lt r (length p.types.records))

  abbrev depth : ℕ
  depth = suc (length p.types.kinds + length p.types.records)

  nested : (r : ℕ) → r < length p.types.records → record_nests p.types depth r ≡ true
  nested r l =
      let kinds = all_below (length p.types.kinds) (nests p.types depth) in
      let records = all_below (length p.types.records) (record_nests p.types depth) in
      let roots = all_below (length p.types.records) (rooted p.types (suc (length p.types.records))) in
      below (length p.types.records) (record_nests p.types depth) (and_of records roots (and_of kinds (records && roots) parts.table).1).0 r l

  record_small : (r : ℕ) → r < length p.types.records → record_cells p.types r ≤ most_cells
  record_small r l =
      let types = all_below (length p.types.kinds) (type_legal p.types) in
      let records = all_below (length p.types.records) (record_legal p.types) in
      let rest = all (signature_legal p.types) p.types.signatures in
      let legal = below (length p.types.records) (record_legal p.types) (and_of records rest (and_of types (records && rest) parts.legal).1).0 r l in
      let few = leb-true (record_of p.types r).cells most_cells (and_of (nat_le (record_of p.types r).cells most_cells) (if_base (record_of p.types r).base (is_record_type p.types) && all (is_variable_type p.types) (types_of (record_of p.types r).fields)) legal).0 in
      let same = (said p r (below (length p.types.records) (sizes_fine p) counted.1 r l)).0 in
      omega (arith, few, same)

  field_few : (r k : ℕ) → field_place p.types r k ≤ most_cells
  field_few r k = ⊎_elim
      (λ (l : r < length p.types.records).
      let e = record_stays p.types depth r (nested r l) in
      let a = record_small r l in
      let b = taken (cells p.types) (types_of (record_of p.types r).fields) k in
      omega (arith, e, a, b))
      (λ (l : length p.types.records ≤ r).
      let e = ap (λ (q : RecordType). base_cells q.base (record_cells p.types) + cells_of_all p.types (take k (types_of q.fields))) (outside r l) in
      let b = taken (cells p.types) [] k in
      omega (arith, e, b))
      (cases_lt r (length p.types.records))

  ---- Room, where nothing takes more than eight bytes a cell

  module _ (lay : Layout) (narrow : IsNarrow p.types lay) where
    room_few : (k : ℕ) → room lay k ≤ 8 * cells p.types k
    room_few k = let a = narrow.types k in omega (arith, a)

    rooms_few : (ks : List ℕ) → room_of_all lay ks ≤ 8 * cells_of_all p.types ks
    rooms_few [] = omega arith
    rooms_few (k ∷ ks) =
        let a = sum_by-cons (λ x. x) (room lay k) (map (room lay) ks) in
        let b = sum_by-cons (λ x. x) (cells p.types k) (map (cells p.types) ks) in
        let c = rooms_few ks in
        let d = room_few k in
        omega (arith, a, b, c, d)

    -- local data
    scalar_cell : (f w : ℕ → ℕ) (kind : TypeKind) → is_structured kind ≡ false → cells_by f w kind ≡ 1
    scalar_cell f w (Array n e) h = no (sym h)
    scalar_cell f w (RecordOf r) h = no (sym h)
    scalar_cell f w _ h = refl

    one_local : (k : ℕ) (lent b : Bool) → is_structured (kind_of p.types k) ≡ b → (if b then room lay k else 0) + 8 * cond (lent && not b) 1 0 ≤ 8 * cells p.types k
    one_local k true true e = let d = room_few k in omega (arith, d)
    one_local k false true e = let d = room_few k in omega (arith, d)
    one_local k true false e = let d = scalar_cell (cells_within p.types (length p.types.kinds + length p.types.records)) (record_within p.types (length p.types.kinds + length p.types.records)) (kind_of p.types k) e in omega (arith, d)
    one_local k false false e = omega arith

    locals_within : (lent : Mask) (ks : List ℕ) → structured_room p.types lay ks + 8 * scalars_lent p.types lay lent ks ≤ 8 * cells_of_all p.types ks
    locals_within lent [] = omega arith
    locals_within lent (k ∷ ks) =
        let s = is_structured (kind_of p.types k) in
        let a = sum_by-cons (λ k. if is_structured (kind_of p.types k) then room lay k else 0) k ks in
        let b = sum_by-cons (λ x. x) (cells p.types k) (map (cells p.types) ks) in
        let c = locals_within (rest lent) ks in
        let d = one_local k (lent 0) s refl in
        omega (arith, a, b, c, d)

    -- globals
    abbrev module_room : Module → ℕ
    module_room x = room_of_all lay x.variables

    abbrev module_cells : Module → ℕ
    module_cells x = cells_of_all p.types x.variables

    abbrev no_module : Module
    no_module = record { name = []; objects = []; variables = []; body = 0 }

    modules_within : (ms : List Module) (m v : ℕ) → sum_by module_room (take m ms) + room_of_all lay (take v (slice_index_or ms m no_module).variables) ≤ sum_by module_room ms
    modules_within [] zero v = let a = taken (room lay) [] v in omega (arith, a)
    modules_within [] (suc m) v = let a = taken (room lay) [] v in omega (arith, a)
    modules_within (x ∷ ms) zero v = let a = taken (room lay) x.variables v in let b = sum_by-cons module_room x ms in omega (arith, a, b)
    modules_within (x ∷ ms) (suc m) v =
        let a = sum_by-cons module_room x ms in
        let b = sum_by-cons module_room x (take m ms) in
        let c = modules_within ms m v in
        omega (arith, a, b, c)

    modules_few : (ms : List Module) → sum_by module_room ms ≤ 8 * sum_by module_cells ms
    modules_few [] = omega arith
    modules_few (x ∷ ms) =
        let a = sum_by-cons module_room x ms in
        let b = sum_by-cons module_cells x ms in
        let c = modules_few ms in
        let d = rooms_few x.variables in
        omega (arith, a, b, c, d)

    global_near : global_cells p ≤ 1048576 → (m v : ℕ) → global_at p lay m v < 16777216
    global_near few m v = let a = modules_within p.modules m v in let b = modules_few p.modules in omega (arith, few, a, b)

    -- all of them
    pub numbers : global_cells p ≤ 1048576 → (f : ℕ) (q : Procedure) → cells_of_all p.types (locals_of q) ≤ 1048576 → Numbers p lay (here_of p lay f q)
    numbers globals f q locals = record {
      level_few = level_few;
      global_near = global_near globals;
      frame_small = let a = locals_within (lent_in_body q) (locals_of q) in omega (arith, a, locals);
      field_near = λ r k. let a = field_few r k in let b = narrow.fields r k in omega (arith, a, b);
      procedure_words = procedure_words;
      signature_words = signature_words;
    }
