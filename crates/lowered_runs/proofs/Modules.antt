-- What holds while a module's body runs: where the variables are, and what its code is.
use Rattle.std.proofs.Common.{◌≡◌, ℕ, zero, suc, ◌+◌, ◌*◌, ◌%◌, ◌/◌, ◌≤◌, ◌<◌, Bool, true, false, not, ◌&&◌, List, [], ◌∷◌, map, length, take, slice_get, refl, sym, ap, ap₂, ◌∙◌, subst, arith, Some, None, eq-eqb}
use Rattle.std.specs.Prelude.{◌-◌, ◌==◌, min, nat_lt, nat_le, slice_index_or, sum_by, flat_map, if◌then◌else◌}
use Rattle.std.proofs.lemmas.Bool.Decides.{nat_tests}
use Rattle.std.proofs.lemmas.List.{length-append}
use Rattle.a64_memory.specs.Areas.{data_base}
use Rattle.block_runs.specs.declared.end.End.TheVariants.{Return}
use Rattle.block_runs.specs.Blocks.{block_of}
use Rattle.block_runs.specs.Blocks.{procedure_of as coded}
use Rattle.block_runs.specs.Effects.{char_bytes}
use Rattle.block_runs.specs.Points.{AreCodePlaces}
use Rattle.ob_types.specs.Forms.{Small, Truth}
use Rattle.ob_types.specs.Layout.{record_of, cells_of_all}
use Rattle.ob_types.specs.Meaning.{procedure_of, globals_of, locals_of, texts_of}
use Rattle.ob_types.specs.Store.{Strings, Store}
use Rattle.ob_types.specs.Trees.{Scalar, Array, data_tree, fits_byte, scalar_bytes}
use Rattle.ob_types.specs.WellFormed.{declarations_fine}
use Rattle.ob_types.specs.declared.program.Module.{Module}
use Rattle.ob_types.specs.declared.program.Procedure.{Procedure as Declared}
use Rattle.ob_types.specs.declared.program.Program.{Program}
use Rattle.ob_types.proofs.Tests.{none_some, some_same, and_of}
use Rattle.ob_sound.proofs.Typed.{lt_of}
use Rattle.object_nodes.specs.Named.{global_trees, string_trees}
use Rattle.object_nodes.specs.Nodes.{VariableNode}
use Rattle.object_nodes.proofs.Meeting.{node_self}
use Rattle.ssa_core.specs.Procedures.{procedure, procedures}
use Rattle.ssa_lowered.specs.Constants.{ancestor, address_of, text_bytes}
use Rattle.ssa_lowered.specs.Data.{Layout, IsLayout, global_at, globals_room, descriptor_at, text_at, text_room, within}
use Rattle.ssa_lowered.specs.Pieces.{numbers}
use Rattle.ssa_lowered.specs.Variables.{words_of}
use Rattle.ssa_lowered.specs.Lowered.{procs_from, entry, made_of, proc_of}
use Rattle.held_stores.specs.First.{entry_from, descriptor_cell}
use Rattle.held_stores.proofs.Rooms.{text_within}
use Rattle.held_stores.proofs.Texts.{descriptors, length_descriptors, length_texts}
use Rattle.lowered_runs.specs.Words.{Whole, Level, Right, Apart, AddressIs}
use Rattle.lowered_runs.proofs.Ancestors.{level, level_most, extends_there, cell_at, tells}
use Rattle.lowered_runs.proofs.Extents.{cells_few, record_cells_few, record_there, target_there}
use Rattle.lowered_runs.proofs.Locals.{own_variable}
use Rattle.lowered_runs.proofs.Starting.{whole_of, body_level}
use Rattle.lowered_runs.specs.Claims.{ConstantsStandBy}
use Rattle.lowered_runs.proofs.Levels.{Variables, TellsExtensions}
use Rattle.lowered_runs.proofs.Calls.{Stacked}
use Rattle.lowered_runs.proofs.Activations.{DataPlaced}
use Rattle.lowered_runs.proofs.Callees.{first_block}
use Rattle.lowered_runs.proofs.Points.{procedure_at}

nothing_some : {A : Type 0} {x : A} → None ≡ Some x → ⊥
nothing_some e = cc

pub found : (qs : List Declared) (i : ℕ) (none : Declared) → i < length qs → slice_get qs i ≡ Some (slice_index_or qs i none)
found [] i none lt = absurd (omega (arith, lt))
found (q ∷ qs) zero none lt = refl
found (q ∷ qs) (suc i) none lt = found qs i none (omega (arith, lt))

-- as many procedures run as are declared
pub many : (p : Program) (l : Layout) (f : ℕ) (qs : List Declared) → length (procedures (procs_from p l f qs)) ≡ length qs
many p l f [] = refl
many p l f (q ∷ qs) = ap suc (many p l (suc f) qs)

-- what some trees of objects are
pub globals_are : (p : Program) (m : ℕ) → slice_index_or (global_trees p) (suc m) [] ≡ map (data_tree p.types) (globals_of p m)
unfolding global_trees
globals_are p m = in_modules p.modules m
  where
    in_modules : (ms : List Module) (m : ℕ) → slice_index_or (map (λ (m : Module). map (data_tree p.types) m.variables) ms) m [] ≡ map (data_tree p.types) (slice_index_or ms m (record { name = []; objects = []; variables = []; body = 0 })).variables
    in_modules [] m = refl
    in_modules (x ∷ ms) zero = refl
    in_modules (x ∷ ms) (suc m) = in_modules ms m

pub string_is : (p : Program) (o : ℕ) (xs : List ℕ) → slice_get (texts_of p.procedures) o ≡ Some xs → slice_index_or (string_trees p) o [] ≡ Array (suc (length xs)) (Scalar Small) ∷ []
unfolding string_trees
string_is p o xs at = in_texts (texts_of p.procedures) o at
  where
    in_texts : (ts : List (List ℕ)) (o : ℕ) → slice_get ts o ≡ Some xs → slice_index_or (map (λ (xs : List ℕ). Array (suc (length xs)) (Scalar Small) ∷ []) ts) o [] ≡ Array (suc (length xs)) (Scalar Small) ∷ []
    in_texts [] o at = none_some xs at
    in_texts (ys ∷ ts) zero at = ap (λ (ys : List ℕ). Array (suc (length ys)) (Scalar Small) ∷ []) (some_same ys xs at)
    in_texts (ys ∷ ts) (suc o) at = in_texts ts o at

pub done_is : (p : Program) → slice_index_or (global_trees p) 0 [] ≡ Scalar Truth ∷ []
unfolding global_trees
done_is p = refl

module _ (p : Program) (packed : Bool) (lay : Layout) (laid : IsLayout packed p.types lay) (character : lay.character ≡ char_bytes) (input : List ℕ) (code : ℕ → ℕ) (constants : List ℕ) (n : ℕ) (q j : ℕ) (s : Store) where
  abbrev w : Whole
  w = whole_of p packed lay input code constants n

  abbrev l : Level
  l = body_level p packed lay input q j s

  pub right_of_code : AreCodePlaces (length (procedures (procs_from p lay 0 p.procedures))) code → declarations_fine p ≡ true → Right w
  right_of_code are declared = record {
    laid = laid;
    character = character;
    codes = are;
    cells = cells_few p declared;
    record_cells = record_cells_few p declared;
    record_there = record_there p declared;
    target_there = target_there p declared;
    extension_there = extends_there p lay declared;
    callable = λ g h. let e = many p lay 0 p.procedures in let lt = lt_of p g (length p.procedures) (and_of _ _ h).0 in omega (arith, e, lt);
    may = λ g h xs long.
        let parts = and_of (nat_lt g (length p.procedures)) (not (procedure_of p g).is_body) h in
        let lt = lt_of p g (length p.procedures) parts.0 in
        let e = many p lay 0 p.procedures in
        let z : 0 + g ≡ g = omega arith in
        let is = procedure_at p lay 0 p.procedures g (procedure_of p g) (found p.procedures g _ lt) ∙ ap (λ i. procedure (proc_of p lay i (procedure_of p g))) z in
        let params = ap length (ap (λ x. (block_of x 0).params) is ∙ first_block (entry (words_of (procedure_of p g).formals)) [] (Return (made_of p lay g (procedure_of p g)).result) (made_of p lay g (procedure_of p g)).pieces) ∙ numbers_length 0 (min (words_of (procedure_of p g).formals) 4) in
        let counted = ap (λ x. x.counted) is ∙ parts.1 in
        all_hold (is_less g (length (procedures (procs_from p lay 0 p.procedures))) (omega (arith, e, lt))) counted (is_most (length (block_of (coded (procedures (procs_from p lay 0 p.procedures)) g) 0).params) (length xs) (omega (arith, params, long)));
  }
    where
      is_less : (a b : ℕ) → a < b → nat_lt a b ≡ true
      is_less a b h = grind (arith, nat_tests)

      is_most : (a b : ℕ) → a ≤ b → nat_le a b ≡ true
      is_most a b h = grind (arith, nat_tests)

      all_hold : {a b c : Bool} → a ≡ true → b ≡ true → c ≡ true → (a && (b && c)) ≡ true
      all_hold e f g = cc

      numbers_length : (i k : ℕ) → length (numbers i k) ≡ k
      numbers_length i zero = refl
      numbers_length i (suc k) = ap suc (numbers_length (suc i) k)

  pub apart_in_body : Apart w l
  apart_in_body = record { registers = λ x lt. absurd (omega (arith, lt)); scalars = λ x lt. absurd (omega (arith, lt)); cells = λ x y other lt. absurd (omega (arith, lt)) }

  none_taken : (x : ℕ) → 0 ≡ cells_of_all p.types (take x [])
  none_taken zero = refl
  none_taken (suc x) = refl

  within_is : (n : ℕ) → n ≤ 16777215 → within n ≡ n
  within_is n le = grind (arith, nat_tests)

  module _ (declared : declarations_fine p ≡ true) (standing : 0 < length p.types.records + length (texts_of p.procedures) → ConstantsStandBy p lay constants) where
    -- the constants' length
    long : 0 < length p.types.records + length (texts_of p.procedures) → length constants ≡ 128 * length p.types.records + sum_by (text_room lay) (texts_of p.procedures)
    long some =
        let a = ap (λ (bs : List ℕ). length bs) (standing some).same in
        let b = length-append (descriptors p lay data_base) (flat_map (text_bytes lay) (texts_of p.procedures)) in
        let c = length_descriptors p lay data_base in
        let d = length_texts lay (some_character packed laid.character) (texts_of p.procedures) in
        omega (arith, a, b, c, d)
      where
        some_character : (b : Bool) → lay.character ≡ scalar_bytes b → 1 ≤ lay.character
        some_character true e = omega (arith, e)
        some_character false e = omega (arith, e)

    got_below : {A : Type 0} (xs : List A) (i : ℕ) (x : A) → slice_get xs i ≡ Some x → 0 < length xs
    got_below [] i x e = none_some x e
    got_below (y ∷ xs) i x e = omega arith

    array_some : (b : Bool) (n : ℕ) → 1 ≤ suc n * scalar_bytes b
    array_some true n = omega arith
    array_some false n = omega arith

    text_placed : (l : Level) (o : ℕ) (xs : List ℕ) → slice_get (texts_of p.procedures) o ≡ Some xs → (s : Store) → AddressIs w l (record { area = Strings; object = o; cell = 0 }) (Array (suc (length xs)) (Scalar Small)) (data_base + within (text_at p lay o)) s
    text_placed l o xs at s =
        let some = got_below (texts_of p.procedures) o xs at in
        let many = long (omega (arith, some)) in
        let near = (standing (omega (arith, some))).near in
        let here = (text_within p packed lay laid o xs at).1 in
        let not_empty = array_some (packed && fits_byte Small) (length xs) in
        let place = within_is (text_at p lay o) (omega (arith, many, near, here, not_empty)) in
        record {
          variable = 0;
          byte = 0;
          from = data_base + text_at p lay o;
          node = subst (λ ts. VariableNode packed ts 0 0 0 (Array (suc (length xs)) (Scalar Small))) (sym (string_is p o xs at)) (node_self packed (Array (suc (length xs)) (Scalar Small)));
          begins = refl;
          is = omega (arith, place);
        }

    -- descriptors tell extensions
    told_by : TellsExtensions w
    told_by = record {
      by = λ t r there other.
          let many = long (omega (arith, there)) in
          let near = (standing (omega (arith, there))).near in
          let most = level_most p lay declared r other in
          let at = within_is (descriptor_at p lay t) (omega (arith, there, near, many)) in
          let to = within_is (descriptor_at p lay r) (omega (arith, other, near, many)) in
          record {
            cell = cell_at p lay declared data_base (level p lay declared r) t;
            there = ap (λ d. entry_from p lay (data_base + d + 8 * (record_of p.types r).level)) at ∙ entry_there t (record_of p.types r).level there most;
            tells = ap (λ a. cell_at p lay declared data_base (level p lay declared r) t == data_base + a) to ∙ tells p lay declared data_base t r (omega arith) there;
          };
    }
      where
        entry_there : (t k : ℕ) → t < length p.types.records → k ≤ 15 → entry_from p lay (data_base + descriptor_at p lay t + 8 * k) ≡ Some (address_of p lay data_base (ancestor p.types k t))
        entry_there t k lt le =
            let x = data_base + descriptor_at p lay t + 8 * k in
            let behind = data_base + globals_room p lay in
            let low : nat_le behind x ≡ true = is_most behind x (omega arith) in
            let high : nat_lt x (behind + 128 * length p.types.records) ≡ true = is_less x (behind + 128 * length p.types.records) (omega (arith, lt, le)) in
            let even : ((x - behind) % 8 == 0) ≡ true = eq-eqb ((x - behind) % 8) 0 (omega arith) in
            let level : (x - behind) / 8 % 16 ≡ k = omega (arith, le) in
            let type_number : (x - behind) / 8 / 16 ≡ t = omega (arith, le) in
            ap (λ a. if a && (nat_lt x (behind + 128 * length p.types.records) && ((x - behind) % 8 == 0)) then Some (descriptor_cell p lay ((x - behind) / 8)) else None) low
            ∙ ap₂ (λ b c. if b && c then Some (descriptor_cell p lay ((x - behind) / 8)) else None) high even
            ∙ ap₂ (λ a b. Some (address_of p lay data_base (ancestor p.types a b))) level type_number
          where
            is_less : (a b : ℕ) → a < b → nat_lt a b ≡ true
            is_less a b h = grind (arith, nat_tests)

            is_most : (a b : ℕ) → a ≤ b → nat_le a b ≡ true
            is_most a b h = grind (arith, nat_tests)

    pub data_placed : DataPlaced w
    data_placed = record {
      global = λ l m v k at t. record {
        variable = v;
        byte = 0;
        from = data_base + global_at p lay m v;
        node = subst (λ ts. VariableNode packed ts v (cells_of_all p.types (take v (globals_of p m))) 0 (data_tree p.types k)) (sym (globals_are p m)) (own_variable p packed (globals_of p m) v k at);
        begins = refl;
        is = omega arith;
      };
      descriptor = λ r. refl;
      tells = told_by;
      text = λ l o xs at t. text_placed l o xs at t;
      done = λ l t. record {
        variable = 0;
        byte = 0;
        from = data_base;
        node = subst (λ ts. VariableNode packed ts 0 0 0 (Scalar Truth)) (sym (done_is p)) (node_self packed (Scalar Truth));
        begins = refl;
        is = refl;
      };
    }

    pub variables_in_body : locals_of (procedure_of p q) ≡ [] → Variables w l
    variables_in_body none = record {
      cell = λ x. none_taken x ∙ ap (λ ls. cells_of_all p.types (take x ls)) (sym none);
      count = ap (λ ls. length ls) (sym none);
      local = λ x k at. absurd (nothing_some (ap (λ ls. slice_get ls x) (sym none) ∙ at));
      global = λ m v k at t. data_placed.global l m v k at t;
      descriptor = λ r. refl;
      tells = told_by;
      text = λ o xs at t. data_placed.text l o xs at t;
      types = sym none;
      done = λ t. data_placed.done l t;
    }

  pub stacked_body : Stacked l
  stacked_body = record { deep = omega arith; own = λ x lt. absurd (omega (arith, lt)); depth = refl }
